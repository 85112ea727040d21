use Rattle.std.proofs.Common.{◌≡◌, ◌+◌, [], ◌∷◌, ◌++◌, take, sym, refl, ap, ◌∙◌, subst, rules}
use Rattle.std.proofs.lemmas.List.{take_more}
use Rattle.std.proofs.lemmas.Option.{slice_get_read}
use Rattle.phases.specs.Rounds.{DrivesRound}
use Rattle.phases.specs.declared.stop.Stop.{Stop}
use Rattle.phases.proofs.ManyRounds.{SoFar, all_made, none_made, one_more_made, stopped}
use Rattle.phases.proofs.Results.{err_is, mapped_err, mapped_ok}
use Rattle.phases.proofs.drive.drive.Goals as goal

pub loop-round-init : goal.loop-round-init
loop-round-init g c = none_made

pub returns-in_err-report : goal.returns-in_err-report
returns-in_err-report g c =
    let l = c.loop-round in
    let rounds = c.args.rounds.now in
    let round = c.index-rounds-round in
    let s = c.in_err-report.field-0.0 in
    let m = mapped_err (λ held. s ≡ record { round = l.round-counter; held = held }) _ c.drive_round.result s (λ held k. search rules) c.in_err-report.ensures.cases in
    rw (err_is c.from_residual.result s c.from_residual.ensures.1, m.2)
    (stopped l.invariant refl c.loop-round-test.true (slice_get_read rounds _ l.round-counter round.result refl c.loop-round-test.true round.is)
    (subst (DrivesRound l.report l.dispatcher c.drive_round.new.dispatcher round.result) m.1 c.drive_round.ensures))

pub loop-round-preserved : goal.loop-round-preserved
loop-round-preserved g c =
    let l = c.loop-round in
    let i = l.round-counter in
    let rounds = c.args.rounds.now in
    let round = c.index-rounds-round.result in
    let more : take (i + 1) rounds ≡ take i rounds ++ round ∷ [] =
    take_more rounds i round c.loop-round-test.true ∙ ap (λ x. take i rounds ++ x ∷ []) (sym c.index-rounds-round.is) in
    let driven = subst (DrivesRound l.report l.dispatcher c.drive_round.new.dispatcher round) (mapped_ok Stop c.drive_round.result c.in_ok-report.report c.in_ok-report.ensures.cases) c.drive_round.ensures in
    subst (λ done. SoFar c.args.report c.args.dispatcher.now c.drive_round.new.dispatcher c.in_ok-report.report done (i + 1)) (sym more) (one_more_made l.invariant driven)

pub returns : goal.returns
returns g c = all_made c.loop-round-test.false c.loop-round.invariant
