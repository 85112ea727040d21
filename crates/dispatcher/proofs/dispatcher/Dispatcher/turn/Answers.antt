use Rattle.std.proofs.Common.{not, length, refl, ap, ◌∙◌, arith, rules}
use Rattle.messages.specs.declared.refusal.Refusal.TheVariants.{Shut}
use Rattle.dispatcher.specs.declared.call.Call.TheVariants.{Turn}
use Rattle.dispatcher.specs.Views.{view}
use Rattle.dispatcher.proofs.Calling.{here}
use Rattle.dispatcher.proofs.Opened.{found, opened, refuses_shut, tray_is}
use Rattle.dispatcher.proofs.RealRuns.{lawful}
use Rattle.banks.specs.Trays.{tray_at}
use Rattle.dispatcher.proofs.SameBank.{same_bank}
use Rattle.dispatcher.proofs.Turning.{turn_waiting, turn_not_next, turn_last, turns}
use Rattle.dispatcher.proofs.dispatcher.Dispatcher.turn.Goals as goal

pub returns-in_err-ring-clause-lawful : goal.returns-in_err-ring-clause-lawful
returns-in_err-ring-clause-lawful g c =
    refuses_shut c.args.self.now (Turn c.args.cycle) _ c.from_residual.result _ _ c.ok_or.ensures.ok_part c.in_err-ring.was (search rules) (λ b s o. here _ Shut _ (ap not o))

pub returns-then-count-gt0-clause-lawful : goal.returns-then-count-gt0-clause-lawful
returns-then-count-gt0-clause-lawful g c =
    let d = c.args.self.now in
    let some = found d _ _ c.ok_or.ensures.ok_part c.in_ok-ring.was in
    let waits = c.count.ensures ∙ ap (λ k. length (tray_at (view d).trays k)) (c.tray_of.ensures ∙ tray_is d _ d.cycle some) in
    lawful d _ (Turn c.args.cycle) _ (λ b s w. turn_waiting b (view d) s w (opened d _ some) c.args.cycle (omega arith))

pub returns-then-count-gt0-clause-same : goal.returns-then-count-gt0-clause-same
returns-then-count-gt0-clause-same g c = λ f. same_bank c.args.self.now c.args.self.now.bank _ _ refl

pub returns-then-cycle-self-clause-lawful : goal.returns-then-cycle-self-clause-lawful
returns-then-cycle-self-clause-lawful g c =
    let d = c.args.self.now in
    let some = found d _ _ c.ok_or.ensures.ok_part c.in_ok-ring.was in
    let waits = c.count.ensures ∙ ap (λ k. length (tray_at (view d).trays k)) (c.tray_of.ensures ∙ tray_is d _ d.cycle some) in
    lawful d _ (Turn c.args.cycle) _ (λ b s w. turn_not_next b (view d) s w (opened d _ some) c.args.cycle (omega arith) c.if-cycle-self.true)

pub returns-then-cycle-self-clause-same : goal.returns-then-cycle-self-clause-same
returns-then-cycle-self-clause-same g c = λ f. same_bank c.args.self.now c.args.self.now.bank _ _ refl

pub returns-then-cycle-gt-LIMIT-clause-lawful : goal.returns-then-cycle-gt-LIMIT-clause-lawful
returns-then-cycle-gt-LIMIT-clause-lawful g c =
    let d = c.args.self.now in
    let some = found d _ _ c.ok_or.ensures.ok_part c.in_ok-ring.was in
    let waits = c.count.ensures ∙ ap (λ k. length (tray_at (view d).trays k)) (c.tray_of.ensures ∙ tray_is d _ d.cycle some) in
    lawful d _ (Turn c.args.cycle) _ (λ b s w. turn_last b (view d) s w (opened d _ some) c.args.cycle (omega arith) c.if-cycle-self.false c.if-cycle-gt-LIMIT.true)

pub returns-then-cycle-gt-LIMIT-clause-same : goal.returns-then-cycle-gt-LIMIT-clause-same
returns-then-cycle-gt-LIMIT-clause-same g c = λ f. same_bank c.args.self.now c.args.self.now.bank _ _ refl

pub returns-clause-lawful : goal.returns-clause-lawful
returns-clause-lawful g c =
    let d = c.args.self.now in
    let some = found d _ _ c.ok_or.ensures.ok_part c.in_ok-ring.was in
    let waits = c.count.ensures ∙ ap (λ k. length (tray_at (view d).trays k)) (c.tray_of.ensures ∙ tray_is d _ d.cycle some) in
    let late = c.count-late.ensures ∙ ap (λ k. length (tray_at (view d).trays k)) (c.tray_of-2.ensures ∙ tray_is d _ c.args.cycle some) in
    lawful d _ (Turn c.args.cycle) _ (λ b s w. turns b (view d) s w (opened d _ some) c.args.cycle c.count-late.result _ (omega arith) c.if-cycle-self.false c.if-cycle-gt-LIMIT.false late (λ l. omega arith))
