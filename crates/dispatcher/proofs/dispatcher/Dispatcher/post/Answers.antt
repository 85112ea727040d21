use Rattle.std.proofs.Common.{◌≡◌, ◌+◌, ◌<◌, ◌⊎◌, Ok, Err, not, sym, ap, ◌∙◌, subst, inl, inr, arith, rules}
use Rattle.banks.specs.Trays.{Puts}
use Rattle.banks.specs.declared.cell.Cell.{Cell}
use Rattle.messages.specs.declared.refusal.Refusal.TheVariants.{Full, Shut}
use Rattle.dispatcher.specs.declared.call.Call.TheVariants.{Post}
use Rattle.dispatcher.specs.declared.event.Event.TheVariants.{Posted}
use Rattle.dispatcher.specs.Answers.{answered, entered}
use Rattle.dispatcher.specs.Machine.{step}
use Rattle.dispatcher.specs.Shown.{Shows}
use Rattle.dispatcher.specs.Views.{view}
use Rattle.dispatcher.specs.WholeRuns.{LawfulCall}
use Rattle.dispatcher.proofs.Calling.{here, post_full, post_used_up, post_wrong, posts}
use Rattle.dispatcher.proofs.Keeps.{inside}
use Rattle.dispatcher.proofs.Opened.{found, opened, refuses_shut, span_is, tray_is}
use Rattle.dispatcher.proofs.Putting.{put_full, put_placed, put_refused}
use Rattle.dispatcher.proofs.RealRuns.{lawful}
use Rattle.dispatcher.proofs.SameBank.{same_bank}
use Rattle.dispatcher.proofs.dispatcher.Dispatcher.post.Goals as goal
use Rattle.dispatcher.proofs.dispatcher.Dispatcher.post.Goals.{then-interval-eq0-via-then-interval-eq0, then-interval-eq0-via-else-interval-eq0+then-from-span}

pub returns-in_err-ring-clause-lawful : goal.returns-in_err-ring-clause-lawful
returns-in_err-ring-clause-lawful g c =
    refuses_shut c.args.self.now (Post c.args.message) _ c.from_residual.result _ _ c.ok_or.ensures.ok_part c.in_err-ring.was (search rules) (λ b s o. here _ Shut _ (ap not o))

pub returns-then-interval-eq0-clause-lawful : goal.returns-then-interval-eq0-clause-lawful
returns-then-interval-eq0-clause-lawful g c =
    let d = c.args.self.now in
    let some = found d _ _ c.ok_or.ensures.ok_part c.in_ok-ring.was in
    let span = span_is d _ some in
    let wrong : (c.interval-interval.result ≡ 0) ⊎ ((view d).span < c.interval-interval.result) =
    elim c.then-interval-eq0.branch [
      | then-interval-eq0-via-then-interval-eq0 w ↦ inl w.if-interval-eq0.true
      | then-interval-eq0-via-else-interval-eq0+then-from-span w ↦ inr (let e = w.span.ensures.span in let j = w.from.ensures in let l = w.if-from-span.true in omega arith)
    ] in
    lawful d d (Post c.args.message) _ (λ b s w. post_wrong b (view d) s w c.args.message c.interval-interval.result (opened d _ some) (sym c.interval-interval.ensures) wrong)

pub returns-then-self-ge-LIMIT-clause-lawful : goal.returns-then-self-ge-LIMIT-clause-lawful
returns-then-self-ge-LIMIT-clause-lawful g c =
    let d = c.args.self.now in
    let some = found d _ _ c.ok_or.ensures.ok_part c.in_ok-ring.was in
    let span = span_is d _ some in
    lawful d d (Post c.args.message) _ (λ b s w. post_used_up b (view d) s w c.args.message c.interval-interval.result (opened d _ some) (sym c.interval-interval.ensures) (omega arith) (omega arith) c.if-self-ge-LIMIT.true)

-- the bank was asked for the tray of the deadline, and refused
pub returns-in_err-put-clause-lawful : goal.returns-in_err-put-clause-lawful
returns-in_err-put-clause-lawful g c =
    let d = c.args.self.now in
    let i = c.from-2.result in
    let told = c.from-2.ensures ∙ c.interval-interval.ensures in
    let some = found d _ _ c.ok_or.ensures.ok_part c.in_ok-ring.was in
    let span = span_is d _ some in
    let tray = c.tray_of.ensures ∙ tray_is d _ (d.cycle + i) some in
    let cell : Cell g.row.B-Item.Denot = record { receipt = d.receipt; message = c.args.message } in
    let put = subst (λ k. Puts g.B.Trays.trays g.B.Trays.tray_limit g.B.Trays.total_limit d.bank c.put.new.self k cell (Err c.in_err-put.field-0.0)) tray c.in_err-put.ensures in
    let same = put_refused g.B.Trays.trays g.B.Trays.tray_limit g.B.Trays.total_limit d.bank c.put.new.self _ cell _ put in
    subst (λ x. LawfulCall d x (Post c.args.message) (answered (Post c.args.message) (λ p. Posted (entered p c.args.message)) c.from_residual-in_err-put.result)) (sym (same_bank d c.put.new.self _ _ same))
    (lawful d d (Post c.args.message) _ (λ b s w.
    let k = inside (w.agrees.running (opened d _ some)) (d.cycle + i) in
    let full = put_full g.B.Trays.trays g.B.Trays.tray_limit g.B.Trays.total_limit d.bank c.put.new.self _ cell _ put k in
    let r : c.from_residual-in_err-put.result ≡ Err Full = let e = (put.full k full).0 in search rules in
    subst (λ x. ((step b s (Post c.args.message)).0 ≡ answered (Post c.args.message) (λ p. Posted (entered p c.args.message)) x) × Shows b (view d) (step b s (Post c.args.message)).1) (sym r)
    (post_full b (view d) s w c.args.message i (opened d _ some) (sym told) (omega arith) (omega arith) c.if-self-ge-LIMIT.false full)))

pub returns-in_err-put-clause-same : goal.returns-in_err-put-clause-same
returns-in_err-put-clause-same g c =
    let d = c.args.self.now in
    let same = put_refused g.B.Trays.trays g.B.Trays.tray_limit g.B.Trays.total_limit d.bank c.put.new.self _ _ _ c.in_err-put.ensures in
    λ f. same_bank d _ _ _ same

pub returns-clause-lawful : goal.returns-clause-lawful
returns-clause-lawful g c =
    let d = c.args.self.now in
    let i = c.from-2.result in
    let told = c.from-2.ensures ∙ c.interval-interval.ensures in
    let some = found d _ _ c.ok_or.ensures.ok_part c.in_ok-ring.was in
    let span = span_is d _ some in
    let tray = c.tray_of.ensures ∙ tray_is d _ (d.cycle + i) some in
    let cell : Cell g.row.B-Item.Denot = record { receipt = d.receipt; message = c.args.message } in
    let put = subst (λ k. Puts g.B.Trays.trays g.B.Trays.tray_limit g.B.Trays.total_limit d.bank c.put.new.self k cell (Ok c.in_ok-put.field-0)) tray c.in_ok-put.ensures in
    let o = opened d _ some in
    lawful d _ (Post c.args.message) _ (λ b s w.
    let p = put_placed g.B.Trays.trays g.B.Trays.tray_limit g.B.Trays.total_limit d.bank c.put.new.self _ cell _ put (inside (w.agrees.running o) (d.cycle + i)) in
    posts b (view d) s w c.args.message i _ _ _ c.saturating_add-self.result o (sym told) (omega arith) (omega arith) c.if-self-ge-LIMIT.false p.0.0 p.0.1 p.1 put.limits.0 put.limits.1 (λ l. omega arith))
