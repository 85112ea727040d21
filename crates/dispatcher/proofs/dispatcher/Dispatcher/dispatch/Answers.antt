use Rattle.std.proofs.Common.{◌≡◌, ◌+◌, Some, not, ap, subst, arith, rules}
use Rattle.messages.specs.declared.refusal.Refusal.TheVariants.{Shut}
use Rattle.dispatcher.specs.declared.call.Call.TheVariants.{Dispatch}
use Rattle.dispatcher.specs.Views.{view}
use Rattle.dispatcher.proofs.Calling.{here}
use Rattle.dispatcher.proofs.Opened.{found, opened, refuses_shut, span_is, taken}
use Rattle.dispatcher.proofs.RealRuns.{lawful}
use Rattle.std.specs.Prelude.{[]}
use Rattle.dispatcher.specs.Search.{FirstHeld, tray_ahead}
use Rattle.dispatcher.proofs.Dispatching.{dispatches_any, dispatches_none}
use Rattle.dispatcher.proofs.dispatcher.Dispatcher.dispatch.Goals as goal

pub returns-in_err-ring-clause-lawful : goal.returns-in_err-ring-clause-lawful
returns-in_err-ring-clause-lawful g c =
    refuses_shut c.args.self.now Dispatch _ c.from_residual.result _ _ c.ok_or.ensures.ok_part c.in_err-ring.was (search rules) (λ b s o. here _ Shut _ (ap not o))

pub returns-in_default-clause-lawful : goal.returns-in_default-clause-lawful
returns-in_default-clause-lawful g c =
    let d = c.args.self.now in
    let some = found d _ _ c.ok_or.ensures.ok_part c.in_ok-ring.was in
    let span = span_is d _ some in
    lawful d d Dispatch _ (λ b s w. dispatches_none b (view d) s w (opened d _ some) (λ f low high. subst (λ N. tray_ahead (view d).trays N d.cycle f ≡ []) span (c.in_default.ensures f low (omega arith))))

pub returns-clause-lawful : goal.returns-clause-lawful
returns-clause-lawful g c =
    let d = c.args.self.now in
    let some = found d _ _ c.ok_or.ensures.ok_part c.in_ok-ring.was in
    let take = taken d _ (d.cycle + c.in-Some.ahead) c.take_due.result some c.take_due.ensures.takes in
    let held = subst (λ N. FirstHeld (view d).trays N d.cycle (Some c.in-Some.ahead)) (span_is d _ some) c.in-Some.ensures in
    lawful d _ Dispatch _ (λ b s w. dispatches_any b (view d) s w (opened d _ some) c.take_due.result c.in-Some.ahead _ _ _ _ held take.answer take.left take.limits.0 take.limits.1 (λ l. omega arith) c.take_due.ensures.due)
