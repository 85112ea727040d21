use Rattle.std.proofs.Common.{not, ap, rules}
use Rattle.messages.specs.declared.refusal.Refusal.TheVariants.{Shut}
use Rattle.dispatcher.specs.declared.call.Call.TheVariants.{Name}
use Rattle.dispatcher.specs.Views.{view}
use Rattle.dispatcher.proofs.Calling.{here}
use Rattle.dispatcher.proofs.Dispatching.{names_any}
use Rattle.dispatcher.proofs.Opened.{found, opened, refuses_shut, taken}
use Rattle.dispatcher.proofs.RealRuns.{lawful}
use Rattle.dispatcher.proofs.dispatcher.Dispatcher.name.Goals as goal

pub returns-in_err-ring-clause-lawful : goal.returns-in_err-ring-clause-lawful
returns-in_err-ring-clause-lawful g c =
    refuses_shut c.args.self.now Name _ c.from_residual.result _ _ c.ok_or.ensures.ok_part c.in_err-ring.was (search rules) (λ b s o. here _ Shut _ (ap not o))

pub returns-clause-lawful : goal.returns-clause-lawful
returns-clause-lawful g c =
    let d = c.args.self.now in
    let some = found d _ _ c.ok_or.ensures.ok_part c.in_ok-ring.was in
    let take = taken d _ d.cycle c.take_due.result some c.take_due.ensures.takes in
    lawful d _ Name _ (λ b s w. names_any b (view d) s w (opened d _ some) c.take_due.result _ _ _ take.answer take.left take.limits.0 take.limits.1 c.take_due.ensures.due)
