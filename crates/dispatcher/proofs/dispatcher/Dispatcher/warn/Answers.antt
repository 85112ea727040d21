use Rattle.std.proofs.Common.{not, ap, rules}
use Rattle.messages.specs.declared.refusal.Refusal.TheVariants.{Shut, TooManyServices}
use Rattle.dispatcher.specs.declared.call.Call.TheVariants.{Warn}
use Rattle.dispatcher.specs.Views.{view}
use Rattle.dispatcher.proofs.Calling.{here, refuse}
use Rattle.dispatcher.proofs.Opened.{found, opened, refuses_shut}
use Rattle.dispatcher.proofs.RealRuns.{lawful}
use Rattle.dispatcher.proofs.Foreseeing.{warns}
use Rattle.dispatcher.proofs.dispatcher.Dispatcher.warn.Goals as goal

pub returns-in_err-ring-clause-lawful : goal.returns-in_err-ring-clause-lawful
returns-in_err-ring-clause-lawful g c =
    refuses_shut c.args.self.now (Warn c.args.services) _ c.from_residual.result _ _ c.ok_or.ensures.ok_part c.in_err-ring.was (search rules) (λ b s o. here _ Shut _ (ap not o))

pub returns-then-services-gt-MOST_SERVICES-clause-lawful : goal.returns-then-services-gt-MOST_SERVICES-clause-lawful
returns-then-services-gt-MOST_SERVICES-clause-lawful g c =
    let d = c.args.self.now in
    let some = found d _ _ c.ok_or.ensures.ok_part c.in_ok-ring.was in
    let o = opened d _ some in
    lawful d d (Warn c.args.services) _ (λ b s w. refuse b (view d) s (Warn c.args.services) w TooManyServices (search rules))

pub returns-clause-lawful : goal.returns-clause-lawful
returns-clause-lawful g c =
    let d = c.args.self.now in
    let some = found d _ _ c.ok_or.ensures.ok_part c.in_ok-ring.was in
    let o = opened d _ some in
    lawful d d (Warn c.args.services) _ (λ b s w. warns b (view d) s w o c.args.services _ c.if-services-gt-MOST_SERVICES.false (c.foresee.ensures b s w o))
