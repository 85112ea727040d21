use Rattle.std.proofs.Common.{◌≡◌, Some, not, ap, ◌∙◌, rules}
use Rattle.messages.specs.declared.refusal.Refusal.TheVariants.{OutOfPhase, Shut}
use Rattle.dispatcher.specs.declared.call.Call.TheVariants.{Begin}
use Rattle.dispatcher.specs.Views.{view}
use Rattle.dispatcher.proofs.Calling.{here, refuse, skip}
use Rattle.dispatcher.proofs.Opened.{found, opened, refuses_shut}
use Rattle.dispatcher.proofs.RealRuns.{lawful}
use Rattle.dispatcher.proofs.Turning.{begins}
use Rattle.dispatcher.proofs.dispatcher.Dispatcher.begin.Goals as goal

pub returns-in_err-ok_or-clause-lawful : goal.returns-in_err-ok_or-clause-lawful
returns-in_err-ok_or-clause-lawful g c =
    refuses_shut c.args.self.now Begin _ c.from_residual.result _ _ c.ok_or.ensures.ok_part c.in_err-ok_or.was (search rules) (λ b s o. here _ Shut _ (ap not o))

pub returns-then-self-clause-lawful : goal.returns-then-self-clause-lawful
returns-then-self-clause-lawful g c =
    let d = c.args.self.now in
    let some : d.ring ≡ Some c.in_ok-ok_or.field-0 = found d _ _ c.ok_or.ensures.ok_part c.in_ok-ok_or.was in
    lawful d d Begin _ (λ b s w. refuse b _ s Begin w OutOfPhase (skip _ Shut _ (ap not (opened d _ some)) ∙ here _ OutOfPhase _ c.if-self.true))

pub returns-clause-lawful : goal.returns-clause-lawful
returns-clause-lawful g c =
    let d = c.args.self.now in
    let some : d.ring ≡ Some c.in_ok-ok_or.field-0 = found d _ _ c.ok_or.ensures.ok_part c.in_ok-ok_or.was in
    lawful d _ Begin _ (λ b s w. begins b (view d) s w (opened d _ some) c.if-self.false)
