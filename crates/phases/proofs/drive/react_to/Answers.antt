use Rattle.std.proofs.Common.{◌≡◌, [], ◌∷◌, replicate, sym, refl, ◌∙◌, subst, arith}
use Rattle.std.proofs.lemmas.List.{replicate_more}
use Rattle.dispatcher.specs.declared.call.Call.TheVariants.{Dispatch, Warn}
use Rattle.dispatcher.specs.declared.event.Event.TheVariants.{Dispatched}
use Rattle.phases.specs.Calls.{Called}
use Rattle.phases.specs.Rounds.{CallsThrough}
use Rattle.phases.proofs.Through.{dispatch_count, join_through, keeps_dispatch, keeps_warn, none_through, one_quiet, one_through}
use Rattle.phases.proofs.drive.react_to.Goals as goal

pub loop-init : goal.loop-init
loop-init g c = (refl, none_through c.react-react.ensures.1)

pub loop-preserved : goal.loop-preserved
loop-preserved g c =
    let l = c.loop in (
      c.dispatch.ensures.cycle ∙ l.invariant.0,
      subst (CallsThrough _ c.dispatch.new.self.dispatched c.warn.new.dispatcher c.dispatch.new.dispatcher) (replicate_more l.counter Dispatch)
          (one_through keeps_dispatch l.invariant.1
          (subst (λ y. Called y l.dispatcher c.dispatch.new.dispatcher Dispatch (λ x. Dispatched x) c.dispatch.result) l.invariant.0 c.dispatch.ensures.call)
          (c.dispatch.ensures.count ∙ dispatch_count l.react.dispatched c.dispatch.result)),
    )

pub returns : goal.returns
returns g c =
    let l = c.loop in
    let n = c.args.round.services in
    let start = c.args.dispatcher.now in
    let warned = c.warn.new.dispatcher in
    let e : l.counter ≡ c.args.round.dispatches = omega arith in
    let warning : CallsThrough c.react-react.result.cycle 0 start warned (Warn n ∷ []) =
    one_quiet (keeps_warn n) (λ x. refl) (none_through refl) c.warn.ensures.call in
    let dispatches = subst (λ k. CallsThrough c.react-react.result.cycle l.react.dispatched warned l.dispatcher (replicate k Dispatch)) e l.invariant.1 in
    record {
      calls = rw (c.output.ensures.1, sym c.react-react.ensures.0) (join_through warning dispatches);
      phase = c.output.ensures.0 ∙ l.invariant.0 ∙ c.react-react.ensures.0;
    }
