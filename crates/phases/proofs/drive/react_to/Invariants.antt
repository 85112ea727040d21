use Rattle.std.proofs.Common.{◌≡◌, replicate}
use Rattle.dispatcher.specs.declared.call.Call.TheVariants.{Dispatch}
use Rattle.phases.specs.Rounds.{CallsThrough}
use Rattle.phases.proofs.drive.react_to.Given as goal

abbrev pub invariant-loop : goal.invariant-loop
invariant-loop g l =
    (l.react.cycle ≡ l.initial.react.cycle)
    × CallsThrough l.initial.react.cycle l.react.dispatched l.initial.dispatcher l.dispatcher (replicate l.counter Dispatch)
