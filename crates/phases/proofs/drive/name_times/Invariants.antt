use Rattle.std.proofs.Common.{replicate}
use Rattle.dispatcher.specs.declared.call.Call.TheVariants.{Name}
use Rattle.phases.specs.Rounds.{CallsThrough}
use Rattle.phases.proofs.drive.name_times.Given as goal

abbrev pub invariant-loop : goal.invariant-loop
invariant-loop g l =
    CallsThrough l.report.cycle 0 l.initial.dispatcher l.dispatcher (replicate l.counter Name)
