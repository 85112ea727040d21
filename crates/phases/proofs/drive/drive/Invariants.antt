use Rattle.std.proofs.Common.{take}
use Rattle.phases.proofs.ManyRounds.{SoFar}
use Rattle.phases.proofs.drive.drive.Given as goal

abbrev pub invariant-loop-round : goal.invariant-loop-round
invariant-loop-round g l =
    SoFar l.initial.report l.initial.dispatcher l.dispatcher l.report (take l.round-counter l.rounds) l.round-counter
