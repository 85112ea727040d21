use Rattle.std.proofs.Common.{◌-◌, length}
use Rattle.steps.proofs.Counting.{Counted}
use Rattle.steps.proofs.steps_file.sum_up.Given as goal

abbrev pub invariant-loop-count : goal.invariant-loop-count
invariant-loop-count g l = Counted g.M.Posted.format l.initial.records l.records l.count

abbrev pub decreases-loop-count : goal.decreases-loop-count
decreases-loop-count g l = length l.records.file.now - l.records.position
