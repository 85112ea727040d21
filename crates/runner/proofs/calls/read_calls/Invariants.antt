use Rattle.std.proofs.Common.{◌-◌, length, vec_items}
use Rattle.runner.proofs.Gathering.{Gathered}
use Rattle.runner.proofs.calls.read_calls.Given as goal

abbrev pub invariant-loop-record : goal.invariant-loop-record
invariant-loop-record g l = Gathered g.M.Posted.format l.initial.records l.records (vec_items l.calls)

-- what is left of the file
abbrev pub decreases-loop-record : goal.decreases-loop-record
decreases-loop-record g l = length l.records.file.now - l.records.position
