use Rattle.std.proofs.Common.{take}
use Rattle.std.specs.List.{flat_map}
use Rattle.runner.specs.Lines.{part}
use Rattle.runner.specs.Output.{Wrote}
use Rattle.runner.proofs.text.write_line.Given as goal

-- the numbers so far have been written behind the letter
abbrev pub invariant-loop-number : goal.invariant-loop-number
invariant-loop-number l =
    Wrote l.initial.out l.initial.end (flat_map part (take l.number-index l.numbers)) l.out l.end
