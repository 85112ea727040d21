use Rattle.std.proofs.Common.{take}
use Rattle.dispatcher.specs.Steps.{terms}
use Rattle.dispatcher.specs.Views.{view}
use Rattle.bench_driver.specs.Loads.{note_interval}
use Rattle.bench_driver.proofs.Loading.{Summed}
use Rattle.bench_driver.proofs.driving.drive.Given as goal

-- the load so far is summed
abbrev pub invariant-loop-byte : goal.invariant-loop-byte
invariant-loop-byte g l =
    Summed (terms g.B.Trays note_interval l.fn.bank) (view l.dispatcher) (take l.byte-index l.load) l.sum
