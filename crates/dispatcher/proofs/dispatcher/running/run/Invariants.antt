use Rattle.std.proofs.Common.{take, vec_items}
use Rattle.dispatcher.specs.Machine.{Terms, start}
use Rattle.dispatcher.specs.Shown.{Shows}
use Rattle.dispatcher.specs.Views.{view}
use Rattle.dispatcher.proofs.RealRuns.{Ran}
use Rattle.dispatcher.proofs.dispatcher.running.run.Given as goal

-- the calls so far happened as the machine has them, and every one of them led to a dispatcher that obeyed
abbrev pub invariant-loop-call : goal.invariant-loop-call
invariant-loop-call g l =
    (b : Terms g.row.B-Item.Denot) → Shows b (view l.initial.dispatcher) start
    → Ran b l.dispatcher (take l.call-index l.calls) (vec_items l.events)
