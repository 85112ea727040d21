use Rattle.std.proofs.Common.{◌≡◌, ℕ, ◌<◌, []}
use Rattle.dispatcher.specs.Search.{tray_ahead}
use Rattle.dispatcher.proofs.dispatcher.Dispatcher.soonest.Given as goal

-- no tray before this one holds a cell
abbrev pub invariant-loop-ahead : goal.invariant-loop-ahead
invariant-loop-ahead g l =
    (f : ℕ) → 0 < f → f < l.ahead → tray_ahead (g.B.Trays.trays l.self.bank) l.ring.span l.self.cycle f ≡ []
