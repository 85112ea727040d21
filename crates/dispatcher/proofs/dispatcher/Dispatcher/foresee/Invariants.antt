use Rattle.std.proofs.Common.{◌≡◌, true}
use Rattle.dispatcher.specs.Machine.{Terms, State}
use Rattle.dispatcher.specs.Views.{view}
use Rattle.dispatcher.specs.Shown.{Shows}
use Rattle.dispatcher.proofs.Foreseeing.{Counted}
use Rattle.dispatcher.proofs.dispatcher.Dispatcher.foresee.Given as goal

-- of any state that the dispatcher shows, the trays so far are counted
abbrev pub invariant-loop-ahead : goal.invariant-loop-ahead
invariant-loop-ahead g l =
    (b : Terms g.row.B-Item.Denot) (s : State g.row.B-Item.Denot) → Shows b (view l.self) s → (view l.self).is_open ≡ true → Counted l.services (view l.self).cycle (view l.self).span s.pending l.ahead l.due
