-- What a dispatcher looks like from outside its code: its numbers, and what its bank holds.
use Rattle.std.specs.Prelude.{ℕ, ◌+◌, ◌%◌, Bool, cond, List, length, Some, None, Option, is_some}
use Rattle.banks.specs.declared.bank.Trays
use Rattle.messages.specs.declared.message.Message
use Rattle.messages.specs.declared.message.Timed
use Rattle.banks.specs.declared.cell.Cell.{Cell}
use Rattle.banks.specs.Trays.{tray_at}
use Rattle.dispatcher.specs.declared.dispatcher.Dispatcher.{Dispatcher}
use Rattle.dispatcher.specs.declared.ring.Ring.{Ring}

pub record View (M : Type 0) : Type 0 where
  pub interval : M → ℕ
  pub trays : List (List (Cell M))
  pub tray_limit : ℕ
  pub total_limit : ℕ
  pub is_open : Bool
  pub begun : Bool
  pub span : ℕ
  pub cycle : ℕ
  pub next : ℕ
  pub accepted : ℕ
  pub dispatched : ℕ
  pub late : ℕ

-- the number of trays less one, and 0 before it is open
abbrev pub span_of : Option Ring → ℕ
span_of None = 0
span_of (Some ring) = ring.span

-- what the dispatcher's numbers are, and what its bank and its messages tell: t, m and i are their ghost members
abbrev pub view : {B M : Type 0} {t : Trays.Ghosts B M} {m : Message.Ghosts M} {i : Timed.Ghosts M} → Dispatcher B M t m i → View M
view {t = t} {i = i} d =
    record { interval = i.interval; trays = t.trays d.bank; tray_limit = t.tray_limit d.bank; total_limit = t.total_limit d.bank; is_open = is_some d.ring; begun = d.begun; span = span_of d.ring; cycle = d.cycle; next = d.receipt; accepted = d.accepted; dispatched = d.dispatched; late = d.late }

-- how many cells wait in the tray of the present cycle, of an open dispatcher
abbrev pub waiting_in : {M : Type 0} → View M → ℕ
waiting_in v = cond v.is_open (length (tray_at v.trays (v.cycle % (v.span + 1)))) 0
