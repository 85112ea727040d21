-- When a dispatcher, seen as its numbers and its trays, shows a state of the machine.
use Rattle.std.specs.Prelude.{◌≡◌, ℕ, ◌+◌, ◌-◌, ◌%◌, ◌<◌, ◌≤◌, true, false, List, [], ◌∷◌, map, length, filter, nat_lt}
use Rattle.std.specs.List.{AllByRecursion}
use Rattle.banks.specs.declared.cell.Cell.{Cell}
use Rattle.banks.specs.Trays.{tray_at, held_in}
use Rattle.dispatcher.specs.declared.entry.Entry.{Entry}
use Rattle.dispatcher.specs.Machine.{Terms, State, limit, due_at}
use Rattle.dispatcher.specs.Views.{View}

abbrev pub cell_of : {M : Type 0} → Entry M → Cell M
cell_of e = record { receipt = e.receipt; message = e.message }

abbrev pub cells : {M : Type 0} → List (Entry M) → List (Cell M)
cells es = map cell_of es

-- the machine's state that has the dispatcher's numbers, and these entries
abbrev pub state_of : {M : Type 0} → View M → List (Entry M) → List (Entry M) → State M
state_of v P W =
    record { is_open = v.is_open; begun = v.begun; cycle = v.cycle; next = v.next; pending = P; waiting = W; accepted = v.accepted; dispatched = v.dispatched; late = v.late }

-- each receipt is below those after it
abbrev pub Rising : {M : Type 0} → List (Entry M) → Type 0
Rising [] = Unit {0}
Rising (e ∷ es) = AllByRecursion (λ f. e.receipt < f.receipt) es × Rising es

-- once open, at cycle z and with N + 1 trays: the tray of z holds the waiting entries, the tray of z + f, for f from 1 to N, the pending ones that are due at z + f
pub record Running {M : Type 0} (ts : List (List (Cell M))) (N z s : ℕ) (P W : List (Entry M)) : Type 0 where
  pub some : 0 < N
  pub trays : length ts ≡ N + 1
  pub here : tray_at ts (z % (N + 1)) ≡ cells W
  pub ahead : (f : ℕ) → 0 < f → f ≤ N → tray_at ts ((z + f) % (N + 1)) ≡ cells (filter (due_at (z + f)) P)
  pub held : held_in ts ≡ length W + length P
  pub pending_due : AllByRecursion (λ e. (z < e.deadline) × (e.deadline ≤ z + N)) P
  pub waiting_due : AllByRecursion (λ e. e.deadline ≡ z) W
  pub rising : Rising P
  pub given : AllByRecursion (λ e. e.receipt < s) P

-- before it is open
pub record Idle {M : Type 0} (b : Terms M) (v : View M) (P W : List (Entry M)) : Type 0 where
  pub holds : b.holds ≡ nat_lt 0 (held_in v.trays)
  pub none_pending : P ≡ []
  pub none_waiting : W ≡ []
  pub cycle : v.cycle ≡ 0
  pub accepted : v.accepted ≡ 0

-- of a dispatcher that was made with the terms b
pub record Agrees {M : Type 0} (b : Terms M) (v : View M) (P W : List (Entry M)) : Type 0 where
  pub interval : (x : M) → b.interval x ≡ v.interval x
  pub tray_limit : b.tray_limit ≡ v.tray_limit
  pub total_limit : b.total_limit ≡ v.total_limit
  pub span : b.span ≡ length v.trays - 1
  pub few : v.next ≤ limit
  pub booked : v.dispatched + v.late + length P ≡ v.accepted
  pub given : v.accepted ≤ v.next
  pub shut : v.is_open ≡ false → Idle b v P W
  pub running : v.is_open ≡ true → Running v.trays v.span v.cycle v.next P W

pub record Shows {M : Type 0} (b : Terms M) (v : View M) (m : State M) : Type 0 where
  pub numbers : m ≡ state_of v m.pending m.waiting
  pub agrees : Agrees b v m.pending m.waiting
