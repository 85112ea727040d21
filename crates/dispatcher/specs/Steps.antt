-- What the dispatcher's calls answer and leave, in the machine's terms.
use Rattle.std.specs.Prelude.{◌≡◌, ℕ, ◌+◌, ◌-◌, ◌<◌, ◌≤◌, true, length, Ok, Err, Option, Result, nat_lt}
use Rattle.banks.specs.declared.bank.Trays
use Rattle.messages.specs.declared.message.Message
use Rattle.messages.specs.declared.message.Timed
use Rattle.banks.specs.Trays.{held_in}
use Rattle.messages.specs.declared.refusal.Refusal.{Refusal}
use Rattle.dispatcher.specs.declared.dispatcher.Dispatcher.{Dispatcher}
use Rattle.dispatcher.specs.declared.entry.Slip.{Slip}
use Rattle.dispatcher.specs.Machine.{Call, Event, State, Terms, Warning, first_over, limit, start, step}
use Rattle.dispatcher.specs.Shown.{Shows}
use Rattle.dispatcher.specs.Views.{View, view}

abbrev pub Fails : {X : Type 0} → Result X Refusal → Type 0
Fails (Ok x) = ⊥
Fails (Err k) = Unit {0}

-- from v to w, as the machine goes by the call c with this event
abbrev pub Simulates : {M : Type 0} → View M → View M → Call M → Event M → Type 0
Simulates {M} v w c a = (b : Terms M) (m : State M) → Shows b v m → ((step b m c).0 ≡ a) × Shows b w (step b m c).1

module _ {B M : Type 0} (t : Trays.Ghosts B M) (interval : M → ℕ) where
  -- what a dispatcher over the bank is made with
  abbrev pub terms : B → Terms M
  terms b = record { interval = interval; span = length (t.trays b) - 1; tray_limit = t.tray_limit b; total_limit = t.total_limit b; holds = nat_lt 0 (held_in (t.trays b)) }

module _ {B M : Type 0} {t : Trays.Ghosts B M} {m : Message.Ghosts M} {i : Timed.Ghosts M} where
  -- a new dispatcher shows the start of the machine
  abbrev pub Starts : B → Dispatcher B M t m i → Type 0
  Starts b d = Shows (terms t i.interval b) (view d) start

  -- the first of the cycles ahead of an open dispatcher that has more entries due by it than c in each cycle can serve
  abbrev pub Foresees : Dispatcher B M t m i → ℕ → Option Warning → Type 0
  Foresees d c r = (b : Terms M) (s : State M) → Shows b (view d) s → (view d).is_open ≡ true → first_over c (view d).cycle s.pending 1 (view d).span ≡ r

  -- whatever state of the machine the dispatcher showed, the event is the machine's at that state, and the dispatcher shows
  -- the machine's next state
  abbrev pub Steps : Dispatcher B M t m i → Dispatcher B M t m i → Call M → Event M → Type 0
  Steps before after c a = Simulates (view before) (view after) c a

  -- an open dispatcher whose bank is empty accepts each post of interval 1 to N, the number of trays less one, while
  -- receipts last
  abbrev pub TakesWhenEmpty : Dispatcher B M t m i → M → Result Slip Refusal → Type 0
  TakesWhenEmpty d x r =
      (b : Terms M) (s : State M) → Shows b (view d) s → (view d).is_open ≡ true → held_in (view d).trays ≡ 0 → 0 < i.interval x → i.interval x ≤ length (view d).trays - 1 → (view d).next < limit → r ≡ Ok (record { receipt = (view d).next; deadline = (view d).cycle + i.interval x })
