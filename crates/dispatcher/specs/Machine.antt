-- The dispatcher as a machine: what it holds, which calls it refuses, and what an accepted call answers and does.
use Rattle.std.specs.Prelude.{ℕ, zero, suc, ◌+◌, ◌*◌, ◌%◌, Bool, true, false, cond, not, ◌||◌, leb, List, [], ◌∷◌, ◌++◌, length, Some, None, fold, count_by, filter, Option, ◌==◌, nat_eq, nat_le, nat_lt}
use Rattle.messages.specs.declared.refusal.Refusal.{Refusal}
use Rattle.messages.specs.declared.refusal.Refusal.TheVariants.{AlreadyOpen, CyclesUsedUp, Full, IntervalOutOfRange, LateWaiting, NotNextCycle, OutOfPhase, ReceiptsUsedUp, Shut, StartTooHigh, TooManyServices, UnfitBank}
pub use Rattle.dispatcher.specs.declared.call.Call.{Call}
pub use Rattle.dispatcher.specs.declared.entry.Entry.{Entry}
pub use Rattle.dispatcher.specs.declared.entry.Figures.{Figures}
pub use Rattle.dispatcher.specs.declared.entry.Warning.{Warning}
pub use Rattle.dispatcher.specs.declared.event.Event.{Event}
use Rattle.dispatcher.specs.declared.call.Call.TheVariants.{Ask, Begin, Dispatch, Name, Open, Post, Turn, Warn}
use Rattle.dispatcher.specs.declared.event.Event.TheVariants.{Asked, Begun, Dispatched, Named, Opened, Posted, Refused, Turned, Warned}

-- the call that an event is the answer to
abbrev pub call_of : {M : Type 0} → Event M → Call M
call_of (Refused c k) = c
call_of (Opened z r) = Open z r
call_of (Posted e) = Post e.message
call_of (Dispatched o) = Dispatch
call_of (Turned t n) = Turn t
call_of (Named o) = Name
call_of (Warned c o) = Warn c
call_of Begun = Begin
call_of (Asked g) = Ask

-- what a dispatcher is made with
pub record Terms (M : Type 0) : Type 0 where
  pub interval : M → ℕ
  -- the number of trays, less one
  pub span : ℕ
  pub tray_limit : ℕ
  pub total_limit : ℕ
  -- whether the bank holds a cell at the start
  pub holds : Bool

-- the pending entries, and those that became late and wait to be named, are both in posting order
pub record State (M : Type 0) : Type 0 where
  pub is_open : Bool
  pub begun : Bool
  pub cycle : ℕ
  pub next : ℕ
  pub pending : List (Entry M)
  pub waiting : List (Entry M)
  pub accepted : ℕ
  pub dispatched : ℕ
  pub late : ℕ

-- no cycle and no receipt goes beyond this
abbrev pub limit : ℕ
limit = 4000000000

abbrev pub start : {M : Type 0} → State M
start = record { is_open = false; begun = false; cycle = 0; next = 0; pending = []; waiting = []; accepted = 0; dispatched = 0; late = 0 }

-- the refusal behind the first test that holds
abbrev pub first_of : List (Bool × Refusal) → Option Refusal
first_of [] = None
first_of (x ∷ xs) = cond x.0 (Some x.1) (first_of xs)

abbrev pub is_empty : {X : Type 0} → List X → Bool
is_empty [] = true
is_empty (x ∷ xs) = false

-- how many entries lie in the tray of the deadline d
abbrev pub in_tray : {M : Type 0} → Terms M → ℕ → List (Entry M) → ℕ
in_tray b d es = count_by (λ e. nat_eq (e.deadline % (b.span + 1)) (d % (b.span + 1))) es

-- why a call is refused, if it is: its tests, in their order
abbrev pub refusal : {M : Type 0} → Terms M → State M → Call M → Option Refusal
refusal b s (Open z r) =
    first_of
    ((s.is_open, AlreadyOpen) ∷ (nat_lt limit z || nat_lt limit r, StartTooHigh) ∷ (b.span == 0 || b.holds, UnfitBank)
    ∷ [])
refusal b s (Post m) =
    first_of
    ((not s.is_open, Shut) ∷ (b.interval m == 0 || nat_lt b.span (b.interval m), IntervalOutOfRange)
    ∷ ((s.next == limit), ReceiptsUsedUp)
    ∷ (
      nat_le b.tray_limit (in_tray b (s.cycle + b.interval m) (s.pending ++ s.waiting))
          || nat_le b.total_limit (length (s.pending ++ s.waiting)),
      Full,
    ) ∷ [])
refusal b s Dispatch = first_of ((not s.is_open, Shut) ∷ [])
refusal b s (Turn t) =
    first_of
    ((not s.is_open, Shut) ∷ (not (is_empty s.waiting), LateWaiting) ∷ (not (t == s.cycle + 1), NotNextCycle)
    ∷ (nat_lt limit (s.cycle + 1), CyclesUsedUp) ∷ [])
refusal b s Name = first_of ((not s.is_open, Shut) ∷ [])
refusal b s (Warn c) = first_of ((not s.is_open, Shut) ∷ (nat_lt 1000 c, TooManyServices) ∷ [])
refusal b s Begin = first_of ((not s.is_open, Shut) ∷ (s.begun, OutOfPhase) ∷ [])
refusal b s Ask = None

-- of two entries, the one with the smaller deadline, and the first of equals
abbrev pub sooner : {M : Type 0} → Entry M → Option (Entry M) → Entry M
sooner e None = e
sooner e (Some f) = cond (nat_le e.deadline f.deadline) e f

abbrev pub soonest : {M : Type 0} → List (Entry M) → Option (Entry M)
soonest [] = None
soonest (e ∷ es) = Some (sooner e (soonest es))

abbrev pub without : {M : Type 0} → Entry M → List (Entry M) → List (Entry M)
without e es = filter (λ f. not (e.receipt == f.receipt)) es

-- due at the cycle t
abbrev pub due_at : {M : Type 0} → ℕ → Entry M → Bool
due_at t e = e.deadline == t

-- how many are due by the cycle x
abbrev pub due_by : {M : Type 0} → ℕ → List (Entry M) → ℕ
due_by x es = count_by (λ e. leb e.deadline x) es

-- the first f, of `left` numbers from f on, with more than c * f entries due by the cycle z + f
abbrev pub first_over : {M : Type 0} → ℕ → ℕ → List (Entry M) → ℕ → ℕ → Option Warning
first_over c z es f zero = None
first_over c z es f (suc left) =
    cond (nat_lt (c * f) (due_by (z + f) es)) (Some (record { ahead = f; load = due_by (z + f) es }))
    (first_over c z es (suc f) left)

abbrev pub serve : {M : Type 0} → State M → Option (Entry M) → Event M × State M
serve s None = (Dispatched None, s)
serve s (Some e) =
    (Dispatched (Some e), record { is_open = s.is_open; begun = s.begun; cycle = s.cycle; next = s.next; pending = without e s.pending; waiting = s.waiting; accepted = s.accepted; dispatched = s.dispatched + 1; late = s.late })

abbrev pub tell : {M : Type 0} → State M → List (Entry M) → Event M × State M
tell s [] = (Named None, s)
tell s (e ∷ es) =
    (Named (Some e), record { is_open = s.is_open; begun = s.begun; cycle = s.cycle; next = s.next; pending = s.pending; waiting = es; accepted = s.accepted; dispatched = s.dispatched; late = s.late })

abbrev pub new_entry : {M : Type 0} → Terms M → State M → M → Entry M
new_entry b s m = record { receipt = s.next; message = m; deadline = s.cycle + b.interval m }

-- what an accepted call answers and does
abbrev pub act : {M : Type 0} → Terms M → State M → Call M → Event M × State M
act b s (Open z r) =
    (Opened z r, record { is_open = true; begun = s.begun; cycle = z; next = r; pending = s.pending; waiting = s.waiting; accepted = s.accepted; dispatched = s.dispatched; late = s.late })
act b s (Post m) =
    (Posted (new_entry b s m), record { is_open = s.is_open; begun = s.begun; cycle = s.cycle; next = s.next + 1; pending = s.pending ++ new_entry b s m ∷ []; waiting = s.waiting; accepted = s.accepted + 1; dispatched = s.dispatched; late = s.late })
act b s Dispatch = serve s (soonest s.pending)
act b s (Turn t) =
    (Turned t (count_by (due_at t) s.pending), record { is_open = s.is_open; begun = s.begun; cycle = t; next = s.next; pending = filter (λ e. not (due_at t e)) s.pending; waiting = s.waiting ++ filter (due_at t) s.pending; accepted = s.accepted; dispatched = s.dispatched; late = s.late + count_by (due_at t) s.pending })
act b s Name = tell s s.waiting
act b s (Warn c) = (Warned c (first_over c s.cycle s.pending 1 b.span), s)
act b s Begin =
    (Begun, record { is_open = s.is_open; begun = true; cycle = s.cycle; next = s.next; pending = s.pending; waiting = s.waiting; accepted = s.accepted; dispatched = s.dispatched; late = s.late })
act b s Ask =
    (Asked (record { cycle = s.cycle; accepted = s.accepted; dispatched = s.dispatched; late = s.late; pending = length s.pending; waiting = length s.waiting }), s)

abbrev pub unless : {M : Type 0} → Terms M → State M → Call M → Option Refusal → Event M × State M
unless b s c (Some k) = (Refused c k, s)
unless b s c None = act b s c

abbrev pub step : {M : Type 0} → Terms M → State M → Call M → Event M × State M
step b s c = unless b s c (refusal b s c)

-- a dispatcher with all that has happened to it, the latest last
pub record Told (M : Type 0) : Type 0 where
  pub state : State M
  pub history : List (Event M)

abbrev pub told : {M : Type 0} → Told M → Event M × State M → Told M
told r x = record { state = x.1; history = r.history ++ x.0 ∷ [] }

-- all the calls, from a newly made dispatcher
abbrev pub run : {M : Type 0} → Terms M → List (Call M) → Told M
run b calls = fold (λ r c. told r (step b r.state c)) (record { state = start; history = [] }) calls
