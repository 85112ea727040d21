use Rattle.std.specs.Prelude.{◌≡◌, ℕ, ◌+◌, ◌*◌, ◌<◌, ◌≤◌, true, false, ◌↔◌, List, ◌++◌, map, take, Some, None, Option}
use Rattle.dispatcher.specs.Machine.{Call, Entry, Terms, Told, Warning, call_of, run}
use Rattle.std.specs.List.{slice_get}
use Rattle.dispatcher.specs.declared.event.Event.TheVariants.{Dispatched, Named, Posted, Warned}
use Rattle.dispatcher.specs.History.{History, ServiceOrder, late_posts, own, Service, Meets, dispatches, due_within, namings, lying, DispatchedInTime, NamedAfterTurn, Lies}

-- The history is of the calls that were made, in their order; and what has happened stays as it was when more calls come.
pub record IsOfCalls {M : Type 0} (b : Terms M) (calls : List (Call M)) : Type 0 where
  pub same_calls : map call_of (run b calls).history ≡ calls
  pub stays : (more : List (Call M)) → (rest : History M) × ((run b (calls ++ more)).history ≡ (run b calls).history ++ rest)

abbrev pub TellsWhatHappened : Type 0 → Type 0
TellsWhatHappened M = (b : Terms M) (calls : List (Call M)) → IsOfCalls b calls

-- Of a dispatcher that was made with any terms, after any calls: its late count is that of its own order, which is a
-- service order, and no service order over the same history has fewer late posts. (What came before a call is a list of
-- calls too, so this says it at the start and after each call.)
pub record LateIsLeast {M : Type 0} (r : Told M) : Type 0 where
  pub own_is_order : ServiceOrder r.history (own r.history)
  pub own_late : r.state.late ≡ late_posts r.history (own r.history)
  pub least : (o : ℕ → Option ℕ) → ServiceOrder r.history o → r.state.late ≤ late_posts r.history o

abbrev pub LeastLate : Type 0 → Type 0
LeastLate M = (b : Terms M) (calls : List (Call M)) → LateIsLeast (run b calls)

-- Each accepted warning named none exactly when some order of the services that it was told meets every deadline that was
-- pending then: w is the warning's position, and what came before it is the first w events.
abbrev pub WarningsRight : {M : Type 0} → History M → Type 0
WarningsRight h =
    (w c : ℕ) (a : Option Warning) → slice_get h w ≡ Some (Warned c a) → (a ≡ None) ↔ ((plan : ℕ → Service) × Meets (take w h) c plan)

-- A warning told c services named a: so many pending posts are due within so many cycles, which is more than c in each
-- of these can serve; within fewer cycles there are not too many. N is the longest interval.
pub record NamesLeast {M : Type 0} (h : History M) (N c : ℕ) (a : Warning) : Type 0 where
  pub some_ahead : 0 < a.ahead
  pub within : a.ahead ≤ N
  pub load : a.load ≡ due_within h a.ahead
  pub too_many : c * a.ahead < a.load
  pub least : (f : ℕ) → 0 < f → f < a.ahead → due_within h f ≤ c * f

abbrev pub WarningsLeast : {M : Type 0} → ℕ → History M → Type 0
WarningsLeast N h = (w c : ℕ) (a : Warning) → slice_get h w ≡ Some (Warned c (Some a)) → NamesLeast (take w h) N c a

abbrev pub WarnsExactly : Type 0 → Type 0
WarnsExactly M = (b : Terms M) (calls : List (Call M)) → WarningsRight (run b calls).history

-- No two accepted posts have one receipt. Each receipt that was given stands exactly once among the dispatches, the namings,
-- the pending and the waiting entries: dispatched before its deadline turn, or named after that turn, or lying in one of
-- the two lists, pending before the turn and waiting after it.
pub record EachOnce {M : Type 0} (r : Told M) : Type 0 where
  pub receipts_apart : (p p' : ℕ) (e e' : Entry M) → slice_get r.history p ≡ Some (Posted e) → slice_get r.history p' ≡ Some (Posted e') → e.receipt ≡ e'.receipt → p ≡ p'
  pub exactly_once : (p : ℕ) (e : Entry M) → slice_get r.history p ≡ Some (Posted e) → dispatches r.history e.receipt + namings r.history e.receipt + lying r.state.pending e.receipt + lying r.state.waiting e.receipt ≡ 1
  pub dispatched_in_time : (q : ℕ) (f : Entry M) → slice_get r.history q ≡ Some (Dispatched (Some f)) → DispatchedInTime r.history q f
  pub named_after_turn : (q : ℕ) (f : Entry M) → slice_get r.history q ≡ Some (Named (Some f)) → NamedAfterTurn r.history q f
  pub pending_before : (i : ℕ) (f : Entry M) → slice_get r.state.pending i ≡ Some f → Lies r.history f false
  pub waiting_after : (i : ℕ) (f : Entry M) → slice_get r.state.waiting i ≡ Some f → Lies r.history f true

abbrev pub AccountsForAll : Type 0 → Type 0
AccountsForAll M = (b : Terms M) (calls : List (Call M)) → EachOnce (run b calls)
