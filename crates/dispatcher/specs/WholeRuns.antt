-- The law of whole runs, of a dispatcher as it is: its late count, and the trays of its bank.
use Rattle.std.specs.Prelude.{◌≡◌, ℕ, ◌+◌, ◌-◌, ◌%◌, ◌≤◌, true, List, [], ◌∷◌, ◌++◌, map, length, take, Some, count_by, Option, nat_eq}
use Rattle.std.specs.List.{slice_get}
use Rattle.banks.specs.declared.bank.Trays
use Rattle.messages.specs.declared.message.Message
use Rattle.messages.specs.declared.message.Timed
use Rattle.banks.specs.declared.cell.Cell.{Cell}
use Rattle.banks.specs.Trays.{tray_at}
use Rattle.dispatcher.specs.declared.dispatcher.Dispatcher.{Dispatcher}
use Rattle.dispatcher.specs.declared.event.Event.TheVariants.{Dispatched, Named, Posted}
use Rattle.dispatcher.specs.History.{DispatchedInTime, History, NamedAfterTurn, ServiceOrder, dispatches, gives_out, is_post, late_posts, namings, own}
use Rattle.dispatcher.specs.Machine.{Call, Entry, Event, Terms, call_of, run}
use Rattle.dispatcher.specs.Shown.{Shows, cell_of}
use Rattle.dispatcher.specs.Steps.{Steps, terms}
use Rattle.dispatcher.specs.Views.{View, view}
use Rattle.dispatcher.specs.Theorems.{WarningsLeast, WarningsRight}

-- how often the receipt r stands in trays
abbrev pub lying_in : {M : Type 0} → List (List (Cell M)) → ℕ → ℕ
lying_in [] r = 0
lying_in (t ∷ ts) r = count_by (λ c. nat_eq c.receipt r) t + lying_in ts r

-- what a history obeys, with the late count and the trays at its end
pub record Obeys {M : Type 0} (h : History M) (late : ℕ) (trays : List (List (Cell M))) : Type 0 where
  -- the late count is that of the dispatcher's own order, and no service order has fewer late posts
  pub own_is_order : ServiceOrder h (own h)
  pub own_late : late ≡ late_posts h (own h)
  pub least : (o : ℕ → Option ℕ) → ServiceOrder h o → late ≤ late_posts h o
  -- each warning named none exactly when some order of the services that it was told met every deadline then pending
  pub warnings : WarningsRight h
  -- no receipt was given twice, and each stands exactly once among the dispatches, the namings and the trays:
  -- dispatched before its deadline turn, or named after that turn, or lying in one tray
  pub receipts_apart : (p p' : ℕ) (e e' : Entry M) → slice_get h p ≡ Some (Posted e) → slice_get h p' ≡ Some (Posted e') → e.receipt ≡ e'.receipt → p ≡ p'
  pub exactly_once : (p : ℕ) (e : Entry M) → slice_get h p ≡ Some (Posted e) → dispatches h e.receipt + namings h e.receipt + lying_in trays e.receipt ≡ 1
  pub dispatched_in_time : (q : ℕ) (f : Entry M) → slice_get h q ≡ Some (Dispatched (Some f)) → DispatchedInTime h q f
  pub named_after_turn : (q : ℕ) (f : Entry M) → slice_get h q ≡ Some (Named (Some f)) → NamedAfterTurn h q f

-- the cell c of tray k, of n trays, is that of an accepted post whose deadline has this tray
pub record InItsTray {M : Type 0} (h : History M) (n k : ℕ) (c : Cell M) : Type 0 where
  pub entry : Entry M
  pub place : ℕ
  pub is_post : slice_get h place ≡ Some (Posted entry)
  pub same : c ≡ cell_of entry
  pub by_deadline : entry.deadline % n ≡ k

-- what a history and the dispatcher at its end account for beside that
pub record Accounts {M : Type 0} (h : History M) (v : View M) : Type 0 where
  -- a warning that named something named the least such number of cycles, and how many posts are due within them
  pub warnings_least : WarningsLeast (length v.trays - 1) h
  -- once it is open, the trays hold cells of accepted posts and no others, each in the tray of its deadline
  pub in_its_tray : v.is_open ≡ true → (k i : ℕ) (c : Cell M) → slice_get (tray_at v.trays k) i ≡ Some c → InItsTray h (length v.trays) k c
  -- the counts are those of the accepted posts, and of the dispatches that gave an entry out
  pub accepted : v.accepted ≡ count_by is_post h
  pub dispatched : v.dispatched ≡ count_by gives_out h

-- these calls led a new dispatcher, made with the terms b, to what v shows of it, and happened as h says
pub record Led {M : Type 0} (b : Terms M) (v : View M) (calls : List (Call M)) (h : History M) : Type 0 where
  pub answered : (run b calls).history ≡ h
  pub shows : Shows b v (run b calls).state

-- one call more: whatever calls led to v, with this call they lead to w, and all that has happened obeys
abbrev pub CarriesOn : {M : Type 0} → View M → View M → Call M → Event M → Type 0
CarriesOn {M} v w c a =
    (b : Terms M) (calls : List (Call M)) (h : History M) → Led b v calls h → Led b w (calls ++ c ∷ []) (h ++ a ∷ []) × Obeys (h ++ a ∷ []) w.late w.trays

-- what a dispatcher had after its first k calls: a late count and trays with which all that had happened obeys
pub record Obeyed {M : Type 0} (h : History M) (k : ℕ) : Type 0 where
  pub late : ℕ
  pub trays : List (List (Cell M))
  pub law : Obeys (take k h) late trays

-- one call more: whatever calls led to v, what has happened with this call is accounted for at w
abbrev pub AccountsNext : {M : Type 0} → View M → View M → Call M → Event M → Type 0
AccountsNext {M} v w c a = (b : Terms M) (calls : List (Call M)) (h : History M) → Led b v calls h → Accounts (h ++ a ∷ []) w

module _ {B M : Type 0} {t : Trays.Ghosts B M} {m : Message.Ghosts M} {i : Timed.Ghosts M} where
  -- these calls, made on a new dispatcher, left the dispatcher d and happened as h says: at the start, after each call, and
  -- at the end, with the late count and the trays that d has
  pub record WholeRun (d : Dispatcher B M t m i) (calls : List (Call M)) (h : History M) : Type 0 where
    pub of_calls : map call_of h ≡ calls
    pub after_each : (k : ℕ) → k ≤ length calls → Obeyed h k
    pub law : Obeys h (view d).late (view d).trays

  -- a call of a dispatcher carries the law on
  abbrev pub ObeysOn : Dispatcher B M t m i → Dispatcher B M t m i → Call M → Event M → Type 0
  ObeysOn before after c a = CarriesOn (view before) (view after) c a

  -- a call of a dispatcher carries the account on
  abbrev pub AccountsOn : Dispatcher B M t m i → Dispatcher B M t m i → Call M → Event M → Type 0
  AccountsOn before after c a = AccountsNext (view before) (view after) c a

  -- what every call of a dispatcher keeps to: it goes as the machine goes, and it carries the law and the account on
  pub record LawfulCall (before after : Dispatcher B M t m i) (c : Call M) (a : Event M) : Type 0 where
    pub steps : Steps before after c a
    pub law : ObeysOn before after c a
    pub account : AccountsOn before after c a

module _ {B M : Type 0} (t : Trays.Ghosts B M) (m : Message.Ghosts M) (i : Timed.Ghosts M) where
  -- a dispatcher, made with the terms b, to which the first k calls led: all that had happened obeyed, and was accounted for
  pub record Accounted (b : Terms M) (calls : List (Call M)) (h : History M) (k : ℕ) : Type 0 where
    pub dispatcher : Dispatcher B M t m i
    pub led : Led b (view dispatcher) (take k calls) (take k h)
    pub law : Obeys (take k h) (view dispatcher).late (view dispatcher).trays
    pub accounts : Accounts (take k h) (view dispatcher)

-- these calls, made on a new dispatcher over the bank, led to the dispatcher d: of each call the answer that the machine
-- gives, and all of it accounted for at the start, after each call, and at the end
pub record AccountedRun {B M : Type 0} {t : Trays.Ghosts B M} {m : Message.Ghosts M} {i : Timed.Ghosts M} (bank : B) (d : Dispatcher B M t m i) (calls : List (Call M)) (h : History M) : Type 0 where
  pub led : Led (terms t i.interval bank) (view d) calls h
  pub after_each : (k : ℕ) → k ≤ length calls → Accounted t m i (terms t i.interval bank) calls h k
  pub accounts : Accounts h (view d)
