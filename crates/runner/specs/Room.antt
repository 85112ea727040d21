-- How much room the lines of a listing take.
use Rattle.std.specs.Prelude.{◌≡◌, ℕ, ◌+◌, ◌<◌, ◌≤◌, List, [], ◌∷◌, length, Some, None, Option}
use Rattle.std.specs.List.{AllByRecursion}
use Rattle.dispatcher.specs.declared.call.Call.{Call}
use Rattle.dispatcher.specs.declared.entry.Entry.{Entry}
use Rattle.dispatcher.specs.declared.event.Event.{Event}
use Rattle.dispatcher.specs.declared.entry.Warning.{Warning}
use Rattle.dispatcher.specs.declared.call.Call.TheVariants.{Ask, Begin, Dispatch, Name, Open, Post, Turn, Warn}
use Rattle.dispatcher.specs.declared.event.Event.TheVariants.{Asked, Begun, Dispatched, Named, Opened, Posted, Refused, Turned, Warned}
use Rattle.steps.specs.declared.fault.Fault.{Fault}

-- at most four digits
abbrev pub Brief : ℕ → Type 0
Brief n = n < 10000

abbrev pub BriefEntry : {M : Type 0} → Option (Entry M) → Type 0
BriefEntry None = Unit {0}
BriefEntry (Some e) = Brief e.receipt × Brief e.deadline

abbrev pub BriefWarning : Option Warning → Type 0
BriefWarning None = Unit {0}
BriefWarning (Some w) = Brief w.ahead × Brief w.load

-- the numbers of an event's line are brief, but for those that its message tells
abbrev pub BriefEvent : {M : Type 0} → Event M → Type 0
BriefEvent (Refused c k) = Unit {0}
BriefEvent (Opened z r) = Unit {0}
BriefEvent (Posted e) = Brief e.receipt × Brief e.deadline
BriefEvent (Dispatched o) = BriefEntry o
BriefEvent (Turned t n) = Brief t × Brief n
BriefEvent (Named o) = BriefEntry o
BriefEvent (Warned c o) = BriefWarning o
BriefEvent Begun = Unit {0}
BriefEvent (Asked g) = Brief g.accepted × Brief g.dispatched × Brief g.late × Brief g.pending × Brief g.waiting

abbrev pub BriefFault : Option Fault → Type 0
BriefFault None = Unit {0}
BriefFault (Some fault) = fault.offset < 100000

-- what the line of a call's event takes at most, where its numbers are brief
abbrev pub room : {M : Type 0} → Call M → ℕ
room (Open z r) = 20
room (Post m) = 20
room Dispatch = 20
room (Turn t) = 20
room Name = 20
room (Warn c) = 20
room Begin = 20
room Ask = 27

abbrev pub room_for : {M : Type 0} → List (Call M) → ℕ
room_for [] = 0
room_for (c ∷ cs) = room c + room_for cs

-- an opening, if it is one, at cycle 0 and receipt 0
abbrev pub FromZero : {M : Type 0} → Call M → Type 0
FromZero (Open z r) = (z ≡ 0) × (r ≡ 0)
FromZero (Post m) = Unit {0}
FromZero Dispatch = Unit {0}
FromZero (Turn t) = Unit {0}
FromZero Name = Unit {0}
FromZero (Warn c) = Unit {0}
FromZero Begin = Unit {0}
FromZero Ask = Unit {0}

-- calls so few that the lines of their events are brief and fit an output, with the longest line of a fault behind them
pub record FewCalls {M : Type 0} (calls : List (Call M)) : Type 0 where
  pub few : length calls ≤ 3002
  pub from_zero : AllByRecursion FromZero calls
  pub fit : room_for calls + 11 ≤ 65536
