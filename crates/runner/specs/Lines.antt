-- The lines of a listing, as bytes.
use Rattle.std.specs.Prelude.{ℕ, List, [], ◌∷◌, ◌++◌, Some, None, codes, decimal, Option}
use Rattle.std.specs.List.{flat_map}
use Rattle.dispatcher.specs.declared.entry.Entry.{Entry}
use Rattle.dispatcher.specs.declared.event.Event.{Event}
use Rattle.dispatcher.specs.declared.entry.Warning.{Warning}
use Rattle.dispatcher.specs.declared.event.Event.TheVariants.{Asked, Begun, Dispatched, Named, Opened, Posted, Refused, Turned, Warned}
use Rattle.messages.specs.Refusals.{refusal_number}
use Rattle.steps.specs.declared.fault.Fault.{Fault}

-- a space and a number
abbrev pub part : ℕ → List ℕ
part n = 32 ∷ decimal n

-- a letter, the numbers, and the end of the line
abbrev pub line : List ℕ → List ℕ → List ℕ
line letter numbers = letter ++ (flat_map part numbers ++ 10 ∷ [])

-- the line of a call that was answered none
abbrev pub none_line : List ℕ → List ℕ
none_line letter = letter ++ 32 ∷ 45 ∷ 10 ∷ []

abbrev pub warning_line : Option Warning → List ℕ
warning_line None = none_line (codes "W")
warning_line (Some w) = line (codes "W") (w.ahead ∷ w.load ∷ [])

-- where the file stops being lawful, if it does
abbrev pub fault_line : Option Fault → List ℕ
fault_line None = []
fault_line (Some fault) = line (codes "F") (refusal_number fault.refusal ∷ fault.offset ∷ [])

-- a message tells its pad and its kind
module _ {M : Type 0} (pad kind : M → ℕ) where
  abbrev pub entry_line : List ℕ → Option (Entry M) → List ℕ
  entry_line letter None = none_line letter
  entry_line letter (Some e) =
      line letter (e.receipt ∷ e.deadline ∷ pad e.message ∷ kind e.message ∷ [])

  -- the line of each event; an opening and a beginning have none
  abbrev pub line_of : Event M → List ℕ
  line_of (Refused c k) = line (codes "R") (refusal_number k ∷ [])
  line_of (Opened z r) = []
  line_of (Posted e) = line (codes "P") (e.receipt ∷ e.deadline ∷ [])
  line_of (Dispatched o) = entry_line (codes "D") o
  line_of (Turned t n) = line (codes "T") (t ∷ n ∷ [])
  line_of (Named o) = entry_line (codes "L") o
  line_of (Warned c o) = warning_line o
  line_of Begun = []
  line_of (Asked g) =
      line (codes "E") (g.accepted ∷ g.dispatched ∷ g.late ∷ g.pending ∷ g.waiting ∷ [])
