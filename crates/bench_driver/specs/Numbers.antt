-- What was answered, as numbers of 64 bits.
use Rattle.std.specs.Prelude.{ℕ, ◌+◌, ◌*◌, ◌%◌, ◌^◌, Some, None, Ok, Err, Result}
use Rattle.messages.specs.Refusals.{refusal_number}
use Rattle.messages.specs.declared.note.Note.{Note}
use Rattle.messages.specs.declared.refusal.Refusal.{Refusal}
use Rattle.dispatcher.specs.declared.entry.Entry.{Entry}
use Rattle.dispatcher.specs.declared.event.Event.{Event}
use Rattle.dispatcher.specs.declared.event.Event.TheVariants.{Asked, Begun, Dispatched, Named, Opened, Posted, Refused, Turned, Warned}

-- a checksum with one number more
abbrev pub mixed : ℕ → ℕ → ℕ
mixed sum n = (sum * 31 + n) % 2 ^ 64

-- two numbers as one, the first in the upper half
abbrev pub halved : ℕ → ℕ → ℕ
halved upper lower = (upper * 2 ^ 32 + lower) % 2 ^ 64

-- an entry: its deadline in the upper half and its receipt in the lower, and its payload added
abbrev pub number_of_entry : Entry Note → ℕ
number_of_entry e = halved e.deadline (e.receipt + e.message.payload)

-- what happened at one call; where nothing was given out, a number that no refusal has
abbrev pub number_of : Event Note → ℕ
number_of (Refused c k) = refusal_number k
number_of (Opened z r) = 32
number_of (Posted e) = number_of_entry e
number_of (Dispatched (Some e)) = number_of_entry e
number_of (Dispatched None) = 33
number_of (Turned z late) = halved z late
number_of (Named (Some e)) = number_of_entry e
number_of (Named None) = 34
number_of (Warned c o) = 35
number_of Begun = 36
number_of (Asked g) = mixed g.pending g.waiting

-- the number of an answer, or of why it was refused
abbrev pub number_told : Result ℕ Refusal → ℕ
number_told (Ok n) = n
number_told (Err k) = refusal_number k
