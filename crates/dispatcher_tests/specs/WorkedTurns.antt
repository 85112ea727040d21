-- What the rules give for some small lessons: a note has pad 7 and tells a tilt, and each lesson is over a row bank.
use Rattle.std.specs.Prelude.{◌≡◌, ℕ, ◌-◌, ◌*◌, false, List, [], ◌∷◌, ◌++◌, Some, None}
use Rattle.messages.specs.declared.note.Note.{Note}
use Rattle.messages.specs.declared.note.NoteKind.TheVariants.{Tilt}
use Rattle.messages.specs.declared.refusal.Refusal.TheVariants.{Full, NotNextCycle}
use Rattle.rows.specs.Rings.{row_limit, row_number}
use Rattle.dispatcher.specs.Machine.{Terms, run}
use Rattle.dispatcher.specs.declared.call.Call.{Call}
use Rattle.dispatcher.specs.declared.entry.Entry.{Entry}
use Rattle.dispatcher.specs.declared.event.Event.{Event}
use Rattle.dispatcher.specs.declared.call.Call.TheVariants.{Dispatch, Name, Open, Post, Turn, Warn}
use Rattle.dispatcher.specs.declared.event.Event.TheVariants.{Dispatched, Opened, Posted, Refused, Turned, Warned}

-- a note of the interval i, and its entry under a receipt
abbrev pub note : ℕ → Note
note i = record { pad = 7; kind = Tilt; interval = i; payload = 0 }

abbrev pub entry : ℕ → ℕ → ℕ → Entry Note
entry receipt i deadline = record { receipt = receipt; message = note i; deadline = deadline }

-- what a dispatcher is made with over an empty row bank of so many cells and trays
abbrev pub terms_over_rows : ℕ → ℕ → Terms Note
terms_over_rows cells trays =
    record { interval = λ n. n.interval; span = row_number cells trays - 1; tray_limit = row_limit cells trays; total_limit = row_number cells trays * row_limit cells trays; holds = false }

-- these calls, on a new dispatcher over such a bank, are answered so; in the others it has four trays of two cells, and
-- is opened at cycle 0 and receipt 0
abbrev pub GivesOver : ℕ → ℕ → List (Call Note) → List (Event Note) → Type 0
GivesOver cells trays calls events = (run (terms_over_rows cells trays) calls).history ≡ events

abbrev pub Gives : List (Call Note) → List (Event Note) → Type 0
Gives calls events = GivesOver 8 4 (Open 0 0 ∷ calls) (Opened 0 0 ∷ events)

-- the late count after such calls
abbrev pub late_after : List (Call Note) → ℕ
late_after calls = (run (terms_over_rows 8 4) (Open 0 0 ∷ calls)).state.late

-- from cycle 4 to cycle 9, with a note of interval 6
abbrev pub to_nine : List (Call Note)
to_nine = Open 4 0 ∷ Post (note 6) ∷ Turn 5 ∷ Turn 6 ∷ Turn 7 ∷ Turn 8 ∷ Turn 9 ∷ []

abbrev pub up_to_nine : List (Event Note)
up_to_nine =
    Opened 4 0 ∷ Posted (entry 0 6 10) ∷ Turned 5 0 ∷ Turned 6 0 ∷ Turned 7 0 ∷ Turned 8 0 ∷ Turned 9 0 ∷ []

-- notes of the intervals 2, 1, 2, 1 in one cycle
abbrev pub four_notes : List (Call Note)
four_notes = Post (note 2) ∷ Post (note 1) ∷ Post (note 2) ∷ Post (note 1) ∷ []

abbrev pub four_posted : List (Event Note)
four_posted = Posted (entry 0 2 2) ∷ Posted (entry 1 1 1) ∷ Posted (entry 2 2 2) ∷ Posted (entry 3 1 1) ∷ []

pub record WorkedTurns : Type 0 where
  -- with 121 trays, opened at cycle 4, interval 6 has the deadline 10: a dispatch in cycle 9 serves it, else it is late
  pub served_in_time : GivesOver 1024 121 (to_nine ++ Dispatch ∷ Turn 10 ∷ []) (up_to_nine ++ Dispatched (Some (entry 0 6 10)) ∷ Turned 10 0 ∷ [])
  pub late_in_its_cycle : GivesOver 1024 121 (to_nine ++ Turn 10 ∷ Dispatch ∷ []) (up_to_nine ++ Turned 10 1 ∷ Dispatched None ∷ [])
  -- four trays serve interval 3
  pub longest_interval : Gives (Post (note 3) ∷ []) (Posted (entry 0 3 3) ∷ [])
  -- of one deadline, the first posted leaves first
  pub first_posted_first : Gives (Post (note 3) ∷ Turn 1 ∷ Post (note 2) ∷ Dispatch ∷ Dispatch ∷ []) (Posted (entry 0 3 3) ∷ Turned 1 0 ∷ Posted (entry 1 2 3) ∷ Dispatched (Some (entry 0 3 3)) ∷ Dispatched (Some (entry 1 2 3)) ∷ [])
  -- the earlier deadline leaves first, and not the shorter interval
  pub by_deadline_not_interval : Gives (Post (note 3) ∷ Turn 1 ∷ Turn 2 ∷ Post (note 2) ∷ Dispatch ∷ []) (Posted (entry 0 3 3) ∷ Turned 1 0 ∷ Turned 2 0 ∷ Posted (entry 1 2 4) ∷ Dispatched (Some (entry 0 3 3)) ∷ [])
  -- one service in each cycle is too few for two that are due within one; two suffice
  pub warned : Gives (four_notes ++ Warn 1 ∷ Warn 2 ∷ []) (four_posted ++ Warned 1 (Some (record { ahead = 1; load = 2 })) ∷ Warned 2 None ∷ [])
  -- one dispatch in each of two cycles leaves two late
  pub two_late : late_after (four_notes ++ Warn 1 ∷ Warn 2 ∷ Dispatch ∷ Turn 1 ∷ Name ∷ Dispatch ∷ Turn 2 ∷ []) ≡ 2
  -- no services at all: enough for nothing, and not for one entry that is due within two cycles
  pub no_services : Gives (Warn 0 ∷ Post (note 2) ∷ Warn 0 ∷ []) (Warned 0 None ∷ Posted (entry 0 2 2) ∷ Warned 0 (Some (record { ahead = 2; load = 1 })) ∷ [])
  -- a full tray refuses; a dispatch frees the place
  pub room_again : Gives (Post (note 1) ∷ Post (note 1) ∷ Post (note 1) ∷ Dispatch ∷ Post (note 1) ∷ []) (Posted (entry 0 1 1) ∷ Posted (entry 1 1 1) ∷ Refused (Post (note 1)) Full ∷ Dispatched (Some (entry 0 1 1)) ∷ Posted (entry 2 1 1) ∷ [])
  -- three cells are too few for four row trays, so there are none
  pub too_few_cells : row_number 3 4 ≡ 0
  -- the timer has to be one cycle on
  pub not_the_next : Gives (Turn 0 ∷ []) (Refused (Turn 0) NotNextCycle ∷ [])
