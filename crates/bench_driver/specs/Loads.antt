-- Loads: what their bytes stand for, and the checksum of what is answered.
use Rattle.std.specs.Prelude.{◌≡◌, ℕ, ◌+◌, ◌-◌, ◌*◌, false, cond, List, [], ◌∷◌, ◌++◌, fold, ◌==◌, nat_lt}
use Rattle.messages.specs.declared.note.Note.{Note}
use Rattle.messages.specs.declared.note.NoteKind.TheVariants.{Tilt}
use Rattle.rows.specs.Rings.{row_limit, row_number}
use Rattle.chains.specs.Chains.{chain_number, chain_size}
use Rattle.dispatcher.specs.Machine.{Terms, State, run, step}
use Rattle.dispatcher.specs.Shown.{Shows}
use Rattle.dispatcher.specs.Views.{View}
use Rattle.dispatcher.specs.declared.call.Call.{Call}
use Rattle.dispatcher.specs.declared.call.Call.TheVariants.{Ask, Dispatch, Name, Open, Post, Turn}
use Rattle.bench_driver.specs.Numbers.{mixed, number_of}

-- a tilt note of the interval i, of pad i, that has the cycle z as its payload
abbrev pub note_at : ℕ → ℕ → Note
note_at z i = record { pad = i; kind = Tilt; interval = i; payload = z }

-- the call that a byte stands for in the cycle z: 0 a dispatch, 1 to 127 a post of that interval, 128 a turn to the next
-- cycle, 129 a naming, any other the question how things stand
abbrev pub call_for : ℕ → ℕ → Call Note
call_for z byte =
    cond (byte == 0) Dispatch
    (cond (nat_lt byte 128) (Post (note_at z byte)) (cond (byte == 128) (Turn (z + 1)) (cond (byte == 129) Name Ask)))

-- the calls that a load stands for: an opening at cycle 0 and receipt 0, and then one for each byte, in the cycle to which
-- those before it led
abbrev pub calls_of : Terms Note → List ℕ → List (Call Note)
calls_of b load = fold (λ cs byte. cs ++ call_for (run b cs).state.cycle byte ∷ []) (Open 0 0 ∷ []) load

-- the checksum of all that the machine answers to a load
abbrev pub checksum : Terms Note → List ℕ → ℕ
checksum b load = fold (λ sum e. mixed sum (number_of e)) 0 (run b (calls_of b load)).history

-- the interval that a note tells
abbrev pub note_interval : Note → ℕ
note_interval n = n.interval

-- what a dispatcher is made with over an empty row bank, and over an empty chain bank, of so many cells and trays
abbrev pub terms_over_rows : ℕ → ℕ → Terms Note
terms_over_rows cells trays =
    record { interval = note_interval; span = row_number cells trays - 1; tray_limit = row_limit cells trays; total_limit = row_number cells trays * row_limit cells trays; holds = false }

abbrev pub terms_over_chains : ℕ → ℕ → Terms Note
terms_over_chains cells trays =
    record { interval = note_interval; span = chain_number cells trays - 1; tray_limit = chain_size cells trays; total_limit = chain_size cells trays; holds = false }

-- from v to w by the call that the byte stands for: n is the number of what the machine answers, and w shows its next state
abbrev pub AnswersByte : View Note → View Note → ℕ → ℕ → Type 0
AnswersByte v w byte n =
    (b : Terms Note) (m : State Note) → Shows b v m → (n ≡ number_of (step b m (call_for m.cycle byte)).0) × Shows b w (step b m (call_for m.cycle byte)).1
