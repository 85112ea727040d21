-- How long lines with brief numbers are.
use Rattle.std.proofs.Common.{◌≡◌, ℕ, ◌+◌, ◌<◌, ◌≤◌, List, [], ◌∷◌, length, decimal, refl, arith, length-append}
use Rattle.std.specs.List.{flat_map}
use Rattle.std.proofs.lemmas.Fmt.{length-decimal-le}
use Rattle.messages.specs.declared.refusal.Refusal.{Refusal}
use Rattle.messages.specs.declared.refusal.Refusal.TheVariants.{Shut, AlreadyOpen, StartTooHigh, UnfitBank, IntervalOutOfRange, Full, ReceiptsUsedUp, NotNextCycle, LateWaiting, CyclesUsedUp, OutOfPhase, TooManyServices, BadHeader, BadRecord, NoSuchTray, OutputTooShort}
use Rattle.messages.specs.Refusals.{refusal_number}
use Rattle.runner.specs.Lines.{line, part}
use Rattle.dispatcher.specs.declared.call.Call.{Call}
use Rattle.dispatcher.specs.declared.call.Call.TheVariants.{Ask, Begin, Dispatch, Name, Open, Post, Turn, Warn}
use Rattle.runner.specs.Room.{Brief, room}

total : List ℕ → ℕ
total [] = 0
total (n ∷ ns) = 1 + length (decimal n) + total ns

parts_length : (ns : List ℕ) → length (flat_map part ns) ≡ total ns
unfolding total
parts_length [] = refl
parts_length (n ∷ ns) =
    let a = length-append (part n) (flat_map part ns) in let ih = parts_length ns in omega arith

line_length : (letter : ℕ) (ns : List ℕ) → length (line (letter ∷ []) ns) ≡ 2 + total ns
line_length letter ns =
    let a = length-append (flat_map part ns) (10 ∷ []) in let b = parts_length ns in omega arith

brief_width : (n : ℕ) → Brief n → length (decimal n) ≤ 4
brief_width n h = length-decimal-le 4 n (omega arith) h (omega arith)

byte_width : (n : ℕ) → n < 256 → length (decimal n) ≤ 3
byte_width n h = length-decimal-le 3 n (omega arith) (omega arith) (omega arith)

pub small_refusal : (k : Refusal) → refusal_number k < 17
small_refusal Shut = omega arith
small_refusal AlreadyOpen = omega arith
small_refusal StartTooHigh = omega arith
small_refusal UnfitBank = omega arith
small_refusal IntervalOutOfRange = omega arith
small_refusal Full = omega arith
small_refusal ReceiptsUsedUp = omega arith
small_refusal NotNextCycle = omega arith
small_refusal LateWaiting = omega arith
small_refusal CyclesUsedUp = omega arith
small_refusal OutOfPhase = omega arith
small_refusal TooManyServices = omega arith
small_refusal BadHeader = omega arith
small_refusal BadRecord = omega arith
small_refusal NoSuchTray = omega arith
small_refusal OutputTooShort = omega arith

refusal_width : (k : Refusal) → length (decimal (refusal_number k)) ≤ 2
refusal_width k = let s = small_refusal k in length-decimal-le 2 (refusal_number k) (omega arith) (omega arith) (omega arith)

pub refused_room : (letter : ℕ) (k : Refusal) → length (line (letter ∷ []) (refusal_number k ∷ [])) ≤ 20
unfolding total
refused_room letter k =
    let e = line_length letter (refusal_number k ∷ []) in let a = refusal_width k in omega arith

pub two_room : (letter a b : ℕ) → Brief a → Brief b → length (line (letter ∷ []) (a ∷ b ∷ [])) ≤ 20
unfolding total
two_room letter a b h i =
    let e = line_length letter (a ∷ b ∷ []) in let p = brief_width a h in let q = brief_width b i in omega arith

pub entry_room : (letter a b c d : ℕ) → Brief a → Brief b → c < 256 → d < 256 → length (line (letter ∷ []) (a ∷ b ∷ c ∷ d ∷ [])) ≤ 20
unfolding total
entry_room letter a b c d h i j k =
    let e = line_length letter (a ∷ b ∷ c ∷ d ∷ []) in
    let p = brief_width a h in
    let q = brief_width b i in
    let r = byte_width c j in
    let s = byte_width d k in omega arith

pub five_room : (letter a b c d e : ℕ) → Brief a → Brief b → Brief c → Brief d → Brief e → length (line (letter ∷ []) (a ∷ b ∷ c ∷ d ∷ e ∷ [])) ≤ 27
unfolding total
five_room letter a b c d e h i j k l =
    let n = line_length letter (a ∷ b ∷ c ∷ d ∷ e ∷ []) in
    let p = brief_width a h in
    let q = brief_width b i in
    let r = brief_width c j in
    let s = brief_width d k in
    let t = brief_width e l in omega arith

pub fault_room : (letter : ℕ) (k : Refusal) (offset : ℕ) → offset < 100000 → length (line (letter ∷ []) (refusal_number k ∷ offset ∷ [])) ≤ 11
unfolding total
fault_room letter k offset h =
    let e = line_length letter (refusal_number k ∷ offset ∷ []) in
    let a = refusal_width k in
    let b = length-decimal-le 5 offset (omega arith) h (omega arith) in omega arith

-- no call's line has less room than this
pub least_room : {M : Type 0} (c : Call M) → 20 ≤ room c
least_room (Open z r) = omega arith
least_room (Post m) = omega arith
least_room Dispatch = omega arith
least_room (Turn t) = omega arith
least_room Name = omega arith
least_room (Warn c) = omega arith
least_room Begin = omega arith
least_room Ask = omega arith

-- the same, as the room that the output has
pub two_fit : (letter a b at len : ℕ) → Brief a → Brief b → at + 20 ≤ len → at + length (line (letter ∷ []) (a ∷ b ∷ [])) ≤ len
two_fit letter a b at len h i l = let r = two_room letter a b h i in omega arith

pub entry_fits : (letter a b c d at len : ℕ) → Brief a → Brief b → c < 256 → d < 256 → at + 20 ≤ len → at + length (line (letter ∷ []) (a ∷ b ∷ c ∷ d ∷ [])) ≤ len
entry_fits letter a b c d at len h i j k l = let r = entry_room letter a b c d h i j k in omega arith

pub fault_fits : (letter a b at len : ℕ) → a < 100 → b < 100000 → at + 11 ≤ len → at + length (line (letter ∷ []) (a ∷ b ∷ [])) ≤ len
unfolding total
fault_fits letter a b at len h i l =
    let e = line_length letter (a ∷ b ∷ []) in
    let p = length-decimal-le 2 a (omega arith) h (omega arith) in
    let q = length-decimal-le 5 b (omega arith) i (omega arith) in omega arith
