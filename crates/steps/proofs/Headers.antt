-- The headers are just the lists of bytes within the header's ranges.
use Rattle.std.proofs.Common.{◌≡◌, ℕ, ◌≤◌, List, get_or, Err, sym, refl, subst, ⊎_elim, arith, rules}
use Rattle.std.proofs.lemmas.Bool.{cases_eq}
use Rattle.steps.specs.declared.fault.Unlawful.{Unlawful}
use Rattle.steps.specs.declared.ranges.ByteRange.{ByteRange}
use Rattle.steps.specs.declared.header.MessageType.{MessageType}
use Rattle.steps.specs.declared.header.MessageType.TheVariants as type
use Rattle.steps.specs.declared.header.BankKind.{BankKind}
use Rattle.steps.specs.declared.header.BankKind.TheVariants.{Row, Chain}
use Rattle.steps.specs.declared.header.Header.{Header}
use Rattle.steps.specs.Ranges.{Cut, Within}
use Rattle.steps.specs.Layout.{header_bytes, type_number, bank_number}
use Rattle.steps.specs.Tables.{ranges_of_header}
use Rattle.steps.specs.Reading.{IsHeader, Reads, SomeIs}
use Rattle.steps.proofs.Insides.{cut_refused}

pub type_of : (n : ℕ) → 1 ≤ n → n ≤ 2 → (t : MessageType) × (type_number t ≡ n)
type_of n l h = ⊎_elim (λ e. (type.Pen, sym e)) (λ e. (type.Note, omega arith)) (cases_eq n 1)

pub bank_of : (n : ℕ) → 1 ≤ n → n ≤ 2 → (b : BankKind) × (bank_number b ≡ n)
bank_of n l h = ⊎_elim (λ e. (Row, sym e)) (λ e. (Chain, omega arith)) (cases_eq n 1)

said : (g : List ℕ) → Within ranges_of_header g → (h : Header) → type_number h.message_type ≡ get_or g 5 0 → h.trays ≡ get_or g 6 0 → bank_number h.bank ≡ get_or g 7 0 → IsHeader h g
said g w h t n b = (search rules, (search rules, search rules))

within_header : (g : List ℕ) → Within ranges_of_header g → SomeIs IsHeader g
within_header g w =
    let t = type_of (get_or g 5 0) (search rules) (search rules) in
    let b = bank_of (get_or g 7 0) (search rules) (search rules) in
    let h : Header = record { message_type = t.0; trays = get_or g 6 0; bank = b.0 } in (h, said g w h t.1 refl b.1)

type_bounds : (t : MessageType) → (1 ≤ type_number t) × (type_number t ≤ 2)
type_bounds type.Pen = (omega arith, omega arith)
type_bounds type.Note = (omega arith, omega arith)

bank_bounds : (b : BankKind) → (1 ≤ bank_number b) × (bank_number b ≤ 2)
bank_bounds Row = (omega arith, omega arith)
bank_bounds Chain = (omega arith, omega arith)

header_within : (g : List ℕ) → SomeIs IsHeader g → Within ranges_of_header g
header_within g s =
    let t = type_bounds s.0.message_type in
    let b = bank_bounds s.0.bank in
    let w : Within ranges_of_header (header_bytes s.0) = search rules in subst (Within ranges_of_header) (sym s.1.0) w

pub header_refused : (rs : List ByteRange) (table : rs ≡ ranges_of_header) (file : List ℕ) (err : Unlawful) → Cut rs file (Err err) → Reads IsHeader 8 file (Err err)
header_refused rs table file err c = cut_refused ranges_of_header (search rules) within_header header_within file err (subst (λ x. Cut x file (Err err)) table c)
