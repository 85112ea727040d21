-- The bank that a header asks for: 256 cells, with nothing in them.
use Rattle.std.specs.Prelude.{ℕ, ◌-◌, ◌*◌, ◌/◌, false}
use Rattle.dispatcher.specs.Machine.{Terms}
use Rattle.steps.specs.declared.header.BankKind.{BankKind}
use Rattle.steps.specs.declared.header.BankKind.TheVariants.{Row, Chain}
use Rattle.steps.specs.declared.header.Header.{Header}

-- how many cells one tray takes, and how many all trays do
abbrev pub cells_of_each : BankKind → ℕ → ℕ
cells_of_each Row trays = 256 / trays
cells_of_each Chain trays = 256

abbrev pub cells_of_all : BankKind → ℕ → ℕ
cells_of_all Row trays = trays * (256 / trays)
cells_of_all Chain trays = 256

-- a message tells its interval
abbrev pub bank_terms : {M : Type 0} → (M → ℕ) → Header → Terms M
bank_terms interval h = record { interval = interval; span = h.trays - 1; tray_limit = cells_of_each h.bank h.trays; total_limit = cells_of_all h.bank h.trays; holds = false }
