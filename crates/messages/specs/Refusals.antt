-- The number of each refusal.
use Rattle.std.specs.Prelude.{ℕ}
use Rattle.messages.specs.declared.refusal.Refusal.{Refusal}
use Rattle.messages.specs.declared.refusal.Refusal.TheVariants.{Shut, AlreadyOpen, StartTooHigh, UnfitBank, IntervalOutOfRange, Full, ReceiptsUsedUp, NotNextCycle, LateWaiting, CyclesUsedUp, OutOfPhase, TooManyServices, BadHeader, BadRecord, NoSuchTray, OutputTooShort}

abbrev pub refusal_number : Refusal → ℕ
refusal_number Shut = 1
refusal_number AlreadyOpen = 2
refusal_number StartTooHigh = 3
refusal_number UnfitBank = 4
refusal_number IntervalOutOfRange = 5
refusal_number Full = 6
refusal_number ReceiptsUsedUp = 7
refusal_number NotNextCycle = 8
refusal_number LateWaiting = 9
refusal_number CyclesUsedUp = 10
refusal_number OutOfPhase = 11
refusal_number TooManyServices = 12
refusal_number BadHeader = 13
refusal_number BadRecord = 14
refusal_number NoSuchTray = 15
refusal_number OutputTooShort = 16
