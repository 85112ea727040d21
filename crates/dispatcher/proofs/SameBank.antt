-- A dispatcher is its parts: what its ghost fields say has one proof.
use Rattle.std.proofs.Common.{◌≡◌, ◌≤◌}
use native.Mathlib.Bridge.{le_prop}
use Rattle.banks.specs.declared.bank.Trays
use Rattle.messages.specs.declared.message.Message
use Rattle.messages.specs.declared.message.Timed
use Rattle.dispatcher.specs.declared.dispatcher.Dispatcher.{Dispatcher}

pub same_bank : {B M : Type 0} {t : Trays.Ghosts B M} {m : Message.Ghosts M} {i : Timed.Ghosts M} (d : Dispatcher B M t m i) (x : B) (early : d.cycle ≤ 4000000000) (few : d.receipt ≤ 4000000000) → x ≡ d.bank → record { bank = x; ring = d.ring; begun = d.begun; cycle = d.cycle; receipt = d.receipt; accepted = d.accepted; dispatched = d.dispatched; late = d.late; early = early; few = few } ≡ d
same_bank d x early few e =
    λ i. record { bank = e i; ring = d.ring; begun = d.begun; cycle = d.cycle; receipt = d.receipt; accepted = d.accepted; dispatched = d.dispatched; late = d.late; early = le_prop early d.early i; few = le_prop few d.few i }
