-- A call and its result as one event.
use Rattle.std.specs.Prelude.{Ok, Err, Result}
use Rattle.messages.specs.declared.refusal.Refusal.{Refusal}
use Rattle.dispatcher.specs.declared.call.Call.{Call}
use Rattle.dispatcher.specs.declared.entry.Entry.{Entry}
use Rattle.dispatcher.specs.declared.entry.Slip.{Slip}
use Rattle.dispatcher.specs.declared.event.Event.{Event}
use Rattle.dispatcher.specs.declared.event.Event.TheVariants.{Refused}

-- the call c was refused, or accepted with the event that `accepted` makes of its answer
abbrev pub answered : {M X : Type 0} → Call M → (X → Event M) → Result X Refusal → Event M
answered c accepted (Ok x) = accepted x
answered c accepted (Err k) = Refused c k

-- the entry of an accepted post
abbrev pub entered : {M : Type 0} → Slip → M → Entry M
entered p x = record { receipt = p.receipt; message = x; deadline = p.deadline }
