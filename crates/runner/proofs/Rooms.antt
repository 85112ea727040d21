-- The room for the lines of a list of events.
use Rattle.std.proofs.Common.{◌≡◌, ℕ, zero, suc, ◌+◌, ◌<◌, ◌≤◌, List, [], ◌∷◌, ◌++◌, map, length, get_or, take, ap, arith}
use Rattle.std.proofs.lemmas.List.{map_more}
use Rattle.dispatcher.specs.declared.call.Call.{Call}
use Rattle.dispatcher.specs.declared.event.Event.{Event}
use Rattle.dispatcher.specs.Machine.{call_of}
use Rattle.runner.specs.Room.{room, room_for}

module _ {M : Type 0} where
  pub room_append : (cs ds : List (Call M)) → room_for (cs ++ ds) ≡ room_for cs + room_for ds
  room_append [] ds = omega arith
  room_append (c ∷ cs) ds = let ih = room_append cs ds in omega arith

  pub room_next : (es : List (Event M)) (i : ℕ) (d : Event M) → i < length es → room_for (map call_of (take (i + 1) es)) ≡ room_for (map call_of (take i es)) + room (call_of (get_or es i d))
  room_next es i d h =
      let a = ap room_for (map_more call_of es i d h) in
      let b = room_append (map call_of (take i es)) (call_of (get_or es i d) ∷ []) in omega arith

  take_roomy : (n : ℕ) (es : List (Event M)) → room_for (map call_of (take n es)) ≤ room_for (map call_of es)
  take_roomy zero es = omega arith
  take_roomy (suc n) [] = omega arith
  take_roomy (suc n) (e ∷ es) = let ih = take_roomy n es in omega arith

  pub next_roomy : (es : List (Event M)) (i : ℕ) (d : Event M) → i < length es → room_for (map call_of (take i es)) + room (call_of (get_or es i d)) ≤ room_for (map call_of es)
  next_roomy es i d h = let a = room_next es i d h in let b = take_roomy (i + 1) es in omega arith
