-- What a dispatcher's ring says: it is there exactly where the dispatcher is open.
use Rattle.std.proofs.Common.{◌≡◌, ◌+◌, ◌%◌, ℕ, true, false, Some, None, Ok, Err, Option, Result, sym, ap, ◌∙◌, subst}
use Rattle.std.specs.Prelude.{is_some, option_map}
use Rattle.std.specs.Result.{result_ok}
use Rattle.banks.specs.declared.bank.Trays
use Rattle.banks.specs.Trays.{Takes}
use Rattle.messages.specs.declared.message.Message
use Rattle.messages.specs.declared.message.Timed
use Rattle.messages.specs.declared.refusal.Refusal.{Refusal}
use Rattle.messages.specs.declared.refusal.Refusal.TheVariants.{Shut}
use Rattle.dispatcher.specs.declared.dispatcher.Dispatcher.{Dispatcher}
use Rattle.dispatcher.specs.declared.entry.Entry.{Entry}
use Rattle.dispatcher.specs.declared.ring.Ring.{Ring}
use Rattle.dispatcher.specs.Answers.{answered}
use Rattle.dispatcher.specs.Machine.{Call, Event, State, Terms, refusal}
use Rattle.dispatcher.specs.Shown.{Shows, cell_of, state_of}
use Rattle.dispatcher.specs.Views.{span_of, view}
use Rattle.dispatcher.specs.WholeRuns.{LawfulCall}
use Rattle.dispatcher.proofs.Calling.{refuse}
use Rattle.dispatcher.proofs.RealRuns.{lawful}

module _ {B M : Type 0} {t : Trays.Ghosts B M} {m : Message.Ghosts M} {i : Timed.Ghosts M} (d : Dispatcher B M t m i) where
  -- a refusal with the number k, which leaves the dispatcher as it was
  pub refuses : {X : Type 0} (c : Call M) (f : X → Event M) (r : Result X Refusal) (k : Refusal) → r ≡ Err k → ((b : Terms M) (s : State M) → Shows b (view d) s → refusal b (state_of (view d) s.pending s.waiting) c ≡ Some k) → LawfulCall d d c (answered c f r)
  refuses c f r k e h =
      subst (λ x. LawfulCall d d c (answered c f x)) (sym e) (lawful d d c _ (λ b s w. refuse b (view d) s c w k (h b s w)))

  -- what asking for the ring, or else a refusal, answered
  pub found : (r : Result Ring Refusal) (ring : Ring) → d.ring ≡ result_ok r → r ≡ Ok ring → d.ring ≡ Some ring
  found r ring e f = e ∙ ap result_ok f

  pub missing : (r : Result Ring Refusal) (k : Refusal) → d.ring ≡ result_ok r → r ≡ Err k → d.ring ≡ None
  missing r k e f = e ∙ ap result_ok f

  pub opened : (ring : Ring) → d.ring ≡ Some ring → (view d).is_open ≡ true
  opened ring e = ap is_some e

  pub shut : d.ring ≡ None → (view d).is_open ≡ false
  shut e = ap is_some e

  -- a call whose first test is that the dispatcher is open, where there is no ring
  pub refuses_shut : {X : Type 0} (c : Call M) (f : X → Event M) (r : Result X Refusal) (q : Result Ring Refusal) (k : Refusal) → d.ring ≡ result_ok q → q ≡ Err k → r ≡ Err Shut → ((b : Terms M) (s : State M) → (view d).is_open ≡ false → refusal b (state_of (view d) s.pending s.waiting) c ≡ Some Shut) → LawfulCall d d c (answered c f r)
  refuses_shut c f r q k e n h test =
      refuses c f r Shut h (λ b s w. test b s (shut (missing q k e n)))

  pub span_is : (ring : Ring) → d.ring ≡ Some ring → ring.span ≡ (view d).span
  span_is ring e = ap span_of (sym e)

  -- the tray of a cycle
  pub tray_is : (ring : Ring) (z : ℕ) → d.ring ≡ Some ring → z % (ring.span + 1) ≡ z % ((view d).span + 1)
  tray_is ring z e = ap (λ n. z % (n + 1)) (span_is ring e)

  -- a take from the tray of a cycle
  pub taken : {after : B} (ring : Ring) (z : ℕ) (r : Option (Entry M)) → d.ring ≡ Some ring → Takes t.trays t.tray_limit t.total_limit d.bank after (z % (ring.span + 1)) (option_map cell_of r) → Takes t.trays t.tray_limit t.total_limit d.bank after (z % ((view d).span + 1)) (option_map cell_of r)
  taken {after} ring z r e take =
      subst (λ n. Takes t.trays t.tray_limit t.total_limit d.bank after n (option_map cell_of r)) (tray_is ring z e) take
