-- Reading on through a file, a call for each record.
use Rattle.std.proofs.Common.{◌≡◌, List, [], ◌∷◌, ◌++◌, map, length, drop, Some, None, sym, refl, ap, ◌∙◌, subst, append-nil, arith}
use Rattle.std.proofs.lemmas.List.{length-take-le, map_push, take-append-drop}
use Rattle.dispatcher.specs.declared.call.Call.{Call}
use Rattle.dispatcher.specs.declared.call.Call.TheVariants as call
use Rattle.steps.specs.Lawful.{Faulty, Says}
use Rattle.steps.specs.Layout.{Format, file_bytes}
use Rattle.steps.specs.Progress.{Gives, HasRead, Stops}
use Rattle.steps.specs.declared.fault.Fault.{Fault}
use Rattle.steps.specs.declared.records.Record.{Record}
use Rattle.steps.specs.declared.records.Records.{Records}
use Rattle.steps.specs.declared.step.Step.{Step}
use Rattle.runner.specs.Calls.{call_for}
use Rattle.runner.specs.Files.{BreaksOff, CallsOf}

-- these are the opening and the calls of the steps that were read since the start
pub record Gathered {M : Type 0} (f : Format M) (start here : Records M) (calls : List (Call M)) : Type 0 where
  pub file : here.file ≡ start.file
  pub header : here.header ≡ start.header
  pub steps : List (Step M)
  pub read : HasRead f here steps
  pub made : calls ≡ call.Open 0 0 ∷ map call_for steps

module _ {M : Type 0} (f : Format M) where
  pub gathered_none : (r : Records M) (calls : List (Call M)) → HasRead f r [] → calls ≡ call.Open 0 0 ∷ [] → Gathered f r r calls
  gathered_none r calls h e = record { file = refl; header = refl; steps = []; read = h; made = e }

  module _ (start here after : Records M) (calls : List (Call M)) (g : Gathered f start here calls) where
    pub gathered_more : (x : Record M) (c : Call M) (more : List (Call M)) → Gives f here after x → ((ss : List (Step M)) → HasRead f here ss → HasRead f after (ss ++ x.step ∷ [])) → c ≡ call_for x.step → more ≡ calls ++ c ∷ [] → Gathered f start after more
    gathered_more x c more gives law is e =
        record {
          file = gives.file ∙ g.file;
          header = gives.header ∙ g.header;
          steps = g.steps ++ x.step ∷ [];
          read = law g.steps g.read;
          made = e ∙ ap (λ cs. cs ++ c ∷ []) g.made ∙ ap (λ d. (call.Open 0 0 ∷ map call_for g.steps) ++ d ∷ []) is ∙ ap (λ cs. call.Open 0 0 ∷ cs) (sym (map_push call_for g.steps x.step));
        }

    pub gathered_all : (all : List (Call M)) → after ≡ here → ((ss : List (Step M)) → HasRead f here ss → Says f after.file.now after.header ss) → all ≡ calls ++ call.Ask ∷ [] → CallsOf f start.file.now start.header all None
    gathered_all all same law e =
        let file : after.file ≡ start.file = ap (λ r. r.file) same ∙ g.file in
        let header : after.header ≡ start.header = ap (λ r. r.header) same ∙ g.header in
        let s = subst (λ x. Says f x.now after.header g.steps) file (law g.steps g.read) in
        (g.steps, subst (λ x. Says f start.file.now x g.steps) header s, e ∙ ap (λ cs. cs ++ call.Ask ∷ []) g.made)

    breaks_off : (fault : Fault) → Stops f here after fault → Faulty after.file.now fault → BreaksOff f here.file.now here.header g.steps fault
    breaks_off fault stops faulty =
        let r = g.read in
        let bytes = here.file.now in
        let k = stops.offset in
        let n : length (file_bytes f here.header g.steps) ≡ here.position =
        ap length (sym r.written) ∙ length-take-le here.position bytes r.placed in
        let p = k.1 in
        let q = k.2.0 in
        record {
          faulty = subst (λ x. Faulty x.file.now fault) stops.same faulty;
          number = stops.number;
          begun = (drop here.position bytes, sym (take-append-drop here.position bytes) ∙ ap (λ x. x ++ drop here.position bytes) r.written);
          typed = r.typed;
          trays = r.trays;
          behind = omega arith;
          near = omega arith;
        }

    pub gathered_stopped : (fault : Fault) → Stops f here after fault → ((ss : List (Step M)) → HasRead f here ss → Faulty after.file.now fault) → CallsOf f start.file.now start.header calls (Some fault)
    gathered_stopped fault stops law =
        let b = breaks_off fault stops (law g.steps g.read) in
        let s = subst (λ x. BreaksOff f x.now here.header g.steps fault) g.file b in
        (g.steps, subst (λ x. BreaksOff f start.file.now x g.steps fault) g.header s, g.made ∙ ap (λ cs. call.Open 0 0 ∷ cs) (sym (append-nil (map call_for g.steps))))
