-- A listing over a bank is the listing of the file whose calls were made.
use Rattle.std.proofs.Common.{◌≡◌, ℕ, List, ◌++◌, drop, Ok, Err, Option, Result, sym, ap, ◌∙◌, subst, Bor, MatchResult}
use Rattle.std.proofs.lemmas.List.{take-append-drop}
use Rattle.dispatcher.specs.declared.call.Call.{Call}
use Rattle.dispatcher.specs.Machine.{Terms}
use Rattle.steps.specs.declared.fault.Fault.{Fault}
use Rattle.steps.specs.declared.header.Header.{Header}
use Rattle.steps.specs.declared.records.Records.{Records}
use Rattle.steps.specs.declared.steps_file.StepsFile.{StepsFile}
use Rattle.steps.specs.declared.steps_file.StepsFile.TheVariants as of-type
use Rattle.steps.specs.Opening.{Opens, Starts}
use Rattle.runner.specs.Banks.{bank_terms}
use Rattle.runner.specs.Files.{CallsOf, HasHeader}
use Rattle.runner.specs.Listings.{IsListing, ListsSteps, Messages, listing_over, notes, pen_messages}
use Rattle.runner.specs.Output.{Holds}

module _ {M : Type 0} (t : Messages M) (file : List ℕ) (h : Header) (b : Terms M) (terms : b ≡ bank_terms t.interval h) (calls made : List (Call M)) (fault : Option Fault) (same : made ≡ calls) (of : CallsOf t.format file h calls fault) (before after : List ℕ) where
  lists : ListsSteps t file (listing_over t.pad t.kind b made fault)
  lists =
      record {
        header = h;
        steps = of.0;
        fault = fault;
        told = of.1;
        lines = ap (λ x. listing_over t.pad t.kind x made fault) terms
            ∙ ap (λ cs. listing_over t.pad t.kind (bank_terms t.interval h) cs fault) (same ∙ of.2);
      }

  pub played : {E : Type 0} (r : Result ℕ E) → MatchResult r (Holds (listing_over t.pad t.kind b made fault) before after) (λ _. after ≡ before) → MatchResult r (λ n. (text : List ℕ) × ListsSteps t file text × Holds text before after n) (λ _. after ≡ before)
  played (Ok n) k = (listing_over t.pad t.kind b made fault, lists, k)
  played (Err e) k = k

-- a file that was opened has a header
module _ {M : Type 0} (t : Messages M) (file : Bor (List ℕ)) (r : Records M) (starts : Starts t.format file r) where
  pub has_header : HasHeader file.now
  has_header =
      let h = starts.1 in
      let bytes = r.file.now in
      subst (λ x. HasHeader x.now) starts.0
      (record {
        header = r.header;
        trays = h.trays;
        begun = (drop r.position bytes, sym (take-append-drop r.position bytes) ∙ ap (λ x. x ++ drop r.position bytes) h.written);
        short = h.short;
      })

  -- and what it is listed as is its listing
  module _ (wrap : (text : List ℕ) → ListsSteps t file.now text → IsListing file.now text) (before after : List ℕ) where
    pub opened : {E : Type 0} (x : Result ℕ E) → MatchResult x (λ n. (text : List ℕ) × ListsSteps t r.file.now text × Holds text before after n) (λ _. after ≡ before) → MatchResult x (λ n. (text : List ℕ) × IsListing file.now text × Holds text before after n) (λ _. HasHeader file.now × (after ≡ before))
    opened (Ok n) k =
        (k.0, wrap k.0 (subst (λ x. ListsSteps t x.now k.0) starts.0 k.1), k.2)
    opened (Err e) k = (has_header, k)

-- whatever its messages are
pub file_has_header : (file : Bor (List ℕ)) (r : StepsFile) → Opens file (Ok r) → HasHeader file.now
file_has_header file (of-type.Pen r) o = has_header pen_messages file r o
file_has_header file (of-type.Note r) o = has_header notes file r o
