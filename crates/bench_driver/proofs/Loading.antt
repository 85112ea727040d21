-- From one call to a whole load.
use Rattle.std.proofs.Common.{◌≡◌, ℕ, ◌<◌, List, [], ◌∷◌, ◌++◌, fold, sym, ap, ◌∙◌, subst, arith}
use Rattle.std.proofs.lemmas.List.Sums.{fold_push}
use Rattle.std.proofs.lemmas.Bool.Decides.{nat_tests}
use Rattle.messages.specs.declared.note.Note.{Note}
use Rattle.dispatcher.specs.Machine.{State, Terms, Told, run, start, step, told}
use Rattle.dispatcher.specs.Shown.{Shows}
use Rattle.dispatcher.specs.Steps.{Simulates}
use Rattle.dispatcher.specs.Views.{View}
use Rattle.dispatcher.specs.declared.call.Call.{Call}
use Rattle.dispatcher.specs.declared.call.Call.TheVariants.{Ask, Open, Post}
use Rattle.dispatcher.specs.declared.event.Event.{Event}
use Rattle.bench_driver.specs.Loads.{AnswersByte, call_for, calls_of, checksum, note_at}
use Rattle.bench_driver.specs.Numbers.{mixed, number_of}

pub is_post : (z z' byte : ℕ) (message : Note) → z' ≡ z → message ≡ note_at z' byte → 0 < byte → byte < 128 → call_for z byte ≡ Post message
is_post z z' byte message same is more less = grind (arith, nat_tests)

pub is_ask : (z byte : ℕ) → 129 < byte → call_for z byte ≡ Ask
is_ask z byte more = grind (arith, nat_tests)

-- what goes as the machine goes by the call that the byte stands for
pub answers_byte : {v w : View Note} {c : Call Note} {a : Event Note} {n : ℕ} (byte : ℕ) → call_for v.cycle byte ≡ c → n ≡ number_of a → Simulates v w c a → AnswersByte v w byte n
answers_byte {v} {w} {c} {a} {n} byte is number k b m s =
    let e : call_for m.cycle byte ≡ c = ap (λ (x : State Note). call_for x.cycle byte) s.numbers ∙ is in
    let h = k b m s in
    subst (λ x. (n ≡ number_of (step b m x).0) × Shows b w (step b m x).1) (sym e) (number ∙ ap number_of (sym h.0), h.1)

-- the load so far led to what v shows, and its checksum is this
pub record Summed (b : Terms Note) (v : View Note) (load : List ℕ) (sum : ℕ) : Type 0 where
  pub shows : Shows b v (run b (calls_of b load)).state
  pub total : sum ≡ checksum b load

run_load : (b : Terms Note) (load : List ℕ) (byte : ℕ) → run b (calls_of b (load ++ byte ∷ [])) ≡ told (run b (calls_of b load)) (step b (run b (calls_of b load)).state (call_for (run b (calls_of b load)).state.cycle byte))
run_load b load byte =
    ap (run b) (fold_push (λ cs x. cs ++ call_for (run b cs).state.cycle x ∷ []) (Open 0 0 ∷ []) load byte)
    ∙ fold_push (λ r c. told r (step b r.state c)) (record { state = start; history = [] }) (calls_of b load) _

-- the opening, and then one byte more: what was told is added to the checksum
pub summed_start : {b : Terms Note} {v w : View Note} {a : Event Note} {sum n : ℕ} → Shows b v start → Simulates v w (Open 0 0) a → n ≡ number_of a → sum ≡ mixed 0 n → Summed b w [] sum
summed_start {b} s k number e =
    let h = k b start s in
    record { shows = h.1; total = e ∙ ap (mixed 0) (number ∙ ap number_of (sym h.0)) }

pub summed_next : {b : Terms Note} {v w : View Note} {load next : List ℕ} {sum sum' n : ℕ} (byte : ℕ) → Summed b v load sum → AnswersByte v w byte n → next ≡ load ++ byte ∷ [] → sum' ≡ mixed sum n → Summed b w next sum'
summed_next {b} {v} {w} {load} {next} {sum} {sum'} {n} byte so_far k e f =
    let r = run b (calls_of b load) in
    let h = k b r.state so_far.shows in
    let next_run : run b (calls_of b next) ≡ told r (step b r.state (call_for r.state.cycle byte)) = ap (λ x. run b (calls_of b x)) e ∙ run_load b load byte in
    record {
      shows = subst (λ (x : Told Note). Shows b w x.state) (sym next_run) h.1;
      total = f
          ∙ ap (λ s. mixed s n) so_far.total
          ∙ ap (λ x. mixed (checksum b load) x) h.0
          ∙ sym (fold_push (λ s x. mixed s (number_of x)) 0 r.history _)
          ∙ ap (λ (x : Told Note). fold (λ s x. mixed s (number_of x)) 0 x.history) (sym next_run);
    }
