use Rattle.std.proofs.Common.{◌≡◌, ◌∙◌, Bor, Err, List, None, Option, Result, Some, ap, arith, refl, sym, ℕ}
use Rattle.std.proofs.lemmas.Result.{err_from_is_err_and}
use Rattle.std.specs.List.{slice_get}
use Rattle.std.specs.Option.{ok_or, option_copied}
use Rattle.steps.specs.declared.fault.Unlawful.{Unlawful}
use Rattle.steps.proofs.Choosing.{post_refused, turn_refused, unknown_refused, warn_refused}
use Rattle.steps.proofs.step.Step.read.Goals as goal

-- the first byte, where there is one
first_byte : (bytes : List ℕ) (r : Option (Bor ℕ)) (x : Bor ℕ) → option_copied r ≡ slice_get bytes 0 → r ≡ Some x → slice_get bytes 0 ≡ Some x.now
first_byte bytes r x e is = sym e ∙ ap option_copied is

-- no first byte
missing : (r : Option (Bor ℕ)) (err e : Unlawful) → ◌≡◌ {A = Result (Bor ℕ) Unlawful} (Err err) (ok_or r e) → (r ≡ None) × (err ≡ e)
missing None err e h = let z : err ≡ e = cc in (refl, z)
missing (Some x) err e h = let z : ◌≡◌ {A = ℕ} 0 1 = cc in absurd (omega arith)

pub returns-in_err-first : goal.returns-in_err-first
returns-in_err-first g c =
    let p = err_from_is_err_and c.from_residual.result c.from_residual.ensures.1 in
    let m = missing c.first.result c.in_err-first.field-0.0 (record { lawful_up_to = 0 }) c.in_err-first.ensures.value in
    rw (p.1, p.2, m.1) (unknown_refused g.M.Posted.format c.args.bytes.now
    (λ n e l h.
    let q : ◌≡◌ {A = Option ℕ} None (Some n) = ap option_copied (sym m.0) ∙ c.first.ensures.value ∙ e in
    let z : ◌≡◌ {A = ℕ} 0 1 = cc in omega arith))

pub returns-in_err-read_post-in-1 : goal.returns-in_err-read_post-in-1
returns-in_err-read_post-in-1 g c =
    let p = err_from_is_err_and c.from_residual-in_err-read_post-in-1.result c.from_residual-in_err-read_post-in-1.ensures.1 in
    let first = first_byte c.args.bytes.now c.first.result c.in_ok-first.first c.first.ensures.value c.in_ok-first.ensures.ok_part in
    rw (p.1, p.2) (post_refused g.M.Posted.format c.args.bytes.now _ (first ∙ ap Some c.in-1.is) c.in_err-read_post-in-1.ensures)

pub returns-in_err-read_number-in-3 : goal.returns-in_err-read_number-in-3
returns-in_err-read_number-in-3 g c =
    let p = err_from_is_err_and c.from_residual-in_err-read_number-in-3.result c.from_residual-in_err-read_number-in-3.ensures.1 in
    let first = first_byte c.args.bytes.now c.first.result c.in_ok-first.first c.first.ensures.value c.in_ok-first.ensures.ok_part in
    rw (p.1, p.2) (turn_refused g.M.Posted.format c.args.bytes.now _ (first ∙ ap Some c.in-3.is) c.in_err-read_number-in-3.ensures)

pub returns-in_err-read_number-in-5 : goal.returns-in_err-read_number-in-5
returns-in_err-read_number-in-5 g c =
    let p = err_from_is_err_and c.from_residual-in_err-read_number-in-5.result c.from_residual-in_err-read_number-in-5.ensures.1 in
    let first = first_byte c.args.bytes.now c.first.result c.in_ok-first.first c.first.ensures.value c.in_ok-first.ensures.ok_part in
    rw (p.1, p.2) (warn_refused g.M.Posted.format c.args.bytes.now _ (first ∙ ap Some c.in-5.is) c.in_err-read_number-in-5.ensures)

pub returns-in_default : goal.returns-in_default
returns-in_default g c =
    unknown_refused g.M.Posted.format c.args.bytes.now
    (λ n e l h.
    let first = first_byte c.args.bytes.now c.first.result c.in_ok-first.first c.first.ensures.value c.in_ok-first.ensures.ok_part in
    let q : Some c.in_ok-first.first.now ≡ Some n = sym first ∙ e in
    let z : c.in_ok-first.first.now ≡ n = cc in
    omega (arith, z))
