use Rattle.std.proofs.Common.{◌≡◌, ◌<◌, ◌≤◌, [], length, replicate, take, cond, eqb, sym, refl, ap, ◌∙◌, arith}
use Rattle.std.proofs.lemmas.Bool.{ne_eqb}
use Rattle.chains.specs.Chains.{chain_number, chain_trays, counted}
use Rattle.chains.proofs.Moves.{counted_fresh, trays_none}
use Rattle.chains.proofs.chain_bank.ChainBank.new.Goals.{then-size-eq0, else-size-eq0}
use Rattle.chains.proofs.chain_bank.ChainBank.new.Goals as goal

few_with_room : (g : _) → (c : goal.Joined-size-eq0 g) → (c.if-size-eq0.result ≤ 128) × (0 < c.if-size-eq0.result → 0 < c.serving_cells-size.result)
few_with_room g c =
    let s = c.serving_cells-size.ensures in
    elim c.if-size-eq0.branch [
      | then-size-eq0 w ↦ (omega (arith, w.result-is), λ u. omega (arith, w.result-is))
      | else-size-eq0 w ↦ let p = s.some (omega (arith, w.if-size-eq0.false)) in (omega (arith, w.result-is, p.1), λ u. omega (arith, w.if-size-eq0.false))
    ]

pub invariant_of-result : goal.invariant_of-result
invariant_of-result g c =
    let s = c.serving_cells-size.ensures in
    let l = c.new.ensures in
    let n = few_with_room g c in
    let e = ap (λ hs. counted (take c.if-size-eq0.result hs)) l.heads ∙ counted_fresh c.if-size-eq0.result 128 n.0 in
    let f = ap (λ h. h.count) l.free in
    record { few = n.0; fits = omega (arith, s.within, l.size); some = λ u. (let p = n.1 u in omega (arith, l.size)); all = omega (arith, l.size) }

pub returns-clause-empty : goal.returns-clause-empty
returns-clause-empty g c =
    let s = c.serving_cells-size.ensures in
    let l = c.new.ensures in
    let few : c.if-size-eq0.result ≤ 128 =
    elim c.if-size-eq0.branch [
      | then-size-eq0 w ↦ omega (arith, w.result-is)
      | else-size-eq0 w ↦ let p = s.some (omega (arith, w.if-size-eq0.false)) in omega (arith, w.result-is, p.1)
    ] in
    let size = c.serving_cells-size.result in
    let trays = c.args.trays in
    let number : c.if-size-eq0.result ≡ chain_number (length c.args.cells.now) trays =
    elim c.if-size-eq0.branch [
      | then-size-eq0 w ↦ w.result-is ∙ sym (ap (λ x. cond (eqb x 0) 0 trays) (sym s.value ∙ w.if-size-eq0.true))
      | else-size-eq0 w ↦ w.result-is ∙ sym (rw (ne_eqb size 0 w.if-size-eq0.false) refl) ∙ ap (λ x. cond (eqb x 0) 0 trays) s.value
    ] in
    ap (chain_trays c.args.cells.now c.new.result.next c.if-size-eq0.result) l.heads
    ∙ trays_none c.args.cells.now c.new.result.next c.if-size-eq0.result 128 few
    ∙ ap (λ k. replicate k []) number
