use Rattle.std.proofs.Common.{◌≡◌, ◌≤◌, replicate, sym, ap, subst, arith, rules}
use Rattle.rows.specs.Rings.{head_at, no_head}
use Rattle.banks.proofs.Cells.{get_or_replicate_self}
use Rattle.rows.proofs.rows.Rows.over.Goals as goal

pub invariant_of-result-clause-within : goal.invariant_of-result-clause-within
invariant_of-result-clause-within c k =
    let d : c.default.result ≡ no_head = search rules in
    let e : (head_at (replicate 128 c.default.result) k).count ≡ 0 = subst (λ h. (head_at (replicate 128 h) k).count ≡ 0) (sym d) (ap (λ h. h.count) (get_or_replicate_self 128 k no_head)) in
    subst (λ n. n ≤ c.match-checked_div.trays.1) (sym e) (omega arith)
