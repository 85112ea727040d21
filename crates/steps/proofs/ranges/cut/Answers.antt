use Rattle.std.proofs.Common.{◌≡◌, ◌≤◌, length, take, sym, ap, subst, arith}
use Rattle.std.proofs.lemmas.List.{length-take-le}
use Rattle.steps.specs.Ranges.{Within, inside}
use Rattle.steps.proofs.Insides.{inside_all, inside_fits}
use Rattle.steps.proofs.ranges.cut.Goals as goal

pub slice_bounds-result-end : goal.slice_bounds-result-end
slice_bounds-result-end c =
    let fits = (inside_fits c.args.ranges.now c.args.bytes.now).1 in
    sym (length-take-le c.count_inside-inside.result c.args.bytes.now (omega arith))

pub returns : goal.returns
returns c =
    let few = (inside_fits c.args.ranges.now c.args.bytes.now).0 in
    let whole : c.count_inside-inside.result ≡ length c.args.ranges.now = omega arith in
    let same = ap (λ n. take n c.args.bytes.now) whole in
    let least : length c.args.ranges.now ≤ inside c.args.ranges.now c.args.bytes.now = omega arith in
    (same, subst (Within c.args.ranges.now) (sym same) (inside_all c.args.ranges.now c.args.bytes.now least))
