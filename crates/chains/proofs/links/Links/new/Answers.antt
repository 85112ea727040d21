use Rattle.std.proofs.Common.{◌≡◌, replicate, ap, ◌∙◌, subst, arith, rules}
use lib.ListN.{length-replicate}
use Rattle.chains.specs.declared.link.Link.{Link}
use Rattle.chains.specs.Chains.{Apart, Ends, Inside, counted, every_place, no_link, with_free}
use Rattle.chains.proofs.Shifts.{fresh_apart, fresh_counts, fresh_ends, fresh_inside}
use Rattle.chains.proofs.links.Links.new.Goals as goal

pub invariant_of-result : goal.invariant_of-result
invariant_of-result c =
    let n = c.successors.result in
    let s = c.successors.ensures in
    let size = c.args.size in
    let free : Link = record { first = 0; last = c.saturating_sub.result; count = size } in
    let d : no_link ≡ c.default.result = search rules in
    let f : every_place size ≡ free = search rules in
    let e : with_free (replicate 128 no_link) (every_place size) ≡ with_free (replicate 128 c.default.result) free =
    ap (λ h. with_free (replicate 128 h) (every_place size)) d ∙ ap (with_free (replicate 128 c.default.result)) f in
    record {
      whole = length-replicate 128 c.default.result;
      long = s.length;
      small = c.requires;
      counts = (let k = fresh_counts n size s.each c.requires 128 in let v = ap counted e in omega arith);
      inside = subst (λ h. Inside h n size) e (fresh_inside n size s.each c.requires 128);
      apart = subst (λ h. Apart h n) e (fresh_apart n size s.each c.requires 128);
      ends = subst (λ h. Ends h n) e (fresh_ends n size s.each c.requires 128);
    }
