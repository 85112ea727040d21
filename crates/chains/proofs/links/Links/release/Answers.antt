use Rattle.std.proofs.Common.{◌≡◌, ◌∙◌, refl, subst, arith, rules, length-set}
use Rattle.chains.specs.Chains.{Free, Grown, with_free}
use Rattle.chains.proofs.Shifts.{kept_front, release_shifted}
use Rattle.chains.proofs.links.Links.release.Goals as goal

pub pop-place-requires-clause-first_inside : goal.pop-place-requires-clause-first_inside
pop-place-requires-clause-first_inside c =
    let s = c.args.self.now in
    let t = release_shifted s c.args.tray c.requires.is_tray c.requires.has_place _ _ _ _ refl refl refl refl in
    omega (arith, t.below, s.small, s.long)

pub push-requires-clause-has_room : goal.push-requires-clause-has_room
push-requires-clause-has_room c =
    let s = c.args.self.now in
    let t = release_shifted s c.args.tray c.requires.is_tray c.requires.has_place _ _ _ _ refl refl refl refl in
    omega (arith, t.room, s.small)

pub push-requires-clause-last_inside : goal.push-requires-clause-last_inside
push-requires-clause-last_inside c =
    (release_shifted c.args.self.now c.args.tray c.requires.is_tray c.requires.has_place _ _ _ _ refl refl refl refl).last

pub invariant_of-self : goal.invariant_of-self
invariant_of-self c =
    let s = c.args.self.now in
    let t = release_shifted s c.args.tray c.requires.is_tray c.requires.has_place _ _ _ _ c.pop-place.ensures.place c.pop-place.ensures.chain c.push.ensures.chain c.push.ensures.next in
    record {
      whole = length-set s.heads c.args.tray _ ∙ s.whole;
      long = (let e = c.push.auto.next in let n = s.long in omega arith);
      small = s.small;
      counts = t.counts;
      inside = t.inside;
      apart = t.apart;
      ends = t.ends;
    }

pub returns-clause-inside : goal.returns-clause-inside
returns-clause-inside c =
    let s = c.args.self.now in
    let t = release_shifted s c.args.tray c.requires.is_tray c.requires.has_place _ _ _ _ c.pop-place.ensures.place c.pop-place.ensures.chain c.push.ensures.chain c.push.ensures.next in
    omega (arith, t.below)

pub returns-clause-kept : goal.returns-clause-kept
returns-clause-kept c =
    let s = c.args.self.now in
    let t = release_shifted s c.args.tray c.requires.is_tray c.requires.has_place _ _ _ _ c.pop-place.ensures.place c.pop-place.ensures.chain c.push.ensures.chain c.push.ensures.next in
    kept_front _ s.next _ _ _ 128 _ (length-set s.heads c.args.tray _ ∙ s.whole) t.grown

pub returns-clause-free_in_all : goal.returns-clause-free_in_all
returns-clause-free_in_all c =
    let s = c.args.self.now in
    let moved : c.pop-place.result ≡ c.from.result = search rules in
    let t = release_shifted s c.args.tray c.requires.is_tray c.requires.has_place _ _ _ _ c.pop-place.ensures.place c.pop-place.ensures.chain c.push.ensures.chain c.push.ensures.next in
    subst (Free (with_free _ s.free) s.next) moved t.free

pub returns-clause-grown_in_all : goal.returns-clause-grown_in_all
returns-clause-grown_in_all c =
    let s = c.args.self.now in
    let moved : c.pop-place.result ≡ c.from.result = search rules in
    let t = release_shifted s c.args.tray c.requires.is_tray c.requires.has_place _ _ _ _ c.pop-place.ensures.place c.pop-place.ensures.chain c.push.ensures.chain c.push.ensures.next in
    subst (Grown (with_free _ s.free) s.next _ _ 128) moved t.grown
