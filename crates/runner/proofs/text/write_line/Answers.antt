use Rattle.std.proofs.Common.{[], ◌∷◌, sym, ap, arith, length-append}
use Rattle.std.specs.List.{flat_map}
use Rattle.std.proofs.lemmas.List.{take_all}
use Rattle.runner.specs.Lines.{part}
use Rattle.runner.proofs.Joining.{joined_next, next_fits}
use Rattle.runner.proofs.Writing.{wrote_as, wrote_length, wrote_more}
use Rattle.runner.proofs.text.write_line.Goals as goal

pub write_byte-spaced-requires : goal.write_byte-spaced-requires
write_byte-spaced-requires c =
    let numbers = c.args.numbers.now in
    let r = next_fits part numbers c.loop-number.number-index 0 c.loop-number-test.true in
    let n = length-append (flat_map part numbers) (10 ∷ []) in
    let l = wrote_length _ _ _ _ _ c.write_byte-end.ensures in
    let p = c.write_byte-end.ensures.place in
    let q = c.loop-number.invariant.place in
    omega arith

pub write_number-end-requires : goal.write_number-end-requires
write_number-end-requires c =
    let numbers = c.args.numbers.now in
    let r = next_fits part numbers c.loop-number.number-index 0 c.loop-number-test.true in
    let n = length-append (flat_map part numbers) (10 ∷ []) in
    let l = wrote_length _ _ _ _ _ c.write_byte-end.ensures in
    let k = wrote_length _ _ _ _ _ c.write_byte-spaced.ensures in
    let p = c.write_byte-end.ensures.place in
    let q = c.loop-number.invariant.place in
    let s = c.write_byte-spaced.ensures.place in
    omega arith

pub loop-number-preserved : goal.loop-number-preserved
loop-number-preserved c =
    let numbers = c.args.numbers.now in
    wrote_as _ _ _ _ _ _ (sym (joined_next part numbers c.loop-number.number-index 0 c.loop-number-test.true))
    (wrote_more _ _ _ _ _ _ _ _ c.loop-number.invariant
    (wrote_more _ _ (32 ∷ []) _ _ _ _ _ c.write_byte-spaced.ensures c.write_number-end.ensures))

pub returns : goal.returns
returns c =
    let numbers = c.args.numbers.now in
    let t = ap (λ x. flat_map part x) (take_all c.loop-number.number-index numbers c.loop-number-test.false) in
    wrote_more _ _ (c.args.letter ∷ []) _ _ _ _ _ c.write_byte-end.ensures
    (wrote_more _ _ _ _ _ _ _ _ (wrote_as _ _ _ _ _ _ t c.loop-number.invariant) c.write_byte.ensures)
