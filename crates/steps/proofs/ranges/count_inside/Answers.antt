use Rattle.std.proofs.Common.{◌∙◌, Bool, ℕ, rules, tests}
use Rattle.std.proofs.lemmas.Iterator.{YieldsList-from_slice, YieldsList-from_zip}
use Rattle.std.proofs.lemmas.Iterator.Consumers.{YieldsList-at, count_from_yields_List}
use Rattle.std.proofs.lemmas.Iterator.Search.{YieldsList-from_take_while}
use Rattle.std.proofs.lemmas.List.Folds.{length-prefix_len}
use Rattle.std.specs.List.{zip}
use Rattle.steps.specs.declared.ranges.ByteRange.{ByteRange}
use Rattle.steps.proofs.Insides.{holds, prefix_len-zip}
use Rattle.steps.proofs.ranges.count_inside.Goals as goal

pub returns : goal.returns
returns c =
    let held : ByteRange × ℕ → Bool = λ p. holds p.0 p.1 in
    let pairs = zip c.args.ranges.now c.args.bytes.now in
    count_from_yields_List c.take_while.result c.count.result c.count.ensures.ran
    (YieldsList-from_take_while _ held
    (YieldsList-at c.take_while.ensures.source (YieldsList-from_zip (YieldsList-from_slice c.args.ranges.now (cc)) (YieldsList-from_slice c.args.bytes.now (cc))))
    c.take_while.ensures.closure c.take_while.ensures.done
    (λ x b q k. search (rules, tests)))
    ∙ length-prefix_len held pairs
    ∙ prefix_len-zip c.args.ranges.now c.args.bytes.now
