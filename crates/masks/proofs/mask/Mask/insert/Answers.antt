use Rattle.masks.proofs.Digits.{member_insert}
use Rattle.masks.proofs.mask.Mask.insert.Goals as goal

pub returns-then-k-lt-WIDTH : goal.returns-then-k-lt-WIDTH
returns-then-k-lt-WIDTH c j = member_insert c.args.self.now.bits c.args.k c.if-k-lt-WIDTH.true j
