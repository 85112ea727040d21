use Rattle.masks.proofs.Digits.{member_remove}
use Rattle.masks.proofs.mask.Mask.remove.Goals as goal

pub returns-then-k-lt-WIDTH : goal.returns-then-k-lt-WIDTH
returns-then-k-lt-WIDTH c = member_remove c.args.self.now.bits c.args.k c.if-k-lt-WIDTH.true
