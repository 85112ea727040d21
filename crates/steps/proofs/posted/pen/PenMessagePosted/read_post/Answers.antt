use Rattle.std.proofs.Common.{rules}
use Rattle.std.proofs.lemmas.Result.{err_from_is_err_and}
use Rattle.messages.specs.Pens.{told_by}
use Rattle.steps.proofs.Known.{known}
use Rattle.steps.proofs.Posts.{pen_refused, told_of}
use Rattle.steps.proofs.posted.pen.PenMessagePosted.read_post.Goals as goal

pub returns-in_err-record : goal.returns-in_err-record
returns-in_err-record c =
    let p = err_from_is_err_and c.from_residual.result c.from_residual.ensures.1 in
    rw (p.1, p.2) (pen_refused _ c.post_ranges-ranges.ensures c.args.bytes.now _ c.in_err-record.ensures)

pub unwrap-requires : goal.unwrap-requires
unwrap-requires c = known (λ s. (told_by s).kind) _ _ c.try_from.ensures (told_of _ (search rules) (search rules))
