use Rattle.std.proofs.Common.{rules}
use Rattle.std.proofs.lemmas.Result.{err_from_is_err_and}
use Rattle.steps.proofs.Headers.{bank_of, header_refused, type_of}
use Rattle.steps.specs.Layout.{bank_number, type_number}
use Rattle.steps.proofs.Known.{known}
use Rattle.steps.proofs.header.Header.read.Goals as goal

pub returns-in_err-bytes : goal.returns-in_err-bytes
returns-in_err-bytes c =
    let p = err_from_is_err_and c.from_residual.result c.from_residual.ensures.1 in
    rw (p.1, p.2) (header_refused _ c.header_ranges-ranges.ensures c.args.file.now _ c.in_err-bytes.ensures)

pub unwrap-requires : goal.unwrap-requires
unwrap-requires c = known type_number _ _ c.try_from.ensures (type_of _ (search rules) (search rules))

pub unwrap-requires-2 : goal.unwrap-requires-2
unwrap-requires-2 c = known bank_number _ _ c.try_from-2.ensures (bank_of _ (search rules) (search rules))
