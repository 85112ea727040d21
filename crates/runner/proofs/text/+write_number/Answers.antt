use Rattle.std.proofs.Common.{sym, arith}
use Rattle.std.proofs.lemmas.Fmt.{decimal_digit, decimal_step}
use Rattle.runner.proofs.Writing.{more_digits, one_digit, wrote_as, wrote_length, wrote_more}
use Rattle.runner.proofs.text.+write_number.Goals as goal

pub write_byte-requires : goal.write_byte-requires
write_byte-requires t c = let e = one_digit c.args.number c.if-number-lt10.true in omega arith

pub returns-then-number-lt10 : goal.returns-then-number-lt10
returns-then-number-lt10 t c =
    wrote_as _ _ _ _ _ _ (sym (decimal_digit c.args.number c.if-number-lt10.true)) c.write_byte.ensures

pub write_number-last-requires : goal.write_number-last-requires
write_number-last-requires t c =
    let n = c.args.number in
    let e = more_digits n c.if-number-lt10.false (omega arith) in (omega arith, omega arith)

pub write_byte-requires-2 : goal.write_byte-requires-2
write_byte-requires-2 t c =
    let n = c.args.number in
    let e = more_digits n c.if-number-lt10.false (omega arith) in
    let p = c.write_number-last.ensures.place in
    let l = wrote_length _ _ _ _ _ c.write_number-last.ensures in omega arith

pub returns : goal.returns
returns t c =
    let n = c.args.number in
    wrote_as _ _ _ _ _ _ (sym (decimal_step n c.if-number-lt10.false (omega arith)))
    (wrote_more _ _ _ _ _ _ _ _ c.write_number-last.ensures c.write_byte-2.ensures)
