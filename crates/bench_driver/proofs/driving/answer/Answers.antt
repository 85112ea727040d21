use Rattle.std.proofs.Common.{ap, ◌∙◌, arith, rules}
use Rattle.bench_driver.specs.Numbers.{number_of_entry}
use Rattle.bench_driver.proofs.Loading.{answers_byte, is_ask, is_post}
use Rattle.bench_driver.proofs.driving.answer.Goals as goal

pub returns-in_err-slip-in_default : goal.returns-in_err-slip-in_default
returns-in_err-slip-in_default g c =
    answers_byte c.args.byte (is_post _ _ c.args.byte _ c.cycle.ensures c.note-message.ensures (omega arith) (omega arith)) (search rules) c.in_err-slip-in_default.ensures.lawful.steps

pub returns-in_ok-slip-in_default : goal.returns-in_ok-slip-in_default
returns-in_ok-slip-in_default g c =
    answers_byte c.args.byte (is_post _ _ c.args.byte _ c.cycle.ensures c.note-message.ensures (omega arith) (omega arith)) (c.entry_number.ensures ∙ ap number_of_entry c.entry.ensures) c.in_ok-slip-in_default.ensures.lawful.steps

pub returns-in_default-2 : goal.returns-in_default-2
returns-in_default-2 g c =
    answers_byte c.args.byte (is_ask _ c.args.byte (omega arith)) c.mix.ensures c.ask-figures.ensures.lawful.steps
