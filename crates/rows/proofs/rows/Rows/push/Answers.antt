use Rattle.std.proofs.Common.{ap, ◌∙◌, sym, ◌+◌, ◌*◌}
use Rattle.rows.proofs.Turns.{row_free}
use Rattle.rows.proofs.rows.Rows.push.Goals as goal

pub returns-clause-free : goal.returns-clause-free
returns-clause-free c k j l e =
    let s = c.args.self.now in
    row_free s.heads s.limit c.args.tray c.requires.has_room k j l (sym (ap (λ p. c.args.tray * s.limit + p) c.push.ensures.place) ∙ e)
