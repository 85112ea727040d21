use Rattle.std.proofs.Common.{sym, ◌∙◌}
use Rattle.rows.proofs.Turns.{row_held}
use Rattle.rows.proofs.row_bank.calls.RowBankBank.total.Goals as goal

pub returns : goal.returns
returns g c =
    let b = c.args.self.now in
    c.total.ensures ∙ sym (row_held b.cells.now b.rows.limit b.rows.trays b.rows.heads b.rows.some b.fits)
