use Rattle.std.proofs.Common.{sym, ◌∙◌}
use Rattle.rows.proofs.Turns.{row_counts}
use Rattle.rows.proofs.row_bank.calls.RowBankBank.count.Goals as goal

pub returns : goal.returns
returns g c =
    let b = c.args.self.now in
    c.count.ensures ∙ sym (row_counts b.cells.now b.rows.limit b.rows.trays b.rows.heads c.args.tray b.rows.some b.fits)
