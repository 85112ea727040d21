use Rattle.std.proofs.Common.{sym, arith}
use Rattle.chains.proofs.Moves.{trays_count}
use Rattle.chains.proofs.chain_bank.calls.ChainBankBank.tray_count.Goals as goal

pub returns : goal.returns
returns g c =
    let b = c.args.self.now in
    sym (trays_count b.cells.now b.links.next b.trays b.links.heads (omega arith))
