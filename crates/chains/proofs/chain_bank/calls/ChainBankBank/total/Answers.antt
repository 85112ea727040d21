use Rattle.std.proofs.Common.{arith}
use Rattle.chains.proofs.Moves.{trays_held}
use Rattle.chains.proofs.Shifts.{inside_trays}
use Rattle.chains.proofs.chain_bank.calls.ChainBankBank.total.Goals as goal

pub returns : goal.returns
returns g c =
    let b = c.args.self.now in
    let e = trays_held b.cells.now b.links.next b.trays b.links.heads b.links.size (inside_trays b.links) b.fits in
    let a = b.all in
    omega arith
