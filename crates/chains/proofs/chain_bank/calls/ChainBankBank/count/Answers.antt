use Rattle.std.proofs.Common.{length, sym, ap, ◌∙◌, arith}
use Rattle.chains.proofs.Moves.{trays_holds, trays_past}
use Rattle.chains.proofs.Shifts.{inside_trays}
use Rattle.chains.proofs.chain_bank.calls.ChainBankBank.count.Goals as goal

pub returns-then-tray-self : goal.returns-then-tray-self
returns-then-tray-self g c =
    let b = c.args.self.now in
    c.count.ensures ∙ sym (trays_holds b.cells.now b.links.next b.trays b.links.heads c.args.tray b.links.size (omega arith) (inside_trays b.links) b.fits)

pub returns-else-tray-self : goal.returns-else-tray-self
returns-else-tray-self g c =
    let b = c.args.self.now in
    sym (ap length (trays_past b.cells.now b.links.next b.trays b.links.heads c.args.tray (omega arith)))
