use Rattle.banks.proofs.Holding.{empty_room}
use Rattle.banks.proofs.first_put.first_put.Goals as goal
use Rattle.std.proofs.Common.{◌<◌, length, arith}

pub returns : goal.returns
returns g c =
    let ts = g.B.Trays.trays c.args.bank.now in
    record {
      puts = c.put.ensures;
      accepted = λ e l.
          let some : 0 < length ts = omega arith in
          (c.put.ensures.placed l (empty_room ts c.args.tray _ _ e (g.B.Trays.limits_leave_room c.args.bank.now some))).0;
    }
