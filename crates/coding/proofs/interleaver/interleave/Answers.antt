use Rattle.std.proofs.Common.{arith}
use Rattle.coding.proofs.Deinterleaving.{sent_there, stands}
use Rattle.coding.proofs.interleaver.interleave.Goals as goal

pub returns : goal.returns
returns g c =
    let from = c.args.from.now in
    let to = c.move_all.new.to in
    let grid = c.requires.grid in
    record {
      value = sent_there g.row.COLUMNS g.row.TURN g.row.GROUPS from grid to (omega arith) c.move_all.ensures;
      placed = stands g.row.COLUMNS g.row.TURN g.row.GROUPS from grid to c.move_all.ensures;
    }
