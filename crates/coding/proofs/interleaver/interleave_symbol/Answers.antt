use Rattle.std.proofs.Common.{arith}
use Rattle.coding.proofs.Interleaving.{symbol_grid, groups}
use Rattle.coding.proofs.Deinterleaving.{sent_there, stands}
use Rattle.coding.specs.Interleaver.{turn_size}
use Rattle.std.proofs.Common.{length}
use Rattle.coding.proofs.interleaver.interleave_symbol.Goals as goal

pub returns : goal.returns
returns g c =
    let from = c.args.from.now in
    let to = c.move_symbol.new.to in
    let grid = symbol_grid c.args.modulation (length from) c.requires.from_len in
    record {
      value = sent_there 16 (turn_size c.args.modulation) (groups c.args.modulation) from grid to (omega arith) c.move_symbol.ensures;
      placed = stands 16 (turn_size c.args.modulation) (groups c.args.modulation) from grid to c.move_symbol.ensures;
    }
