use Rattle.std.proofs.Common.{arith}
use Rattle.coding.proofs.Interleaving.{symbol_grid, groups}
use Rattle.coding.proofs.Deinterleaving.{taken_back, stood}
use Rattle.coding.specs.Interleaver.{turn_size}
use Rattle.std.proofs.Common.{length}
use Rattle.coding.proofs.interleaver.deinterleave_symbol.Goals as goal

pub returns : goal.returns
returns g c =
    let from = c.args.placed.now in
    let to = c.move_symbol.new.to in
    let grid = symbol_grid c.args.modulation (length from) c.requires.placed_len in
    record {
      value = taken_back 16 (turn_size c.args.modulation) (groups c.args.modulation) from grid to (omega arith) c.move_symbol.ensures;
      placed = stood 16 (turn_size c.args.modulation) (groups c.args.modulation) from grid to (omega arith) c.move_symbol.ensures;
    }
