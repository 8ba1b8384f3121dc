use Rattle.std.proofs.Common.{arith}
use Rattle.frame.proofs.Keys.{four_keys, four_moved}
use Rattle.frame.proofs.scrambler.next_four_key_bits.Goals as goal

pub returns : goal.returns
returns c = record { bits = four_keys c.args.register (omega arith); four = omega arith; moved = four_moved c.args.register (omega arith) }
