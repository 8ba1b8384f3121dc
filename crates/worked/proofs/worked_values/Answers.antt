use Rattle.std.proofs.Common.{refl}
use lib.Count.{ones, ones_in}
use lib.Ieee.{of_int}
use Rattle.frame.specs.Scrambler.{key_bit, moved_up, register_after}
use Rattle.frame.specs.Data.{symbols, pads}
use Rattle.coding.specs.Coder.{next_state, tapped, outputs}
use Rattle.coding.specs.Puncturing.{sent_of}
use Rattle.coding.specs.Interleaver.{spread, turn, place}
use Rattle.worked.specs.Table.{table, same, all_same}
use Rattle.worked.proofs.worked_values.Goals as goal

pub returns : goal.returns
unfolding table same all_same key_bit moved_up register_after symbols pads next_state tapped outputs ones ones_in sent_of spread turn place of_int
returns c = refl
