-- Where the scrambler and the coder stand before the next symbol of a frame.
use Rattle.std.specs.Prelude.{◌≡◌, ℕ, ◌-◌, ◌*◌}
use Rattle.frame.specs.Rate.{shape, n_dbps}
use Rattle.frame.specs.Scrambler.{register_after}
use Rattle.frame.specs.Data.{data_bits}
use Rattle.coding.specs.Coder.{state_from}
use Rattle.phy.specs.OnItsWay.{OnItsWay}

-- how many data bits are behind it: the header holds none, so n symbols hold those of n - 1. (Where n is 0, so is n - 1.)
abbrev pub bits_behind : OnItsWay → ℕ
bits_behind f = (f.written - 1) * n_dbps (shape f.rate)

-- the scrambler and the coder have gone through them
pub record InStep (f : OnItsWay) (register state : ℕ) : Type 0 where
  pub keyed : register ≡ register_after f.seed (bits_behind f)
  pub held : state ≡ state_from 0 (data_bits f.seed f.octets 0 (bits_behind f))
