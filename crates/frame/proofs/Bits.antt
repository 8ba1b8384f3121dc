-- Ones counted, and single bits.
use Rattle.std.proofs.Common.{◌≡◌, Bool, true, ap}
use Rattle.frame.specs.Bits.{bit_of}

pub bit_true : (b : Bool) → b ≡ true → bit_of b ≡ 1
bit_true b e = ap bit_of e
