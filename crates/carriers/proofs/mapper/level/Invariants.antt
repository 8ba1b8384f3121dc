use Rattle.std.proofs.Common.{◌≡◌, take}
use Rattle.carriers.proofs.Mapping.{place_of}
use Rattle.carriers.proofs.mapper.level.Given as goal

abbrev pub invariant-loop-bit : goal.invariant-loop-bit
invariant-loop-bit l = l.place ≡ place_of (take l.bit-index l.bits)
