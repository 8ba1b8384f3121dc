use Rattle.std.proofs.Common.{◌≡◌, take, replicate}
use Rattle.carriers.specs.declared.soft.SoftBit.TheVariants.{Absent}
use Rattle.carriers.proofs.demapper.erase.Given as goal

abbrev pub invariant-loop-bit : goal.invariant-loop-bit
invariant-loop-bit l = take l.bit-index l.out ≡ replicate l.bit-index Absent
