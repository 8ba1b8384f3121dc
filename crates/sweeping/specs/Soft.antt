-- The number that stands for a soft bit in a digest.
use Rattle.std.specs.Prelude.{ℕ, ◌+ℤ◌, pos, unsigned_abs}
use Rattle.carriers.specs.declared.soft.SoftBit.{SoftBit}
use Rattle.carriers.specs.declared.soft.SoftBit.TheVariants.{Value, Absent}

-- a value, which is from -128 to 128, raised by 200, so that none is negative
abbrev pub code_of : SoftBit → ℕ
code_of (Value value) = unsigned_abs (value +ℤ pos 200)
code_of Absent = 1000
