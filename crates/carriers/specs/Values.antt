-- What was heard of a coded bit: a value or nothing.
use Rattle.std.specs.Prelude.{◌≡◌, ℕ, zero, suc, ◌≤◌, Bool, true, false, ℤ, pos, negsuc, unsigned_abs}
use Rattle.carriers.specs.declared.soft.SoftBit.{SoftBit}
use Rattle.carriers.specs.declared.soft.SoftBit.TheVariants.{Value, Absent}

-- no value is larger in size than this
abbrev pub value_limit : ℕ
value_limit = 128

abbrev pub Legal : SoftBit → Type 0
Legal (Value v) = unsigned_abs v ≤ value_limit
Legal Absent = Unit {0}

-- a value above nought favours one, a value below it zero, and nought neither
abbrev pub Favours : ℤ → Bool → Type 0
Favours (pos zero) bit = ⊥
Favours (pos (suc n)) bit = bit ≡ true
Favours (negsuc n) bit = bit ≡ false
