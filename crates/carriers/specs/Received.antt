-- A symbol on its way: every carrier arrives as it was sent, or struck out; and what it then tells of the bits sent on it.
use Rattle.std.specs.Prelude.{◌≡◌, ℕ, ◌<◌, Bool, ◌⊎◌, List, length, slice_index_or}
use Rattle.carriers.specs.declared.carrier.Carrier.{Carrier}
use Rattle.carriers.specs.declared.carrier.Carrier.TheVariants.{Heard, Struck}
use Rattle.carriers.specs.declared.soft.SoftBit.{SoftBit}
use Rattle.carriers.specs.declared.soft.SoftBit.TheVariants.{Value, Absent}
use Rattle.carriers.specs.Values.{Favours}

pub record Received (sent heard : List Carrier) : Type 0 where
  pub as_many : length heard ≡ length sent
  pub each : (n : ℕ) → n < length sent → (slice_index_or heard n Struck ≡ slice_index_or sent n Struck) ⊎ (slice_index_or heard n Struck ≡ Struck)

-- of a bit that was sent on this carrier nothing is heard where the carrier is struck out, and else a value that favours the bit
abbrev pub Tells : Bool → Carrier → SoftBit → Type 0
Tells bit Struck soft = soft ≡ Absent
Tells bit (Heard point) Absent = ⊥
Tells bit (Heard point) (Value v) = Favours v bit
