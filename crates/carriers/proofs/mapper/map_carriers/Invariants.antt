use Rattle.std.proofs.Common.{◌≡◌, ℕ, ◌<◌, get_or}
use Rattle.carriers.specs.declared.carrier.Carrier.TheVariants.{Heard, Struck}
use Rattle.carriers.specs.Mapper.{point_at}
use Rattle.carriers.proofs.mapper.map_carriers.Given as goal

abbrev pub invariant-loop-n : goal.invariant-loop-n
invariant-loop-n g l = (k : ℕ) → k < l.n → get_or l.out k Struck ≡ Heard (point_at l.modulation l.bits k)
