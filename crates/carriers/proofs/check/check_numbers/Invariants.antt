use Rattle.std.proofs.Common.{◌≡◌, drop}
use Rattle.carriers.specs.Fault.{carrier_fault, first_bad}
use Rattle.carriers.proofs.check.check_numbers.Given as goal

abbrev pub invariant-loop-place : goal.invariant-loop-place
invariant-loop-place l = carrier_fault l.carriers ≡ first_bad l.place (drop l.place l.carriers)
