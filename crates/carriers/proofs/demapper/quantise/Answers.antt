use Rattle.std.proofs.Common.{◌≡◌, ◌≤◌, T, ℤ, nat_abs, sym, ap, ◌∙◌, subst, w16, to_z, of_z, rules}
use lib.Ieee.{Float, fits, binary32, mul, of_bits}
use Rattle.std.proofs.lemmas.Int.{to_z-of_z}
use Rattle.carriers.specs.Demapper.{AtMost, whole_part, quantised}
use Rattle.carriers.proofs.Quantised.{scales, quantised_bound}
use Rattle.carriers.proofs.demapper.quantise.Goals as goal

pub whole_part-requires : goal.whole_part-requires
whole_part-requires c =
    let x = c.args.coordinate in
    let held : T (fits binary32 x) = search rules in
    subst (λ (y : Float). AtMost 128 (mul binary32 y (of_bits binary32 0x4180_0000))) (sym c.clamp-limited.ensures.value) (scales x held c.requires).0

pub returns : goal.returns
returns c =
    let x = c.args.coordinate in
    let held : T (fits binary32 x) = search rules in
    let v : to_z w16 (of_z w16 c.whole_part.result) ≡ quantised x =
    to_z-of_z w16 c.whole_part.result (search rules) ∙ c.whole_part.ensures
    ∙ ap (λ (y : Float). whole_part (mul binary32 y (of_bits binary32 0x4180_0000))) c.clamp-limited.ensures.value ∙ (scales x held c.requires).1 in
    record { value = v; bound = subst (λ (z : ℤ). nat_abs z ≤ 128) (sym v) (quantised_bound x) }
