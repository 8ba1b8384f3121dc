-- The search for the first coordinate that is not a number, carrier by carrier.
use Rattle.std.proofs.Common.{◌≡◌, ℕ, zero, suc, ◌+◌, ◌<◌, ◌≤◌, List, [], ◌∷◌, length, get_or, drop, Some, None, Ok, Err, Option, sym, refl, ap, ◌∙◌, arith}
use Rattle.std.proofs.lemmas.List.{at_drop_more, at_drop_all}
use Rattle.carriers.specs.declared.carrier.Carrier.{Carrier}
use Rattle.carriers.specs.declared.fault.Axis.{Axis}
use Rattle.carriers.specs.declared.carrier.Carrier.TheVariants.{Struck}
use Rattle.carriers.specs.declared.fault.CarrierFault.{CarrierFault}
use Rattle.carriers.specs.declared.fault.CarrierFault.TheVariants as CF
use Rattle.carriers.specs.Fault.{bad_axis, named, first_bad, carrier_fault, checked, FirstNamed}

step : (cs : List Carrier) (i : ℕ) (d : Carrier) → i < length cs → first_bad i (drop i cs) ≡ named i (bad_axis (get_or cs i d)) (first_bad (i + 1) (drop (i + 1) cs))
unfolding first_bad
step cs i d h = at_drop_more (first_bad i) cs i d h

at_step : (cs : List Carrier) (i : ℕ) (d : Carrier) (o : Option Axis) → i < length cs → o ≡ bad_axis (get_or cs i d) → carrier_fault cs ≡ first_bad i (drop i cs) →
    carrier_fault cs ≡ named i o (first_bad (i + 1) (drop (i + 1) cs))
at_step cs i d o h e inv = inv ∙ step cs i d h ∙ ap (λ (x : Option Axis). named i x (first_bad (i + 1) (drop (i + 1) cs))) (sym e)

pub found_bad : (cs : List Carrier) (i : ℕ) (d : Carrier) (axis : Axis) → i < length cs → Some axis ≡ bad_axis (get_or cs i d) → carrier_fault cs ≡ first_bad i (drop i cs) →
    Err (CF.NotANumber i axis) ≡ checked (carrier_fault cs)
found_bad cs i d axis h e inv = sym (ap checked (at_step cs i d (Some axis) h e inv))

pub past_good : (cs : List Carrier) (i : ℕ) (d : Carrier) → i < length cs → None ≡ bad_axis (get_or cs i d) → carrier_fault cs ≡ first_bad i (drop i cs) →
    carrier_fault cs ≡ first_bad (i + 1) (drop (i + 1) cs)
past_good cs i d h e inv = at_step cs i d None h e inv

none_left : (n : ℕ) → first_bad n [] ≡ None
unfolding first_bad
none_left n = refl

pub none_bad : (cs : List Carrier) (i : ℕ) → length cs ≤ i → carrier_fault cs ≡ first_bad i (drop i cs) → Ok tt ≡ checked (carrier_fault cs)
none_bad cs i h inv = sym (ap checked (inv ∙ at_drop_all (first_bad i) cs i h ∙ none_left i))

-- ---- what the search comes to

-- the same of a list whose first carrier stands at place n: the place named is n and something more
abbrev NamedFrom : ℕ → List Carrier → Option CarrierFault → Type 0
NamedFrom n cs None = (k : ℕ) → k < length cs → bad_axis (get_or cs k Struck) ≡ None
NamedFrom n cs (Some (CF.NotANumber p axis)) =
    (j : ℕ) × (p ≡ n + j) × (j < length cs) × (bad_axis (get_or cs j Struck) ≡ Some axis) × ((k : ℕ) → k < j → bad_axis (get_or cs k Struck) ≡ None)

named_more : (n : ℕ) (c : Carrier) (cs : List Carrier) (o : Option Axis) (later : Option CarrierFault) → bad_axis c ≡ o → NamedFrom (n + 1) cs later → NamedFrom n (c ∷ cs) (named n o later)
named_more n c cs (Some axis) later e f = (0, omega arith, omega arith, e, λ k h. absurd (omega arith))
named_more n c cs None None e f = λ k h. before e f k h
  where
    before : bad_axis c ≡ None → ((k : ℕ) → k < length cs → bad_axis (get_or cs k Struck) ≡ None) → (k : ℕ) → k < suc (length cs) → bad_axis (get_or (c ∷ cs) k Struck) ≡ None
    before e f zero h = e
    before e f (suc k) h = f k (omega arith)
named_more n c cs None (Some (CF.NotANumber p axis)) e f = (suc f.0, omega (arith, f.1), omega (arith, f.2), f.3, before)
  where
    before : (k : ℕ) → k < suc f.0 → bad_axis (get_or (c ∷ cs) k Struck) ≡ None
    before zero h = e
    before (suc k) h = f.4 k (omega arith)

named_from : (n : ℕ) (cs : List Carrier) → NamedFrom n cs (first_bad n cs)
unfolding first_bad
named_from n [] = λ k h. absurd (omega arith)
named_from n (c ∷ cs) = named_more n c cs (bad_axis c) (first_bad (n + 1) cs) refl (named_from (n + 1) cs)

at_first : (cs : List Carrier) (o : Option CarrierFault) → NamedFrom 0 cs o → FirstNamed cs o
at_first cs None f = f
at_first cs (Some (CF.NotANumber p axis)) f =
    let e : f.0 ≡ p = omega (arith, f.1) in
    (omega (arith, f.2), ap (λ (k : ℕ). bad_axis (get_or cs k Struck)) (sym e) ∙ f.3, λ k h. f.4 k (omega arith))

pub first_named : (cs : List Carrier) → FirstNamed cs (carrier_fault cs)
first_named cs = at_first cs (carrier_fault cs) (named_from 0 cs)
