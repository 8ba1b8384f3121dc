-- What a check that refuses nothing says of the carriers, and which carriers it never refuses.
use Rattle.std.proofs.Common.{◌≡◌, ℕ, zero, suc, ◌+◌, ◌<◌, Bool, true, false, cond, eqb, List, [], ◌∷◌, length, get_or, Some, None, Option, refl, ap, ◌∙◌, arith, eq-eqb}
use Rattle.carriers.specs.declared.carrier.Carrier.{Carrier}
use Rattle.carriers.specs.declared.fault.Axis.{Axis}
use Rattle.carriers.specs.declared.carrier.Carrier.TheVariants.{Struck}
use Rattle.carriers.specs.declared.fault.SymbolFault.TheVariants as SF
use Rattle.carriers.specs.declared.fault.CarrierFault.{CarrierFault}
use Rattle.carriers.specs.Fault.{bad_axis, named, first_bad, carrier_fault, of_carrier, symbol_fault}

none_bad_from : (k : ℕ) (cs : List Carrier) → ((n : ℕ) → n < length cs → bad_axis (get_or cs n Struck) ≡ None) → first_bad k cs ≡ None
unfolding first_bad
none_bad_from k [] f = refl
none_bad_from k (c ∷ cs) f = ap (λ o. named k o (first_bad (k + 1) cs)) (f 0 (omega arith)) ∙ none_bad_from (k + 1) cs (λ n h. f (suc n) (omega arith))

-- 48 carriers without a bad axis
pub not_refused : (cs : List Carrier) → length cs ≡ 48 → ((n : ℕ) → n < length cs → bad_axis (get_or cs n Struck) ≡ None) → symbol_fault cs ≡ None
not_refused cs long f =
    ap (λ (b : Bool). cond b (of_carrier (carrier_fault cs)) (Some (SF.Count (length cs)))) (eq-eqb (length cs) 48 long) ∙ ap of_carrier (none_bad_from 0 cs f)

-- and the other way: where nothing was named, no carrier has one
first_none : (n : ℕ) (o : Option Axis) (later : Option CarrierFault) → named n o later ≡ None → (o ≡ None) × (later ≡ None)
first_none n None later e = (refl, e)
first_none n (Some axis) later e = absurd (let z : ◌≡◌ {A = ℕ} 0 1 = cc in omega arith)

good_from : (k : ℕ) (cs : List Carrier) → first_bad k cs ≡ None → (n : ℕ) (d : Carrier) → n < length cs → bad_axis (get_or cs n d) ≡ None
unfolding first_bad
good_from k [] e n d h = absurd (omega arith)
good_from k (c ∷ cs) e zero d h = (first_none k (bad_axis c) (first_bad (k + 1) cs) e).0
good_from k (c ∷ cs) e (suc n) d h = good_from (k + 1) cs (first_none k (bad_axis c) (first_bad (k + 1) cs) e).1 n d (omega arith)

pub good_at : (cs : List Carrier) → carrier_fault cs ≡ None → (n : ℕ) (d : Carrier) → n < length cs → bad_axis (get_or cs n d) ≡ None
good_at cs e n d h = good_from 0 cs e n d h

counted_good : (cs : List Carrier) (b : Bool) → cond b (of_carrier (carrier_fault cs)) (Some (SF.Count (length cs))) ≡ None → carrier_fault cs ≡ None
counted_good cs true e = by (carrier_fault cs) e
  where
    by : (o : Option CarrierFault) → of_carrier o ≡ None → o ≡ None
    by None e = refl
    by (Some fault) e = absurd (let z : ◌≡◌ {A = ℕ} 0 1 = cc in omega arith)
counted_good cs false e = absurd (let z : ◌≡◌ {A = ℕ} 0 1 = cc in omega arith)

pub are_numbers : (cs : List Carrier) → symbol_fault cs ≡ None → carrier_fault cs ≡ None
are_numbers cs e = counted_good cs (eqb (length cs) 48) e
