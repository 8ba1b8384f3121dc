-- Depuncturing, which puts the stolen outputs back as holes.
use Rattle.std.specs.Prelude.{◌≡◌, ℕ, ◌+◌, ◌<◌, cond, List, map, length, slice_index_or}
use Rattle.std.specs.List.{range_with_len}
use Rattle.frame.specs.declared.rate.CodeRate.{CodeRate}
use Rattle.frame.specs.Bits.{bit_of}
use Rattle.coding.specs.Puncturing.{sent_of, sent_count, punctured}

-- pair i from what was sent of a row of pairs: A and B stand where the pattern counts them, and a stolen one is put back as a hole
abbrev pub restored : {X : Type 0} → X → CodeRate → List X → ℕ → X × X
restored hole c sent i =
    (cond (sent_of c i).0 (slice_index_or sent (sent_count c i) hole) hole, cond (sent_of c i).1 (slice_index_or sent (sent_count c i + bit_of (sent_of c i).0) hole) hole)

-- the first n pairs of `out` are restored
abbrev pub Restored : {X : Type 0} → X → CodeRate → List X → List (X × X) → ℕ → Type 0
Restored {X} hole c sent out n = (i : ℕ) (d : X × X) → i < n → slice_index_or out i d ≡ restored hole c sent i

-- the n pairs of which this was sent
abbrev pub depunctured : {X : Type 0} → X → CodeRate → ℕ → List X → List (X × X)
depunctured hole c n sent = map (restored hole c sent) (range_with_len 0 n)

-- pair i of a row with a hole for each that is stolen
abbrev pub with_holes : {X : Type 0} → X → CodeRate → List (X × X) → ℕ → X × X
with_holes hole c pairs i = (cond (sent_of c i).0 (slice_index_or pairs i (hole, hole)).0 hole, cond (sent_of c i).1 (slice_index_or pairs i (hole, hole)).1 hole)

-- depuncturing gives back everything that was sent, and a hole for all else
abbrev pub DepuncturingUndoes : Type 0 → Type 0
DepuncturingUndoes X =
    (c : CodeRate) (hole : X) (pairs : List (X × X)) →
    depunctured hole c (length pairs) (punctured c pairs) ≡ map (with_holes hole c pairs) (range_with_len 0 (length pairs))
