-- Puncturing: which of the coder's outputs are sent.
use Rattle.std.specs.Prelude.{◌≡◌, ℕ, zero, suc, ◌+◌, ◌%◌, Bool, true, false, cond, List, [], ◌∷◌, ◌++◌, length, slice_index_or}
use Rattle.frame.specs.declared.rate.CodeRate.{CodeRate}
use Rattle.frame.specs.declared.rate.CodeRate.TheVariants as C
use Rattle.frame.specs.Bits.{bit_of}

-- of each pair A, B of a period: whether A is sent, and whether B is
abbrev pub pattern : CodeRate → List (Bool × Bool)
pattern C.Half = (true, true) ∷ []
pattern C.TwoThirds = (true, true) ∷ (true, false) ∷ []
pattern C.ThreeQuarters = (true, true) ∷ (true, false) ∷ (false, true) ∷ []

-- the same of pair i, the pattern repeating
unfoldable pub sent_of : CodeRate → ℕ → Bool × Bool
sent_of c i = slice_index_or (pattern c) (i % length (pattern c)) (true, true)

-- of one pair, of whatever, what is sent
abbrev pub kept : {X : Type 0} → Bool × Bool → X × X → List X
kept send pair = cond send.0 (pair.0 ∷ []) [] ++ cond send.1 (pair.1 ∷ []) []

-- of a row of pairs whose first is pair i
abbrev pub punctured_from : {X : Type 0} → (ℕ → Bool × Bool) → ℕ → List (X × X) → List X
punctured_from send i [] = []
punctured_from send i (pair ∷ pairs) = kept (send i) pair ++ punctured_from send (i + 1) pairs

abbrev pub punctured : {X : Type 0} → CodeRate → List (X × X) → List X
punctured c pairs = punctured_from (sent_of c) 0 pairs

-- how many bits are sent of the first n pairs
unfoldable pub sent_count : CodeRate → ℕ → ℕ
sent_count c zero = 0
sent_count c (suc n) = sent_count c n + (bit_of (sent_of c n).0 + bit_of (sent_of c n).1)

-- a period of the pattern has so many pairs, of which so many bits are sent
pub record Period (c : CodeRate) (pairs sent : ℕ) : Type 0 where
  pub long : pairs ≡ length (pattern c)
  pub many : sent ≡ sent_count c pairs
