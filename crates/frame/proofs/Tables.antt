-- What a test that antt computes says of each number below a bound.
use Rattle.std.proofs.Common.{◌≡◌, ℕ, zero, suc, ◌<◌, Bool, true, ◌&&◌, ap, ◌∙◌, inl, inr, not-suc-le-zero, arith}
use Rattle.std.proofs.lemmas.Bool.{and_parts, cases_eq}

abbrev pub every_below : (ℕ → Bool) → ℕ → Bool
every_below f zero = true
every_below f (suc k) = f k && every_below f k

pub at_below : (f : ℕ → Bool) (n : ℕ) → every_below f n ≡ true → (k : ℕ) → k < n → f k ≡ true
at_below f zero e k h = absurd (not-suc-le-zero h)
at_below f (suc n) e k h =
    let both = and_parts (f n) (every_below f n) e in
    elim (cases_eq k n) [ inl same ↦ ap f same ∙ both.0 | inr other ↦ at_below f n both.1 k (omega arith) ]
