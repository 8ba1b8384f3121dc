-- Every rate's symbol holds whole periods of its puncturing pattern and fills its carriers.
use Rattle.std.proofs.Common.{◌≡◌, ℕ, ◌*◌, ◌%◌, length, sym, refl, ap, ◌∙◌, ap₂}
use Rattle.frame.specs.declared.rate.Rate.{Rate}
use Rattle.frame.specs.declared.rate.Rate.TheVariants as R
use Rattle.frame.specs.declared.rate.Mode.{Mode}
use Rattle.frame.specs.Rate.{Shape, shape, mode_of, n_bpsc, n_cbps, n_dbps}
use Rattle.frame.specs.Header.{header}
use Rattle.frame.proofs.HeaderBits.{header_parts}
use Rattle.coding.specs.Puncturing.{pattern, sent_of, sent_count}
use Rattle.phy.specs.Writing.{Fills}

pub record Regular (s : Shape) : Type 0 where
  pub whole : n_dbps s % length (pattern s.code_rate) ≡ 0
  pub fills : sent_count s.code_rate (n_dbps s) ≡ n_cbps s

pub regular : (r : Rate) → Regular (shape r)
unfolding sent_count sent_of
regular R.R6 = record { whole = refl; fills = refl }
regular R.R9 = record { whole = refl; fills = refl }
regular R.R12 = record { whole = refl; fills = refl }
regular R.R18 = record { whole = refl; fills = refl }
regular R.R24 = record { whole = refl; fills = refl }
regular R.R36 = record { whole = refl; fills = refl }
regular R.R48 = record { whole = refl; fills = refl }
regular R.R54 = record { whole = refl; fills = refl }

-- what `write_symbol` and demodulating ask of a rate's data bits
pub fills : (r : Rate) (m : Mode) (d : ℕ) → m ≡ mode_of r → d ≡ n_dbps (shape r) → Fills m d
fills r m d e f =
    record {
      whole = ap₂ (λ (x : Mode) (y : ℕ). y % length (pattern x.code_rate)) e f ∙ (regular r).whole;
      filled = ap₂ (λ (x : Mode) (y : ℕ). sent_count x.code_rate y) e f ∙ (regular r).fills ∙ ap (λ (x : Mode). 48 * n_bpsc x.modulation) (sym e);
    }

-- the header's bits fill a symbol of rate 6
pub header_fills : (r : Rate) (len : ℕ) (m : Mode) → m ≡ mode_of R.R6 → Fills m (length (header r len))
header_fills r len m e = fills R.R6 m (length (header r len)) e (header_parts r len).long
