-- The eight rates, and the shape of a symbol at each.
use Rattle.std.specs.Prelude.{ℕ, ◌*◌, ◌/◌, Bool, true, false, cond, List, [], ◌∷◌, Some, None, Option, Ok, Err, Result, ◌==◌}
use Rattle.frame.specs.declared.rate.Rate.{Rate}
use Rattle.frame.specs.declared.rate.UnknownRate.{UnknownRate}
use Rattle.frame.specs.declared.rate.Mode.{Mode}
use Rattle.frame.specs.declared.rate.Rate.TheVariants as R
use Rattle.frame.specs.declared.rate.Modulation.{Modulation}
use Rattle.frame.specs.declared.rate.Modulation.TheVariants as M
use Rattle.frame.specs.declared.rate.CodeRate.{CodeRate}
use Rattle.frame.specs.declared.rate.CodeRate.TheVariants as C

-- what the standard says of a rate: its Mbit/s, its rate bits R1 to R4, its modulation and its coding rate
pub record Row : Type 0 where
  pub number : ℕ
  pub bits : List Bool
  pub modulation : Modulation
  pub code_rate : CodeRate

abbrev four : Bool → Bool → Bool → Bool → List Bool
four a b c d = a ∷ b ∷ c ∷ d ∷ []

abbrev pub row : Rate → Row
row R.R6 = record { number = 6; bits = four true true false true; modulation = M.Bpsk; code_rate = C.Half }
row R.R9 = record { number = 9; bits = four true true true true; modulation = M.Bpsk; code_rate = C.ThreeQuarters }
row R.R12 = record { number = 12; bits = four false true false true; modulation = M.Qpsk; code_rate = C.Half }
row R.R18 = record { number = 18; bits = four false true true true; modulation = M.Qpsk; code_rate = C.ThreeQuarters }
row R.R24 = record { number = 24; bits = four true false false true; modulation = M.Qam16; code_rate = C.Half }
row R.R36 = record { number = 36; bits = four true false true true; modulation = M.Qam16; code_rate = C.ThreeQuarters }
row R.R48 = record { number = 48; bits = four false false false true; modulation = M.Qam64; code_rate = C.TwoThirds }
row R.R54 = record { number = 54; bits = four false false true true; modulation = M.Qam64; code_rate = C.ThreeQuarters }

abbrev pub rates : List Rate
rates = R.R6 ∷ R.R9 ∷ R.R12 ∷ R.R18 ∷ R.R24 ∷ R.R36 ∷ R.R48 ∷ R.R54 ∷ []

-- the first of the rates with this number
abbrev pub numbered : ℕ → List Rate → Option Rate
numbered n [] = None
numbered n (r ∷ rs) = cond (n == (row r).number) (Some r) (numbered n rs)

abbrev pub rate_of : ℕ → Option Rate
rate_of n = numbered n rates

-- that rate, or that there is none
abbrev pub or_unknown : ℕ → Option Rate → Result Rate UnknownRate
or_unknown n None = Err (record { number = n })
or_unknown n (Some r) = Ok r

abbrev pub rate_or_unknown : ℕ → Result Rate UnknownRate
rate_or_unknown n = or_unknown n (rate_of n)

-- coded bits per carrier
abbrev pub n_bpsc : Modulation → ℕ
n_bpsc M.Bpsk = 1
n_bpsc M.Qpsk = 2
n_bpsc M.Qam16 = 4
n_bpsc M.Qam64 = 6

-- the coding rate as a fraction
abbrev pub fraction : CodeRate → ℕ × ℕ
fraction C.Half = (1, 2)
fraction C.TwoThirds = (2, 3)
fraction C.ThreeQuarters = (3, 4)

-- how a rate's symbols are coded and mapped
abbrev pub mode_of : Rate → Mode
mode_of r = record { modulation = (row r).modulation; code_rate = (row r).code_rate }

-- what a symbol is made of; all that is said of coding is said over this, and not over the eight rates
pub record Shape : Type 0 where
  pub modulation : Modulation
  pub code_rate : CodeRate
  pub carriers : ℕ
  pub columns : ℕ

-- coded bits per symbol
abbrev pub n_cbps : Shape → ℕ
n_cbps s = s.carriers * n_bpsc s.modulation

-- data bits per symbol
abbrev pub n_dbps : Shape → ℕ
n_dbps s = n_cbps s * (fraction s.code_rate).0 / (fraction s.code_rate).1

-- an 802.11a symbol has 48 carriers, and its interleaver 16 columns
abbrev pub shaped : Mode → Shape
shaped m = record { modulation = m.modulation; code_rate = m.code_rate; carriers = 48; columns = 16 }

abbrev pub shape : Rate → Shape
shape r = shaped (mode_of r)
