-- The register and the state in step with a frame: before its first symbol, and after one data symbol more.
use Rattle.std.proofs.Common.{◌≡◌, ℕ, suc, ◌+◌, ◌-◌, ◌*◌, ◌<◌, Bool, List, ◌++◌, length, sym, ap, ◌∙◌, ap₂, suc-mul, zero-add, arith}
use Rattle.frame.specs.declared.rate.Rate.{Rate}
use Rattle.frame.specs.declared.rate.Mode.{Mode}
use Rattle.frame.specs.Rate.{shaped, shape, mode_of, n_dbps}
use Rattle.frame.specs.Scrambler.{register_after}
use Rattle.frame.specs.Streaming.{bits_under}
use Rattle.frame.specs.Data.{symbols, data_bits}
use Rattle.frame.proofs.Keys.{register_on}
use Rattle.frame.proofs.DataBits.{bits_of_seed, data_bits_append}
use Rattle.coding.specs.Coder.{coded_from, state_from}
use Rattle.coding.specs.Puncturing.{punctured}
use Rattle.coding.proofs.States.{state_append}
use Rattle.carriers.specs.declared.carrier.Carrier.{Carrier}
use Rattle.phy.specs.Symbols.{symbol_of, data_symbol, sent_symbol}
use Rattle.phy.specs.Writing.{Written}
use Rattle.phy.specs.OnItsWay.{OnItsWay, unwritten, one_further, all_symbols, next_symbol}
use Rattle.phy.specs.InStep.{bits_behind, InStep}
use Rattle.phy.proofs.Shapes.{regular}
use Rattle.phy.proofs.Slices.{sliced_frame}

-- before the header the scrambler holds the seed and the coder zeros
pub starts : (r : Rate) (seed : ℕ) (octets : List ℕ) (state : ℕ) → state ≡ 0 → InStep (unwritten r seed octets) seed state
unfolding register_after
starts r seed octets state zeros =
    let none : 0 ≡ (0 - 1) * n_dbps (shape r) = omega arith in
    record {
      keyed = ap (register_after seed) none;
      held = zeros ∙ ap (λ (z : ℕ). state_from 0 (data_bits seed octets 0 z)) none;
    }

-- data symbol k, from the register and the state before it
module _ {f : OnItsWay} {k register state : ℕ} (w : f.written ≡ suc k) (below : f.written < all_symbols f) (st : InStep f register state)
    {m : Mode} (em : m ≡ mode_of f.rate)
    {d n : ℕ} (ed : d ≡ n_dbps (shape f.rate)) (en : n ≡ n_dbps (shape f.rate))
    {bits : List Bool} (filled : bits ≡ bits_under f.octets register (k * d) n)
    {register' state' : ℕ} {out : List Carrier} (moved : register' ≡ register_after register n) (written : Written m bits state state' out) where
  behind_is : bits_behind f ≡ k * n_dbps (shape f.rate)
  behind_is = ap (λ (z : ℕ). z * n_dbps (shape f.rate)) (let p : f.written - 1 ≡ k = omega arith in p)

  ahead_is : bits_behind (one_further f) ≡ k * n_dbps (shape f.rate) + n_dbps (shape f.rate)
  ahead_is =
      let D = n_dbps (shape f.rate) in
      ap (λ (z : ℕ). z * D) (let p : f.written + 1 - 1 ≡ suc k = omega arith in p) ∙ suc-mul k D

  keyed : register ≡ register_after f.seed (k * n_dbps (shape f.rate))
  keyed = st.keyed ∙ ap (register_after f.seed) behind_is

  held : state ≡ state_from 0 (data_bits f.seed f.octets 0 (k * n_dbps (shape f.rate)))
  held = st.held ∙ ap (λ (z : ℕ). state_from 0 (data_bits f.seed f.octets 0 z)) behind_is

  own : bits ≡ data_bits f.seed f.octets (k * n_dbps (shape f.rate)) (n_dbps (shape f.rate))
  own =
      filled ∙ ap₂ (λ (x : ℕ) (y : ℕ). bits_under f.octets register (k * x) y) ed en
      ∙ bits_of_seed f.octets f.seed register (k * n_dbps (shape f.rate)) (n_dbps (shape f.rate)) keyed

  carriers_are : out ≡ next_symbol f
  unfolding data_symbol
  carriers_are =
      let s = shape f.rate in
      let few : k < symbols s (length f.octets) = omega arith in
      written.carriers ∙ ap (λ (x : Mode). symbol_of (shaped x) (punctured x.code_rate (coded_from state bits))) em
      ∙ ap₂ (λ (z : ℕ) (b : List Bool). symbol_of s (punctured s.code_rate (coded_from z b))) held own
      ∙ ap (symbol_of s) (sliced_frame s (regular f.rate) f.seed f.octets k few) ∙ ap (sent_symbol f.rate f.seed f.octets) (sym w)

  still_in_step : InStep (one_further f) register' state'
  still_in_step =
      let D = n_dbps (shape f.rate) in
      let M = k * D in
      let more : data_bits f.seed f.octets 0 M ++ data_bits f.seed f.octets M D ≡ data_bits f.seed f.octets 0 (bits_behind (one_further f)) =
      ap (λ (z : ℕ). data_bits f.seed f.octets 0 M ++ data_bits f.seed f.octets z D) (sym (zero-add M))
      ∙ sym (data_bits_append f.seed f.octets 0 M D) ∙ ap (data_bits f.seed f.octets 0) (sym ahead_is) in
      record {
        keyed = moved ∙ ap₂ register_after keyed en ∙ register_on f.seed M D ∙ ap (register_after f.seed) (sym ahead_is);
        held = written.left ∙ ap₂ state_from held own
            ∙ sym (state_append 0 (data_bits f.seed f.octets 0 M) (data_bits f.seed f.octets M D)) ∙ ap (state_from 0) more;
      }

  pub data_sent : (out ≡ next_symbol f) × InStep (one_further f) register' state'
  data_sent = (carriers_are, still_in_step)
