-- From carriers as sent or struck out to what each coded bit is heard as.
use Rattle.std.proofs.Common.{◌≡◌, ℕ, zero, suc, ◌+◌, ◌*◌, ◌/◌, ◌<◌, Bool, true, false, cond, List, [], ◌∷◌, ◌++◌, map, length, get_or, drop, Some, None, Ok, Err, sym, refl, ap, ◌∙◌, subst, arith}
use Rattle.std.specs.List.{range_with_len}
use Rattle.std.proofs.lemmas.List.FromFn.{get_or-map-range_with_len, length-map-range_with_len}
use Rattle.std.proofs.lemmas.List.{get_or_append_left}
use Rattle.frame.specs.declared.rate.Rate.{Rate}
use Rattle.frame.specs.Bits.{bit_of}
use Rattle.frame.proofs.Bits.{bit_true}
use Rattle.frame.specs.Rate.{Shape, shape, n_bpsc, n_cbps, n_dbps}
use Rattle.coding.specs.Puncturing.{sent_of, sent_count, punctured}
use Rattle.coding.specs.Depuncturing.{restored}
use Rattle.coding.specs.Interleaver.{Grid, place, interleaved, deinterleaved, turn_size}
use Rattle.coding.proofs.Depuncturing.{a_sent, b_sent}
use Rattle.coding.proofs.Interleaving.{undone}
use Rattle.coding.proofs.Deinterleaving.{interleaved_at, deinterleaved_at}
use Rattle.coding.proofs.Punctured.{room, length_sent}
use Rattle.carriers.specs.declared.carrier.Carrier.{Carrier}
use Rattle.carriers.specs.declared.carrier.Carrier.TheVariants.{Struck}
use Rattle.carriers.specs.declared.soft.SoftBit.{SoftBit}
use Rattle.carriers.specs.declared.soft.SoftBit.TheVariants.{Absent}
use Rattle.carriers.specs.Values.{Legal}
use Rattle.carriers.specs.Demapper.{demapped}
use Rattle.carriers.specs.Received.{Received, Tells}
use Rattle.carriers.proofs.Demapping.{length_demapped}
use Rattle.carriers.proofs.Told.{as_many, place_tells, never_bad, demapped_legal}
use Rattle.carriers.proofs.Refusals.{not_refused}
use Rattle.phy.specs.declared.fault.ListenFault.{ListenFault}
use Rattle.phy.specs.Fault.{of_symbol, listening_fault}
use Rattle.phy.specs.Symbols.{symbol_of}
use Rattle.phy.specs.Demodulation.{demodulated, carrier_of, OutputTold, PairTold, Demodulates}
use Rattle.coding.proofs.Interleaving.{groups, symbol_grid}
use Rattle.phy.proofs.Shapes.{Regular, regular}

-- the soft bits of a symbol in the coder's order
abbrev soft : Shape → List Carrier → List SoftBit
soft s cs = deinterleaved Absent s.columns (turn_size s.modulation) (demapped s.modulation cs)

-- ---- each coded bit

module _ (s : Shape) (t : ℕ) (g : Grid s.columns (turn_size s.modulation) t (n_cbps s)) (bits : List Bool) (cs : List Carrier)
    (long : length bits ≡ n_cbps s) (got : Received (symbol_of s bits) cs) where
  coded_tells : (k : ℕ) → k < n_cbps s → Tells (get_or bits k false) (get_or cs (carrier_of s k) Struck) (get_or (soft s cs) k Absent)
  coded_tells k h =
      let m = s.modulation in
      let w = turn_size m in
      let N = n_cbps s in
      let placed = interleaved false s.columns w bits in
      let p = place s.columns N w k in
      let c = get_or cs (p / n_bpsc m) Struck in
      let many : length (demapped m cs) ≡ N = length_demapped m cs ∙ ap (λ (z : ℕ). z * n_bpsc m) (as_many m s.carriers placed cs got) in
      let there = place_tells m s.carriers placed cs got p ((undone s.columns w t N g).place_within k h) in
      let bit : get_or placed p false ≡ get_or bits k false = interleaved_at false s.columns w t bits N k g long h in
      let back : get_or (soft s cs) k Absent ≡ get_or (demapped m cs) p Absent = deinterleaved_at Absent s.columns w (demapped m cs) N k many h in
      subst (λ (b : Bool). Tells b c (get_or (soft s cs) k Absent)) bit (subst (λ (v : SoftBit). Tells (get_or placed p false) c v) (sym back) there)

-- ---- each pair

told_output : (s : Shape) (cs : List Carrier) (sent : Bool) (k : ℕ) (bit : Bool) (v : SoftBit) → (sent ≡ true → Tells bit (get_or cs (carrier_of s k) Struck) v) →
    OutputTold s cs sent k bit (cond sent v Absent)
told_output s cs true k bit v e = e refl
told_output s cs false k bit v e = refl

module _ (s : Shape) (reg : Regular s) (t : ℕ) (g : Grid s.columns (turn_size s.modulation) t (n_cbps s)) (pairs : List (Bool × Bool)) (cs : List Carrier)
    (long : length pairs ≡ n_dbps s) (got : Received (symbol_of s (punctured s.code_rate pairs)) cs) where
  told_pair : (i : ℕ) → i < n_dbps s → PairTold s cs i (get_or pairs i (false, false)) (restored Absent s.code_rate (soft s cs) i)
  told_pair i h =
      let c = s.code_rate in
      let bits = punctured c pairs in
      let full : length bits ≡ n_cbps s = length_sent c (n_dbps s) pairs long ∙ reg.fills in
      let fits = room c i (n_dbps s) (n_cbps s) (sent_of c i) h (sym reg.fills) refl in
      let k = sent_count c i in
      let l = k + bit_of (sent_of c i).0 in
      let tells = coded_tells s t g bits cs full got in
      let here : i < length pairs = omega arith in
      record {
        a = told_output s cs (sent_of c i).0 k (get_or pairs i (false, false)).0 (get_or (soft s cs) k Absent) (λ e.
            subst (λ (b : Bool). Tells b (get_or cs (carrier_of s k) Struck) (get_or (soft s cs) k Absent)) (a_sent c pairs i false here e)
            (tells k (omega (arith, fits, bit_true (sent_of c i).0 e))));
        b = told_output s cs (sent_of c i).1 l (get_or pairs i (false, false)).1 (get_or (soft s cs) l Absent) (λ e.
            subst (λ (b : Bool). Tells b (get_or cs (carrier_of s l) Struck) (get_or (soft s cs) l Absent)) (b_sent c pairs i false here e)
            (tells l (omega (arith, fits, bit_true (sent_of c i).1 e))));
      }

-- ---- no value passes the limit

every_map : {A B : Type 0} (P : B → Type 0) (f : A → B) (d : B) (xs : List A) (k : ℕ) → P d → ((a : A) → P (f a)) → P (get_or (map f xs) k d)
every_map P f d [] k p q = p
every_map P f d (x ∷ xs) zero p q = q x
every_map P f d (x ∷ xs) (suc k) p q = every_map P f d xs k p q

legal_soft : (s : Shape) (cs : List Carrier) (k : ℕ) → Legal (get_or (soft s cs) k Absent)
legal_soft s cs k =
    let m = s.modulation in
    let F : ℕ → SoftBit = λ k. get_or (demapped m cs) (place s.columns (length (demapped m cs)) (turn_size m) k) Absent in
    every_map Legal F Absent (range_with_len 0 (length (demapped m cs))) k tt (λ j. demapped_legal m cs (place s.columns (length (demapped m cs)) (turn_size m) j))

legal_output : (sent : Bool) (v : SoftBit) → Legal v → Legal (cond sent v Absent)
legal_output true v h = h
legal_output false v h = tt

legal_pair : (s : Shape) (cs : List Carrier) (i : ℕ) → Legal (restored Absent s.code_rate (soft s cs) i).0 × Legal (restored Absent s.code_rate (soft s cs) i).1
legal_pair s cs i = (
  legal_output (sent_of s.code_rate i).0 _ (legal_soft s cs (sent_count s.code_rate i)),
  legal_output (sent_of s.code_rate i).1 _ (legal_soft s cs (sent_count s.code_rate i + bit_of (sent_of s.code_rate i).0)),
)

-- ---- the call

module _ (s : Shape) (cs : List Carrier) (i : ℕ) (h : i < n_dbps s) where
  demodulated_at : get_or (demodulated s cs) i (Absent, Absent) ≡ restored Absent s.code_rate (soft s cs) i
  unfolding demodulated
  demodulated_at = get_or-map-range_with_len (restored Absent s.code_rate (soft s cs)) 0 (n_dbps s) i i (Absent, Absent) h (omega arith)

  legal_demodulated : Legal (get_or (demodulated s cs) i (Absent, Absent)).0 × Legal (get_or (demodulated s cs) i (Absent, Absent)).1
  legal_demodulated = rw demodulated_at (legal_pair s cs i)

  -- the places before the others hold the symbol's pairs
  in_front : (out out' : List (SoftBit × SoftBit)) → out' ≡ demodulated s cs ++ drop (n_dbps s) out → get_or (demodulated s cs) i (Absent, Absent) ≡ get_or out' i (Absent, Absent)
  unfolding demodulated
  in_front out out' e =
      sym (ap (λ (z : List (SoftBit × SoftBit)). get_or z i (Absent, Absent)) e
      ∙ get_or_append_left (demodulated s cs) (drop (n_dbps s) out) (Absent, Absent) i (omega (arith, length-map-range_with_len (restored Absent s.code_rate (soft s cs)) 0 (n_dbps s))))

-- the pairs of a symbol as sent, whatever they are
pub pairs_told : (r : Rate) (pairs : List (Bool × Bool)) (cs : List Carrier) → length pairs ≡ n_dbps (shape r) → Received (symbol_of (shape r) (punctured (shape r).code_rate pairs)) cs →
    (i : ℕ) → i < n_dbps (shape r) → PairTold (shape r) cs i (get_or pairs i (false, false)) (get_or (demodulated (shape r) cs) i (Absent, Absent))
pairs_told r pairs cs long got i h =
    let s = shape r in
    rw (demodulated_at s cs i h) (told_pair s (regular r) (groups s.modulation) (symbol_grid s.modulation (n_cbps s) refl) pairs cs long got i h)

pub received_is_heard : (r : Rate) (bits : List Bool) (cs : List Carrier) → Received (symbol_of (shape r) bits) cs → listening_fault cs ≡ None
received_is_heard r bits cs got =
    let m = (shape r).modulation in
    let placed = interleaved false 16 (turn_size m) bits in
    ap of_symbol (not_refused cs (as_many m 48 placed cs got) (never_bad m 48 placed cs got))

pub accepts : (r : Rate) (cs : List Carrier) (out out' : List (SoftBit × SoftBit)) → listening_fault cs ≡ None → out' ≡ demodulated (shape r) cs ++ drop (n_dbps (shape r)) out → Demodulates (shape r) cs (Ok tt) out out'
accepts r cs out out' fine e =
    let s = shape r in
    record {
      answer = (fine, e);
      legal = λ ok i h. subst (λ (p : SoftBit × SoftBit). Legal p.0 × Legal p.1) (in_front s cs i h out out' e) (legal_demodulated s cs i h);
      told = λ pairs long got. (
        refl,
        λ i h. subst (λ (p : SoftBit × SoftBit). PairTold s cs i (get_or pairs i (false, false)) p) (in_front s cs i h out out' e) (pairs_told r pairs cs long got i h),
      );
    }

pub refuses : (r : Rate) (cs : List Carrier) (fault : ListenFault) (out : List (SoftBit × SoftBit)) → listening_fault cs ≡ Some fault → Demodulates (shape r) cs (Err fault) out out
refuses r cs fault out e =
    record {
      answer = (e, refl);
      legal = λ ok i h. absurd cc;
      told = λ pairs long got. absurd (let never = received_is_heard r (punctured (shape r).code_rate pairs) cs got in cc);
    }
