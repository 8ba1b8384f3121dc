-- One bit more through the coder and the puncturing.
use Rattle.std.proofs.Common.{◌≡◌, ℕ, ◌+◌, ◌-◌, ◌*◌, ◌/◌, ◌%◌, ◌<◌, ◌≤◌, Bool, false, cond, List, [], ◌∷◌, ◌++◌, length, get_or, take, drop, sym, refl, ap, ◌∙◌, subst, ap₂, add-mul, mul_comm, arith}
use native.Mathlib.Nat.{div-add-mod, mul-mod_left}
use Rattle.std.proofs.Math.Seq.{take-add}
use borrow.Rule.Slice.PartMut.{mid_of, put_mid}
use Rattle.std.proofs.lemmas.Slice.{take-put_mid}
use Rattle.frame.specs.Bits.{bit_of}
use Rattle.std.proofs.lemmas.List.{append_assoc, take_more, take_all, length-take-le}
use Rattle.frame.specs.declared.rate.CodeRate.{CodeRate}
use Rattle.coding.specs.Coder.{next_state, outputs, coded_from, state_from}
use Rattle.coding.specs.Puncturing.{pattern, sent_of, kept, punctured_from, punctured, sent_count, Period}
use Rattle.coding.specs.Encoding.{Put, Underway, Encoded}
use Rattle.coding.proofs.States.{coded_append, state_append, length_coded}
use Rattle.coding.proofs.Punctured.{punctured_append, punctured_push, punctured_again, room, count_none, count_more, sent_again, count_to_period, period_within}

state_more : (s held i held' : ℕ) (bits : List Bool) → i < length bits → held ≡ state_from s (take i bits) → held' ≡ next_state held (get_or bits i false) → held' ≡ state_from s (take (i + 1) bits)
state_more s held i held' bits h e f =
    let b = get_or bits i false in
    f ∙ ap (λ (z : ℕ). next_state z b) e ∙ sym (state_append s (take i bits) (b ∷ [])) ∙ ap (state_from s) (sym (take_more bits i false h))

punctured_more : (c : CodeRate) (s held i : ℕ) (bits xs ys zs : List Bool) (pair send : Bool × Bool) → i < length bits →
    held ≡ state_from s (take i bits) → pair ≡ outputs held (get_or bits i false) → send ≡ sent_of c i →
    ys ≡ xs ++ cond send.0 (pair.0 ∷ []) [] → zs ≡ ys ++ cond send.1 (pair.1 ∷ []) [] →
    xs ≡ punctured c (coded_from s (take i bits)) → zs ≡ punctured c (coded_from s (take (i + 1) bits))
punctured_more c s held i bits xs ys zs pair send h e p k y z x =
    let b = get_or bits i false in
    let front = take i bits in
    let n : length (coded_from s front) ≡ i = omega (arith, length_coded s front, length-take-le i bits (omega arith)) in
    z ∙ ap (λ (q : List Bool). q ++ cond send.1 (pair.1 ∷ []) []) y
    ∙ append_assoc xs (cond send.0 (pair.0 ∷ []) []) (cond send.1 (pair.1 ∷ []) [])
    ∙ ap₂ (λ (q : List Bool) (v : List Bool). q ++ v) x (ap₂ kept k (p ∙ ap (λ (v : ℕ). outputs v b) e))
    ∙ sym (punctured_push (sent_of c) i (coded_from s front) (outputs (state_from s front) b) n)
    ∙ ap (punctured c) (sym (coded_append s front (b ∷ [])))
    ∙ ap (λ (q : List Bool). punctured c (coded_from s q)) (sym (take_more bits i false h))

-- one bit more
module _ (bits : List Bool) (c : CodeRate) (before i held place : ℕ) (out : List Bool) (u : Underway bits c before i held place out) where
  pub underway_more : (at at' held' : ℕ) (mid out' : List Bool) (pair send : Bool × Bool) → i < length bits → send ≡ sent_of c i → pair ≡ outputs held (get_or bits i false) →
      Put out place send.0 pair.0 at mid → Put mid at send.1 pair.1 at' out' → length out' ≡ length out →
      held' ≡ next_state held (get_or bits i false) → Underway bits c before (i + 1) held' at' out'
  underway_more at at' held' mid out' pair send h k p A B l n =
      let more : sent_count c (i + 1) ≡ sent_count c i + (bit_of send.0 + bit_of send.1) = rw k (count_more c i) in
      record {
        room = l ∙ u.room;
        counted = omega (arith, more, A.moved, B.moved, u.counted);
        left = state_more before held i held' bits h u.left n;
        written = punctured_more c before held i bits (take place out) (take at mid) (take at' out') pair send h u.left p k A.front B.front u.written;
      }

  -- both bits of the next pair find room, if they are sent
  pub room_for : (send : Bool × Bool) → i < length bits → send ≡ sent_of c i → place + (bit_of send.0 + bit_of send.1) ≤ length out
  room_for send h k = omega (arith, room c i (length bits) (length out) send h u.room k, u.counted)

pub underway_none : (bits : List Bool) (c : CodeRate) (before : ℕ) (out : List Bool) → length out ≡ sent_count c (length bits) → Underway bits c before 0 before 0 out
underway_none bits c before out e = record { room = e; counted = sym (count_none c); left = refl; written = refl }

-- a row that is coded after whole periods
pub encoded_more : (c : CodeRate) (before held after : ℕ) (xs ys out out' : List Bool) → length xs % length (pattern c) ≡ 0 →
    Encoded xs c before held out → Encoded ys c held after out' → Encoded (xs ++ ys) c before after (out ++ out')
encoded_more c before held after xs ys out out' whole first next =
    let A = coded_from before xs in
    let B = coded_from (state_from before xs) ys in
    let d = length A in
    let periods : d % length (pattern c) ≡ 0 = ap (λ (z : ℕ). z % length (pattern c)) (length_coded before xs) ∙ whole in
    let again : (i : ℕ) → sent_of c (d + i) ≡ sent_of c i =
    λ i. ap (sent_of c) (let z : d + i ≡ 1 * d + i = omega arith in z) ∙ sent_again c d periods 1 i in
    let rest : punctured_from (sent_of c) (0 + d) B ≡ punctured c B =
    ap (λ (z : ℕ). punctured_from (sent_of c) z B) (let z : 0 + d ≡ d + 0 = omega arith in z) ∙ punctured_again (sent_of c) d again 0 B in
    record {
      left = next.left ∙ ap (λ (z : ℕ). state_from z ys) first.left ∙ sym (state_append before xs ys);
      written = ap₂ (λ (x : List Bool) (y : List Bool). x ++ y) first.written (next.written ∙ ap (λ (z : ℕ). punctured c (coded_from z ys)) first.left)
          ∙ sym (ap (punctured c) (coded_append before xs ys) ∙ punctured_append (sent_of c) 0 A B ∙ ap (λ (z : List Bool). punctured c A ++ z) rest);
    }

-- period k coded after those before it
pub encoded_period : (c : CodeRate) (pairs sent : ℕ) → Period c pairs sent → (bits out part : List Bool) (before held after k width : ℕ) →
    k < length bits / pairs → length out ≡ sent_count c (length bits) → length part ≡ sent → Encoded (take (k * pairs) bits) c before held (take (k * sent) out) →
    Encoded (mid_of (k * pairs) (k * pairs + pairs - k * pairs) bits) c held after part → Encoded (take ((k + 1) * pairs) bits) c before after (take ((k + 1) * sent) (put_mid (k * sent) width out part))
encoded_period c pairs sent p bits out part before held after k width h room long first next =
    let w = period_within c pairs sent (length bits) k p h in
    let p_next : (k + 1) * pairs ≡ k * pairs + pairs = add-mul k 1 pairs ∙ ap (λ (z : ℕ). k * pairs + z) (let z : 1 * pairs ≡ pairs = omega arith in z) in
    let s_next : (k + 1) * sent ≡ k * sent + sent = add-mul k 1 sent ∙ ap (λ (z : ℕ). k * sent + z) (let z : 1 * sent ≡ sent = omega arith in z) in
    let one : pairs ≡ k * pairs + pairs - k * pairs = omega arith in
    let front : take ((k + 1) * pairs) bits ≡ take (k * pairs) bits ++ mid_of (k * pairs) (k * pairs + pairs - k * pairs) bits =
    ap (λ (z : ℕ). take z bits) p_next ∙ take-add (k * pairs) pairs bits ∙ ap (λ (z : ℕ). take (k * pairs) bits ++ take z (drop (k * pairs) bits)) one in
    let back : take ((k + 1) * sent) (put_mid (k * sent) width out part) ≡ take (k * sent) out ++ part =
    take-put_mid (k * sent) width out part ((k + 1) * sent) (omega (arith, s_next, long)) (omega (arith, w.sent_fit, room)) in
    let whole : length (take (k * pairs) bits) % length (pattern c) ≡ 0 =
    ap₂ (λ (x : ℕ) (y : ℕ). x % y) (length-take-le (k * pairs) bits (omega (arith, w.pairs_fit))) (sym p.long) ∙ mul-mod_left k pairs in
    subst (λ (z : List Bool). Encoded z c before after (take ((k + 1) * sent) (put_mid (k * sent) width out part))) (sym front)
    (subst (λ (z : List Bool). Encoded (take (k * pairs) bits ++ mid_of (k * pairs) (k * pairs + pairs - k * pairs) bits) c before after z) (sym back)
    (encoded_more c before held after (take (k * pairs) bits) (mid_of (k * pairs) (k * pairs + pairs - k * pairs) bits) (take (k * sent) out) part whole first next))

-- all of them
pub encoded_whole : (c : CodeRate) (pairs sent k before after : ℕ) → Period c pairs sent → (bits out : List Bool) → length bits % pairs ≡ 0 → k ≡ length bits / pairs →
    length out ≡ sent_count c (length bits) → Encoded (take (k * pairs) bits) c before after (take (k * sent) out) → Encoded bits c before after out
encoded_whole c pairs sent k before after p bits out whole all room e =
    let n = length bits in
    let long : k * pairs ≡ n = ap (λ (z : ℕ). z * pairs) all ∙ mul_comm (n / pairs) pairs ∙ (let w : pairs * (n / pairs) ≡ n = omega (arith, div-add-mod n pairs, whole) in w) in
    let full : k * sent ≡ length out = sym (count_to_period c pairs sent p k) ∙ ap (sent_count c) long ∙ sym room in
    record {
      left = e.left ∙ ap (state_from before) (take_all (k * pairs) bits (omega arith));
      written = sym (take_all (k * sent) out (omega arith)) ∙ e.written ∙ ap (λ (z : List Bool). punctured c (coded_from before z)) (take_all (k * pairs) bits (omega arith));
    }
