-- What a step works out is what the operator means.
use Rattle.std.specs.Prelude.{nat_lt, if◌then◌else◌, bit_and, ◌==◌}
use Rattle.std.proofs.Common.{◌≡◌, ℕ, ◌+◌, ◌-◌, ◌*◌, ◌/◌, ◌%◌, ◌^◌, ◌<◌, ◌≤◌, Bool, true, false, List, [], ◌∷◌, get_or, map, zero, suc, refl, sym, ap, ◌∙◌, subst, arith, ⊎_elim}
use Rattle.std.proofs.lemmas.Bool.{cases_lt, lt-ltb, le-ltb, cond-true, cond-false, cond_both}
use Rattle.std.proofs.lemmas.Nat.{and_mask, pow-add, pow_pos}
use Rattle.std.proofs.Math.Nat.{mod-eq_of_lt, div-eq_of_lt, mul-add-mod_self_right, mul_assoc}
use Rattle.std.proofs.Math.Pow.{pow_mono}
use Rattle.net_core.specs.declared.tree.Word.{Word}
use Rattle.net_core.specs.declared.tree.Op.{Op}
use Rattle.net_core.specs.declared.tree.Op.TheVariants.{Add, Sub, Mul, And, Or, Xor, ShiftLeft, ShiftRight, Equal, NotEqual, Less, LessEqual, Greater, GreaterEqual}
use Rattle.net_core.specs.Value.{nothing, apply, part_select, concatenated, conditional}
use Rattle.net_core.specs.Width.{Fits, op_width, part_select_width, concatenation_width}
use Rattle.net_core.proofs.WidthLaws.{same_parts, part_select_parts, concatenation_parts}
use Rattle.net_core.proofs.LowBitsLaws.{low_low, low_difference, shifted_whole, concatenated_small}
use Rattle.clock_sim.specs.declared.step.Opcode.TheVariants as opcode
use Rattle.clock_sim.specs.Steps.{worked, opcode_of, op_swaps}
use Rattle.clock_sim.specs.Flat.{numbers}

-- a mask of a width keeps the low bits
mask_low : (v w n : ℕ) → w ≤ 64 → n ≡ 2 ^ w - 1 → bit_and (v % 2 ^ 64) n ≡ v % 2 ^ w
mask_low v w n most is = ap (λ k. bit_and (v % 2 ^ 64) k) is ∙ and_mask (v % 2 ^ 64) w ∙ low_low v w most

times_mod : (a m : ℕ) → a * m % m ≡ 0 % m
times_mod a m = ap (λ k. k % m) (let e : a * m ≡ a * m + 0 = omega arith in e) ∙ mul-add-mod_self_right a m 0

zero_mod : (m : ℕ) → 0 < m → 0 % m ≡ 0
zero_mod m some = mod-eq_of_lt some

-- a shift by the width or more leaves nothing
shift_out : (a b w : ℕ) → w ≤ b → a * 2 ^ b % 2 ^ w ≡ 0
shift_out a b w le =
    let e : b - w + w ≡ b = omega arith in
    let p : a * 2 ^ b ≡ a * 2 ^ (b - w) * 2 ^ w = ap (λ k. a * 2 ^ k) (sym e) ∙ ap (λ k. a * k) (pow-add 2 (b - w) w) ∙ sym (mul_assoc a (2 ^ (b - w)) (2 ^ w)) in
    ap (λ k. k % 2 ^ w) p ∙ times_mod (a * 2 ^ (b - w)) (2 ^ w) ∙ zero_mod (2 ^ w) (pow_pos w)

-- one bound of a shift for another
by_bound : (b w x y : ℕ) → w ≤ 64 → (b < w → x ≡ y) → (w ≤ b → x ≡ 0) → (if nat_lt b 64 then x else 0) ≡ (if nat_lt b w then y else 0)
by_bound b w x y most inside past =
    ⊎_elim
    (λ lt. let l : b < 64 = omega arith in cond-true (nat_lt b 64) x 0 (lt-ltb b 64 l) ∙ inside lt ∙ sym (cond-true (nat_lt b w) y 0 (lt-ltb b w lt)))
    (λ le. cond_both (nat_lt b 64) x 0 (λ z. z ≡ 0) (λ _. past le) (λ _. refl) ∙ sym (cond-false (nat_lt b w) y 0 (le-ltb b w le)))
    (cases_lt b w)

-- ---- operators
module _ (contents : List (List ℕ)) (slots : List ℕ) (u v : Word) (n : ℕ) (fu : Fits u) (fv : Fits v) (mask : n ≡ 2 ^ u.width - 1) where
  shifted_left : worked opcode.ShiftLeft contents slots n 0 u.value v.value ≡ (apply ShiftLeft u v).value
  shifted_left = by_bound v.value u.width (bit_and (u.value * 2 ^ v.value % 2 ^ 64) n) (u.value * 2 ^ v.value % 2 ^ u.width) fu.most
      (λ lt. mask_low (u.value * 2 ^ v.value) u.width n fu.most mask)
      (λ le. mask_low (u.value * 2 ^ v.value) u.width n fu.most mask ∙ shift_out u.value v.value u.width le)

  shifted_right : worked opcode.ShiftRight contents slots n 0 u.value v.value ≡ (apply ShiftRight u v).value
  shifted_right = by_bound v.value u.width (u.value / 2 ^ v.value) (u.value / 2 ^ v.value) fu.most
      (λ lt. refl)
      (λ le. let s = fu.small in let p = pow_mono le in let lt : u.value < 2 ^ v.value = omega arith in div-eq_of_lt lt)

  difference : 0 < op_width Sub u.width v.width → worked opcode.Subtract contents slots n 0 u.value v.value ≡ (apply Sub u v).value
  difference h =
      let small : v.value < 2 ^ u.width = subst (λ k. v.value < 2 ^ k) (sym (same_parts u.width v.width h).sides) fv.small in
      ap (λ k. bit_and ((u.value + (2 ^ 64 - v.value)) % 2 ^ 64) k) mask ∙ and_mask ((u.value + (2 ^ 64 - v.value)) % 2 ^ 64) u.width ∙ low_difference u.value v.value u.width fu.most small

  pub op_works : (op : Op) → 0 < op_width op u.width v.width → worked (opcode_of op) contents slots n 0 (if op_swaps op then v.value else u.value) (if op_swaps op then u.value else v.value) ≡ (apply op u v).value
  op_works Add h = mask_low (u.value + v.value) u.width n fu.most mask
  op_works Sub h = difference h
  op_works Mul h = mask_low (u.value * v.value) u.width n fu.most mask
  op_works And h = refl
  op_works Or h = refl
  op_works Xor h = refl
  op_works ShiftLeft h = shifted_left
  op_works ShiftRight h = shifted_right
  op_works Equal h = refl
  op_works NotEqual h = refl
  op_works Less h = refl
  op_works LessEqual h = refl
  op_works Greater h = refl
  op_works GreaterEqual h = refl

-- ---- selects, concatenations, choices, memories
pub part_select_works : (contents : List (List ℕ)) (slots : List ℕ) (u : Word) (hi lo n y : ℕ) → Fits u → 0 < part_select_width u.width hi lo → n ≡ 2 ^ (hi + 1 - lo) - 1 → worked opcode.PartSelect contents slots n lo u.value y ≡ (part_select u hi lo).value
part_select_works contents slots u hi lo n y f h mask =
    let p = part_select_parts u.width hi lo h in
    let m = f.most in let o = p.order in let i = p.within in
    let below : lo < 64 = omega arith in
    ap (λ k. bit_and (u.value / 2 ^ k) n) (mod-eq_of_lt below)
    ∙ ap (λ k. bit_and (u.value / 2 ^ lo) k) mask
    ∙ and_mask (u.value / 2 ^ lo) (hi + 1 - lo)

pub concatenation_works : (contents : List (List ℕ)) (slots : List ℕ) (u v : Word) (n : ℕ) → Fits u → Fits v → 0 < concatenation_width u.width v.width → worked opcode.Concatenation contents slots n v.width u.value v.value ≡ (concatenated u v).value
concatenation_works contents slots u v n f g h =
    let p = concatenation_parts u.width v.width h in
    let a = p.left in let m = p.most in
    let below : v.width < 64 = omega arith in
    let small = concatenated_small u.value v.value u.width v.width f.small g.small in
    let le : 2 ^ (u.width + v.width) ≤ 2 ^ 64 = pow_mono m in
    let lt : u.value * 2 ^ v.width + v.value < 2 ^ 64 = omega arith in
    ap (λ k. (u.value * 2 ^ k % 2 ^ 64 + v.value) % 2 ^ 64) (mod-eq_of_lt below)
    ∙ ap (λ k. (k + v.value) % 2 ^ 64) (shifted_whole u.value u.width v.width f.small m)
    ∙ mod-eq_of_lt lt

pub conditional_works : (contents : List (List ℕ)) (slots : List ℕ) (t u v : Word) (n h : ℕ) → get_or slots n 0 ≡ v.value → worked opcode.Conditional contents slots n h t.value u.value ≡ (conditional t u v).value
conditional_works contents slots t u v n h e = by_test (t.value == 0)
  where
    by_test : (b : Bool) → (if b then get_or slots n 0 else u.value) ≡ (if b then v else u).value
    by_test true = e
    by_test false = refl

pub number_at : (ws : List Word) (i : ℕ) → get_or (numbers ws) i 0 ≡ (get_or ws i nothing).value
number_at [] i = refl
number_at (w ∷ ws) zero = refl
number_at (w ∷ ws) (suc i) = number_at ws i

pub memory_at : (all : List (List Word)) (i : ℕ) → get_or (map numbers all) i [] ≡ numbers (get_or all i [])
memory_at [] i = refl
memory_at (ws ∷ all) zero = refl
memory_at (ws ∷ all) (suc i) = memory_at all i

pub fetch_works : (all : List (List Word)) (i a : ℕ) → get_or (get_or (map numbers all) i []) a 0 ≡ (get_or (get_or all i []) a nothing).value
fetch_works all i a = ap (λ b. get_or b a 0) (memory_at all i) ∙ number_at (get_or all i []) a
