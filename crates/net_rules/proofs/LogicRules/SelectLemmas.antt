-- Bits of bits, and of concatenations.
use Rattle.std.specs.Prelude.{◌≡◌, ℕ, ◌+◌, ◌-◌, ◌*◌, ◌/◌, ◌%◌, ◌^◌, ◌<◌, ◌≤◌, bit_and}
use Rattle.std.proofs.Common.{sym, ap, ◌∙◌, arith, subst}
use Rattle.std.proofs.lemmas.Nat.{and_mask, field_of, shr_high, shr-shr, pow-add}
use Rattle.std.proofs.Math.Nat.{mod-eq_of_lt, add-mul-mod_self_right}
use Rattle.std.proofs.Math.Pow.{mod-mod-pow}
use Rattle.net_core.specs.declared.tree.Word.{Word}
use Rattle.net_core.specs.Value.{word, part_select, concatenated}
use Rattle.net_core.proofs.LowBitsLaws.{ones_low}
use Rattle.net_core.proofs.WordLaws.{word_same}
use Rattle.net_rules.specs.NetSizes.Fitting.{Fits}

-- all bits
pub whole : (n high low : ℕ) (w : Word) → high + 1 ≡ n → low ≡ 0 → Fits n w → w ≡ part_select w high low
whole n high low w e z h =
    let some : 0 < n = omega arith in
    let p = h some in
    let wide : high + 1 - low ≡ n = omega arith in
    let all : w.value / 2 ^ 0 ≡ w.value = omega arith in
    sym (word_same (high + 1 - low) w.width (w.value / 2 ^ low % 2 ^ (high + 1 - low)) w.value (wide ∙ sym p.0)
    (ap (λ k. w.value / 2 ^ k % 2 ^ (high + 1 - low)) z ∙ ap (λ k. w.value / 2 ^ 0 % 2 ^ k) wide ∙ ap (λ k. k % 2 ^ n) all ∙ mod-eq_of_lt p.1))

-- bits of a constant
pub of_word : (w : Word) (high low from less : ℕ) → from ≡ low → less ≡ 64 - (high - low + 1) → low ≤ high → high < 64
    → word (high - low + 1) (bit_and (w.value / 2 ^ from) ((2 ^ 64 - 1) / 2 ^ less)) ≡ part_select w high low
of_word w high low from less f l le lt =
    let k = high - low + 1 in
    let wide : k ≡ high + 1 - low = omega arith in
    let some : 0 < k = omega arith in
    let most : k ≤ 64 = omega arith in
    word_same k (high + 1 - low) (bit_and (w.value / 2 ^ from) ((2 ^ 64 - 1) / 2 ^ less)) (w.value / 2 ^ low % 2 ^ (high + 1 - low)) wide
    (ap (λ n. bit_and (w.value / 2 ^ n) ((2 ^ 64 - 1) / 2 ^ less)) f ∙ ap (λ n. bit_and (w.value / 2 ^ low) ((2 ^ 64 - 1) / 2 ^ n)) l
    ∙ ap (bit_and (w.value / 2 ^ low)) (ones_low k some most) ∙ and_mask (w.value / 2 ^ low) k ∙ ap (λ n. w.value / 2 ^ low % 2 ^ n) wide)

-- bits of bits
pub twice : (w : Word) (top end high low : ℕ) → end ≤ top → high ≤ top - end → low ≤ high → part_select w (high + end) (low + end) ≡ part_select (part_select w top end) high low
twice w top end high low first second third =
    let x = w.value / 2 ^ end in
    let j = top + 1 - end - low in
    let k = high + 1 - low in
    let less = j - k in
    let all : top + 1 - end ≡ j + low = omega arith in
    let some : j ≡ less + k = omega arith in
    let wide : high + end + 1 - (low + end) ≡ k = omega arith in
    let up : low + end ≡ end + low = omega arith in
    word_same (high + end + 1 - (low + end)) k (w.value / 2 ^ (low + end) % 2 ^ (high + end + 1 - (low + end))) (x % 2 ^ (top + 1 - end) / 2 ^ low % 2 ^ k) wide
    (ap (λ n. w.value / 2 ^ (low + end) % 2 ^ n) wide ∙ ap (λ n. w.value / 2 ^ n % 2 ^ k) up ∙ ap (λ n. n % 2 ^ k) (sym (shr-shr w.value end low))
    ∙ sym (ap (λ n. x % 2 ^ n / 2 ^ low % 2 ^ k) all ∙ ap (λ n. n % 2 ^ k) (field_of x j low) ∙ ap (λ n. x / 2 ^ low % 2 ^ n % 2 ^ k) some ∙ mod-mod-pow (x / 2 ^ low) less k))

-- bits of the first of two parts
pub in_first : (a b : Word) (s high low : ℕ) → 0 < s → Fits s b → s ≤ low → s ≤ high → part_select a (high - s) (low - s) ≡ part_select (concatenated a b) high low
in_first a b s high low some h le ge =
    let p = h some in
    let wide : high - s + 1 - (low - s) ≡ high + 1 - low = omega arith in
    let up : low ≡ b.width + (low - s) = omega (arith, p.0) in
    let small : b.value < 2 ^ b.width = subst (λ n. b.value < 2 ^ n) (sym p.0) p.1 in
    let all = a.value * 2 ^ b.width + b.value in
    word_same (high - s + 1 - (low - s)) (high + 1 - low) (a.value / 2 ^ (low - s) % 2 ^ (high - s + 1 - (low - s))) (all / 2 ^ low % 2 ^ (high + 1 - low)) wide
    (ap (λ n. a.value / 2 ^ (low - s) % 2 ^ n) wide
    ∙ ap (λ n. n / 2 ^ (low - s) % 2 ^ (high + 1 - low)) (sym (shr_high a.value b.width b.value small))
    ∙ ap (λ n. n % 2 ^ (high + 1 - low)) (shr-shr all b.width (low - s)) ∙ ap (λ n. all / 2 ^ n % 2 ^ (high + 1 - low)) (sym up))

-- bits of the other one
low_part : (a b s k : ℕ) → k ≤ s → (a * 2 ^ s + b) % 2 ^ k ≡ b % 2 ^ k
low_part a b s k le =
    let e : s ≡ s - k + k = omega arith in
    let p : a * 2 ^ s + b ≡ b + a * 2 ^ (s - k) * 2 ^ k = ap (λ n. a * 2 ^ n + b) e ∙ ap (λ n. a * n + b) (pow-add 2 (s - k) k) ∙ omega arith in
    ap (λ n. n % 2 ^ k) p ∙ add-mul-mod_self_right b (a * 2 ^ (s - k)) (2 ^ k)

pub in_second : (a b : Word) (s high low : ℕ) → 0 < s → Fits s b → high < s → low ≤ high → part_select b high low ≡ part_select (concatenated a b) high low
in_second a b s high low some h lt le =
    let p = h some in
    let k = high + 1 - low in
    let up : k + low ≡ high + 1 = omega arith in
    let all = a.value * 2 ^ b.width + b.value in
    let fit : k + low ≤ b.width = omega (arith, p.0) in
    ap (word k) (sym (field_of b.value k low) ∙ ap (λ n. n / 2 ^ low) (sym (low_part a.value b.value b.width (k + low) fit)) ∙ field_of all k low)
