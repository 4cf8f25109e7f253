-- Operators between an operand and a constant that leaves its bits, or decides them.
use Rattle.std.specs.Prelude.{◌≡◌, ℕ, ◌+◌, ◌-◌, ◌/◌, ◌%◌, ◌^◌, ◌<◌, ◌≤◌, bit_and, bit_or, bit_xor}
use Rattle.std.specs.Int.Bits.{or_zero_l, or_zero_r, xor_zero_l, xor_zero_r}
use Rattle.std.proofs.Common.{refl, sym, ap, ◌∙◌, arith, subst, inl, inr, ◌⊎◌}
use Rattle.std.proofs.lemmas.Nat.{and_mask, and_comm}
use Rattle.std.proofs.Math.Nat.{mod-eq_of_lt, add-mod_right}
use Rattle.net_core.specs.declared.tree.Word.{Word}
use Rattle.net_core.specs.declared.tree.Op.{Op}
use Rattle.net_core.specs.declared.tree.Op.TheVariants.{Add, Sub, And, Or, Xor}
use Rattle.net_core.specs.Value.{word, apply}
use Rattle.net_core.proofs.LowBitsLaws.{ones_low}
use Rattle.net_core.proofs.WordLaws.{word_same}
use Rattle.net_rules.specs.NetSizes.Fitting.{Fits}

pub ones : (value width from : ℕ) → value ≡ (2 ^ 64 - 1) / 2 ^ from → from ≡ 64 - width → 0 < width → width ≤ 64 → value ≡ 2 ^ width - 1
ones value width from e f some most = e ∙ ap (λ k. (2 ^ 64 - 1) / 2 ^ k) f ∙ ones_low width some most

-- ---- a constant after an operand
pub or_zero : (a w : Word) → w.value ≡ 0 → apply Or a w ≡ a
or_zero a w e = rw (e, or_zero_r a.value) refl

pub xor_zero : (a w : Word) → w.value ≡ 0 → apply Xor a w ≡ a
xor_zero a w e = rw (e, xor_zero_r a.value) refl

small : (n : ℕ) (a : Word) → 0 < n → Fits n a → a.value < 2 ^ a.width
small n a some h = let p = h some in subst (λ k. a.value < 2 ^ k) (sym p.0) p.1

pub add_zero : (n : ℕ) (a w : Word) → 0 < n → Fits n a → w.value ≡ 0 → apply Add a w ≡ a
add_zero n a w some h e =
    let lt : a.value < 2 ^ a.width = small n a some h in
    let sum : a.value + w.value ≡ a.value = omega arith in
    ap (λ k. word a.width (k % 2 ^ a.width)) sum ∙ ap (word a.width) (mod-eq_of_lt lt)

pub sub_zero : (n : ℕ) (a w : Word) → 0 < n → Fits n a → w.value ≡ 0 → apply Sub a w ≡ a
sub_zero n a w some h e =
    let lt : a.value < 2 ^ a.width = small n a some h in
    let sum : a.value + 2 ^ a.width - w.value ≡ a.value + 2 ^ a.width = omega arith in
    ap (λ k. word a.width (k % 2 ^ a.width)) sum ∙ ap (word a.width) (add-mod_right a.value (2 ^ a.width) ∙ mod-eq_of_lt lt)

pub and_ones : (n : ℕ) (a w : Word) → 0 < n → Fits n a → w.width ≡ n → w.value ≡ 2 ^ w.width - 1 → apply And a w ≡ a
and_ones n a w some h e ones =
    let p = h some in
    let lt : a.value < 2 ^ w.width = subst (λ k. a.value < 2 ^ k) (sym e) p.1 in
    ap (λ k. word a.width (bit_and a.value k)) ones ∙ ap (word a.width) (and_mask a.value w.width ∙ mod-eq_of_lt lt)

-- ---- a constant before an operand
pub or_zero_before : (n : ℕ) (w b : Word) → 0 < n → Fits n b → w.width ≡ n → w.value ≡ 0 → apply Or w b ≡ b
or_zero_before n w b some h e z = word_same w.width b.width (bit_or w.value b.value) b.value (e ∙ sym (h some).0) (ap (λ k. bit_or k b.value) z ∙ or_zero_l b.value)

pub xor_zero_before : (n : ℕ) (w b : Word) → 0 < n → Fits n b → w.width ≡ n → w.value ≡ 0 → apply Xor w b ≡ b
xor_zero_before n w b some h e z = word_same w.width b.width (bit_xor w.value b.value) b.value (e ∙ sym (h some).0) (ap (λ k. bit_xor k b.value) z ∙ xor_zero_l b.value)

pub add_zero_before : (n : ℕ) (w b : Word) → 0 < n → Fits n b → w.width ≡ n → w.value ≡ 0 → apply Add w b ≡ b
add_zero_before n w b some h e z =
    let p = h some in
    let lt : b.value < 2 ^ w.width = subst (λ k. b.value < 2 ^ k) (sym e) p.1 in
    let sum : w.value + b.value ≡ b.value = omega arith in
    word_same w.width b.width ((w.value + b.value) % 2 ^ w.width) b.value (e ∙ sym p.0) (ap (λ k. k % 2 ^ w.width) sum ∙ mod-eq_of_lt lt)

pub and_ones_before : (n : ℕ) (w b : Word) → 0 < n → Fits n b → w.width ≡ n → w.value ≡ 2 ^ w.width - 1 → apply And w b ≡ b
and_ones_before n w b some h e ones =
    let p = h some in
    let lt : b.value < 2 ^ w.width = subst (λ k. b.value < 2 ^ k) (sym e) p.1 in
    word_same w.width b.width (bit_and w.value b.value) b.value (e ∙ sym p.0) (and_comm w.value b.value ∙ ap (bit_and b.value) ones ∙ and_mask b.value w.width ∙ mod-eq_of_lt lt)

-- ---- operators of one kind
pub masks_leave : (o : Op) (a w : Word) → (o ≡ Or) ⊎ (o ≡ Xor) → w.value ≡ 0 → apply o a w ≡ a
masks_leave o a w (inl e) z = subst (λ o. apply o a w ≡ a) (sym e) (or_zero a w z)
masks_leave o a w (inr e) z = subst (λ o. apply o a w ≡ a) (sym e) (xor_zero a w z)

pub sums_leave : (o : Op) (n : ℕ) (a w : Word) → (o ≡ Add) ⊎ (o ≡ Sub) → 0 < n → Fits n a → w.value ≡ 0 → apply o a w ≡ a
sums_leave o n a w (inl e) some h z = subst (λ o. apply o a w ≡ a) (sym e) (add_zero n a w some h z)
sums_leave o n a w (inr e) some h z = subst (λ o. apply o a w ≡ a) (sym e) (sub_zero n a w some h z)

pub all_leave_before : (o : Op) (n : ℕ) (w b : Word) → (o ≡ Or) ⊎ ((o ≡ Xor) ⊎ (o ≡ Add)) → 0 < n → Fits n b → w.width ≡ n → w.value ≡ 0 → apply o w b ≡ b
all_leave_before o n w b (inl e) some h s z = subst (λ o. apply o w b ≡ b) (sym e) (or_zero_before n w b some h s z)
all_leave_before o n w b (inr (inl e)) some h s z = subst (λ o. apply o w b ≡ b) (sym e) (xor_zero_before n w b some h s z)
all_leave_before o n w b (inr (inr e)) some h s z = subst (λ o. apply o w b ≡ b) (sym e) (add_zero_before n w b some h s z)
