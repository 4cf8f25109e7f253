-- Bits of operands.
use Rattle.std.specs.Prelude.{Contains}
use Rattle.std.proofs.Common.{◌≡◌, ℕ, ◌+◌, ◌-◌, ◌*◌, ◌/◌, ◌%◌, ◌^◌, ◌<◌, ◌≤◌, List, refl, sym, ◌∙◌, ap, subst, arith, inl, shr-shr}
use Rattle.std.proofs.lemmas.Nat.{pow_pos}
use Rattle.std.proofs.Math.Nat.{div-one, mod-eq_of_lt, div-eq_of_lt}
use Rattle.std.proofs.Math.Pow.{pow_mono, shr_mod, field, mod-mod-pow}
use Rattle.net_core.specs.Nets.{Tree, TConst, TRead, TBit, TPartSelect, TConcatenation, TMore, TLast}
use Rattle.net_core.specs.Value.{Env, word}
use Rattle.cell_core.specs.Cells.{bits_from}
use Rattle.cell_nets.specs.declared.operand.Operand.{Operand}
use Rattle.cell_nets.specs.declared.operand.Operand.TheVariants.{Net, Part}
use Rattle.cell_nets.specs.Operands.{HasWidth, HasNet, IsAvailable, number_in}
use Rattle.cell_nets.specs.Parts.{IsSlice}
use Rattle.cell_nets.proofs.ExpressionPartLaws.{slice_of, slice_same, const_slice, read_slice, bits_slice, bit_slice, beside_slice}

-- all bits of a number
pub whole_bits : (n w : ℕ) → n < 2 ^ w → n ≡ bits_from n 0 w
whole_bits n w small = rw div-one (rw (mod-eq_of_lt {n = n} {m = 2 ^ w} small) refl)

-- no bits past the width
pub past_bits : (n w from width : ℕ) → n < 2 ^ w → w ≤ from → 0 ≡ bits_from n from width
past_bits n w from width small past =
    let less : n < 2 ^ from = omega (arith, pow_mono {i = w} {j = from} past) in
    let some : 0 < 2 ^ width = pow_pos width in
    sym (ap (λ k. k % 2 ^ width) (div-eq_of_lt {n = n} {m = 2 ^ from} less) ∙ mod-eq_of_lt {n = 0} {m = 2 ^ width} some)

-- all bits from one on
rest_bits : (n w from width : ℕ) → n < 2 ^ w → w ≤ width + from → bits_from n from width ≡ n / 2 ^ from
rest_bits n w from width small more = let less : n < 2 ^ (width + from) = omega (arith, pow_mono {i = w} {j = width + from} more) in shr_mod width from less

-- bits that end at the width, and more past it
pub last_bits : (n w from width : ℕ) → n < 2 ^ w → from ≤ w → w - from ≤ width → 0 * 2 ^ (w - from) + bits_from n from (w - from) ≡ bits_from n from width
last_bits n w from width small inside more =
    let e : bits_from n from (w - from) ≡ bits_from n from width = rest_bits n w from (w - from) small (omega arith) ∙ sym (rest_bits n w from width small (omega arith)) in
    omega (arith, e)

-- bits of bits
pub bits_of_bits : (n at bits from width : ℕ) → from + width ≤ bits → bits_from (bits_from n at bits) from width ≡ bits_from n (at + from) width
bits_of_bits n at bits from width inside =
    let y : ℕ = n / 2 ^ at in
    let e : bits - from + from ≡ bits = omega arith in
    let f : bits - from - width + width ≡ bits - from = omega arith in
    ap (λ k. y % 2 ^ k / 2 ^ from % 2 ^ width) (sym e) ∙ ap (λ k. k % 2 ^ width) (field y (bits - from) from) ∙ ap (λ k. y / 2 ^ from % 2 ^ k % 2 ^ width) (sym f)
    ∙ mod-mod-pow (y / 2 ^ from) (bits - from - width) width ∙ ap (λ k. k % 2 ^ width) (shr-shr n at from)

-- ---- of a net
pub whole_inside :
    {N : Type 0} (ins : List (Operand N)) (n : N) (w from width : ℕ) → Contains ins (Net n w) → width ≡ w → from ≡ 0 → IsSlice ins 1 width (λ v. bits_from (v.net n).value from width) (TRead n)
whole_inside ins n w from width c e z =
    let P : ℕ → Type 0 = λ k. IsSlice ins 1 k (λ v. bits_from (v.net n).value from k) (TRead n) in
    subst P (sym e) (slice_same ins 1 w _ _ (TRead n) (λ v f. let fit : HasWidth v n w = f (Net n w) c in whole_bits _ w fit.small ∙ ap (λ k. bits_from (v.net n).value k w) (sym z)) (read_slice ins n w c))

pub bit_inside :
    {N : Type 0} (ins : List (Operand N)) (n : N) (w from width : ℕ) → Contains ins (Net n w) → width ≡ 1 → 2 ≤ w → from < w → IsSlice ins 1 width (λ v. bits_from (v.net n).value from width) (TBit n from)
bit_inside ins n w from width c e two inside =
    let P : ℕ → Type 0 = λ k. IsSlice ins 1 k (λ v. bits_from (v.net n).value from k) (TBit n from) in
    let f : from + 1 - from ≡ width = omega arith in
    subst P f (bit_slice ins n w from c two inside)

pub bits_inside :
    {N : Type 0} (ins : List (Operand N)) (n : N) (w from width : ℕ) → Contains ins (Net n w) → 2 ≤ w → 0 < width → from + width ≤ w
    → IsSlice ins 1 width (λ v. bits_from (v.net n).value from width) (TPartSelect n (from + width - 1) from)
bits_inside ins n w from width c two some inside =
    let P : ℕ → Type 0 = λ k. IsSlice ins 1 k (λ v. bits_from (v.net n).value from k) (TPartSelect n (from + width - 1) from) in
    let f : from + width - 1 + 1 - from ≡ width = omega arith in
    subst P f (bits_slice ins n w (from + width - 1) from c two (omega arith) (omega arith))

-- ---- of a number of so many bits, from one on
pub past_slice : {N : Type 0} (ins : List (Operand N)) (f : Env N → ℕ) (bits from width : ℕ) → ((v : Env N) → f v < 2 ^ bits) → width ≤ 64 → bits ≤ from → IsSlice ins 2 width (λ v. bits_from (f v) from width) (TConst (word width 0))
past_slice ins f bits from width small most past =
    slice_of ins 1 2 width _ _ _ (omega arith) refl (slice_same ins 1 width _ _ _ (λ v fit. past_bits (f v) bits from width (small v) past) (const_slice ins width 0 most (pow_pos width)))

pub last_slice :
    {N : Type 0} (ins : List (Operand N)) (f : Env N → ℕ) (bits from width : ℕ) (t : Tree N) → ((v : Env N) → f v < 2 ^ bits) → width ≤ 64 → from < bits → bits - from < width → IsSlice ins 1 (bits - from) (λ v. bits_from (f v) from (bits - from)) t
    → IsSlice ins 2 width (λ v. bits_from (f v) from width) (TConcatenation (TMore (TConst (word (width - (bits - from)) 0)) (TLast t)))
last_slice ins f bits from width t small most inside more p =
    let z = const_slice ins (width - (bits - from)) 0 (omega arith) (pow_pos (width - (bits - from))) in
    let b = beside_slice ins 1 1 (width - (bits - from)) (bits - from) _ _ _ _ (omega arith) (omega arith) (omega arith) z.part p.part in
    let P : ℕ → Type 0 = λ k. IsSlice ins 2 k (λ v. bits_from (f v) from width) (TConcatenation (TMore (TConst (word (width - (bits - from)) 0)) (TLast t))) in
    let e : width - (bits - from) + (bits - from) ≡ width = omega arith in
    subst P e (slice_same ins 2 _ _ _ _ (λ v fit. last_bits (f v) bits from width (small v) (omega arith) (omega arith)) b)

-- ---- of an operand that is a net, or bits of one
pub net_at :
    {N : Type 0} (ins : List (Operand N)) (a : Operand N) (n : N) (of from width : ℕ) (t : Tree N) → a ≡ Net n of → IsAvailable ins a → (HasNet ins n of → IsSlice ins 2 width (λ v. bits_from (bits_from (v.net n).value 0 of) from width) t)
    → IsSlice ins 2 width (λ v. bits_from (number_in v a) from width) t
net_at {N = N} ins a n of from width t e c p =
    let there : Contains ins (Net n of) = subst (IsAvailable ins) e c in
    subst (λ b. IsSlice ins 2 width (λ v. bits_from (number_in v b) from width) t) (sym e)
    (slice_same ins 2 width _ _ t (λ v f. let fit : HasWidth v n of = f (Net n of) there in ap (λ k. bits_from k from width) (sym (whole_bits (v.net n).value of fit.small))) (p (inl there)))

pub part_at :
    {N : Type 0} (ins : List (Operand N)) (a : Operand N) (n : N) (of at bits from width : ℕ) (t : Tree N) → a ≡ Part n of at bits → IsAvailable ins a → (HasNet ins n of → IsSlice ins 2 width (λ v. bits_from (bits_from (v.net n).value at bits) from width) t)
    → IsSlice ins 2 width (λ v. bits_from (number_in v a) from width) t
part_at ins a n of at bits from width t e c p = subst (λ b. IsSlice ins 2 width (λ v. bits_from (number_in v b) from width) t) (sym e) (p (subst (IsAvailable ins) e c))
