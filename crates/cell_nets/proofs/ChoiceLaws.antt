-- Bits and choices.
use Rattle.std.specs.Prelude.{◌==◌, not, if◌then◌else◌}
use Rattle.std.proofs.Common.{◌≡◌, ℕ, zero, suc, ◌+◌, ◌-◌, ◌*◌, ◌/◌, ◌%◌, ◌^◌, ◌<◌, ◌≤◌, Bool, true, false, List, refl, sym, ◌∙◌, ap, subst, arith}
use Rattle.std.proofs.lemmas.Nat.{div-add-mod', mod_below, pow_pos, div_below, pow-add}
use Rattle.std.proofs.Math.Nat.{add-mul-mod_self_right, mod-eq_of_lt}
use Rattle.std.proofs.Math.Pow.{pow_mono}
use Rattle.net_core.specs.Nets.{Tree, TUnary}
use Rattle.net_core.specs.declared.tree.UnaryOp.TheVariants.{ReduceOr}
use Rattle.net_core.specs.Value.{Env, number_of}
use Rattle.cell_core.specs.Cells.{bit, on, bits_from}
use Rattle.cell_nets.specs.declared.operand.Operand.{Operand}
use Rattle.cell_nets.specs.declared.operand.Operand.TheVariants.{Known, Net, Part}
use Rattle.cell_nets.specs.Operands.{number_in, IsOperand, IsWithin, IsFit, AreFit, IsAvailable}
use Rattle.cell_nets.specs.Parts.{IsPart, IsSlice}
use Rattle.cell_nets.proofs.ExpressionPartLaws.{fit_net, part_same, part_of, any_part}
use Rattle.cell_nets.proofs.NarrowLaws.{from_zero, bits_small}

pub fit_of : {N : Type 0} (ins : List (Operand N)) (v : Env N) (a : Operand N) → IsAvailable ins a → AreFit v ins → IsFit v a
fit_of ins v (Known n) h f = tt
fit_of ins v (Net n w) h f = f (Net n w) h
fit_of ins v (Part n of from w) h f = fit_net ins v n of h f

-- every operand is a number of 64 bits
pub number_small : {N : Type 0} (v : Env N) (a : Operand N) → IsOperand a → IsFit v a → number_in v a < 2 ^ 64
number_small v (Known n) o f = o
number_small v (Net n w) o f = omega (arith, pow_mono {i = w} {j = 64} o.most, f.small)
number_small v (Part n of from w) o f = let most : w ≤ 64 = omega (arith, o.inside, o.most) in omega (arith, pow_mono {i = w} {j = 64} most, bits_small (v.net n).value from w)

pub truth_is : (t : Bool) → number_of (if t then false else true) ≡ bit (not t)
truth_is true = refl
truth_is false = refl

pub one_bit : (n : ℕ) → n < 2 → n ≡ bit (on n)
one_bit zero h = refl
one_bit (suc zero) h = refl
one_bit (suc (suc n)) h = absurd (omega arith)

pub choice_is : (b : Bool) (y z w : ℕ) → (if bit b == 0 then bits_from z 0 w else bits_from y 0 w) ≡ bits_from (if b then y else z) 0 w
choice_is true y z w = refl
choice_is false y z w = refl

-- so many times m, less 1 and less a number below it
complement_of : (x k m : ℕ) → 0 < m → x < k * m → (k * m - 1 - x) % m ≡ m - 1 - x % m
complement_of x k m some below =
    let less : x / m < k = div_below x m k some below in
    let r : k - 1 - x / m + (1 + x / m) ≡ k = omega arith in
    let e : k * m ≡ (k - 1 - x / m) * m + m + x / m * m = ap (λ n. n * m) (sym r) ∙ omega arith in
    let rest : x % m < m = mod_below x m some in
    let d : k * m - 1 - x ≡ m - 1 - x % m + (k - 1 - x / m) * m = omega (arith, e, div-add-mod' x m) in
    let small : m - 1 - x % m < m = omega arith in
    ap (λ n. n % m) d ∙ add-mul-mod_self_right (m - 1 - x % m) (k - 1 - x / m) m ∙ mod-eq_of_lt {n = m - 1 - x % m} {m = m} small

pub complement_cut : (x w : ℕ) → w ≤ 64 → x < 2 ^ 64 → 2 ^ w - 1 - bits_from x 0 w ≡ bits_from (2 ^ 64 - 1 - x) 0 w
complement_cut x w most small =
    let e : 64 - w + w ≡ 64 = omega arith in
    let p : 2 ^ 64 ≡ 2 ^ (64 - w) * 2 ^ w = ap (λ k. 2 ^ k) (sym e) ∙ pow-add 2 (64 - w) w in
    let below : x < 2 ^ (64 - w) * 2 ^ w = omega (arith, p) in
    ap (λ k. 2 ^ w - 1 - k) (from_zero x w) ∙ sym (from_zero (2 ^ 64 - 1 - x) w ∙ ap (λ k. (k - 1 - x) % 2 ^ w) p ∙ complement_of x (2 ^ (64 - w)) (2 ^ w) (pow_pos w) below)

-- whether bits are not all 0
pub bit_truth : {N : Type 0} (ins : List (Operand N)) (w : ℕ) (f : Env N → ℕ) (t : Tree N) → w ≡ 1 → ((v : Env N) → AreFit v ins → f v < 2 ^ w) → IsSlice ins 1 w f t → IsPart ins 2 1 (λ v. bit (on (f v))) t
bit_truth ins w f t one small p =
    let q : IsSlice ins 1 1 f t = subst (λ k. IsSlice ins 1 k f t) one p in
    part_of ins 1 2 1 _ t t (omega arith) refl (part_same ins 1 1 _ _ t (λ v fit. one_bit (f v) (subst (λ k. f v < 2 ^ k) one (small v fit))) q.part)

pub word_truth : {N : Type 0} (ins : List (Operand N)) (w : ℕ) (f : Env N → ℕ) (t : Tree N) → 0 < w → IsSlice ins 1 w f t → IsPart ins 2 1 (λ v. bit (on (f v))) (TUnary ReduceOr t)
word_truth ins w f t some p = part_same ins 2 1 _ _ _ (λ v fit. truth_is (f v == 0)) (any_part ins 1 w _ _ some p)

pub truth_at : {N : Type 0} (ins : List (Operand N)) (a b : Operand N) (t : Tree N) → a ≡ b → IsAvailable ins a → (IsAvailable ins b → IsPart ins 2 1 (λ v. bit (on (number_in v b))) t) → IsPart ins 2 1 (λ v. bit (on (number_in v a))) t
truth_at ins a b t e there p = subst (λ x. IsPart ins 2 1 (λ v. bit (on (number_in v x))) t) (sym e) (p (subst (IsAvailable ins) e there))

pub within_at : {N : Type 0} (a : Operand N) (n : N) (of from w : ℕ) → a ≡ Part n of from w → IsOperand a → IsWithin of from w
within_at a n of from w e o = subst IsOperand e o
