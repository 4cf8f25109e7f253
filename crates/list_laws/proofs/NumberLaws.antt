-- Numbers: tests of them, and remainders.
use Rattle.std.specs.Prelude.{◌==◌}
use Rattle.std.proofs.Common.{◌≡◌, ℕ, ◌+◌, ◌*◌, ◌/◌, ◌%◌, ◌<◌, Bool, true, false, refl, ◌∙◌, ap, arith, ◌⊎◌, inl, inr}
use Rattle.std.proofs.Math.Nat.{add-mul-mod_self_right}
use Rattle.std.proofs.lemmas.Bool.{eqb-true, eqb-false}
use Rattle.std.proofs.lemmas.Nat.{div-add-mod'}

-- ---- tests

pub not_equal : (a b : ℕ) → (a ≡ b → ⊥) → (a == b) ≡ false
not_equal a b apart = by_test (a == b) refl
  where
    by_test : (x : Bool) → (a == b) ≡ x → x ≡ false
    by_test true e = absurd (apart (eqb-true a b e))
    by_test false e = refl

-- numbers that are the same where two others are
pub same_test : (a b c d : ℕ) → (a ≡ b → c ≡ d) → (c ≡ d → a ≡ b) → (a == b) ≡ (c == d)
same_test a b c d there back = by_test (a == b) refl (c == d) refl
  where
    by_test : (x : Bool) → (a == b) ≡ x → (y : Bool) → (c == d) ≡ y → x ≡ y
    by_test true e true f = refl
    by_test false e false f = refl
    by_test true e false f = absurd (eqb-false c d f (there (eqb-true a b e)))
    by_test false e true f = absurd (eqb-false a b e (back (eqb-true c d f)))

-- a number below the next is below this, or is this
pub last_or_not : (n i : ℕ) → i < n + 1 → (i < n) ⊎ (i ≡ n)
last_or_not n i below = by_test (i == n) refl
  where
    by_test : (b : Bool) → (i == n) ≡ b → (i < n) ⊎ (i ≡ n)
    by_test true t = inr (eqb-true i n t)
    by_test false t = inl (omega (arith, below, eqb-false i n t))

-- ---- remainders

pub add-mod : (a b m : ℕ) → (a + b) % m ≡ (a % m + b % m) % m
add-mod a b m =
    let e : a + b ≡ a % m + b % m + (a / m + b / m) * m = omega (arith, div-add-mod' a m, div-add-mod' b m) in
    ap (λ k. k % m) e ∙ add-mul-mod_self_right (a % m + b % m) (a / m + b / m) m
