-- Words that fit sizes, and what operators make of them.
use Rattle.std.specs.Prelude.{◌≡◌, ℕ, ◌+◌, ◌-◌, ◌*◌, ◌/◌, ◌%◌, ◌^◌, ◌<◌, nat_lt, Bool, true, false, bit_and}
use Rattle.std.proofs.Common.{refl, sym, subst, arith}
use Rattle.std.proofs.lemmas.Nat.{pow_pos, or_lt, xor_lt, and_le_l, shr_le, mod_below}
use Rattle.net_core.specs.declared.tree.Word.{Word}
use Rattle.net_core.specs.declared.tree.Op.TheVariants.{Add, Sub, Mul, And, Or, Xor, ShiftLeft, ShiftRight}
use Rattle.net_core.specs.Value.{word, bit, apply, concatenated}
use Rattle.net_core.proofs.LowBitsLaws.{concatenated_small}
use Rattle.net_core.proofs.WidthLaws.{if_small}
use Rattle.net_rules.specs.NetSizes.Fitting.{Fits}

pub bit_fits : (b : Bool) → Fits 1 (bit b)
bit_fits true h = (refl, omega arith)
bit_fits false h = (refl, omega arith)

-- where one size is known, it is the other one
pub known_fits : (n a : ℕ) (w : Word) → (0 < n → n ≡ a) → Fits a w → Fits n w
known_fits n a w e f some = let is = e some in subst (λ k. Fits k w) (sym is) f some

fits_by : (n : ℕ) (w : Word) → w.width ≡ n → w.value < 2 ^ w.width → Fits n w
fits_by n w e small some = (e, subst (λ k. w.value < 2 ^ k) e small)

-- another number of as many bits
same_bits : (n v : ℕ) (x : Word) → Fits n x → (x.value < 2 ^ x.width → v < 2 ^ x.width) → Fits n (word x.width v)
same_bits n v x f small some = let h = f some in fits_by n (word x.width v) h.0 (small (subst (λ k. x.value < 2 ^ k) (sym h.0) h.1)) some

low_small : (v w : ℕ) → v % 2 ^ w < 2 ^ w
low_small v w = mod_below v (2 ^ w) (pow_pos w)

module _ (n : ℕ) (x y : Word) (f : Fits n x) where
  pub sum_fits : Fits n (apply Add x y)
  sum_fits = same_bits n _ x f (λ s. low_small (x.value + y.value) x.width)

  pub difference_fits : Fits n (apply Sub x y)
  difference_fits = same_bits n _ x f (λ s. low_small (x.value + 2 ^ x.width - y.value) x.width)

  pub product_fits : Fits n (apply Mul x y)
  product_fits = same_bits n _ x f (λ s. low_small (x.value * y.value) x.width)

  pub and_fits : Fits n (apply And x y)
  and_fits = let le = and_le_l x.value y.value in same_bits n (bit_and x.value y.value) x f (λ s. omega arith)

  pub left_fits : Fits n (apply ShiftLeft x y)
  left_fits = same_bits n _ x f (λ s. if_small (nat_lt y.value x.width) (x.value * 2 ^ y.value % 2 ^ x.width) x.width (low_small (x.value * 2 ^ y.value) x.width))

  pub right_fits : Fits n (apply ShiftRight x y)
  right_fits = let le = shr_le x.value y.value in same_bits n _ x f (λ s. if_small (nat_lt y.value x.width) (x.value / 2 ^ y.value) x.width (omega arith))

  module _ (g : Fits n y) where
    pub or_fits : Fits n (apply Or x y)
    or_fits some = let a = f some in let b = g some in (a.0, or_lt n x.value y.value a.1 b.1)

    pub xor_fits : Fits n (apply Xor x y)
    xor_fits some = let a = f some in let b = g some in (a.0, xor_lt n x.value y.value a.1 b.1)

-- one word before another
pub concatenated_fits : (m n : ℕ) (x y : Word) → 0 < m → 0 < n → Fits m x → Fits n y → Fits (m + n) (concatenated x y)
concatenated_fits m n x y p q f g some =
    let a = f p in
    let b = g q in
    let i = a.0 in
    let j = b.0 in
    (omega arith, subst (λ k. x.value * 2 ^ k + y.value < 2 ^ (m + n)) (sym b.0) (concatenated_small x.value y.value m n a.1 b.1))
