-- Widths of words and expressions.
use Rattle.std.specs.Prelude.{◌≡◌, ℕ, zero, suc, ◌-◌, ◌^◌, ◌<◌, ◌≤◌, ◌==◌, nat_lt, nat_le, ◌&&◌, cond, true, ◌∷◌, map, replicate}
use Rattle.std.proofs.Common.{refl, ap}
use Rattle.std.proofs.lemmas.Bool.{and_from, lt-ltb, le-leb, eq-eqb}
use Rattle.std.proofs.lemmas.Nat.{pow_pos}
use Rattle.std.proofs.Math.Pow.{pow-lt}
use Rattle.net_core.specs.declared.tree.Word.{Word}
use Rattle.net_core.specs.declared.tree.Op.TheVariants.{Add}
use Rattle.net_core.specs.Value.{word}
use Rattle.net_core.specs.Width.{const_width, test_width, op_width, conditional_width, same, word_fits}
use Rattle.block_core.specs.Formed.{word_width}

-- ---- widths of what is declared
pub width_replicate : (n : ℕ) (w : Word) → map word_width (replicate n w) ≡ replicate n w.width
width_replicate zero w = refl
width_replicate (suc n) w = ap (λ ws. w.width ∷ ws) (width_replicate n w)

-- ---- first values fit
pub zero_fits : (w : ℕ) → 0 < w → w ≤ 64 → word_fits (word w 0) ≡ true
zero_fits w h l = let p : 0 < 2 ^ w = pow_pos w in and_from (nat_lt 0 w) (nat_le w 64 && nat_lt 0 (2 ^ w)) (lt-ltb 0 w h) (and_from (nat_le w 64) (nat_lt 0 (2 ^ w)) (le-leb w 64 l) (lt-ltb 0 (2 ^ w) p))

-- ---- widths of expressions
pub same_self : (m : ℕ) → 0 < m → same m m ≡ true
same_self m h = and_from (nat_lt 0 m) (m == m) (lt-ltb 0 m h) (eq-eqb m m refl)

pub test_self : (m : ℕ) → 0 < m → test_width m m ≡ 1
test_self m h = ap (λ b. cond b 1 0) (same_self m h)

pub choice_self : (m : ℕ) → conditional_width 1 m m ≡ m
choice_self m = ap (λ b. cond b m 0) (eq-eqb m m refl)

pub sum_self : (m : ℕ) → op_width Add m m ≡ m
sum_self m = ap (λ b. cond b m 0) (eq-eqb m m refl)

pub const_fits : (m n : ℕ) → m ≤ 64 → n < 2 ^ m → const_width (word m n) ≡ m
const_fits m n l h = ap (λ b. cond b m 0) (and_from (nat_le m 64) (nat_lt n (2 ^ m)) (le-leb m 64 l) (lt-ltb n (2 ^ m) h))

pub one_small : (m : ℕ) → 0 < m → 1 < 2 ^ m
one_small m h = pow-lt {i = 0} {j = m} h
