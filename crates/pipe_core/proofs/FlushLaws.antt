-- The places when those that are sent back are cleared.
use Rattle.std.proofs.Common.{◌≡◌, ℕ, zero, suc, ◌+◌, ◌-◌, ◌<◌, ◌≤◌, Bool, true, false, List, [], ◌∷◌, Option, Some, None, length, refl, ap, arith}
use Rattle.std.specs.Prelude.{if◌then◌else◌, nat_lt, ◌||◌}
use Rattle.std.proofs.lemmas.Bool.Decides.{nat_tests}
use Rattle.pipe_core.specs.Machine.{Packet, Build, place_at, inside, sends, flushed, some_send}

pub flushed_length : (b : Build) (k : ℕ) (xs : List (Option Packet)) → length (flushed b k xs) ≡ length xs
flushed_length b k [] = refl
flushed_length b k (x ∷ xs) = ap suc (flushed_length b (suc k) xs)

pub flushed_inside : (b : Build) (k : ℕ) (xs : List (Option Packet)) → inside (flushed b k xs) ≤ inside xs
flushed_inside b k [] = omega arith
flushed_inside b k (x ∷ xs) = by (some_send b k (x ∷ xs)) x (flushed_inside b (suc k) xs)
  where
    by : (c : Bool) (x : Option Packet) → inside (flushed b (suc k) xs) ≤ inside xs → inside ((if c then None else x) ∷ flushed b (suc k) xs) ≤ inside (x ∷ xs)
    by true None h = h
    by true (Some x) h = omega arith
    by false None h = h
    by false (Some x) h = omega arith

-- what is left in a place stood there
pub flushed_at : (b : Build) (k : ℕ) (xs : List (Option Packet)) (n : ℕ) (x : Packet) → place_at (flushed b k xs) n ≡ Some x → place_at xs n ≡ Some x
flushed_at b k [] n x e = e
flushed_at b k (y ∷ xs) zero x e = by (some_send b k (y ∷ xs)) e
  where
    by : (c : Bool) → (if c then None else y) ≡ Some x → y ≡ Some x
    by true e = cc
    by false e = e
flushed_at b k (y ∷ xs) (suc n) x e = flushed_at b (suc k) xs n x e

-- where none is sent back all are left
pub flushed_none : (b : Build) (k : ℕ) (xs : List (Option Packet)) → some_send b k xs ≡ false → flushed b k xs ≡ xs
flushed_none b k [] e = refl
flushed_none b k (x ∷ xs) e = by (sends b k x) (some_send b (suc k) xs) refl e (flushed_none b (suc k) xs)
  where
    by : (c d : Bool) → some_send b (suc k) xs ≡ d → c || d ≡ false → (some_send b (suc k) xs ≡ false → flushed b (suc k) xs ≡ xs) → (if c || d then None else x) ∷ flushed b (suc k) xs ≡ x ∷ xs
    by true d p e more = cc
    by false true p e more = cc
    by false false p e more = ap (λ l. x ∷ l) (more p)

-- where some are sent back fewer are left
pub flushed_fewer : (b : Build) (k : ℕ) (xs : List (Option Packet)) → some_send b k xs ≡ true → inside (flushed b k xs) + 1 ≤ inside xs
flushed_fewer b k [] e = cc
flushed_fewer b k (x ∷ xs) e = by (sends b k x) (some_send b (suc k) xs) x refl refl e (flushed_inside b (suc k) xs) (flushed_fewer b (suc k) xs)
  where
    no : (n : ℕ) → sends b n None ≡ true → ⊥
    no n e = cc

    by : (c d : Bool) (y : Option Packet) → sends b k y ≡ c → some_send b (suc k) xs ≡ d → c || d ≡ true → inside (flushed b (suc k) xs) ≤ inside xs → (some_send b (suc k) xs ≡ true → inside (flushed b (suc k) xs) + 1 ≤ inside xs)
        → inside ((if c || d then None else y) ∷ flushed b (suc k) xs) + 1 ≤ inside (y ∷ xs)
    by true d None p q e few fewer = absurd (no k p)
    by true d (Some y) p q e few fewer = omega (arith, few)
    by false true None p q e few fewer = omega (arith, fewer q)
    by false true (Some y) p q e few fewer = omega (arith, fewer q)
    by false false y p q e few fewer = cc

-- fewer are left exactly where some are sent back
pub fewer_where_sent : (b : Build) (xs : List (Option Packet)) → nat_lt 0 (inside xs - inside (flushed b 0 xs)) ≡ some_send b 0 xs
fewer_where_sent b xs = by (some_send b 0 xs) refl (nat_lt 0 (inside xs - inside (flushed b 0 xs))) refl
  where
    by : (c : Bool) → some_send b 0 xs ≡ c → (d : Bool) → nat_lt 0 (inside xs - inside (flushed b 0 xs)) ≡ d → d ≡ c
    by true e true q = refl
    by true e false q = let l : inside xs - inside (flushed b 0 xs) ≤ 0 = grind (arith, nat_tests) in absurd (omega (arith, l, flushed_fewer b 0 xs e))
    by false e true q = let l : 0 < inside xs - inside (flushed b 0 xs) = grind (arith, nat_tests) in absurd (omega (arith, l, ap inside (flushed_none b 0 xs e)))
    by false e false q = refl
