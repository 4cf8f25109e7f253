-- How many packets are sent back.
use Rattle.std.specs.Prelude.{◌≡◌, ℕ, suc, ◌-◌, ◌<◌, nat_lt, ◌||◌, if◌then◌else◌, Bool, true, false, Option, Some, None, List, [], ◌∷◌}
use Rattle.std.proofs.Common.{refl, ap, arith}
use Rattle.std.proofs.lemmas.Bool.Decides.{nat_tests}
use Rattle.block_core.proofs.list_laws_laws.BoolLaws.{by_test}
use Rattle.pipe_core.specs.Machine.{Packet, Build, inside, sends, some_send, flushed}
use Rattle.pipe_core.proofs.FlushLaws.{flushed_inside}

-- a packet is gone where one place sends back, and no other way
gone : (b : Build) (k : ℕ) (xs : List (Option Packet)) → some_send b k xs ≡ true → inside (flushed b k xs) < inside xs
gone b k [] e = cc
gone b k (None ∷ xs) e =
    let h = gone b (suc k) xs e in
    by_test (λ q. inside ((if q then None else None) ∷ flushed b (suc k) xs) < inside xs) (some_send b k (None ∷ xs)) (λ f. h) (λ f. h)
gone b k (Some x ∷ xs) e =
    let h = flushed_inside b (suc k) xs in
    rw e (omega (arith, h))

all_kept : (b : Build) (k : ℕ) (xs : List (Option Packet)) → some_send b k xs ≡ false → inside (flushed b k xs) ≡ inside xs
all_kept b k [] e = refl
all_kept b k (None ∷ xs) e =
    let h = all_kept b (suc k) xs e in
    by_test (λ q. inside ((if q then None else None) ∷ flushed b (suc k) xs) ≡ inside xs) (some_send b k (None ∷ xs)) (λ f. h) (λ f. h)
all_kept b k (Some x ∷ xs) e =
    let h = all_kept b (suc k) xs (after (sends b k (Some x)) (some_send b (suc k) xs) e) in
    rw e (ap suc h)
  where
    after : (p q : Bool) → (p || q) ≡ false → q ≡ false
    after true q e = cc
    after false q e = e

less : (n m : ℕ) → m < n → true ≡ nat_lt 0 (n - m)
less n m lt = grind (arith, nat_tests, lt)

same : (n m : ℕ) → m ≡ n → false ≡ nat_lt 0 (n - m)
same n m e = grind (arith, nat_tests, e)

-- Some are sent back where a place sends back.
pub reloaded : (b : Build) (xs : List (Option Packet)) → some_send b 0 xs ≡ nat_lt 0 (inside xs - inside (flushed b 0 xs))
reloaded b xs =
    by_test (λ q. some_send b 0 xs ≡ q → q ≡ nat_lt 0 (inside xs - inside (flushed b 0 xs))) (some_send b 0 xs)
    (λ e f. less (inside xs) (inside (flushed b 0 xs)) (gone b 0 xs e)) (λ e f. same (inside xs) (inside (flushed b 0 xs)) (all_kept b 0 xs e)) refl
