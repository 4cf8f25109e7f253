-- A chain of types, one step after the other.
use Rattle.std.proofs.Common.{◌≡◌, ℕ, zero, suc, ◌+◌, ◌-◌, ◌*◌, ◌^◌, ◌<◌, ◌≤◌, min, List, Result, Ok, Err, refl, ap, ◌∙◌, arith, inl, inr}
use Rattle.std.proofs.Math.Nat.{mul_assoc}
use Rattle.std.proofs.lemmas.Bool.{cases_lt}
use Rattle.btf_view.specs.Shapes.{shape_of}
use Rattle.btf_view.specs.Sizes.{capped, map_ok, most_types, size_by, size_of, unmodified, unmodified_by}
use Rattle.btf_view.specs.declared.error.BtfError.{BtfError}
use Rattle.btf_view.specs.declared.error.BtfError.TheVariants.{Depth}

-- ---- modifiers

pub unmodified-next : (types : List ℕ) (i id : ℕ) → i < most_types
    → unmodified types (most_types - i) id ≡ unmodified_by (unmodified types (most_types - (i + 1))) (shape_of types id)
unfolding unmodified
unmodified-next types i id h =
    let e : most_types - i ≡ suc (most_types - (i + 1)) = omega arith in ap (λ n. unmodified types n id) e

pub unmodified-all : (types : List ℕ) (i id : ℕ) → most_types ≤ i → unmodified types (most_types - i) id ≡ Err Depth
unfolding unmodified
unmodified-all types i id h = let e : most_types - i ≡ 0 = omega arith in ap (λ n. unmodified types n id) e

-- ---- sizes

-- so many times a size, as far as 32 bits count it
abbrev pub scaled : ℕ → Result ℕ BtfError → Result ℕ BtfError
scaled times r = map_ok (λ size. min (times * size) (2 ^ 32 - 1)) r

pub size_of-next : (types : List ℕ) (member i id : ℕ) → i < most_types
    → size_of types member (most_types - i) id ≡ size_by member (size_of types member (most_types - (i + 1))) (shape_of types id)
unfolding size_of
size_of-next types member i id h =
    let e : most_types - i ≡ suc (most_types - (i + 1)) = omega arith in ap (λ n. size_of types member n id) e

pub size_of-all : (types : List ℕ) (member i id : ℕ) → most_types ≤ i → size_of types member (most_types - i) id ≡ Err Depth
unfolding size_of
size_of-all types member i id h = let e : most_types - i ≡ 0 = omega arith in ap (λ n. size_of types member n id) e

pub scaled-once : (r : Result ℕ BtfError) → scaled 1 r ≡ map_ok capped r
scaled-once (Ok n) = ap (λ k. Ok (min k (2 ^ 32 - 1))) (omega arith)
scaled-once (Err e) = refl

-- a factor may be cut off before it is multiplied: 0 times it is 0 in any case
min-mul : (a b max : ℕ) → min (min a max * b) max ≡ min (a * b) max
min-mul a zero max = omega arith
min-mul a (suc b) max = elim (cases_lt a max) [
  | inl below ↦ let e : min a max ≡ a = omega arith in ap (λ n. min (n * suc b) max) e
  | inr above ↦
      let e : min a max ≡ max = omega arith in
      let more : max ≤ a * suc b = omega arith in
      ap (λ n. min (n * suc b) max) e ∙ omega arith
]

pub scaled-array : (times count : ℕ) (r : Result ℕ BtfError)
    → scaled (min (times * count) (2 ^ 32 - 1)) r ≡ scaled times (map_ok (λ size. count * size) r)
scaled-array times count (Ok n) =
    ap Ok (min-mul (times * count) n (2 ^ 32 - 1) ∙ ap (λ k. min k (2 ^ 32 - 1)) (mul_assoc times count n))
scaled-array times count (Err e) = refl

pub ruleset chains = (unmodified-next, unmodified-all, size_of-next, size_of-all, scaled-once, scaled-array)
