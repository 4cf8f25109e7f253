-- A list of one element, and one more after others.
use Rattle.std.specs.Prelude.{Contains, map as map_list}
use Rattle.std.specs.List.{range_with_len}
use Rattle.std.proofs.Common.{◌≡◌, ℕ, zero, suc, ◌+◌, ◌<◌, List, [], ◌∷◌, ◌++◌, length, take, get_or, sym, ◌∙◌, ap, arith}
use Rattle.std.proofs.Math.Seq.{take-suc}
use Rattle.std.proofs.lemmas.List.{map-append}
use Rattle.std.proofs.lemmas.List.FromFn.{map-range_with_len_more}

-- ---- a list of one

pub same_one : {X : Type 0} (x y : X) → Contains (x ∷ []) y → y ≡ x
same_one x y (zero, below, at) = sym at
same_one x y (suc k, below, at) = absurd (omega (arith, below))

pub one_same : {X : Type 0} (x y : X) → y ≡ x → Contains (x ∷ []) y
one_same x y is = (0, omega arith, sym is)

-- ---- one more

-- one more element of a list
pub take_one : {X : Type 0} (xs : List X) (i : ℕ) (x : X) → i < length xs → x ≡ get_or xs i x → take (i + 1) xs ≡ take i xs ++ x ∷ []
take_one xs i x within is =
    let e : i + 1 ≡ suc i = omega arith in
    ap (λ n. take n xs) e ∙ take-suc xs i x within ∙ ap (λ y. take i xs ++ y ∷ []) (sym is)

-- one more after known ones
pub pushed : {X : Type 0} {xs ys known : List X} {x y : X} → xs ≡ known → ys ≡ xs ++ x ∷ [] → x ≡ y → ys ≡ known ++ y ∷ []
pushed h k e = k ∙ (λ i. h i ++ e i ∷ [])

-- one more in a loop over numbers
pub pushed_as : {X Y : Type 0} (g : Y → X) (f : ℕ → X) (all new : List Y) (y : Y) (i : ℕ) → new ≡ all ++ y ∷ [] → g y ≡ f i → map_list g all ≡ map_list f (range_with_len 0 i) → map_list g new ≡ map_list f (range_with_len 0 (i + 1))
pushed_as g f all new y i n e h = (ap (map_list g) n ∙ map-append g all (y ∷ [])) ∙ (λ j. h j ++ e j ∷ []) ∙ sym (map-range_with_len_more f 0 i i (omega arith))
