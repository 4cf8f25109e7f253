-- A list that is filled from its first element on.
use Rattle.std.proofs.Common.{◌≡◌, ℕ, suc, ◌+◌, ◌<◌, List, [], ◌∷◌, ◌++◌, length, get_or, ap, arith}
use Rattle.block_core.proofs.list_laws_laws.PlaceLaws.{each_more, one_more}

-- a list after its first element
pub record AreBehind {X : Type 0} (P : ℕ → X → Type 0) (first : X) (n : ℕ) (xs : List X) : Type 0 where
  pub count : length xs ≡ suc n
  pub first_is : (d : X) → get_or xs 0 d ≡ first
  pub later : (k : ℕ) (d : X) → k < n → P k (get_or xs (suc k) d)

pub block_more : {X : Type 0} (P : ℕ → X → Type 0) (first : X) (xs : List X) (n : ℕ) (x : X) → length xs ≡ suc n → ((d : X) → get_or xs 0 d ≡ first) → ((k : ℕ) (d : X) → k < n → P k (get_or xs (suc k) d)) → P n x → AreBehind P first (n + 1) (xs ++ x ∷ [])
block_more P first [] n x count head later last = absurd (omega (arith, count))
block_more P first (y ∷ ys) n x count head later last =
    let long : length ys ≡ n = omega (arith, count) in
    record {
      count = ap suc (one_more ys n x long);
      first_is = head;
      later = each_more P ys n x long later last;
    }
