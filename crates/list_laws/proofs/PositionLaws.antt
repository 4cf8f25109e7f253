-- Positions in a list: the first that passes a test, and what stands at each of a list of zeros.
use Rattle.std.specs.Prelude.{not, slice_index, replicate}
use Rattle.std.specs.List.{position_or_len}
use Rattle.std.proofs.Common.{◌≡◌, ℕ, zero, suc, ◌≤◌, Bool, List, length, refl}
use Rattle.std.proofs.lemmas.List.Sums.{prefix_len-le-length}

-- the first position that passes, or the number of positions
pub position_within : {X : Type 0} (p : X → Bool) (xs : List X) → position_or_len p xs ≤ length xs
position_within p xs = prefix_len-le-length (λ x. not (p x)) xs

pub zeros : (n k : ℕ) → slice_index (replicate n 0) k ≡ 0
zeros zero k = refl
zeros (suc n) zero = refl
zeros (suc n) (suc k) = zeros n k
