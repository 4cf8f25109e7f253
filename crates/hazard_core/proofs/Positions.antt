-- The first place that passes, or the number of places.
use Rattle.std.proofs.Common.{◌≡◌, ◌∙◌, ℕ, suc, ◌+◌, ◌≤◌, Bool, true, false, cond, not, Some, None, List, [], ◌∷◌, length, refl, sym, ap, arith, map as map_list}
use Rattle.std.specs.Prelude.{nat_lt, unwrap_or, position}
use Rattle.std.specs.List.{position_or_len}
use Rattle.std.proofs.lemmas.Bool.{ltb-false}
use Rattle.cell_core.proofs.list_laws_laws.PositionLaws.{position_within}

found_as : (n m : ℕ) (b : Bool) → nat_lt n m ≡ b → n ≤ m → unwrap_or (cond b (Some n) None) m ≡ n
found_as n m true e h = refl
found_as n m false e h = omega (arith, h, ltb-false n m e)

pub found_or_len : {X : Type 0} (p : X → Bool) (xs : List X) → unwrap_or (position p xs) (length xs) ≡ position_or_len p xs
found_or_len p xs = found_as (position_or_len p xs) (length xs) (nat_lt (position_or_len p xs) (length xs)) refl (position_within p xs)

position_map : {X Y : Type 0} (p : Y → Bool) (f : X → Y) (xs : List X) → position_or_len p (map_list f xs) ≡ position_or_len (λ x. p (f x)) xs
position_map p f [] = refl
position_map p f (x ∷ xs) = ap (λ (n : ℕ). cond (not (p (f x))) (1 + n) 0) (position_map p f xs)

-- a test of what is read of each
pub found_mapped : {X Y : Type 0} (p : Y → Bool) (f : X → Y) (xs : List X) → unwrap_or (position (λ x. p (f x)) xs) (length xs) ≡ position_or_len p (map_list f xs)
found_mapped p f xs = found_or_len (λ x. p (f x)) xs ∙ sym (position_map p f xs)
