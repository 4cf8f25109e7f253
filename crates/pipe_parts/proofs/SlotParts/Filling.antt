-- Lists that are filled from the first element on, and the elements that they have.
use Rattle.std.proofs.Common.{◌≡◌, ◌∙◌, ℕ, suc, ◌<◌, List, [], ◌∷◌, length, get_or, map as map_list, refl, ap, arith}

-- two lists of the same values
pub maps_same : {X Y Z : Type 0} (f : X → Z) (g : Y → Z) (xs : List X) (ys : List Y) → length xs ≡ length ys → ((i : ℕ) (a : X) (b : Y) → i < length ys → f (get_or xs i a) ≡ g (get_or ys i b)) → map_list f xs ≡ map_list g ys
maps_same f g [] [] count each = refl
maps_same f g [] (y ∷ ys) count each = absurd (omega (arith, count))
maps_same f g (x ∷ xs) [] count each = absurd (omega (arith, count))
maps_same f g (x ∷ xs) (y ∷ ys) count each =
    ap (λ z. z ∷ map_list f xs) (each 0 x y (omega arith)) ∙ ap (λ zs. g y ∷ zs) (maps_same f g xs ys (omega (arith, count)) (λ i a b lt. each (suc i) a b (omega (arith, lt))))
