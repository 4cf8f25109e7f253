-- Two lists, element by element, and one element longer.
use Rattle.std.specs.Prelude.{List, [], ◌∷◌, ◌++◌}
use Rattle.register_rules.specs.NarrowRegisters.Narrow.{Each}

pub each_append : {A : Type 0} (R : A → A → Type 0) (xs ys : List A) (x y : A) → Each R xs ys → R x y → Each R (xs ++ x ∷ []) (ys ++ y ∷ [])
each_append R [] [] x y h e = (e, tt)
each_append R [] (b ∷ bs) x y h e = absurd h
each_append R (a ∷ rest) [] x y h e = absurd h
each_append R (a ∷ rest) (b ∷ bs) x y h e = (h.0, each_append R rest bs x y h.1 e)
