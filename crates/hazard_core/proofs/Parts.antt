-- What a site takes and gives, cell by cell.
use Rattle.std.proofs.Common.{◌≡◌, ◌∙◌, ℕ, Bool, true, false, cond, ◌&&◌, List, [], ◌∷◌, ◌++◌, refl, ap}
use Rattle.std.specs.Prelude.{filter}
use Rattle.std.specs.List.{list_all}
use Rattle.std.proofs.lemmas.List.Folds.{list_all-append}

all_next : (f : ℕ → Bool) (a : ℕ) (b : Bool) (ys : List ℕ) → list_all f (cond b (a ∷ ys) ys) ≡ (list_all f (cond b (a ∷ []) []) && list_all f ys)
all_next f a true ys = plain (f a) (list_all f ys)
  where
    plain : (x y : Bool) → (x && y) ≡ ((x && true) && y)
    plain true y = refl
    plain false y = refl
all_next f a false ys = refl

pub all_two : (f q : ℕ → Bool) (a b : ℕ) → list_all f (filter q (a ∷ b ∷ [])) ≡ (list_all f (filter q (a ∷ [])) && list_all f (filter q (b ∷ [])))
all_two f q a b = all_next f a (q a) (filter q (b ∷ []))

grouped : (a b c : Bool) → (a && (b && c)) ≡ (a && b && c)
grouped true b c = refl
grouped false b c = refl

pub taken_split : (f : ℕ → Bool) (g : ℕ) (ks os : List ℕ) → list_all f (g ∷ ks ++ os) ≡ (f g && list_all f ks && list_all f os)
taken_split f g ks os = ap (λ (x : Bool). f g && x) (list_all-append f ks os) ∙ grouped (f g) (list_all f ks) (list_all f os)

pub all_append : (f : ℕ → Bool) (xs ys : List ℕ) → list_all f (xs ++ ys) ≡ (list_all f xs && list_all f ys)
all_append f xs ys = list_all-append f xs ys
