-- Lists from the front on: what holds of all, what is made of each, and what is left.
use Rattle.std.specs.Prelude.{filter, fold, All, nat_lt, map as map_list}
use Rattle.std.specs.List.{AllByRecursion, list_all, list_any}
use Rattle.std.proofs.Common.{◌≡◌, ◌∙◌, ℕ, suc, ◌+◌, ◌<◌, Bool, true, false, cond, ◌||◌, List, [], ◌∷◌, ◌++◌, length, take, refl, ap, arith, zero-add}
use Rattle.std.proofs.lemmas.Bool.{and_parts}
use Rattle.std.proofs.lemmas.Bool.Decides.{nat_tests}

-- past one list of two
pub take_past : (p q : List ℕ) (n : ℕ) → take (length p + n) (p ++ q) ≡ p ++ take n q
take_past [] q n = rw zero-add refl
take_past (x ∷ p) q n = let e : suc (length p) + n ≡ suc (length p + n) = omega arith in rw e (ap (λ (xs : List ℕ). x ∷ xs) (take_past p q n))

-- ---- what holds of all
pub all_split : (P : ℕ → Type 0) (xs ys : List ℕ) → AllByRecursion P (xs ++ ys) → AllByRecursion P xs × AllByRecursion P ys
all_split P [] ys all = (tt, all)
all_split P (x ∷ xs) ys all = let q = all_split P xs ys all.1 in ((all.0, q.0), q.1)

-- rows that are tested to lie below one do
pub all_below : (row : ℕ → ℕ) (r : ℕ) (cs : List ℕ) → list_all (λ c. nat_lt (row c) r) cs ≡ true → AllByRecursion (λ c. row c < r) cs
all_below row r [] e = tt
all_below row r (c ∷ cs) e =
    let q = and_parts (nat_lt (row c) r) (list_all (λ c. nat_lt (row c) r) cs) e in
    let a = q.0 in
    let l : row c < r = grind (arith, nat_tests) in
    (l, all_below row r cs q.1)

-- ---- one of two that pass
any_next : (f : ℕ → Bool) (a : ℕ) (b : Bool) (ys : List ℕ) → list_any f (cond b (a ∷ ys) ys) ≡ (list_any f (cond b (a ∷ []) []) || list_any f ys)
any_next f a true ys = plain (f a) (list_any f ys)
  where
    plain : (x y : Bool) → (x || y) ≡ ((x || false) || y)
    plain true y = refl
    plain false y = refl
any_next f a false ys = refl

pub any_two : (f q : ℕ → Bool) (a b : ℕ) → list_any f (filter q (a ∷ b ∷ [])) ≡ (list_any f (filter q (a ∷ [])) || list_any f (filter q (b ∷ [])))
any_two f q a b = any_next f a (q a) (filter q (b ∷ []))

-- ---- what is made of each
-- values that are the same of each
pub map_alike : (v w : ℕ → ℕ) (xs : List ℕ) → All (λ i. v i ≡ w i) xs → map_list v xs ≡ map_list w xs
map_alike v w [] h = refl
map_alike v w (x ∷ xs) h =
    ap (λ y. y ∷ map_list v xs) (h 0 x (omega arith)) ∙ ap (λ ys. w x ∷ ys) (map_alike v w xs (λ k d l. h (suc k) d (omega (arith, l))))

-- steps that are the same at each
pub fold_alike : {A B : Type 0} (f g : B → A → B) (a b : B) (xs : List A) → ((y : B) (x : A) → f y x ≡ g y x) → a ≡ b → fold f a xs ≡ fold g b xs
fold_alike f g a b [] h e = e
fold_alike f g a b (x ∷ xs) h e = fold_alike f g (f a x) (g b x) xs h (h a x ∙ ap (λ y. g y x) e)
