-- Loops over the numbers below one, of which some pass a test.
use Rattle.std.proofs.Common.{◌≡◌, ◌∙◌, ℕ, zero, suc, ◌+◌, Bool, true, false, cond, ◌&&◌, List, [], ◌∷◌, ◌++◌, refl, ap, arith, map as map_list}
use Rattle.std.specs.Prelude.{filter, fold, count_by}
use Rattle.std.proofs.lemmas.List.{map-append}
use Rattle.cell_core.specs.Rows.{numbers}

numbers_from : (f n : ℕ) → numbers f (suc n) ≡ numbers f n ++ (f + n) ∷ []
numbers_from f zero = let e : f + 0 ≡ f = omega arith in rw e refl
numbers_from f (suc n) = let e : f + suc n ≡ suc f + n = omega arith in rw e (ap (λ (xs : List ℕ). f ∷ xs) (numbers_from (suc f) n))

pub numbers_more : (n : ℕ) → numbers 0 (n + 1) ≡ numbers 0 n ++ n ∷ []
numbers_more n = let e : 0 + n ≡ n = omega arith in let s : n + 1 ≡ suc n = omega arith in rw s (numbers_from 0 n ∙ ap (λ (k : ℕ). numbers 0 n ++ k ∷ []) e)

fold_one : {B : Type 0} (f : B → ℕ → B) (z : B) (x : ℕ) (b : Bool) → fold f z (cond b (x ∷ []) []) ≡ cond b (f z x) z
fold_one f z x true = refl
fold_one f z x false = refl

fold_next : {B : Type 0} (f : B → ℕ → B) (z : B) (c b : Bool) (y x : ℕ) (ys zs : List ℕ) → ((w : B) → fold f w zs ≡ cond c (f (fold f w ys) x) (fold f w ys))
    → fold f z (cond b (y ∷ zs) zs) ≡ cond c (f (fold f z (cond b (y ∷ ys) ys)) x) (fold f z (cond b (y ∷ ys) ys))
fold_next f z c true y x ys zs h = h (f z y)
fold_next f z c false y x ys zs h = h z

folded : {B : Type 0} (f : B → ℕ → B) (p : ℕ → Bool) (xs : List ℕ) (x : ℕ) (z : B) → fold f z (filter p (xs ++ x ∷ [])) ≡ cond (p x) (f (fold f z (filter p xs)) x) (fold f z (filter p xs))
folded f p [] x z = fold_one f z x (p x)
folded f p (y ∷ ys) x z = fold_next f z (p x) (p y) y x (filter p ys) (filter p (ys ++ x ∷ [])) (λ w. folded f p ys x w)

-- one more goes through a fold over those that pass
pub fold_more : {B : Type 0} (f : B → ℕ → B) (z : B) (p : ℕ → Bool) (n : ℕ)
    → fold f z (filter p (numbers 0 (n + 1))) ≡ cond (p n) (f (fold f z (filter p (numbers 0 n))) n) (fold f z (filter p (numbers 0 n)))
fold_more f z p n = ap (λ (xs : List ℕ). fold f z (filter p xs)) (numbers_more n) ∙ folded f p (numbers 0 n) n z

counted : (q : ℕ → Bool) (n m : ℕ) (b : Bool) → cond b (m + cond (q n) 1 0) m ≡ m + cond (b && q n) 1 0
counted q n m true = refl
counted q n m false = omega arith

pub count_more : (q p : ℕ → Bool) (n : ℕ) → count_by q (filter p (numbers 0 (n + 1))) ≡ count_by q (filter p (numbers 0 n)) + cond (p n && q n) 1 0
count_more q p n = fold_more (λ m x. m + cond (q x) 1 0) 0 p n ∙ counted q n (count_by q (filter p (numbers 0 n))) (p n)

pub map_more : {B : Type 0} (f : ℕ → B) (n : ℕ) → map_list f (numbers 0 (n + 1)) ≡ map_list f (numbers 0 n) ++ f n ∷ []
map_more f n = ap (map_list f) (numbers_more n) ∙ map-append f (numbers 0 n) (n ∷ [])
