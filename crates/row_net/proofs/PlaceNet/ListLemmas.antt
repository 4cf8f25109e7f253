-- Statements that are made from the last to the first, and one more word.
use Rattle.std.specs.Prelude.{◌≡◌, ℕ, zero, suc, ◌+◌, ◌<◌, List, [], ◌∷◌, ◌++◌, length, map, take}
use Rattle.std.specs.List.{AllZip}
use Rattle.std.proofs.Common.{refl, sym, ap, ◌∙◌, subst, arith, get_or}
use Rattle.std.proofs.lemmas.List.{map-append, take_more}
use Rattle.net_core.specs.Nets.{StatementTree, StatementTrees, SThen}
use Rattle.net_core.specs.Chains.{statements_before}

-- a list that is made element by element, each by its number
pub record IsNumbered {A B : Type 0} (f : ℕ → A → B) (F : ℕ → List A → List B) : Type 0 where
  pub none : (at : ℕ) → F at [] ≡ []
  pub more : (at : ℕ) (x : A) (xs : List A) → F at (x ∷ xs) ≡ f at x ∷ F (suc at) xs

at_end : {A B : Type 0} (f : ℕ → A → B) (F : ℕ → List A → List B) → IsNumbered f F → (xs : List A) (x : A) (at : ℕ) → F at (xs ++ x ∷ []) ≡ F at xs ++ f (at + length xs) x ∷ []
at_end f F n [] x at = let z : at ≡ at + 0 = omega arith in n.more at x [] ∙ ap (λ l. f at x ∷ l) (n.none (suc at)) ∙ ap (λ k. f k x ∷ []) z ∙ ap (λ l. l ++ f (at + 0) x ∷ []) (sym (n.none at))
at_end f F n (y ∷ xs) x at =
    let e : suc at + length xs ≡ at + suc (length xs) = omega arith in
    n.more at y (xs ++ x ∷ []) ∙ ap (λ l. f at y ∷ l) (at_end f F n xs x (suc at) ∙ ap (λ k. F (suc at) xs ++ f k x ∷ []) e) ∙ ap (λ l. l ++ f (at + suc (length xs)) x ∷ []) (sym (n.more at y xs))

before_end : {N : Type 0} (list : List (StatementTree N)) (a : StatementTree N) (more : StatementTrees N) → statements_before (list ++ a ∷ []) more ≡ statements_before list (SThen a more)
before_end [] a more = refl
before_end (b ∷ list) a more = ap (SThen b) (before_end list a more)

-- the last statement goes in front of those after it
pub popped :
    {A N : Type 0} (f : ℕ → A → StatementTree N) (F : ℕ → List A → List (StatementTree N)) (xs rest : List A) (x : A) (more next whole : StatementTrees N) → IsNumbered f F → xs ≡ rest ++ x ∷ [] → next ≡ SThen (f (length rest) x) more
    → statements_before (F 0 xs) more ≡ whole → statements_before (F 0 rest) next ≡ whole
popped f F xs rest x more next whole n e s w =
    let z : 0 + length rest ≡ length rest = omega arith in
    ap (statements_before (F 0 rest)) s ∙ sym (before_end (F 0 rest) (f (length rest) x) more)
    ∙ ap (λ k. statements_before (F 0 rest ++ f k x ∷ []) more) (sym z) ∙ ap (λ l. statements_before l more) (sym (at_end f F n rest x 0)) ∙ ap (λ l. statements_before (F 0 l) more) (sym e) ∙ w

-- ---- two lists side by side
zip_end : {A C : Type 0} (R : A → C → Type 0) (xs : List A) (ys : List C) (x : A) (y : C) → AllZip R xs ys → R x y → AllZip R (xs ++ x ∷ []) (ys ++ y ∷ [])
zip_end R [] [] x y h r = (r, tt)
zip_end R [] (z ∷ ys) x y h r = absurd h
zip_end R (w ∷ xs) [] x y h r = absurd h
zip_end R (w ∷ xs) (z ∷ ys) x y h r = (h.0, zip_end R xs ys x y h.1 r)

pub zip_get : {A C : Type 0} (R : A → C → Type 0) (xs : List A) (ys : List C) (i : ℕ) (d : A) (e : C) → AllZip R xs ys → i < length xs → R (get_or xs i d) (get_or ys i e)
zip_get R [] ys i d e h l = absurd (omega arith)
zip_get R (x ∷ xs) [] i d e h l = absurd h
zip_get R (x ∷ xs) (y ∷ ys) zero d e h l = h.0
zip_get R (x ∷ xs) (y ∷ ys) (suc i) d e h l = zip_get R xs ys i d e h.1 (omega arith)

-- one more expression, for one more element
pub zip_more :
    {A B C : Type 0} (R : A → C → Type 0) (f : B → C) (xs : List A) (i : ℕ) (d : A) (all new : List B) (y : B) → new ≡ all ++ y ∷ [] → i < length xs → AllZip R (take i xs) (map f all) → R (get_or xs i d) (f y) → AllZip R (take (i + 1) xs) (map f new)
zip_more R f xs i d all new y e l h r =
    let x = get_or xs i d in
    subst (λ zs. AllZip R zs (map f new)) (sym (take_more xs i d l)) (subst (AllZip R (take i xs ++ x ∷ [])) (sym (ap (map f) e ∙ map-append f all (y ∷ []))) (zip_end R (take i xs) (map f all) x (f y) h r))
