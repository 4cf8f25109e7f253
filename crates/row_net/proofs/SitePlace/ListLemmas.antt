-- Statements that are made from the last to the first.
use Rattle.std.specs.Prelude.{◌≡◌, ℕ, suc, ◌+◌, List, [], ◌∷◌, ◌++◌, length}
use Rattle.std.proofs.Common.{sym, ap, ◌∙◌, refl, arith}
use Rattle.net_core.specs.Nets.{StatementTree, StatementTrees, SThen}
use Rattle.net_core.specs.Chains.{statements_before}

-- a list that is made element by element, each by its number
pub record IsNumbered {A B : Type 0} (f : ℕ → A → B) (F : ℕ → List A → List B) : Type 0 where
  pub none : (at : ℕ) → F at [] ≡ []
  pub more : (at : ℕ) (x : A) (xs : List A) → F at (x ∷ xs) ≡ f at x ∷ F (suc at) xs

at_end : {A B : Type 0} (f : ℕ → A → B) (F : ℕ → List A → List B) → IsNumbered f F → (xs : List A) (x : A) (at : ℕ) → F at (xs ++ x ∷ []) ≡ F at xs ++ f (at + length xs) x ∷ []
at_end f F n [] x at = let z : at ≡ at + 0 = omega arith in n.more at x [] ∙ ap (λ l. f at x ∷ l) (n.none (suc at)) ∙ ap (λ k. f k x ∷ []) z ∙ ap (λ l. l ++ f (at + 0) x ∷ []) (sym (n.none at))
at_end f F n (y ∷ xs) x at =
    let e : suc at + length xs ≡ at + suc (length xs) = omega arith in
    n.more at y (xs ++ x ∷ []) ∙ ap (λ l. f at y ∷ l) (at_end f F n xs x (suc at) ∙ ap (λ k. F (suc at) xs ++ f k x ∷ []) e) ∙ ap (λ l. l ++ f (at + suc (length xs)) x ∷ []) (sym (n.more at y xs))

before_end : {N : Type 0} (list : List (StatementTree N)) (a : StatementTree N) (more : StatementTrees N) → statements_before (list ++ a ∷ []) more ≡ statements_before list (SThen a more)
before_end [] a more = refl
before_end (b ∷ list) a more = ap (SThen b) (before_end list a more)

-- the last statement goes in front of those after it
pub popped :
    {A N : Type 0} (f : ℕ → A → StatementTree N) (F : ℕ → List A → List (StatementTree N)) (xs rest : List A) (x : A) (more next whole : StatementTrees N) → IsNumbered f F → xs ≡ rest ++ x ∷ [] → next ≡ SThen (f (length rest) x) more
    → statements_before (F 0 xs) more ≡ whole → statements_before (F 0 rest) next ≡ whole
popped f F xs rest x more next whole n e s w =
    let z : 0 + length rest ≡ length rest = omega arith in
    ap (statements_before (F 0 rest)) s ∙ sym (before_end (F 0 rest) (f (length rest) x) more)
    ∙ ap (λ k. statements_before (F 0 rest ++ f k x ∷ []) more) (sym z) ∙ ap (λ l. statements_before l more) (sym (at_end f F n rest x 0)) ∙ ap (λ l. statements_before (F 0 l) more) (sym e) ∙ w
