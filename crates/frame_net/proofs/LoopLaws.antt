-- One more element in the loops that make a block.
use Rattle.std.specs.Prelude.{◌≡◌, ℕ, suc, ◌+◌, ◌<◌, ◌≤◌, List, [], ◌∷◌, ◌++◌, length, map}
use Rattle.std.proofs.Common.{refl, sym, ap, ◌∙◌, arith, get_or, drop, append_assoc}
use Rattle.std.proofs.lemmas.List.{drop_more, drop_all, append-nil, map-append}

-- lists that are made by number from the elements of another one
module _ {A B : Type 0} (G : ℕ → List A → List B) where
  pub one_more : (g : ℕ → A → List B) → ((at : ℕ) (x : A) (zs : List A) → G at (x ∷ zs) ≡ g at x ++ G (suc at) zs) → (xs : List A) (i at next : ℕ) (d : A) (front new whole : List B) → new ≡ front ++ g at (get_or xs i d)
      → i < length xs → next ≡ at + 1 → front ++ G at (drop i xs) ≡ whole → new ++ G next (drop (i + 1) xs) ≡ whole
  one_more g unfolds xs i at next d front new whole n l m w =
      let x = get_or xs i d in
      let m' : next ≡ suc at = omega (arith, m) in
      ap (λ zs. zs ++ G next (drop (i + 1) xs)) n
      ∙ append_assoc front (g at x) (G next (drop (i + 1) xs))
      ∙ ap (λ k. front ++ (g at x ++ G k (drop (i + 1) xs))) m'
      ∙ ap (λ zs. front ++ zs) (sym (ap (G at) (drop_more xs i d l) ∙ unfolds at x (drop (i + 1) xs)))
      ∙ w

  pub at_end : (xs : List A) (i at : ℕ) (front whole : List B) → length xs ≤ i → front ++ G at (drop i xs) ≡ whole → front ++ G at [] ≡ whole
  at_end xs i at front whole l e = ap (λ zs. front ++ G at zs) (sym (drop_all i xs l)) ∙ e

pub map_pushed : {S B : Type 0} (h : S → B) (all new : List S) (y : S) (b : B) → new ≡ all ++ y ∷ [] → h y ≡ b → map h new ≡ map h all ++ b ∷ []
map_pushed h all new y b n e = ap (map h) n ∙ map-append h all (y ∷ []) ∙ ap (λ z. map h all ++ z ∷ []) e

-- without numbers
pub copied : {A B C : Type 0} (f : B → C) (g : A → B) (xs : List A) (i : ℕ) (x : A) (front : List C) → i < length xs → x ≡ get_or xs i x → (front ++ f (g x) ∷ []) ++ map f (map g (drop (i + 1) xs)) ≡ front ++ map f (map g (drop i xs))
copied f g xs i x front l e = one_more (λ _ zs. map f (map g zs)) (λ _ y. f (g y) ∷ []) (λ _ y zs. refl) xs i 0 1 x front _ _ (ap (λ y. front ++ f (g y) ∷ []) e) l refl refl

pub copied_end : {A B C : Type 0} (f : B → C) (g : A → B) (xs : List A) (front all : List C) → front ++ map f (map g (drop (length xs) xs)) ≡ all → front ≡ all
copied_end f g xs front all e = sym (append-nil front) ∙ at_end (λ _ zs. map f (map g zs)) xs (length xs) 0 front all (omega arith) e
