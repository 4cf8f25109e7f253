-- One step of the search for the place of a number among those that pass.
use Rattle.std.proofs.Common.{◌≡◌, ℕ, zero, suc, Bool, true, false, List, ◌∷◌, ap}
use Rattle.std.proofs.lemmas.Bool.{cond-true, cond-false}
use Rattle.net_core.specs.declared.design.Declared.{Declared}
use Rattle.net_core.specs.Names.{place_of}

pub place_here : (p : Declared → Bool) (x : Declared) (xs : List Declared) → p x ≡ true → place_of p (x ∷ xs) 0 ≡ 0
place_here p x xs h = cond-true (p x) 0 (suc (place_of p xs 0)) h

pub place_past : (p : Declared → Bool) (x : Declared) (xs : List Declared) (k : ℕ) → p x ≡ true → place_of p (x ∷ xs) (suc k) ≡ suc (place_of p xs k)
place_past p x xs k h = ap (λ (n : ℕ). suc (place_of p xs n)) (cond-true (p x) k (suc k) h)

pub place_other : (p : Declared → Bool) (x : Declared) (xs : List Declared) (k : ℕ) → p x ≡ false → place_of p (x ∷ xs) k ≡ suc (place_of p xs k)
place_other p x xs zero h = cond-false (p x) 0 (suc (place_of p xs 0)) h
place_other p x xs (suc k) h = ap (λ (n : ℕ). suc (place_of p xs n)) (cond-false (p x) k (suc k) h)
