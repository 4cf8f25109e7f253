-- A table with one entry more, and the names that it is of.
use Rattle.std.proofs.Common.{◌≡◌, ◌∙◌, sym, ap, refl, arith, ℕ, ◌+◌, ◌<◌, Bool, true, false, cond, Option, Some, None, List, [], ◌∷◌, ◌++◌, length}
use Rattle.std.specs.Prelude.{option_map}
use Rattle.std.specs.List.{position_from, position}
use Rattle.std.specs.Map.{lookup}
use Rattle.std.proofs.lemmas.Iterator.Adapters.{position_from-zero}

-- the first, or else the second
abbrev pub or_next : {X : Type 0} → Option X → Option X → Option X
or_next (Some x) y = Some x
or_next None y = y

pub lookup_behind : {K V : Type 0} (test : K → Bool) (es : List (K × V)) (k : K) (v : V) → lookup test (es ++ (k, v) ∷ []) ≡ or_next (lookup test es) (cond (test k) (Some v) None)
lookup_behind test [] k v = refl
lookup_behind {V = V} test (e ∷ es) k v = by_test (test e.0) (lookup_behind test es k v)
  where
    by_test : (b : Bool) → lookup test (es ++ (k, v) ∷ []) ≡ or_next (lookup test es) (cond (test k) (Some v) None) → cond b (Some e.1) (lookup test (es ++ (k, v) ∷ [])) ≡ or_next (cond b (Some e.1) (lookup test es)) (cond (test k) (Some v) None)
    by_test true h = refl
    by_test false h = h

last_placed : {V : Type 0} (g : ℕ → V) (i m : ℕ) → i ≡ m → (b : Bool) → option_map g (cond b (Some i) None) ≡ cond b (Some (g m)) None
last_placed g i m e true = ap (λ (k : ℕ). Some (g k)) e
last_placed g i m e false = refl

prefix_placed : {V : Type 0} (x y : V) (b : Bool) (p q r : Option V) → x ≡ y → p ≡ or_next q r → cond b (Some x) p ≡ or_next (cond b (Some y) q) r
prefix_placed {V = V} x y true p q r e h = ap (λ (v : V). Some v) e
prefix_placed x y false p q r e h = h

mapped : {X V : Type 0} (f : X → V) (b : Bool) (x : X) (o : Option X) → option_map f (cond b (Some x) o) ≡ cond b (Some (f x)) (option_map f o)
mapped f true x o = refl
mapped f false x o = refl

pub placed_behind : {V : Type 0} (f g : ℕ → V) (test : List ℕ → Bool) (i m : ℕ) (ns : List (List ℕ)) (s : List ℕ) → m ≡ i + length ns → ((j : ℕ) → j < m → g j ≡ f j) → option_map g (position_from test i (ns ++ s ∷ [])) ≡ or_next (option_map f (position_from test i ns)) (cond (test s) (Some (g m)) None)
placed_behind f g test i m [] s e h = last_placed g i m (omega (arith, e)) (test s)
placed_behind {V = V} f g test i m (n ∷ ns) s e h =
    mapped g (test n) i (position_from test (i + 1) (ns ++ s ∷ []))
    ∙ prefix_placed (g i) (f i) (test n) _ _ _ (h i (omega (arith, e))) (placed_behind f g test (i + 1) m ns s (omega (arith, e)) h)
    ∙ ap (λ (o : Option V). or_next o (cond (test s) (Some (g m)) None)) (sym (mapped f (test n) i (position_from test (i + 1) ns)))

-- the same of the first place
pub position_behind : {V : Type 0} (f g : ℕ → V) (test : List ℕ → Bool) (ns : List (List ℕ)) (s : List ℕ) → ((j : ℕ) → j < length ns → g j ≡ f j) → option_map g (position test (ns ++ s ∷ [])) ≡ or_next (option_map f (position test ns)) (cond (test s) (Some (g (length ns))) None)
position_behind f g test ns s h =
    ap (option_map g) (position_from-zero test (ns ++ s ∷ []))
    ∙ placed_behind f g test 0 (length ns) ns s (omega arith) h
    ∙ ap (λ o. or_next (option_map f o) (cond (test s) (Some (g (length ns))) None)) (sym (position_from-zero test ns))
