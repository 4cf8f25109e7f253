-- What each part has, one after another: where it begins, and what stands there.
use Rattle.std.specs.Prelude.{◌≡◌, ℕ, suc, ◌+◌, ◌<◌, List, [], ◌∷◌, ◌++◌, length, map}
use Rattle.std.proofs.Common.{refl, sym, ap, ◌∙◌, arith, get_or, append_assoc, length-append, subst, inl, inr}
use Rattle.std.proofs.lemmas.List.{get_or_append_left, get_or-append-add, get_or_at}
use Rattle.block_core.specs.declared.name.Name.{Name}
use Rattle.block_core.specs.Blocks.{BlockTree, Whole, IsPlaced, PlacedFrom, Among, gather, running, start}

-- each of the parts begins where those before it end
abbrev pub Runs : {P : Type 0} → (P → ℕ) → (P → ℕ) → ℕ → List P → Type 0
Runs count base at [] = Unit {0}
Runs count base at (p ∷ ps) = (base p ≡ at) × Runs count base (at + count p) ps

runs_from : {P : Type 0} (count place : P → ℕ) (front : List ℕ) (at k : ℕ) (ps : List P) → length front ≡ k → PlacedFrom place k ps → Runs count (λ p. get_or (front ++ running at (map count ps)) (place p) 0) at ps
runs_from count place front at k [] c h = tt
runs_from count place front at k (p ∷ ps) c h =
    let more = running (at + count p) (map count ps) in (
      get_or_at front at more 0 (place p) (c ∙ sym h.0),
      subst (λ xs. Runs count (λ q. get_or xs (place q) 0) (at + count p) ps) (append_assoc front (at ∷ []) more)
          (runs_from count place (front ++ at ∷ []) (at + count p) (suc k) ps (length-append front (at ∷ []) ∙ omega arith) h.1),
    )

pub runs : {P : Type 0} (count : BlockTree (Name P) → ℕ) (d : Whole P) → IsPlaced d → Runs (λ p. count (d.block p)) (start count d) 0 d.parts
runs count d h = runs_from (λ p. count (d.block p)) d.place [] 0 0 d.parts refl h.placed

-- what stands at a part's number
pub get_gather : {P A : Type 0} (g : P → List A) (count base : P → ℕ) (front : List A) (at : ℕ) (ps : List P) → length front ≡ at → Runs count base at ps → ((p : P) → Among p ps → length (g p) ≡ count p)
    → (p : P) (i : ℕ) (x : A) → Among p ps → i < length (g p) → get_or (front ++ gather g ps) (base p + i) x ≡ get_or (g p) i x
get_gather g count base front at [] c r z p i x a h = absurd a
get_gather g count base front at (q ∷ ps) c r z p i x (inl e) h =
    rw e (
    let k : base q + i ≡ length front + i = omega (arith, r.0) in
    let h' : i < length (g q) = subst (λ p. i < length (g p)) e h in
    rw k (get_or-append-add front (g q ++ gather g ps) i x ∙ get_or_append_left (g q) (gather g ps) x i h')
    )
get_gather g count base front at (q ∷ ps) c r z p i x (inr a) h =
    let n : length (front ++ g q) ≡ at + count q = length-append front (g q) ∙ omega (arith, z q (inl refl)) in
    ap (λ xs. get_or xs (base p + i) x) (sym (append_assoc front (g q) (gather g ps)))
    ∙ get_gather g count base (front ++ g q) (at + count q) ps n r.1 (λ p a. z p (inr a)) p i x a h

pub map_gather : {P A B : Type 0} (f : A → B) (g : P → List A) (ps : List P) → map f (gather g ps) ≡ gather (λ p. map f (g p)) ps
map_gather f g [] = refl
map_gather f g (p ∷ ps) = map_append f (g p) (gather g ps) ∙ ap (λ xs. map f (g p) ++ xs) (map_gather f g ps)
  where
    map_append : {A B : Type 0} (f : A → B) (xs ys : List A) → map f (xs ++ ys) ≡ map f xs ++ map f ys
    map_append f [] ys = refl
    map_append f (x ∷ xs) ys = ap (λ l. f x ∷ l) (map_append f xs ys)

pub length_map : {A B : Type 0} (f : A → B) (xs : List A) → length (map f xs) ≡ length xs
length_map f [] = refl
length_map f (x ∷ xs) = ap (λ (n : ℕ). suc n) (length_map f xs)
