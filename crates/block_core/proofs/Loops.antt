-- One more element in the loops that make a design.
use Rattle.std.specs.Prelude.{◌≡◌, ℕ, suc, ◌+◌, ◌-◌, ◌<◌, ◌≤◌, List, [], ◌∷◌, ◌++◌, length, map}
use Rattle.std.specs.Prelude.{string_bytes}
use Rattle.std.specs.Fmt.{decimal}
use Rattle.std.specs.declared.string.String.{String}
use Rattle.std.specs.declared.alloc.Global.{Global}
use Rattle.std.proofs.Common.{refl, sym, ap, ◌∙◌, arith, get_or, drop, append_assoc}
use Rattle.std.proofs.lemmas.List.{drop_more, drop_all, append-nil, map_push}
use Rattle.block_core.specs.Blocks.{running, gather}
use Rattle.block_core.specs.Link.{numbered}

-- F goes on from an index as it does from the next, with something before
pub step_of : {A B : Type 0} (F : List A → List B) (g : A → List B) → ((x : A) (xs : List A) → F (x ∷ xs) ≡ g x ++ F xs) → (xs : List A) (i : ℕ) (x : A) (front new : List B) → i < length xs → x ≡ get_or xs i x → new ≡ g x
    → (front ++ new) ++ F (drop (i + 1) xs) ≡ front ++ F (drop i xs)
step_of F g h xs i x front new l e n =
    append_assoc front new (F (drop (i + 1) xs)) ∙ ap (λ y. front ++ y)
    (ap (λ y. y ++ F (drop (i + 1) xs)) n ∙ sym (ap F (drop_more xs i x l) ∙ ap (λ y. F (y ∷ drop (i + 1) xs)) (sym e) ∙ h x (drop (i + 1) xs)))

pub end_of : {A B : Type 0} (F : List A → List B) → F [] ≡ [] → (xs : List A) (i : ℕ) (front all : List B) → length xs ≤ i → front ++ F (drop i xs) ≡ all → front ≡ all
end_of F h xs i front all l e = let d : drop i xs ≡ [] = drop_all i xs l in sym (append-nil front) ∙ ap (λ y. front ++ y) (sym h) ∙ ap (λ y. front ++ F y) (sym d) ∙ e

pub running_more : {A : Type 0} (g : A → ℕ) (xs : List A) (i at next : ℕ) (x : A) (front : List ℕ) → i < length xs → x ≡ get_or xs i x → next ≡ at + g x
    → (front ++ at ∷ []) ++ running next (map g (drop (i + 1) xs)) ≡ front ++ running at (map g (drop i xs))
running_more g xs i at next x front l e n =
    append_assoc front (at ∷ []) (running next (map g (drop (i + 1) xs)))
    ∙ ap (λ y. front ++ at ∷ y) (ap (λ m. running m (map g (drop (i + 1) xs))) n)
    ∙ sym (ap (λ ys. front ++ running at (map g ys)) (drop_more xs i x l) ∙ ap (λ y. front ++ running at (map g (y ∷ drop (i + 1) xs))) (sym e))

pub running_end : {A : Type 0} (g : A → ℕ) (xs : List A) (i at : ℕ) (front all : List ℕ) → length xs ≤ i → front ++ running at (map g (drop i xs)) ≡ all → front ≡ all
running_end g xs i at front all l e = let d : drop i xs ≡ [] = drop_all i xs l in sym (append-nil front) ∙ ap (λ ys. front ++ running at (map g ys)) (sym d) ∙ e

pub gather_more : {A B : Type 0} (h : A → List B) (xs : List A) (i : ℕ) (x : A) (front : List B) → i < length xs → x ≡ get_or xs i x → (front ++ h x) ++ gather h (drop (i + 1) xs) ≡ front ++ gather h (drop i xs)
gather_more h xs i x front l e = step_of (gather h) h (λ x xs. refl) xs i x front (h x) l e refl

pub gather_end : {A B : Type 0} (h : A → List B) (xs : List A) (front all : List B) → front ++ gather h (drop (length xs) xs) ≡ all → front ≡ all
gather_end h xs front all e = end_of (gather h) refl xs (length xs) front all (omega arith) e

pub copied : {A B : Type 0} (f : A → B) (xs : List A) (i : ℕ) (x : A) (front : List B) → i < length xs → x ≡ get_or xs i x → (front ++ f x ∷ []) ++ map f (drop (i + 1) xs) ≡ front ++ map f (drop i xs)
copied f xs i x front l e = step_of (map f) (λ y. f y ∷ []) (λ x xs. refl) xs i x front (f x ∷ []) l e refl

pub copied_end : {A B : Type 0} (f : A → B) (xs : List A) (front all : List B) → front ++ map f (drop (length xs) xs) ≡ all → front ≡ all
copied_end f xs front all e = end_of (map f) refl xs (length xs) front all (omega arith) e

-- an element is pushed that stands for the next one
pub pushed : {A B C : Type 0} (v : B → C) (f : A → C) (xs : List A) (i : ℕ) (x : A) (old new : List B) (w : B) (all : List C) → new ≡ old ++ w ∷ [] → i < length xs → x ≡ get_or xs i x → v w ≡ f x
    → map v old ++ map f (drop i xs) ≡ all → map v new ++ map f (drop (i + 1) xs) ≡ all
pushed v f xs i x old new w all p l e s k =
    ap (λ ys. map v ys ++ map f (drop (i + 1) xs)) p ∙ ap (λ ys. ys ++ map f (drop (i + 1) xs)) (map_push v old w)
    ∙ ap (λ y. (map v old ++ y ∷ []) ++ map f (drop (i + 1) xs)) s ∙ copied f xs i x (map v old) l e ∙ k

pub map_map : {A B C : Type 0} (g : B → C) (f : A → B) (xs : List A) → map g (map f xs) ≡ map (λ x. g (f x)) xs
map_map g f [] = refl
map_map g f (x ∷ xs) = ap (λ ys. g (f x) ∷ ys) (map_map g f xs)

pub numbered_more : (letter : List ℕ) (k count : ℕ) (front : List (List ℕ)) → k < count → (front ++ (letter ++ decimal k) ∷ []) ++ numbered letter (k + 1) (count - (k + 1)) ≡ front ++ numbered letter k (count - k)
numbered_more letter k count front l =
    let e : count - k ≡ suc (count - (k + 1)) = omega arith in
    let n : k + 1 ≡ suc k = omega arith in
    append_assoc front ((letter ++ decimal k) ∷ []) (numbered letter (k + 1) (count - (k + 1)))
    ∙ ap (λ m. front ++ (letter ++ decimal k) ∷ numbered letter m (count - (k + 1))) n
    ∙ ap (λ m. front ++ numbered letter k m) (sym e)

pub numbered_pushed : (letter : List ℕ) (k count : ℕ) (old new : List (String Global)) (w : String Global) (all : List (List ℕ)) → new ≡ old ++ w ∷ [] → k < count → string_bytes w ≡ letter ++ decimal k
    → map string_bytes old ++ numbered letter k (count - k) ≡ all → map string_bytes new ++ numbered letter (k + 1) (count - (k + 1)) ≡ all
numbered_pushed letter k count old new w all p l s h =
    ap (λ xs. map string_bytes xs ++ numbered letter (k + 1) (count - (k + 1))) p
    ∙ ap (λ xs. xs ++ numbered letter (k + 1) (count - (k + 1))) (map_push string_bytes old w)
    ∙ ap (λ x. (map string_bytes old ++ x ∷ []) ++ numbered letter (k + 1) (count - (k + 1))) s
    ∙ numbered_more letter k count (map string_bytes old) l ∙ h

pub numbered_end : (letter : List ℕ) (k count : ℕ) (front all : List (List ℕ)) → count ≤ k → front ++ numbered letter k (count - k) ≡ all → front ≡ all
numbered_end letter k count front all l e =
    let z : count - k ≡ 0 = omega arith in
    sym (append-nil front) ∙ ap (λ m. front ++ numbered letter k m) (sym z) ∙ e
