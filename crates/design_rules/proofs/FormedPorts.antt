-- Lists that are compared place by place, and outputs that are asked one by one.
use Rattle.std.specs.Prelude.{◌≡◌, ◌≢◌, ℕ, zero, suc, ◌+◌, ◌<◌, Bool, true, false, ◌&&◌, List, [], ◌∷◌, length, drop, map}
use Rattle.std.specs.Borrow.{Bor}
use Rattle.std.specs.Cmp.Lexicographic.{pointwise}
use Rattle.std.proofs.Common.{get_or, refl, sym, ap, ◌∙◌, add-one, arith}
use Rattle.std.proofs.lemmas.Bool.{and_right}

pub pointwise_length : {A B : Type 0} (E : A → B → Bool) (xs : List A) (ys : List B) → length xs ≢ length ys → pointwise E xs ys ≡ false
pointwise_length E [] [] h = absurd (h refl)
pointwise_length E [] (y ∷ ys) h = refl
pointwise_length E (x ∷ xs) [] h = refl
pointwise_length E (x ∷ xs) (y ∷ ys) h = and_right (E x y) (pointwise E xs ys) (pointwise_length E xs ys (λ e. h (ap suc e)))

pub pointwise_drop : {A B : Type 0} (E : A → B → Bool) (xs : List A) (ys : List B) (k : ℕ) (d : A) (e : B) → k < length xs → k < length ys
    → pointwise E (drop k xs) (drop k ys) ≡ (E (get_or xs k d) (get_or ys k e) && pointwise E (drop (suc k) xs) (drop (suc k) ys))
pointwise_drop E [] ys k d e h l = absurd (omega arith)
pointwise_drop E (x ∷ xs) [] k d e h l = absurd (omega arith)
pointwise_drop E (x ∷ xs) (y ∷ ys) zero d e h l = refl
pointwise_drop E (x ∷ xs) (y ∷ ys) (suc k) d e h l = pointwise_drop E xs ys k d e (omega arith) (omega arith)

-- one step of a comparison
pub pointwise_here : {A B : Type 0} (E : A → B → Bool) (xs : List A) (ys : List B) (k : ℕ) (d : A) (e : B) → k < length xs → k < length ys
    → E (get_or xs k d) (get_or ys k e) ≡ false → pointwise E (drop k xs) (drop k ys) ≡ false
pointwise_here E xs ys k d e h l f = pointwise_drop E xs ys k d e h l ∙ ap (λ t. t && pointwise E (drop (suc k) xs) (drop (suc k) ys)) f

pub pointwise_more : {A B : Type 0} (E : A → B → Bool) (xs : List A) (ys : List B) (k : ℕ) (d : A) (e : B) → k < length xs → k < length ys
    → E (get_or xs k d) (get_or ys k e) ≡ true → pointwise E (drop (k + 1) xs) (drop (k + 1) ys) ≡ pointwise E (drop k xs) (drop k ys)
pointwise_more E xs ys k d e h l t =
    rw (add-one k) (sym (pointwise_drop E xs ys k d e h l ∙ ap (λ t. t && pointwise E (drop (suc k) xs) (drop (suc k) ys)) t))

-- a text of a list of texts that are pointed at
pub now_at : (texts : List (Bor (List ℕ))) (k : ℕ) (none : Bor (List ℕ)) → none.now ≡ [] → (get_or texts k none).now ≡ get_or (map (λ text. text.now) texts) k []
now_at [] k none e = e
now_at (t ∷ texts) zero none e = refl
now_at (t ∷ texts) (suc k) none e = now_at texts k none e
