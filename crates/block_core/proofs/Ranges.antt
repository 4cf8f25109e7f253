-- What is in range, while a design is made, by what is left to do.
use Rattle.std.specs.Prelude.{◌≡◌, ℕ, ◌+◌, ◌^◌, ◌<◌, ◌≤◌, ◌&&◌, Bool, true, false, List, [], ◌∷◌, length, sum_by, Result, Err, IsErrAnd}
use Rattle.std.proofs.Common.{sym, ap, ◌∙◌, arith, get_or, drop}
use Rattle.std.proofs.lemmas.Bool.{ltb-false, le-ltb, both_ways}
use Rattle.std.proofs.lemmas.List.{drop_all, drop_more}
use Rattle.std.proofs.lemmas.List.Sums.{sum_by-drop_more}
use Rattle.std.proofs.lemmas.Result.{err_from_is_err_and}
use Rattle.block_core.specs.declared.error.LinkError.{LinkError}
use Rattle.block_core.specs.declared.error.LinkError.TheVariants as error
use Rattle.block_core.specs.Range.{in_range, Tells}

-- ---- elements of a list, one after another: F says whether what is left is in range
module _ {A : Type 0} (F : List A → Bool) (test : A → Bool) (step : (x : A) (xs : List A) → F (x ∷ xs) ≡ (test x && F xs)) (xs : List A) (i : ℕ) (all : Bool) (k : F (drop i xs) ≡ all) where
  module _ (x : A) (l : i < length xs) (e : x ≡ get_or xs i x) where
    at_one : F (drop i xs) ≡ (test x && F (drop (i + 1) xs))
    at_one = ap F (drop_more xs i x l) ∙ ap (λ y. F (y ∷ drop (i + 1) xs)) (sym e) ∙ step x (drop (i + 1) xs)

    pub one_in_range : test x ≡ true → F (drop (i + 1) xs) ≡ all
    one_in_range t = sym (at_one ∙ ap (λ b. b && F (drop (i + 1) xs)) t) ∙ k

    pub one_past : test x ≡ false → all ≡ false
    one_past t = sym k ∙ at_one ∙ ap (λ b. b && F (drop (i + 1) xs)) t

  pub none_past : length xs ≤ i → F [] ≡ true → all ≡ true
  none_past l n = sym k ∙ ap F (drop_all i xs l) ∙ n

-- ---- how many nets of a sort there are
pub total_more : {A : Type 0} (g : A → ℕ) (xs : List A) (i at next : ℕ) (x : A) → i < length xs → x ≡ get_or xs i x → next ≡ at + g x → at + sum_by g (drop i xs) ≡ sum_by g xs → next + sum_by g (drop (i + 1) xs) ≡ sum_by g xs
total_more g xs i at next x l e n h = let s = sum_by-drop_more g xs i x l in let k : g (get_or xs i x) ≡ g x = sym (ap g e) in omega arith

pub total_past : {A : Type 0} (g : A → ℕ) (xs : List A) (i at : ℕ) (x : A) → i < length xs → x ≡ get_or xs i x → at + sum_by g (drop i xs) ≡ sum_by g xs → in_range (at + g x) ≡ false → in_range (sum_by g xs) ≡ false
total_past g xs i at x l e h f =
    let s = sum_by-drop_more g xs i x l in
    let k : g (get_or xs i x) ≡ g x = sym (ap g e) in
    let past : 2 ^ 32 ≤ at + g x = ltb-false (at + g x) (2 ^ 32) f in
    le-ltb (sum_by g xs) (2 ^ 32) (omega arith)

pub total_end : {A : Type 0} (g : A → ℕ) (xs : List A) (i at : ℕ) → length xs ≤ i → at + sum_by g (drop i xs) ≡ sum_by g xs → in_range at ≡ true → in_range (sum_by g xs) ≡ true
total_end g xs i at l h t =
    let z : sum_by g (drop i xs) ≡ 0 = ap (sum_by g) (drop_all i xs l) in
    let e : at ≡ sum_by g xs = omega arith in
    rw e at t

-- ---- what an error says at the exit of a function
pub tells_past : {A : Type 0} (r : Result A LinkError) (e : LinkError) (b : Bool) → IsErrAnd r (λ y. y ≡ e) → (e ≡ error.TooMany → b ≡ false) → Tells r b
tells_past r e b g h = let p = err_from_is_err_and r g in rw (p.1, p.2) h

pub not_many : {A : Type 0} (r : Result A LinkError) (e : LinkError) (b : Bool) → IsErrAnd r (λ y. y ≡ e) → (e ≡ error.TooMany → b ≡ false) → b ≡ true → r ≡ Err error.TooMany → ⊥
not_many r e b g h t m =
    let p = err_from_is_err_and r g in
    let x : r ≡ Err p.0 = p.1 in
    let y : p.0 ≡ e = p.2 in
    let k : p.0 ≡ error.TooMany = cc in
    both_ways b (h (sym y ∙ k)) t
