-- Loops over the sites of a packet, by their numbers.
use Rattle.std.proofs.Common.{◌≡◌, ◌∙◌, ℕ, zero, suc, ◌+◌, ◌-◌, ◌<◌, ◌≤◌, Bool, true, false, cond, ◌||◌, Some, None, List, [], ◌∷◌, ◌++◌, refl, sym, ap, arith, length, get_or, set, drop, map as map_list, find, drop-cons}
use Rattle.std.specs.List.{list_any}
use Rattle.hazard_core.specs.cell_core.Rows.{numbers}
use Rattle.hazard_core.proofs.PrefixLaws.{map_more}

left : (j n : ℕ) → j < n → numbers j (n - j) ≡ j ∷ numbers (j + 1) (n - (j + 1))
left j n l = let e : n - j ≡ suc (n - (j + 1)) = omega arith in let s : suc j ≡ j + 1 = omega arith in rw (e, s) refl

none_left : (j n : ℕ) → n ≤ j → numbers j (n - j) ≡ []
none_left j n l = let e : n - j ≡ 0 = omega arith in rw e refl

-- whether one of the numbers passes a test
pub any_on : (f : ℕ → Bool) (j n : ℕ) → j < n → f j ≡ false → list_any f (numbers (j + 1) (n - (j + 1))) ≡ list_any f (numbers j (n - j))
any_on f j n l e = sym (ap (list_any f) (left j n l) ∙ ap (λ (b : Bool). b || list_any f (numbers (j + 1) (n - (j + 1)))) e)

pub any_here : (f : ℕ → Bool) (j n : ℕ) → j < n → f j ≡ true → list_any f (numbers j (n - j)) ≡ true
any_here f j n l e = ap (list_any f) (left j n l) ∙ ap (λ (b : Bool). b || list_any f (numbers (j + 1) (n - (j + 1)))) e

pub any_past : (f : ℕ → Bool) (j n : ℕ) → n ≤ j → list_any f (numbers j (n - j)) ≡ false
any_past f j n l = ap (list_any f) (none_left j n l)

-- the first that does
pub find_on : (f : ℕ → Bool) (j n : ℕ) → j < n → f j ≡ false → find f (numbers (j + 1) (n - (j + 1))) ≡ find f (numbers j (n - j))
find_on f j n l e = sym (ap (find f) (left j n l) ∙ ap (λ (b : Bool). cond b (Some j) (find f (numbers (j + 1) (n - (j + 1))))) e)

pub find_here : (f : ℕ → Bool) (j n : ℕ) → j < n → f j ≡ true → find f (numbers j (n - j)) ≡ Some j
find_here f j n l e = ap (find f) (left j n l) ∙ ap (λ (b : Bool). cond b (Some j) (find f (numbers (j + 1) (n - (j + 1))))) e

pub find_past : (f : ℕ → Bool) (j n : ℕ) → n ≤ j → find f (numbers j (n - j)) ≡ None
find_past f j n l = ap (find f) (none_left j n l)

-- ---- marks that are made anew, each from the old one

pub length_made : {B : Type 0} (f : ℕ → B) (from n : ℕ) → length (map_list f (numbers from n)) ≡ n
length_made f from zero = refl
length_made f from (suc n) = ap (λ (m : ℕ). suc m) (length_made f (suc from) n)

-- those of the sites below k are
unfoldable pub made_to : (ℕ → Bool → Bool) → ℕ → List Bool → List Bool
made_to f k old = map_list (λ j. f j (get_or old j false)) (numbers 0 k) ++ drop k old

pub made_none : (f : ℕ → Bool → Bool) (old : List Bool) → made_to f 0 old ≡ old
unfolding made_to
made_none f old = refl

seam_read : (xs ys : List Bool) (y : Bool) (k : ℕ) → length xs ≡ k → get_or (xs ++ y ∷ ys) k false ≡ y
seam_read [] ys y zero e = refl
seam_read [] ys y (suc k) e = absurd (omega (arith, e))
seam_read (x ∷ xs) ys y zero e = absurd (omega (arith, e))
seam_read (x ∷ xs) ys y (suc k) e = seam_read xs ys y k (omega (arith, e))

seam_set : (xs ys : List Bool) (y z : Bool) (k : ℕ) → length xs ≡ k → set (xs ++ y ∷ ys) k z ≡ (xs ++ z ∷ []) ++ ys
seam_set [] ys y z zero e = refl
seam_set [] ys y z (suc k) e = absurd (omega (arith, e))
seam_set (x ∷ xs) ys y z zero e = absurd (omega (arith, e))
seam_set (x ∷ xs) ys y z (suc k) e = ap (λ (zs : List Bool). x ∷ zs) (seam_set xs ys y z k (omega (arith, e)))

one_more : (f : ℕ → Bool → Bool) (old : List Bool) (k : ℕ) → k < length old → set (made_to f k old) k (f k (get_or (made_to f k old) k false)) ≡ made_to f (k + 1) old
unfolding made_to
one_more f old k l =
    let g : ℕ → Bool = λ j. f j (get_or old j false) in
    let xs = map_list g (numbers 0 k) in
    let s : suc k ≡ k + 1 = omega arith in
    let d : drop k old ≡ get_or old k false ∷ drop (k + 1) old = drop-cons old k false l ∙ ap (λ (n : ℕ). get_or old k false ∷ drop n old) s in
    ap (λ (ys : List Bool). set (xs ++ ys) k (f k (get_or (xs ++ ys) k false))) d
    ∙ ap (λ (b : Bool). set (xs ++ get_or old k false ∷ drop (k + 1) old) k (f k b)) (seam_read xs (drop (k + 1) old) (get_or old k false) k (length_made g 0 k))
    ∙ seam_set xs (drop (k + 1) old) (get_or old k false) (g k) k (length_made g 0 k)
    ∙ ap (λ (ys : List Bool). ys ++ drop (k + 1) old) (sym (map_more g k))

-- one more
pub made_more : (f : ℕ → Bool → Bool) (old marks : List Bool) (k : ℕ) (b : Bool) → k < length old → marks ≡ made_to f k old → b ≡ f k (get_or marks k false) → set marks k b ≡ made_to f (k + 1) old
made_more f old marks k b l m e = ap (set marks k) e ∙ ap (λ (xs : List Bool). set xs k (f k (get_or xs k false))) m ∙ one_more f old k l

-- all
pub made_all : (f : ℕ → Bool → Bool) (old : List Bool) (n k : ℕ) → length old ≡ n → k ≡ n → made_to f k old ≡ map_list (λ j. f j (get_or old j false)) (numbers 0 n)
unfolding made_to
made_all f old n k e s = rw s (ap (λ (ys : List Bool). map_list (λ j. f j (get_or old j false)) (numbers 0 n) ++ ys) (past old n e) ∙ nothing (map_list (λ j. f j (get_or old j false)) (numbers 0 n)))
  where
    past : (xs : List Bool) (n : ℕ) → length xs ≡ n → drop n xs ≡ []
    past [] zero e = refl
    past [] (suc n) e = refl
    past (x ∷ xs) zero e = absurd (omega (arith, e))
    past (x ∷ xs) (suc n) e = past xs n (omega (arith, e))

    nothing : (xs : List Bool) → xs ++ [] ≡ xs
    nothing [] = refl
    nothing (x ∷ xs) = ap (λ (zs : List Bool). x ∷ zs) (nothing xs)
