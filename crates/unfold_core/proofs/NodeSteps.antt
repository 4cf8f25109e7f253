-- Nodes, one loop after another.
use Rattle.std.proofs.Common.{◌≡◌, ℕ, zero, suc, ◌+◌, ◌<◌, ltb, Bool, true, false, List, [], ◌∷◌, ◌++◌, length, drop, get_or, refl, sym, ◌∙◌, ap, add-one}
use Rattle.std.specs.Prelude.{if◌then◌else◌}
use Rattle.std.specs.List.{list_all}
use Rattle.std.proofs.lemmas.List.{drop_more, get_or_default}
use Rattle.unfold_core.specs.declared.nesting.Loop.{Loop}
use Rattle.unfold_core.specs.Nodes.{first, rest, differs, copies_before, next_copies, fits}

first_drop : (cs : List ℕ) (k : ℕ) → first (drop k cs) ≡ get_or cs k 0
first_drop [] zero = refl
first_drop [] (suc k) = refl
first_drop (c ∷ cs) zero = refl
first_drop (c ∷ cs) (suc k) = first_drop cs k

rest_drop : (cs : List ℕ) (k : ℕ) → rest (drop k cs) ≡ drop (suc k) cs
rest_drop [] zero = refl
rest_drop [] (suc k) = refl
rest_drop (c ∷ cs) zero = refl
rest_drop (c ∷ cs) (suc k) = rest_drop cs k

rest_more : (cs : List ℕ) (k : ℕ) → rest (drop k cs) ≡ drop (k + 1) cs
rest_more cs k = rest_drop cs k ∙ ap (λ j. drop j cs) (sym (add-one k))

-- the loops from an index on
loops_more : (ls : List Loop) (k : ℕ) (l : Loop) → k < length ls → l ≡ get_or ls k l → drop k ls ≡ l ∷ drop (k + 1) ls
loops_more ls k l below e = drop_more ls k l below ∙ ap (λ x. x ∷ drop (k + 1) ls) (sym e)

-- ---- the order

abbrev told : Loop → List Loop → ℕ → ℕ → List ℕ → ℕ → ℕ → List ℕ → Bool
told l ls p c cs q d ds = if differs l p c q d then ltb c d else copies_before ls p cs q ds

before_step : (ls : List Loop) (p q : ℕ) (cs ds : List ℕ) (k : ℕ) (l : Loop) (c d : ℕ) → k < length ls → l ≡ get_or ls k l → c ≡ get_or cs k 0 → d ≡ get_or ds k 0
    → copies_before (drop k ls) p (drop k cs) q (drop k ds) ≡ told l (drop (k + 1) ls) p c (drop (k + 1) cs) q d (drop (k + 1) ds)
before_step ls p q cs ds k l c d below e f g =
    ap (λ xs. copies_before xs p (drop k cs) q (drop k ds)) (loops_more ls k l below e)
    ∙ ap (λ x. told l (drop (k + 1) ls) p x (rest (drop k cs)) q (first (drop k ds)) (rest (drop k ds))) (first_drop cs k ∙ sym f)
    ∙ ap (λ x. told l (drop (k + 1) ls) p c (rest (drop k cs)) q x (rest (drop k ds))) (first_drop ds k ∙ sym g)
    ∙ ap (λ xs. told l (drop (k + 1) ls) p c xs q d (rest (drop k ds))) (rest_more cs k)
    ∙ ap (λ xs. told l (drop (k + 1) ls) p c (drop (k + 1) cs) q d xs) (rest_more ds k)

pub before_goes : (ls : List Loop) (p q : ℕ) (cs ds : List ℕ) (k : ℕ) (l : Loop) (c d : ℕ) → k < length ls → l ≡ get_or ls k l → c ≡ get_or cs k 0 → d ≡ get_or ds k 0 → differs l p c q d ≡ false
    → copies_before (drop (k + 1) ls) p (drop (k + 1) cs) q (drop (k + 1) ds) ≡ copies_before (drop k ls) p (drop k cs) q (drop k ds)
before_goes ls p q cs ds k l c d below e f g h =
    sym (before_step ls p q cs ds k l c d below e f g ∙ ap (λ b. if b then ltb c d else copies_before (drop (k + 1) ls) p (drop (k + 1) cs) q (drop (k + 1) ds)) h)

-- the same, of a loop by its index, whatever stands for the places
pub before_goes_at : (ls : List Loop) (p q : ℕ) (cs ds : List ℕ) (k : ℕ) (x : Loop) (c d s t : ℕ) (r : Bool) → k < length ls → c ≡ get_or cs k 0 → d ≡ get_or ds k 0 → s ≡ p → t ≡ q
    → r ≡ differs (get_or ls k x) s c t d → r ≡ false → copies_before (drop (k + 1) ls) p (drop (k + 1) cs) q (drop (k + 1) ds) ≡ copies_before (drop k ls) p (drop k cs) q (drop k ds)
before_goes_at ls p q cs ds k x c d s t r below f g a b h e =
    before_goes ls p q cs ds k (get_or ls k x) c d below (get_or_default ls k x (get_or ls k x) below) f g
    (ap (λ y. differs (get_or ls k x) p c y d) (sym b) ∙ ap (λ y. differs (get_or ls k x) y c t d) (sym a) ∙ sym h ∙ e)

-- ---- edges

-- the copies of the loops before an index
pub record AreNext (ls : List Loop) (p q : ℕ) (cs : List ℕ) (k : ℕ) (out : List ℕ) : Type 0 where
  pub so_far : out ++ next_copies (drop k ls) p q (drop k cs) ≡ next_copies ls p q cs
  pub fit : list_all fits out ≡ true
