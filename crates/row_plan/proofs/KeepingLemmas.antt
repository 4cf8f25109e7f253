-- Rows that values are kept up to, raised one after another.
use Rattle.std.proofs.Common.{◌≡◌, ◌∙◌, ◌⊎◌, inl, inr, ℕ, ◌+◌, ◌<◌, ◌≤◌, Some, true, List, [], ◌∷◌, ◌++◌, length, take, get_or, slice_index, Contains, refl, sym, ap, subst, arith}
use Rattle.std.proofs.Math.Seq.{take-length}
use Rattle.std.proofs.lemmas.List.Elements.{Contains-append_left, Contains-append_right, Contains-append_cases}
use Rattle.cell_core.specs.Cells.{CellView, cell_at, site_in}
use Rattle.cell_core.specs.Sites.{SiteView, ProgramView, site_at, records}
use Rattle.cell_core.specs.Rows.{taken_by}
use Rattle.cell_core.proofs.list_laws_laws.NumberLaws.{last_or_not}
use Rattle.cell_core.proofs.list_laws_laws.OneMoreLaws.{same_one, one_same, take_one}
use Rattle.row_plan.specs.Plan.{AreKept, IsNeeded, Made, Taken, AtSite, Written, Answered, answer_cells}
use Rattle.row_plan.specs.Steps.{Keeps, OfOne, OfAll, OfInputs, OfWrites, OfSites}

abbrev pub Need : Type 1
Need = ℕ → ℕ → Type 0

-- where nothing is needed
pub keeps_none : (N : Need) (xs : List ℕ) → ((k at : ℕ) → ¬ N k at) → Keeps N xs xs
keeps_none N xs none = record {
  count = refl;
  rises = λ k. omega arith;
  met = λ k at need below. absurd (none k at need);
  some = λ k below. inl refl;
}

-- one need after another
pub keeps_both : (N M P : Need) (a b c : List ℕ) → ((k at : ℕ) → N k at → P k at) → ((k at : ℕ) → M k at → P k at) → ((k at : ℕ) → P k at → N k at ⊎ M k at)
    → Keeps N a b → Keeps M b c → Keeps P a c
keeps_both N M P a b c n m split f g = record {
  count = g.count ∙ f.count;
  rises = λ k. omega (arith, f.rises k, g.rises k);
  met = λ k at need below. either k at below (split k at need);
  some = λ k below. second k below (g.some k below);
}
  where
    inside : (k : ℕ) → k < length c → k < length b
    inside k below = omega (arith, below, g.count)

    either : (k at : ℕ) → k < length c → N k at ⊎ M k at → at ≤ slice_index c k
    either k at below (inl need) = omega (arith, f.met k at need (inside k below), g.rises k)
    either k at below (inr need) = g.met k at need below

    first : (k : ℕ) → slice_index c k ≡ slice_index b k → (slice_index b k ≡ slice_index a k) ⊎ N k (slice_index b k) → (slice_index c k ≡ slice_index a k) ⊎ P k (slice_index c k)
    first k same (inl old) = inl (same ∙ old)
    first k same (inr need) = let Q : ℕ → Type 0 = λ at. P k at in inr (subst Q (sym same) (n k _ need))

    second : (k : ℕ) → k < length c → (slice_index c k ≡ slice_index b k) ⊎ M k (slice_index c k) → (slice_index c k ≡ slice_index a k) ⊎ P k (slice_index c k)
    second k below (inl same) = first k same (f.some k (inside k below))
    second k below (inr need) = inr (m k _ need)

-- ---- some cells after others
pub of_one : (x row : ℕ) (a b : List ℕ) → Keeps (OfOne x row) a b → Keeps (OfAll (x ∷ []) row) a b
of_one x row a b f = keeps_both (λ k at. ⊥) (OfOne x row) (OfAll (x ∷ []) row) a a b (λ k at need. absurd need) (λ k at need. (one_same x k need.0, need.1))
    (λ k at need. inr (same_one x k need.0, need.1)) (keeps_none (λ k at. ⊥) a (λ k at need. need)) f

pub of_more : (xs ys : List ℕ) (row : ℕ) (a b c : List ℕ) → Keeps (OfAll xs row) a b → Keeps (OfAll ys row) b c → Keeps (OfAll (xs ++ ys) row) a c
of_more xs ys row a b c f g = keeps_both (OfAll xs row) (OfAll ys row) (OfAll (xs ++ ys) row) a b c
    (λ k at need. (Contains-append_left xs ys k need.0, need.1)) (λ k at need. (Contains-append_right xs ys k need.0, need.1)) split f g
  where
    split : (k at : ℕ) → OfAll (xs ++ ys) row k at → OfAll xs row k at ⊎ OfAll ys row k at
    split k at need = elim (Contains-append_cases xs ys k need.0) [ inl there ↦ inl (there, need.1) | inr there ↦ inr (there, need.1) ]

pub of_next : (xs : List ℕ) (row i x : ℕ) (a b c : List ℕ) → i < length xs → x ≡ get_or xs i x → Keeps (OfAll (take i xs) row) a b → Keeps (OfOne x row) b c → Keeps (OfAll (take (i + 1) xs) row) a c
of_next xs row i x a b c within is f g =
    let P : List ℕ → Type 0 = λ ys. Keeps (OfAll ys row) a c in
    subst P (sym (take_one xs i x within is)) (of_more (take i xs) (x ∷ []) row a b c f (of_one x row b c g))

pub inputs_next : (cells : List CellView) (rows : List ℕ) (n : ℕ) (a b c : List ℕ) → Keeps (OfInputs cells rows n) a b → Keeps (OfAll (cell_at cells n).ins (slice_index rows n)) b c → Keeps (OfInputs cells rows (n + 1)) a c
inputs_next cells rows n a b c f g = keeps_both (OfInputs cells rows n) (OfAll (cell_at cells n).ins (slice_index rows n)) (OfInputs cells rows (n + 1)) a b c
    (λ k at need. (need.0, omega (arith, need.1), need.2, need.3)) (λ k at need. (n, omega arith, need.0, need.1)) split f g
  where
    split : (k at : ℕ) → OfInputs cells rows (n + 1) k at → OfInputs cells rows n k at ⊎ OfAll (cell_at cells n).ins (slice_index rows n) k at
    split k at (i, below, there, is) = elim (last_or_not n i below) [
      | inl l ↦ inl (i, l, there, is)
      | inr e ↦ let P : ℕ → Type 0 = λ j. OfAll (cell_at cells j).ins (slice_index rows j) k at in inr (subst P e (there, is))
    ]

pub writes_next : (cells : List CellView) (sites : List SiteView) (commit n : ℕ) (a b c : List ℕ) → (j : ℕ) → site_in (cell_at cells n).op ≡ Some j → records (site_at sites j).act ≡ true
    → Keeps (OfWrites cells sites commit n) a b → Keeps (OfOne n commit) b c → Keeps (OfWrites cells sites commit (n + 1)) a c
writes_next cells sites commit n a b c j at writes f g = keeps_both (OfWrites cells sites commit n) (OfOne n commit) (OfWrites cells sites commit (n + 1)) a b c
    (λ k at need. (omega (arith, need.0), need.1, need.2)) new split f g
  where
    new : (k at : ℕ) → OfOne n commit k at → OfWrites cells sites commit (n + 1) k at
    new k x need =
        let Q : ℕ → Type 0 = λ i. (h : ℕ) × (site_in (cell_at cells i).op ≡ Some h) × (records (site_at sites h).act ≡ true) in
        (omega (arith, need.0), subst Q (sym need.0) (j, at, writes), need.1)

    split : (k at : ℕ) → OfWrites cells sites commit (n + 1) k at → OfWrites cells sites commit n k at ⊎ OfOne n commit k at
    split k x need = elim (last_or_not n k need.0) [ inl l ↦ inl (l, need.1, need.2) | inr e ↦ inr (e, need.2) ]

pub writes_not : (cells : List CellView) (sites : List SiteView) (commit n : ℕ) (a b : List ℕ) → ((j : ℕ) → site_in (cell_at cells n).op ≡ Some j → ¬ (records (site_at sites j).act ≡ true))
    → Keeps (OfWrites cells sites commit n) a b → Keeps (OfWrites cells sites commit (n + 1)) a b
writes_not cells sites commit n a b none f = keeps_both (OfWrites cells sites commit n) (λ k at. ⊥) (OfWrites cells sites commit (n + 1)) a b b
    (λ k at need. (omega (arith, need.0), need.1, need.2)) (λ k at need. absurd need) split f (keeps_none (λ k at. ⊥) b (λ k at need. need))
  where
    split : (k at : ℕ) → OfWrites cells sites commit (n + 1) k at → OfWrites cells sites commit n k at ⊎ ⊥
    split k x need = elim (last_or_not n k need.0) [
      | inl l ↦ inl (l, need.1, need.2)
      | inr e ↦ let P : ℕ → Type 0 = λ i. (h : ℕ) × (site_in (cell_at cells i).op ≡ Some h) × (records (site_at sites h).act ≡ true) in
          let here = subst P e need.1 in absurd (none here.0 here.1 here.2)
    ]

pub sites_next : (sites : List SiteView) (commit i : ℕ) (s : SiteView) (a b c : List ℕ) → i < length sites → s ≡ get_or sites i s → Keeps (OfSites (take i sites) commit) a b → Keeps (OfAll (taken_by s) commit) b c → Keeps (OfSites (take (i + 1) sites) commit) a c
sites_next sites commit i s a b c within is f g =
    let P : List SiteView → Type 0 = λ ss. Keeps (OfSites ss commit) a c in
    subst P (sym (take_one sites i s within is)) (keeps_both (OfSites (take i sites) commit) (OfAll (taken_by s) commit) (OfSites (take i sites ++ s ∷ []) commit) a b c
    (λ k at need. ((need.0.0, Contains-append_left (take i sites) (s ∷ []) need.0.0 need.0.1, need.0.2), need.1))
    (λ k at need. ((s, Contains-append_right (take i sites) (s ∷ []) s (one_same s s refl), need.0), need.1)) split f g)
  where
    split : (k at : ℕ) → OfSites (take i sites ++ s ∷ []) commit k at → OfSites (take i sites) commit k at ⊎ OfAll (taken_by s) commit k at
    split k at ((t, there, taken), e) = elim (Contains-append_cases (take i sites) (s ∷ []) t there) [
      | inl old ↦ inl ((t, old, taken), e)
      | inr new ↦ let P : SiteView → Type 0 = λ u. Contains (taken_by u) k in inr (subst P (same_one s t new) taken, e)
    ]

-- ---- all that is needed
pub are_kept : (p : ProgramView) (rows : List ℕ) (commit last : ℕ) (a b c d : List ℕ) → length rows ≡ length p.cells
    → Keeps (OfInputs p.cells rows (length p.cells)) rows a → Keeps (OfWrites p.cells p.sites commit (length p.cells)) a b → Keeps (OfSites p.sites commit) b c → Keeps (OfAll (answer_cells p) last) c d
    → AreKept p (slice_index rows) (slice_index d) commit last
are_kept p rows commit last a b c d count f g h i = record { enough = enough; needed = needed }
  where
    inside : (k : ℕ) → k < length p.cells → (k < length a) × (k < length b) × (k < length c) × (k < length d)
    inside k l = (omega (arith, l, count, f.count), omega (arith, l, count, f.count, g.count), omega (arith, l, count, f.count, g.count, h.count), omega (arith, l, count, f.count, g.count, h.count, i.count))

    enough : (k at : ℕ) → k < length p.cells → IsNeeded p (slice_index rows) commit last k at → at ≤ slice_index d k
    enough k at l (Made is) = omega (arith, is, f.rises k, g.rises k, h.rises k, i.rises k)
    enough k at l (Taken n within there is) = omega (arith, f.met k at (n, within, there, is) (inside k l).0, g.rises k, h.rises k, i.rises k)
    enough k at l (Written j reads writes is) = omega (arith, g.met k at (l, (j, reads, writes), is) (inside k l).1, h.rises k, i.rises k)
    enough k at l (AtSite s there taken is) = omega (arith, h.met k at ((s, there, taken), is) (inside k l).2, i.rises k)
    enough k at l (Answered there is) = i.met k at (there, is) (inside k l).3

    at_first : (k : ℕ) → (slice_index a k ≡ slice_index rows k) ⊎ OfInputs p.cells rows (length p.cells) k (slice_index a k) → IsNeeded p (slice_index rows) commit last k (slice_index a k)
    at_first k (inl is) = Made is
    at_first k (inr (n, within, there, is)) = Taken n within there is

    at_second : (k : ℕ) → k < length p.cells → (slice_index b k ≡ slice_index a k) ⊎ OfWrites p.cells p.sites commit (length p.cells) k (slice_index b k) → IsNeeded p (slice_index rows) commit last k (slice_index b k)
    at_second k l (inl is) = subst (IsNeeded p (slice_index rows) commit last k) (sym is) (at_first k (f.some k (inside k l).0))
    at_second k l (inr (within, (j, reads, writes), is)) = Written j reads writes is

    at_third : (k : ℕ) → k < length p.cells → (slice_index c k ≡ slice_index b k) ⊎ OfSites p.sites commit k (slice_index c k) → IsNeeded p (slice_index rows) commit last k (slice_index c k)
    at_third k l (inl is) = subst (IsNeeded p (slice_index rows) commit last k) (sym is) (at_second k l (g.some k (inside k l).1))
    at_third k l (inr ((s, there, taken), is)) = AtSite s there taken is

    at_last : (k : ℕ) → k < length p.cells → (slice_index d k ≡ slice_index c k) ⊎ OfAll (answer_cells p) last k (slice_index d k) → IsNeeded p (slice_index rows) commit last k (slice_index d k)
    at_last k l (inl is) = subst (IsNeeded p (slice_index rows) commit last k) (sym is) (at_third k l (h.some k (inside k l).2))
    at_last k l (inr (there, is)) = Answered there is

    needed : (k : ℕ) → k < length p.cells → IsNeeded p (slice_index rows) commit last k (slice_index d k)
    needed k l = at_last k l (i.some k (inside k l).3)

-- ---- at the end of a list
pub whole_list : {X : Type 0} (xs : List X) (i : ℕ) → i ≡ length xs → take i xs ≡ xs
whole_list xs i e = ap (λ n. take n xs) e ∙ take-length xs

pub of_same : (xs ys : List ℕ) (row : ℕ) (a b : List ℕ) → xs ≡ ys → Keeps (OfAll xs row) a b → Keeps (OfAll ys row) a b
of_same xs ys row a b e f = let P : List ℕ → Type 0 = λ zs. Keeps (OfAll zs row) a b in subst P e f

pub whole : (xs : List ℕ) (row i : ℕ) (a b : List ℕ) → i ≡ length xs → Keeps (OfAll (take i xs) row) a b → Keeps (OfAll xs row) a b
whole xs row i a b e f = of_same (take i xs) xs row a b (whole_list xs i e) f
