-- Marks, one after another.
use Rattle.std.specs.Prelude.{◌==◌, Contains}
use Rattle.std.proofs.Common.{◌≡◌, ◌∙◌, ◌⊎◌, inl, inr, ℕ, zero, suc, ◌+◌, ◌-◌, ◌<◌, ◌≤◌, Bool, true, false, List, [], ◌∷◌, ◌++◌, length, take, get_or, slice_index, refl, sym, ap, subst, arith}
use Rattle.std.proofs.lemmas.Bool.{eqb-true, eqb-false}
use Rattle.std.proofs.lemmas.List.{get_or_default}
use Rattle.std.proofs.lemmas.List.Elements.{All-contains, Contains-append_left, Contains-append_right, Contains-append_cases}
use Rattle.std.proofs.Math.Seq.{take-length}
use Rattle.block_core.proofs.list_laws_laws.NumberLaws.{last_or_not}
use Rattle.block_core.proofs.list_laws_laws.OneMoreLaws.{same_one, one_same, take_one}
use Rattle.overlay_net.specs.cell_core.Cells.{CellView, cell_at, is_read}
use Rattle.overlay_net.specs.cell_core.Formed.{AreFormed}
use Rattle.overlay_net.specs.cell_core.Rows.{taken_by}
use Rattle.overlay_net.specs.cell_core.Sites.{SiteView, ProgramView}
use Rattle.row_plan.specs.Plan.{answer_cells}
use Rattle.row_net.specs.Needed.{IsUsed, Answered, AtSite, Read, Taken, flag, AreNeeded, Marks, OfSites, Closes}
use Rattle.row_net.proofs.FlagLaws.{marked_inside}

abbrev pub Use : Type 1
Use = ℕ → Type 0

-- nothing more
pub marks_none : (N : Use) (xs : List Bool) → ((k : ℕ) → ¬ N k) → Marks N xs xs
marks_none N xs none = record { count = refl; grows = λ k h. h; met = λ k h below. absurd (none k h); some = λ k h. inl h }

-- some after others
pub marks_both : (N M P : Use) (a b c : List Bool) → ((k : ℕ) → N k → P k) → ((k : ℕ) → M k → P k) → ((k : ℕ) → P k → N k ⊎ M k) → Marks N a b → Marks M b c → Marks P a c
marks_both N M P a b c n m split f g = record {
  count = g.count ∙ f.count;
  grows = λ k h. g.grows k (f.grows k h);
  met = λ k h below. either k below (split k h);
  some = λ k h. second k (g.some k h);
}
  where
    either : (k : ℕ) → k < length c → N k ⊎ M k → flag c k ≡ true
    either k below (inl h) = g.grows k (f.met k h (omega (arith, below, g.count)))
    either k below (inr h) = g.met k h below

    first : (k : ℕ) → (flag a k ≡ true) ⊎ N k → (flag a k ≡ true) ⊎ P k
    first k (inl h) = inl h
    first k (inr h) = inr (n k h)

    second : (k : ℕ) → (flag b k ≡ true) ⊎ M k → (flag a k ≡ true) ⊎ P k
    second k (inl h) = first k (f.some k h)
    second k (inr h) = inr (m k h)

-- the same in other words
pub marks_as : (N M : Use) (a b : List Bool) → ((k : ℕ) → N k → M k) → ((k : ℕ) → M k → N k) → Marks N a b → Marks M a b
marks_as N M a b n m f = marks_both N (λ k. ⊥) M a b b n (λ k h. absurd h) (λ k h. inl (m k h)) f (marks_none (λ k. ⊥) b (λ k h. h))

-- ---- of lists
pub marks_one : (x : ℕ) (a b : List Bool) → Marks (λ k. k ≡ x) a b → Marks (Contains (x ∷ [])) a b
marks_one x a b f = marks_as (λ k. k ≡ x) (Contains (x ∷ [])) a b (one_same x) (same_one x) f

pub marks_append : (xs ys : List ℕ) (a b c : List Bool) → Marks (Contains xs) a b → Marks (Contains ys) b c → Marks (Contains (xs ++ ys)) a c
marks_append xs ys a b c f g = marks_both (Contains xs) (Contains ys) (Contains (xs ++ ys)) a b c (Contains-append_left xs ys) (Contains-append_right xs ys) (Contains-append_cases xs ys) f g

pub marks_next : (xs : List ℕ) (i x : ℕ) (a b c : List Bool) → i < length xs → x ≡ get_or xs i x → Marks (Contains (take i xs)) a b → Marks (λ k. k ≡ x) b c → Marks (Contains (take (i + 1) xs)) a c
marks_next xs i x a b c inside is f g = subst (λ l. Marks (Contains l) a c) (sym (take_one xs i x inside is)) (marks_append (take i xs) (x ∷ []) a b c f (marks_one x b c g))

pub marks_step : (xs : List ℕ) (i : ℕ) (a b c : List Bool) → i < length xs → Marks (Contains (take i xs)) a b → Marks (λ k. k ≡ slice_index xs i) b c → Marks (Contains (take (i + 1) xs)) a c
marks_step xs i a b c inside f g = marks_next xs i (slice_index xs i) a b c inside (get_or_default xs i 0 (slice_index xs i) inside) f g

pub marks_start : (xs : List Bool) → Marks (Contains []) xs xs
marks_start xs = marks_none (Contains []) xs (λ k h. omega (arith, h.1))

pub marks_of : (xs ys : List ℕ) (a b : List Bool) → xs ≡ ys → Marks (Contains xs) a b → Marks (Contains ys) a b
marks_of xs ys a b e f = subst (λ l. Marks (Contains l) a b) e f

pub marks_all : (xs : List ℕ) (i : ℕ) (a b : List Bool) → i ≡ length xs → Marks (Contains (take i xs)) a b → Marks (Contains xs) a b
marks_all xs i a b e f = marks_of (take i xs) xs a b (ap (λ n. take n xs) e ∙ take-length xs) f

-- ---- of sites
pub sites_next : (sites : List SiteView) (i : ℕ) (s : SiteView) (a b c : List Bool) → i < length sites → s ≡ get_or sites i s → Marks (OfSites (take i sites)) a b → Marks (Contains (taken_by s)) b c → Marks (OfSites (take (i + 1) sites)) a c
sites_next sites i s a b c inside is f g =
    subst (λ ss. Marks (OfSites ss) a c) (sym (take_one sites i s inside is))
    (marks_both (OfSites (take i sites)) (Contains (taken_by s)) (OfSites (take i sites ++ s ∷ [])) a b c (λ k h. (h.0, Contains-append_left (take i sites) (s ∷ []) h.0 h.1, h.2))
    (λ k h. (s, Contains-append_right (take i sites) (s ∷ []) s (one_same s s refl), h)) split f g)
  where
    split : (k : ℕ) → OfSites (take i sites ++ s ∷ []) k → OfSites (take i sites) k ⊎ Contains (taken_by s) k
    split k (t, there, taken) = elim (Contains-append_cases (take i sites) (s ∷ []) t there) [
      | inl old ↦ inl (t, old, taken)
      | inr new ↦ let P : SiteView → Type 0 = λ u. Contains (taken_by u) k in inr (subst P (same_one s t new) taken)
    ]

pub sites_start : (xs : List Bool) → Marks (OfSites []) xs xs
sites_start xs = marks_none (OfSites []) xs (λ k h. omega (arith, h.1.1))

pub sites_all : (sites : List SiteView) (i : ℕ) (a b : List Bool) → i ≡ length sites → Marks (OfSites (take i sites)) a b → Marks (OfSites sites) a b
sites_all sites i a b e f = subst (λ ss. Marks (OfSites ss) a b) (ap (λ n. take n sites) e ∙ take-length sites) f

-- ---- of reads
-- the reads among the first cells
abbrev pub FirstReads : List CellView → ℕ → ℕ → Type 0
FirstReads cells n k = (k < n) × (is_read (cell_at cells k).op ≡ true)

abbrev IsReadAt : List CellView → ℕ → Type 0
IsReadAt cells k = is_read (cell_at cells k).op ≡ true

pub reads_start : (cells : List CellView) (xs : List Bool) → Marks (FirstReads cells 0) xs xs
reads_start cells xs = marks_none (FirstReads cells 0) xs (λ k h. omega (arith, h.0))

pub reads_next : (cells : List CellView) (n : ℕ) (a b c : List Bool) → is_read (cell_at cells n).op ≡ true → Marks (FirstReads cells n) a b → Marks (λ k. k ≡ n) b c → Marks (FirstReads cells (n + 1)) a c
reads_next cells n a b c is f g = marks_both (FirstReads cells n) (λ k. k ≡ n) (FirstReads cells (n + 1)) a b c (λ k h. (omega (arith, h.0), h.1)) (λ k e. (omega (arith, e), subst (IsReadAt cells) (sym e) is)) split f g
  where
    split : (k : ℕ) → FirstReads cells (n + 1) k → FirstReads cells n k ⊎ (k ≡ n)
    split k h = elim (last_or_not n k h.0) [ inl l ↦ inl (l, h.1) | inr e ↦ inr e ]

pub reads_not : (cells : List CellView) (n : ℕ) (a b : List Bool) → is_read (cell_at cells n).op ≡ false → Marks (FirstReads cells n) a b → Marks (FirstReads cells (n + 1)) a b
reads_not cells n a b off f = marks_as (FirstReads cells n) (FirstReads cells (n + 1)) a b (λ k h. (omega (arith, h.0), h.1)) back f
  where
    differ : (t : Bool) → t ≡ false → t ≡ true → ⊥
    differ t e h = cc

    back : (k : ℕ) → FirstReads cells (n + 1) k → FirstReads cells n k
    back k h = elim (last_or_not n k h.0) [ inl l ↦ (l, h.1) | inr e ↦ absurd (differ (is_read (cell_at cells n).op) off (subst (IsReadAt cells) e h.1)) ]

read_inside : (cells : List CellView) (k : ℕ) → is_read (cell_at cells k).op ≡ true → k < length cells
read_inside [] k h = cc
read_inside (c ∷ cells) zero h = omega arith
read_inside (c ∷ cells) (suc k) h = omega (arith, read_inside cells k h)

pub reads_all : (cells : List CellView) (n : ℕ) (a b : List Bool) → length cells ≤ n → Marks (FirstReads cells n) a b → Marks (λ k. is_read (cell_at cells k).op ≡ true) a b
reads_all cells n a b past f = marks_as (FirstReads cells n) (IsReadAt cells) a b (λ k h. h.1) (λ k h. (omega (arith, past, read_inside cells k h), h)) f

-- ---- what marked cells take
-- the same of cells from one on
pub record ClosesFrom (p : ProgramView) (at : ℕ) (old new : List Bool) : Type 0 where
  pub within : at ≤ length p.cells
  pub count : length new ≡ length p.cells
  pub grows : (k : ℕ) → flag old k ≡ true → flag new k ≡ true
  pub closed : (c k : ℕ) → at ≤ c → flag new c ≡ true → Contains (cell_at p.cells c).ins k → flag new k ≡ true
  pub only : ((k : ℕ) → flag old k ≡ true → IsUsed p k) → (k : ℕ) → flag new k ≡ true → IsUsed p k

pub closes_none : (p : ProgramView) (at : ℕ) (xs : List Bool) → at ≡ length p.cells → length xs ≡ length p.cells → ClosesFrom p at xs xs
closes_none p at xs e count = record {
  within = omega (arith, e);
  count = count;
  grows = λ k h. h;
  closed = λ c k past h taken. absurd (omega (arith, e, count, past, marked_inside xs c h));
  only = λ used k h. used k h;
}

-- the cell before is marked, and all that it takes becomes so
pub closes_next : (p : ProgramView) (at : ℕ) (old a b : List Bool) → AreFormed p.cells → 0 < at → flag a (at - 1) ≡ true → ClosesFrom p at old a → Marks (Contains (cell_at p.cells (at - 1)).ins) a b → ClosesFrom p (at - 1) old b
closes_next p at old a b formed some marked f g = record {
  within = omega (arith, f.within);
  count = g.count ∙ f.count;
  grows = λ k h. g.grows k (f.grows k h);
  closed = λ c k past h taken. by_cases c k h taken (c == at - 1) refl past;
  only = λ used k h. first used k (g.some k h);
}
  where
    here : at - 1 < length p.cells
    here = omega (arith, f.within, some)

    earlier : (c k : ℕ) → c < length p.cells → Contains (cell_at p.cells c).ins k → k < c
    earlier c k inside taken = All-contains (λ i. i < c) (cell_at p.cells c).ins k (formed.each c inside).earlier taken

    old_mark : (c k : ℕ) → at ≤ c → (flag a c ≡ true) ⊎ Contains (cell_at p.cells (at - 1)).ins c → Contains (cell_at p.cells c).ins k → flag b k ≡ true
    old_mark c k past (inl h) taken = g.grows k (f.closed c k past h taken)
    old_mark c k past (inr h) taken = absurd (omega (arith, past, earlier (at - 1) c here h))

    by_cases : (c k : ℕ) → flag b c ≡ true → Contains (cell_at p.cells c).ins k → (t : Bool) → (c == at - 1) ≡ t → at - 1 ≤ c → flag b k ≡ true
    by_cases c k h taken true e past =
        let same : c ≡ at - 1 = eqb-true c (at - 1) e in
        let there : Contains (cell_at p.cells (at - 1)).ins k = subst (λ j. Contains (cell_at p.cells j).ins k) same taken in
        g.met k there (omega (arith, here, earlier (at - 1) k here there, g.count, f.count))
    by_cases c k h taken false e past = old_mark c k (omega (arith, past, eqb-false c (at - 1) e, some)) (g.some c h) taken

    first : ((k : ℕ) → flag old k ≡ true → IsUsed p k) → (k : ℕ) → (flag a k ≡ true) ⊎ Contains (cell_at p.cells (at - 1)).ins k → IsUsed p k
    first used k (inl h) = f.only used k h
    first used k (inr h) = Taken (at - 1) k (f.only used (at - 1) marked) h

-- or it is not marked
pub closes_same : (p : ProgramView) (at : ℕ) (old a : List Bool) → 0 < at → flag a (at - 1) ≡ false → ClosesFrom p at old a → ClosesFrom p (at - 1) old a
closes_same p at old a some off f = record {
  within = omega (arith, f.within);
  count = f.count;
  grows = f.grows;
  closed = λ c k past h taken. by_cases c k h taken (c == at - 1) refl past;
  only = f.only;
}
  where
    differ : (t : Bool) → t ≡ false → t ≡ true → ⊥
    differ t e h = cc

    by_cases : (c k : ℕ) → flag a c ≡ true → Contains (cell_at p.cells c).ins k → (t : Bool) → (c == at - 1) ≡ t → at - 1 ≤ c → flag a k ≡ true
    by_cases c k h taken true e past = absurd (differ (flag a (at - 1)) off (subst (λ j. flag a j ≡ true) (eqb-true c (at - 1) e) h))
    by_cases c k h taken false e past = f.closed c k (omega (arith, past, eqb-false c (at - 1) e, some)) h taken

pub closes_all : (p : ProgramView) (at : ℕ) (old new : List Bool) → length old ≡ length p.cells → at ≡ 0 → ClosesFrom p at old new → Closes p old new
closes_all p at old new count none f = record {
  count = f.count ∙ sym count;
  grows = f.grows;
  closed = λ c k h taken. f.closed c k (omega (arith, none)) h taken;
  only = f.only;
}

-- ---- all that is needed
pub are_needed :
    (p : ProgramView) (none a b c d : List Bool) → AreFormed p.cells → length none ≡ length p.cells → ((k : ℕ) → flag none k ≡ false) → Marks (Contains (answer_cells p)) none a → Marks (OfSites p.sites) a b → Marks (λ k. is_read (cell_at p.cells k).op ≡ true) b c → Closes p c d
    → AreNeeded p d
are_needed p none a b c d formed count blank f g h i = record { count = i.count ∙ h.count ∙ g.count ∙ f.count ∙ count; used = used; only = i.only third }
  where
    inside : (k : ℕ) → k < length p.cells → (k < length a) × (k < length b) × (k < length c)
    inside k lt = (omega (arith, lt, count, f.count), omega (arith, lt, count, f.count, g.count), omega (arith, lt, count, f.count, g.count, h.count))

    taken_inside : (cells : List CellView) (j k : ℕ) → Contains (cell_at cells j).ins k → j < length cells
    taken_inside [] j k (i, lt, e) = absurd (omega (arith, lt))
    taken_inside (x ∷ cells) zero k h = omega arith
    taken_inside (x ∷ cells) (suc j) k h = omega (arith, taken_inside cells j k h)

    used : (k : ℕ) → k < length p.cells → IsUsed p k → flag d k ≡ true
    used _ lt (Answered k there) = i.grows k (h.grows k (g.grows k (f.met k there (inside k lt).0)))
    used _ lt (AtSite k s there taken) = i.grows k (h.grows k (g.met k (s, there, taken) (inside k lt).1))
    used _ lt (Read k is) = i.grows k (h.met k is (inside k lt).2)
    used _ lt (Taken j k u taken) = i.closed j k (used j (taken_inside p.cells j k taken) u) taken

    differ : (t : Bool) → t ≡ false → t ≡ true → ⊥
    differ t e l = cc

    first : (k : ℕ) → (flag none k ≡ true) ⊎ Contains (answer_cells p) k → IsUsed p k
    first k (inl l) = absurd (differ (flag none k) (blank k) l)
    first k (inr there) = Answered k there

    second : (k : ℕ) → (flag a k ≡ true) ⊎ OfSites p.sites k → IsUsed p k
    second k (inl l) = first k (f.some k l)
    second k (inr (s, there, taken)) = AtSite k s there taken

    at_third : (k : ℕ) → (flag b k ≡ true) ⊎ (is_read (cell_at p.cells k).op ≡ true) → IsUsed p k
    at_third k (inl l) = second k (g.some k l)
    at_third k (inr is) = Read k is

    third : (k : ℕ) → flag c k ≡ true → IsUsed p k
    third k l = at_third k (h.some k l)
