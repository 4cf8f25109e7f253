-- Where a site reads, and what a run reads there.
use Rattle.std.proofs.Common.{◌≡◌, ℕ, zero, suc, ◌+◌, ◌<◌, ◌≤◌, ◌⊎◌, inl, inr, Bool, true, false, List, [], ◌∷◌, Some, length, take, refl, sym, ap, subst, arith, cond}
use Rattle.std.specs.Prelude.{if◌then◌else◌, nat_lt, nat_le, ◌||◌, filter, Contains}
use Rattle.std.specs.List.{AllByRecursion, list_any}
use Rattle.std.proofs.lemmas.Bool.{cases_lt}
use Rattle.std.proofs.lemmas.Bool.Decides.{nat_tests}
use Rattle.std.proofs.lemmas.List.Elements.{Contains-append_left, Contains-append_right}
use Rattle.std.proofs.lemmas.List.Sums.{passes_at_first}
use Rattle.hazard_core.specs.xdp_maps.State.{MapState}
use Rattle.hazard_core.specs.xdp_maps.Touched.{Resource, reads as resources_read}
use Rattle.hazard_core.specs.xdp_machine.Touched.{Touched, nothing, touched_by}
use Rattle.hazard_core.specs.cell_core.Cells.{cell_at, no_cell, site_in, on}
use Rattle.hazard_core.specs.cell_core.Rows.{numbers}
use Rattle.hazard_core.specs.cell_core.Sites.{SiteView, site_at, operation_on, applied, after, touched}
use Rattle.hazard_core.specs.StageValues.{is_found_of, is_answer_of, found_cell, answer_cell, read_cells}
use Rattle.hazard_core.specs.Marks.{has_read}
use Rattle.hazard_core.proofs.HeldLaws.{answer_is, found_is}
use Rattle.pipe_core.specs.Machine.{Build}

-- ---- what passes a test

pub record First (test : ℕ → Bool) (n : ℕ) : Type 0 where
  pub at : ℕ
  pub inside : at < n
  pub passes : test at ≡ true
  pub before : (c : ℕ) → c < at → test c ≡ false

pub first_below : (test : ℕ → Bool) (n : ℕ) → First test n ⊎ ((c : ℕ) → c < n → test c ≡ false)
first_below test zero = inr (λ c l. absurd (omega (arith, l)))
first_below test (suc n) = elim (first_below test n) [
  | inl f ↦ inl (record { at = f.at; inside = let l = f.inside in omega (arith, l); passes = f.passes; before = f.before })
  | inr none ↦ by none (test n) refl
]
  where
    by : ((c : ℕ) → c < n → test c ≡ false) → (q : Bool) → test n ≡ q → First test (suc n) ⊎ ((c : ℕ) → c < suc n → test c ≡ false)
    by none true e = inl (record { at = n; inside = omega arith; passes = e; before = none })
    by none false e = inr (λ c l. elim (cases_lt c n) [
      | inl low ↦ none c low
      | inr up ↦ let same : n ≡ c = omega (arith, l, up) in subst (λ i. test i ≡ false) same e
    ])

pub some_of : {A : Type 0} (test : A → Bool) (P : A → Type 0) (xs : List A) → list_any test xs ≡ true → AllByRecursion P xs → (a : A) × (test a ≡ true) × P a
some_of {A = A} test P [] e all = cc
some_of {A = A} test P (x ∷ xs) e all = by (test x) refl e (λ f. some_of test P xs f all.1)
  where
    by : (c : Bool) → test x ≡ c → c || list_any test xs ≡ true → (list_any test xs ≡ true → (a : A) × (test a ≡ true) × P a) → (a : A) × (test a ≡ true) × P a
    by true f g more = (x, f, all.0)
    by false f g more = more g

each_kept : (test : ℕ → Bool) (P : ℕ → Type 0) (xs : List ℕ) → AllByRecursion (λ c. test c ≡ true → P c) xs → AllByRecursion P (filter test xs)
each_kept test P [] all = tt
each_kept test P (x ∷ xs) all = by (test x) refl (each_kept test P xs all.1)
  where
    by : (c : Bool) → test x ≡ c → AllByRecursion P (filter test xs) → AllByRecursion P (cond c (x ∷ filter test xs) (filter test xs))
    by true e more = (all.0 e, more)
    by false e more = more

pub numbered_in : (from n : ℕ) → AllByRecursion (λ j. j < from + n) (numbers from n)
numbered_in from zero = tt
numbered_in from (suc n) = (omega arith, widened (numbers (suc from) n) (numbered_in (suc from) n))
  where
    widened : (xs : List ℕ) → AllByRecursion (λ j. j < suc from + n) xs → AllByRecursion (λ j. j < from + suc n) xs
    widened [] h = tt
    widened (x ∷ xs) h = ((let l = h.0 in omega (arith, l)), widened xs h.1)

-- ---- a read of a site

pub record ReadBy (b : Build) (r j : ℕ) : Type 0 where
  pub cell : ℕ
  pub inside : cell < length b.program.cells
  pub is : site_in (cell_at b.program.cells cell).op ≡ Some j
  pub low : b.plan.row cell ≤ r

abbrev IsRead : Build → ℕ → ℕ → Type 0
IsRead b j c = (c < length b.program.cells) × (site_in (cell_at b.program.cells c).op ≡ Some j)

pub read_by : (b : Build) (r j : ℕ) → has_read b.program b.plan.row r j ≡ true → ReadBy b r j
read_by b r j read =
    let q = some_of (λ c. nat_le (b.plan.row c) r) (IsRead b j) (read_cells b.program.cells j) read
    (each_kept (λ c. nat_lt c (length b.program.cells)) (IsRead b j) (found_cell b.program.cells j ∷ answer_cell b.program.cells j ∷ []) (found, (answer, tt))) in
    let c = q.0 in
    let e = q.1 in
    record { cell = c; inside = q.2.0; is = q.2.1; low = at_most c e }
  where
    at_most : (c : ℕ) → nat_le (b.plan.row c) r ≡ true → b.plan.row c ≤ r
    at_most c e = grind (arith, nat_tests)

    found : nat_lt (found_cell b.program.cells j) (length b.program.cells) ≡ true → IsRead b j (found_cell b.program.cells j)
    found e =
        let c = found_cell b.program.cells j in
        let l : found_cell b.program.cells j < length b.program.cells = grind (arith, nat_tests) in
        (l, ap site_in (found_is j (cell_at b.program.cells c).op (passes_at_first (λ d. is_found_of j d.op) b.program.cells no_cell l)))

    answer : nat_lt (answer_cell b.program.cells j) (length b.program.cells) ≡ true → IsRead b j (answer_cell b.program.cells j)
    answer e =
        let c = answer_cell b.program.cells j in
        let l : answer_cell b.program.cells j < length b.program.cells = grind (arith, nat_tests) in
        (l, ap site_in (answer_is j (cell_at b.program.cells c).op (passes_at_first (λ d. is_answer_of j d.op) b.program.cells no_cell l)))

module _ (v : ℕ → ℕ) where
  abbrev own : MapState → SiteView → Touched
  own m s = if on (v s.guard) then touched_by m (Some (s.map, operation_on v m s)) else nothing

  -- what a site on the path reads a run reads
  pub site_read : (j : ℕ) (ss : List SiteView) (m : MapState) (r : Resource) → j < length ss → on (v (site_at ss j).guard) ≡ true →
      (let n = after v m (take j ss) in Contains (resources_read n (site_at ss j).map (operation_on v n (site_at ss j))) r) → Contains (touched v m ss).reads r
  site_read j [] m r l guard has = absurd (omega (arith, l))
  site_read zero (s ∷ ss) m r l guard has =
      Contains-append_left (own m s).reads (touched v (applied v m s) ss).reads r
      (subst (λ (c : Bool). Contains (if c then touched_by m (Some (s.map, operation_on v m s)) else nothing).reads r) (sym guard) has)
  site_read (suc j) (s ∷ ss) m r l guard has = Contains-append_right (own m s).reads (touched v (applied v m s) ss).reads r (site_read j ss (applied v m s) r (omega (arith, l)) guard has)
