-- A cell is made the same in packets that hold the same of the cells before it, though they hold others of the cells behind.
use Rattle.std.proofs.Common.{◌≡◌, ℕ, zero, suc, ◌+◌, ◌<◌, ◌≤◌, inl, inr, Bool, true, false, List, [], ◌∷◌, ◌++◌, Some, length, get_or, drop, refl, sym, ap, ◌∙◌, subst, arith, not, cond}
use Rattle.std.specs.Prelude.{if◌then◌else◌, nat_lt, ◌==◌, ◌&&◌, filter, All}
use Rattle.std.specs.List.{AllByRecursion, list_all}
use Rattle.std.proofs.lemmas.Bool.{lt-ltb}
use Rattle.std.proofs.lemmas.Bool.Decides.{nat_tests}
use Rattle.std.proofs.lemmas.List.Elements.{All-nil, All-cons, All-append, All-take, All-drop, All-filter, filter_passes}
use Rattle.std.proofs.lemmas.List.Sums.{passes_at_first}
use Rattle.hazard_core.specs.xdp_maps.declared.decl.MapDecl.{MapDecl}
use Rattle.hazard_core.specs.xdp_machine.State.{PacketIn}
use Rattle.hazard_core.specs.cell_core.declared.operator.Operator.{Operator}
use Rattle.hazard_core.specs.cell_core.declared.operator.Operator.TheVariants.{Found, Answer}
use Rattle.hazard_core.specs.cell_core.declared.site.Act.{Act}
use Rattle.hazard_core.specs.cell_core.declared.site.Act.TheVariants as act
use Rattle.hazard_core.specs.cell_core.Cells.{CellView, cell_at, no_cell, site_in, bit}
use Rattle.hazard_core.specs.cell_core.Sites.{ProgramView, site_at, records}
use Rattle.hazard_core.specs.cell_core.Rows.{RowsRise, numbers, taken_by}
use Rattle.hazard_core.specs.Tables.{TableState}
use Rattle.hazard_core.specs.StageValues.{StageValues, is_null, is_found_of, is_answer_of, found_cell, answer_cell, read_cells, parts, is_pending, pending}
use Rattle.hazard_core.specs.Overlay.{found_pointer, answer_over}
use Rattle.hazard_core.specs.Rows.{cell_number, cell_pointer}
use Rattle.hazard_core.specs.Keeping.{SameCell, AreAlike, looked_operands, LooksBelow, ReadsKeep}
use Rattle.hazard_core.proofs.HeldLaws.{answer_is, found_is}
use Rattle.pipe_core.specs.Machine.{Build}
use Rattle.pipe_core.specs.Pipeable.{IsPipelinable}
use Rattle.pipe_core.proofs.Agreeing.{MadeSame, made_same}

-- the rows of the cells before c; what stands after is moved up to row r, where a read of that row does not look
abbrev pub rows_before : (ℕ → ℕ) → ℕ → ℕ → ℕ → ℕ
rows_before row r c d = if nat_lt d c then row d else r

same_row : (row : ℕ → ℕ) (r c d : ℕ) → d < c → rows_before row r c d ≡ row d
same_row row r c d l = ap (λ (b : Bool). if b then row d else r) (lt-ltb d c l)

pub lower : (row : ℕ → ℕ) (r c d : ℕ) → rows_before row r c d < r → (d < c) × (row d < r)
lower row r c d l = by (nat_lt d c) refl l
  where
    by : (b : Bool) → nat_lt d c ≡ b → (if b then row d else r) < r → (d < c) × (row d < r)
    by true e m = let n : d < c = grind (arith, nat_tests) in (n, m)
    by false e m = absurd (omega (arith, m))

both_lower : (row : ℕ → ℕ) (r c : ℕ) (xs : List ℕ) → AllByRecursion (λ d. row d < r) xs → All (λ d. d < c) xs → AllByRecursion (λ d. rows_before row r c d < r) xs
both_lower row r c [] a h = tt
both_lower row r c (x ∷ xs) a h =
    (subst (λ n. n < r) (sym (same_row row r c x (h 0 x (omega arith)))) a.0, both_lower row r c xs a.1 (λ k d l. h (suc k) d (omega (arith, l))))

looked_all : (P : ℕ → Type 0) (a : Act) (xs : List ℕ) → All P xs → All P (looked_operands a xs)
looked_all P act.Update xs h = All-take P 1 xs h
looked_all P (act.Load at size) xs h = All-take P 1 xs h
looked_all P (act.Atomic at x) xs h = All-take P 1 (drop 2 xs) (All-drop P 2 xs h)
looked_all P act.Lookup xs h = All-nil P
looked_all P act.Delete xs h = All-nil P
looked_all P (act.Store at size) xs h = All-nil P

-- ---- what is pending

all_agree : (f g : ℕ → Bool) (xs : List ℕ) → All (λ x. f x ≡ g x) xs → list_all f xs ≡ list_all g xs
all_agree f g [] h = refl
all_agree f g (x ∷ xs) h = ap (λ b. b && list_all f xs) (h 0 x (omega arith)) ∙ ap (λ b. g x && b) (all_agree f g xs (λ k d l. h (suc k) d (omega (arith, l))))

filter_below : (f g : ℕ → Bool) (from n : ℕ) → ((i : ℕ) → i < from + n → f i ≡ g i) → filter f (numbers from n) ≡ filter g (numbers from n)
filter_below f g from zero same = refl
filter_below f g from (suc n) same =
    ap (λ (b : Bool). cond b (from ∷ filter f (numbers (suc from) n)) (filter f (numbers (suc from) n))) (same from (omega arith))
    ∙ ap (λ (xs : List ℕ). cond (g from) (from ∷ xs) xs) (filter_below f g (suc from) n (λ i l. same i (omega (arith, l))))

module _ (decls : List MapDecl) (b : Build) (fit : IsPipelinable decls b) (c j : ℕ) (l : c < length b.program.cells) (e : site_in (cell_at b.program.cells c).op ≡ Some j) where
  -- a cell of a read of an earlier site stands before
  read_before : (i d : ℕ) → i < j → nat_lt d (length b.program.cells) ≡ true → site_in (cell_at b.program.cells d).op ≡ Some i → d < c
  read_before i d m kept s = let n : d < length b.program.cells = grind (arith, nat_tests) in fit.ordered c d i j l n s e m

  abbrev KeptBefore : ℕ → Type 0
  KeptBefore d = nat_lt d (length b.program.cells) ≡ true → d < c

  reads_before : (i : ℕ) → i < j → All (λ d. d < c) (read_cells b.program.cells i)
  reads_before i m k d n =
      All-filter keep KeptBefore both (All-cons KeptBefore f (a ∷ []) found (All-cons KeptBefore a [] answer (All-nil KeptBefore))) k d n (filter_passes keep both k d n)
    where
      f : ℕ
      f = found_cell b.program.cells i

      a : ℕ
      a = answer_cell b.program.cells i

      both : List ℕ
      both = found_cell b.program.cells i ∷ answer_cell b.program.cells i ∷ []

      keep : ℕ → Bool
      keep k = nat_lt k (length b.program.cells)

      found : nat_lt (found_cell b.program.cells i) (length b.program.cells) ≡ true → found_cell b.program.cells i < c
      found kept =
          let inside : found_cell b.program.cells i < length b.program.cells = grind (arith, nat_tests) in
          let o = found_is i (cell_at b.program.cells (found_cell b.program.cells i)).op (passes_at_first (λ d. is_found_of i d.op) b.program.cells no_cell inside) in
          read_before i (found_cell b.program.cells i) m kept (ap site_in o)

      answer : nat_lt (answer_cell b.program.cells i) (length b.program.cells) ≡ true → answer_cell b.program.cells i < c
      answer kept =
          let inside : answer_cell b.program.cells i < length b.program.cells = grind (arith, nat_tests) in
          let o = answer_is i (cell_at b.program.cells (answer_cell b.program.cells i)).op (passes_at_first (λ d. is_answer_of i d.op) b.program.cells no_cell inside) in
          read_before i (answer_cell b.program.cells i) m kept (ap site_in o)

  -- so do all parts of an earlier site
  parts_before : (i : ℕ) → i < j → All (λ d. d < c) (parts b.program i)
  parts_before i m =
      let s = site_at b.program.sites i in
      let w = fit.sited.below c j i l e (omega (arith, m)) in
      let before = λ (d : ℕ). d < c in
      All-append before (taken_by s) (read_cells b.program.cells i) (All-cons before s.guard (s.key ++ s.operands) w.guard (All-append before s.key s.operands w.key w.operands)) (reads_before i m)

  pub pending_before : (r : ℕ) → pending b.program (rows_before b.plan.row r c) r j ≡ pending b.program b.plan.row r j
  pending_before r = filter_below (is_pending b.program (rows_before b.plan.row r c) r j) (is_pending b.program b.plan.row r j) 0 j (λ i m.
      let n : i < j = omega (arith, m) in
      ap (λ (q : Bool). ((site_at b.program.sites i).map == (site_at b.program.sites j).map) && records (site_at b.program.sites i).act && q)
      (all_agree (λ d. nat_lt (rows_before b.plan.row r c d) r) (λ d. nat_lt (b.plan.row d) r) (parts b.program i)
      (λ k d o. ap (λ q. nat_lt q r) (same_row b.plan.row r c (get_or (parts b.program i) k d) (parts_before i n k d o)))))

  pub looks_before : (r : ℕ) → LooksBelow b.plan.row r (site_at b.program.sites j) → LooksBelow (rows_before b.plan.row r c) r (site_at b.program.sites j)
  looks_before r below =
      let s = site_at b.program.sites j in
      let w = fit.sited.below c j j l e (omega arith) in
      (both_lower b.plan.row r c s.key below.0 w.key, both_lower b.plan.row r c (looked_operands s.act s.operands) below.1 (looked_all (λ d. d < c) s.act s.operands w.operands))

-- ---- a cell

-- rows under which the same is pending
record RowsSame (p : ProgramView) (up row : ℕ → ℕ) (r : ℕ) (t : TableState) (packet : PacketIn) (h : StageValues) (c : CellView) (op : Operator) : Type 0 where
  number : cell_number p up r t packet h c op ≡ cell_number p row r t packet h c op
  pointer : cell_pointer p up r t h c op ≡ cell_pointer p row r t h c op

rows_same : (p : ProgramView) (up row : ℕ → ℕ) (r : ℕ) (t : TableState) (packet : PacketIn) (h : StageValues) (c : CellView) (op : Operator) → ((j : ℕ) → site_in op ≡ Some j → pending p up r j ≡ pending p row r j) → RowsSame p up row r t packet h c op
rows_same p up row r t packet h c (Found j) same =
    let q = ap (λ (before : List ℕ). found_pointer p t h before j) (same j refl) in
    record { number = ap (λ u. bit (not (is_null u))) q; pointer = q }
rows_same p up row r t packet h c (Answer j) same = record { number = ap (λ (before : List ℕ). answer_over p t h before j) (same j refl); pointer = refl }
rows_same p up row r t packet h c op same = record { number = refl; pointer = refl }

pub made_before : (keep : ReadsKeep) (rise : RowsRise) (decls : List MapDecl) (b : Build) → IsPipelinable decls b → (t : TableState) (packet : PacketIn) (h g : StageValues) (c : ℕ) → c < length b.program.cells →
    ((d : ℕ) → d < c → b.plan.row d ≤ b.plan.row c → SameCell h g d) → ((d : ℕ) → length b.program.cells ≤ d → SameCell h g d) → MadeSame b (b.plan.row c) t packet h g (cell_at b.program.cells c) (cell_at b.program.cells c).op
made_before keep rise decls b fit t packet h g c l same past =
    let plan = fit.rows.reads.planned in
    let formed = plan.formed.each c l in
    let m = made_same keep above r t packet h g d d.op alike
    (λ i x n. same (get_or d.ins i x) (formed.earlier i x n) (rise b.program.cells b.plan.row plan.rows c l i x n)) formed.enough
    (λ j e. looks_before decls b fit c j l e r (fit.rows.reads.below c j l e)) in
    let u = rows_same b.program up b.plan.row r t packet h d d.op (λ j e. pending_before decls b fit c j l e r) in
    let v = rows_same b.program up b.plan.row r t packet g d d.op (λ j e. pending_before decls b fit c j l e r) in
    record { number = sym u.number ∙ m.number ∙ v.number; pointer = sym u.pointer ∙ m.pointer ∙ v.pointer }
  where
    d : CellView
    d = cell_at b.program.cells c

    r : ℕ
    r = b.plan.row c

    up : ℕ → ℕ
    up = rows_before b.plan.row (b.plan.row c) c

    above : Build
    above = record b { plan = record b.plan { row = rows_before b.plan.row (b.plan.row c) c } }

    alike : AreAlike b.program (rows_before b.plan.row (b.plan.row c) c) (b.plan.row c) h g
    alike i (inl low) = let q = lower b.plan.row (b.plan.row c) c i low in same i q.0 (let m = q.1 in omega (arith, m))
    alike i (inr out) = past i out
