-- The reads of a program in the rows of its plan.
use Rattle.std.proofs.Common.{◌≡◌, ℕ, suc, ◌<◌, ◌≤◌, Bool, true, Some, List, ◌∷◌, [], ◌++◌, length, get_or, take, drop, sym, ap, ◌∙◌, subst, arith, inl, inr, not}
use Rattle.std.specs.Prelude.{All, slice_index, nat_lt, ◌==◌}
use Rattle.std.specs.List.{list_all, position_or_len}
use Rattle.std.specs.Int.{w64, cast_unsigned}
use Rattle.std.proofs.lemmas.Bool.{cases_lt, ltb-true}
use Rattle.std.proofs.lemmas.List.Elements.{All-contains, All-contains_itself, All-cons, All-nil}
use Rattle.std.proofs.lemmas.List.Sums.{passes_at_first, fails_before_first}
use Rattle.beat_core.proofs.list_laws_laws.ListLaws.{all_split}
use Rattle.xdp_object.specs.xdp_maps.declared.decl.MapDecl.{MapDecl}
use Rattle.xdp_object.specs.xdp_maps.declared.errno.TheConstants.{ENOENT, E2BIG, EEXIST, EINVAL}
use Rattle.hazard_core.specs.cell_core.declared.operator.Operator.TheVariants.{Found, Answer}
use Rattle.hazard_core.specs.cell_core.Acts.{pointer_operand, asks, says_done}
use Rattle.hazard_core.specs.cell_core.Cells.{CellView, no_cell, cell_at, site_in, bit, bits_from}
use Rattle.hazard_core.specs.cell_core.Sites.{ProgramView, site_at}
use Rattle.hazard_core.specs.cell_core.Formed.{AreFormed, AreSited}
use Rattle.hazard_core.specs.cell_core.Rows.{greatest}
use Rattle.operator_cells.specs.HeldCells.Reading.{SiteIsRead, ReadsAreMade}
use Rattle.hazard_core.specs.Tables.{decl_of}
use Rattle.hazard_core.specs.StageValues.{is_found_of, is_answer_of, found_cell, answer_cell, read_cells}
use Rattle.hazard_core.proofs.HeldLaws.{answer_is, found_is}
use Rattle.hazard_core.proofs.cell_core_laws.RowLaws.{greatest_above}
use Rattle.predicate_core.specs.Buildable.{IsBuildable}
use Rattle.row_plan.specs.Plan.{Plan, IsPlan}
use Rattle.pipe_runs.specs.pipe_core.Agreement.{ReadsArePlanned}
use Rattle.pipe_runs.specs.pipe_core.Pipeable.{TellsDone}
use Rattle.ehdl_build.specs.ProgramPlan.Pipelinable.{build_of}
use Rattle.ehdl_build.proofs.ProgramPlan.Lists.{all_by, all_passed}
use Rattle.ehdl_build.proofs.ProgramPlan.Planning.{row_within}
use Rattle.ehdl_build.proofs.ProgramPlan.Operators.{heavy_of_site, is_found, is_answer, looked}

-- ---- where the reads of a site are

-- what passes somewhere is found
first_there : (test : CellView → Bool) (cells : List CellView) (c : ℕ) → c < length cells → test (cell_at cells c) ≡ true → position_or_len test cells < length cells
first_there test cells c l e = elim (cases_lt (position_or_len test cells) (length cells)) [
  | inl there ↦ there
  | inr past ↦ let no = fails_before_first test cells c no_cell (omega (arith, past, l)) in absurd (cc)
]

pub found_there : (cells : List CellView) (j c : ℕ) → c < length cells → (cell_at cells c).op ≡ Found j → found_cell cells j < length cells
found_there cells j c l e = first_there (λ d. is_found_of j d.op) cells c l (is_found j (cell_at cells c).op e)

pub answer_there : (cells : List CellView) (j c : ℕ) → c < length cells → (cell_at cells c).op ≡ Answer j → answer_cell cells j < length cells
answer_there cells j c l e = first_there (λ d. is_answer_of j d.op) cells c l (is_answer j (cell_at cells c).op e)

pub found_reads : (cells : List CellView) (j : ℕ) → found_cell cells j < length cells → (cell_at cells (found_cell cells j)).op ≡ Found j
found_reads cells j l = found_is j (cell_at cells (found_cell cells j)).op (passes_at_first (λ d. is_found_of j d.op) cells no_cell l)

pub answer_reads : (cells : List CellView) (j : ℕ) → answer_cell cells j < length cells → (cell_at cells (answer_cell cells j)).op ≡ Answer j
answer_reads cells j l = answer_is j (cell_at cells (answer_cell cells j)).op (passes_at_first (λ d. is_answer_of j d.op) cells no_cell l)

-- a cell that reads site j
pub record IsRead (cells : List CellView) (j c : ℕ) : Type 0 where
  pub there : c < length cells
  pub site : site_in (cell_at cells c).op ≡ Some j

pub reads_are : (cells : List CellView) (j : ℕ) → All (IsRead cells j) (read_cells cells j)
reads_are cells j =
    let found : nat_lt (found_cell cells j) (length cells) ≡ true → IsRead cells j (found_cell cells j) =
    λ e. let l = ltb-true (found_cell cells j) (length cells) e in record { there = l; site = ap site_in (found_reads cells j l) } in
    let answer : nat_lt (answer_cell cells j) (length cells) ≡ true → IsRead cells j (answer_cell cells j) =
    λ e. let l = ltb-true (answer_cell cells j) (length cells) e in record { there = l; site = ap site_in (answer_reads cells j l) } in
    let P : ℕ → Type 0 = λ k. nat_lt k (length cells) ≡ true → IsRead cells j k in
    all_passed (λ k. nat_lt k (length cells)) (IsRead cells j) (found_cell cells j ∷ answer_cell cells j ∷ [])
    (All-cons P (found_cell cells j) (answer_cell cells j ∷ []) found (All-cons P (answer_cell cells j) [] answer (All-nil P)))

-- ---- what is asked of them

-- no error is 0 as a number of 64 bits
errors_tell : (from width : ℕ) → from ≡ 0 → width ≡ 64
    → list_all (λ e. not (bits_from (cast_unsigned w64 e) from width == 0)) (EINVAL ∷ EEXIST ∷ ENOENT ∷ E2BIG ∷ []) ≡ true
errors_tell from width low wide =
    ap (λ n. list_all (λ e. not (bits_from (cast_unsigned w64 e) n width == 0)) (EINVAL ∷ EEXIST ∷ ENOENT ∷ E2BIG ∷ [])) low
    ∙ ap (λ n. list_all (λ e. not (bits_from (cast_unsigned w64 e) 0 n == 0)) (EINVAL ∷ EEXIST ∷ ENOENT ∷ E2BIG ∷ [])) wide

module _ (decls : List MapDecl) (p : ProgramView) (reads : ReadsAreMade decls p) where
  pub found_at : (j : ℕ) → j < length p.sites → asks (site_at p.sites j).act (decl_of decls (site_at p.sites j).map).kind ≡ true → found_cell p.cells j < length p.cells
  found_at j l e = let f = (reads.each j l).found e in found_there p.cells j f.0 f.1 f.2

  pub tells_at : (j : ℕ) → j < length p.sites → says_done (site_at p.sites j).act (decl_of decls (site_at p.sites j).map).kind ≡ true → TellsDone p.cells (answer_cell p.cells j)
  tells_at j l e =
      let s = reads.each j l in
      let a = s.tells e in
      let c : ℕ = a.0 in
      let there = answer_there p.cells j c a.1 a.2 in
      let same : c ≡ answer_cell p.cells j = s.one c (answer_cell p.cells j) a.1 there (ap site_in a.2) (answer_reads p.cells j there ∙ sym a.2) in
      subst (TellsDone p.cells) same (record { in_range = a.1; errors = errors_tell (cell_at p.cells c).from (cell_at p.cells c).width a.4 a.3 })

  module _ (plan : Plan) (slots : ℕ) (formed : AreFormed p.cells) (sited : AreSited decls p) (is : IsPlan p plan) (buildable : IsBuildable p) where
    abbrev row : ℕ → ℕ
    row = slice_index plan.rows

    read_of : (c j : ℕ) → c < length p.cells → site_in (cell_at p.cells c).op ≡ Some j → SiteIsRead decls p.cells j (site_at p.sites j)
    read_of c j l e = reads.each j (sited.known c j l e)

    row_is : (c j : ℕ) → c < length p.cells → site_in (cell_at p.cells c).op ≡ Some j → row c ≡ suc (greatest row (cell_at p.cells c).ins)
    row_is c j l e = omega (arith, is.rows.each c l, ap bit (heavy_of_site (cell_at p.cells c).op j e))

    -- a read stands after the rows of all that it takes
    takes_below : (c j : ℕ) → c < length p.cells → site_in (cell_at p.cells c).op ≡ Some j
        → All (λ x. row x < row c) ((site_at p.sites j).key ++ take 1 (drop (pointer_operand (site_at p.sites j).act) (site_at p.sites j).operands))
    takes_below c j l e k d lt =
        let s = site_at p.sites j in
        let xs : List ℕ = s.key ++ take 1 (drop (pointer_operand s.act) s.operands) in
        let ins : List ℕ = (cell_at p.cells c).ins in
        let x : ℕ = get_or xs k d in
        let there = (read_of c j l e).takes c x l e (All-contains_itself xs k d lt) in
        let up = All-contains (λ i. row i ≤ greatest row ins) ins x (greatest_above row ins) there in
        omega (arith, up, row_is c j l e)

    pub reads_planned : ReadsArePlanned (build_of p plan slots)
    reads_planned = record {
      planned = record { formed = formed; rows = is.rows; last = λ c l. omega (arith, row_within p plan is buildable c) };
      sites = sited.known;
      below = λ c j l e.
          let s = site_at p.sites j in
          let P : ℕ → Type 0 = λ x. row x < row c in
          let looks : List ℕ = take 1 (drop (pointer_operand s.act) s.operands) in
          let q = all_split P s.key looks (all_by P (s.key ++ looks) (takes_below c j l e)) in
          (q.0, looked P s.act s.operands q.1);
      together = λ c d j lc ld ec ed.
          row_is c j lc ec ∙ ap (λ ins. suc (greatest row ins)) ((read_of c j lc ec).alike c d lc ld ec ed) ∙ sym (row_is d j ld ed);
      finds = λ c j l e. (read_of c j l (ap site_in e)).finds c l e;
      answers = λ c j l e. (read_of c j l (ap site_in e)).answers c l e;
    }
