-- The pointers of a packet that takes in a row, and where tables change.
use Rattle.std.specs.Prelude.{◌≡◌, ◌≢◌, ℕ, suc, ◌<◌, ◌≤◌, ◌⊎◌, None, All, length}
use Rattle.std.proofs.Common.{get_or, inl, inr, refl, sym, ap, ◌∙◌, subst, arith}
use Rattle.std.proofs.lemmas.Bool.{cases_lt}
use Rattle.hazard_core.specs.xdp_machine.State.{PacketIn}
use Rattle.hazard_core.specs.cell_core.declared.operator.Operator.{Operator}
use Rattle.hazard_core.specs.cell_core.declared.operator.Operator.TheVariants.{Wire, Phi, Found}
use Rattle.hazard_core.specs.cell_core.Cells.{CellView, cell_at, site_in}
use Rattle.hazard_core.specs.cell_core.Formed.{takes}
use Rattle.hazard_core.specs.cell_core.Rows.{RowsRise}
use Rattle.hazard_core.specs.cell_core.Sites.{ProgramView}
use Rattle.hazard_core.specs.Tables.{TableState}
use Rattle.hazard_core.specs.StageValues.{StageValues, pointer_in}
use Rattle.hazard_core.specs.Keeping.{SameCell}
use Rattle.hazard_core.specs.Rows.{cell_pointer, with_row}
use Rattle.hazard_core.specs.HeldRows.Made.{AreLaid, RowIsMade, RowKeeps}
use Rattle.hazard_core.specs.TableLaws.Counts.{HaveSameSlots}
use Rattle.hazard_core.specs.TableLaws.Leading.{FoundsLead, RowsLead, ChangesLead}
use Rattle.hazard_core.proofs.HeldLaws.{phi_same}
use Rattle.pipe_core.specs.Machine.{Build}
use Rattle.pipe_core.specs.Computed.{IsPlanned}
use Rattle.pipe_net.specs.PipePlaces.Entries.{HasPointers}

-- ---- what is no read has a pointer by its inputs alone

passed_same : (p : ProgramView) (row : ℕ → ℕ) (r : ℕ) (t : TableState) (h g : StageValues) (c : CellView) (op : Operator) → site_in op ≡ None → takes op ≤ length c.ins → All (λ i. SameCell h g i) c.ins
    → cell_pointer p row r t h c op ≡ cell_pointer p row r t g c op
passed_same p row r t h g c (Found j) none enough same = absurd (cc)
passed_same p row r t h g c Wire none enough same = (same 0 0 (omega (arith, enough))).pointer
passed_same p row r t h g c Phi none enough same = phi_same h g c.ins same
passed_same p row r t h g c op none enough same = refl

-- whatever the tables hold
passed_of_tables : (p : ProgramView) (row : ℕ → ℕ) (r : ℕ) (t u : TableState) (h : StageValues) (c : CellView) (op : Operator) → site_in op ≡ None → cell_pointer p row r t h c op ≡ cell_pointer p row r u h c op
passed_of_tables p row r t u h c (Found j) none = absurd (cc)
passed_of_tables p row r t u h c op none = refl

-- Where tables change that keep their slots the packet has such pointers as before.
pub pointers_stay : ChangesLead → (b : Build) (r : ℕ) (t u : TableState) (h : StageValues) → HaveSameSlots t u → HasPointers b t r h → HasPointers b u r h
pointers_stay changes b r t u h same had = record {
  founds = changes b.program t u h same had.founds;
  others = λ c lt low none. had.others c lt low none ∙ passed_of_tables b.program b.plan.row (b.plan.row c) t u h (cell_at b.program.cells c) (cell_at b.program.cells c).op none;
}

-- the laws of the crates below
pub record RowPointers : Type 0 where
  pub rise : RowsRise
  pub made : RowIsMade
  pub keeps : RowKeeps
  pub founds : RowsLead

module _ (laws : RowPointers) (b : Build) (planned : IsPlanned b) (laid : AreLaid b.program b.plan.row) (k : ℕ) (t : TableState) (packet : PacketIn) (before : StageValues) (values : length before.values ≡ length b.program.cells) (had : HasPointers b t k before) where
  abbrev p : ProgramView
  p = b.program

  abbrev row : ℕ → ℕ
  row = b.plan.row

  abbrev after : StageValues
  after = with_row p row k t packet before

  -- cells of earlier rows, and what they take
  alike : (c : ℕ) → row c < k → SameCell before after c
  alike c lt = laws.keeps p row k t packet before c (inl (λ same. omega (arith, lt, same)))

  earlier : (c : ℕ) → c < length p.cells → row c < k → site_in (cell_at p.cells c).op ≡ None → pointer_in after c ≡ cell_pointer p row (row c) t after (cell_at p.cells c) (cell_at p.cells c).op
  earlier c lt low none =
      let d = cell_at p.cells c in
      sym (alike c low).pointer ∙ had.others c lt low none
      ∙ passed_same p row (row c) t before after d d.op none (planned.formed.each c lt).enough
      (λ i y l. let up = laws.rise p.cells row planned.rows c lt i y l in alike (get_or d.ins i y) (omega (arith, up, low)))

  -- those of the row
  own : (c : ℕ) → c < length p.cells → row c ≡ k → pointer_in after c ≡ cell_pointer p row (row c) t after (cell_at p.cells c) (cell_at p.cells c).op
  own c lt here =
      ((laws.made p row k t packet before laid values had.founds.count).each c lt here).pointer
      ∙ ap (λ r. cell_pointer p row r t after (cell_at p.cells c) (cell_at p.cells c).op) (sym here)

  pub row_pointers : HasPointers b t (suc k) after
  row_pointers = record {
    founds = laws.founds p row k t packet before had.founds;
    others = λ c lt low none. elim (cases_lt (row c) k) [
      | inl less ↦ earlier c lt less none
      | inr most ↦ own c lt (omega (arith, low, most))
    ];
  }
