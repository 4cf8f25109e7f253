-- What a place makes of a row has the values of its cells, and no divisor is 0.
use Rattle.std.specs.Prelude.{◌≡◌, ℕ, suc, ◌^◌, ◌<◌, false, All, List, length, slice_index}
use Rattle.std.proofs.Common.{get_or, refl, ap, ◌∙◌, arith}
use Rattle.hazard_core.specs.xdp_machine.State.{PacketIn}
use Rattle.hazard_core.specs.cell_core.declared.operator.Operator.{Operator}
use Rattle.hazard_core.specs.cell_core.declared.operator.Operator.TheVariants.{Found, Answer}
use Rattle.hazard_core.specs.cell_core.CellLaws.{HaveValues, DivisorsAreSome}
use Rattle.hazard_core.specs.cell_core.Cells.{cell_at, is_read, bits_from, value}
use Rattle.hazard_core.specs.cell_core.Rows.{RowsRise}
use Rattle.hazard_core.specs.cell_core.Sites.{ProgramView}
use Rattle.turn_net.specs.cell_nets.Computing.{is_outside}
use Rattle.hazard_core.specs.Tables.{TableState}
use Rattle.hazard_core.specs.StageValues.{StageValues, stage_value}
use Rattle.hazard_core.specs.HeldRows.Made.{IsRowMade}
use Rattle.hazard_core.proofs.HeldLaws.{plain_number}
use Rattle.stage_net.specs.row_net.Made.{AreValues}
use Rattle.pipe_core.specs.row_plan.Plan.{Plan}
use Rattle.stage_net.specs.SiteTable.Staged.{IsMadeAt}
use Rattle.stage_net.proofs.ValueLaws.{are_values}
use Rattle.pipe_core.specs.Machine.{Build}
use Rattle.pipe_core.specs.Computed.{Computes, IsPlanned}

-- ---- a cell that is no read is made by its operator

no_read : (op : Operator) → is_outside op ≡ false → is_read op ≡ false
no_read (Found j) e = cc
no_read (Answer j) e = cc
no_read op e = refl

pub made_value : (p : ProgramView) (row : ℕ → ℕ) (r : ℕ) (t : TableState) (packet : PacketIn) (h : StageValues) → IsRowMade p row r t packet h → (c : ℕ) → c < length p.cells → row c ≡ r → is_read (cell_at p.cells c).op ≡ false
    → stage_value h c ≡ value packet (stage_value h) (cell_at p.cells c)
made_value p row r t packet h made c lt here plain =
    (made.each c lt here).value ∙ ap (λ n. bits_from n (cell_at p.cells c).from (cell_at p.cells c).width) (plain_number p row r t packet h (cell_at p.cells c) (cell_at p.cells c).op plain)

-- the laws of cells
pub record CellLaws : Type 0 where
  pub rise : RowsRise
  pub have : HaveValues
  pub some : DivisorsAreSome

-- ---- so are those that a place makes; `own` is the packet by which divisors are known
pub made_values : CellLaws → (b : Build) → IsPlanned b → (k : ℕ) (t : TableState) (packet own : PacketIn) (h : StageValues) → IsRowMade b.program b.plan.row k t packet h → Computes b own (suc k) h → ((n : ℕ) → stage_value h n < 2 ^ (cell_at b.program.cells n).width)
    → (plan : Plan) (ks : List ℕ) → b.plan.row ≡ slice_index plan.rows → All (IsMadeAt b.program plan k) ks → AreValues packet b.program.cells ks (stage_value h)
made_values laws b planned k t packet own h made computes fits plan ks rows all = record {
  each = λ n d lt. made_value b.program b.plan.row k t packet h made (get_or ks n d) (all n d lt).within (here n d lt) (plain n d lt);
  divisors =
      (are_values laws.rise laws.have laws.some b.program.cells b.plan.row planned.formed planned.rows own (suc k) h fits computes.each ks (λ n d lt. (all n d lt).within) (λ n d lt. let e = here n d lt in omega (arith, e)) plain).divisors;
}
  where
    here : (n d : ℕ) → n < length ks → b.plan.row (get_or ks n d) ≡ k
    here n d lt = ap (λ f. f (get_or ks n d)) rows ∙ (all n d lt).row

    plain : (n d : ℕ) → n < length ks → is_read (cell_at b.program.cells (get_or ks n d)).op ≡ false
    plain n d lt = no_read (cell_at b.program.cells (get_or ks n d)).op (all n d lt).computed
