-- The answer of a program stands in the table after the last place.
use Rattle.std.specs.Prelude.{Contains}
use Rattle.std.proofs.Common.{◌≡◌, ◌∙◌, ◌⊎◌, inl, inr, ℕ, suc, ◌<◌, ◌≤◌, true, All, List, ◌∷◌, length, map as map_list, get_or, refl, sym, ap, arith, slice_index}
use Rattle.std.proofs.lemmas.List.{get_or_default}
use Rattle.std.proofs.lemmas.List.Elements.{All-cons, All-map, All-weaker, All-contains, Contains-get_or}
use Rattle.block_core.specs.declared.name.Name.{Name}
use Rattle.hazard_core.specs.cell_core.declared.program.FrameByte.{FrameByte}
use Rattle.hazard_core.specs.cell_core.Cells.{cell_at}
use Rattle.hazard_core.specs.cell_core.Sites.{ProgramView}
use Rattle.overlay_net.specs.cell_nets.Operands.{IsOperand}
use Rattle.row_plan.specs.Plan.{Plan, answer_cells}
use Rattle.row_net.specs.Table.{IsIn, IsTable, is_constant}
use Rattle.row_net.specs.declared.place_net.outputs.Outputs.{Outputs}
use Rattle.row_net.specs.PlaceNet.Exit.{byte_operand, output_operands}
use Rattle.stage_net.specs.SiteTable.Lists.{held_cells}
use Rattle.stage_net.specs.SiteTable.Staged.{AreStaged}
use Rattle.stage_net.specs.SiteTable.Tables.{StandBehind}
use Rattle.pipe_net.specs.declared.parts.Part.{Part}
use Rattle.pipe_net.specs.Parts as part
use Rattle.pipe_net.specs.Layout.{Table, IsBy}
use Rattle.pipe_parts.specs.declared.pipe_draft.pipeline_plan.PipelinePlan.{PipelinePlan}
use Rattle.pipe_parts.specs.declared.pipe_draft.places.StageSources.{StageSources}
use Rattle.pipe_parts.specs.PipeDraft.Program.{build_of}
use Rattle.pipe_parts.specs.PipeDraft.PipelinePlan.{program_in, plan_in, IsPipelinePlan}
use Rattle.pipe_parts.specs.PipeDraft.Places.{ArePlaces}
use Rattle.pipe_design.specs.Answer.{IsByteIn, AreOutputs}
use Rattle.pipe_design.proofs.Answering.{mapped_in}

pub in_window : (d : PipelinePlan) → IsPipelinePlan d → All (λ x. x.at < 256) (program_in d).frame
in_window d is i e lt = is.ready.changed (get_or (program_in d).frame i e) (Contains-get_or (program_in d).frame i e lt)

module _ (d : PipelinePlan) (is : IsPipelinePlan d) (places : List StageSources) (stand : ArePlaces d places) (staged : AreStaged (program_in d) (plan_in d) d.needed.items d.parts.items d.points.items) (b : StageSources) where
  abbrev p : ProgramView
  p = program_in d

  abbrev plan : Plan
  plan = plan_in d

  abbrev held : List ℕ
  held = held_cells p plan d.needed.items d.parts.items plan.last

  abbrev table : Table
  table = (get_or places plan.last b).tables.table.items

  last : StandBehind (part.place d.sizes plan.last) p plan d.needed.items d.parts.items d.points.items d.bits plan.last (get_or places plan.last b).tables
  last = (stand.each plan.last b (omega arith)).tables

  stands : (k : ℕ) → k < length p.cells → (is_constant (cell_at p.cells k) ≡ true) ⊎ Contains held k → IsIn table k
  stands k lt (inl e) = last.behind.table.grows k (last.are_constants.known k lt e)
  stands k lt (inr c) = All-contains (IsIn table) held k last.behind.table.taken c

  reached : (k : ℕ) → IsBy (build_of p plan) plan.last k → Contains (answer_cells p) k → IsIn table k
  reached k by c = stands k by.cell (staged.answer k by.cell c (omega (arith, by.row)))

  pub verdict_in : IsIn table p.verdict
  verdict_in = reached p.verdict is.ready.answer.verdict (0, omega arith, refl)

  pub target_in : IsIn table p.target
  target_in = reached p.target is.ready.answer.target (1, omega arith, refl)

  byte_in : (x : FrameByte) → Contains p.frame x → Contains (answer_cells p) x.cell
  byte_in x c = let m = mapped_in (λ b. b.cell) p.frame x c in (suc (suc m.0), omega (arith, m.1), m.2)

  pub bytes_in : All (λ x. IsIn table x.cell) p.frame
  bytes_in i e lt =
      let x = get_or p.frame i e in
      let c = Contains-get_or p.frame i e lt in
      reached x.cell (is.ready.answer.byte x c) (byte_in x c)

  -- what stands for the answer are operands
  pub all_operands : (o : Outputs (Name Part)) → AreOutputs p table o → All IsOperand (output_operands o)
  all_operands o h =
      let ok : IsTable p.cells table = last.behind.table.table in
      All-cons IsOperand o.verdict (o.target ∷ map_list byte_operand o.bytes.items) (ok.operand p.verdict o.verdict h.verdict)
      (All-cons IsOperand o.target (map_list byte_operand o.bytes.items) (ok.operand p.target o.target h.target)
      (All-map IsOperand byte_operand o.bytes.items (All-weaker (IsByteIn table p.frame) (λ x. IsOperand (byte_operand x)) (λ x c. ok.operand c.byte.cell x.operand c.stands) o.bytes.items h.bytes)))

-- ---- the table that is read is that of the last place
pub last_table : (d : PipelinePlan) (places : List StageSources) → ArePlaces d places → (n : ℕ) (x b : StageSources) (t : Table) → n ≡ (plan_in d).last → x ≡ get_or places n x → t ≡ x.tables.table.items → (get_or places (plan_in d).last b).tables.table.items ≡ t
last_table d places stand n x b t e is h =
    ap (λ (y : StageSources). y.tables.table.items) (get_or_default places (plan_in d).last b x (omega (arith, stand.count)) ∙ ap (λ k. get_or places k x) (sym e) ∙ sym is) ∙ sym h
