-- The layout of a pipeline, by a pipeline plan, what stands after its places, and what its parts show one another.
use Rattle.std.specs.Prelude.{◌≡◌, ℕ, zero, suc, ◌+◌, ◌<◌, ◌≤◌, List, [], length, slice_index, map as map_list}
use Rattle.std.proofs.Common.{get_or}
use Rattle.block_core.specs.declared.name.Name.{Name}
use Rattle.block_core.specs.declared.name.Name.TheVariants as name
use Rattle.overlay_net.specs.cell_nets.declared.operand.Operand.TheVariants.{Known}
use Rattle.control_net.specs.declared.ring_net.shape.ControlShape.{ControlShape}
use Rattle.row_net.specs.Lists.{made_cells}
use Rattle.row_net.specs.declared.place_net.outputs.Outputs.{Outputs}
use Rattle.stage_net.specs.SiteTable.Lists.{held_cells, held_pointers, made_pointers}
use Rattle.commit_net.specs.declared.change_net.change.ChangePart.{ChangePart}
use Rattle.turn_net.specs.declared.nets.RecordNets.{RecordNets}
use Rattle.turn_net.specs.declared.nets.ActionShape.{ActionShape}
use Rattle.pipe_net.specs.declared.parts.Part.{Part}
use Rattle.pipe_net.specs.Layout.{Layout, Table, ChangeView}
use Rattle.pipe_parts.specs.declared.pipe_draft.pipeline_plan.PipelinePlan.{PipelinePlan}
use Rattle.pipe_parts.specs.declared.pipe_draft.places.StageSources.{StageSources}
use Rattle.pipe_parts.specs.PipeDraft.Program.{build_of}
use Rattle.pipe_parts.specs.PipeDraft.PipelinePlan.{program_in, plan_in, decls_in}

-- the sizes of control: a slot for each place and for three frames that come, wait or go
pub record IsShapeOf (d : PipelinePlan) (c : ControlShape) : Type 0 where
  pub slots : c.slots ≡ (plan_in d).last + 4
  pub stages : c.stages ≡ (plan_in d).last
  pub commit : c.commit ≡ (plan_in d).commit
  pub narrow : c.slot_bits ≤ 9

-- Sizes of control and of what says which operation commits; what parts show others: what stands before the first place and after the last one, the nets of packets that
-- must reload, what stands for operations, whether packets stay, and what changes in each map. The words of a frame that may change.
pub record Shown : Type 0 where
  pub shape : ControlShape
  pub action_shape : ActionShape
  pub first : Table
  pub answer : Outputs (Name Part)
  pub words : List ℕ
  pub reload : List (Name Part)
  pub records : List (RecordNets (Name Part))
  pub stays : Name Part
  pub changes : List (ChangePart (Name Part))

-- ---- what stands for a change
abbrev pub view_of : ChangePart (Name Part) → ChangeView
view_of c = record { slot = c.slot; key = c.key.items; presence = c.presence; any = c.any; by_host = c.by_host }

abbrev pub no_change : ChangeView
no_change = record { slot = Known 0; key = []; presence = Known 0; any = name.Port 0; by_host = name.Port 0 }

-- ---- the tables before places, of cells and of pointers
abbrev pub tables_from : Table → List StageSources → ℕ → Table
tables_from first places zero = first
tables_from first places (suc k) = get_or (map_list (λ b. b.tables.table.items) places) k []

abbrev pub pointers_from : Table → List StageSources → ℕ → Table
pointers_from first places zero = first
pointers_from first places (suc k) = get_or (map_list (λ b. b.tables.pointers.items) places) k []

abbrev pub layout : PipelinePlan → List StageSources → Shown → Layout
layout d places s = record {
  build = build_of (program_in d) (plan_in d);
  decls = decls_in d;
  sizes = d.sizes;
  shape = s.shape;
  action_shape = s.action_shape;
  bits = d.bits;
  slot_bits = λ m. get_or (map_list (λ f. f.bits) d.forms.items) m 0;
  flags = d.points.items;
  kept = d.kept.items;
  sources = d.sources.items;
  constants = d.constants.items;
  made = made_cells (program_in d) (plan_in d) d.needed.items;
  held = held_cells (program_in d) (plan_in d) d.needed.items d.parts.items;
  made_pointers = made_pointers (program_in d) (plan_in d) d.needed.items d.points.items;
  held_pointers = held_pointers (program_in d) (plan_in d) d.needed.items d.parts.items d.points.items;
  table = tables_from s.first places;
  pointers = pointers_from d.plain.items places;
  answer = s.answer;
  words = s.words;
  reload = s.reload;
  records = s.records;
  stays = s.stays;
  changes = λ m. get_or (map_list view_of s.changes) m no_change;
}
