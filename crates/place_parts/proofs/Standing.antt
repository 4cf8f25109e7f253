-- What stands before a place is there with what comes from the parts before it.
use Rattle.std.specs.Prelude.{◌++◌}
use Rattle.std.proofs.Common.{ℕ, zero, suc, List, length}
use Rattle.block_core.specs.declared.name.Name.{Name}
use Rattle.overlay_net.specs.cell_nets.declared.operand.Operand.{Operand}
use Rattle.row_net.specs.Table.{AreThere}
use Rattle.row_net.specs.PlaceNet.Place.{registers_from}
use Rattle.row_net.specs.PlaceNet.Sources.{source_operands}
use Rattle.row_net.specs.SitePlace.SitePlace.{pointer_registers}
use Rattle.stage_net.proofs.SiteTable.TableLaws.{plain_there}
use Rattle.stage_net.proofs.ListLaws.{at_hand}
use Rattle.pipe_net.specs.declared.parts.Part.{Part}
use Rattle.pipe_net.specs.Parts as part
use Rattle.pipe_parts.specs.declared.pipe_draft.pipeline_plan.PipelinePlan.{PipelinePlan}
use Rattle.pipe_parts.specs.declared.pipe_draft.places.StageSources.{StageSources}
use Rattle.pipe_parts.specs.PipeDraft.PipelinePlan.{program_in, plan_in, IsPipelinePlan}
use Rattle.pipe_parts.specs.PipeDraft.Places.{AreStageSources}
use Rattle.place_parts.specs.Places.{held_in, held_pointers_in, table_in, pointers_in, StandsBefore}
use Rattle.place_parts.proofs.Available.{IsIn, all_available, in_left, in_right}

-- ---- what comes from other parts before a place: of the first one what is shown of a frame, of each later one the registers of the place before
abbrev pub cell_registers : PipelinePlan → ℕ → List (Operand (Name Part))
cell_registers d k = registers_from (part.place d.sizes k) (program_in d).cells 0 (held_in d k)

abbrev pub those_registers : PipelinePlan → ℕ → List (Operand (Name Part))
those_registers d k = pointer_registers (part.place d.sizes k) d.bits (length (held_in d k)) (held_pointers_in d k)

abbrev pub before_in : PipelinePlan → ℕ → List (Operand (Name Part))
before_in d zero = source_operands (part.sources d.sizes) d.kept.items
before_in d (suc k) = cell_registers d k ++ those_registers d k

module _ (d : PipelinePlan) (is : IsPipelinePlan d) (k : ℕ) (b : StageSources) (behind : AreStageSources d k b) where
  pub stands_later : StandsBefore d (suc k) b
  stands_later = record {
    table = behind.tables.behind.table.table;
    pointers = behind.tables.behind.pointers.pointers;
    hand = at_hand (part.place d.sizes k) (program_in d) (plan_in d) d.needed.items d.parts.items d.points.items d.bits k b.tables is.ready.formed is.ready.planned is.needed.count is.points.pointing.count behind.tables;
    sites = behind.sites;
  }

  module _ (ins : List (Operand (Name Part))) (more : IsIn (before_in d (suc k)) ins) where
    pub cells_there : AreThere ins (table_in b)
    cells_there =
        behind.tables.behind.table.there ins (behind.tables.are_constants.there ins) (all_available (cell_registers d k) ins (λ a c. more a (in_left (cell_registers d k) (those_registers d k) a c)))

    pub pointers_there : AreThere ins (pointers_in b)
    pointers_there =
        behind.tables.behind.pointers.there ins (plain_there ins d.points.items) (all_available (those_registers d k) ins (λ a c. more a (in_right (cell_registers d k) (those_registers d k) a c)))
