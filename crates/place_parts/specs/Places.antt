-- The blocks of places.
use Rattle.std.specs.Prelude.{◌≡◌, ℕ, suc, Bool, false, Option, Contains, List, [], slice_index}
use Rattle.std.proofs.Common.{get_or}
use Rattle.block_core.specs.net_core.Value.{Env}
use Rattle.block_core.specs.ProductBlocks.Alone.{IsApartAlone}
use Rattle.block_core.specs.declared.name.Name.{Name}
use Rattle.block_core.specs.Blocks.{BlockTree, BlockWireTree}
use Rattle.block_core.specs.Parts.{Solve}
use Rattle.overlay_net.specs.cell_nets.declared.operand.Operand.{Operand}
use Rattle.overlay_net.specs.cell_nets.declared.operand.Operand.TheVariants.{Net}
use Rattle.overlay_net.specs.cell_nets.Wires.{behind}
use Rattle.row_net.specs.Apart.{TakeClean, KeepApart}
use Rattle.row_net.specs.Lists.{made_cells}
use Rattle.row_net.specs.Table.{IsTable}
use Rattle.row_net.specs.PlaceNet.Sources.{IsSourced}
use Rattle.row_net.specs.SitePlace.Pointing.{IsPointers}
use Rattle.row_net.specs.SitePlace.PointerNets.{BothThere}
use Rattle.stage_net.specs.SiteTable.Lists.{held_cells, held_pointers, made_pointers}
use Rattle.stage_net.specs.SiteTable.Staged.{AreAtHand}
use Rattle.read_net.specs.declared.sites.MapNets.{MapNets}
use Rattle.stage_net.specs.declared.row.StageNets.{StageNets}
use Rattle.stage_net.specs.Nets.{NetsAreThere}
use Rattle.stage_net.specs.Rows.{IsReadHere, IsHad, IsPointerHad}
use Rattle.stage_net.specs.Stage.{IsStage}
use Rattle.control_net.specs.Names.{wire_name}
use Rattle.control_net.specs.declared.names.Wire.TheVariants.{Advances}
use Rattle.pipe_net.specs.declared.parts.Part.{Part}
use Rattle.pipe_net.specs.declared.parts.Sizes.{Sizes}
use Rattle.pipe_net.specs.Parts as part
use Rattle.pipe_parts.specs.declared.pipe_draft.pipeline_plan.PipelinePlan.{PipelinePlan}
use Rattle.pipe_parts.specs.declared.pipe_draft.places.StageSources.{StageSources}
use Rattle.pipe_parts.specs.PipeDraft.PipelinePlan.{program_in, plan_in}
use Rattle.pipe_parts.specs.PipeDraft.Places.{AreSitesOf}
use Rattle.place_parts.specs.declared.lists.PlaceLists.{PlaceLists}

-- ---- lists and tables
-- whether packets move on
abbrev pub advances_by : Sizes → Name Part
advances_by z = wire_name (part.control z) Advances

abbrev pub row_in : PipelinePlan → ℕ → ℕ
row_in d = slice_index (plan_in d).rows

abbrev pub made_in : PipelinePlan → ℕ → List ℕ
made_in d k = made_cells (program_in d) (plan_in d) d.needed.items k

abbrev pub held_in : PipelinePlan → ℕ → List ℕ
held_in d k = held_cells (program_in d) (plan_in d) d.needed.items d.parts.items k

abbrev pub made_pointers_in : PipelinePlan → ℕ → List ℕ
made_pointers_in d k = made_pointers (program_in d) (plan_in d) d.needed.items d.points.items k

abbrev pub held_pointers_in : PipelinePlan → ℕ → List ℕ
held_pointers_in d k = held_pointers (program_in d) (plan_in d) d.needed.items d.parts.items d.points.items k

abbrev pub table_in : StageSources → List (Option (Operand (Name Part)))
table_in b = b.tables.table.items

abbrev pub pointers_in : StageSources → List (Option (Operand (Name Part)))
pointers_in b = b.tables.pointers.items

-- the lists of a place
pub record AreListsOf (d : PipelinePlan) (k : ℕ) (r : PlaceLists) : Type 0 where
  pub made : r.made.items ≡ made_in d k
  pub held : r.held.items ≡ held_in d k
  pub made_pointers : r.made_pointers.items ≡ made_pointers_in d k
  pub held_pointers : r.held_pointers.items ≡ held_pointers_in d k

-- What stands before the place of row k: tables that have what the place takes, and the operands of all sites by them.
pub record StandsBefore (d : PipelinePlan) (k : ℕ) (b : StageSources) : Type 0 where
  pub table : IsTable (program_in d).cells (table_in b)
  pub pointers : IsPointers (program_in d).cells d.bits (pointers_in b)
  pub hand : AreAtHand (program_in d) (plan_in d) d.needed.items d.parts.items d.points.items k (IsHad (program_in d) (row_in d) k (table_in b)) (IsPointerHad (program_in d) (row_in d) k (pointers_in b))
  pub sites : AreSitesOf d b.tables b.sites.items

-- ---- the block of a place
-- The place of row k, after wires that it has, over what stands before it, maps, and words of sites: whatever comes from outside, it is the place of a row that reads maps, and
-- where products were apart they are.
pub record IsStageOf (d : PipelinePlan) (before : StageSources) (maps : List (MapNets (Name Part))) (words : List (Operand (Name Part))) (ws : List (BlockWireTree (Name Part))) (k : ℕ) (b : BlockTree (Name Part)) : Type 0 where
  pub nets : StageNets (Name Part)
  pub bits_are : nets.bits ≡ d.bits
  pub sites_are : nets.sites.now ≡ before.sites.items
  pub maps_are : nets.maps.now ≡ maps
  pub words_are : nets.words.now ≡ words
  pub block :
      (outside : List (Operand (Name Part))) → Contains outside (Net (advances_by d.sizes) 1) → BothThere (part.place d.sizes k) outside ws (table_in before) (pointers_in before) → NetsAreThere (behind (part.place d.sizes k) outside ws) nets
      → IsStage (part.place d.sizes k) (program_in d) (row_in d) k nets (made_in d k) (held_in d k) (made_pointers_in d k) (held_pointers_in d k) outside (table_in before) (pointers_in before) (advances_by d.sizes) b
  pub begun : (v : Env (Name Part)) → Solve v (part.place d.sizes k) 0 b.wires → Solve v (part.place d.sizes k) 0 ws
  pub apart :
      (clean : ℕ → Bool) (marks : List Bool) → TakeClean clean (program_in d).cells (made_in d k) → ((c : ℕ) → IsReadHere (program_in d) (row_in d) k c → clean c ≡ false) → KeepApart (part.place d.sizes k) clean marks ws (table_in before)
      → IsApartAlone (part.place d.sizes k) b

-- a later place, over what stands after the place before
abbrev pub IsLaterStage : PipelinePlan → List StageSources → List (MapNets (Name Part)) → List (Operand (Name Part)) → ℕ → BlockTree (Name Part) → Type 0
IsLaterStage d places maps words before b = (x : StageSources) → IsStageOf d (get_or places before x) maps words [] (suc before) b

-- What stands before the first place, after wires of its own for the cells that come with a packet: these beside numbers, and no pointers where cells have none.
pub record IsArriving (d : PipelinePlan) (ws : List (BlockWireTree (Name Part))) (b : StageSources) : Type 0 where
  pub pointers : pointers_in b ≡ d.plain.items
  pub sourced : IsSourced (part.place d.sizes 0) (part.sources d.sizes) d.kept.items (program_in d).cells d.sources.items [] ws d.constants.items (table_in b)
  pub sites : AreSitesOf d b.tables b.sites.items

-- the first place
pub record IsFirstPlace (d : PipelinePlan) (maps : List (MapNets (Name Part))) (words : List (Operand (Name Part))) (table : List (Option (Operand (Name Part)))) (b : BlockTree (Name Part)) : Type 0 where
  pub wires : List (BlockWireTree (Name Part))
  pub before : StageSources
  pub arriving : IsArriving d wires before
  pub table_is : table_in before ≡ table
  pub stage : IsStageOf d before maps words wires 0 b
