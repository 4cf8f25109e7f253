-- What stands for cells and for their pointers after a place, and when it shows what a packet holds there.
use Rattle.std.specs.Prelude.{◌≡◌, ℕ, suc, ◌<◌, Bool, Option, List, length, slice_index, map as map_list}
use Rattle.std.proofs.Common.{get_or}
use Rattle.hazard_core.specs.xdp_maps.declared.decl.MapDecl.{MapDecl}
use Rattle.block_core.specs.net_core.declared.tree.Word.{Word}
use Rattle.block_core.specs.net_core.Value.{nothing, Env}
use Rattle.block_core.specs.declared.name.Name.{Name}
use Rattle.block_core.specs.declared.name.Name.TheVariants as name
use Rattle.hazard_core.specs.cell_core.Cells.{CellView}
use Rattle.hazard_core.specs.cell_core.Sites.{ProgramView}
use Rattle.overlay_net.specs.cell_nets.declared.operand.Operand.{Operand}
use Rattle.hazard_core.specs.StageValues.{StageValues, stage_value, pointer_in}
use Rattle.row_plan.specs.Plan.{Plan}
use Rattle.row_net.specs.Table.{AreConstants}
use Rattle.row_net.specs.PlaceNet.Place.{IsTaken}
use Rattle.row_net.specs.SitePlace.SitePlace.{site_words, AreTaken}
use Rattle.hazard_core.specs.HeldRows.Fits.{FitsRows}
use Rattle.stage_net.specs.declared.site_table.tables.StageTables.{StageTables}
use Rattle.stage_net.specs.SiteTable.Constants.{HoldsConstants}
use Rattle.stage_net.specs.SiteTable.Lists.{held_cells, held_pointers}
use Rattle.stage_net.specs.SiteTable.Pointing.{plain_of}

-- The registers of a place stand in the two tables, the first for the cells that it holds and those after them for the pointers; nothing else changes
-- in the tables before.
pub record AreBehind {P : Type 0} (part : P) (cells : List CellView) (bits : ℕ) (held held_pointers : List ℕ) (constants plain : List (Option (Operand (Name P)))) (t : StageTables (Name P)) : Type 0 where
  pub table : IsTaken part cells held constants t.table.items
  pub pointers : AreTaken part cells bits (length held) held_pointers plain t.pointers.items

-- the registers of a part show these words
abbrev pub ShowsWords : {P : Type 0} → Env (Name P) → P → List Word → Type 0
ShowsWords v part words = (i : ℕ) → i < length words → v.net (name.Register part i) ≡ get_or words i nothing

-- the tables after the place of a row, for a program
pub record StandBehind {P : Type 0} (part : P) (p : ProgramView) (plan : Plan) (needed parts points : List Bool) (bits k : ℕ) (t : StageTables (Name P)) : Type 0 where
  pub constants : List (Option (Operand (Name P)))
  pub are_constants : AreConstants p.cells constants
  pub behind : AreBehind part p.cells bits (held_cells p plan needed parts k) (held_pointers p plan needed parts points k) constants (map_list plain_of points) t

-- Its registers show what a packet holds that has the rows so far, and this fits the program.
pub record ShowsPacket {P : Type 0} (v : Env (Name P)) (part : P) (p : ProgramView) (decls : List MapDecl) (plan : Plan) (needed parts points : List Bool) (bits most k : ℕ) (h : StageValues) : Type 0 where
  pub registers : ShowsWords v part (site_words p.cells bits (stage_value h) (pointer_in h) (held_cells p plan needed parts k) (held_pointers p plan needed parts points k))
  pub fits : FitsRows p decls (slice_index plan.rows) points most (suc k) h
  pub constants : HoldsConstants p (slice_index plan.rows) (suc k) h
