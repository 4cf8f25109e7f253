-- How the cells of a program are laid out over the places of a pipeline, and the nets that its parts read of others.
use Rattle.std.specs.Prelude.{◌≡◌, ◌≢◌, ℕ, suc, ◌<◌, ◌≤◌, Bool, Option, All, List, length, map, Contains}
use Rattle.std.proofs.Common.{get_or}
use Rattle.hazard_core.specs.xdp_maps.declared.decl.MapDecl.{MapDecl}
use Rattle.block_core.specs.declared.name.Name.{Name}
use Rattle.hazard_core.specs.cell_core.declared.program.FrameByte.{FrameByte}
use Rattle.hazard_core.specs.cell_core.Cells.{CellView, cell_at}
use Rattle.hazard_core.specs.cell_core.Sites.{ProgramView}
use Rattle.turn_net.specs.cell_nets.declared.operand.Operand.{Operand}
use Rattle.pipe_core.specs.Machine.{Build}
use Rattle.control_net.specs.declared.ring_net.shape.ControlShape.{ControlShape}
use Rattle.commit_net.specs.frame_net.declared.held.Kept.{Kept}
use Rattle.stage_net.specs.row_net.declared.place_net.outputs.Outputs.{Outputs}
use Rattle.turn_net.specs.declared.nets.RecordNets.{RecordNets}
use Rattle.turn_net.specs.declared.nets.ActionShape.{ActionShape}
use Rattle.pipe_net.specs.declared.parts.Part.{Part}
use Rattle.pipe_net.specs.declared.parts.Sizes.{Sizes}
use Rattle.pipe_net.specs.Parts.{IsSmall}

abbrev pub Table : Type 0
Table = List (Option (Operand (Name Part)))

-- What stands for a change of a map in a clock: the slot that is written, the words of the key that stands there, whether the key comes or goes; whether there is a change, and
-- whether it is the host's.
pub record ChangeView : Type 0 where
  pub slot : Operand (Name Part)
  pub key : List (Operand (Name Part))
  pub presence : Operand (Name Part)
  pub any : Name Part
  pub by_host : Name Part

-- A program with its rows and the declarations of its maps; how many parts of each sort there are; the sizes of control and of what says which operation commits; how many bits the numbers of
-- pointers have, and those of the slots of each map. Which cells may have pointers, what is kept of frames, and which cells come with them. Of each place the cells that are made there, those that it holds, the pointers that
-- it makes and holds, and what stands for cells and for their pointers before it. What stands for the answer after the last place, and the words of a frame that it may change.
-- Of each place up to the commit place the net that says whether its packet must reload; what stands for the operations that may write; whether packets stay where they are; and of each map
-- what stands for its change.
pub record Layout : Type 0 where
  pub build : Build
  pub decls : List MapDecl
  pub sizes : Sizes
  pub shape : ControlShape
  pub action_shape : ActionShape
  pub bits : ℕ
  pub slot_bits : ℕ → ℕ
  pub flags : List Bool
  pub kept : List Kept
  pub sources : List ℕ
  pub constants : Table
  pub made : ℕ → List ℕ
  pub held : ℕ → List ℕ
  pub made_pointers : ℕ → List ℕ
  pub held_pointers : ℕ → List ℕ
  pub table : ℕ → Table
  pub pointers : ℕ → Table
  pub answer : Outputs (Name Part)
  pub words : List ℕ
  pub reload : List (Name Part)
  pub records : List (RecordNets (Name Part))
  pub stays : Name Part
  pub changes : ℕ → ChangeView

abbrev pub program_of : Layout → ProgramView
program_of l = l.build.program

abbrev pub cells_of : Layout → List CellView
cells_of l = l.build.program.cells

abbrev pub last_of : Layout → ℕ
last_of l = l.build.plan.last

abbrev pub commit_of : Layout → ℕ
commit_of l = l.build.plan.commit

-- a cell of a row up to this one
pub record IsBy (b : Build) (at k : ℕ) : Type 0 where
  pub cell : k < length b.program.cells
  pub row : b.plan.row k < suc at

-- What a program answers has the widths of an answer, and is there in the last row; no byte is changed twice.
pub record HasAnswer (b : Build) : Type 0 where
  pub verdict : IsBy b b.plan.last b.program.verdict
  pub verdict_width : (cell_at b.program.cells b.program.verdict).width ≤ 32
  pub target : IsBy b b.plan.last b.program.target
  pub target_width : (cell_at b.program.cells b.program.target).width ≤ 32
  pub byte : (x : FrameByte) → Contains b.program.frame x → IsBy b b.plan.last x.cell
  pub byte_width : (x : FrameByte) → Contains b.program.frame x → (cell_at b.program.cells x.cell).width ≤ 8
  pub once : (i j : ℕ) (d : FrameByte) → i < j → j < length b.program.frame → (get_or b.program.frame i d).at ≢ (get_or b.program.frame j d).at

-- The sizes are those of the program and its plan.
pub record IsSized (l : Layout) : Type 0 where
  pub small : IsSmall l.sizes
  pub commit : l.sizes.commit ≡ commit_of l
  pub last : l.sizes.last ≡ last_of l
  pub maps : l.sizes.maps ≡ length l.decls
  pub slots : l.shape.slots ≡ l.build.slots
  pub stages : l.shape.stages ≡ last_of l
  pub commits : l.shape.commit ≡ commit_of l
