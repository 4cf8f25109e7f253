-- How the cells of a program stand in the places of a pipeline: by which lists, and by which tables.
use Rattle.std.specs.Prelude.{◌≡◌, ℕ, suc, ◌^◌, ◌<◌, ◌≤◌, Bool, All, List, length, slice_index, filter, map as map_list, Contains}
use Rattle.block_core.specs.declared.name.Name.{Name}
use Rattle.hazard_core.specs.cell_core.declared.program.FrameByte.{FrameByte}
use Rattle.hazard_core.specs.cell_core.Rows.{numbers}
use Rattle.hazard_core.specs.cell_core.Sites.{ProgramView, site_at}
use Rattle.hazard_core.specs.Tables.{decl_of}
use Rattle.read_net.specs.overlay_net.ValueNet.Words.{answers_number}
use Rattle.pipe_core.specs.row_plan.Plan.{Plan, IsPlan}
use Rattle.stage_net.specs.row_net.Lists.{made_cells}
use Rattle.stage_net.specs.row_net.Needed.{AreNeeded}
use Rattle.stage_net.specs.row_net.Table.{Stands, AreConstants}
use Rattle.pipe_core.specs.Computed.{IsPlanned}
use Rattle.stage_net.specs.row_net.declared.place_net.outputs.AnswerByte.{AnswerByte}
use Rattle.stage_net.specs.row_net.PlaceNet.Sources.{IsSource}
use Rattle.stage_net.specs.declared.site_table.tables.StageTables.{StageTables}
use Rattle.stage_net.specs.SiteTable.Constants.{AreEarly}
use Rattle.stage_net.specs.SiteTable.Lists.{held_cells, held_pointers, made_pointers}
use Rattle.stage_net.specs.SiteTable.Parts.{AreParts}
use Rattle.stage_net.specs.SiteTable.Pointing.{AreFlagged, plain_of}
use Rattle.stage_net.specs.SiteTable.Tables.{StandBehind}
use Rattle.stage_net.specs.Staged.{IsStaged}
use Rattle.pipe_net.specs.declared.parts.Part.{Part}
use Rattle.pipe_net.specs.Parts as part
use Rattle.pipe_net.specs.Layout.{Layout, program_of, cells_of, last_of, commit_of, HasAnswer}
use Rattle.pipe_net.specs.Relation.{most_slots}

-- the sites that read a word under their pointer
abbrev pub load_sites : ProgramView → List ℕ
load_sites p = filter (λ j. answers_number (site_at p.sites j).act) (numbers 0 (length p.sites))

-- Of a place the lists are those of a plan.
pub record AreListsAt (l : Layout) (plan : Plan) (needed parts : List Bool) (k : ℕ) : Type 0 where
  pub made : l.made k ≡ made_cells (program_of l) plan needed k
  pub held : l.held k ≡ held_cells (program_of l) plan needed parts k
  pub made_pointers : l.made_pointers k ≡ made_pointers (program_of l) plan needed l.flags k
  pub held_pointers : l.held_pointers k ≡ held_pointers (program_of l) plan needed parts l.flags k

-- What stands after it for cells and for pointers are its registers, numbers, and no pointers where cells have none.
pub record AreTablesBehind (l : Layout) (plan : Plan) (needed parts : List Bool) (k : ℕ) : Type 0 where
  pub tables : StageTables (Name Part)
  pub stand : StandBehind (part.place l.sizes k) (program_of l) plan needed parts l.flags l.bits k tables
  pub table : l.table (suc k) ≡ tables.table.items
  pub pointers : l.pointers (suc k) ≡ tables.pointers.items

-- a byte of an answer and the operand that stands for it after the last place
pub record IsChanged (l : Layout) (x : AnswerByte (Name Part)) : Type 0 where
  pub byte : FrameByte
  pub changed : Contains (program_of l).frame byte
  pub at : byte.at ≡ x.at
  pub stands : Stands (l.table (suc (last_of l))) byte.cell x.operand

-- slots of a map have numbers of so many bits, and there are no more than a pointer may be to
pub record HasRoom (l : Layout) (m : ℕ) : Type 0 where
  pub bits : (decl_of l.decls m).cap ≤ 2 ^ l.slot_bits m
  pub most : (decl_of l.decls m).cap ≤ most_slots

-- The program's rows are those of a plan, and all places are laid out by it. Before the first one stand numbers, and no pointers where cells have none; after the last one stands
-- the answer.
pub record IsLaidOut (l : Layout) : Type 0 where
  pub plan : Plan
  pub needed : List Bool
  pub parts : List Bool
  pub is_plan : IsPlan (program_of l) plan
  pub row : l.build.plan.row ≡ slice_index plan.rows
  pub commit : commit_of l ≡ plan.commit
  pub last : last_of l ≡ plan.last
  pub are_needed : AreNeeded (program_of l) needed
  pub are_parts : AreParts (program_of l) parts
  pub flagged : AreFlagged (cells_of l) l.flags
  pub planned : IsPlanned l.build
  pub staged : IsStaged (program_of l) l.build.plan.row l.decls l.bits
  pub early : AreEarly (program_of l) l.build.plan.row
  pub loads : l.sizes.loads ≡ length (load_sites (program_of l))
  pub room : (m : ℕ) → m < length l.decls → HasRoom l m
  pub sources : All (IsSource l.kept (cells_of l)) l.sources
  pub constants : AreConstants (cells_of l) l.constants
  pub plain : l.pointers 0 ≡ map_list plain_of l.flags
  pub lists : (k : ℕ) → AreListsAt l plan needed parts k
  pub behind : (k : ℕ) → k ≤ last_of l → AreTablesBehind l plan needed parts k
  pub has_answer : HasAnswer l.build
  pub verdict : Stands (l.table (suc (last_of l))) (program_of l).verdict l.answer.verdict
  pub target : Stands (l.table (suc (last_of l))) (program_of l).target l.answer.target
  pub bytes : All (IsChanged l) l.answer.bytes.items
