-- What the pipe asks of a program and its plan.
use Rattle.std.specs.Prelude.{◌≡◌, ℕ, suc, ◌<◌, ◌≤◌, ◌==◌, nat_lt, true, not, Some, None, List, [], ◌∷◌, length}
use Rattle.std.specs.List.{AllByRecursion, list_all}
use Rattle.std.specs.Int.{w64, cast_unsigned}
use Rattle.hazard_core.specs.xdp_maps.declared.decl.MapDecl.{MapDecl}
use Rattle.hazard_core.specs.xdp_maps.declared.errno.TheConstants.{ENOENT, E2BIG, EEXIST, EINVAL}
use Rattle.hazard_core.specs.xdp_machine.State.{PacketIn}
use Rattle.hazard_core.specs.cell_core.Cells.{CellView, cell_at, site_in, bits_from}
use Rattle.hazard_core.specs.cell_core.Sites.{site_at, records}
use Rattle.hazard_core.specs.cell_core.Formed.{AllFit, AreSited}
use Rattle.hazard_core.specs.cell_core.Rows.{taken_by}
use Rattle.hazard_core.specs.Tables.{TableState, decl_of}
use Rattle.hazard_core.specs.StageValues.{StageValues, guard_on, found_cell, answer_cell, parts}
use Rattle.hazard_core.specs.Replay.{IsAccess, is_access, asks, says_done}
use Rattle.pipe_core.specs.Machine.{Build}
use Rattle.pipe_core.specs.Agreement.{ReadsArePlanned, ReadsFit, IsMade}

-- The reads of all sites, and all that sites take, stand up to the commit place, and that is no place past the last.
pub record IsPipeable (b : Build) : Type 0 where
  pub reads : ReadsArePlanned b
  pub read_rows : (c j : ℕ) → c < length b.program.cells → site_in (cell_at b.program.cells c).op ≡ Some j → b.plan.row c ≤ b.plan.commit
  pub site_rows : (j : ℕ) → j < length b.program.sites → AllByRecursion (λ c. b.plan.row c ≤ b.plan.commit) (taken_by (site_at b.program.sites j))
  pub commit : b.plan.commit ≤ b.plan.last

-- The cells of a packet up to the commit place that are no reads are their operators' on what it holds, whatever its reads hold.
abbrev pub IsOwn : Build → TableState → PacketIn → StageValues → Type 0
IsOwn b t packet h = (c : ℕ) → c < length b.program.cells → b.plan.row c ≤ b.plan.commit → site_in (cell_at b.program.cells c).op ≡ None → IsMade b t packet h c

-- What it holds of reads up to the commit place fits their cells.
abbrev pub FitsReads : Build → StageValues → Type 0
FitsReads b h = ReadsFit b (suc b.plan.commit) h

-- A cell says by 0 alone that an operation was done: what it keeps of an error is not 0.
pub record TellsDone (cells : List CellView) (c : ℕ) : Type 0 where
  pub in_range : c < length cells
  pub errors : list_all (λ e. not (bits_from (cast_unsigned w64 e) (cell_at cells c).from (cell_at cells c).width == 0)) (EINVAL ∷ EEXIST ∷ ENOENT ∷ E2BIG ∷ []) ≡ true

-- What the pipe asks of a program with these maps and of its plan. Each site that asks for a key has a cell that says whether it is there,
-- and each that may fail one that says whether it was done. Reads stand in the order of their sites. Of two sites on one path the reads of the
-- later have after them an operation of the earlier that may write their map. An access goes through what a lookup of its key found.
pub record IsPipelinable (decls : List MapDecl) (b : Build) : Type 0 where
  pub rows : IsPipeable b
  pub fits : AllFit decls b.program.sites
  pub sited : AreSited decls b.program
  pub ordered : (c d i j : ℕ) → c < length b.program.cells → d < length b.program.cells → site_in (cell_at b.program.cells d).op ≡ Some i → site_in (cell_at b.program.cells c).op ≡ Some j → i < j → d < c
  pub found : (j : ℕ) → j < length b.program.sites → asks (site_at b.program.sites j).act (decl_of decls (site_at b.program.sites j).map).kind ≡ true → found_cell b.program.cells j < length b.program.cells
  pub tells : (j : ℕ) → j < length b.program.sites → says_done (site_at b.program.sites j).act (decl_of decls (site_at b.program.sites j).map).kind ≡ true → TellsDone b.program.cells (answer_cell b.program.cells j)
  pub sees : (t : TableState) (packet : PacketIn) (h : StageValues) → t.decls ≡ decls → IsOwn b t packet h → FitsReads b h → (c j i : ℕ) → c < length b.program.cells → site_in (cell_at b.program.cells c).op ≡ Some j → i < j
      → (site_at b.program.sites i).map ≡ (site_at b.program.sites j).map → records (site_at b.program.sites i).act ≡ true → guard_on h (site_at b.program.sites i) ≡ true → guard_on h (site_at b.program.sites j) ≡ true
      → list_all (λ x. nat_lt (b.plan.row x) (b.plan.row c)) (parts b.program i) ≡ true
  pub accesses : (t : TableState) (packet : PacketIn) (h : StageValues) → t.decls ≡ decls → IsOwn b t packet h → FitsReads b h → (j : ℕ) → j < length b.program.sites → guard_on h (site_at b.program.sites j) ≡ true
      → is_access (site_at b.program.sites j).act ≡ true → IsAccess b.program decls h j
