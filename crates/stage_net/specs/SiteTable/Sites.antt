-- What stands for the cells of a site.
use Rattle.std.specs.Prelude.{◌≡◌, ℕ, ◌<◌, Option, Some, None, List, length, slice_index, All, map as map_list}
use Rattle.std.proofs.Common.{get_or, ◌⊎◌}
use Rattle.block_core.specs.net_core.Value.{Env}
use Rattle.hazard_core.specs.cell_core.declared.site.Act.{Act}
use Rattle.hazard_core.specs.cell_core.Sites.{SiteView, ProgramView, site_at}
use Rattle.overlay_net.specs.cell_nets.declared.operand.Operand.{Operand}
use Rattle.overlay_net.specs.cell_nets.declared.operand.Operand.TheVariants.{Known}
use Rattle.overlay_net.specs.cell_nets.Operands.{IsOperand, IsNarrow, IsAvailable}
use Rattle.hazard_core.specs.cell_core.Acts.{pointer_operand}
use Rattle.hazard_core.specs.declared.pointer.Pointer.{Pointer}
use Rattle.hazard_core.specs.declared.pointer.Pointer.TheVariants.{Null}
use Rattle.hazard_core.specs.StageValues.{StageValues, stage_value, pointer_in, found_cell, answer_cell}
use Rattle.overlay_net.specs.SiteOperands.Sites.{SiteOperands, all_of, ShowsAsked, ShowsSite}
use Rattle.row_net.specs.Table.{IsIn, IsTable, AreThere, Holds}
use Rattle.row_net.specs.SitePlace.Pointing.{IsPointers, HoldsPointers}

-- what stands for a cell, 0 where nothing does
abbrev pub or_zero : {N : Type 0} → Option (Operand N) → Operand N
or_zero None = Known 0
or_zero (Some a) = a

abbrev pub operand_at : {N : Type 0} → List (Option (Operand N)) → ℕ → Operand N
operand_at table k = or_zero (get_or table k None)

-- of the pointer that an access goes through
abbrev pub access_operand : {N : Type 0} → List (Option (Operand N)) → Act → List ℕ → Operand N
access_operand pointers a ks = get_or (map_list (operand_at pointers) ks) (pointer_operand a) (Known 0)

abbrev pub site_operands : {N : Type 0} → ProgramView → List (Option (Operand N)) → List (Option (Operand N)) → ℕ → SiteOperands N
site_operands p table pointers j = record {
  guard = operand_at table (site_at p.sites j).guard;
  key = map_list (operand_at table) (site_at p.sites j).key;
  operands = map_list (operand_at table) (site_at p.sites j).operands;
  found = operand_at pointers (found_cell p.cells j);
  answer = operand_at table (answer_cell p.cells j);
  pointer = access_operand pointers (site_at p.sites j).act (site_at p.sites j).operands;
}

-- ---- when they show a packet
-- the table has the cell, or its number is 0
abbrev pub HasValue : {N : Type 0} → List (Option (Operand N)) → (ℕ → ℕ) → ℕ → Type 0
HasValue table val k = IsIn table k ⊎ (val k ≡ 0)

abbrev pub HasPointer : {N : Type 0} → List (Option (Operand N)) → (ℕ → Pointer) → ℕ → Type 0
HasPointer pointers at k = IsIn pointers k ⊎ (at k ≡ Null)

-- of what a site asks, and of all its cells
pub record HasAsked {N : Type 0} (table pointers : List (Option (Operand N))) (h : StageValues) (s : SiteView) : Type 0 where
  pub key : All (HasValue table (stage_value h)) s.key
  pub operands : All (HasValue table (stage_value h)) s.operands
  pub pointer : pointer_operand s.act < length s.operands → HasPointer pointers (pointer_in h) (slice_index s.operands (pointer_operand s.act))

pub record HasSite {N : Type 0} (table pointers : List (Option (Operand N))) (p : ProgramView) (h : StageValues) (j : ℕ) : Type 0 where
  pub asked : HasAsked table pointers h (site_at p.sites j)
  pub guard : HasValue table (stage_value h) (site_at p.sites j).guard
  pub found : HasPointer pointers (pointer_in h) (found_cell p.cells j)
  pub answer : HasValue table (stage_value h) (answer_cell p.cells j)

-- The operands of a site by two tables: they are operands, those of pointers of so many bits at most, they are there where the tables are, and they show what a
-- packet holds where the tables do and have what is not 0.
pub record IsSiteOf {N : Type 0} (p : ProgramView) (table pointers : List (Option (Operand N))) (j : ℕ) (s : SiteOperands N) : Type 0 where
  pub are : s ≡ site_operands p table pointers j
  pub operands : (bits : ℕ) → IsTable p.cells table → IsPointers p.cells bits pointers → All IsOperand (all_of s)
  pub found_narrow : (bits : ℕ) → IsPointers p.cells bits pointers → IsNarrow bits s.found
  pub pointer_narrow : (bits : ℕ) → IsPointers p.cells bits pointers → IsNarrow bits s.pointer
  pub there : (ins : List (Operand N)) → AreThere ins table → AreThere ins pointers → All (IsAvailable ins) (all_of s)
  pub asked : (v : Env N) (h : StageValues) → Holds v table (stage_value h) → HoldsPointers v pointers (pointer_in h) → HasAsked table pointers h (site_at p.sites j) → ShowsAsked v p h j s
  pub shown : (v : Env N) (h : StageValues) → Holds v table (stage_value h) → HoldsPointers v pointers (pointer_in h) → HasSite table pointers p h j → ShowsSite v p h j s
