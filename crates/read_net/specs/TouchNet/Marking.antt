-- When operands stand for the marks of a packet.
use Rattle.std.specs.Prelude.{◌≡◌, ℕ, ◌<◌, Bool, false, ◌&&◌, is_some, IfSome, Option, Some, None, List, [], ◌∷◌, ◌++◌, length}
use Rattle.std.proofs.Common.{get_or}
use Rattle.block_core.specs.net_core.Value.{Env}
use Rattle.overlay_net.specs.cell_core.Cells.{bit, on}
use Rattle.overlay_net.specs.cell_core.Sites.{ProgramView, site_at}
use Rattle.pipe_core.specs.hazard_core.StageValues.{StageValues, stage_value}
use Rattle.pipe_core.specs.hazard_core.Marks.{is_known, known_off}
use Rattle.overlay_net.specs.cell_nets.declared.operand.Operand.{Operand}
use Rattle.overlay_net.specs.cell_nets.Operands.{number_in, IsOperand}
use Rattle.read_net.specs.declared.touch_net.marks.MarkNets.{MarkNets}

-- ---- the guard of a site, where it is known
abbrev pub guard_operands : {N : Type 0} → Option (Operand N) → List (Operand N)
guard_operands None = []
guard_operands (Some g) = g ∷ []

-- one stands for the guard of site j where it is known in the rows up to r, and only there
abbrev pub IsKnownGuard : {N : Type 0} → ProgramView → (ℕ → ℕ) → ℕ → ℕ → Option (Operand N) → Type 0
IsKnownGuard p row r j guard = is_known row r (site_at p.sites j) ≡ is_some guard

abbrev pub ShowsGuard : {N : Type 0} → Env N → ProgramView → StageValues → ℕ → Option (Operand N) → Type 0
ShowsGuard v p h j None = Unit {0}
ShowsGuard v p h j (Some g) = number_in v g ≡ stage_value h (site_at p.sites j).guard

-- ---- the marks at several sites
abbrev pub mark_operands : {N : Type 0} → List (MarkNets N) → List (Operand N)
mark_operands [] = []
mark_operands (m ∷ ms) = m.marked ∷ guard_operands m.guard ++ mark_operands ms

pub record HasOperands {N : Type 0} (m : MarkNets N) : Type 0 where
  pub marked : IsOperand m.marked
  pub guard : IfSome m.guard IsOperand

-- whether a mark calls for a reload by the numbers of these operands: where its guard is known, it is the guard that says so
abbrev pub reload_by : {N : Type 0} → Env N → Operand N → Option (Operand N) → Bool
reload_by v marked None = false
reload_by v marked (Some g) = on (number_in v marked) && on (number_in v g)

abbrev pub shown_reload : {N : Type 0} → Env N → MarkNets N → Bool
shown_reload v m = reload_by v m.marked m.guard

pub record AreKnown {N : Type 0} (p : ProgramView) (row : ℕ → ℕ) (r : ℕ) (js : List ℕ) (ms : List (MarkNets N)) : Type 0 where
  pub count : length ms ≡ length js
  pub each : (n : ℕ) (d : MarkNets N) → n < length js → IsKnownGuard p row r (get_or js n 0) (get_or ms n d).guard

-- they stand for the mark, where the guard is not known as 0, and for the guard
pub record ShowsMark {N : Type 0} (v : Env N) (p : ProgramView) (row : ℕ → ℕ) (r : ℕ) (h : StageValues) (marked : ℕ → Bool) (j : ℕ) (m : MarkNets N) : Type 0 where
  pub mark : known_off row r h (site_at p.sites j) ≡ false → number_in v m.marked ≡ bit (marked j)
  pub guard : ShowsGuard v p h j m.guard

pub record ShowMarks {N : Type 0} (v : Env N) (p : ProgramView) (row : ℕ → ℕ) (r : ℕ) (h : StageValues) (marked : ℕ → Bool) (js : List ℕ) (ms : List (MarkNets N)) : Type 0 where
  pub each : (n : ℕ) (d : MarkNets N) → n < length js → ShowsMark v p row r h marked (get_or js n 0) (get_or ms n d)
