-- When nets stand for the operations that a read sees.
use Rattle.std.specs.Prelude.{◌≡◌, ℕ, ◌*◌, ◌<◌, ◌≤◌, All, List, [], ◌∷◌, ◌++◌, length}
use Rattle.std.proofs.Common.{get_or}
use Rattle.block_core.specs.net_core.Value.{Env}
use Rattle.hazard_core.specs.cell_core.Cells.{bit}
use Rattle.hazard_core.specs.cell_core.Sites.{ProgramView, site_at}
use Rattle.hazard_core.specs.Tables.{TableState}
use Rattle.hazard_core.specs.StageValues.{StageValues, writes, written_pointer}
use Rattle.cell_nets.specs.declared.operand.Operand.{Operand}
use Rattle.cell_nets.specs.Operands.{number_in, IsOperand, IsNarrow}
use Rattle.overlay_net.specs.SiteOperands.Pointers.{pointer_number}
use Rattle.overlay_net.specs.SiteOperands.Sites.{operands_of, all_of, ShowsSite}
use Rattle.overlay_net.specs.declared.site_operands.Pending.{Pending}

-- what it reads
abbrev pub read_of : {N : Type 0} → Pending N → List (Operand N)
read_of d = d.writes ∷ d.written ∷ all_of (operands_of d.nets.now)

abbrev pub all_read : {N : Type 0} → List (Pending N) → List (Operand N)
all_read [] = []
all_read (d ∷ ds) = read_of d ++ all_read ds

abbrev pub HasOperands : {N : Type 0} → Pending N → Type 0
HasOperands d = All IsOperand (read_of d)

-- Its operands are some, with words enough for a key of so many bytes, and its pointer has no more than so many bits.
pub record IsSeen {N : Type 0} (bytes bits : ℕ) (d : Pending N) : Type 0 where
  pub operands : HasOperands d
  pub key : bytes ≤ 8 * length d.nets.now.key.items
  pub written : IsNarrow bits d.written

-- it is the operation at site i, on a map
pub record IsOf {N : Type 0} (p : ProgramView) (m i : ℕ) (d : Pending N) : Type 0 where
  pub act : (site_at p.sites i).act ≡ d.act
  pub map : (site_at p.sites i).map ≡ m

-- and stands for it
pub record ShowsPending {N : Type 0} (v : Env N) (p : ProgramView) (t : TableState) (h : StageValues) (i : ℕ) (d : Pending N) : Type 0 where
  pub site : ShowsSite v p h i (operands_of d.nets.now)
  pub writes : number_in v d.writes ≡ bit (writes p t.decls h i)
  pub written : number_in v d.written ≡ pointer_number (written_pointer p t h i)

-- the operations at several sites
pub record AreOf {N : Type 0} (p : ProgramView) (m : ℕ) (before : List ℕ) (ds : List (Pending N)) : Type 0 where
  pub count : length ds ≡ length before
  pub each : (n : ℕ) (d : Pending N) → n < length before → IsOf p m (get_or before n 0) (get_or ds n d)

pub record ShowPending {N : Type 0} (v : Env N) (p : ProgramView) (t : TableState) (h : StageValues) (before : List ℕ) (ds : List (Pending N)) : Type 0 where
  pub each : (n : ℕ) (d : Pending N) → n < length before → ShowsPending v p t h (get_or before n 0) (get_or ds n d)
