-- What stands for the earlier operations of a packet that may write the map of an entry, and for the entry itself.
use Rattle.std.specs.Prelude.{◌≡◌, ℕ, ◌<◌, List, [], ◌∷◌, ◌++◌, All, length}
use Rattle.std.proofs.Common.{get_or}
use Rattle.block_core.specs.net_core.Value.{Env}
use Rattle.hazard_core.specs.xdp_maps.Contents.{IsBytes}
use Rattle.hazard_core.specs.xdp_maps.declared.decl.MapDecl.{MapDecl}
use Rattle.hazard_core.specs.cell_core.Cells.{bit}
use Rattle.hazard_core.specs.cell_core.Formed.{HasWords, IsInside}
use Rattle.hazard_core.specs.cell_core.Sites.{ProgramView, site_at}
use Rattle.hazard_core.specs.Tables.{TableState, decl_of, table_at, slot_at}
use Rattle.hazard_core.specs.declared.pointer.Pointer.{Pointer}
use Rattle.hazard_core.specs.declared.pointer.Pointer.TheVariants.{InSlot}
use Rattle.hazard_core.specs.StageValues.{StageValues, writes, written_pointer}
use Rattle.hazard_core.specs.Commits.{word_at}
use Rattle.cell_nets.specs.declared.operand.Operand.{Operand}
use Rattle.cell_nets.specs.Operands.{number_in, IsOperand}
use Rattle.overlay_net.specs.SiteOperands.Pointers.{pointer_number}
use Rattle.overlay_net.specs.SiteOperands.Sites.{operands_of, ShowsAsked}
use Rattle.overlay_net.specs.declared.site_operands.Pending.{Pending}
use Rattle.overlay_net.specs.ValueNet.Words.{IsAligned}

-- what is read of it
abbrev pub taken_of : {N : Type 0} → Pending N → List (Operand N)
taken_of n = n.writes ∷ n.written ∷ n.nets.now.operands.items

abbrev pub all_taken : {N : Type 0} → List (Pending N) → List (Operand N)
all_taken [] = []
all_taken (n ∷ ns) = taken_of n ++ all_taken ns

-- its access is aligned and inside a value of the map's declaration, and it has words enough
pub record IsFitting {N : Type 0} (d : MapDecl) (n : Pending N) : Type 0 where
  pub aligned : IsAligned n.act
  pub words : HasWords d.value n.act (length n.nets.now.operands.items)
  pub inside : IsInside d.value n.act
  pub operands : All IsOperand (taken_of n)

-- it is the operation at site i, on a map
pub record IsOf {N : Type 0} (p : ProgramView) (m i : ℕ) (n : Pending N) : Type 0 where
  pub act : (site_at p.sites i).act ≡ n.act
  pub map : (site_at p.sites i).map ≡ m
  pub count : length n.nets.now.operands.items ≡ length (site_at p.sites i).operands

-- and stands for it: what it asks, whether it writes, and the entry that it writes
pub record ShowsPending {N : Type 0} (v : Env N) (p : ProgramView) (t : TableState) (h : StageValues) (i : ℕ) (n : Pending N) : Type 0 where
  pub asked : ShowsAsked v p h i (operands_of n.nets.now)
  pub writes : number_in v n.writes ≡ bit (writes p t.decls h i)
  pub written : number_in v n.written ≡ pointer_number (written_pointer p t h i)

-- the operations at several sites
pub record AreOf {N : Type 0} (p : ProgramView) (m : ℕ) (before : List ℕ) (ns : List (Pending N)) : Type 0 where
  pub count : length ns ≡ length before
  pub each : (k : ℕ) (n : Pending N) → k < length before → IsOf p m (get_or before k 0) (get_or ns k n)

pub record ShowPendings {N : Type 0} (v : Env N) (p : ProgramView) (t : TableState) (h : StageValues) (before : List ℕ) (ns : List (Pending N)) : Type 0 where
  pub each : (k : ℕ) (n : Pending N) → k < length before → ShowsPending v p t h (get_or before k 0) (get_or ns k n)

-- the slot under a pointer has a value of the declared length
abbrev pub HasValue : TableState → ℕ → Pointer → Type 0
HasValue t m under = (n : ℕ) → under ≡ InSlot n → IsBytes (decl_of t.decls m).value (slot_at (table_at t m) n).value

-- the number of a pointer, and a word of the slot where it is to one
pub record ShowsEntry {N : Type 0} (v : Env N) (t : TableState) (m w : ℕ) (under : Pointer) (number word : Operand N) : Type 0 where
  pub pointer : number_in v number ≡ pointer_number under
  pub first : (n : ℕ) → under ≡ InSlot n → number_in v word ≡ word_at (slot_at (table_at t m) n).value w
