-- The part that says what the operations at the record sites of a map write.
use Rattle.std.specs.Prelude.{◌≡◌, ◌≢◌, ℕ, ◌<◌, All, List, [], ◌∷◌, ◌++◌, length, slice_index, map as map_list}
use Rattle.std.proofs.Common.{get_or}
use Rattle.net_core.specs.Value.{Env}
use Rattle.block_core.specs.declared.name.Name.{Name}
use Rattle.block_core.specs.Blocks.{BlockTree}
use Rattle.block_core.specs.Parts.{Solve}
use Rattle.hazard_core.specs.cell_core.Cells.{bit}
use Rattle.hazard_core.specs.cell_core.Sites.{ProgramView, site_at}
use Rattle.hazard_core.specs.declared.slot.Slot.{Slot}
use Rattle.hazard_core.specs.declared.pointer.Pointer.TheVariants as pointer
use Rattle.hazard_core.specs.Tables.{TableState, table_at, free_slot}
use Rattle.hazard_core.specs.StageValues.{StageValues, written_pointer}
use Rattle.hazard_core.specs.Commits.{written_slot, makes_entry}
use Rattle.cell_nets.specs.declared.operand.Operand.{Operand}
use Rattle.cell_nets.specs.Operands.{number_in, IsOperand, AreFit}
use Rattle.cell_nets.specs.Wires.{HasBits}
use Rattle.overlay_net.specs.declared.site_operands.Pending.{Pending}
use Rattle.overlay_net.specs.Seen.{ShowPending}
use Rattle.commit_net.specs.declared.target.TakenSlot.{TakenSlot}
use Rattle.commit_net.specs.Targets.{slots_of, IsAmong}
use Rattle.read_net.specs.declared.sites.OwnSite.{OwnSite}
use Rattle.read_net.specs.declared.sites.MapNets.{MapNets}
use Rattle.read_net.specs.Sites.{all_cells, slot_cells, sites_of, IsMapOf, ShowsOwn, ShowsTable}
use Rattle.cell_nets.specs.OperandBlocks.Wiring.{IsWiring, Offers}
use Rattle.turn_net.specs.declared.target_net.targets.Target.{Target}

-- ---- the operands: what it gives, the pointers to the entries, and what comes from outside
abbrev pub all_of : {N : Type 0} → List (Target N) → List (Operand N)
all_of [] = []
all_of (d ∷ ds) = d.slot ∷ d.makes ∷ all_of ds

abbrev pub written_of : {N : Type 0} → List (Pending N) → List (Operand N)
written_of ds = map_list (λ d. d.written) ds

abbrev pub IsWritten : {N : Type 0} → Pending N → Type 0
IsWritten d = IsOperand d.written

abbrev pub outside_of : {N : Type 0} → MapNets N → List (OwnSite N) → List (TakenSlot N) → List (Operand N)
outside_of map rs ss = all_cells rs ++ (slot_cells map ++ slots_of ss)

pub record HasTargets {N : Type 0} (bits : ℕ) (rs : List (OwnSite N)) (ds : List (Target N)) : Type 0 where
  pub count : length ds ≡ length rs
  pub operands : All IsOperand (all_of ds)
  pub slot_bits : All (λ d. HasBits bits d.slot) ds
  pub makes_bits : All (λ d. HasBits 1 d.makes) ds

-- ---- what they stand for
-- an operand for the first free slot of a table, where there is one
abbrev pub ShowsFree : {N : Type 0} → Env N → List Slot → Operand N → Type 0
ShowsFree v slots first = free_slot slots < length slots → number_in v first ≡ free_slot slots

-- those of the slots that updates took
abbrev pub ShowTaken : {N : Type 0} → Env N → List ℕ → List (TakenSlot N) → Type 0
ShowTaken v took ss = All (λ s. number_in v s.slot ≡ slice_index took s.site) ss

-- The slot that an operation writes is one of its table; where another update made the entry, the slot that this one took is known.
pub record FindsSlot {N : Type 0} (p : ProgramView) (t : TableState) (took : List ℕ) (h : StageValues) (ss : List (TakenSlot N)) (j : ℕ) : Type 0 where
  pub within : written_slot p t took h j < length (table_at t (site_at p.sites j).map)
  pub made : (i : ℕ) → written_pointer p t h j ≡ pointer.Pending i → i ≢ j → IsAmong ss i

pub record ShowsTarget {N : Type 0} (v : Env N) (p : ProgramView) (t : TableState) (took : List ℕ) (h : StageValues) (ss : List (TakenSlot N)) (j : ℕ) (d : Target N) : Type 0 where
  pub slot : FindsSlot p t took h ss j → number_in v d.slot ≡ written_slot p t took h j
  pub makes : number_in v d.makes ≡ bit (makes_entry p t h j)

abbrev pub ShowTargets : {N : Type 0} → Env N → ProgramView → TableState → List ℕ → StageValues → List (TakenSlot N) → List (OwnSite N) → List (Target N) → Type 0
ShowTargets v p t took h ss rs ds = (n : ℕ) (s : OwnSite _) (d : Target _) → n < length rs → ShowsTarget v p t took h ss (get_or rs n s).site (get_or ds n d)

-- what these follow from: the pointers to the entries, the first free slot, where there is an operation, and the slots that updates took
pub record AsksTargets {N : Type 0} (v : Env N) (p : ProgramView) (t : TableState) (took : List ℕ) (h : StageValues) (m : ℕ) (rs : List (OwnSite N)) (ds : List (Pending N)) (free : Operand N) (ss : List (TakenSlot N)) : Type 0 where
  pub pending : ShowPending v p t h (sites_of rs) ds
  pub first : 0 < length rs → ShowsFree v (table_at t m) free
  pub taken : ShowTaken v took ss

-- and those from what comes from outside
pub record Shows {N : Type 0} (v : Env N) (p : ProgramView) (t : TableState) (took : List ℕ) (h : StageValues) (m : ℕ) (map : MapNets N) (rs : List (OwnSite N)) (ss : List (TakenSlot N)) : Type 0 where
  pub records : All (ShowsOwn v p h) rs
  pub table : ShowsTable v t m map
  pub taken : ShowTaken v took ss

-- ---- The part: wires alone. In a program, for record sites of a map in order, it gives what the operation at each writes, whatever a packet holds and the tables are.
pub record IsTargets {P : Type 0} (p : ProgramView) (m : ℕ) (part : P) (map : MapNets (Name P)) (bits : ℕ) (rs : List (OwnSite (Name P))) (ss : List (TakenSlot (Name P))) (ds : List (Target (Name P))) (b : BlockTree (Name P)) : Type 0 where
  pub wiring : IsWiring part (outside_of map rs ss) b
  pub offers : Offers part (outside_of map rs ss) b (all_of ds)
  pub has : HasTargets bits rs ds
  pub shows : (v : Env (Name P)) (t : TableState) (took : List ℕ) (h : StageValues) → IsMapOf t m map.decl.now → AreFit v (outside_of map rs ss) → Solve v part 0 b.wires → Shows v p t took h m map rs ss → ShowTargets v p t took h ss rs ds
