-- What stands for the slot that an operation writes.
use Rattle.std.specs.Prelude.{◌≡◌, ◌≢◌, ℕ, ◌^◌, ◌<◌, ◌≤◌, All, List, length, slice_index, map as map_list}
use Rattle.std.proofs.Common.{get_or}
use Rattle.net_core.specs.Value.{Env}
use Rattle.overlay_net.specs.cell_core.Sites.{ProgramView, site_at}
use Rattle.overlay_net.specs.hazard_core.Tables.{TableState, table_at, free_slot}
use Rattle.overlay_net.specs.hazard_core.declared.pointer.Pointer.TheVariants.{Pending}
use Rattle.overlay_net.specs.hazard_core.StageValues.{StageValues, written_pointer}
use Rattle.overlay_net.specs.hazard_core.Commits.{written_slot}
use Rattle.overlay_net.specs.cell_nets.declared.operand.Operand.{Operand}
use Rattle.overlay_net.specs.cell_nets.Operands.{number_in}
use Rattle.overlay_net.specs.SiteOperands.Pointers.{pointer_number}
use Rattle.commit_net.specs.declared.target.TakenSlot.{TakenSlot}

-- the operands for the slots that updates took
abbrev pub slots_of : {N : Type 0} → List (TakenSlot N) → List (Operand N)
slots_of ss = map_list (λ s. s.slot) ss

-- an update is among them
abbrev pub IsAmong : {N : Type 0} → List (TakenSlot N) → ℕ → Type 0
IsAmong ss i = (k : ℕ) × (k < length ss) × ((d : TakenSlot _) → (get_or ss k d).site ≡ i)

-- an operand for the pointer to the entry that an operation writes
abbrev pub ShowsWritten : {N : Type 0} → Env N → ProgramView → TableState → StageValues → ℕ → Operand N → Type 0
ShowsWritten v p t h j written = number_in v written ≡ pointer_number (written_pointer p t h j)

-- and those that say in which slot it is: of the map the first one that is free, where there is one, and the slots that the packet's updates took,
-- with that of the update that made the entry. The slot is one of the table, and the bits are enough for these.
pub record ShowsTarget {N : Type 0} (v : Env N) (p : ProgramView) (t : TableState) (took : List ℕ) (h : StageValues) (j bits : ℕ) (entry first : Operand N) (ss : List (TakenSlot N)) : Type 0 where
  pub written : ShowsWritten v p t h j entry
  pub free : free_slot (table_at t (site_at p.sites j).map) < length (table_at t (site_at p.sites j).map) → number_in v first ≡ free_slot (table_at t (site_at p.sites j).map)
  pub taken : All (λ s. number_in v s.slot ≡ slice_index took s.site) ss
  pub made : (i : ℕ) → written_pointer p t h j ≡ Pending i → i ≢ j → IsAmong ss i
  pub within : written_slot p t took h j < length (table_at t (site_at p.sites j).map)
  pub room : length (table_at t (site_at p.sites j).map) ≤ 2 ^ bits
