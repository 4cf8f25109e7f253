-- What an access takes besides: operations that fit the values of its map, and a word of the table.
use Rattle.std.specs.Prelude.{◌≡◌, ℕ, All, List, length}
use Rattle.block_core.specs.net_core.Value.{Env}
use Rattle.overlay_net.specs.cell_core.Formed.{HasWords, IsInside}
use Rattle.overlay_net.specs.cell_core.Sites.{ProgramView, site_at}
use Rattle.pipe_core.specs.hazard_core.Tables.{TableState, table_at, slot_at}
use Rattle.pipe_core.specs.hazard_core.Commits.{word_at}
use Rattle.pipe_core.specs.hazard_core.declared.pointer.Pointer.{Pointer}
use Rattle.pipe_core.specs.hazard_core.declared.pointer.Pointer.TheVariants.{InSlot}
use Rattle.overlay_net.specs.cell_nets.declared.operand.Operand.{Operand}
use Rattle.overlay_net.specs.cell_nets.Operands.{number_in}
use Rattle.overlay_net.specs.ValueNet.Words.{IsAligned}
use Rattle.read_net.specs.declared.sites.OwnSite.{OwnSite}
use Rattle.read_net.specs.declared.sites.MapNets.{MapNets}

-- an access is aligned and inside a value, and an update has words enough
pub record IsFitting {N : Type 0} (m : MapNets N) (s : OwnSite N) : Type 0 where
  pub aligned : IsAligned s.act
  pub words : HasWords m.decl.now.value s.act (length s.nets.now.operands.items)
  pub inside : IsInside m.decl.now.value s.act

-- they have as many operands as in the program
abbrev pub HaveOperands : {N : Type 0} → ProgramView → List (OwnSite N) → Type 0
HaveOperands p ss = All (λ s. length s.nets.now.operands.items ≡ length (site_at p.sites s.site).operands) ss

-- an operand stands for a word of the slot under a pointer, where it is to one
abbrev pub ShowsWord : {N : Type 0} → Env N → TableState → ℕ → ℕ → Pointer → Operand N → Type 0
ShowsWord v t m w under word = (n : ℕ) → under ≡ InSlot n → number_in v word ≡ word_at (slot_at (table_at t m) n).value w
