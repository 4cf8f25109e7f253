-- The nets of records, and what the part reads.
use Rattle.std.specs.Prelude.{◌≡◌, ℕ, zero, suc, ◌+◌, ◌<◌, ◌^◌, Bool, true, false, All, List, [], ◌∷◌, ◌++◌, length, filter, map as map_list}
use Rattle.std.proofs.Common.{get_or}
use Rattle.net_core.specs.Value.{Env}
use Rattle.block_core.specs.declared.name.Name.{Name}
use Rattle.block_core.specs.declared.name.Name.TheVariants as name
use Rattle.hazard_core.specs.xdp_maps.declared.decl.MapDecl.{MapDecl}
use Rattle.hazard_core.specs.xdp_maps.declared.decl.MapKind.{MapKind}
use Rattle.hazard_core.specs.xdp_maps.declared.decl.MapKind.TheVariants.{Hash}
use Rattle.hazard_core.specs.cell_core.declared.site.Act.{Act}
use Rattle.hazard_core.specs.cell_core.declared.site.Act.TheVariants as act
use Rattle.hazard_core.specs.cell_core.Cells.{on}
use Rattle.hazard_core.specs.cell_core.Sites.{ProgramView}
use Rattle.hazard_core.specs.StageValues.{StageValues}
use Rattle.cell_nets.specs.declared.operand.Operand.{Operand}
use Rattle.cell_nets.specs.declared.operand.Operand.TheVariants.{Net}
use Rattle.cell_nets.specs.Operands.{IsOperand, IsNarrow}
use Rattle.overlay_net.specs.SiteOperands.Sites.{operands_of, all_of, ShowsSite}
use Rattle.overlay_net.specs.Reading.{IsSite}
use Rattle.turn_net.specs.declared.nets.RecordNets.{RecordNets}
use Rattle.turn_net.specs.declared.nets.ActionNets.{ActionNets}
use Rattle.turn_net.specs.declared.nets.ActionShape.{ActionShape}
use Rattle.turn_net.specs.Actions.{Signals}

abbrev pub number_of : {N : Type 0} → RecordNets N → ℕ
number_of r = r.number

abbrev pub sites_of : {N : Type 0} → List (RecordNets N) → List ℕ
sites_of rs = map_list number_of rs

-- ---- an update of a hash keeps the slot that it takes
abbrev pub keeps_slot : Act → MapKind → Bool
keeps_slot act.Update Hash = true
keeps_slot a kind = false

abbrev pub keeps : {N : Type 0} → RecordNets N → Bool
keeps r = keeps_slot r.act r.decl.now.kind

abbrev pub kept : {N : Type 0} → List (RecordNets N) → List (RecordNets N)
kept rs = filter keeps rs

-- ---- the operands of them
abbrev pub site_read : {N : Type 0} → RecordNets N → List (Operand N)
site_read r = all_of (operands_of r.nets.now)

abbrev pub read_of : {N : Type 0} → RecordNets N → List (Operand N)
read_of r = r.target ∷ site_read r

abbrev pub all_read : {N : Type 0} → List (RecordNets N) → List (Operand N)
all_read [] = []
all_read (r ∷ rs) = read_of r ++ all_read rs

abbrev pub HasOperands : {N : Type 0} → RecordNets N → Type 0
HasOperands r = All IsOperand (read_of r)

-- the number after a site has so many bits
abbrev pub IsNumbered : {N : Type 0} → ℕ → RecordNets N → Type 0
IsNumbered bits r = r.number + 1 < 2 ^ bits

-- and so has the slot that it keeps
abbrev pub IsKept : {N : Type 0} → ℕ → RecordNets N → Type 0
IsKept bits r = keeps r ≡ true → IsNarrow bits r.target

-- ---- they are record sites of a program, in order
pub record AreRecords {N : Type 0} (p : ProgramView) (decls : List MapDecl) (rs : List (RecordNets N)) : Type 0 where
  pub each : All (λ r. IsSite p decls r.number r.act r.decl.now) rs
  pub rising : (i k : ℕ) (d : RecordNets N) → i < k → k < length rs → (get_or rs i d).number < (get_or rs k d).number

-- their operands stand for the cells that a packet holds
abbrev pub ShowsRecords : {N : Type 0} → Env N → ProgramView → StageValues → List (RecordNets N) → Type 0
ShowsRecords v p h rs = All (λ r. ShowsSite v p h r.number (operands_of r.nets.now)) rs

-- ---- the nets of other parts
abbrev pub signals : {P : Type 0} → ActionNets P → List (Operand (Name P))
signals nets = Net nets.present 1 ∷ Net nets.back 1 ∷ Net nets.host 1 ∷ []

abbrev pub outside : {P : Type 0} → ActionNets P → List (RecordNets (Name P)) → List (Operand (Name P))
outside nets rs = signals nets ++ all_read rs

abbrev pub signals_in : {P : Type 0} → ActionNets P → Env (Name P) → Signals
signals_in nets v = record { present = on (v.net nets.present).value; back = on (v.net nets.back).value; host = on (v.net nets.host).value }

-- ---- its registers: how far the packet is, and the slots that updates took, from a number on
abbrev pub done_operand : {P : Type 0} → P → ℕ → Operand (Name P)
done_operand part bits = Net (name.Register part 0) bits

abbrev pub slot_operands : {P : Type 0} → P → ℕ → ℕ → ℕ → List (Operand (Name P))
slot_operands part bits at zero = []
slot_operands part bits at (suc n) = Net (name.Register part at) bits ∷ slot_operands part bits (suc at) n

abbrev pub own_operands : {P : Type 0} → P → ActionShape → List (RecordNets (Name P)) → List (Operand (Name P))
own_operands part shape rs = done_operand part shape.bits ∷ slot_operands part shape.slot_bits 1 (length (kept rs))
