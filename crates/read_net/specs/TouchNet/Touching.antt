-- When operands stand for a change of a map, and for the keys of a packet's own updates.
use Rattle.std.specs.Prelude.{◌≡◌, ℕ, ◌*◌, ◌<◌, ◌≤◌, Bool, true, false, All, List, [], ◌∷◌, ◌++◌, length, map as map_list}
use Rattle.std.proofs.Common.{get_or}
use Rattle.block_core.specs.net_core.Value.{Env}
use Rattle.overlay_net.specs.cell_core.declared.site.Act.{Act}
use Rattle.overlay_net.specs.cell_core.declared.site.Act.TheVariants as act
use Rattle.overlay_net.specs.cell_core.Cells.{bit}
use Rattle.overlay_net.specs.cell_core.Sites.{ProgramView, site_at, bytes_of}
use Rattle.overlay_net.specs.xdp_maps.declared.decl.MapDecl.{MapDecl}
use Rattle.pipe_core.specs.hazard_core.Tables.{decl_of}
use Rattle.pipe_core.specs.hazard_core.StageValues.{StageValues, stage_value}
use Rattle.pipe_core.specs.hazard_core.declared.pointer.Pointer.{Pointer}
use Rattle.pipe_core.specs.hazard_core.declared.pointer.Pointer.TheVariants.{Pending}
use Rattle.pipe_core.specs.hazard_core.declared.change.Change.{Change}
use Rattle.overlay_net.specs.cell_nets.declared.operand.Operand.{Operand}
use Rattle.overlay_net.specs.cell_nets.Operands.{number_in, IsOperand}
use Rattle.read_net.specs.declared.touch_net.change.ChangeNets.{ChangeNets}
use Rattle.read_net.specs.declared.touch_net.change.OwnKey.{OwnKey}

-- whether an operation reads the entry that its pointer is to
abbrev pub reads_entry : Act → Bool
reads_entry (act.Load at size) = true
reads_entry (act.Atomic at a) = a.fetch
reads_entry a = false

-- ---- a change
abbrev pub change_operands : {N : Type 0} → ChangeNets N → List (Operand N)
change_operands c = c.slot ∷ c.presence ∷ c.key.now

-- Its operands are some, with words enough for a key of so many bytes.
pub record IsChangeNets {N : Type 0} (bytes : ℕ) (c : ChangeNets N) : Type 0 where
  pub operands : All IsOperand (change_operands c)
  pub key : bytes ≤ 8 * length c.key.now

-- they stand for it
pub record ShowsChange {N : Type 0} (v : Env N) (bytes : ℕ) (e : Change) (c : ChangeNets N) : Type 0 where
  pub slot : number_in v c.slot ≡ e.slot
  pub key : bytes_of bytes (map_list (number_in v) c.key.now) ≡ e.key
  pub presence : number_in v c.presence ≡ bit e.presence

-- ---- the packet's own updates
abbrev pub own_operands : {N : Type 0} → List (OwnKey N) → List (Operand N)
own_operands [] = []
own_operands (o ∷ os) = o.key.now ++ own_operands os

pub record IsOwnKey {N : Type 0} (bytes : ℕ) (o : OwnKey N) : Type 0 where
  pub operands : All IsOperand o.key.now
  pub key : bytes ≤ 8 * length o.key.now

-- how many bytes the keys of the map of a site have
abbrev pub key_bytes : ProgramView → List MapDecl → ℕ → ℕ
key_bytes p decls j = (decl_of decls (site_at p.sites j).map).key

-- they are operations on maps whose keys have so many bytes
abbrev pub HaveKeys : {N : Type 0} → ProgramView → List MapDecl → ℕ → List (OwnKey N) → Type 0
HaveKeys p decls bytes owns = All (λ o. key_bytes p decls o.site ≡ bytes) owns

-- the words stand for those of their keys
abbrev pub ShowsOwn : {N : Type 0} → Env N → ProgramView → StageValues → List (OwnKey N) → Type 0
ShowsOwn v p h owns = All (λ o. map_list (number_in v) o.key.now ≡ map_list (stage_value h) (site_at p.sites o.site).key) owns

-- an update is among them
abbrev pub IsAmong : {N : Type 0} → List (OwnKey N) → ℕ → Type 0
IsAmong owns i = (k : ℕ) × (k < length owns) × ((d : OwnKey _) → (get_or owns k d).site ≡ i)

-- A pointer to an entry that an update is to make is to that of one of them, where its key has so many bytes: the key of another length is that of no change.
pub record IsMade {N : Type 0} (p : ProgramView) (decls : List MapDecl) (bytes : ℕ) (q : Pointer) (owns : List (OwnKey N)) : Type 0 where
  pub among : (i : ℕ) → q ≡ Pending i → key_bytes p decls i ≡ bytes → IsAmong owns i
  pub words : (i : ℕ) → q ≡ Pending i → key_bytes p decls i ≤ 8 * length (site_at p.sites i).key
