-- What the block of a map stores, by the kind of the map, and what it shows.
use Rattle.std.specs.Prelude.{◌≡◌, ℕ, ◌<◌, ◌==◌, ◌&&◌, Bool, if◌then◌else◌, List, length, replicate}
use Rattle.std.proofs.Common.{get_or}
use Rattle.net_core.specs.Nets.{Tree}
use Rattle.net_core.specs.Value.{nothing, Env}
use Rattle.net_core.specs.Clock.{Stored}
use Rattle.block_core.specs.declared.name.Name.{Name}
use Rattle.block_core.specs.declared.name.Name.TheVariants as name
use Rattle.overlay_net.specs.xdp_maps.declared.decl.MapDecl.{MapDecl}
use Rattle.overlay_net.specs.xdp_maps.declared.decl.MapKind.{MapKind}
use Rattle.overlay_net.specs.xdp_maps.declared.decl.MapKind.TheVariants.{Hash, Array}
use Rattle.overlay_net.specs.hazard_core.declared.slot.Slot.{Slot}
use Rattle.overlay_net.specs.hazard_core.declared.access.Access.{Access}
use Rattle.overlay_net.specs.hazard_core.Tables.{TableState, decl_of, table_at, slot_at, empty_slot}
use Rattle.overlay_net.specs.hazard_core.Commits.{word_in, may_write, host_written, shown_to_host}
use Rattle.hash_net.specs.array_net.Hosts.{SeesMemories}
use Rattle.hash_net.specs.array_net.Array.{StoresArray, IsZeroed, value_name as array_word}
use Rattle.hash_net.specs.array_net.ArrayNets.{has_word as array_may}
use Rattle.hash_net.specs.HashNets.{value_first, has_word as hash_may}
use Rattle.hash_net.specs.Hash.{StoresHash, value_name as hash_word}
use Rattle.commit_net.specs.declared.map_block.form.MapForm.{MapForm}

-- ---- what is stored: a table of slots
abbrev pub StoresAs : MapKind → MapDecl → ℕ → List Slot → Stored → Type 0
StoresAs Hash d bits slots s = StoresHash d bits slots s
StoresAs Array d bits slots s = StoresArray d bits slots s

abbrev pub StoresMap : MapDecl → ℕ → List Slot → Stored → Type 0
StoresMap d bits slots s = StoresAs d.kind d bits slots s

-- the table of a map before anything is written: of a hash unused slots, of an array zeros in each
abbrev pub IsFirst_as : MapKind → MapDecl → List Slot → Type 0
IsFirst_as Hash d slots = slots ≡ replicate d.cap (empty_slot d)
IsFirst_as Array d slots = IsZeroed d slots

abbrev pub IsFirst : MapDecl → List Slot → Type 0
IsFirst d slots = IsFirst_as d.kind d slots

-- what a part sees of its own registers and memories
pub record SeesStored {P : Type 0} (part : P) (v : Env (Name P)) (s : Stored) : Type 0 where
  pub register : (i : ℕ) → i < length s.registers → v.net (name.Register part i) ≡ get_or s.registers i nothing
  pub memories : SeesMemories part v s

-- ---- the nets of the block, by the kind of the map
-- the memory that has the first words of values
abbrev pub first_value_as : MapKind → MapDecl → ℕ
first_value_as Hash d = value_first d
first_value_as Array d = 0

abbrev pub first_value : MapDecl → ℕ
first_value d = first_value_as d.kind d

-- whether the host may write the word that it names
abbrev pub host_may_as : {P : Type 0} → MapKind → MapForm → P → Name P → Tree (Name P)
host_may_as Hash f own idle = hash_may own f.number f.bits f.decl idle
host_may_as Array f own idle = array_may f.number f.decl

abbrev pub host_may : {P : Type 0} → MapForm → P → Name P → Tree (Name P)
host_may f own idle = host_may_as f.decl.kind f own idle

-- the wire of the word that the host names
abbrev pub host_word_as : {P : Type 0} → MapKind → P → Name P
host_word_as Hash own = hash_word own
host_word_as Array own = array_word own

abbrev pub host_word : {P : Type 0} → MapForm → P → Name P
host_word f own = host_word_as f.decl.kind own

-- ---- the host and the tables of all maps
-- one of them is the map
pub record IsMapOf (t : TableState) (f : MapForm) : Type 0 where
  pub there : f.number < length t.decls
  pub declared : decl_of t.decls f.number ≡ f.decl

abbrev pub lets_write : Bool → TableState → Access → Bool
lets_write idle t a = may_write idle (slot_at (table_at t a.map) a.index) (word_in t a)

-- the tables after a write of the host, which changes what it may
abbrev pub after_write : Bool → TableState → Access → ℕ → TableState
after_write idle t a n = if lets_write idle t a then host_written t a n else t

-- what is for the host of the map that it names
abbrev pub may_here : MapForm → Bool → TableState → Access → Bool
may_here f idle t a = a.map == f.number && lets_write idle t a

abbrev pub shown_here : MapForm → TableState → Access → ℕ
shown_here f t a = if a.map == f.number then shown_to_host t a else 0
