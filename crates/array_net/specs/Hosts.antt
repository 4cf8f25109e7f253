-- What the host does to a map and sees of it.
use Rattle.std.specs.Prelude.{◌≡◌, ℕ, ◌<◌, ◌==◌, nat_lt, if◌then◌else◌, ◌&&◌, Bool, List, [], length, slice_set}
use Rattle.std.proofs.Common.{get_or}
use Rattle.net_core.specs.declared.ports.TheConstants.{HOST_MAP, HOST_INDEX, HOST_WORD, HOST_DATA}
use Rattle.net_core.specs.Value.{word, Env}
use Rattle.net_core.specs.Clock.{Stored}
use Rattle.block_core.specs.declared.name.Name.{Name}
use Rattle.block_core.specs.declared.name.Name.TheVariants as name
use Rattle.xdp_maps.specs.declared.decl.MapDecl.{MapDecl}
use Rattle.hazard_core.specs.declared.slot.Slot.{Slot}
use Rattle.hazard_core.specs.declared.access.Access.{Access}
use Rattle.hazard_core.specs.declared.access.Word.{Word}
use Rattle.hazard_core.specs.declared.access.Word.TheVariants.{Nothing}
use Rattle.hazard_core.specs.Tables.{slot_at}
use Rattle.hazard_core.specs.Commits.{word_as, may_write, written_word}
use Rattle.frame_net.specs.Frames.{word_at}

-- what the host addresses, and the number that it writes
pub record SeesHost {P : Type 0} (v : Env (Name P)) (a : Access) (number : ℕ) : Type 0 where
  pub map : v.net (name.Port HOST_MAP) ≡ word 4 a.map
  pub index : v.net (name.Port HOST_INDEX) ≡ word 16 a.index
  pub number_of_word : v.net (name.Port HOST_WORD) ≡ word 4 a.word
  pub content : v.net (name.Port HOST_DATA) ≡ word 64 number

-- the memories of a part
abbrev pub SeesMemories : {P : Type 0} → P → Env (Name P) → Stored → Type 0
SeesMemories part v s = (i n : ℕ) → i < length s.memories → v.memory_word (name.Memory part i) n ≡ word_at (get_or s.memories i []) n

-- what an access names in the map of a number, by its declaration
abbrev pub named_word : ℕ → MapDecl → Access → Word
named_word map d a = if a.map == map && nat_lt a.index d.cap then word_as d.kind d a.word else Nothing

-- the table after the host has written a word of a slot, where it may
abbrev pub written_table : Bool → Word → List Slot → ℕ → ℕ → List Slot
written_table idle w slots n number = if may_write idle (slot_at slots n) w then slice_set slots n (written_word (slot_at slots n) w number) else slots
