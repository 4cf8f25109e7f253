-- What an operation of a packet does to the table of its map, and the host's accesses to words of slots.
use Rattle.std.specs.Prelude.{ℕ, ◌+◌, ◌-◌, ◌*◌, ◌/◌, ◌==◌, nat_le, nat_lt, Bool, true, false, ◌&&◌, ◌||◌, if◌then◌else◌, List, length, take, drop, slice_index, slice_set}
use Rattle.byteorder.specs.Endian.{little_number, little_bytes}
use Rattle.xdp_maps.specs.declared.decl.MapDecl.{MapDecl}
use Rattle.xdp_maps.specs.declared.decl.MapKind.{MapKind}
use Rattle.xdp_maps.specs.declared.decl.MapKind.TheVariants.{Hash, Array}
use Rattle.xdp_maps.specs.Calls.{patched}
use Rattle.xdp_maps.specs.Operations.{Operation}
use Rattle.cell_core.specs.declared.site.Act.{Act}
use Rattle.cell_core.specs.declared.site.Act.TheVariants as act
use Rattle.cell_core.specs.Cells.{bit, on}
use Rattle.cell_core.specs.Sites.{ProgramView, site_at}
use Rattle.hazard_core.specs.Tables.{Slot, TableState, decl_of, table_at, slot_at, free_slot}
use Rattle.hazard_core.specs.StageValues.{Pointer, Null, InSlot, Pending, same_pointer, is_update, is_delete, StageValues, asked, asked_key, written_pointer}
use Rattle.hazard_core.specs.Overlay.{value_as}
use Rattle.hazard_core.specs.Marks.{Change}
pub use Rattle.hazard_core.specs.declared.access.Access.{Access}
pub use Rattle.hazard_core.specs.declared.access.Word.{Word}
pub use Rattle.hazard_core.specs.declared.access.Word.TheVariants.{Used, Key, Value, Nothing}

abbrev pub with_slot : TableState → ℕ → ℕ → Slot → TableState
with_slot t m n s = record t { tables = slice_set t.tables m (slice_set (table_at t m) n s) }

-- whether the operation at site j makes an entry of its own
abbrev pub makes_entry : ProgramView → TableState → StageValues → ℕ → Bool
makes_entry p t h j = is_update (site_at p.sites j).act && same_pointer (written_pointer p t h j) (Pending j)

-- The slot that a pointer is to. Of an entry that another update of the packet's own made it is the slot that this one took; a new one
-- takes the first that is free.
abbrev pub slot_under : List Slot → List ℕ → ℕ → Pointer → ℕ
slot_under slots taken j (InSlot n) = n
slot_under slots taken j (Pending i) = if i == j then free_slot slots else slice_index taken i
slot_under slots taken j Null = free_slot slots

-- the slot that the operation at site j writes
abbrev pub written_slot : ProgramView → TableState → List ℕ → StageValues → ℕ → ℕ
written_slot p t taken h j = slot_under (table_at t (site_at p.sites j).map) taken j (written_pointer p t h j)

-- what stands in it after that
abbrev pub slot_as : Act → Bool → Operation → List ℕ → Slot → Slot
slot_as act.Update true op key s = record { used = true; key = key; value = value_as op s.value }
slot_as act.Delete new op key s = record s { used = false }
slot_as a new op key s = record s { value = value_as op s.value }

-- the tables after the operation of a packet at site j
unfoldable pub committed : ProgramView → TableState → List ℕ → StageValues → ℕ → TableState
committed p t taken h j =
    let s = site_at p.sites j in
    let n = written_slot p t taken h j in
    with_slot t s.map n (slot_as s.act (makes_entry p t h j) (asked t.decls h s) (asked_key t.decls h s) (slot_at (table_at t s.map) n))

-- the slots that the packet's updates took
abbrev pub taken_after : ProgramView → TableState → List ℕ → StageValues → ℕ → List ℕ
taken_after p t taken h j = if is_update (site_at p.sites j).act then slice_set taken j (written_slot p t taken h j) else taken

-- the key of the change: that of an update or a delete, else the one in the slot
abbrev pub changed_key : Act → List ℕ → List ℕ → List ℕ
changed_key act.Update own held = own
changed_key act.Delete own held = own
changed_key a own held = held

unfoldable pub change_by : ProgramView → TableState → List ℕ → StageValues → ℕ → Change
change_by p t taken h j =
    let s = site_at p.sites j in
    let n = written_slot p t taken h j in
    record {
      map = s.map;
      slot = n;
      key = changed_key s.act (asked_key t.decls h s) (slot_at (table_at t s.map) n).key;
      presence = is_delete s.act || makes_entry p t h j;
    }

-- ---- the host's accesses: a word of eight bytes, the low one first, of a slot, read or written

abbrev pub word_count : ℕ → ℕ
word_count n = (n + 7) / 8

abbrev pub word_at : List ℕ → ℕ → ℕ
word_at bytes w = little_number 8 (take 8 (drop (8 * w) bytes))

-- a last word that is not whole takes the low bytes
abbrev pub with_word : List ℕ → ℕ → ℕ → List ℕ
with_word bytes w n = patched bytes (8 * w) (take (length bytes - 8 * w) (little_bytes 8 n))

abbrev pub value_word : MapDecl → ℕ → Word
value_word d w = if nat_lt w (word_count d.value) then Value w else Nothing

-- a slot of a hash has a word that says whether it is used, those of its key, and those of its value; a slot of an array those of its value
abbrev pub word_as : MapKind → MapDecl → ℕ → Word
word_as Hash d w = if w == 0 then Used else if nat_le w (word_count d.key) then Key (w - 1) else value_word d (w - 1 - word_count d.key)
word_as Array d w = value_word d w

-- the word that an access names, where there is one
abbrev pub word_in : TableState → Access → Word
word_in t a = if nat_lt a.map (length t.decls) && nat_lt a.index (length (table_at t a.map)) then word_as (decl_of t.decls a.map).kind (decl_of t.decls a.map) a.word else Nothing

abbrev pub shown_word : Slot → Word → ℕ
shown_word s Used = bit s.used
shown_word s (Key w) = word_at s.key w
shown_word s (Value w) = word_at s.value w
shown_word s Nothing = 0

abbrev pub shown_to_host : TableState → Access → ℕ
shown_to_host t a = shown_word (slot_at (table_at t a.map) a.index) (word_in t a)

abbrev pub written_word : Slot → Word → ℕ → Slot
written_word s Used n = record s { used = on n }
written_word s (Key w) n = record s { key = with_word s.key w n }
written_word s (Value w) n = record s { value = with_word s.value w n }
written_word s Nothing n = s

-- the tables after the host has written a word
unfoldable pub host_written : TableState → Access → ℕ → TableState
host_written t a n = with_slot t a.map a.index (written_word (slot_at (table_at t a.map) a.index) (word_in t a) n)

-- While packets are inside, the host writes values of used slots alone; otherwise every word.
abbrev pub may_write : Bool → Slot → Word → Bool
may_write idle s Nothing = false
may_write idle s (Value w) = idle || s.used
may_write idle s other = idle

abbrev pub host_change : TableState → Access → Change
host_change t a = record { map = a.map; slot = a.index; key = (slot_at (table_at t a.map) a.index).key; presence = false }
