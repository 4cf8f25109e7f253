-- What cells hold of a machine, by the kinds of its values. A kind without data has no cell: it says by itself what the value is.
use Rattle.std.specs.Prelude.{ℕ, ◌≡◌, ◌<◌, ◌≤◌, ◌*◌, pos, true, if◌then◌else◌, List, [], length, slice_index, get_or, map as map_list, All}
use Rattle.cell_core.specs.xdp_maps.declared.decl.MapDecl.{MapDecl}
use Rattle.cell_core.specs.xdp_machine.Values.{Value}
use Rattle.cell_core.specs.xdp_machine.Values as is
use Rattle.cell_core.specs.xdp_machine.State.{Machine, PacketIn}
use Rattle.cell_core.specs.xdp_machine.State as machine
use Rattle.kind_core.specs.declared.number.Number.{Number}
use Rattle.kind_core.specs.declared.number.Number.TheVariants.{Known, Between}
use Rattle.kind_core.specs.declared.kind.Kind.{Kind}
use Rattle.kind_core.specs.declared.kind.Kind.TheVariants.{Unset, Num, Packet, Var, End, Stack, Ctx, MapRef, Maybe, Entry, Stale, Mixed}
use Rattle.kind_core.specs.declared.kind.Kinds.{Kinds}
use Rattle.kind_core.specs.declared.kind.Offsets.TheVariants.{Fixed}
use Rattle.kind_core.specs.Kinds.{key_bytes}
use Rattle.cell_core.specs.Cells.{on}
use Rattle.cell_core.specs.Sites.{bytes_of}
use Rattle.operator_cells.specs.declared.held_cells.machine_cells.RegisterCells.{RegisterCells}
use Rattle.operator_cells.specs.declared.held_cells.machine_cells.Pointer.{Pointer}

-- A pointer to an entry: the cell that is 1 where its lookup found the key, and the words of the key.
pub record PointerView : Type 0 where
  pub found : ℕ
  pub key : List ℕ

-- the same of a pointer in memory
abbrev pub pointer_of : Pointer → PointerView
pointer_of p = record { found = p.found; key = p.key.items }

unfoldable pub pointed : List Pointer → List PointerView
pointed ps = map_list pointer_of ps

abbrev pub no_pointer : PointerView
no_pointer = record { found = 0; key = [] }

abbrev pub pointer_at : List PointerView → ℕ → PointerView
pointer_at pointers k = get_or pointers k no_pointer

-- the key of a pointer into map q
abbrev pub key_of : List MapDecl → (ℕ → ℕ) → ℕ → PointerView → List ℕ
key_of decls v q p = bytes_of (key_bytes decls q) (map_list v p.key)

-- what a lookup answered, or a place in its entry
abbrev pub entry_or_null : List MapDecl → (ℕ → ℕ) → ℕ → PointerView → Value
entry_or_null decls v q p = if on (v p.found) then is.Entry q (key_of decls v q p) (pos 0) else is.Number 0

-- Number c holds a value of this kind: of a number that is not known it is a cell, of an answer of a lookup or a place in an entry a
-- pointer's number. No cell holds a place in the packet that is not known.
abbrev pub Holds : List MapDecl → (ℕ → ℕ) → List PointerView → Kind → ℕ → Value → Type 0
Holds decls v ps (Num (Between lo hi)) c x = x ≡ is.Number (v c)
Holds decls v ps (Maybe q n) c x = x ≡ entry_or_null decls v q (pointer_at ps c)
Holds decls v ps (Entry q o) c x = (on (v (pointer_at ps c).found) ≡ true) × (x ≡ is.Entry q (key_of decls v q (pointer_at ps c)) (pos o))
Holds decls v ps (Num (Known n)) c x = Unit {0}
Holds decls v ps (Packet o) c x = Unit {0}
Holds decls v ps (Var b f) c x = ⊥
Holds decls v ps End c x = Unit {0}
Holds decls v ps (Stack o) c x = Unit {0}
Holds decls v ps Ctx c x = Unit {0}
Holds decls v ps (MapRef q) c x = Unit {0}
Holds decls v ps Unset c x = Unit {0}
Holds decls v ps Stale c x = Unit {0}
Holds decls v ps Mixed c x = Unit {0}

-- The cells hold what a machine holds in the run of a packet. Past its first 256 bytes no packet is written.
pub record AreHeld (decls : List MapDecl) (packet : PacketIn) (v : ℕ → ℕ) (ps : List PointerView) (h : RegisterCells) (k : Kinds) (m : Machine) : Type 0 where
  pub registers : (r : ℕ) → r ≤ 10 → Holds decls v ps (get_or k.registers r Unset) (slice_index h.registers r) (machine.register m.registers r)
  pub slots : (s : ℕ) → s < 64 → Holds decls v ps (get_or k.slots s Unset) (slice_index h.slots s) (get_or m.stack s is.Unset)
  pub length_is : length m.frame ≡ length packet.frame
  pub window : (i : ℕ) → i < 256 → slice_index m.frame i ≡ v (slice_index h.window i)
  pub rest : (i : ℕ) → 256 ≤ i → slice_index m.frame i ≡ slice_index packet.frame i
  pub target : m.target ≡ v h.target
  pub ifindex : m.ifindex ≡ packet.ifindex
  pub time : m.time ≡ packet.time

-- ---- among so many cells

-- a pointer into map q whose cells are there, with words enough for a key
pub record IsPointer (decls : List MapDecl) (n : ℕ) (q : ℕ) (p : PointerView) : Type 0 where
  pub found : p.found < n
  pub key : All (λ c. c < n) p.key
  pub enough : key_bytes decls q ≤ 8 * length p.key

-- what a kind with data names is there, which no cell is of a place in the packet that is not known
abbrev pub Counts : List MapDecl → ℕ → List PointerView → Kind → ℕ → Type 0
Counts decls n ps (Num (Between lo hi)) c = c < n
Counts decls n ps (Maybe q j) c = (c < length ps) × IsPointer decls n q (pointer_at ps c)
Counts decls n ps (Entry q o) c = (c < length ps) × IsPointer decls n q (pointer_at ps c)
Counts decls n ps (Num (Known a)) c = Unit {0}
Counts decls n ps (Packet o) c = Unit {0}
Counts decls n ps (Var b f) c = ⊥
Counts decls n ps End c = Unit {0}
Counts decls n ps (Stack o) c = Unit {0}
Counts decls n ps Ctx c = Unit {0}
Counts decls n ps (MapRef q) c = Unit {0}
Counts decls n ps Unset c = Unit {0}
Counts decls n ps Stale c = Unit {0}
Counts decls n ps Mixed c = Unit {0}

-- All that counts is there; offsets into the packet do not vary.
pub record AreInside (decls : List MapDecl) (n : ℕ) (ps : List PointerView) (h : RegisterCells) (k : Kinds) : Type 0 where
  pub registers : (r : ℕ) → r ≤ 10 → Counts decls n ps (get_or k.registers r Unset) (slice_index h.registers r)
  pub slots : (s : ℕ) → s < 64 → Counts decls n ps (get_or k.slots s Unset) (slice_index h.slots s)
  pub window : (i : ℕ) → i < 256 → slice_index h.window i < n
  pub target : h.target < n
  pub offsets : k.offsets ≡ Fixed

-- ---- numbers

-- the number that is known, or that a cell holds
abbrev pub number_of : (ℕ → ℕ) → Number → ℕ → ℕ
number_of v (Known n) c = n
number_of v (Between lo hi) c = v c

-- its cell is there
abbrev pub IsThere : ℕ → Number → ℕ → Type 0
IsThere n (Known a) c = Unit {0}
IsThere n (Between lo hi) c = c < n
