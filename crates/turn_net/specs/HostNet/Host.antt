-- What is said of the part that tells what the host may do.
use Rattle.std.specs.Prelude.{◌≡◌, ℕ, ◌<◌, ◌≤◌, ◌==◌, nat_lt, not, Bool, true, ◌&&◌, ◌||◌, All, List, [], ◌∷◌, length, IsTrue}
use Rattle.std.specs.List.{list_all, list_any, range_with_len}
use Rattle.std.proofs.Common.{get_or}
use Rattle.net_core.specs.declared.ports.TheConstants.{HOST_WRITE}
use Rattle.net_core.specs.Nets.{Tree, TConst}
use Rattle.net_core.specs.Ports.{port_list}
use Rattle.net_core.specs.Value.{word, bit, nothing, Env, value}
use Rattle.net_core.specs.Clock.{Stored, done}
use Rattle.net_core.specs.Width.{Scope, width_of}
use Rattle.block_core.specs.design_rules.FormedSyntax.{depth, prefixes_apart, statement_spelled}
use Rattle.net_core.specs.ProductRules.Products.{is_flat}
use Rattle.block_core.specs.ProductBlocks.Alone.{IsFree}
use Rattle.block_core.specs.declared.name.Name.{Name}
use Rattle.block_core.specs.declared.name.Name.TheVariants as name
use Rattle.block_core.specs.Blocks.{BlockTree, Whole, Among}
use Rattle.block_core.specs.Parts.{Solve, Goes, Within}
use Rattle.block_core.specs.Order.{Reads, IsBefore, InOrder}
use Rattle.block_core.specs.Formed.{block_wires, names_scope, IsTypedBlock, StatementReads, IsThere}
use Rattle.block_core.specs.BlockForms.WellFormed.{wire_spelled}
use Rattle.control_net.specs.declared.ring_net.names.Counter.{Counter}
use Rattle.control_net.specs.declared.ring_net.names.Counter.TheVariants.{Given, Gathered}
use Rattle.control_net.specs.declared.ring_net.names.Register.TheVariants.{Lap, Slot}
use Rattle.control_net.specs.RingNet.Names.{register_name}
use Rattle.control_net.specs.RingNet.Ring.{slot, lap, IsNear}
use Rattle.turn_net.specs.declared.host_net.names.HostNets.{HostNets}
use Rattle.turn_net.specs.declared.host_net.names.Wire.TheVariants.{Idle, Ready, Writes}
use Rattle.turn_net.specs.HostNet.Names.{wire_name}

-- ---- what the part sees, and what it says of it

-- In a clock: a frame has begun to come and has not ended; how many answers are given wholly, and how many frames have come wholly; the commit place holds a
-- packet, and how far this is through its operations; the host has something to write.
pub record Signals : Type 0 where
  pub partial : Bool
  pub given : ℕ
  pub gathered : ℕ
  pub present : Bool
  pub done : ℕ
  pub write : Bool

-- no frame is inside, and none has begun
abbrev pub idle : Signals → Bool
idle i = not i.partial && i.gathered == i.given

-- The host is heard, except while a packet is amid its operations and so will not be sent back.
abbrev pub ready : Signals → Bool
ready i = idle i || not (i.present && nat_lt 0 i.done)

-- It writes where one of so many maps lets it.
abbrev pub writes : Signals → (ℕ → Bool) → ℕ → Bool
writes i lets maps = (ready i && i.write) && list_any lets (range_with_len 0 maps)

-- ---- a clock

-- the number of a frame, as a counter of control has it: there are so many slots, and their numbers have so many bits
pub record Counts {P : Type 0} (slots bits : ℕ) (control : P) (k : Counter) (n : ℕ) (v : Env (Name P)) : Type 0 where
  pub slot : v.net (register_name control (Slot k)) ≡ word bits (slot slots n)
  pub lap : v.net (register_name control (Lap k)) ≡ bit (lap slots n)

-- the nets of other parts have these values; no more frames are inside than there are slots
pub record Sees {P : Type 0} (slots slot_bits done_bits : ℕ) (nets : HostNets P) (i : Signals) (v : Env (Name P)) : Type 0 where
  pub near : IsNear slots i.given i.gathered
  pub given : Counts slots slot_bits nets.control Given i.given v
  pub gathered : Counts slots slot_bits nets.control Gathered i.gathered v
  pub partial : v.net nets.partial ≡ bit i.partial
  pub present : v.net nets.present ≡ bit i.present
  pub done : v.net nets.done ≡ word done_bits i.done
  pub write : v.net (name.Port HOST_WRITE) ≡ bit i.write

-- the tree that says whether a map lets the host write
abbrev pub may_tree : {N : Type 0} → List (Tree N) → ℕ → Tree N
may_tree may k = get_or may k (TConst nothing)

-- ---- the block

-- of these widths
pub record HaveWidths {P : Type 0} (s : Scope (Name P)) (nets : HostNets P) : Type 0 where
  pub partial : s.net nets.partial ≡ 1
  pub present : s.net nets.present ≡ 1
  pub done : 0 < s.net nets.done
  pub given_lap : s.net (register_name nets.control (Lap Given)) ≡ 1
  pub gathered_lap : s.net (register_name nets.control (Lap Gathered)) ≡ 1
  pub slot_some : 0 < s.net (register_name nets.control (Slot Given))
  pub slots : s.net (register_name nets.control (Slot Gathered)) ≡ s.net (register_name nets.control (Slot Given))

-- each net of another part is such a one
pub record AreNets {P : Type 0} (q : Name P → Type 0) (nets : HostNets P) : Type 0 where
  pub partial : q nets.partial
  pub present : q nets.present
  pub done : q nets.done

-- a tree that can be spelled inside others
pub record IsShallow {N : Type 0} (t : Tree N) : Type 0 where
  pub low : depth t ≤ 32
  pub apart : prefixes_apart t ≡ true

-- The block: wires alone, whether no frame is inside, whether the host is heard, and whether it writes. It is well typed and in order where the nets and the
-- trees that it is made with are; those may read its first wire.
pub record IsHost {P : Type 0} (part : P) (nets : HostNets P) (may : List (Tree (Name P))) (b : BlockTree (Name P)) : Type 0 where
  pub registers : b.registers ≡ []
  pub memories : b.memories ≡ []
  pub wires : block_wires b ≡ 1 ∷ 1 ∷ 1 ∷ []
  pub typed : (d : Whole P) → d.block part ≡ b → HaveWidths (names_scope d port_list) nets → All (λ t. width_of (names_scope d port_list) t ≡ 1) may → IsTypedBlock d port_list b
  pub ordered : (d : Whole P) (before : List P) → Among nets.control d.parts → AreNets (IsBefore d before part 0) nets → All (Reads (IsBefore d before part 2)) may → InOrder d before part 0 b.wires
  pub reads : (d : Whole P) → StatementReads (IsThere d) b.statement
  pub within : Within 0 0 b.statement
  pub wires_spelled : length may ≤ 16 → All IsShallow may → IsTrue (list_all wire_spelled b.wires)
  pub statement_spelled : IsTrue (statement_spelled b.statement)
  pub free : ((made : Name P → Bool) → All (λ t. is_flat made t ≡ true) may) → IsFree b
  pub goes : (v : Env (Name P)) → Goes v b.wires
  pub stays : (v : Env (Name P)) (s : Stored) → done v b.statement s ≡ s
  pub idle : (v : Env (Name P)) (slots slot_bits done_bits : ℕ) (i : Signals) → Solve v part 0 b.wires → Sees slots slot_bits done_bits nets i v → v.net (wire_name part Idle) ≡ bit (idle i)
  pub ready : (v : Env (Name P)) (slots slot_bits done_bits : ℕ) (i : Signals) → Solve v part 0 b.wires → Sees slots slot_bits done_bits nets i v → v.net (wire_name part Ready) ≡ bit (ready i)
  pub writes : (v : Env (Name P)) (slots slot_bits done_bits : ℕ) (i : Signals) (lets : ℕ → Bool) → Solve v part 0 b.wires → Sees slots slot_bits done_bits nets i v → ((k : ℕ) → k < length may → value v (may_tree may k) ≡ bit (lets k)) → v.net (wire_name part Writes) ≡ bit (writes i lets (length may))
