-- Which values a kind describes, in the run of a packet.
use Rattle.std.specs.Prelude.{ℕ, ℤ, pos, negsuc, ◌≡◌, ◌<◌, ◌≤◌, ◌+ℤ◌, ◌≤ℤ◌, ◌⊎◌, List, length, get_or, replicate, is_some, IsTrue}
use Rattle.xdp_machine.specs.xdp_maps.State.{MapState, contents_at}
use Rattle.xdp_machine.specs.xdp_maps.Calls.{lookup_of}
use Rattle.xdp_machine.specs.Values.{Value}
use Rattle.xdp_machine.specs.Values as is
use Rattle.xdp_machine.specs.State as machine
use Rattle.xdp_machine.specs.State.{Machine}
use Rattle.kind_core.specs.declared.number.Number.{Number}
use Rattle.kind_core.specs.declared.number.Number.TheVariants.{Known, Between}
use Rattle.kind_core.specs.declared.base.Base.{Base}
use Rattle.kind_core.specs.declared.kind.Kind.{Kind}
use Rattle.kind_core.specs.declared.kind.Kind.TheVariants.{Unset, Num, Packet, Var, End, Stack, Ctx, MapRef, Maybe, Entry, Stale, Mixed}
use Rattle.kind_core.specs.declared.kind.Kinds.{Kinds}
use Rattle.kind_core.specs.declared.kind.Offsets.{Offsets}
use Rattle.kind_core.specs.Kinds.{start}
use Rattle.kind_core.specs.Joins.{joined}

-- the length of the frame, the number of the node, and what the lookups and the sums that make a base, at the nodes before it, gave
pub record World : Type 0 where
  pub frame : ℕ
  pub node : ℕ
  pub gave : ℕ → Value

abbrev pub DescribesNumber : Number → Value → Type 0
DescribesNumber (Known n) v = v ≡ is.Number n
DescribesNumber (Between lo hi) v = (n : ℕ) × (v ≡ is.Number n) × (lo ≤ n) × (n ≤ hi)

-- a place at a distance from a base, which the sum at a node before gave, between its bounds; what is checked from the base on is there
pub record IsFrom (w : World) (b : Base) (f : ℤ) (v : Value) : Type 0 where
  pub place : ℕ
  pub before : b.node < w.node
  pub gave : w.gave b.node ≡ is.Packet (pos place)
  pub low : b.bounds.low ≤ place
  pub high : place ≤ b.bounds.high
  pub inside : b.bounds.high ≤ 256
  pub least : negsuc 255 ≤ℤ f
  pub most : f ≤ℤ pos 256
  pub checked : (pos place +ℤ b.checked) ≤ℤ pos w.frame
  pub value : v ≡ is.Packet (pos place +ℤ f)

-- a place in the value that a map holds under a key, which is there
abbrev pub IsEntry : MapState → ℕ → ℕ → Value → Type 0
IsEntry maps q o v = (key : List ℕ) × IsTrue (is_some (lookup_of (contents_at maps q) key)) × (v ≡ is.Entry q key (pos o))

-- what was a place in a value, or null
abbrev pub WasEntry : Value → Type 0
WasEntry v = (v ≡ is.Number 0) ⊎ ((q : ℕ) × (key : List ℕ) × (o : ℤ) × (v ≡ is.Entry q key o))

abbrev pub Describes : World → MapState → Kind → Value → Type 0
Describes w maps Unset v = Unit {0}
Describes w maps (Num n) v = DescribesNumber n v
Describes w maps (Packet o) v = v ≡ is.Packet (pos o)
Describes w maps (Var b f) v = IsFrom w b f v
Describes w maps End v = v ≡ is.Packet (pos w.frame)
Describes w maps (Stack o) v = v ≡ is.Stack o
Describes w maps Ctx v = v ≡ is.Context
Describes w maps (MapRef q) v = v ≡ is.Map q
Describes w maps (Maybe q n) v = (n < w.node) × (v ≡ w.gave n) × ((v ≡ is.Number 0) ⊎ IsEntry maps q 0 v)
Describes w maps (Entry q o) v = IsEntry maps q o v
Describes w maps Stale v = WasEntry v
Describes w maps Mixed v = Unit {0}

-- each register and slot has its kind, and the checked bytes of the packet are there
pub record DescribesMachine (w : World) (k : Kinds) (m : Machine) : Type 0 where
  pub registers : (r : ℕ) → Describes w m.maps (get_or k.registers r Unset) (get_or m.registers r is.Unset)
  pub slots : (s : ℕ) → Describes w m.maps (get_or k.slots s Unset) (get_or m.stack s is.Unset)
  pub checked : k.checked ≤ length m.frame
  pub frame : length m.frame ≡ w.frame

-- The first kinds describe the start of every run: a machine with the first registers and a stack of zeros.
abbrev pub StartIsDescribed : Type 0
StartIsDescribed = (offsets : Offsets) (gave : ℕ → Value) (m : Machine) → m.registers ≡ machine.first_registers → m.stack ≡ replicate 64 (is.Number 0)
    → DescribesMachine (record { frame = length m.frame; node = 0; gave = gave }) (start offsets) m

-- Where edges meet, a machine that came along either is described.
abbrev pub JoinDescribes : Type 0
JoinDescribes = (w : World) (k j : Kinds) (m : Machine) → DescribesMachine w k m ⊎ DescribesMachine w j m → DescribesMachine w (joined k j) m
