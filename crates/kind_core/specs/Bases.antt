-- Places in the packet that are not known: a base, which the sum at a node gave, and a distance from it.
use Rattle.std.specs.Prelude.{ℕ, ℤ, pos, negsuc, ◌+◌, ◌==◌, ◌+ℤ◌, nat_le, ◌&&◌, Bool, if◌then◌else◌, Option, Some, None}
use Rattle.std.specs.Int.{int_min, int_max}
use Rattle.kind_core.specs.declared.number.Number.{Number}
use Rattle.kind_core.specs.declared.number.Number.TheVariants.{Between}
use Rattle.kind_core.specs.declared.base.Base.{Base}
use Rattle.kind_core.specs.declared.base.Bounds.{Bounds}
use Rattle.kind_core.specs.declared.kind.Kind.{Kind}
use Rattle.kind_core.specs.declared.kind.Kind.TheVariants.{Num, Packet, Var}

-- ---- sums

-- a place in the first 256 bytes of the packet, and bounds there
abbrev pub in_window : ℤ → Option ℕ
in_window (pos a) = if nat_le a 256 then Some a else None
in_window (negsuc a) = None

abbrev pub bounds_of : Option ℕ → Option ℕ → Option Bounds
bounds_of (Some lo) (Some hi) = Some (record { low = lo; high = hi })
bounds_of (Some lo) None = None
bounds_of None o = None

abbrev pub bounds_in : ℤ → ℤ → Option Bounds
bounds_in lo hi = bounds_of (in_window lo) (in_window hi)

-- where a pointer into the packet and a number that is not known lead: to a new base between these bounds
abbrev pub base_from : Kind → Number → Option Bounds
base_from (Packet o) (Between lo hi) = bounds_in (pos (o + lo)) (pos (o + hi))
base_from (Var b f) (Between lo hi) = bounds_in ((pos b.bounds.low +ℤ f) +ℤ pos lo) ((pos b.bounds.high +ℤ f) +ℤ pos hi)
base_from k n = None

-- the number stands on either side
abbrev pub base_sum : Kind → Kind → Option Bounds
base_sum (Num n) k = base_from k n
base_sum k (Num n) = base_from k n
base_sum k j = None

-- A base is made by a sum, and nothing is checked from it on: at least 256 bytes before it the packet is.
abbrev pub new_base : ℕ → Bounds → Base
new_base node bounds = record { node = node; bounds = bounds; checked = negsuc 255 }

-- ---- what is learnt

-- more bytes from a base on are checked
abbrev pub raised_base : ℤ → Base → Base
raised_base z b = record b { checked = int_max b.checked z }

-- ---- joins

abbrev pub same_base : Base → Base → Bool
same_base a b = (a.node == b.node) && ((a.bounds.low == b.bounds.low) && (a.bounds.high == b.bounds.high))

abbrev pub joined_base : Base → Base → Base
joined_base a b = record a { checked = int_min a.checked b.checked }
