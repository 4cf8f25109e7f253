-- What is known where two edges meet: equal kinds stay, two numbers are a number, what is unset on one edge is unset, and other kinds
-- that differ are mixed.
use Rattle.std.specs.Prelude.{◌≡◌, ◌==◌, ◌&&◌, min, if◌then◌else◌, List, [], ◌∷◌}
use Rattle.std.specs.Ordering.{int_eq}
use Rattle.kind_core.specs.declared.kind.Kind.{Kind}
use Rattle.kind_core.specs.declared.kind.Kind.TheVariants.{Unset, Num, Packet, Var, End, Stack, Ctx, MapRef, Maybe, Entry, Stale, Mixed}
use Rattle.kind_core.specs.declared.kind.Kinds.{Kinds}
use Rattle.kind_core.specs.declared.kind.Offsets.{Offsets}
use Rattle.kind_core.specs.declared.kind.Offsets.TheVariants.{Fixed, Varying}
use Rattle.kind_core.specs.Numbers.{join_number}
use Rattle.kind_core.specs.Bases.{same_base, joined_base}

abbrev pub join_kind : Kind → Kind → Kind
join_kind Unset b = Unset
join_kind a Unset = Unset
join_kind (Num a) (Num b) = Num (join_number a b)
join_kind (Packet o) (Packet p) = if o == p then Packet o else Mixed
join_kind (Var a f) (Var b g) = if same_base a b && int_eq f g then Var (joined_base a b) f else Mixed
join_kind End End = End
join_kind (Stack o) (Stack p) = if int_eq o p then Stack o else Mixed
join_kind Ctx Ctx = Ctx
join_kind (MapRef q) (MapRef r) = if q == r then MapRef q else Mixed
join_kind (Maybe q n) (Maybe r m) = if (q == r) && (n == m) then Maybe q n else Mixed
join_kind (Entry q o) (Entry r p) = if (q == r) && (o == p) then Entry q o else Mixed
join_kind Stale Stale = Stale
join_kind a b = Mixed

abbrev pub join_list : List Kind → List Kind → List Kind
join_list (a ∷ as') (b ∷ bs) = join_kind a b ∷ join_list as' bs
join_list (a ∷ as') [] = []
join_list [] bs = []

abbrev pub join_offsets : Offsets → Offsets → Offsets
join_offsets Varying Varying = Varying
join_offsets a b = Fixed

-- of the bytes of the packet that are checked the least count stays
abbrev pub joined : Kinds → Kinds → Kinds
joined k j = record {
  registers = join_list k.registers j.registers;
  slots = join_list k.slots j.slots;
  checked = min k.checked j.checked;
  offsets = join_offsets k.offsets j.offsets;
}

-- Joining does not depend on which edge comes first, and keeps what both edges bring.
abbrev pub JoinIsCommutative : Type 0
JoinIsCommutative = (k j : Kinds) → joined k j ≡ joined j k

abbrev pub JoinIsIdempotent : Type 0
JoinIsIdempotent = (k : Kinds) → joined k k ≡ k

-- So any number of edges meet in any order.
abbrev pub JoinIsAssociative : Type 0
JoinIsAssociative = (k j i : Kinds) → joined (joined k j) i ≡ joined k (joined j i)
