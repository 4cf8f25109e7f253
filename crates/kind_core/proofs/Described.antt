-- What describes a machine.
use Rattle.std.proofs.Common.{ℕ, ℤ, zero, suc, ◌==◌, min, max, inl, inr, Bool, true, false, cond, refl, subst, arith, List, [], ◌∷◌, get_or, replicate}
use Rattle.xdp_machine.specs.xdp_maps.State.{MapState}
use Rattle.xdp_machine.specs.Values.{Value}
use Rattle.xdp_machine.specs.Values as is
use Rattle.xdp_machine.specs.State as machine
use Rattle.xdp_machine.specs.State.{Machine}
use Rattle.kind_core.specs.declared.number.Number.{Number}
use Rattle.kind_core.specs.declared.number.Number.TheVariants.{Known, Between}
use Rattle.kind_core.specs.declared.kind.Kind.{Kind}
use Rattle.kind_core.specs.declared.kind.Kind.TheVariants.{Unset, Num, Packet, Var, End, Stack, Ctx, MapRef, Maybe, Entry, Stale, Mixed}
use Rattle.kind_core.specs.declared.base.Base.{Base}
use Rattle.kind_core.specs.declared.kind.Kinds.{Kinds}
use Rattle.std.proofs.lemmas.Int.{ints}
use Rattle.kind_core.specs.Numbers.{join_number}
use Rattle.kind_core.specs.Bases.{joined_base}
use Rattle.kind_core.specs.Kinds.{first_registers}
use Rattle.kind_core.specs.Joins.{join_kind, join_list, joined}
use Rattle.kind_core.specs.Describes.{World, Describes, DescribesNumber, IsFrom, DescribesMachine, StartIsDescribed, JoinDescribes}
use Rattle.kind_core.proofs.JoinLaws.{join_is_commutative}
use Rattle.kind_core.proofs.Order.{int_min_left}

join_number-left : (a b : Number) (v : Value) → DescribesNumber a v → DescribesNumber (join_number a b) v
join_number-left (Known a) (Known b) v h = by_test (a == b)
  where
    by_test : (t : Bool) → DescribesNumber (cond t (Known a) (Between (min a b) (max a b))) v
    by_test true = h
    by_test false = (a, h, omega arith, omega arith)
join_number-left (Known a) (Between lo hi) v h = (a, h, omega arith, omega arith)
join_number-left (Between lo hi) n v h = (h.0, h.1, omega (arith, h.2), omega (arith, h.3))

-- where less is checked of a base
joined_from : (w : World) (a b : Base) (f : ℤ) (v : Value) → IsFrom w a f v → IsFrom w (joined_base a b) f v
joined_from w a b f v d = record {
  place = d.place;
  before = d.before;
  gave = d.gave;
  low = d.low;
  high = d.high;
  inside = d.inside;
  least = d.least;
  most = d.most;
  checked = omega (arith, ints, d.checked, int_min_left a.checked b.checked);
  value = d.value;
}

choice : (w : World) (maps : MapState) (t : Bool) (k : Kind) (v : Value) → Describes w maps k v → Describes w maps (cond t k Mixed) v
choice w maps true k v h = h
choice w maps false k v h = tt

-- a join describes what its left side does
join_kind-left : (w : World) (maps : MapState) (a b : Kind) (v : Value) → Describes w maps a v → Describes w maps (join_kind a b) v
join_kind-left w maps Unset b v h = tt
join_kind-left w maps a Unset v h = tt
join_kind-left w maps (Num a) (Num b) v h = join_number-left a b v h
join_kind-left w maps (Packet o) (Packet p) v h = choice w maps _ (Packet o) v h
join_kind-left w maps (Var a f) (Var b g) v h = choice w maps _ (Var (joined_base a b) f) v (joined_from w a b f v h)
join_kind-left w maps End End v h = h
join_kind-left w maps (Stack o) (Stack p) v h = choice w maps _ (Stack o) v h
join_kind-left w maps Ctx Ctx v h = h
join_kind-left w maps (MapRef q) (MapRef r) v h = choice w maps _ (MapRef q) v h
join_kind-left w maps (Maybe q n) (Maybe r m) v h = choice w maps _ (Maybe q n) v h
join_kind-left w maps (Entry q o) (Entry r p) v h = choice w maps _ (Entry q o) v h
join_kind-left w maps Stale Stale v h = h
join_kind-left w maps a b v h = tt

-- and so with lists
join_list-left : (w : World) (maps : MapState) (as' bs : List Kind) (vs : List Value)
    → ((r : ℕ) → Describes w maps (get_or as' r Unset) (get_or vs r is.Unset))
    → (r : ℕ) → Describes w maps (get_or (join_list as' bs) r Unset) (get_or vs r is.Unset)
join_list-left w maps [] bs vs h r = tt
join_list-left w maps (a ∷ as') [] vs h r = tt
join_list-left w maps (a ∷ as') (b ∷ bs) vs h zero = join_kind-left w maps a b (get_or vs zero is.Unset) (h zero)
join_list-left w maps (a ∷ as') (b ∷ bs) [] h (suc r) = join_list-left w maps as' bs [] (λ s. h (suc s)) r
join_list-left w maps (a ∷ as') (b ∷ bs) (v ∷ vs) h (suc r) = join_list-left w maps as' bs vs (λ s. h (suc s)) r

joined-left : (w : World) (k j : Kinds) (m : Machine) → DescribesMachine w k m → DescribesMachine w (joined k j) m
joined-left w k j m d = record {
  registers = join_list-left w m.maps k.registers j.registers m.registers d.registers;
  slots = join_list-left w m.maps k.slots j.slots m.stack d.slots;
  checked = omega (arith, d.checked);
  frame = d.frame;
}

pub join_describes : JoinDescribes
join_describes w k j m (inl d) = joined-left w k j m d
join_describes w k j m (inr d) = subst (λ x. DescribesMachine w x m) (join_is_commutative j k) (joined-left w j k m d)

-- zeros
zeros : (w : World) (maps : MapState) (n : ℕ) (s : ℕ) → Describes w maps (get_or (replicate n (Num (Known 0))) s Unset) (get_or (replicate n (is.Number 0)) s is.Unset)
zeros w maps zero s = tt
zeros w maps (suc n) zero = refl
zeros w maps (suc n) (suc s) = zeros w maps n s

firsts : (w : World) (maps : MapState) (r : ℕ) → Describes w maps (get_or first_registers r Unset) (get_or machine.first_registers r is.Unset)
firsts w maps zero = tt
firsts w maps (suc zero) = refl
firsts w maps (suc (suc zero)) = tt
firsts w maps (suc (suc (suc zero))) = tt
firsts w maps (suc (suc (suc (suc zero)))) = tt
firsts w maps (suc (suc (suc (suc (suc zero))))) = tt
firsts w maps (suc (suc (suc (suc (suc (suc zero)))))) = tt
firsts w maps (suc (suc (suc (suc (suc (suc (suc zero))))))) = tt
firsts w maps (suc (suc (suc (suc (suc (suc (suc (suc zero)))))))) = tt
firsts w maps (suc (suc (suc (suc (suc (suc (suc (suc (suc zero))))))))) = tt
firsts w maps (suc (suc (suc (suc (suc (suc (suc (suc (suc (suc zero)))))))))) = refl
firsts w maps (suc (suc (suc (suc (suc (suc (suc (suc (suc (suc (suc r))))))))))) = tt

pub start_is_described : StartIsDescribed
start_is_described offsets gave m e f = record {
  registers = λ r. rw e (firsts _ m.maps r);
  slots = λ s. rw f (zeros _ m.maps 64 s);
  checked = omega arith;
  frame = refl;
}
