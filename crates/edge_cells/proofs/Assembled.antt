-- What is held at a node, from its parts.
use Rattle.std.proofs.Common.{◌≡◌, ℕ, ◌<◌, ◌≤◌, List, [], ◌∷◌, length, get_or, sym, ◌∙◌, ap, subst, arith}
use Rattle.std.specs.Prelude.{ℤ, ◌≤ℤ◌, All, slice_index}
use Rattle.std.proofs.lemmas.Int.{ints}
use Rattle.xdp_machine.specs.xdp_maps.declared.decl.MapDecl.{MapDecl}
use Rattle.xdp_machine.specs.xdp_maps.State.{MapState}
use Rattle.xdp_machine.specs.Values.{Value}
use Rattle.xdp_machine.specs.Values as is
use Rattle.xdp_machine.specs.State.{PacketIn, Machine}
use Rattle.xdp_machine.specs.State as machine
use Rattle.kind_core.specs.declared.number.Number.{Number}
use Rattle.kind_core.specs.declared.number.Number.TheVariants.{Known, Between}
use Rattle.kind_core.specs.declared.kind.Kind.{Kind}
use Rattle.kind_core.specs.declared.kind.Kind.TheVariants.{Unset, Num, Var, Mixed}
use Rattle.kind_core.specs.declared.base.Base.{Base}
use Rattle.kind_core.specs.declared.kind.Kinds.{Kinds}
use Rattle.kind_core.specs.declared.kind.Offsets.TheVariants.{Fixed}
use Rattle.kind_core.specs.NumberBounds.{lower, upper}
use Rattle.kind_core.specs.Describes.{World, Describes, IsFrom, DescribesMachine}
use Rattle.kind_core.specs.Soundness.{Stands}
use Rattle.cell_core.specs.Cells.{CellView, IsRun}
use Rattle.operator_cells.specs.Making.{Grows}
use Rattle.operator_cells.specs.declared.held_cells.machine_cells.RegisterCells.{RegisterCells}
use Rattle.operator_cells.specs.declared.held_cells.way.Way.{Way}
use Rattle.operator_cells.specs.HeldCells.RegisterCells.{PointerView, Holds, AreHeld}
use Rattle.operator_cells.specs.HeldCells.Carrying.{IsKnown}
use Rattle.edge_cells.specs.declared.part.Part.{Part}
use Rattle.edge_cells.specs.declared.part.Part.TheVariants.{Register, Slot, Byte, Target}
use Rattle.edge_cells.specs.Widening.{Widens, AreWider, AreFilled}
use Rattle.edge_cells.specs.Meeting.{IsPart, held_at, kind_at, IsSaid, Extends, AreWays, Meets, first_on}
use Rattle.edge_cells.specs.Joining.{Guards, Joins}
use Rattle.operator_cells.proofs.MakingLaws.{grown}
use Rattle.edge_cells.proofs.ExtendingLaws.{extends_none, holds_later, part_counts, inside_from_parts}
use Rattle.edge_cells.proofs.WayLaws.{first_below}

number-wider : (w : World) (maps : MapState) (lo hi : ℕ) (n : Number) (x : Value) → lo ≤ lower n → upper n ≤ hi → Describes w maps (Num n) x → Describes w maps (Num (Between lo hi)) x
number-wider w maps lo hi (Between l u) x low high h = (h.0, h.1, omega (arith, low, h.2), omega (arith, high, h.3))
number-wider w maps lo hi (Known a) x low high h = (a, h, low, high)

-- of a base from which less is checked
less-checked : (w : World) (j : Base) (z f : ℤ) (x : Value) → z ≤ℤ j.checked → IsFrom w j f x → IsFrom w (record j { checked = z }) f x
less-checked w j z f x less d = record {
  place = d.place;
  before = d.before;
  gave = d.gave;
  low = d.low;
  high = d.high;
  inside = d.inside;
  least = d.least;
  most = d.most;
  checked = omega (arith, ints, less, d.checked);
  value = d.value;
}

describes-wider : (w : World) (maps : MapState) (a b : Kind) (x : Value) → Widens a b → Describes w maps b x → Describes w maps a x
describes-wider w maps Unset b x h d = tt
describes-wider w maps Mixed b x h d = tt
describes-wider w maps (Num (Between lo hi)) b x h d = number-wider w maps lo hi h.0 x h.2 h.3 (subst (λ (k : Kind). Describes w maps k x) h.1 d)
describes-wider w maps (Num (Known n)) b x h d = subst (λ (k : Kind). Describes w maps k x) (sym h) d
describes-wider w maps (Var a f) b x h d = subst (λ (j : Base). IsFrom w j f x) (sym h.2) (less-checked w h.0 a.checked f x h.3 (subst (λ (k : Kind). Describes w maps k x) h.1 d))
describes-wider w maps a b x h d = subst (λ (k : Kind). Describes w maps k x) (sym h) d

stands-wider : (w : World) (k j : Kinds) (m : Machine) → AreWider k j → Stands w j m → Stands w k m
stands-wider w k j m h s = record {
  described = record {
    registers = λ r. describes-wider w m.maps _ _ _ (h.registers r) (s.described.registers r);
    slots = λ i. describes-wider w m.maps _ _ _ (h.slots i) (s.described.slots i);
    checked = omega (arith, h.checked, s.described.checked);
    frame = s.described.frame;
  };
  registers = h.register_count ∙ s.registers;
  slots = h.slot_count ∙ s.slots;
  stack = s.stack;
  range = s.range;
  values = s.values;
}

said : (w : World) (maps : MapState) (a : Kind) (x : Value) → Describes w maps a x → IsSaid a x
said w maps (Num (Known n)) x d = d
said w maps (Num (Between lo hi)) x d = tt
said w maps a x d = tt

-- the value of a part of a machine
abbrev value_at : Part → Machine → Value
value_at (Register r) m = machine.register m.registers r
value_at (Slot s) m = get_or m.stack s is.Unset
value_at (Byte i) m = is.Number (slice_index m.frame i)
value_at Target m = is.Number m.target

part-said : (w : World) (k : Kinds) (m : Machine) (part : Part) → DescribesMachine w k m → IsSaid (kind_at part k) (value_at part m)
part-said w k m (Register r) d = said w m.maps (get_or k.registers r Unset) (machine.register m.registers r) (d.registers r)
part-said w k m (Slot s) d = said w m.maps (get_or k.slots s Unset) (get_or m.stack s is.Unset) (d.slots s)
part-said w k m (Byte i) d = tt
part-said w k m Target d = tt

part-held : (decls : List MapDecl) (packet : PacketIn) (v : ℕ → ℕ) (ps : List PointerView) (h : RegisterCells) (k : Kinds) (m : Machine) (part : Part) → IsPart part → AreHeld decls packet v ps h k m
    → Holds decls v ps (kind_at part k) (held_at part h) (value_at part m)
part-held decls packet v ps h k m (Register r) l a = a.registers r l
part-held decls packet v ps h k m (Slot s) l a = a.slots s l
part-held decls packet v ps h k m (Byte i) l a = ap is.Number (a.window i l)
part-held decls packet v ps h k m Target l a = ap is.Number a.target

-- what is asked of the parts of what is held
abbrev pub AreMet : List MapDecl → List CellView → List PointerView → List Way → Kinds → RegisterCells → Type 0
AreMet decls cells ps here k h = (part : Part) → IsPart part → Meets decls cells ps here part (kind_at part k) (held_at part h)

number-in : (a b : ℕ) → is.Number a ≡ is.Number b → a ≡ b
number-in a b e = cc

known-here : (decls : List MapDecl) (old new : List CellView) (ps qs : List PointerView) (here : List Way) (k : Kinds) (h : RegisterCells) → 1 ≤ length here → Extends ps qs → AreWays decls old ps here
    → All (λ e. AreWider k e.kinds) here → AreFilled k → AreMet decls new qs here k h
    → (packet : PacketIn) (v : ℕ → ℕ) (node : ℕ) (d : Way) (m : Machine) → IsRun packet new v
    → IsKnown decls packet v ps node (get_or here (first_on v here) d).kinds (get_or here (first_on v here) d).held m → IsKnown decls packet v qs node k h m
known-here decls old new ps qs here k h some more ways wider filled met packet v node d m run known =
    let i : ℕ = first_on v here in
    let l : i < length here = first_below v here some in
    let f : Way = get_or here i d in
    let lift = λ (part : Part) (p : IsPart part). (met part p).holds packet v qs d (value_at part m) run (extends_none qs)
    (part-said known.world f.kinds m part known.stands.described)
    (holds_later decls (length old) v ps qs (kind_at part f.kinds) (held_at part f.held) (value_at part m) more
    (part_counts decls (length old) ps f.held f.kinds part p (ways i d l).1)
    (part-held decls packet v ps f.held f.kinds m part p known.held)) in
    record {
      world = known.world;
      node_is = known.node_is;
      stands = stands-wider known.world k f.kinds m (wider i d l) known.stands;
      in_range = known.in_range;
      decls_are = known.decls_are;
      filled = filled;
      held = record {
        registers = λ r p. lift (Register r) p;
        slots = λ s p. lift (Slot s) p;
        length_is = known.held.length_is;
        window = λ j p. number-in _ _ (lift (Byte j) p);
        rest = known.held.rest;
        target = number-in _ _ (lift Target tt);
        ifindex = known.held.ifindex;
        time = known.held.time;
      };
    }

-- offsets do not vary where they do not on each edge
fixed-here : (decls : List MapDecl) (cells : List CellView) (ps : List PointerView) (here : List Way) (k : Kinds) → 1 ≤ length here → AreWays decls cells ps here → All (λ e. AreWider k e.kinds) here → k.offsets ≡ Fixed
fixed-here decls cells ps [] k some ways wider = absurd (omega (arith, some))
fixed-here decls cells ps (e ∷ here) k some ways wider = (wider 0 e (omega arith)).offsets (ways 0 e (omega arith)).1.offsets

pub joins_met : (decls : List MapDecl) (old mid new : List CellView) (ps qs : List PointerView) (here : List Way) (k : Kinds) (guard : ℕ) (h : RegisterCells) → 1 ≤ length here → AreWays decls old ps here
    → All (λ e. AreWider k e.kinds) here → AreFilled k → Guards old mid here guard → Grows mid new → Extends ps qs → AreMet decls new qs here k h → Joins decls old new ps qs here k guard h
joins_met decls old mid new ps qs here k guard h some ways wider filled guards grows more met = record {
  guards = record {
    grows = grown guards.grows grows;
    there = omega (arith, guards.there, grows.longer);
    value = λ packet v run bits. guards.value packet v (grows.run packet v run) bits;
  };
  extends = more;
  inside = inside_from_parts decls (length new) qs h k (fixed-here decls old ps here k some ways wider) (λ part p. (met part p).counts);
  known = known-here decls old new ps qs here k h some more ways wider filled met;
}
