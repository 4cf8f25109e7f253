-- What is known and held along the edges of a jump.
use Rattle.std.proofs.Common.{◌≡◌, ◌≢◌, ℕ, pos, ◌≤◌, Bool, true, false, if◌then◌else◌, List, get_or, refl, sym, ◌∙◌, subst}
use Rattle.std.specs.Prelude.{Some, Ok, Err, IfOk, slice_index}
use Rattle.xdp_machine.specs.bpf_isa.declared.operation.Width.{Width}
use Rattle.xdp_machine.specs.bpf_isa.declared.operation.JumpCode.{JumpCode}
use Rattle.xdp_machine.specs.bpf_isa.declared.operation.Src.{Src}
use Rattle.xdp_machine.specs.bpf_isa.declared.operation.Op.TheVariants.{Jump}
use Rattle.xdp_machine.specs.bpf_isa.declared.instruction.Insn.{Insn}
use Rattle.xdp_machine.specs.xdp_maps.declared.decl.MapDecl.{MapDecl}
use Rattle.xdp_machine.specs.xdp_maps.State.{MapState}
use Rattle.xdp_machine.specs.Values.{Value}
use Rattle.xdp_machine.specs.Values as is
use Rattle.xdp_machine.specs.State.{Machine, PacketIn}
use Rattle.xdp_machine.specs.State as machine
use Rattle.xdp_machine.specs.Ranges.{IsInRange}
use Rattle.xdp_machine.specs.Step as step
use Rattle.xdp_machine.specs.Pointers.{compared}
use Rattle.kind_core.specs.declared.kind.Kind.{Kind}
use Rattle.kind_core.specs.declared.kind.Kind.TheVariants.{Unset}
use Rattle.kind_core.specs.declared.kind.Kinds.{Kinds}
use Rattle.kind_core.specs.Tests.{passed}
use Rattle.kind_core.specs.Effects.{effect_of, verdict}
use Rattle.kind_core.specs.Edges.{changed, changed_if, transferred}
use Rattle.kind_core.specs.Describes.{World, Describes, DescribesMachine}
use Rattle.kind_core.specs.Soundness.{Stands, IsPresent, ConditionsAreSound, LaterDescribes}
use Rattle.cell_core.specs.Cells.{on}
use Rattle.operator_cells.specs.declared.held_cells.machine_cells.RegisterCells.{RegisterCells}
use Rattle.operator_cells.specs.HeldCells.RegisterCells.{PointerView, pointer_at, key_of, Holds, Counts}
use Rattle.operator_cells.specs.HeldCells.Carrying.{IsKnown}
use Rattle.edge_cells.specs.Leaving.{EdgesAreKnown, EdgesAreInside, SingleEdgesAreKnown}
use Rattle.edge_cells.proofs.JumpKindLaws.{Along, same, null, entry, further, IsEdge, edge_of, edge-any, single_edge}

counts-along : {P : ℕ → Type 0} (decls : List MapDecl) (n : ℕ) (ps : List PointerView) (a b : Kind) (c : ℕ) → Along P a b → Counts decls n ps a c → Counts decls n ps b c
counts-along decls n ps a b c (same k) h = h
counts-along decls n ps a b c (null q m) h = tt
counts-along decls n ps a b c (entry q m p) h = h
counts-along decls n ps a b c (further x y f) h = h

pub set-along : {P : ℕ → Type 0} (a b : Kind) → Along P a b → a ≢ Unset → b ≢ Unset
set-along a b (same k) h = h
set-along a b (null q m) h = λ e. absurd (cc)
set-along a b (entry q m p) h = λ e. absurd (cc)
set-along a b (further x y f) h = λ e. absurd (cc)

-- an answer that is an entry was found
holds-along : {P : ℕ → Type 0} (w : World) (maps : MapState) (decls : List MapDecl) (v : ℕ → ℕ) (ps : List PointerView) (a b : Kind) (c : ℕ) (x : Value) → Along P a b → Describes w maps b x → Holds decls v ps a c x → Holds decls v ps b c x
holds-along w maps decls v ps a b c x (same k) d h = h
holds-along w maps decls v ps a b c x (null q m) d h = tt
holds-along w maps decls v ps a b c x (further y z f) d h = h
holds-along w maps decls v ps a b c x (entry q m p) d h = by (on (v (pointer_at ps c).found)) refl h
  where
    by : (t : Bool) → on (v (pointer_at ps c).found) ≡ t → x ≡ (if t then is.Entry q (key_of decls v q (pointer_at ps c)) (pos 0) else is.Number 0)
        → (on (v (pointer_at ps c).found) ≡ true) × (x ≡ is.Entry q (key_of decls v q (pointer_at ps c)) (pos 0))
    by true e g = (e, g)
    by false e g = let f : x ≡ is.Entry q d.0 (pos 0) = d.2 in absurd (cc)

pub edges_are_inside : EdgesAreInside
edges_are_inside decls n ps k h i node w c s taken is inside =
    let e = edge_of decls k i node w c s taken is in
    record {
      registers = λ r l. counts-along decls n ps _ _ (slice_index h.registers r) (e.registers r) (inside.registers r l);
      slots = λ r l. counts-along decls n ps _ _ (slice_index h.slots r) (e.slots r) (inside.slots r l);
      window = inside.window;
      target = inside.target;
      offsets = e.offsets ∙ inside.offsets;
    }

placed-range : (m : Machine) (place : ℕ) → IsInRange m → IsInRange (record m { place = place })
placed-range m place r = record { registers = r.registers; stack = r.stack; frame = r.frame; frame_short = r.frame_short; ifindex = r.ifindex; time = r.time; target = r.target; maps = r.maps }

-- the node of the world may be any later one
abbrev at_node : World → ℕ → World
at_node w node = record { frame = w.frame; node = node; gave = w.gave }

known-along : {P : ℕ → Type 0} (decls : List MapDecl) (packet : PacketIn) (v : ℕ → ℕ) (ps : List PointerView) (node to place : ℕ) (k j : Kinds) (h : RegisterCells) (m : Machine) → (known : IsKnown decls packet v ps node k h m)
    → node ≤ to → DescribesMachine (at_node known.world node) j m → IsEdge P k j → IsKnown decls packet v ps to j h (record m { place = place })
known-along decls packet v ps node to place k j h m known l d e = record {
  world = at_node known.world node;
  node_is = l;
  stands = record {
    described = record { registers = d.registers; slots = d.slots; checked = d.checked; frame = d.frame };
    registers = e.register_count ∙ known.stands.registers;
    slots = e.slot_count ∙ known.stands.slots;
    stack = known.stands.stack;
    range = placed-range m place known.in_range;
    values = known.stands.values;
  };
  in_range = placed-range m place known.in_range;
  decls_are = known.decls_are;
  filled = λ i p. set-along _ _ (e.slots i) (known.filled i p);
  held = record {
    registers = λ i p. holds-along (at_node known.world node) m.maps decls v ps _ _ (slice_index h.registers i) (machine.register m.registers i) (e.registers i) (d.registers i) (known.held.registers i p);
    slots = λ i p. holds-along (at_node known.world node) m.maps decls v ps _ _ (slice_index h.slots i) (get_or m.stack i is.Unset) (e.slots i) (d.slots i) (known.held.slots i p);
    length_is = known.held.length_is;
    window = known.held.window;
    rest = known.held.rest;
    target = known.held.target;
    ifindex = known.held.ifindex;
    time = known.held.time;
  };
}

-- the kinds on the edge that is taken describe the machine
taken-described : ConditionsAreSound → (decls : List MapDecl) (world : World) (k : Kinds) (m : Machine) (i : Insn) (w : Width) (c : JumpCode) (s : Src) (taken : Bool) → Stands world k m → m.maps.decls ≡ decls
    → i.op ≡ Jump w c s → verdict (effect_of decls k i) ≡ passed → compared w c (machine.register m.registers i.dst) (step.operand m.registers i s) ≡ Some taken
    → DescribesMachine world (transferred decls k i world.node false taken) m
taken-described sound decls world k m i w c s taken stands decls_are is ok cmp =
    subst (λ (ds : List MapDecl). verdict (effect_of ds k i) ≡ passed → DescribesMachine world (transferred ds k i world.node false taken) m) decls_are
    (λ passes. by (effect_of m.maps.decls k i) passes (sound world k m i w c s stands is)) ok
  where
    by : (r : _) → verdict r ≡ passed
        → IfOk r (λ f. (t : Bool) × (compared w c (machine.register m.registers i.dst) (step.operand m.registers i s) ≡ Some t) × IsPresent k i t × DescribesMachine world (changed world.node false t k f) m)
        → DescribesMachine world (changed_if world.node false taken k r) m
    by (Ok f) passes found =
        let both : Some found.0 ≡ Some taken = sym found.1 ∙ cmp in
        let one : found.0 ≡ taken = cc both in
        subst (λ (t : Bool). DescribesMachine world (changed world.node false t k f) m) one found.3
    by (Err y) passes found = absurd (cc passes)

pub edges_are_known : ConditionsAreSound → LaterDescribes → EdgesAreKnown
edges_are_known sound later decls packet v ps node to place k h m i w c s taken known l is ok cmp =
    known-along decls packet v ps node to place k (transferred decls k i node false taken) h m known l
    (taken-described sound decls (at_node known.world node) k m i w c s taken (record {
      described = later known.world (at_node known.world node) k m (record { frame = refl; node = known.node_is; gave = λ n p. refl }) known.stands.described;
      registers = known.stands.registers;
      slots = known.stands.slots;
      stack = known.stands.stack;
      range = known.stands.range;
      values = known.stands.values;
    }) known.decls_are is ok cmp)
    (edge_of decls k i node w c s taken is)

pub single_edges_are_known : LaterDescribes → SingleEdgesAreKnown
single_edges_are_known later decls packet v ps node to place k h m i w taken known l is =
    subst (λ (j : Kinds). IsKnown decls packet v ps to j h (record m { place = place })) (sym (single_edge decls k i node w taken is))
    (known-along decls packet v ps node to place k k h m known l
    (later known.world (at_node known.world node) k m (record { frame = refl; node = known.node_is; gave = λ n p. refl }) known.stands.described) (edge-any {P = λ n. ⊥} k k refl refl refl))
