-- Nodes whose instructions lead on along one edge.
use Rattle.std.proofs.Common.{◌≡◌, ℕ, ℤ, pos, ◌+◌, ◌<◌, ◌≤◌, ◌==◌, Bool, true, false, if◌then◌else◌, Option, Some, None, List, [], ◌∷◌, length, refl, sym, ◌∙◌, ap, subst, arith}
use Rattle.std.specs.List.{list_any}
use Rattle.std.proofs.lemmas.List.Elements.{All-nil, All-cons}
use Rattle.xdp_machine.specs.bpf_isa.Spelling.{units_of}
use Rattle.xdp_machine.specs.bpf_isa.Text.{insn_at}
use Rattle.xdp_machine.specs.bpf_isa.declared.operation.Op.{Op}
use Rattle.xdp_machine.specs.bpf_isa.declared.operation.Op.TheVariants.{Ja, Jump, Exit}
use Rattle.xdp_machine.specs.bpf_isa.declared.instruction.Insn.{Insn}
use Rattle.xdp_machine.specs.xdp_maps.declared.decl.MapDecl.{MapDecl}
use Rattle.xdp_machine.specs.State.{Code, Machine, PacketIn, begins}
use Rattle.xdp_machine.specs.Step.{Outcome, step, outcome, effect, goes_on, goes_to, Goes, NoCase}
use Rattle.xdp_machine.specs.MachineLaws.{StepsChangeOnly, StepsKeepRanges}
use Rattle.kind_core.specs.declared.kind.Kinds.{Kinds}
use Rattle.kind_core.specs.Kinds.{value_bytes}
use Rattle.kind_core.specs.Effects.{effect_of, verdict}
use Rattle.kind_core.specs.Edges.{transferred}
use Rattle.kind_core.specs.Describes.{World, DescribesMachine}
use Rattle.kind_core.specs.Soundness.{Stands, StepsAreSound, LaterDescribes, Leads as StepLeads, GoesOn, at_reference, target}
use Rattle.kind_core.proofs.TransferLaws.{IsSized, transferred_sized, is_jump, transferred_fixed}
use Rattle.cell_core.specs.Cells.{CellView}
use Rattle.cell_core.specs.Cells.{on as on_bit}
use Rattle.cell_core.specs.Sites.{SiteView, after}
use Rattle.operator_cells.specs.Making.{GrowsWith}
use Rattle.operator_cells.specs.declared.held_cells.machine_cells.RegisterCells.{RegisterCells}
use Rattle.operator_cells.specs.declared.held_cells.way.Way.{Way}
use Rattle.operator_cells.specs.HeldCells.Paths.{GraphView, At, node_at, stepped, maps_in}
use Rattle.operator_cells.specs.HeldCells.RegisterCells.{PointerView, AreHeld}
use Rattle.operator_cells.specs.HeldCells.Carrying.{IsKnown}
use Rattle.operator_cells.specs.HeldCells.Operating.{Operates}
use Rattle.operator_cells.specs.HeldCells.Steps.{AreRead, ReadsOwn}
use Rattle.edge_cells.specs.Widening.{AreFilled}
use Rattle.edge_cells.specs.NodeCells.Ends.{IsNode, IsEdge, is_reference, leads_on}
use Rattle.edge_cells.proofs.NodeCells.Branching.{at_place, step_is, stands_there, good_along, BitOff, BitSmall, GoesTo}
use Rattle.edge_cells.proofs.NodeCells.Exits.{legal_insn}
use Rattle.edge_cells.proofs.NodeCells.Turning.{IsAdded, WayMade}

-- the laws that are used
pub record Laws : Type 0 where
  pub sound : StepsAreSound
  pub later : LaterDescribes
  pub changes : StepsChangeOnly
  pub ranges : StepsKeepRanges

-- an instruction that leads on goes to the next place with what its effect makes
pub record LeadsOn (code : Code) (w : World) (k : Kinds) (m : Machine) (i : Insn) (op : Op) : Type 0 where
  pub leads : StepLeads code w k m i op
  pub plain : is_jump op ≡ false
  pub aimed : (taken : Bool) → target m.place i op taken ≡ pos (m.place + units_of op)
  pub outcome_is : outcome code m i op ≡ goes_on code.insns m.place (units_of op) (effect code.refs m i op)

leading_on : (code : Code) (w : World) (k : Kinds) (m : Machine) (i : Insn) (op : Op) → leads_on op ≡ true → GoesOn code w k m i op → LeadsOn code w k m i op
leading_on code w k m i Exit t h = absurd (cc t)
leading_on code w k m i (Ja x) t h = absurd (cc t)
leading_on code w k m i (Jump x c s) t h = absurd (cc t)
leading_on code w k m i op t h = record { leads = h; plain = refl; aimed = λ taken. refl; outcome_is = refl }

-- what it goes on with
pub record IsOn (g : GraphView) (packet : PacketIn) (v : ℕ → ℕ) (k to : ℕ) (i : Insn) (kinds : Kinds) (is_ref : Bool) (m : Machine) : Type 0 where
  pub next : Machine
  pub effect_is : effect g.code.refs m i i.op ≡ Some next
  pub goes : step g.code m ≡ Goes (at_place next (node_at g.nodes to).place)
  pub world : World
  pub node_is : world.node ≤ k + 1
  pub described : DescribesMachine world (transferred g.decls kinds i k is_ref false) (at_place next (node_at g.nodes to).place)

-- a machine of which just the place differs
described_at : (w : World) (k : Kinds) (m n : Machine) (place : ℕ) → at_place m place ≡ at_place n place → DescribesMachine w k m → DescribesMachine w k (at_place n place)
described_at w k m n place same d = subst (DescribesMachine w k) same (record { registers = d.registers; slots = d.slots; checked = d.checked; frame = d.frame })

held_at : (decls : List MapDecl) (packet : PacketIn) (v : ℕ → ℕ) (ps : List PointerView) (h : RegisterCells) (k : Kinds) (m : Machine) (place : ℕ) → AreHeld decls packet v ps h k m → AreHeld decls packet v ps h k (at_place m place)
held_at decls packet v ps h k m place a = record {
  registers = a.registers;
  slots = a.slots;
  length_is = a.length_is;
  window = a.window;
  rest = a.rest;
  target = a.target;
  ifindex = a.ifindex;
  time = a.time;
}

abbrev gone_to : Machine → Outcome → Machine
gone_to m (Goes n) = n
gone_to m o = m

-- where a step goes on to a place, its effect is there
went : (insns : List Insn) (to place units : ℕ) (o : Option Machine) (after : Machine) → pos (place + units) ≡ pos to → begins insns to ≡ true → goes_on insns place units o ≡ Goes (at_place after to)
    → (n : Machine) × (o ≡ Some n) × (at_place after to ≡ at_place n to)
went insns to place units None after aimed starts h = absurd (cc h)
went insns to place units (Some n) after aimed starts h =
    let there : goes_to insns (pos (place + units)) n ≡ Goes (at_place n to) = ap (λ (z : ℤ). goes_to insns z n) aimed ∙ ap (λ (b : Bool). if b then Goes (at_place n to) else NoCase) starts in
    (n, refl, ap (gone_to n) (sym h ∙ there))

abbrev at_node : World → ℕ → World
at_node w node = record { frame = w.frame; node = node; gave = w.gave }

stands_later : LaterDescribes → (w : World) (k : Kinds) (m : Machine) (node : ℕ) → w.node ≤ node → Stands w k m → Stands (at_node w node) k m
stands_later later w k m node l s = record {
  described = later w (at_node w node) k m (record { frame = refl; node = l; gave = λ n p. refl }) s.described;
  registers = s.registers;
  slots = s.slots;
  stack = s.stack;
  range = s.range;
  values = s.values;
}

on_from : Laws → (g : GraphView) (packet : PacketIn) (v : ℕ → ℕ) (ps : List PointerView) (k to : ℕ) (i : Insn) (kinds : Kinds) (h : RegisterCells) (is_ref : Bool) (m : Machine) → IsNode g k i kinds → leads_on i.op ≡ true
    → is_ref ≡ is_reference g k → IsEdge g k i false to → IsKnown g.decls packet v ps k kinds h m → m.place ≡ (node_at g.nodes k).place → IsOn g packet v k to i kinds is_ref m
on_from laws g packet v ps k to i kinds h is_ref m is leads ref edge known place =
    let w : World = at_node known.world k in
    let on : LeadsOn g.code w kinds m i i.op = leading_on g.code w kinds m i i.op leads (laws.sound g.code w kinds m i (stands_later laws.later known.world kinds m k known.node_is known.stands)
    (legal_insn g k i kinds is) (ap (insn_at g.code.insns) place ∙ is.insn) (ap (λ (ds : List MapDecl). verdict (effect_of ds kinds i)) known.decls_are ∙ is.allowed)) in
    let l = on.leads in
    let aimed : pos (m.place + units_of i.op) ≡ pos (node_at g.nodes to).place = sym (on.aimed false) ∙ ap (λ (p : ℕ). target p i i.op false) place ∙ edge.target_is in
    let after_is : step g.code m ≡ Goes (at_place l.after (node_at g.nodes to).place) =
    l.goes ∙ ap (λ (z : ℤ). goes_to g.code.insns z l.after) (on.aimed l.taken ∙ aimed) ∙ ap (λ (b : Bool). if b then Goes (at_place l.after (node_at g.nodes to).place) else NoCase) edge.starts in
    let n = went g.code.insns (node_at g.nodes to).place m.place (units_of i.op) (effect g.code.refs m i i.op) l.after aimed edge.starts (sym (step_is g k i kinds m is place ∙ on.outcome_is) ∙ after_is) in
    let kinds_are : transferred m.maps.decls kinds i k (at_reference g.code.refs m) l.taken ≡ transferred g.decls kinds i k is_ref false =
    ap (λ (ds : List MapDecl). transferred ds kinds i k (at_reference g.code.refs m) l.taken) known.decls_are
    ∙ ap (λ (b : Bool). transferred g.decls kinds i k b l.taken) (ap (λ (p : ℕ). list_any (λ r. r == p) g.code.refs) place ∙ sym ref)
    ∙ transferred_fixed g.decls kinds i k is_ref l.taken on.plain in
    record {
      next = n.0;
      effect_is = n.1;
      goes = after_is ∙ ap Goes n.2;
      world = l.world;
      node_is = omega (arith, l.later.1);
      described = described_at l.world (transferred g.decls kinds i k is_ref false) l.after n.0 (node_at g.nodes to).place n.2 (subst (λ (j : Kinds). DescribesMachine l.world j l.after) kinds_are l.described);
    }

-- what is known after it
known_on : Laws → (g : GraphView) (packet : PacketIn) (v : ℕ → ℕ) (ps qs : List PointerView) (k to : ℕ) (i : Insn) (kinds : Kinds) (h next : RegisterCells) (is_ref : Bool) (m : Machine) → IsNode g k i kinds → IsSized kinds
    → IsEdge g k i false to → AreFilled (transferred g.decls kinds i k is_ref false) → IsKnown g.decls packet v ps k kinds h m → (on : IsOn g packet v k to i kinds is_ref m)
    → AreHeld g.decls packet v qs next (transferred g.decls kinds i k is_ref false) on.next
    → IsKnown g.decls packet v qs to (transferred g.decls kinds i k is_ref false) next (at_place on.next (node_at g.nodes to).place)
known_on laws g packet v ps qs k to i kinds h next is_ref m is sized edge filled known on held =
    let size = transferred_sized g.decls kinds i k is_ref false sized in
    let eleven : length m.registers ≡ 11 = sym known.stands.registers ∙ sized.registers in
    let changes = laws.changes g.code m (at_place on.next (node_at g.nodes to).place) eleven on.goes in
    record {
      world = on.world;
      node_is = omega (arith, on.node_is, edge.up);
      stands = record {
        described = on.described;
        registers = size.registers ∙ sym (changes.registers ∙ eleven);
        slots = size.slots ∙ sym (changes.stack ∙ known.stands.stack);
        stack = changes.stack ∙ known.stands.stack;
        range = laws.ranges g.code m (at_place on.next (node_at g.nodes to).place) is.legal known.in_range on.goes;
        values = λ q. subst (λ (ds : List MapDecl). value_bytes ds q ≤ 64) (sym changes.decls) (known.stands.values q);
      };
      in_range = laws.ranges g.code m (at_place on.next (node_at g.nodes to).place) is.legal known.in_range on.goes;
      decls_are = changes.decls ∙ known.decls_are;
      filled = filled;
      held = held_at g.decls packet v qs next (transferred g.decls kinds i k is_ref false) on.next (node_at g.nodes to).place held;
    }

-- the edge that is pushed
pub record IsWay (decls : List MapDecl) (k : ℕ) (kinds : Kinds) (i : Insn) (is_ref : Bool) (guard : ℕ) (next : RegisterCells) (to : ℕ) (e : Way) : Type 0 where
  pub leads : e.to ≡ to
  pub bit_is : e.bit ≡ guard
  pub kinds_are : e.kinds ≡ transferred decls kinds i k is_ref false
  pub held_is : e.held ≡ next

pub on_added : Laws → (g : GraphView) (i : Insn) (k guard : ℕ) (kinds : Kinds) (is_ref : Bool) (h next : RegisterCells) (old new : List CellView) (ps qs : List PointerView) (sites sites2 : List SiteView) (to : ℕ) (e : Way)
    → IsNode g k i kinds → IsSized kinds → leads_on i.op ≡ true → is_ref ≡ is_reference g k → IsEdge g k i false to → guard < length old → (AreFilled kinds → AreFilled (transferred g.decls kinds i k is_ref false))
    → IsWay g.decls k kinds i is_ref guard next to e → (o : Operates g.decls i k guard is_ref false kinds h next old new ps qs sites sites2)
    → IsAdded g i k guard kinds h old new ps qs sites o.more (e ∷ []) []
on_added laws g i k guard kinds is_ref h next old new ps qs sites sites2 to e is sized leads ref edge there fills way o = record {
  grows = subst (λ (xs : List SiteView). GrowsWith (ReadsOwn sites xs) old new) o.sites_are o.grows;
  extends = record { more = o.more_pointers; is = o.pointers_are };
  own = o.own;
  fits = o.fits;
  below = o.below;
  made = record {
    each_way = All-cons (WayMade g new qs) e [] (rw (way.bit_is, way.held_is, way.kinds_are) (omega (arith, there, o.grows.longer), o.inside)) (All-nil (WayMade g new qs));
    each_exit = All-nil _;
  };
  offs = λ packet v run zero. record { edges = All-cons (BitOff v) e [] (ap v way.bit_is ∙ zero) (All-nil (BitOff v)); ends = All-nil _ };
  goes = λ packet maps v m run read one maps_are known place.
      let on = on_from laws g packet v ps k to i kinds h is_ref m is leads ref edge known place in
      let ref_is : at_reference g.code.refs m ≡ is_ref = ap (λ (p : ℕ). list_any (λ r. r == p) g.code.refs) place ∙ sym ref in
      let done = o.holds packet maps v m on.next g.code.refs run (subst (λ (xs : List SiteView). AreRead maps new xs v) (sym o.sites_are) read) (ap on_bit one) maps_are known ref_is on.effect_is in
      let n : Machine = at_place on.next (node_at g.nodes to).place in
      let at : stepped g k m (step g.code m) ≡ At to n = stands_there g k i false to m on.next edge on.goes in
      let bit_one : v e.bit ≡ 1 = ap v way.bit_is ∙ one in (
        good_along g packet v qs k to (e ∷ []) e n (stepped g k m (step g.code m)) at refl edge.up edge.inside (All-cons (BitSmall v) e [] (omega (arith, bit_one)) (All-nil (BitSmall v)))
            (All-cons (GoesTo g packet v qs to n) e [] (λ is_on. (way.leads, rw (way.kinds_are, way.held_is) (known_on laws g packet v ps qs k to i kinds h next is_ref m is sized edge (fills known.filled) known on done.0))) (All-nil (GoesTo g packet v qs to n)))
            (0, omega arith, refl) way.leads (ap on_bit bit_one),
        ap (after v maps) (sym o.sites_are) ∙ done.1 ∙ ap (maps_in maps) (sym at),
        done.2,
      );
}
