-- Nodes with jumps.
use Rattle.std.proofs.Common.{◌≡◌, ℕ, ◌+◌, ◌<◌, ◌≤◌, ◌&&◌, Bool, true, false, Option, Some, None, Ok, Err, IfOk, List, [], ◌∷◌, ◌++◌, length, refl, sym, ◌∙◌, ap, arith}
use Rattle.std.proofs.lemmas.List.{append-nil}
use Rattle.std.proofs.lemmas.List.Elements.{All-nil, All-cons}
use Rattle.xdp_machine.specs.bpf_isa.declared.operation.Width.{Width}
use Rattle.xdp_machine.specs.bpf_isa.declared.operation.Width.TheVariants.{Bits32, Bits64}
use Rattle.xdp_machine.specs.bpf_isa.declared.operation.JumpCode.{JumpCode}
use Rattle.xdp_machine.specs.bpf_isa.declared.operation.Src.{Src}
use Rattle.xdp_machine.specs.bpf_isa.declared.operation.Op.{Op}
use Rattle.xdp_machine.specs.bpf_isa.declared.operation.Op.TheVariants.{Ja, Jump}
use Rattle.xdp_machine.specs.bpf_isa.declared.instruction.Insn.{Insn}
use Rattle.xdp_machine.specs.xdp_maps.declared.decl.MapDecl.{MapDecl}
use Rattle.xdp_machine.specs.xdp_maps.State.{MapState}
use Rattle.xdp_machine.specs.State.{Machine, PacketIn}
use Rattle.xdp_machine.specs.State as machine
use Rattle.xdp_machine.specs.Step as step
use Rattle.xdp_machine.specs.Step.{Goes, goes_to, jumps}
use Rattle.xdp_machine.specs.Pointers.{compared}
use Rattle.xdp_machine.specs.Touched.{operation_as}
use Rattle.kind_core.specs.declared.kind.Kinds.{Kinds}
use Rattle.kind_core.specs.Tests.{passed}
use Rattle.kind_core.specs.Effects.{effect_of, verdict}
use Rattle.kind_core.specs.Edges.{agrees, changed, transferred}
use Rattle.kind_core.specs.Describes.{DescribesMachine}
use Rattle.kind_core.specs.Soundness.{IsPresent, ConditionsAreSound, target}
use Rattle.cell_core.specs.Cells.{CellView, IsRun, on, bit}
use Rattle.cell_core.specs.Sites.{SiteView, after}
use Rattle.operator_cells.specs.Making.{Grows}
use Rattle.operator_cells.proofs.MakingLaws.{grown, grown_none, reads_none}
use Rattle.operator_cells.specs.declared.held_cells.machine_cells.RegisterCells.{RegisterCells}
use Rattle.operator_cells.specs.declared.held_cells.way.Way.{Way}
use Rattle.operator_cells.specs.HeldCells.Paths.{GraphView, At, node_at, stepped, maps_in}
use Rattle.operator_cells.specs.HeldCells.RegisterCells.{PointerView, AreInside}
use Rattle.operator_cells.specs.HeldCells.Carrying.{IsKnown}
use Rattle.operator_cells.specs.HeldCells.Steps.{ReadsOwn, IsGood, DoAs}
use Rattle.edge_cells.specs.Leaving.{IsBranch, TestsJump, JumpsAreTested, EdgesAreInside, EdgesAreKnown, SingleEdgesAreKnown}
use Rattle.edge_cells.proofs.ExtendingLaws.{extends_none, inside_later}
use Rattle.edge_cells.specs.NodeCells.Ends.{IsNode, IsEdge}
use Rattle.edge_cells.proofs.NodeCells.Behind.{off}
use Rattle.edge_cells.proofs.NodeCells.Branching.{at_place, step_is, goes_there, stands_there, good_along, BitOff, BitSmall, GoesTo}
use Rattle.edge_cells.proofs.NodeCells.Turning.{IsAdded, WayMade}

-- the laws that are used
pub record Laws : Type 0 where
  pub conditions : ConditionsAreSound
  pub tested : JumpsAreTested
  pub inside : EdgesAreInside
  pub known : EdgesAreKnown
  pub single : SingleEdgesAreKnown

-- ---- the step of a jump

-- A machine takes one of the edges, one that is present, and what is known goes along it.
pub record IsTaken (g : GraphView) (packet : PacketIn) (v : ℕ → ℕ) (ps : List PointerView) (k : ℕ) (i : Insn) (kinds : Kinds) (h : RegisterCells) (m : Machine) (taken : Bool) : Type 0 where
  pub goes : step.step g.code m ≡ goes_to g.code.insns (target m.place i i.op taken) m
  pub known : (to place : ℕ) → k ≤ to → IsKnown g.decls packet v ps to (transferred g.decls kinds i k false taken) h (at_place m place)

-- of a conditional jump also by its condition
pub record IsTested (g : GraphView) (packet : PacketIn) (v : ℕ → ℕ) (ps : List PointerView) (k : ℕ) (i : Insn) (kinds : Kinds) (h : RegisterCells) (m : Machine) (w : Width) (c : JumpCode) (s : Src) : Type 0 where
  pub taken : Bool
  pub holds : compared w c (machine.register m.registers i.dst) (step.operand m.registers i s) ≡ Some taken
  pub present : IsPresent kinds i taken
  pub is : IsTaken g packet v ps k i kinds h m taken

pub tested : Laws → (g : GraphView) (packet : PacketIn) (v : ℕ → ℕ) (ps : List PointerView) (k : ℕ) (i : Insn) (kinds : Kinds) (h : RegisterCells) (m : Machine) (w : Width) (c : JumpCode) (s : Src)
    → i.op ≡ Jump w c s → IsNode g k i kinds → IsKnown g.decls packet v ps k kinds h m → m.place ≡ (node_at g.nodes k).place → IsTested g packet v ps k i kinds h m w c s
tested laws g packet v ps k i kinds h m w c s op is known place =
    by (effect_of m.maps.decls kinds i) (ap (λ (ds : List MapDecl). verdict (effect_of ds kinds i)) known.decls_are ∙ is.allowed) (laws.conditions known.world kinds m i w c s known.stands op)
  where
    by : (r : _) → verdict r ≡ passed → IfOk r (λ e. (t : Bool) × (compared w c (machine.register m.registers i.dst) (step.operand m.registers i s) ≡ Some t) × IsPresent kinds i t × DescribesMachine known.world (changed known.world.node false t kinds e) m)
        → IsTested g packet v ps k i kinds h m w c s
    by (Err y) passes found = absurd (cc passes)
    by (Ok e) passes found = record {
      taken = found.0;
      holds = found.1;
      present = found.2;
      is = record {
        goes = step_is g k i kinds m is place ∙ ap (λ (o : Op). step.outcome g.code m i o) op ∙ ap (jumps g.code.insns i.offset m) found.1 ∙ ap (λ (o : Op). goes_to g.code.insns (target m.place i o found.0) m) (sym op);
        known = λ to at up. laws.known g.decls packet v ps k to at kinds h m i w c s found.0 known up op is.allowed found.1;
      };
    }

-- a jump without a condition takes its only edge
pub always : Laws → (g : GraphView) (packet : PacketIn) (v : ℕ → ℕ) (ps : List PointerView) (k : ℕ) (i : Insn) (kinds : Kinds) (h : RegisterCells) (m : Machine) (w : Width)
    → i.op ≡ Ja w → IsNode g k i kinds → IsKnown g.decls packet v ps k kinds h m → m.place ≡ (node_at g.nodes k).place → IsTaken g packet v ps k i kinds h m true
always laws g packet v ps k i kinds h m w op is known place = record {
  goes = step_is g k i kinds m is place ∙ ap (λ (o : Op). step.outcome g.code m i o) op ∙ leads w ∙ ap (λ (o : Op). goes_to g.code.insns (target m.place i o true) m) (sym op);
  known = λ to at up. laws.single g.decls packet v ps k to at kinds h m i w true known up op;
}
  where
    leads : (x : Width) → step.outcome g.code m i (Ja x) ≡ goes_to g.code.insns (target m.place i (Ja x) true) m
    leads Bits32 = refl
    leads Bits64 = refl

-- ---- one edge

-- what is asked of a node with one edge
pub record HasOne (g : GraphView) (i : Insn) (k guard : ℕ) (kinds : Kinds) (h : RegisterCells) (old new : List CellView) (ps : List PointerView) (taken : Bool) (to : ℕ) (e : Way) : Type 0 where
  pub edge : IsEdge g k i taken to
  pub branch : IsBranch g.decls old new k kinds h guard i None taken to e
  pub inside : AreInside g.decls (length old) ps h (transferred g.decls kinds i k false taken)
  pub takes : (packet : PacketIn) (v : ℕ → ℕ) (m : Machine) → IsKnown g.decls packet v ps k kinds h m → m.place ≡ (node_at g.nodes k).place → IsTaken g packet v ps k i kinds h m taken
  pub plain : (m : Machine) → operation_as m i i.op ≡ None

-- an edge names cells that are there
way_inside : (g : GraphView) (i : Insn) (k guard : ℕ) (kinds : Kinds) (h : RegisterCells) (old mid mid2 new : List CellView) (ps : List PointerView) (condition : Option ℕ) (taken : Bool) (to : ℕ) (e : Way)
    → IsBranch g.decls mid mid2 k kinds h guard i condition taken to e → Grows old mid → Grows mid2 new → AreInside g.decls (length old) ps h (transferred g.decls kinds i k false taken)
    → (e.bit < length new) × AreInside g.decls (length new) ps e.held e.kinds
way_inside g i k guard kinds h old mid mid2 new ps condition taken to e branch before behind inside = (
  omega (arith, branch.branches.there, behind.longer),
  rw (branch.held_is, branch.kinds_are) (inside_later g.decls (length old) (length new) ps ps h (transferred g.decls kinds i k false taken) (omega (arith, before.longer, branch.branches.grows.longer, behind.longer)) (extends_none ps) inside),
)

-- an edge that is taken leads there, and what is known goes along it
way_known : (g : GraphView) (packet : PacketIn) (v : ℕ → ℕ) (i : Insn) (k guard : ℕ) (kinds : Kinds) (h : RegisterCells) (old new : List CellView) (ps : List PointerView) (condition : Option ℕ) (taken : Bool) (to place : ℕ) (m : Machine) (e : Way)
    → IsBranch g.decls old new k kinds h guard i condition taken to e → k < to → IsTaken g packet v ps k i kinds h m taken
    → (e.to ≡ to) × IsKnown g.decls packet v ps to e.kinds e.held (at_place m place)
way_known g packet v i k guard kinds h old new ps condition taken to place m e branch up takes =
    (branch.leads, rw (branch.held_is, branch.kinds_are) (takes.known to place (omega (arith, up))))

pub one_added : (g : GraphView) (i : Insn) (k guard : ℕ) (kinds : Kinds) (h : RegisterCells) (old new : List CellView) (ps : List PointerView) (sites : List SiteView) (taken : Bool) (to : ℕ) (e : Way)
    → HasOne g i k guard kinds h old new ps taken to e → IsAdded g i k guard kinds h old new ps ps sites [] (e ∷ []) []
one_added g i k guard kinds h old new ps sites taken to e has = record {
  grows = reads_none (ReadsOwn sites (sites ++ [])) old new has.branch.branches.grows;
  extends = extends_none ps;
  own = All-nil _;
  fits = All-nil _;
  below = All-nil _;
  made = record {
    each_way = All-cons (WayMade g new ps) e [] (way_inside g i k guard kinds h old old new new ps None taken to e has.branch grown_none grown_none has.inside) (All-nil (WayMade g new ps));
    each_exit = All-nil _;
  };
  offs = λ packet v run zero. record { edges = All-cons (BitOff v) e [] (bit_is packet v run 0 (omega arith) zero) (All-nil (BitOff v)); ends = All-nil _ };
  goes = λ packet maps v m run read one maps_are known place.
      let takes = has.takes packet v m known place in
      let n : Machine = at_place m (node_at g.nodes to).place in
      let at : stepped g k m (step.step g.code m) ≡ At to n = stands_there g k i taken to m m has.edge (takes.goes ∙ goes_there g k i taken to m m has.edge place) in
      let bit_one : v e.bit ≡ 1 = bit_is packet v run 1 (omega arith) one in (
        good_along g packet v ps k to (e ∷ []) e n (stepped g k m (step.step g.code m)) at refl has.edge.up has.edge.inside (All-cons (BitSmall v) e [] (omega (arith, bit_one)) (All-nil (BitSmall v)))
            (All-cons (GoesTo g packet v ps to n) e [] (λ is_on. way_known g packet v i k guard kinds h old new ps None taken to (node_at g.nodes to).place m e has.branch has.edge.up takes) (All-nil (GoesTo g packet v ps to n)))
            (0, omega arith, refl) has.branch.leads (ap on bit_one),
        ap (after v maps) (append-nil sites) ∙ maps_are ∙ ap (maps_in maps) (sym at),
        has.plain m,
      );
}
  where
    bit_is : (packet : PacketIn) (v : ℕ → ℕ) → IsRun packet new v → (n : ℕ) → n < 2 → v guard ≡ n → v e.bit ≡ bit (on n && true)
    bit_is packet v run n l is = has.branch.branches.value packet v run (omega (arith, l, is)) tt ∙ ap (λ (x : ℕ). bit (on x && true)) is

-- ---- two edges

-- what is asked of a node with an undecided jump
pub record HasBoth (g : GraphView) (i : Insn) (k guard : ℕ) (kinds : Kinds) (h : RegisterCells) (old mid mid2 new : List CellView) (ps : List PointerView) (w : Width) (code : JumpCode) (s : Src) (c next jump : ℕ) (e f : Way) : Type 0 where
  pub op : i.op ≡ Jump w code s
  pub dst : i.dst ≤ 10
  pub src : i.src ≤ 10
  pub tests : TestsJump ps kinds h i w code s old mid c
  pub along : IsBranch g.decls mid mid2 k kinds h guard i (Some c) false next e
  pub aside : IsBranch g.decls mid2 new k kinds h guard i (Some c) true jump f
  pub next_is : IsEdge g k i false next
  pub jump_is : IsEdge g k i true jump
  pub inside : AreInside g.decls (length old) ps h kinds

pub both_added : Laws → (g : GraphView) (i : Insn) (k guard : ℕ) (kinds : Kinds) (h : RegisterCells) (old mid mid2 new : List CellView) (ps : List PointerView) (sites : List SiteView) (w : Width) (code : JumpCode) (s : Src) (c next jump : ℕ) (e f : Way)
    → IsNode g k i kinds → HasBoth g i k guard kinds h old mid mid2 new ps w code s c next jump e f → IsAdded g i k guard kinds h old new ps ps sites [] (e ∷ f ∷ []) []
both_added laws g i k guard kinds h old mid mid2 new ps sites w code s c next jump e f is has = record {
  grows = reads_none (ReadsOwn sites (sites ++ [])) old new (grown has.tests.grows (grown has.along.branches.grows has.aside.branches.grows));
  extends = extends_none ps;
  own = All-nil _;
  fits = All-nil _;
  below = All-nil _;
  made = record {
    each_way = All-cons (WayMade g new ps) e (f ∷ [])
        (way_inside g i k guard kinds h old mid mid2 new ps (Some c) false next e has.along has.tests.grows has.aside.branches.grows (laws.inside g.decls (length old) ps kinds h i k w code s false has.op has.inside))
        (All-cons (WayMade g new ps) f []
        (way_inside g i k guard kinds h old mid2 new new ps (Some c) true jump f has.aside (grown has.tests.grows has.along.branches.grows) grown_none (laws.inside g.decls (length old) ps kinds h i k w code s true has.op has.inside))
        (All-nil (WayMade g new ps)));
    each_exit = All-nil _;
  };
  offs = λ packet v run zero. record { edges = All-cons (BitOff v) e (f ∷ []) (along_is packet v run 0 (omega arith) zero) (All-cons (BitOff v) f [] (aside_is packet v run 0 (omega arith) zero) (All-nil (BitOff v))); ends = All-nil _ };
  goes = λ packet maps v m run read one maps_are known place.
      let t = tested laws g packet v ps k i kinds h m w code s has.op is known place in
      let c_is : v c ≡ bit t.taken = laws.tested g.decls packet v ps k kinds h m i w code s old mid c t.taken has.tests (run_mid packet v run) known has.dst has.src t.holds in
      by packet maps v m run one maps_are place t.taken c_is t.is;
}
  where
    run_mid : (packet : PacketIn) (v : ℕ → ℕ) → IsRun packet new v → IsRun packet mid v
    run_mid packet v run = has.along.branches.grows.run packet v (has.aside.branches.grows.run packet v run)

    along_is : (packet : PacketIn) (v : ℕ → ℕ) → IsRun packet new v → (n : ℕ) → n < 2 → v guard ≡ n → v e.bit ≡ bit (on n && agrees false (on (v c)))
    along_is packet v run n l eq =
        has.along.branches.value packet v (has.aside.branches.grows.run packet v run) (omega (arith, l, eq)) (has.tests.is_bit packet v (run_mid packet v run)) ∙ ap (λ (x : ℕ). bit (on x && agrees false (on (v c)))) eq

    aside_is : (packet : PacketIn) (v : ℕ → ℕ) → IsRun packet new v → (n : ℕ) → n < 2 → v guard ≡ n → v f.bit ≡ bit (on n && agrees true (on (v c)))
    aside_is packet v run n l eq =
        has.aside.branches.value packet v run (omega (arith, l, eq)) (has.tests.is_bit packet v (run_mid packet v run)) ∙ ap (λ (x : ℕ). bit (on x && agrees true (on (v c)))) eq

    by : (packet : PacketIn) (maps : MapState) (v : ℕ → ℕ) (m : Machine) → IsRun packet new v → v guard ≡ 1 → after v maps sites ≡ m.maps → m.place ≡ (node_at g.nodes k).place
        → (taken : Bool) → v c ≡ bit taken → IsTaken g packet v ps k i kinds h m taken
        → IsGood g packet v ps (k + 1) (e ∷ f ∷ []) [] (stepped g k m (step.step g.code m)) × (after v maps (sites ++ []) ≡ maps_in maps (stepped g k m (step.step g.code m)))
        × DoAs v m.maps [] (operation_as m i i.op)
    by packet maps v m run one maps_are place true c_is takes =
        let n : Machine = at_place m (node_at g.nodes jump).place in
        let at : stepped g k m (step.step g.code m) ≡ At jump n = stands_there g k i true jump m m has.jump_is (takes.goes ∙ goes_there g k i true jump m m has.jump_is place) in
        let e_is : v e.bit ≡ 0 = along_is packet v run 1 (omega arith) one ∙ ap (λ (x : ℕ). bit (agrees false (on x))) c_is in
        let f_is : v f.bit ≡ 1 = aside_is packet v run 1 (omega arith) one ∙ ap (λ (x : ℕ). bit (agrees true (on x))) c_is in (
          good_along g packet v ps k jump (e ∷ f ∷ []) f n (stepped g k m (step.step g.code m)) at refl has.jump_is.up has.jump_is.inside
              (All-cons (BitSmall v) e (f ∷ []) (omega (arith, e_is)) (All-cons (BitSmall v) f [] (omega (arith, f_is)) (All-nil (BitSmall v))))
              (All-cons (GoesTo g packet v ps jump n) e (f ∷ []) (λ is_on. absurd (off (v e.bit) e_is is_on))
              (All-cons (GoesTo g packet v ps jump n) f [] (λ is_on. way_known g packet v i k guard kinds h mid2 new ps (Some c) true jump (node_at g.nodes jump).place m f has.aside has.jump_is.up takes) (All-nil (GoesTo g packet v ps jump n))))
              (1, omega arith, refl) has.aside.leads (ap on f_is),
          ap (after v maps) (append-nil sites) ∙ maps_are ∙ ap (maps_in maps) (sym at),
          ap (operation_as m i) has.op,
        )
    by packet maps v m run one maps_are place false c_is takes =
        let n : Machine = at_place m (node_at g.nodes next).place in
        let at : stepped g k m (step.step g.code m) ≡ At next n = stands_there g k i false next m m has.next_is (takes.goes ∙ goes_there g k i false next m m has.next_is place) in
        let e_is : v e.bit ≡ 1 = along_is packet v run 1 (omega arith) one ∙ ap (λ (x : ℕ). bit (agrees false (on x))) c_is in
        let f_is : v f.bit ≡ 0 = aside_is packet v run 1 (omega arith) one ∙ ap (λ (x : ℕ). bit (agrees true (on x))) c_is in (
          good_along g packet v ps k next (e ∷ f ∷ []) e n (stepped g k m (step.step g.code m)) at refl has.next_is.up has.next_is.inside
              (All-cons (BitSmall v) e (f ∷ []) (omega (arith, e_is)) (All-cons (BitSmall v) f [] (omega (arith, f_is)) (All-nil (BitSmall v))))
              (All-cons (GoesTo g packet v ps next n) e (f ∷ []) (λ is_on. way_known g packet v i k guard kinds h mid mid2 ps (Some c) false next (node_at g.nodes next).place m e has.along has.next_is.up takes)
              (All-cons (GoesTo g packet v ps next n) f [] (λ is_on. absurd (off (v f.bit) f_is is_on)) (All-nil (GoesTo g packet v ps next n))))
              (0, omega arith, refl) has.along.leads (ap on e_is),
          ap (after v maps) (append-nil sites) ∙ maps_are ∙ ap (maps_in maps) (sym at),
          ap (operation_as m i) has.op,
        )
