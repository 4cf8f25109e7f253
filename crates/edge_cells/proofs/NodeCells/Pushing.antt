-- What the code of nodes does, by the edges and ends that it pushes.
use Rattle.std.proofs.Common.{◌≡◌, ℕ, ◌⊎◌, inl, inr, Bool, true, false, Option, Some, None, List, [], ◌∷◌, ◌++◌, length, append_assoc, sym, ◌∙◌, ap, subst}
use Rattle.std.proofs.lemmas.List.{append-nil}
use Rattle.xdp_machine.specs.bpf_isa.Spelling.{IsInsn}
use Rattle.xdp_machine.specs.bpf_isa.declared.operation.Width.{Width}
use Rattle.xdp_machine.specs.bpf_isa.declared.operation.JumpCode.{JumpCode}
use Rattle.xdp_machine.specs.bpf_isa.declared.operation.Src.{Src}
use Rattle.xdp_machine.specs.bpf_isa.declared.operation.Op.TheVariants.{Ja, Jump}
use Rattle.xdp_machine.specs.bpf_isa.declared.instruction.Insn.{Insn}
use Rattle.xdp_machine.specs.xdp_maps.declared.decl.MapDecl.{MapDecl}
use Rattle.xdp_machine.specs.State.{Machine, PacketIn}
use Rattle.xdp_machine.specs.Touched.{operation_as}
use Rattle.kind_core.specs.declared.kind.Kinds.{Kinds}
use Rattle.kind_core.specs.Edges.{decided, transferred}
use Rattle.kind_core.specs.Soundness.{StepsAreSound}
use Rattle.kind_core.proofs.TransferLaws.{IsSized}
use Rattle.cell_core.specs.Cells.{CellView}
use Rattle.operator_cells.specs.declared.held_cells.machine_cells.RegisterCells.{RegisterCells}
use Rattle.operator_cells.specs.declared.held_cells.way.Way.{Way}
use Rattle.operator_cells.specs.declared.held_cells.way.Exit.{Exit}
use Rattle.operator_cells.specs.HeldCells.Paths.{GraphView, node_at}
use Rattle.operator_cells.specs.HeldCells.RegisterCells.{PointerView, AreInside}
use Rattle.operator_cells.specs.HeldCells.Carrying.{IsKnown}
use Rattle.edge_cells.specs.declared.joining.Here.{Here}
use Rattle.edge_cells.specs.Leaving.{IsBranch, TestsJump, EndsAreLeft}
use Rattle.edge_cells.proofs.JumpKindLaws.{single_edge}
use Rattle.edge_cells.specs.NodeCells.Ends.{IsNode}
use Rattle.edge_cells.specs.NodeCells.Stepping.{JumpSteps, EdgeSteps, StepsOn, ExitSteps}
use Rattle.edge_cells.proofs.NodeCells.Turning.{steps_of}
use Rattle.edge_cells.proofs.NodeCells.Jumps.{Laws, IsTaken, tested, always, one_added, both_added}
use Rattle.edge_cells.proofs.NodeCells.Filled.{edges_are_filled}
use Rattle.edge_cells.proofs.NodeCells.Exits.{IsEndOf, end_added}
use Rattle.edge_cells.proofs.NodeCells.Onward.{IsWay, on_added}
use Rattle.edge_cells.proofs.NodeCells.Onward as onward

pub two_pushed : {A : Type 0} (old mid new : List A) (e f : A) → mid ≡ old ++ e ∷ [] → new ≡ mid ++ f ∷ [] → new ≡ old ++ e ∷ f ∷ []
two_pushed old mid new e f one two = two ∙ ap (λ xs. xs ++ f ∷ []) one ∙ append_assoc old (e ∷ []) (f ∷ [])

pub both_steps : Laws → (decls : List MapDecl) (node : ℕ) (k : Kinds) (here : Here) (i : Insn) (w : Width) (code : JumpCode) (s : Src) (next jump c : ℕ) (old mid mid2 new : List CellView) (ps : List PointerView) (ways ways2 : List Way) (e f : Way)
    → IsInsn i → i.op ≡ Jump w code s → AreInside decls (length old) ps here.held k → TestsJump ps k here.held i w code s old mid c
    → IsBranch decls mid mid2 node k here.held here.guard i (Some c) false next e → IsBranch decls mid2 new node k here.held here.guard i (Some c) true jump f → ways2 ≡ ways ++ e ∷ f ∷ []
    → JumpSteps decls node k here i (Some next) (Some jump) old new ps ways ways2
both_steps laws decls node k here i w code s next jump c old mid mid2 new ps ways ways2 e f insn op inside tests along aside pushed g sites exits d is next_is jump_is made =
    steps_of g i node here.guard k here.held old new ps ps sites [] sites ways (e ∷ f ∷ []) ways2 exits [] exits (sym (append-nil sites)) pushed (sym (append-nil exits)) is made
    (both_added laws g i node here.guard k here.held old mid mid2 new ps sites w code s c next jump e f is (record {
      op = op;
      dst = insn.dst_register;
      src = insn.src_register;
      tests = tests;
      along = subst (λ (ds : List MapDecl). IsBranch ds mid mid2 node k here.held here.guard i (Some c) false next e) (sym d) along;
      aside = subst (λ (ds : List MapDecl). IsBranch ds mid2 new node k here.held here.guard i (Some c) true jump f) (sym d) aside;
      next_is = next_is;
      jump_is = jump_is;
      inside = subst (λ (ds : List MapDecl). AreInside ds (length old) ps here.held k) (sym d) inside;
    }))

-- a node with one edge, which each machine takes
edge_steps : (decls : List MapDecl) (node : ℕ) (k : Kinds) (here : Here) (i : Insn) (taken : Bool) (to : ℕ) (old new : List CellView) (ps : List PointerView) (ways ways2 : List Way) (e : Way)
    → AreInside decls (length old) ps here.held (transferred decls k i node false taken) → IsBranch decls old new node k here.held here.guard i None taken to e → ways2 ≡ ways ++ e ∷ []
    → ((g : GraphView) → IsNode g node i k → (packet : PacketIn) (v : ℕ → ℕ) (m : Machine) → IsKnown g.decls packet v ps node k here.held m → m.place ≡ (node_at g.nodes node).place → IsTaken g packet v ps node i k here.held m taken)
    → ((m : Machine) → operation_as m i i.op ≡ None) → EdgeSteps decls node k here i taken to old new ps ways ways2
edge_steps decls node k here i taken to old new ps ways ways2 e inside branch pushed takes plain g sites exits d is edge made =
    steps_of g i node here.guard k here.held old new ps ps sites [] sites ways (e ∷ []) ways2 exits [] exits (sym (append-nil sites)) pushed (sym (append-nil exits)) is made
    (one_added g i node here.guard k here.held old new ps sites taken to e (record {
      edge = edge;
      branch = subst (λ (ds : List MapDecl). IsBranch ds old new node k here.held here.guard i None taken to e) (sym d) branch;
      inside = subst (λ (ds : List MapDecl). AreInside ds (length old) ps here.held (transferred ds k i node false taken)) (sym d) inside;
      takes = takes g is;
      plain = plain;
    }))

present_is : (o : Option Bool) (t taken : Bool) → o ≡ Some taken → (o ≡ None) ⊎ (o ≡ Some t) → t ≡ taken
present_is o t taken e (inl f) = let bad : Some taken ≡ None = sym e ∙ f in absurd (cc bad)
present_is o t taken e (inr f) = let both : Some t ≡ Some taken = sym f ∙ e in cc both

pub decided_steps : Laws → (decls : List MapDecl) (node : ℕ) (k : Kinds) (here : Here) (i : Insn) (w : Width) (code : JumpCode) (s : Src) (taken : Bool) (to : ℕ) (old new : List CellView) (ps : List PointerView) (ways ways2 : List Way) (e : Way)
    → i.op ≡ Jump w code s → decided k i ≡ Some taken → AreInside decls (length old) ps here.held k → IsBranch decls old new node k here.held here.guard i None taken to e → ways2 ≡ ways ++ e ∷ []
    → EdgeSteps decls node k here i taken to old new ps ways ways2
decided_steps laws decls node k here i w code s taken to old new ps ways ways2 e op decision inside branch pushed =
    edge_steps decls node k here i taken to old new ps ways ways2 e (laws.inside decls (length old) ps k here.held i node w code s taken op inside) branch pushed
    (λ g is packet v m known place. let t = tested laws g packet v ps node i k here.held m w code s op is known place in
    subst (λ (b : Bool). IsTaken g packet v ps node i k here.held m b) (present_is (decided k i) t.taken taken decision t.present) t.is)
    (λ m. ap (operation_as m i) op)

pub always_steps : Laws → (decls : List MapDecl) (node : ℕ) (k : Kinds) (here : Here) (i : Insn) (w : Width) (to : ℕ) (old new : List CellView) (ps : List PointerView) (ways ways2 : List Way) (e : Way)
    → i.op ≡ Ja w → AreInside decls (length old) ps here.held k → IsBranch decls old new node k here.held here.guard i None true to e → ways2 ≡ ways ++ e ∷ []
    → EdgeSteps decls node k here i true to old new ps ways ways2
always_steps laws decls node k here i w to old new ps ways ways2 e op inside branch pushed =
    edge_steps decls node k here i true to old new ps ways ways2 e (subst (AreInside decls (length old) ps here.held) (sym (single_edge decls k i node w true op)) inside) branch pushed
    (λ g is packet v m known place. always laws g packet v ps node i k here.held m w op is known place)
    (λ m. ap (operation_as m i) op)

pub on_steps : onward.Laws → (decls : List MapDecl) (node : ℕ) (k : Kinds) (i : Insn) (is_ref : Bool) (guard : ℕ) (next : RegisterCells) (to : ℕ) (ways ways2 : List Way) (e : Way) → IsSized k → IsWay decls node k i is_ref guard next to e
    → ways2 ≡ ways ++ e ∷ [] → StepsOn decls node k i is_ref guard next to ways ways2
on_steps laws decls node k i is_ref guard next to ways ways2 e sized way pushed g here old new ps qs sites sites2 exits d is leads ref edge there o made =
    steps_of g i node guard k here old new ps qs sites o.more sites2 ways (e ∷ []) ways2 exits [] exits o.sites_are pushed (sym (append-nil exits)) is made
    (on_added laws g i node guard k is_ref here next old new ps qs sites sites2 to e is sized leads ref edge there
    (edges_are_filled g.decls k i node is_ref leads)
    (subst (λ (ds : List MapDecl). IsWay ds node k i is_ref guard next to e) (sym d) way) o)

pub exit_steps : StepsAreSound → EndsAreLeft → (k : Kinds) (here : Here) (exits exits2 : List Exit) (x : Exit) → IsEndOf x here.guard k here.held → exits2 ≡ exits ++ x ∷ [] → ExitSteps k here exits exits2
exit_steps sound left k here exits exits2 x has pushed g i node cells ps sites ways is op there inside made =
    steps_of g i node here.guard k here.held cells cells ps ps sites [] sites ways [] ways exits (x ∷ []) exits2 (sym (append-nil sites)) (sym (append-nil ways)) pushed is made
    (end_added sound left g i node here.guard k here.held cells ps sites x op is has there inside)
