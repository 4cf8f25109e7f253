-- A step that goes along one of the edges that a node adds.
use Rattle.std.proofs.Common.{◌≡◌, ℕ, ℤ, ◌+◌, ◌<◌, Bool, true, if◌then◌else◌, List, [], length, get_or, sym, ◌∙◌, ap, subst, arith}
use Rattle.std.specs.Prelude.{All, Contains}
use Rattle.std.proofs.lemmas.List.Elements.{All-nil}
use Rattle.xdp_machine.specs.bpf_isa.declared.instruction.Insn.{Insn}
use Rattle.xdp_machine.specs.bpf_isa.Text.{insn_at}
use Rattle.xdp_machine.specs.State.{Machine, PacketIn}
use Rattle.xdp_machine.specs.Step.{Goes, NoCase, goes_to, step, outcome_at, outcome}
use Rattle.kind_core.specs.declared.kind.Kinds.{Kinds}
use Rattle.kind_core.specs.Soundness.{target}
use Rattle.cell_core.specs.Cells.{on}
use Rattle.operator_cells.specs.declared.held_cells.way.Way.{Way}
use Rattle.operator_cells.specs.HeldCells.Paths.{GraphView, Stage, At, Over, Nowhere, node_at, stepped}
use Rattle.operator_cells.specs.HeldCells.RegisterCells.{PointerView}
use Rattle.operator_cells.specs.HeldCells.Carrying.{IsKnown}
use Rattle.operator_cells.specs.HeldCells.Steps.{Closes, IsGood}
use Rattle.edge_cells.specs.NodeCells.Ends.{IsNode, IsEdge}

abbrev pub at_place : Machine → ℕ → Machine
at_place m place = record m { place = place }

-- the step of a machine at the place of a node
pub step_is : (g : GraphView) (k : ℕ) (i : Insn) (kinds : Kinds) (m : Machine) → IsNode g k i kinds → m.place ≡ (node_at g.nodes k).place → step g.code m ≡ outcome g.code m i i.op
step_is g k i kinds m is place = ap (outcome_at g.code m) (ap (insn_at g.code.insns) place ∙ is.insn)

-- a machine that goes on where an edge leads
pub goes_there : (g : GraphView) (k : ℕ) (i : Insn) (taken : Bool) (to : ℕ) (m n : Machine) → IsEdge g k i taken to → m.place ≡ (node_at g.nodes k).place
    → goes_to g.code.insns (target m.place i i.op taken) n ≡ Goes (at_place n (node_at g.nodes to).place)
goes_there g k i taken to m n e place =
    ap (λ (z : ℤ). goes_to g.code.insns z n) (ap (λ (p : ℕ). target p i i.op taken) place ∙ e.target_is)
    ∙ ap (λ (b : Bool). if b then Goes (at_place n (node_at g.nodes to).place) else NoCase) e.starts

-- stands at the node to which it leads
pub stands_there : (g : GraphView) (k : ℕ) (i : Insn) (taken : Bool) (to : ℕ) (m n : Machine) → IsEdge g k i taken to → step g.code m ≡ Goes (at_place n (node_at g.nodes to).place)
    → stepped g k m (step g.code m) ≡ At to (at_place n (node_at g.nodes to).place)
stands_there g k i taken to m n e goes = ap (stepped g k m) goes ∙ ap (λ (j : ℕ). At j (at_place n (node_at g.nodes to).place)) e.leads

-- what is asked of edges
abbrev pub BitOff : (ℕ → ℕ) → Way → Type 0
BitOff v e = v e.bit ≡ 0

abbrev pub BitSmall : (ℕ → ℕ) → Way → Type 0
BitSmall v e = v e.bit < 2

abbrev pub GoesTo : GraphView → PacketIn → (ℕ → ℕ) → List PointerView → ℕ → Machine → Way → Type 0
GoesTo g packet v ps to n f = on (v f.bit) ≡ true → (f.to ≡ to) × IsKnown g.decls packet v ps to f.kinds f.held n

-- Where the run stands at the end of an edge that is on, and each other edge that is on leads there too, things are good.
pub good_along : (g : GraphView) (packet : PacketIn) (v : ℕ → ℕ) (ps : List PointerView) (k to : ℕ) (more : List Way) (e : Way) (n : Machine) (t : Stage)
    → t ≡ At to n → n.place ≡ (node_at g.nodes to).place → k < to → to < length g.nodes → All (BitSmall v) more
    → All (GoesTo g packet v ps to n) more
    → Contains more e → e.to ≡ to → on (v e.bit) ≡ true → IsGood g packet v ps (k + 1) more [] t
good_along g packet v ps k to more e n t at place up inside bits known among leads is_on = record {
  bits = bits;
  ahead = λ j m is. let same : At to n ≡ At j m = sym at ∙ is in let one : to ≡ j = cc same in (omega (arith, one, up), omega (arith, one, inside));
  placed = λ j m is. let same : At to n ≡ At j m = sym at ∙ is in let one : to ≡ j = cc same in let two : n ≡ m = cc same in
      subst (λ (x : ℕ). m.place ≡ (node_at g.nodes x).place) one (subst (λ (x : Machine). x.place ≡ (node_at g.nodes to).place) two place);
  each = λ j d l less h. let x = known j d l h in
      (n, at ∙ ap (λ (i : ℕ). At i n) (sym x.0), subst (λ (i : ℕ). IsKnown g.decls packet v ps i (get_or more j d).kinds (get_or more j d).held n) (sym x.0) x.1);
  some = λ j m is. let same : At to n ≡ At j m = sym at ∙ is in let one : to ≡ j = cc same in (e, among, leads ∙ one, is_on);
  ends = All-nil (Closes packet v t);
  ended = λ x is. let bad : At to n ≡ Over x = sym at ∙ is in absurd (cc bad);
  somewhere = λ is. let bad : At to n ≡ Nowhere = sym at ∙ is in absurd (cc bad);
}
