-- The edges that leave a node of a graph.
use Rattle.std.specs.Prelude.{ℕ, pos, ◌≡◌, ◌<◌, ◌==◌, ◌++◌, if◌then◌else◌, Bool, true, false, is_some, Option, Some, None, List, [], ◌∷◌, length, All, Contains}
use Rattle.std.specs.List.{list_any}
use Rattle.xdp_machine.specs.bpf_isa.declared.operation.Op.{Op}
use Rattle.xdp_machine.specs.bpf_isa.declared.operation.Op.TheVariants.{Ja, Jump, Exit}
use Rattle.xdp_machine.specs.bpf_isa.declared.instruction.Insn.{Insn}
use Rattle.xdp_machine.specs.bpf_isa.Spelling.{IsInsn}
use Rattle.xdp_machine.specs.bpf_isa.Text.{insn_at}
use Rattle.xdp_machine.specs.xdp_maps.declared.decl.MapDecl.{MapDecl}
use Rattle.xdp_machine.specs.State.{begins}
use Rattle.kind_core.specs.declared.kind.Kinds.{Kinds}
use Rattle.kind_core.specs.Tests.{passed}
use Rattle.kind_core.specs.Effects.{effect_of, verdict}
use Rattle.kind_core.specs.Edges.{decided, transferred}
use Rattle.kind_core.specs.Soundness.{target}
use Rattle.operator_cells.specs.declared.held_cells.way.Way.{Way}
use Rattle.operator_cells.specs.HeldCells.Paths.{EdgeView, GraphView, node_at, led}

-- an allowed instruction at a node, that of its place, and what is known there
pub record IsNode (g : GraphView) (k : ℕ) (i : Insn) (kinds : Kinds) : Type 0 where
  pub insn : insn_at g.code.insns (node_at g.nodes k).place ≡ Some i
  pub kinds_are : (node_at g.nodes k).kinds ≡ kinds
  pub allowed : verdict (effect_of g.decls kinds i) ≡ passed
  pub legal : All IsInsn g.code.insns

-- whether the place of a node is that of a reference to a map
abbrev pub is_reference : GraphView → ℕ → Bool
is_reference g k = list_any (λ r. r == (node_at g.nodes k).place) g.code.refs

-- An edge goes up to the node at the place where the machine goes on, where an instruction begins, and a run is led along it.
pub record IsEdge (g : GraphView) (k : ℕ) (i : Insn) (taken : Bool) (to : ℕ) : Type 0 where
  pub target_is : target (node_at g.nodes k).place i i.op taken ≡ pos (node_at g.nodes to).place
  pub starts : begins g.code.insns (node_at g.nodes to).place ≡ true
  pub leads : led g.nodes k (node_at g.nodes to).place g.edges ≡ to
  pub up : k < to
  pub inside : to < length g.nodes

-- the same of an edge that may be absent
abbrev pub IsEnd : GraphView → ℕ → Insn → Bool → Option ℕ → Type 0
IsEnd g k i taken (Some to) = IsEdge g k i taken to
IsEnd g k i taken None = Unit {0}

-- which edges of a conditional jump are present, to the next place and of the jump
abbrev pub ArePresent : Kinds → Insn → Option ℕ → Option ℕ → Type 0
ArePresent k i (Some next) (Some jump) = decided k i ≡ None
ArePresent k i (Some next) None = decided k i ≡ Some false
ArePresent k i None (Some jump) = decided k i ≡ Some true
ArePresent k i None None = ⊥

-- Which edges leave an instruction: of a jump with a condition those that are present, of one without its target alone, of an exit none, of
-- each other the next place alone.
abbrev pub AreEnds : Kinds → Insn → Op → Option ℕ → Option ℕ → Type 0
AreEnds k i (Jump w c s) next jump = ArePresent k i next jump
AreEnds k i (Ja w) next jump = (next ≡ None) × (is_some jump ≡ true)
AreEnds k i Exit next jump = (next ≡ None) × (jump ≡ None)
AreEnds k i op next jump = (is_some next ≡ true) × (jump ≡ None)

abbrev pub end_along : Option ℕ → Option ℕ → Bool → Option ℕ
end_along next jump taken = if taken then jump else next

-- These nodes are the ends of the edges that leave node k, to the next place and of the jump.
pub record HasEnds (g : GraphView) (k : ℕ) (i : Insn) (next jump : Option ℕ) : Type 0 where
  pub next_is : IsEnd g k i false next
  pub jump_is : IsEnd g k i true jump
  pub present : AreEnds (node_at g.nodes k).kinds i i.op next jump
  pub each : (taken : Bool) (to : ℕ) → end_along next jump taken ≡ Some to → Contains g.edges (record { from = k; taken = taken; to = to })
  pub all : (x : EdgeView) → Contains g.edges x → x.from ≡ k → end_along next jump x.taken ≡ Some x.to

-- an instruction that goes on at the next place
abbrev pub leads_on : Op → Bool
leads_on (Ja w) = false
leads_on (Jump w c s) = false
leads_on Exit = false
leads_on op = true

-- what an edge brings to the node that it leads to, and what the edges of an instruction bring
abbrev pub brought : Way → ℕ × Kinds
brought e = (e.to, e.kinds)

abbrev pub brought_along : List MapDecl → ℕ → Kinds → Insn → Bool → Bool → Option ℕ → List (ℕ × Kinds)
brought_along decls node k i is_ref taken (Some to) = (to, transferred decls k i node is_ref taken) ∷ []
brought_along decls node k i is_ref taken None = []

abbrev pub all_brought : List MapDecl → ℕ → Kinds → Insn → Bool → Option ℕ → Option ℕ → List (ℕ × Kinds)
all_brought decls node k i is_ref next jump = brought_along decls node k i is_ref false next ++ brought_along decls node k i is_ref true jump
