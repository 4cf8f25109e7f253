-- What the code of nodes does, by their instructions.
use Rattle.std.specs.Prelude.{ℕ, ◌≡◌, ◌<◌, Bool, true, false, Option, List, length}
use Rattle.xdp_machine.specs.bpf_isa.declared.operation.Op.TheVariants.{Exit}
use Rattle.xdp_machine.specs.bpf_isa.declared.instruction.Insn.{Insn}
use Rattle.xdp_machine.specs.xdp_maps.declared.decl.MapDecl.{MapDecl}
use Rattle.kind_core.specs.declared.kind.Kinds.{Kinds}
use Rattle.cell_core.specs.Cells.{CellView}
use Rattle.cell_core.specs.Sites.{SiteView}
use Rattle.operator_cells.specs.declared.held_cells.machine_cells.RegisterCells.{RegisterCells}
use Rattle.operator_cells.specs.declared.held_cells.way.Way.{Way}
use Rattle.operator_cells.specs.declared.held_cells.way.Exit.{Exit as End}
use Rattle.operator_cells.specs.HeldCells.Paths.{GraphView}
use Rattle.operator_cells.specs.HeldCells.RegisterCells.{PointerView, AreInside}
use Rattle.operator_cells.specs.HeldCells.Operating.{Operates}
use Rattle.operator_cells.specs.HeldCells.Steps.{AreMade, Steps}
use Rattle.edge_cells.specs.declared.joining.Here.{Here}
use Rattle.edge_cells.specs.NodeCells.Ends.{IsNode, IsEdge, IsEnd, is_reference, leads_on}

-- of a node with a jump, whose edges lead to these nodes
abbrev pub JumpSteps : List MapDecl → ℕ → Kinds → Here → Insn → Option ℕ → Option ℕ → List CellView → List CellView → List PointerView → List Way → List Way → Type 0
JumpSteps decls node k here i next jump old new ps ways ways2 =
    (g : GraphView) (sites : List SiteView) (exits : List End) → g.decls ≡ decls → IsNode g node i k → IsEnd g node i false next → IsEnd g node i true jump → AreMade g old ps ways exits
    → Steps g node here.guard here.held old new ps ps sites sites ways ways2 exits exits

-- of a node with a jump that has one edge, to this node
abbrev pub EdgeSteps : List MapDecl → ℕ → Kinds → Here → Insn → Bool → ℕ → List CellView → List CellView → List PointerView → List Way → List Way → Type 0
EdgeSteps decls node k here i taken to old new ps ways ways2 =
    (g : GraphView) (sites : List SiteView) (exits : List End) → g.decls ≡ decls → IsNode g node i k → IsEdge g node i taken to → AreMade g old ps ways exits
    → Steps g node here.guard here.held old new ps ps sites sites ways ways2 exits exits

-- of a node with an instruction that leads on, whose cells operate as they should
abbrev pub StepsOn : List MapDecl → ℕ → Kinds → Insn → Bool → ℕ → RegisterCells → ℕ → List Way → List Way → Type 0
StepsOn decls node k i is_ref guard next to ways ways2 =
    (g : GraphView) (here : RegisterCells) (old new : List CellView) (ps qs : List PointerView) (sites sites2 : List SiteView) (exits : List End) → g.decls ≡ decls → IsNode g node i k → leads_on i.op ≡ true
    → is_ref ≡ is_reference g node → IsEdge g node i false to → guard < length old → Operates g.decls i node guard is_ref false k here next old new ps qs sites sites2 → AreMade g old ps ways exits
    → Steps g node guard here old new ps qs sites sites2 ways ways2 exits exits

-- of a node where the run ends
abbrev pub ExitSteps : Kinds → Here → List End → List End → Type 0
ExitSteps k here exits exits2 =
    (g : GraphView) (i : Insn) (node : ℕ) (cells : List CellView) (ps : List PointerView) (sites : List SiteView) (ways : List Way) → IsNode g node i k → i.op ≡ Exit → here.guard < length cells
    → AreInside g.decls (length cells) ps here.held k → AreMade g cells ps ways exits
    → Steps g node here.guard here.held cells cells ps ps sites sites ways ways exits exits2
