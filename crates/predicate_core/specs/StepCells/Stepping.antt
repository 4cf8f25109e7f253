-- What the code of a node does.
use Rattle.std.specs.Prelude.{ℕ, ◌≡◌, Bool, Option, List}
use Rattle.xdp_machine.specs.bpf_isa.declared.instruction.Insn.{Insn}
use Rattle.xdp_machine.specs.xdp_maps.declared.decl.MapDecl.{MapDecl}
use Rattle.kind_core.specs.declared.kind.Kinds.{Kinds}
use Rattle.cell_core.specs.Cells.{CellView}
use Rattle.cell_core.specs.Sites.{SiteView}
use Rattle.operator_cells.specs.Making.{seen}
use Rattle.operator_cells.specs.declared.held_cells.way.Way.{Way}
use Rattle.operator_cells.specs.declared.held_cells.way.Exit.{Exit}
use Rattle.operator_cells.specs.HeldCells.Paths.{GraphView}
use Rattle.operator_cells.specs.HeldCells.RegisterCells.{PointerView, pointed}
use Rattle.operator_cells.specs.HeldCells.Steps.{AreMade, Steps}
use Rattle.edge_cells.specs.declared.joining.Here.{Here}
use Rattle.site_cells.specs.Sited.{sited}
use Rattle.edge_cells.specs.NodeCells.Ends.{IsNode, HasEnds, is_reference}
use Rattle.predicate_core.specs.declared.step_cells.made.Made.{Made}

-- what has been made, without the places in memory where it lies
pub record MadeView : Type 0 where
  pub cells : List CellView
  pub pointers : List PointerView
  pub sites : List SiteView
  pub ways : List Way
  pub exits : List Exit

abbrev pub made_of : Made → MadeView
made_of m = record { cells = seen m.cells.items; pointers = pointed m.pointers.items; sites = sited m.sites.items; ways = m.ways.items; exits = m.exits.items }

-- The code of a node of any graph with this instruction there, these kinds and these ends does what the code of the node is to do.
abbrev pub NodeSteps : List MapDecl → ℕ → Kinds → Here → Insn → Bool → Option ℕ → Option ℕ → MadeView → MadeView → Type 0
NodeSteps decls node k here i is_ref next jump old new =
    (g : GraphView) → g.decls ≡ decls → IsNode g node i k → HasEnds g node i next jump → is_ref ≡ is_reference g node → AreMade g old.cells old.pointers old.ways old.exits
    → Steps g node here.guard here.held old.cells new.cells old.pointers new.pointers old.sites new.sites old.ways new.ways old.exits new.exits
