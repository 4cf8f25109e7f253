-- From one node to the next, and what follows for all of them.
use Rattle.std.specs.Prelude.{ℕ, ◌≡◌, ◌+◌, ◌-◌, ◌<◌, List, [], ◌∷◌, ◌++◌, length, replicate, All}
use Rattle.std.specs.List.{AllPairs}
use Rattle.xdp_machine.specs.bpf_isa.declared.instruction.Insn.{Insn}
use Rattle.xdp_machine.specs.bpf_isa.Spelling.{IsInsn}
use Rattle.xdp_machine.specs.xdp_maps.declared.decl.MapDecl.{MapDecl}
use Rattle.cell_core.specs.declared.program.Node.{Node}
use Rattle.cell_core.specs.declared.program.FrameByte.{FrameByte}
use Rattle.cell_core.specs.Cells.{CellView}
use Rattle.cell_core.specs.Sites.{SiteView}
use Rattle.operator_cells.specs.Making.{Grows}
use Rattle.operator_cells.specs.declared.held_cells.machine_cells.RegisterCells.{RegisterCells}
use Rattle.operator_cells.specs.declared.held_cells.way.Way.{Way}
use Rattle.operator_cells.specs.declared.held_cells.way.Exit.{Exit}
use Rattle.operator_cells.specs.HeldCells.Paths.{GraphView, node_at}
use Rattle.operator_cells.specs.HeldCells.RegisterCells.{PointerView}
use Rattle.operator_cells.specs.HeldCells.Steps.{Steps}
use Rattle.operator_cells.specs.HeldCells.Law.{IsLaw}
use Rattle.operator_cells.specs.HeldCells.Pointing.{AccessesLookUp, AccessesStay}
use Rattle.operator_cells.specs.HeldCells.Reading.{ReadsAreMade, ReadsWait}
use Rattle.edge_cells.specs.declared.joining.Here.{Here}
use Rattle.predicate_core.specs.StepCells.Stepping.{MadeView}
use Rattle.predicate_core.specs.StepCells.Pointing.{NodePoints}
use Rattle.predicate_core.specs.Buildable.{IsBuildable}
use Rattle.predicate_core.specs.Making.{Making, IsSoFar, Arrives, Answers, made_alone}
use Rattle.predicate_core.specs.Opening.{Opens}
use Rattle.predicate_core.specs.Pointing.{PointSoFar, ArrivePoints}
use Rattle.predicate_core.specs.Gathering.{PassesTo}
use Rattle.predicate_core.specs.Reading.{ReadSoFar, PendingMeets}

-- the node that has been made after others
abbrev pub made_next : GraphView → ℕ → ℕ → List CellView → List CellView → Node
made_next g k guard old new = record { place = (node_at g.nodes k).place; guard = guard; first = length old; end = length new }

-- A node more: what leads to it has been joined, and its code does what the code of a node is to do.
abbrev pub NodesFollow : Type 0
NodesFollow =
    (g : GraphView) (k : ℕ) (hs : List RegisterCells) (t : Making) (cells cells2 : List CellView) (ps ps2 : List PointerView) (sites : List SiteView) (ways : List Way) (exits : List Exit) (guard : ℕ) (h : RegisterCells)
    → IsSoFar g k hs t → Arrives g k t cells ps guard h → Steps g k guard h cells cells2 ps ps2 t.sites sites t.ways ways t.exits exits
    → IsSoFar g (k + 1) (hs ++ h ∷ [])
    (record { cells = cells2; pointers = ps2; sites = sites; ways = ways; exits = exits; nodes = t.nodes ++ made_next g k guard t.cells cells2 ∷ [] })

-- With the edge to the first node alone no pointer is held.
abbrev pub OpensPoint : Type 0
OpensPoint = (decls : List MapDecl) (t : MadeView) (e : Way) → t.ways ≡ e ∷ [] → t.sites ≡ [] → Opens [] t.cells e → PointSoFar decls 0 t

-- A node more, and more cells after it: where pointers came from lookups as far as it, they do as far as the next one.
abbrev pub NodesPoint : Type 0
NodesPoint =
    (g : GraphView) (k : ℕ) (hs : List RegisterCells) (t : Making) (old new : MadeView) (here : Here) (i : Insn) (pending : List ℕ) (cells : List CellView)
    → IsSoFar g k hs t → Arrives g k t old.cells old.pointers here.guard here.held → old.sites ≡ t.sites → old.ways ≡ t.ways
    → Steps g k here.guard here.held old.cells new.cells old.pointers new.pointers old.sites new.sites old.ways new.ways old.exits new.exits
    → ArrivePoints g.decls k (node_at g.nodes k).kinds old.cells t.pointers old.pointers t.ways here.guard here.held
    → NodePoints g.decls i pending (node_at g.nodes k).kinds here old new → Grows new.cells cells
    → PointSoFar g.decls k (record { cells = t.cells; pointers = t.pointers; sites = t.sites; ways = t.ways; exits = t.exits }) → PointSoFar g.decls (k + 1) (record new { cells = cells })

-- With the edge to the first node alone there is nothing to read.
abbrev pub OpensRead : Type 0
OpensRead = (decls : List MapDecl) (t : MadeView) (e : Way) (beside : List (List ℕ)) → t.ways ≡ e ∷ [] → t.sites ≡ [] → Grows [] t.cells → ReadSoFar decls 0 t beside

-- A node more, and after its code the cells of what is pending: where reads waited for the writes before them as far as it, they do as far as the next
-- one.
abbrev pub NodesRead : Type 0
NodesRead =
    (g : GraphView) (k : ℕ) (hs : List RegisterCells) (t : Making) (old new : MadeView) (here : Here) (i : Insn) (pending pending2 : List ℕ) (cells : List CellView) (beside : List (List ℕ))
    → IsSoFar g k hs t → Arrives g k t old.cells old.pointers here.guard here.held → old.sites ≡ t.sites → old.ways ≡ t.ways
    → Steps g k here.guard here.held old.cells new.cells old.pointers new.pointers old.sites new.sites old.ways new.ways old.exits new.exits
    → ArrivePoints g.decls k (node_at g.nodes k).kinds old.cells t.pointers old.pointers t.ways here.guard here.held
    → NodePoints g.decls i pending (node_at g.nodes k).kinds here old new → Grows new.cells cells
    → length pending ≡ length g.decls → length beside ≡ length t.ways → PendingMeets k old.cells t.ways beside pending
    → PassesTo new.cells cells new.sites (length t.sites) (length t.cells) pending pending2
    → PointSoFar g.decls k (record { cells = t.cells; pointers = t.pointers; sites = t.sites; ways = t.ways; exits = t.exits })
    → ReadSoFar g.decls k (record { cells = t.cells; pointers = t.pointers; sites = t.sites; ways = t.ways; exits = t.exits }) beside
    → ReadSoFar g.decls (k + 1) (record new { cells = cells }) (beside ++ replicate (length new.ways - length t.ways) pending2)

-- Cells that read no site may be added where edges have been joined.
abbrev pub ArrivalsStay : Type 0
ArrivalsStay =
    (g : GraphView) (k : ℕ) (t : Making) (cells cells2 : List CellView) (ps : List PointerView) (guard : ℕ) (h : RegisterCells)
    → Arrives g k t cells ps guard h → Grows cells cells2 → Arrives g k t cells2 ps guard h

-- The same after the code of a node.
abbrev pub StepsStay : Type 0
StepsStay =
    (g : GraphView) (k guard : ℕ) (h : RegisterCells) (cells cells2 cells3 : List CellView) (ps ps2 : List PointerView) (sites sites2 : List SiteView) (ways ways2 : List Way) (exits exits2 : List Exit)
    → Steps g k guard h cells cells2 ps ps2 sites sites2 ways ways2 exits exits2 → Grows cells2 cells3 → Steps g k guard h cells cells3 ps ps2 sites sites2 ways ways2 exits exits2

-- Once all nodes are done, each with a site at most, and the cells of the answer are there, the law of cells holds of them, and they can be built.
abbrev pub WholesCompute : Type 0
WholesCompute =
    (g : GraphView) (hs : List RegisterCells) (t : Making) (cells : List CellView) (verdict target : ℕ) (frame : List FrameByte)
    → All IsInsn g.code.insns → IsSoFar g (length g.nodes) hs t → AllPairs (λ s r. s.node < r.node) t.sites → AccessesLookUp g.decls (made_alone t) → AccessesStay (made_alone t) → ReadsAreMade g.decls (made_alone t) → ReadsWait (made_alone t)
    → Answers t.cells cells t.exits verdict target frame
    → IsLaw g (record { cells = cells; nodes = t.nodes; sites = t.sites; verdict = verdict; target = target; frame = frame })
    × IsBuildable (record { cells = cells; nodes = t.nodes; sites = t.sites; verdict = verdict; target = target; frame = frame })
