-- From one node to the next the cells fit the rows of the graph.
use Rattle.std.specs.Prelude.{ℕ, ◌≡◌, ◌+◌, ◌<◌, Option, List, [], ◌∷◌, ◌++◌, length, replicate, get_or}
use Rattle.xdp_machine.specs.bpf_isa.declared.instruction.Insn.{Insn}
use Rattle.xdp_machine.specs.Program.{XdpProgram, IsProgram}
use Rattle.unfold_core.specs.declared.unfolding.Unfolded.{Unfolded}
use Rattle.kind_core.specs.declared.kind.Offsets.TheVariants.{Fixed}
use Rattle.unfold_core.specs.Unfolding.{IsUnfolded}
use Rattle.cell_core.specs.Cells.{CellView}
use Rattle.operator_cells.specs.Making.{seen, Grows}
use Rattle.operator_cells.specs.declared.held_cells.machine_cells.RegisterCells.{RegisterCells}
use Rattle.operator_cells.specs.declared.held_cells.way.Way.{Way}
use Rattle.operator_cells.specs.HeldCells.RegisterCells.{PointerView, pointed}
use Rattle.operator_cells.specs.HeldCells.Rows.{JoinsTo}
use Rattle.operator_cells.specs.HeldCells.Steps.{Steps}
use Rattle.edge_cells.specs.declared.joining.Here.{Here}
use Rattle.edge_cells.specs.Joining.{LeadTo}
use Rattle.edge_cells.specs.NodeCells.Ends.{IsNode, HasEnds, is_reference}
use Rattle.edge_cells.specs.NodeCells.Feeding.{Leave}
use Rattle.site_cells.specs.Sited.{sited}
use Rattle.predicate_core.specs.StepCells.Stepping.{made_of}
use Rattle.predicate_core.specs.StepCells.Rows.{NodeRows}
use Rattle.predicate_core.specs.StepCells.Pointing.{NodePoints}
use Rattle.predicate_core.specs.ProgramGraph.Graphs.{graph_of}
use Rattle.predicate_core.specs.declared.making.Progress.{Progress}
use Rattle.predicate_core.specs.Laws.{made_next}
use Rattle.predicate_core.specs.Gathering.{GathersTo, PassesTo}
use Rattle.predicate_core.specs.Progress.{entries_of, pending_of, IsReady, Comes}
use Rattle.predicate_core.specs.Stages.{kinds_of, FitSoFar, ComesWithin}

-- Where the edges that lead to a node have been joined, and the cells beside them gathered, what is held there fits the origins.
abbrev pub ArrivalsFit : Type 0
ArrivalsFit =
    (p : XdpProgram) (u : Unfolded) (k : ℕ) (t : Progress) (cells cells2 : List CellView) (ps : List PointerView) (meeting : List Way) (guard : ℕ) (h : RegisterCells) (pending : List ℕ)
    → IsProgram p → IsUnfolded p u → u.offsets ≡ Fixed → k < length u.nodes.items → IsReady (graph_of p u) k t → LeadTo k t.made.ways.items meeting
    → JoinsTo (seen t.made.cells.items) cells (pointed t.made.pointers.items) ps meeting (kinds_of u k) guard h → Grows cells cells2
    → GathersTo cells cells2 t.made.ways.items (pending_of t) (get_or (entries_of t) k []) (length p.decls) pending → length pending ≡ length p.decls
    → (fit : FitSoFar p u k t) → ComesWithin p u fit.named k (seen t.made.cells.items) cells2 ps guard h pending

-- A node more, whose code keeps to its rows.
abbrev pub NodesFit : Type 0
NodesFit =
    (p : XdpProgram) (u : Unfolded) (k : ℕ) (i : Insn) (next jump : Option ℕ) (t mid new q : Progress) (here : Here) (pending pending2 : List ℕ) (fit : FitSoFar p u k t)
    → IsProgram p → IsUnfolded p u → k < length u.nodes.items → IsNode (graph_of p u) k i (kinds_of u k) → HasEnds (graph_of p u) k i next jump → IsReady (graph_of p u) k t → Comes (graph_of p u) k t mid here pending
    → ComesWithin p u fit.named k (seen t.made.cells.items) (seen mid.made.cells.items) (pointed mid.made.pointers.items) here.guard here.held pending
    → Steps (graph_of p u) k here.guard here.held (seen mid.made.cells.items) (seen new.made.cells.items) (pointed mid.made.pointers.items) (pointed new.made.pointers.items) (sited mid.made.sites.items) (sited new.made.sites.items)
    mid.made.ways.items new.made.ways.items mid.made.exits.items new.made.exits.items
    → (nodes : NodeRows p.decls k (kinds_of u k) here i (is_reference (graph_of p u) k) pending (made_of mid.made) (made_of new.made)) → Leave (graph_of p u) k nodes.more
    → Grows (seen new.made.cells.items) (seen q.made.cells.items) → PassesTo (seen new.made.cells.items) (seen q.made.cells.items) (sited new.made.sites.items) (length (sited t.made.sites.items)) (length (seen t.made.cells.items)) pending pending2
    → q.made.pointers ≡ new.made.pointers → q.made.ways ≡ new.made.ways → pending_of q ≡ pending_of t ++ replicate (length nodes.more) pending2
    → q.nodes.items ≡ t.nodes.items ++ made_next (graph_of p u) k here.guard (seen t.made.cells.items) (seen q.made.cells.items) ∷ []
    → NodePoints p.decls i pending (kinds_of u k) here (made_of mid.made) (made_of new.made) → q.made.sites ≡ new.made.sites → FitSoFar p u (k + 1) q
