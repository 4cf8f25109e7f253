-- The edges that are added at a node.
use Rattle.std.specs.Prelude.{ℕ, ◌≡◌, ◌++◌, Option, List, map as map_list}
use Rattle.xdp_machine.specs.bpf_isa.declared.instruction.Insn.{Insn}
use Rattle.kind_core.specs.declared.kind.Kinds.{Kinds}
use Rattle.operator_cells.specs.declared.held_cells.way.Way.{Way}
use Rattle.operator_cells.specs.HeldCells.Paths.{GraphView}
use Rattle.edge_cells.specs.NodeCells.Ends.{IsNode, HasEnds, is_reference, brought, all_brought}
use Rattle.edge_cells.specs.NodeCells.Feeding.{Leave}

-- Where the edges that are added bring what the instruction of node k brings to its ends, they are the edges that leave it.
abbrev pub NodesBring : Type 0
NodesBring =
    (g : GraphView) (k : ℕ) (i : Insn) (kinds : Kinds) (next jump : Option ℕ) (ways more ways2 : List Way) → IsNode g k i kinds → HasEnds g k i next jump → ways2 ≡ ways ++ more
    → map_list brought ways2 ≡ map_list brought ways ++ all_brought g.decls k kinds i (is_reference g k) next jump → Leave g k more
