-- What holds of the wires of well-formed designs.
use Rattle.std.specs.Prelude.{◌≡◌, List, [], length}
use Rattle.net_core.specs.declared.tree.Word.{Word}
use Rattle.net_core.specs.Nets.{Netlist}
use Rattle.net_core.specs.Clock.{Stored, env, env_of, with_wires}
use Rattle.design_rules.specs.Formed.{IsWellFormed}
use Rattle.design_rules.specs.SolvedWires.Solving.{Solves}

abbrev pub ClocksSolveWires : Type 0
ClocksSolveWires = (d : Netlist) → IsWellFormed d → (ins : List Word) (s : Stored) → Solves (env_of d ins s) 0 d.wires

abbrev pub WiresHaveOneSolution : Type 0
WiresHaveOneSolution = (d : Netlist) → IsWellFormed d → (ins : List Word) (s : Stored) (ws : List Word) → length ws ≡ length d.wires → Solves (env ins s ws) 0 d.wires → with_wires ins s [] d.wires ≡ ws
