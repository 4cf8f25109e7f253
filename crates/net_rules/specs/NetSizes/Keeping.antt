-- What holds in a clock of a design whose nets hold words of these sizes.
use Rattle.std.specs.Prelude.{List, []}
use Rattle.net_core.specs.declared.tree.Net.{Net}
use Rattle.net_core.specs.declared.ports.Inputs.{Inputs}
use Rattle.net_core.specs.Nets.{WireTree}
use Rattle.net_core.specs.Value.{Env}
use Rattle.net_core.specs.Clock.{Stored, env, with_wires}
use Rattle.net_core.specs.Ports.{words_of}
use Rattle.net_rules.specs.NetSizes.Fitting.{NetSizes, AreFitting}
use Rattle.net_rules.specs.NetSizes.Staying.{HaveSizes}

-- nets hold words of their sizes where registers do, whatever stands at the ports
abbrev pub WiresFit : NetSizes → List WireTree → Type 0
WiresFit sizes wires = (i : Inputs) (s : Stored) → HaveSizes sizes.registers s → AreFitting sizes (env (words_of i) s (with_wires (words_of i) s [] wires))

-- registers keep their sizes where nets hold words of theirs
abbrev pub Keeps : NetSizes → (Env Net → Stored → Stored) → Type 0
Keeps sizes next = (v : Env Net) → AreFitting sizes v → (s : Stored) → HaveSizes sizes.registers s → HaveSizes sizes.registers (next v s)
