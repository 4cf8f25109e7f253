-- The machine of the pipe over a list of clocks, by what stands at the ports in each.
use Rattle.std.specs.Prelude.{ℕ, List, [], ◌∷◌, map as map_list}
use Rattle.realization.specs.net_core.declared.ports.Inputs.{Inputs}
use Rattle.pipe_core.specs.Machine.{State, Output, Build, clock, output}
use Rattle.pipe_core.specs.HostRuns.Inputs.{input_of}

abbrev pub after : Build → List Inputs → State → State
after b [] s = s
after b (i ∷ is) s = after b is (clock b (input_of i) s)

-- what is shown in each clock
abbrev pub outputs : Build → List Inputs → State → List Output
outputs b [] s = []
outputs b (i ∷ is) s = output b (input_of i) s ∷ outputs b is (clock b (input_of i) s)

-- the words that the host is shown
abbrev pub shown_words : List Output → List ℕ
shown_words os = map_list (λ o. o.host_value) os
