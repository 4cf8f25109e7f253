-- A host that reads changes nothing.
use Rattle.std.specs.Prelude.{◌≡◌, Some, None, false, List, map as map_list}
use Rattle.std.specs.List.{AllByRecursion}
use Rattle.realization.specs.net_core.declared.ports.Inputs.{Inputs}
use Rattle.hazard_core.specs.declared.access.Access.{Access}
use Rattle.pipe_core.specs.Machine.{State, Input, Build, clock, output}
use Rattle.pipe_core.specs.History.{Trace, next, run}
use Rattle.pipe_core.specs.HostRuns.Inputs.{input_of}

abbrev pub silent : Input → Input
silent i = record i { host = None }

-- Of an input whose host writes nothing: the clock, the trace and, but for the word that is read, what is shown are those of a silent host.
pub record IsSilent (b : Build) (i : Input) : Type 0 where
  pub state : (s : State) → clock b i s ≡ clock b (silent i) s
  pub trace : (t : Trace) → next b i t ≡ next b (silent i) t
  pub shown : (s : State) → record (output b i s) { host_value = 0 } ≡ output b (silent i) s

abbrev pub ReadsAreSilent : Type 0
ReadsAreSilent = (b : Build) (i : Input) (a : Access) → i.host ≡ Some a → a.write ≡ None → IsSilent b i

-- So of clocks one after another, by what stands at the ports.
abbrev pub RunsAreSilent : Type 0
RunsAreSilent = (b : Build) (is : List Inputs) → AllByRecursion (λ i. i.host_write ≡ false) is → (t : Trace) → run b (map_list input_of is) t ≡ run b (map_list (λ i. silent (input_of i)) is) t
