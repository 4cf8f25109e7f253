-- What is counted on the graph of a program, and why nothing is.
use Rattle.std.specs.Prelude.{◌≡◌}
use Rattle.xdp_machine.specs.Program.{XdpProgram}
use Rattle.xdp_state.specs.declared.refusal.BuildError.{BuildError}
use Rattle.xdp_state.specs.declared.refusal.BuildError.TheVariants.{Refused, NoMemory}
use Rattle.kind_core.specs.declared.kind.Offsets.{Offsets}
use Rattle.unfold_core.specs.Unfolding.{IsUnfolded}
use Rattle.row_rules.specs.NodeRows.Rows.{HasStages}
use Rattle.row_rules.specs.NodeRows.Acceptance.{IsFirstRefusal}
use Rattle.prepare_core.specs.declared.counting.Counted.{Counted}

-- the graph of a program that is accepted, where offsets may vary or not, and its stages
pub record IsCounted (offsets : Offsets) (p : XdpProgram) (c : Counted) : Type 0 where
  pub unfolded : IsUnfolded p c.graph
  pub same : c.graph.offsets ≡ offsets
  pub stages : HasStages p c.graph.nodes.items c.graph.edges.items c.stages

-- why there is none: its first refusal; of want of memory nothing is said
abbrev pub FailsCounting : Offsets → XdpProgram → BuildError → Type 0
FailsCounting offsets p (Refused r) = IsFirstRefusal offsets p r
FailsCounting offsets p NoMemory = Unit {0}
