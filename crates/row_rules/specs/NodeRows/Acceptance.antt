-- Which programs are accepted, with their stages, and the first refusal of the others.
use Rattle.std.specs.Prelude.{◌≡◌, ◌⊎◌, List}
use Rattle.xdp_state.specs.xdp_machine.Program.{XdpProgram}
use Rattle.xdp_state.specs.declared.refusal.Refusal.{Refusal}
use Rattle.kind_core.specs.declared.kind.Offsets.{Offsets}
use Rattle.unfold_core.specs.declared.links.Edge.{Edge}
use Rattle.unfold_core.specs.Unfolding.{links}
use Rattle.unfold_core.specs.Acceptance as graphs
use Rattle.row_rules.specs.declared.node_rows.stages.Stages.{Stages}
use Rattle.row_rules.specs.NodeRows.Rows.{HasStages, IsTooLate}

-- the edges of the graph of a program that unfolds
abbrev pub edges_of : (offsets : Offsets) (p : XdpProgram) → graphs.IsAccepted offsets p → List Edge
edges_of offsets p u = links p u.loops u.graph 0 u.graph

-- A program is accepted that unfolds, and whose graph has few stages.
pub record IsAccepted (offsets : Offsets) (p : XdpProgram) : Type 0 where
  pub unfolds : graphs.IsAccepted offsets p
  pub stages : Stages
  pub has_stages : HasStages p unfolds.graph (edges_of offsets p unfolds) stages

-- A program that unfolds has too many stages: this is its first node that is refused.
pub record HasTooManyStages (offsets : Offsets) (p : XdpProgram) (r : Refusal) : Type 0 where
  pub unfolds : graphs.IsAccepted offsets p
  pub late : IsTooLate p unfolds.graph (edges_of offsets p unfolds) r

-- The first refusal of another: it does not unfold, or else it has too many stages.
abbrev pub IsFirstRefusal : Offsets → XdpProgram → Refusal → Type 0
IsFirstRefusal offsets p r = graphs.IsFirstRefusal offsets p r ⊎ HasTooManyStages offsets p r

-- a program has one first refusal at most, and none where it is accepted
pub record HasOneOutcome (offsets : Offsets) (p : XdpProgram) : Type 0 where
  pub refusal : (r s : Refusal) → IsFirstRefusal offsets p r → IsFirstRefusal offsets p s → r ≡ s
  pub never_both : (r : Refusal) → IsFirstRefusal offsets p r → ¬ IsAccepted offsets p
