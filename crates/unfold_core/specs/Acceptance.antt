-- Which programs are accepted, and the first refusal of the others.
use Rattle.std.specs.Prelude.{◌≡◌, ◌⊎◌, List}
use Rattle.xdp_machine.specs.Program.{XdpProgram}
use Rattle.xdp_state.specs.declared.refusal.Refusal.{Refusal}
use Rattle.kind_core.specs.declared.kind.Offsets.{Offsets}
use Rattle.unfold_core.specs.declared.nesting.Loop.{Loop}
use Rattle.unfold_core.specs.declared.edges.Point.{Point}
use Rattle.unfold_core.specs.Loops.{HasLoops, IsFirstPlace}
use Rattle.unfold_core.specs.Graphs.{IsGraph, IsFirstNode}

-- A program is accepted that no place refuses, and that has a graph.
pub record IsAccepted (offsets : Offsets) (p : XdpProgram) : Type 0 where
  pub loops : List Loop
  pub graph : List Point
  pub has_loops : HasLoops p.insns loops
  pub is_graph : IsGraph offsets p loops graph

-- The first refusal of another: a place refuses it, or else, where its loops are in order, a node.
abbrev pub IsFirstRefusal : Offsets → XdpProgram → Refusal → Type 0
IsFirstRefusal offsets p r = IsFirstPlace p.insns r ⊎ ((ls : List Loop) × HasLoops p.insns ls × IsFirstNode offsets p ls r)

-- a program has one first refusal at most, and none where it is accepted
pub record HasOneOutcome (offsets : Offsets) (p : XdpProgram) : Type 0 where
  pub refusal : (r s : Refusal) → IsFirstRefusal offsets p r → IsFirstRefusal offsets p s → r ≡ s
  pub never_both : (r : Refusal) → IsFirstRefusal offsets p r → ¬ IsAccepted offsets p
