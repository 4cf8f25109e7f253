-- What is unfolded of a program shows that it is accepted.
use Rattle.std.proofs.Common.{◌≡◌, subst}
use Rattle.xdp_machine.specs.Program.{XdpProgram}
use Rattle.kind_core.specs.declared.kind.Offsets.{Offsets}
use Rattle.unfold_core.specs.declared.unfolding.Unfolded.{Unfolded}
use Rattle.unfold_core.specs.Graphs.{IsGraph}
use Rattle.unfold_core.specs.Unfolding.{IsUnfolded}
use Rattle.unfold_core.specs.Acceptance.{IsAccepted}

abbrev pub unfolds_of : (offsets : Offsets) (p : XdpProgram) (u : Unfolded) → IsUnfolded p u → u.offsets ≡ offsets → IsAccepted offsets p
unfolds_of offsets p u is same = record {
  loops = u.loops.items;
  graph = u.nodes.items;
  has_loops = is.loops;
  is_graph = subst (λ (o : Offsets). IsGraph o p u.loops.items u.nodes.items) same is.graph;
}
