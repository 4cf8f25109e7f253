-- What holds of the runs of a program that unfolds: they are paths in its graph, and end.
use Rattle.std.specs.Prelude.{ℕ, ◌≡◌, ◌<◌, ◌≤◌, Bool, List, length, slice_index_or}
use Rattle.std.specs.List.{Contains}
use Rattle.xdp_machine.specs.xdp_maps.State.{MapState}
use Rattle.xdp_machine.specs.State.{Code, Machine, PacketIn, start}
use Rattle.xdp_machine.specs.Ranges.{IsInRange}
use Rattle.xdp_machine.specs.Step.{step, Goes, Ends}
use Rattle.xdp_machine.specs.Program.{XdpProgram, program_code, IsProgram}
use Rattle.xdp_machine.specs.Runs.{Leaves, leaves, run, Ended}
use Rattle.kind_core.specs.Describes.{World}
use Rattle.kind_core.specs.Soundness.{Stands, IsLater}
use Rattle.unfold_core.specs.declared.edges.Point.{Point}
use Rattle.unfold_core.specs.declared.links.Edge.{Edge}
use Rattle.unfold_core.specs.declared.unfolding.Unfolded.{Unfolded}
use Rattle.unfold_core.specs.Unfolding.{IsUnfolded}

-- a machine stands at a node, whose number is that of the world: at its place, and what is known at the node describes it
pub record StandsAt (g : List Point) (w : World) (m : Machine) : Type 0 where
  pub inside : w.node < length g
  pub place : (d : Point) → m.place ≡ (slice_index_or g w.node d).node.place
  pub stands : (d : Point) → Stands w (slice_index_or g w.node d).kinds m

abbrev pub edge : ℕ → Bool → ℕ → Edge
edge from taken to = record { from = from; taken = taken; to = to }

-- The run from a machine that stands at a node to what it leaves: a path of present edges, at each node of which it stands.
pub data Follows (code : Code) (u : Unfolded) : World → Machine → Leaves → Type 0 where
  ends : {w : World} {m : Machine} {verdict : ℕ} → StandsAt u.nodes.items w m → step code m ≡ Ends verdict → Follows code u w m (leaves verdict m)
  goes : {w v : World} {m n : Machine} {e : Leaves} {taken : Bool} → StandsAt u.nodes.items w m → step code m ≡ Goes n → Contains u.edges.items (edge w.node taken v.node) → IsLater w v → Follows code u v n e
      → Follows code u w m e

-- The run of a packet follows the graph from its first node to its end, to which it comes in as many steps as there are nodes, or in any more: so it
-- is never stuck.
pub record IsSoundRun (p : XdpProgram) (u : Unfolded) (packet : PacketIn) (maps : MapState) : Type 0 where
  pub world : World
  pub first : world.node ≡ 0
  pub left : Leaves
  pub path : Follows (program_code p) u world (start packet maps) left
  pub ended : (steps : ℕ) → length u.nodes.items ≤ steps → run (program_code p) steps (start packet maps) ≡ Ended left

-- Every packet, over all maps of the declarations of a program that unfolds, has such a run where all is in range.
abbrev pub RunsAreSound : Type 0
RunsAreSound = (p : XdpProgram) (u : Unfolded) (packet : PacketIn) (maps : MapState) → IsProgram p → IsUnfolded p u → maps.decls ≡ p.decls → IsInRange (start packet maps) → IsSoundRun p u packet maps
