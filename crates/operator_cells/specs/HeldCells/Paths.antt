-- The run of a packet among the nodes of a program's graph.
use Rattle.std.specs.Prelude.{ℕ, zero, suc, ◌==◌, ◌&&◌, if◌then◌else◌, Bool, false, List, [], ◌∷◌, length}
use Rattle.std.proofs.Common.{get_or}
use Rattle.cell_core.specs.xdp_maps.declared.decl.MapDecl.{MapDecl}
use Rattle.cell_core.specs.xdp_maps.State.{MapState}
use Rattle.cell_core.specs.xdp_machine.State.{Code, Machine, PacketIn, start}
use Rattle.cell_core.specs.xdp_machine.Step.{Outcome, Goes, Ends, NoCase, step}
use Rattle.cell_core.specs.xdp_machine.Runs.{Leaves, leaves}
use Rattle.kind_core.specs.declared.kind.Kinds.{Kinds}
use Rattle.kind_core.specs.declared.kind.Offsets.TheVariants.{Fixed}
use Rattle.kind_core.specs.Kinds as kinds

-- a node: the place of its instruction, and what is known there
pub record NodeView : Type 0 where
  pub place : ℕ
  pub kinds : Kinds

-- a present edge, by the numbers of the nodes that it leaves and leads to, and whether it is that of a jump
pub record EdgeView : Type 0 where
  pub from : ℕ
  pub taken : Bool
  pub to : ℕ

pub record GraphView : Type 0 where
  pub code : Code
  pub decls : List MapDecl
  pub nodes : List NodeView
  pub edges : List EdgeView

-- what stands for a node past the last
abbrev pub no_node : NodeView
no_node = record { place = 0; kinds = kinds.start Fixed }

abbrev pub node_at : List NodeView → ℕ → NodeView
node_at nodes k = get_or nodes k no_node

-- the node to which an edge leads from node k where the machine goes on at a place; none, past the last, where no edge does
abbrev pub led : List NodeView → ℕ → ℕ → List EdgeView → ℕ
led nodes k place [] = length nodes
led nodes k place (e ∷ es) = if (e.from == k) && ((node_at nodes e.to).place == place) then e.to else led nodes k place es

-- where a run stands: before the step of a node, after its end, or where there is no step
pub data Stage : Type 0 where
  At : ℕ → Machine → Stage
  Over : Leaves → Stage
  Nowhere : Stage

-- after the step of node k
abbrev pub stepped : GraphView → ℕ → Machine → Outcome → Stage
stepped g k m (Goes next) = At (led g.nodes k next.place g.edges) next
stepped g k m (Ends verdict) = Over (leaves verdict m)
stepped g k m NoCase = Nowhere

-- the run comes by node k: it does its step there, or passes
abbrev pub visit : GraphView → ℕ → Stage → Stage
visit g k (At n m) = if n == k then stepped g k m (step g.code m) else At n m
visit g k (Over e) = Over e
visit g k Nowhere = Nowhere

-- the run of a packet after all nodes below k
abbrev pub before : GraphView → PacketIn → MapState → ℕ → Stage
before g packet maps zero = At 0 (start packet maps)
before g packet maps (suc k) = visit g k (before g packet maps k)

abbrev pub stands_at : ℕ → Stage → Bool
stands_at k (At n m) = n == k
stands_at k (Over e) = false
stands_at k Nowhere = false

-- whether node k is on the path of a packet
abbrev pub on_path : GraphView → PacketIn → MapState → ℕ → Bool
on_path g packet maps k = stands_at k (before g packet maps k)

-- the maps of a run
abbrev pub maps_in : MapState → Stage → MapState
maps_in none (At n m) = m.maps
maps_in none (Over e) = e.maps
maps_in none Nowhere = none
