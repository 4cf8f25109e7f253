-- What unfolding a program gives: its loops, the nodes of its graph and their edges, or the first refusal.
use Rattle.std.specs.Prelude.{ℕ, ◌≡◌, ◌+◌, ◌⊎◌, not, Bool, true, false, List, [], ◌∷◌, ◌++◌, Option, Some, None, Result, Ok, Err}
use Rattle.xdp_machine.specs.bpf_isa.declared.instruction.Insn.{Insn}
use Rattle.xdp_machine.specs.bpf_isa.Text.{insn_at}
use Rattle.xdp_machine.specs.Program.{XdpProgram}
use Rattle.kind_core.specs.declared.kind.Kinds.{Kinds}
use Rattle.kind_core.specs.declared.kind.Offsets.{Offsets}
use Rattle.xdp_state.specs.declared.refusal.BuildError.{BuildError}
use Rattle.xdp_state.specs.declared.refusal.BuildError.TheVariants.{Refused, NoMemory}
use Rattle.kind_core.specs.Edges.{decided}
use Rattle.unfold_core.specs.declared.nesting.Loop.{Loop}
use Rattle.unfold_core.specs.declared.edges.Point.{Point}
use Rattle.unfold_core.specs.declared.links.Edge.{Edge}
use Rattle.unfold_core.specs.declared.unfolding.Unfolded.{Unfolded}
use Rattle.unfold_core.specs.Loops.{HasLoops, IsFirstPlace}
use Rattle.unfold_core.specs.Edges.{goes_next, leaving}
use Rattle.unfold_core.specs.Graphs.{ends, IsGraph, IsFirstNode}
use Rattle.unfold_core.specs.Pending.{number_of}

-- whether the first edge of an instruction is that of its jump
abbrev pub jumps_first : Kinds → Option Insn → Bool
jumps_first k (Some i) = not (goes_next i.op (decided k i))
jumps_first k None = false

-- the edges from a node to these, by their numbers in the graph: a second one is that of the jump
abbrev pub numbered : List Loop → List Point → ℕ → Bool → List Point → List Edge
numbered ls g from taken [] = []
numbered ls g from taken (e ∷ es) = record { from = from; taken = taken; to = number_of ls e.node g } ∷ numbered ls g from true es

-- the edges of these nodes of a graph, whose numbers are k and so on
abbrev pub links : XdpProgram → List Loop → List Point → ℕ → List Point → List Edge
links p ls g k [] = []
links p ls g k (n ∷ ns) = numbered ls g k (jumps_first n.kinds (insn_at p.insns n.node.place)) (ends (leaving p ls k n)) ++ links p ls g (k + 1) ns

pub record IsUnfolded (p : XdpProgram) (u : Unfolded) : Type 0 where
  pub loops : HasLoops p.insns u.loops.items
  pub graph : IsGraph u.offsets p u.loops.items u.nodes.items
  pub edges : u.edges.items ≡ links p u.loops.items u.nodes.items 0 u.nodes.items

-- A place refuses the program, or else, where its loops are in order, a node.
abbrev pub Unfolds : Offsets → XdpProgram → Result Unfolded BuildError → Type 0
Unfolds offsets p (Ok u) = IsUnfolded p u × (u.offsets ≡ offsets)
Unfolds offsets p (Err (Refused r)) = IsFirstPlace p.insns r ⊎ ((ls : List Loop) × HasLoops p.insns ls × IsFirstNode offsets p ls r)
Unfolds offsets p (Err NoMemory) = Unit {0}
