-- What leaves a node: its present edges, or the first test that it fails.
use Rattle.std.specs.Prelude.{ℕ, ◌≡◌, ◌+◌, ◌==◌, Bool, true, false, not, if◌then◌else◌, List, [], ◌∷◌, ◌++◌, Option, Some, None, Result, Ok, Err}
use Rattle.std.specs.List.{list_any}
use Rattle.std.specs.declared.vec.Vec.{Vec}
use Rattle.std.specs.declared.alloc.Global.{Global}
use Rattle.xdp_machine.specs.bpf_isa.declared.operation.Op.{Op}
use Rattle.xdp_machine.specs.bpf_isa.declared.operation.Op.TheVariants.{Ja, Jump, Exit}
use Rattle.xdp_machine.specs.bpf_isa.declared.instruction.Insn.{Insn}
use Rattle.xdp_machine.specs.bpf_isa.Spelling.{units_of}
use Rattle.xdp_machine.specs.bpf_isa.Text.{insn_at}
use Rattle.xdp_machine.specs.State.{begins}
use Rattle.xdp_machine.specs.Program.{XdpProgram}
use Rattle.kind_core.specs.declared.kind.Kinds.{Kinds}
use Rattle.xdp_state.specs.declared.refusal.Why.{Why}
use Rattle.xdp_state.specs.declared.refusal.Why.TheVariants as why
use Rattle.xdp_state.specs.declared.refusal.BuildError.{BuildError}
use Rattle.xdp_state.specs.declared.refusal.BuildError.TheVariants.{Refused, NoMemory}
use Rattle.kind_core.specs.Tests.{Test}
use Rattle.kind_core.specs.Effects.{effect_of, verdict}
use Rattle.kind_core.specs.Edges.{transferred, decided}
use Rattle.unfold_core.specs.declared.nesting.Loop.{Loop}
use Rattle.unfold_core.specs.declared.edges.Point.{Point}
use Rattle.unfold_core.specs.Jumps.{target_of}
use Rattle.unfold_core.specs.Nodes.{GraphNode, reached}

-- An edge goes to the next place, but for an instruction that always jumps or ends the run, and for a jump that is decided to be taken.
abbrev pub goes_next : Op → Option Bool → Bool
goes_next Exit d = false
goes_next (Ja w) d = false
goes_next (Jump w c s) (Some taken) = not taken
goes_next op d = true

-- An edge goes to the target of a jump, but for one that is decided not to be taken.
abbrev pub goes_jump : Op → Option Bool → Bool
goes_jump (Ja w) d = true
goes_jump (Jump w c s) (Some taken) = taken
goes_jump (Jump w c s) None = true
goes_jump op d = false

abbrev pub at_copy : Kinds → Option GraphNode → Result Point Why
at_copy k (Some n) = Ok (record { node = n; kinds = k })
at_copy k None = Err why.Loop

-- an edge to a place: an instruction begins there, and no loop is left without a copy
abbrev pub edge_to : List Insn → List Loop → GraphNode → Kinds → Option ℕ → Result Point Why
edge_to insns ls n k (Some to) = if begins insns to then at_copy k (reached ls n to) else Err why.Jump
edge_to insns ls n k None = Err why.Jump

abbrev pub if_present : Bool → Result Point Why → Result (List Point) Why
if_present true (Ok p) = Ok (p ∷ [])
if_present true (Err w) = Err w
if_present false e = Ok []

abbrev pub in_turn : Result (List Point) Why → Result (List Point) Why → Result (List Point) Why
in_turn (Ok xs) (Ok ys) = Ok (xs ++ ys)
in_turn (Ok xs) (Err w) = Err w
in_turn (Err w) r = Err w

abbrev pub is_reference : XdpProgram → ℕ → Bool
is_reference p place = list_any (λ r. r == place) p.refs

-- the edge to the next place, and the one of the jump
abbrev pub next_edge : XdpProgram → List Loop → ℕ → Point → Insn → Result Point Why
next_edge p ls number at i = edge_to p.insns ls at.node (transferred p.decls at.kinds i number (is_reference p at.node.place) false) (Some (at.node.place + units_of i.op))

abbrev pub jump_edge : XdpProgram → List Loop → ℕ → Point → Insn → Result Point Why
jump_edge p ls number at i = edge_to p.insns ls at.node (transferred p.decls at.kinds i number (is_reference p at.node.place) true) (target_of at.node.place (Some i))

abbrev pub edges_of : XdpProgram → List Loop → ℕ → Point → Insn → Result (List Point) Why
edges_of p ls number at i =
    in_turn (if_present (goes_next i.op (decided at.kinds i)) (next_edge p ls number at i))
    (if_present (goes_jump i.op (decided at.kinds i)) (jump_edge p ls number at i))

abbrev pub if_allowed : Test → Result (List Point) Why → Result (List Point) Why
if_allowed (Ok u) r = r
if_allowed (Err w) r = Err w

abbrev pub leaving_by : XdpProgram → List Loop → ℕ → Point → Option Insn → Result (List Point) Why
leaving_by p ls number at (Some i) = if_allowed (verdict (effect_of p.decls at.kinds i)) (edges_of p ls number at i)
leaving_by p ls number at None = Err why.Jump

-- The present edges that leave a node of this number, in unfolded order, the next place first, or the first test that the node fails.
unfoldable pub leaving : XdpProgram → List Loop → ℕ → Point → Result (List Point) Why
leaving p ls number at = leaving_by p ls number at (insn_at p.insns at.node.place)

-- What a call answers that adds edges to a list, at a place that they leave.
abbrev pub Adds : {U : Type 0} → ℕ → Result U BuildError → Result (List Point) Why → List Point → List Point → Type 0
Adds at (Ok u) wanted old new = (xs : List Point) × (wanted ≡ Ok xs) × (new ≡ old ++ xs)
Adds at (Err NoMemory) wanted old new = Unit {0}
Adds at (Err (Refused r)) wanted old new = (wanted ≡ Err r.why) × (r.at ≡ at)

-- and one that makes an edge
abbrev pub Makes : ℕ → Result Point BuildError → Result Point Why → Type 0
Makes at (Ok p) wanted = wanted ≡ Ok p
Makes at (Err NoMemory) wanted = Unit {0}
Makes at (Err (Refused r)) wanted = (wanted ≡ Err r.why) × (r.at ≡ at)

abbrev pub Leaves : ℕ → Result (List Point) Why → Result (Vec Point Global) BuildError → Type 0
Leaves at wanted (Ok v) = wanted ≡ Ok v.items
Leaves at wanted (Err NoMemory) = Unit {0}
Leaves at wanted (Err (Refused r)) = (wanted ≡ Err r.why) × (r.at ≡ at)
