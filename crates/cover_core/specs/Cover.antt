-- Covers: a program b, with its graph, that does what a program a does. An origin is a place of a for each place of b.
use Rattle.std.specs.Prelude.{ℕ, pos, ◌≡◌, ◌<◌, ◌⊎◌, Bool, true, false, List, [], length, slice_index, slice_index_or, All, Option, Some, None, IsTrue}
use Rattle.xdp_machine.specs.bpf_isa.declared.operation.Src.TheVariants.{K}
use Rattle.xdp_machine.specs.bpf_isa.declared.operation.Width.TheVariants.{Bits64}
use Rattle.xdp_machine.specs.bpf_isa.declared.operation.AluCode.TheVariants.{Mov}
use Rattle.xdp_machine.specs.bpf_isa.declared.operation.JumpCode.TheVariants.{Jeq, Jne}
use Rattle.xdp_machine.specs.bpf_isa.declared.operation.Op.{Op}
use Rattle.xdp_machine.specs.bpf_isa.declared.operation.Op.TheVariants.{Alu, Ja, Jump}
use Rattle.xdp_machine.specs.bpf_isa.declared.instruction.Insn.{Insn}
use Rattle.xdp_machine.specs.bpf_isa.Text.{insn_at}
use Rattle.xdp_machine.specs.Values.{◌>>=◌}
use Rattle.xdp_machine.specs.Program.{XdpProgram}
use Rattle.kind_core.specs.declared.kind.Offsets.TheVariants.{Fixed}
use Rattle.kind_core.specs.Kinds as kinds
use Rattle.unfold_core.specs.declared.edges.Point.{Point}
use Rattle.unfold_core.specs.declared.links.Edge.{Edge}
use Rattle.unfold_core.specs.declared.unfolding.Unfolded.{Unfolded}
use Rattle.unfold_core.specs.Edges.{is_reference}
use Rattle.unfold_core.specs.LinkLaws.{known_behind}
use Rattle.cover_core.specs.Settling.{side, settled}

abbrev pub no_point : Point
no_point = record { node = record { place = 0; copies = [] }; kinds = kinds.start Fixed }

-- a node of b, its place, and its place in a
abbrev pub node_at : Unfolded → ℕ → Point
node_at u n = slice_index_or u.nodes.items n no_point

abbrev pub place_of : Unfolded → ℕ → ℕ
place_of u n = (node_at u n).node.place

abbrev pub origin_of : Unfolded → List ℕ → ℕ → ℕ
origin_of u origin n = slice_index origin (place_of u n)

-- an instruction, of a conditional jump without its distance
abbrev pub undirected_as : Insn → Op → Insn
undirected_as i (Jump w c s) = record i { offset = pos 0 }
undirected_as i op = i

abbrev pub undirected : Insn → Insn
undirected i = undirected_as i i.op

-- all but the operations of two instructions is the same
pub record AreSameFields (i j : Insn) : Type 0 where
  pub dst : i.dst ≡ j.dst
  pub src : i.src ≡ j.src
  pub offset : i.offset ≡ j.offset
  pub imm : i.imm ≡ j.imm

abbrev pub is_plain_jump : Op → Bool
is_plain_jump (Ja w) = true
is_plain_jump op = false

abbrev pub is_constant_move : Op → Bool
is_constant_move (Alu Bits64 Mov K) = true
is_constant_move op = false

-- the side of a jump on which the destination is equal to the immediate number
abbrev pub equal_side : Op → Option Bool
equal_side (Jump Bits64 Jeq K) = Some true
equal_side (Jump Bits64 Jne K) = Some false
equal_side op = None

-- On this side of a jump j the register that a move i writes is equal to the number that it moves.
pub record Tells (i j : Insn) (taken : Bool) : Type 0 where
  pub side : equal_side j.op ≡ Some taken
  pub register : j.dst ≡ i.dst
  pub number : j.imm ≡ i.imm

abbrev pub TellsBy : Insn → Bool → Option Insn → Type 0
TellsBy i taken (Some j) = Tells i j taken
TellsBy i taken None = ⊥

-- Each edge to a node behind the first tells that its move changes nothing.
pub record IsTold (b : XdpProgram) (u : Unfolded) (n : ℕ) (i : Insn) : Type 0 where
  pub move : IsTrue (is_constant_move i.op)
  pub behind : 0 < n
  pub each : All (λ x. x.to ≡ n → TellsBy i x.taken (insn_at b.insns (place_of u x.from))) u.edges.items

-- b's instruction at node n changes nothing but the place: a jump, or a move of a number to where it is already
abbrev pub Idles : XdpProgram → Unfolded → ℕ → Insn → Type 0
Idles b u n i = IsTrue (is_plain_jump i.op) ⊎ IsTold b u n i

-- b goes on alone from node n, while a stays where it is
abbrev pub Waits : Unfolded → List ℕ → ℕ → Type 0
Waits u origin n = All (λ x. x.from ≡ n → origin_of u origin x.to ≡ origin_of u origin n) u.edges.items

-- Where b goes along an edge by i, a goes to the same side by j, and settles at the origin of the node there.
abbrev pub Settles : XdpProgram → XdpProgram → Unfolded → List ℕ → Insn → Insn → Edge → Type 0
Settles a b u origin i j x = (side (origin_of u origin x.from) j x.taken >>= settled a.insns (known_behind b (node_at u x.from) x (Some i))) ≡ Some (origin_of u origin x.to)

-- Both step, b at node n by i, and a at its origin by j: the same instruction, over the same map if it refers to one.
pub record Steps (a b : XdpProgram) (u : Unfolded) (origin : List ℕ) (n : ℕ) (i j : Insn) : Type 0 where
  pub same : undirected j ≡ undirected i
  pub refers : is_reference a (origin_of u origin n) ≡ is_reference b (place_of u n)
  pub settles : All (λ x. x.from ≡ n → Settles a b u origin i j x) u.edges.items

abbrev pub StepsBy : XdpProgram → XdpProgram → Unfolded → List ℕ → ℕ → Insn → Option Insn → Type 0
StepsBy a b u origin n i (Some j) = Steps a b u origin n i j
StepsBy a b u origin n i None = ⊥

abbrev pub IsCoveredBy : XdpProgram → XdpProgram → Unfolded → List ℕ → ℕ → Option Insn → Type 0
IsCoveredBy a b u origin n (Some i) = (Idles b u n i × Waits u origin n) ⊎ StepsBy a b u origin n i (insn_at a.insns (origin_of u origin n))
IsCoveredBy a b u origin n None = ⊥

-- At each node b idles and a waits, or both step.
abbrev pub IsCovered : XdpProgram → XdpProgram → Unfolded → List ℕ → ℕ → Type 0
IsCovered a b u origin n = IsCoveredBy a b u origin n (insn_at b.insns (place_of u n))

-- The origins are a cover of a by b: both have the same maps, the first node's origin is where a settles at the start, and each node is covered.
pub record IsCover (a b : XdpProgram) (u : Unfolded) (origin : List ℕ) : Type 0 where
  pub decls : b.decls ≡ a.decls
  pub start : settled a.insns (kinds.start u.offsets) 0 ≡ Some (origin_of u origin 0)
  pub nodes : (n : ℕ) → n < length u.nodes.items → IsCovered a b u origin n
