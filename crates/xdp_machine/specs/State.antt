-- The state of the machine (RFC 9669, section 2; linux/bpf.h, struct xdp_md).
use Rattle.std.specs.Prelude.{ℕ, pos, ◌==◌, List, [], ◌∷◌, get_or, replicate, slice_set, Bool, is_some, Option, Some, None, if◌then◌else◌}
use Rattle.bpf_isa.specs.declared.instruction.Insn.{Insn}
use Rattle.bpf_isa.specs.Text.{insn_at}
use Rattle.xdp_maps.specs.State.{MapState}
use Rattle.xdp_machine.specs.Values.{Value, Unset, Number, Context, Stack}

-- what is run: instructions, and the places at which a number of 64 bits is a map
pub record Code : Type 0 where
  pub insns : List Insn
  pub refs : List ℕ

pub record Machine : Type 0 where
  -- R0 to R10
  pub registers : List Value
  -- 64 slots of eight bytes, each a number with its low byte first, or one pointer
  pub stack : List Value
  pub frame : List ℕ
  -- the interface that the frame came in by
  pub ifindex : ℕ
  -- when it was captured, in nanoseconds
  pub time : ℕ
  pub maps : MapState
  -- the interface that a redirect recorded, or 0
  pub target : ℕ
  -- the unit with which the next instruction begins
  pub place : ℕ

-- a packet as it comes in: its frame, the interface that it came in by, and when it was captured, in nanoseconds
pub record PacketIn : Type 0 where
  pub frame : List ℕ
  pub ifindex : ℕ
  pub time : ℕ

-- R1 is the context, R10 the end of the stack
abbrev pub first_registers : List Value
first_registers = Unset ∷ Context ∷ Unset ∷ Unset ∷ Unset ∷ Unset ∷ Unset ∷ Unset ∷ Unset ∷ Unset ∷ Stack (pos 0) ∷ []

-- the stack begins as zeros
abbrev pub start : PacketIn → MapState → Machine
start packet maps = record {
  registers = first_registers;
  stack = replicate 64 (Number 0);
  frame = packet.frame;
  ifindex = packet.ifindex;
  time = packet.time;
  maps = maps;
  target = 0;
  place = 0;
}

abbrev pub register : List Value → ℕ → Value
register registers r = get_or registers r Unset

-- a value goes into a register; R10 is not written
abbrev pub put : List Value → ℕ → Value → Option (List Value)
put registers r v = if r == 10 then None else Some (slice_set registers r v)

-- the machine with its registers changed
abbrev pub with_registers : Machine → Option (List Value) → Option Machine
with_registers m None = None
with_registers m (Some registers) = Some (record m { registers = registers })

-- whether an instruction begins at a place
abbrev pub begins : List Insn → ℕ → Bool
begins insns place = is_some (insn_at insns place)
