-- Conditions of jumps: RFC 9669, section 4.3.
use Rattle.std.specs.Prelude.{ℕ, ℤ, pos, zero, ◌+◌, ◌+ℤ◌, Bool, true, false, not, Option, Some, None, Result, Ok, Err}
use Rattle.xdp_machine.specs.bpf_isa.declared.operation.Width.{Width}
use Rattle.xdp_machine.specs.bpf_isa.declared.operation.Width.TheVariants.{Bits32, Bits64}
use Rattle.xdp_machine.specs.bpf_isa.declared.operation.JumpCode.{JumpCode}
use Rattle.xdp_machine.specs.bpf_isa.declared.operation.JumpCode.TheVariants.{Jeq, Jne, Jgt, Jge, Jlt, Jle}
use Rattle.kind_core.specs.declared.number.Number.{Number}
use Rattle.kind_core.specs.declared.number.Number.TheVariants.{Known}
use Rattle.kind_core.specs.declared.kind.Kind.{Kind}
use Rattle.kind_core.specs.declared.kind.Kind.TheVariants.{Num, Packet, Var, End, Maybe, Entry}
use Rattle.kind_core.specs.declared.conditions.Condition.{Condition}
use Rattle.kind_core.specs.declared.conditions.Condition.TheVariants.{Decided, Open, NullTest, BoundsTest, BaseTest}
use Rattle.xdp_state.specs.declared.refusal.Why.{Why}
use Rattle.xdp_state.specs.declared.refusal.Why.TheVariants as why
use Rattle.kind_core.specs.Numbers.{number_holds}

abbrev pub of_numbers : Option Bool → Condition
of_numbers (Some taken) = Decided taken
of_numbers None = Open

-- A place of the packet before its end: on one edge so many bytes are there.
abbrev pub bounds_test : JumpCode → ℕ → Result Condition Why
bounds_test Jgt o = Ok (BoundsTest false o)
bounds_test Jge o = Ok (BoundsTest false (o + 1))
bounds_test Jlt o = Ok (BoundsTest true (o + 1))
bounds_test Jle o = Ok (BoundsTest true o)
bounds_test c o = Err why.Use

-- the same of a place at a distance from a base
abbrev pub base_test : JumpCode → ℕ → ℤ → Result Condition Why
base_test Jgt node f = Ok (BaseTest false node f)
base_test Jge node f = Ok (BaseTest false node (f +ℤ pos 1))
base_test Jlt node f = Ok (BaseTest true node (f +ℤ pos 1))
base_test Jle node f = Ok (BaseTest true node f)
base_test c node f = Err why.Use

-- the same condition with its sides exchanged
abbrev pub mirrored : JumpCode → JumpCode
mirrored Jgt = Jlt
mirrored Jge = Jle
mirrored Jlt = Jgt
mirrored Jle = Jge
mirrored c = c

-- a test against 0: an entry is not null, and the answer of a lookup may be
abbrev pub null_test : Bool → Kind → Result Condition Why
null_test equal (Maybe q n) = Ok (NullTest equal n)
null_test equal (Entry q o) = Ok (Decided (not equal))
null_test equal k = Err why.Use

abbrev pub against_number : JumpCode → Kind → Number → Result Condition Why
against_number Jeq k (Known zero) = null_test true k
against_number Jne k (Known zero) = null_test false k
against_number c k n = Err why.Use

-- a pointer on either side of a number
abbrev pub null_condition : JumpCode → Kind → Kind → Result Condition Why
null_condition c k (Num b) = against_number c k b
null_condition c (Num a) k = against_number c k a
null_condition c a b = Err why.Use

abbrev pub pointer_condition : JumpCode → Kind → Kind → Result Condition Why
pointer_condition c (Packet o) End = bounds_test c o
pointer_condition c End (Packet o) = bounds_test (mirrored c) o
pointer_condition c (Var b f) End = base_test c b.node f
pointer_condition c End (Var b f) = base_test (mirrored c) b.node f
pointer_condition c a b = null_condition c a b

-- the condition of a jump: pointers are compared by 64 bits alone
abbrev pub condition_of : Width → JumpCode → Kind → Kind → Result Condition Why
condition_of w c (Num a) (Num b) = Ok (of_numbers (number_holds c w a b))
condition_of Bits64 c a b = pointer_condition c a b
condition_of Bits32 c a b = Err why.Use
