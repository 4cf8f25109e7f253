-- Where kinds decide a condition, it is so of the values that they describe.
use Rattle.std.proofs.Common.{◌≡◌, ℕ, zero, ℤ, pos, Bool, true, false, not, List, Option, Some, None, refl, ap}
use Rattle.xdp_machine.specs.bpf_isa.declared.operation.Src.{Src}
use Rattle.xdp_machine.specs.bpf_isa.declared.operation.Width.{Width}
use Rattle.xdp_machine.specs.bpf_isa.declared.operation.Width.TheVariants.{Bits32, Bits64}
use Rattle.xdp_machine.specs.bpf_isa.declared.operation.JumpCode.{JumpCode}
use Rattle.xdp_machine.specs.bpf_isa.declared.operation.JumpCode.TheVariants.{Jeq, Jne, Jgt, Jge, Jlt, Jle}
use Rattle.xdp_machine.specs.bpf_isa.declared.instruction.Insn.{Insn}
use Rattle.xdp_machine.specs.xdp_maps.State.{MapState}
use Rattle.xdp_machine.specs.Values.{Value}
use Rattle.xdp_machine.specs.Values as is
use Rattle.xdp_machine.specs.State.{Machine}
use Rattle.xdp_machine.specs.State as machine
use Rattle.xdp_machine.specs.Pointers.{compared}
use Rattle.xdp_machine.specs.Step as step
use Rattle.kind_core.specs.declared.number.Number.{Number}
use Rattle.kind_core.specs.declared.number.Number.TheVariants.{Known, Between}
use Rattle.kind_core.specs.declared.kind.Kind.{Kind}
use Rattle.kind_core.specs.declared.kind.Kind.TheVariants.{Num, Packet, Var, End, Entry}
use Rattle.kind_core.specs.declared.kind.Kinds.{Kinds}
use Rattle.kind_core.specs.Kinds.{register}
use Rattle.kind_core.specs.Conditions.{bounds_test, base_test, mirrored, null_test, against_number, null_condition, pointer_condition, condition_of}
use Rattle.kind_core.specs.Effects.{operand, jump}
use Rattle.kind_core.specs.Edges.{decision}
use Rattle.kind_core.specs.Describes.{World, Describes, DescribesNumber, DescribesMachine}
use Rattle.kind_core.proofs.OperandLaws.{operand_described}

-- an entry
record IsEntryAt (x : Value) : Type 0 where
  q : ℕ
  key : List ℕ
  at : ℤ
  entry : x ≡ is.Entry q key at

null_decided : (w : World) (maps : MapState) (equal : Bool) (a : Kind) (x : Value) (t : Bool) → Describes w maps a x → decision (null_test equal a) ≡ Some t → IsEntryAt x × (not equal ≡ t)
null_decided w maps equal (Entry q o) x t d h = (record { q = q; key = d.0; at = pos o; entry = d.2 }, cc)
null_decided w maps equal k x t d h = absurd (cc)

number_decided : (w : World) (maps : MapState) (c : JumpCode) (a : Kind) (n : Number) (x y : Value) (t : Bool) → Describes w maps a x → DescribesNumber n y → decision (against_number c a n) ≡ Some t
    → compared Bits64 c x y ≡ Some t
number_decided w maps Jeq a (Known zero) x y t d p h = let found = null_decided w maps true a x t d h in rw (found.0.entry, p) (ap Some found.1)
number_decided w maps Jne a (Known zero) x y t d p h = let found = null_decided w maps false a x t d h in rw (found.0.entry, p) (ap Some found.1)
number_decided w maps c a n x y t d p h = absurd (cc)

number_decided_left : (w : World) (maps : MapState) (c : JumpCode) (b : Kind) (n : Number) (x y : Value) (t : Bool) → DescribesNumber n x → Describes w maps b y → decision (against_number c b n) ≡ Some t
    → compared Bits64 c x y ≡ Some t
number_decided_left w maps Jeq b (Known zero) x y t p d h = let found = null_decided w maps true b y t d h in rw (found.0.entry, p) (ap Some found.1)
number_decided_left w maps Jne b (Known zero) x y t p d h = let found = null_decided w maps false b y t d h in rw (found.0.entry, p) (ap Some found.1)
number_decided_left w maps c b n x y t p d h = absurd (cc)

null_condition_decided : (w : World) (maps : MapState) (c : JumpCode) (a b : Kind) (x y : Value) (t : Bool) → Describes w maps a x → Describes w maps b y → decision (null_condition c a b) ≡ Some t
    → compared Bits64 c x y ≡ Some t
null_condition_decided w maps c a (Num n) x y t p q h = number_decided w maps c a n x y t p q h
null_condition_decided w maps c (Num n) b x y t p q h = number_decided_left w maps c b n x y t p q h
null_condition_decided w maps c a b x y t p q h = absurd (cc)

-- the end of the packet is never known
bounds_open : (c : JumpCode) (o : ℕ) → decision (bounds_test c o) ≡ None
bounds_open Jgt o = refl
bounds_open Jge o = refl
bounds_open Jlt o = refl
bounds_open Jle o = refl
bounds_open c o = refl

base_open : (c : JumpCode) (node : ℕ) (f : ℤ) → decision (base_test c node f) ≡ None
base_open Jgt node f = refl
base_open Jge node f = refl
base_open Jlt node f = refl
base_open Jle node f = refl
base_open c node f = refl

not_open : {P : Type 0} (o : Option Bool) (t : Bool) → o ≡ None → o ≡ Some t → P
not_open o t e h = absurd (cc)

pointer_decided : (w : World) (maps : MapState) (c : JumpCode) (a b : Kind) (x y : Value) (t : Bool) → Describes w maps a x → Describes w maps b y → decision (pointer_condition c a b) ≡ Some t
    → compared Bits64 c x y ≡ Some t
pointer_decided w maps c (Packet o) End x y t p q h = not_open (decision (bounds_test c o)) t (bounds_open c o) h
pointer_decided w maps c End (Packet o) x y t p q h = not_open (decision (bounds_test (mirrored c) o)) t (bounds_open (mirrored c) o) h
pointer_decided w maps c (Var b f) End x y t p q h = not_open (decision (base_test c b.node f)) t (base_open c b.node f) h
pointer_decided w maps c End (Var b f) x y t p q h = not_open (decision (base_test (mirrored c) b.node f)) t (base_open (mirrored c) b.node f) h
pointer_decided w maps c a b x y t p q h = null_condition_decided w maps c a b x y t p q h

condition_decided : (w : World) (maps : MapState) (wd : Width) (c : JumpCode) (a b : Kind) (x y : Value) (t : Bool) → Describes w maps a x → Describes w maps b y → decision (condition_of wd c a b) ≡ Some t
    → compared wd c x y ≡ Some t
condition_decided w maps wd c (Num (Known i)) (Num (Known j)) x y t p q h = rw (p, q) h
condition_decided w maps wd c (Num (Known i)) (Num (Between lo hi)) x y t p q h = absurd (cc)
condition_decided w maps wd c (Num (Between lo hi)) (Num n) x y t p q h = absurd (cc)
condition_decided w maps Bits64 c a b x y t p q h = pointer_decided w maps c a b x y t p q h
condition_decided w maps Bits32 c a b x y t p q h = absurd (cc)

pub jump_decided : (w : World) (k : Kinds) (m : Machine) (i : Insn) (wd : Width) (c : JumpCode) (s : Src) (t : Bool) → DescribesMachine w k m → decision (jump k i wd c s) ≡ Some t
    → compared wd c (machine.register m.registers i.dst) (step.operand m.registers i s) ≡ Some t
jump_decided w k m i wd c s t d h =
    condition_decided w m.maps wd c (register k i.dst) (operand k i s) (machine.register m.registers i.dst) (step.operand m.registers i s) t (d.registers i.dst) (operand_described w k m i s d) h
