-- Arithmetic on kinds, pointers among them.
use Rattle.std.specs.Prelude.{ℕ, zero, ℤ, pos, negsuc, ◌+ℤ◌, ◌-ℤ◌, neg_ℤ, int_le, Bool, true, false, ◌&&◌, if◌then◌else◌, Result, Ok, Err, List, unsigned_abs}
use Rattle.std.specs.Ordering.{int_eq}
use Rattle.std.specs.Int.{w64, cast_unsigned}
use Rattle.xdp_machine.specs.bits_core.Bits.{signed_of}
use Rattle.xdp_machine.specs.bpf_isa.declared.operation.Src.{Src}
use Rattle.xdp_machine.specs.bpf_isa.declared.operation.Width.{Width}
use Rattle.xdp_machine.specs.bpf_isa.declared.operation.Width.TheVariants.{Bits64}
use Rattle.xdp_machine.specs.bpf_isa.declared.operation.AluCode.{AluCode}
use Rattle.xdp_machine.specs.bpf_isa.declared.operation.AluCode.TheVariants.{Add, Sub, Mov}
use Rattle.xdp_machine.specs.xdp_maps.declared.decl.MapDecl.{MapDecl}
use Rattle.kind_core.specs.declared.number.Number.{Number}
use Rattle.kind_core.specs.declared.number.Number.TheVariants.{Known, Between}
use Rattle.kind_core.specs.declared.base.Base.{Base}
use Rattle.kind_core.specs.declared.kind.Kind.{Kind}
use Rattle.kind_core.specs.declared.kind.Kind.TheVariants.{Num, Packet, Var, End, Stack, Entry}
use Rattle.xdp_state.specs.declared.refusal.Why.{Why}
use Rattle.xdp_state.specs.declared.refusal.Why.TheVariants as why
use Rattle.kind_core.specs.NumberBounds.{any_number}
use Rattle.kind_core.specs.Numbers.{number_arithmetic, number_sum, number_difference, number_extended}
use Rattle.kind_core.specs.Kinds.{value_bytes}
use Rattle.kind_core.specs.Tests.{◌>>=◌, number_in, within}

-- how far a number with its sign moves a pointer, on or back: the number has to be known
abbrev pub distance : Bool → Number → Result ℤ Why
distance back (Known n) = Ok (if back then neg_ℤ (signed_of 64 n) else signed_of 64 n)
distance back (Between lo hi) = Err why.Offset

-- a place in the stack, from its end
abbrev pub stack_at : ℤ → Result Kind Why
stack_at z = if int_le (negsuc 511) z && int_le z (pos 0) then Ok (Stack z) else Err why.Offset

-- a distance from a base
abbrev pub var_at : Base → ℤ → Result Kind Why
var_at b z = if int_le (negsuc 255) z && int_le z (pos 256) then Ok (Var b z) else Err why.Offset

-- A pointer stays in its region, or goes to its end: the first 256 bytes of the packet, so many about a base, the stack, a map's value.
abbrev pub moved : List MapDecl → Bool → Kind → Number → Result Kind Why
moved decls back (Packet o) n = distance back n >>= λ z. within (pos o +ℤ z) 0 256 >>= λ a. Ok (Packet a)
moved decls back (Var b f) n = distance back n >>= λ z. var_at b (f +ℤ z)
moved decls back (Stack o) n = distance back n >>= λ z. stack_at (o +ℤ z)
moved decls back (Entry q o) n = distance back n >>= λ z. within (pos o +ℤ z) 0 (value_bytes decls q) >>= λ a. Ok (Entry q a)
moved decls back k n = Err why.Use

-- ADD of 64 bits: a pointer is moved by a number, on either side
abbrev pub sum : List MapDecl → Kind → Kind → Result Kind Why
sum decls (Num a) (Num b) = Ok (Num (number_sum a b))
sum decls (Num a) k = moved decls false k a
sum decls k (Num b) = moved decls false k b
sum decls k j = Err why.Use

-- SUB of 64 bits: a pointer is moved back, and two into the packet have a distance
abbrev pub less_number : List MapDecl → Kind → Number → Result Kind Why
less_number decls (Num a) b = Ok (Num (number_difference a b))
less_number decls k b = moved decls true k b

abbrev pub less_packet : Kind → ℕ → Result Kind Why
less_packet (Packet o) p = Ok (Num (Known (cast_unsigned w64 (pos o -ℤ pos p))))
less_packet (Var b f) p = Ok (Num (any_number 64))
less_packet End p = Ok (Num (any_number 64))
less_packet k p = Err why.Use

-- from a place in the packet that is not known, as its end
abbrev pub less_end : Kind → Result Kind Why
less_end (Packet o) = Ok (Num (any_number 64))
less_end (Var b f) = Ok (Num (any_number 64))
less_end End = Ok (Num (any_number 64))
less_end k = Err why.Use

abbrev pub difference : List MapDecl → Kind → Kind → Result Kind Why
difference decls k (Num b) = less_number decls k b
difference decls k (Packet p) = less_packet k p
difference decls k (Var b f) = less_end k
difference decls k End = less_end k
difference decls k j = Err why.Use

-- MOV: of 64 bits and without a count it copies any kind
abbrev pub copied : Width → ℕ → Kind → Result Kind Why
copied Bits64 zero k = Ok k
copied w count k = number_in k >>= λ n. Ok (Num (number_extended w count n))

-- the other operations are on numbers
abbrev pub computed : Width → AluCode → Bool → Src → Kind → Kind → Result Kind Why
computed w c signed s a b = number_in a >>= λ x. number_in b >>= λ y. Ok (Num (number_arithmetic c signed w s x y))

-- an arithmetic instruction with this offset, and this source of the second operand
abbrev pub combined : List MapDecl → Width → AluCode → ℤ → Src → Kind → Kind → Result Kind Why
combined decls w Mov offset s a b = copied w (unsigned_abs offset) b
combined decls Bits64 Add offset s a b = sum decls a b
combined decls Bits64 Sub offset s a b = difference decls a b
combined decls w c offset s a b = computed w c (int_eq offset (pos 1)) s a b
