-- What the fields of an instruction may hold, by its operation: RFC 9669, sections 4 and 5.
use Rattle.std.specs.Prelude.{ℤ, pos, ◌≡◌, ◌⊎◌, ◌≤ℤ◌, List, [], ◌∷◌}
use Rattle.bpf_isa.specs.declared.operation.Src.TheVariants.{K, X}
use Rattle.bpf_isa.specs.declared.operation.Size.TheVariants.{B, H, Dw}
use Rattle.bpf_isa.specs.declared.operation.Width.TheVariants.{Bits32, Bits64}
use Rattle.bpf_isa.specs.declared.operation.AluCode.TheVariants.{Div, Mod, Mov}
use Rattle.bpf_isa.specs.declared.operation.Op.{Op}
use Rattle.bpf_isa.specs.declared.operation.Op.TheVariants.{Alu, Neg, End, Swap, Ja, Jump, Call, Exit, LoadImm, Abs, Ind, Load, LoadSigned, StoreImm, Store, Atomic}
use Rattle.bpf_isa.specs.declared.fields.Rule.{Rule}
use Rattle.bpf_isa.specs.declared.fields.Rule.TheVariants.{Unused, Used, UpTo, Signed, Extension32, Extension64, SwapBits, Atomics}
use Rattle.bpf_isa.specs.declared.fields.Rules.{Rules}

-- z is one of these numbers
abbrev pub OneOf : List ℤ → ℤ → Type 0
OneOf [] z = ⊥
OneOf (x ∷ []) z = z ≡ x
OneOf (x ∷ y ∷ ys) z = (z ≡ x) ⊎ OneOf (y ∷ ys) z

abbrev pub Allows : Rule → ℤ → Type 0
Allows Unused z = z ≡ pos 0
Allows Used z = Unit {0}
Allows (UpTo n) z = (pos 0 ≤ℤ z) × (z ≤ℤ pos n)
Allows Signed z = OneOf (pos 0 ∷ pos 1 ∷ []) z
Allows Extension32 z = OneOf (pos 0 ∷ pos 8 ∷ pos 16 ∷ []) z
Allows Extension64 z = OneOf (pos 0 ∷ pos 8 ∷ pos 16 ∷ pos 32 ∷ []) z
Allows SwapBits z = OneOf (pos 16 ∷ pos 32 ∷ pos 64 ∷ []) z
-- ADD, OR, AND, XOR, each also with FETCH; XCHG, CMPXCHG
Allows Atomics z = OneOf (pos 0x00 ∷ pos 0x01 ∷ pos 0x40 ∷ pos 0x41 ∷ pos 0x50 ∷ pos 0x51 ∷ pos 0xa0 ∷ pos 0xa1 ∷ pos 0xe1 ∷ pos 0xf1 ∷ []) z

-- destination, source, offset, immediate number
abbrev pub fields : Rule → Rule → Rule → Rule → Rules
fields dst src offset imm = record { dst = dst; src = src; offset = offset; imm = imm }

abbrev pub rules_of : Op → Rules
-- an offset of 1 makes division signed
rules_of (Alu w Div K) = fields Used Unused Signed Used
rules_of (Alu w Div X) = fields Used Used Signed Unused
rules_of (Alu w Mod K) = fields Used Unused Signed Used
rules_of (Alu w Mod X) = fields Used Used Signed Unused
-- an offset is how many bits are moved with their sign
rules_of (Alu Bits32 Mov X) = fields Used Used Extension32 Unused
rules_of (Alu Bits64 Mov X) = fields Used Used Extension64 Unused
rules_of (Alu w c K) = fields Used Unused Unused Used
rules_of (Alu w c X) = fields Used Used Unused Unused
rules_of (Neg w) = fields Used Unused Unused Unused
rules_of (End s) = fields Used Unused Unused SwapBits
rules_of Swap = fields Used Unused Unused SwapBits
-- JMP jumps by the offset, JMP32 by the immediate number
rules_of (Ja Bits64) = fields Unused Unused Used Unused
rules_of (Ja Bits32) = fields Unused Unused Unused Used
rules_of (Jump w c K) = fields Used Unused Used Used
rules_of (Jump w c X) = fields Used Used Used Unused
-- the source tells the kind of function, and of a number of 64 bits
rules_of Call = fields Unused (UpTo 2) Unused Used
rules_of Exit = fields Unused Unused Unused Unused
rules_of LoadImm = fields Used (UpTo 6) Unused Used
rules_of (Abs size) = fields Unused Unused Unused Used
rules_of (Ind size) = fields Unused Used Unused Used
rules_of (Load size) = fields Used Used Used Unused
rules_of (LoadSigned size) = fields Used Used Used Unused
rules_of (StoreImm size) = fields Used Unused Used Used
rules_of (Store size) = fields Used Used Used Unused
rules_of (Atomic size) = fields Used Used Used Atomics

-- the sizes that an operation has
abbrev pub IsSized : Op → Type 0
IsSized (Abs Dw) = ⊥
IsSized (Ind Dw) = ⊥
IsSized (LoadSigned Dw) = ⊥
IsSized (Atomic B) = ⊥
IsSized (Atomic H) = ⊥
IsSized op = Unit {0}
