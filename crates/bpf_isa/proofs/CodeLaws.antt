-- An opcode has one operation.
use Rattle.std.proofs.Common.{◌≡◌, ℕ, ◌==◌, List, [], ◌∷◌, ◌++◌, map, find, Option, Some, refl, sym, ◌∙◌, ap}
use Rattle.std.specs.List.{flat_map}
use Rattle.bpf_isa.specs.declared.operation.Op.{Op}
use Rattle.bpf_isa.specs.declared.operation.Op.TheVariants.{Alu, Neg, End, Swap, Ja, Jump, Call, Exit, LoadImm, Abs, Ind, Load, LoadSigned, StoreImm, Store, Atomic}
use Rattle.bpf_isa.specs.declared.operation.Src.{Src}
use Rattle.bpf_isa.specs.declared.operation.Src.TheVariants.{K, X}
use Rattle.bpf_isa.specs.declared.operation.Size.{Size}
use Rattle.bpf_isa.specs.declared.operation.Size.TheVariants.{B, H, W, Dw}
use Rattle.bpf_isa.specs.declared.operation.Width.{Width}
use Rattle.bpf_isa.specs.declared.operation.Width.TheVariants.{Bits32, Bits64}
use Rattle.bpf_isa.specs.declared.operation.AluCode.{AluCode}
use Rattle.bpf_isa.specs.declared.operation.AluCode.TheVariants.{Add, Sub, Mul, Div, Or, And, Lsh, Rsh, Mod, Xor, Mov, Arsh}
use Rattle.bpf_isa.specs.declared.operation.JumpCode.{JumpCode}
use Rattle.bpf_isa.specs.declared.operation.JumpCode.TheVariants.{Jeq, Jgt, Jge, Jset, Jne, Jsgt, Jsge, Jlt, Jle, Jslt, Jsle}
use Rattle.bpf_isa.specs.Opcode.{code_of}

abbrev widths : List Width
widths = Bits32 ∷ Bits64 ∷ []

abbrev srcs : List Src
srcs = K ∷ X ∷ []

abbrev sizes : List Size
sizes = B ∷ H ∷ W ∷ Dw ∷ []

abbrev alu_codes : List AluCode
alu_codes = Add ∷ Sub ∷ Mul ∷ Div ∷ Or ∷ And ∷ Lsh ∷ Rsh ∷ Mod ∷ Xor ∷ Mov ∷ Arsh ∷ []

abbrev jump_codes : List JumpCode
jump_codes = Jeq ∷ Jgt ∷ Jge ∷ Jset ∷ Jne ∷ Jsgt ∷ Jsge ∷ Jlt ∷ Jle ∷ Jslt ∷ Jsle ∷ []

abbrev all_ops : List Op
all_ops =
    flat_map (λ w. Neg w ∷ Ja w ∷ flat_map (λ s. map (λ c. Alu w c s) alu_codes ++ map (λ c. Jump w c s) jump_codes) srcs) widths
    ++ (End K ∷ End X ∷ Swap ∷ Call ∷ Exit ∷ LoadImm ∷ [])
    ++ flat_map (λ z. Abs z ∷ Ind z ∷ Load z ∷ LoadSigned z ∷ StoreImm z ∷ Store z ∷ Atomic z ∷ []) sizes

-- the operation of an opcode, sought in the table
abbrev op_at : ℕ → Option Op
op_at n = find (λ op. code_of op == n) all_ops

each_size : (P : Size → Type 0) → P B → P H → P W → P Dw → (x : Size) → P x
each_size P p0 p1 p2 p3 B = p0
each_size P p0 p1 p2 p3 H = p1
each_size P p0 p1 p2 p3 W = p2
each_size P p0 p1 p2 p3 Dw = p3

each_alu : (P : AluCode → Type 0) → P Add → P Sub → P Mul → P Div → P Or → P And → P Lsh → P Rsh → P Mod → P Xor → P Mov → P Arsh → (x : AluCode) → P x
each_alu P p0 p1 p2 p3 p4 p5 p6 p7 p8 p9 p10 p11 Add = p0
each_alu P p0 p1 p2 p3 p4 p5 p6 p7 p8 p9 p10 p11 Sub = p1
each_alu P p0 p1 p2 p3 p4 p5 p6 p7 p8 p9 p10 p11 Mul = p2
each_alu P p0 p1 p2 p3 p4 p5 p6 p7 p8 p9 p10 p11 Div = p3
each_alu P p0 p1 p2 p3 p4 p5 p6 p7 p8 p9 p10 p11 Or = p4
each_alu P p0 p1 p2 p3 p4 p5 p6 p7 p8 p9 p10 p11 And = p5
each_alu P p0 p1 p2 p3 p4 p5 p6 p7 p8 p9 p10 p11 Lsh = p6
each_alu P p0 p1 p2 p3 p4 p5 p6 p7 p8 p9 p10 p11 Rsh = p7
each_alu P p0 p1 p2 p3 p4 p5 p6 p7 p8 p9 p10 p11 Mod = p8
each_alu P p0 p1 p2 p3 p4 p5 p6 p7 p8 p9 p10 p11 Xor = p9
each_alu P p0 p1 p2 p3 p4 p5 p6 p7 p8 p9 p10 p11 Mov = p10
each_alu P p0 p1 p2 p3 p4 p5 p6 p7 p8 p9 p10 p11 Arsh = p11

each_jump : (P : JumpCode → Type 0) → P Jeq → P Jgt → P Jge → P Jset → P Jne → P Jsgt → P Jsge → P Jlt → P Jle → P Jslt → P Jsle → (x : JumpCode) → P x
each_jump P p0 p1 p2 p3 p4 p5 p6 p7 p8 p9 p10 Jeq = p0
each_jump P p0 p1 p2 p3 p4 p5 p6 p7 p8 p9 p10 Jgt = p1
each_jump P p0 p1 p2 p3 p4 p5 p6 p7 p8 p9 p10 Jge = p2
each_jump P p0 p1 p2 p3 p4 p5 p6 p7 p8 p9 p10 Jset = p3
each_jump P p0 p1 p2 p3 p4 p5 p6 p7 p8 p9 p10 Jne = p4
each_jump P p0 p1 p2 p3 p4 p5 p6 p7 p8 p9 p10 Jsgt = p5
each_jump P p0 p1 p2 p3 p4 p5 p6 p7 p8 p9 p10 Jsge = p6
each_jump P p0 p1 p2 p3 p4 p5 p6 p7 p8 p9 p10 Jlt = p7
each_jump P p0 p1 p2 p3 p4 p5 p6 p7 p8 p9 p10 Jle = p8
each_jump P p0 p1 p2 p3 p4 p5 p6 p7 p8 p9 p10 Jslt = p9
each_jump P p0 p1 p2 p3 p4 p5 p6 p7 p8 p9 p10 Jsle = p10

abbrev IsFound : Op → Type 0
IsFound op = op_at (code_of op) ≡ Some op

found_alu : (w : Width) (s : Src) (c : AluCode) → IsFound (Alu w c s)
found_alu Bits32 K c = each_alu (λ c. IsFound (Alu Bits32 c K)) refl refl refl refl refl refl refl refl refl refl refl refl c
found_alu Bits32 X c = each_alu (λ c. IsFound (Alu Bits32 c X)) refl refl refl refl refl refl refl refl refl refl refl refl c
found_alu Bits64 K c = each_alu (λ c. IsFound (Alu Bits64 c K)) refl refl refl refl refl refl refl refl refl refl refl refl c
found_alu Bits64 X c = each_alu (λ c. IsFound (Alu Bits64 c X)) refl refl refl refl refl refl refl refl refl refl refl refl c

found_jump : (w : Width) (s : Src) (c : JumpCode) → IsFound (Jump w c s)
found_jump Bits32 K c = each_jump (λ c. IsFound (Jump Bits32 c K)) refl refl refl refl refl refl refl refl refl refl refl c
found_jump Bits32 X c = each_jump (λ c. IsFound (Jump Bits32 c X)) refl refl refl refl refl refl refl refl refl refl refl c
found_jump Bits64 K c = each_jump (λ c. IsFound (Jump Bits64 c K)) refl refl refl refl refl refl refl refl refl refl refl c
found_jump Bits64 X c = each_jump (λ c. IsFound (Jump Bits64 c X)) refl refl refl refl refl refl refl refl refl refl refl c

found : (op : Op) → IsFound op
found (Alu w c s) = found_alu w s c
found (Jump w c s) = found_jump w s c
found (Neg Bits32) = refl
found (Neg Bits64) = refl
found (End K) = refl
found (End X) = refl
found Swap = refl
found (Ja Bits32) = refl
found (Ja Bits64) = refl
found Call = refl
found Exit = refl
found LoadImm = refl
found (Abs z) = each_size (λ z. IsFound (Abs z)) refl refl refl refl z
found (Ind z) = each_size (λ z. IsFound (Ind z)) refl refl refl refl z
found (Load z) = each_size (λ z. IsFound (Load z)) refl refl refl refl z
found (LoadSigned z) = each_size (λ z. IsFound (LoadSigned z)) refl refl refl refl z
found (StoreImm z) = each_size (λ z. IsFound (StoreImm z)) refl refl refl refl z
found (Store z) = each_size (λ z. IsFound (Store z)) refl refl refl refl z
found (Atomic z) = each_size (λ z. IsFound (Atomic z)) refl refl refl refl z

pub code_of-injective : (a b : Op) → code_of a ≡ code_of b → a ≡ b
code_of-injective a b e =
    let same : Some a ≡ Some b = sym (found a) ∙ (ap op_at e ∙ found b) in
    cc
