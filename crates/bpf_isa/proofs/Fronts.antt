-- The instruction at the front of a text, by the fields of its first unit.
use Rattle.std.proofs.Common.{◌≡◌, ◌∙◌, ℕ, ℤ, ◌-◌, ◌*◌, ◌%◌, ◌^◌, ◌<◌, ◌++◌, List, length, take, drop, refl, sym, ap, subst, arith, Result, Ok}
use Rattle.std.proofs.lemmas.List.{take-take, drop-take, length-drop, take_all}
use Rattle.std.proofs.Math.Seq.{take-add}
use Rattle.std.specs.Int.{w16, w64, cast_unsigned}
use Rattle.std.specs.Int.RustNames.{FitsSigned}
use Rattle.bpf_isa.specs.declared.operation.Op.{Op}
use Rattle.bpf_isa.specs.declared.operation.Op.TheVariants.{LoadImm}
use Rattle.bpf_isa.specs.declared.instruction.Insn.{Insn}
use Rattle.bpf_isa.specs.Opcode.{code_of}
use Rattle.bpf_isa.specs.Spelling.{unit, units_of, second_unit, spelled, Begins, HasImm}
use Rattle.bpf_isa.proofs.Units.{unit_one}

-- the first unit, and then the second if there is one
pub split : (op : Op) (text : List ℕ) (dst src : ℕ) (offset imm : ℤ) → take (8 * units_of op) text ≡ spelled op dst src offset imm
    → (take 8 text ≡ unit (code_of op) dst src offset (cast_unsigned w64 imm % 2 ^ 32)) × (take (8 * (units_of op - 1)) (drop 8 text) ≡ second_unit op imm)
split LoadImm text dst src offset imm e =
    (sym (take-take 8 16 text (omega arith)) ∙ ap (take 8) e, sym (drop-take 8 8 text) ∙ ap (drop 8) e)
split op text dst src offset imm e = (e, refl)

pub joined : (op : Op) (text : List ℕ) (dst src low : ℕ) (offset imm : ℤ) → take 8 text ≡ unit (code_of op) dst src offset low → HasImm op low (drop 8 text) imm
    → take (8 * units_of op) text ≡ spelled op dst src offset imm
joined LoadImm text dst src low offset imm e h =
    take-add 8 8 text ∙ (ap (λ (t : List ℕ). t ++ take 8 (drop 8 text)) (e ∙ ap (unit (code_of LoadImm) dst src offset) h.low_half) ∙ ap (λ (t : List ℕ). unit (code_of LoadImm) dst src offset (cast_unsigned w64 imm % 2 ^ 32) ++ t) h.high_half)
joined op text dst src low offset imm e h = e ∙ ap (unit (code_of op) dst src offset) h.low_half

-- the same for the fields that were read
pub spelled_by : (op : Op) (text : List ℕ) (c dst src low : ℕ) (o offset m imm : ℤ) → code_of op ≡ c → take 8 text ≡ unit c dst src o low → offset ≡ o → imm ≡ m
    → HasImm op low (drop 8 text) m → take (8 * units_of op) text ≡ spelled op dst src offset imm
spelled_by op text c dst src low o offset m imm ec e eo em h =
    joined op text dst src low offset imm (e ∙ (ap (λ (n : ℕ). unit n dst src o low) (sym ec) ∙ ap (λ (z : ℤ). unit (code_of op) dst src z low) (sym eo)))
    (subst (HasImm op low (drop 8 text)) (sym em) h)

-- the fields of the first unit are those of the instruction
pub record Fields (c d s low : ℕ) (o : ℤ) (text : List ℕ) (i : Insn) : Type 0 where
  pub code : code_of i.op ≡ c
  pub dst : d ≡ i.dst
  pub src : s ≡ i.src
  pub offset : o ≡ i.offset
  pub imm : HasImm i.op low (drop 8 text) i.imm

pub fields_of : (c d s low : ℕ) (o : ℤ) (text : List ℕ) (i : Insn) → take 8 text ≡ unit c d s o low → d < 16 → low < 2 ^ 32 → FitsSigned w16 o
    → Begins text i → Fields c d s low o text i
fields_of c d s low o text i e hd hl ho b =
    let parts = split i.op text i.dst i.src i.offset i.imm b.bytes in
    let same = unit_one c (code_of i.op) d i.dst s i.src o i.offset low (cast_unsigned w64 i.imm % 2 ^ 32) hd (omega (arith, b.legal.dst_register)) ho b.legal.offset_range hl (omega arith) (sym e ∙ parts.0) in
    record { code = sym same.code; dst = same.dst; src = same.src; offset = same.offset; imm = record { range = b.legal.imm_range; low_half = same.imm; high_half = parts.1 } }

abbrev pub made : Op → ℕ → ℕ → ℤ → ℤ → Insn
made op dst src offset imm = record { op = op; dst = dst; src = src; offset = offset; imm = imm }

-- an instruction is its fields
pub insn_is : (i : Insn) (op : Op) (dst src : ℕ) (offset imm : ℤ) → op ≡ i.op → dst ≡ i.dst → src ≡ i.src → offset ≡ i.offset → imm ≡ i.imm → made op dst src offset imm ≡ i
insn_is i op dst src offset imm e0 e1 e2 e3 e4 =
    ap (λ (x : Op). made x dst src offset imm) e0 ∙ (ap (λ (x : ℕ). made i.op x src offset imm) e1 ∙ (ap (λ (x : ℕ). made i.op i.dst x offset imm) e2
    ∙ (ap (λ (x : ℤ). made i.op i.dst i.src x imm) e3 ∙ ap (λ (x : ℤ). made i.op i.dst i.src i.offset x) e4)))

-- the rest of a slice, as code writes it
pub rest_is : (n : ℕ) (xs : List ℕ) → take (length xs - n) (drop n xs) ≡ drop n xs
rest_is n xs = take_all (length xs - n) (drop n xs) (omega (arith, length-drop n xs))

pub imm_needed : (c d s low : ℕ) (o : ℤ) (text : List ℕ) (i : Insn) (op : Op) → Fields c d s low o text i → i.op ≡ op → HasImm op low (take (length text - 8) (drop 8 text)) i.imm
imm_needed c d s low o text i op f e =
    subst (λ (rest : List ℕ). HasImm op low rest i.imm) (sym (rest_is 8 text)) (subst (λ (x : Op). HasImm x low (drop 8 text) i.imm) e f.imm)

-- what a decoder answers, where the instruction is i
pub answer_is : {E : Type 0} (i j : Insn) (op : Op) (n : ℕ) → j ≡ i → op ≡ i.op → n ≡ units_of op → ◌≡◌ {A = Result (Insn × ℕ) E} (Ok (j, n)) (Ok (i, units_of i.op))
answer_is {E} i j op n e o h =
    let of_insn : Insn → Result (Insn × ℕ) E = λ x. Ok (x, n) in
    let of_units : ℕ → Result (Insn × ℕ) E = λ m. Ok (i, m) in
    ap of_insn e ∙ ap of_units (h ∙ ap units_of o)
