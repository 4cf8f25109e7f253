-- Laws of the instruction table: an instruction has one spelling, and bytes begin with at most one instruction.
use Rattle.std.proofs.Common.{◌≡◌, ◌∙◌, ℕ, zero, ℤ, pos, ◌*◌, ◌/◌, ◌%◌, ◌^◌, ◌<◌, ◌≤◌, ◌++◌, List, length, take, drop, refl, sym, ap, subst, arith}
use Rattle.std.proofs.lemmas.List.{take-append-drop, length-take}
use Rattle.std.proofs.Math.Seq.{take-append_seam}
use Rattle.std.proofs.lemmas.Int.{ints}
use Rattle.std.specs.Int.{w16, w32, w64, cast_unsigned}
use Rattle.std.specs.Int.RustNames.{FitsSigned}
use Rattle.bpf_isa.specs.declared.operation.Op.{Op}
use Rattle.bpf_isa.specs.declared.operation.Op.TheVariants.{LoadImm}
use Rattle.bpf_isa.specs.declared.instruction.Insn.{Insn}
use Rattle.bpf_isa.specs.Opcode.{code_of}
use Rattle.bpf_isa.specs.Spelling.{units_of, spelled, spelling, IsInsn, Begins, HasImm}
use Rattle.bpf_isa.proofs.CodeLaws.{code_of-injective}
use Rattle.bpf_isa.proofs.Units.{unit_one}
use Rattle.bpf_isa.proofs.Fronts.{fields_of, split, insn_is}

-- eight bytes a unit
pub length-spelled : (op : Op) (dst src : ℕ) (offset imm : ℤ) → length (spelled op dst src offset imm) ≡ 8 * units_of op
length-spelled LoadImm dst src offset imm = refl
length-spelled op dst src offset imm = refl

pub length-spelling : (i : Insn) → length (spelling i) ≡ 8 * units_of i.op
length-spelling i = length-spelled i.op i.dst i.src i.offset i.imm

pub units_of-positive : (op : Op) → 0 < units_of op
units_of-positive LoadImm = omega arith
units_of-positive op = omega arith

-- a text that begins with an instruction is its bytes and the rest
pub begins_split : (text : List ℕ) (i : Insn) → Begins text i → text ≡ spelling i ++ drop (8 * units_of i.op) text
begins_split text i b = sym (take-append-drop (8 * units_of i.op) text) ∙ ap (λ (t : List ℕ). t ++ drop (8 * units_of i.op) text) b.bytes

pub begins_of : (i : Insn) (rest : List ℕ) → IsInsn i → Begins (spelling i ++ rest) i
begins_of i rest h = record {
  legal = h;
  bytes = ap (λ (n : ℕ). take n (spelling i ++ rest)) (sym (length-spelling i)) ∙ take-append_seam (spelling i) rest;
}

pub begins_with : (text : List ℕ) (i : Insn) (rest : List ℕ) → IsInsn i → text ≡ spelling i ++ rest → Begins text i
begins_with text i rest h e = subst (λ (t : List ℕ). Begins t i) (sym e) (begins_of i rest h)

-- and it is that long
pub begins_length : (text : List ℕ) (i : Insn) → Begins text i → 8 * units_of i.op ≤ length text
begins_length text i b = omega (arith, ap length b.bytes, length-spelling i, length-take (8 * units_of i.op) text)

-- the immediate number is in the bytes
imm_one : (op : Op) (low : ℕ) (rest : List ℕ) (x y : ℤ) → HasImm op low rest x → HasImm op low rest y → x ≡ y
imm_one LoadImm low rest x y h k =
    let fx : FitsSigned w64 x = h.range in
    let fy : FitsSigned w64 y = k.range in
    let zero : FitsSigned w16 (pos 0) = record { sfits = omega arith } in
    let same = unit_one 0 0 0 0 0 0 (pos 0) (pos 0) (cast_unsigned w64 x / 2 ^ 32) (cast_unsigned w64 y / 2 ^ 32) (omega arith) (omega arith) zero zero (omega (arith, ints)) (omega (arith, ints)) (sym h.high_half ∙ k.high_half) in
    omega (arith, ints, fx, fy, h.low_half, k.low_half, same.imm)
imm_one op low rest x y h k =
    let fx : FitsSigned w32 x = h.range in
    let fy : FitsSigned w32 y = k.range in
    omega (arith, ints, fx, fy, h.low_half, k.low_half)

-- bytes begin with at most one instruction
pub begins_one : (text : List ℕ) (i j : Insn) → Begins text i → Begins text j → i ≡ j
begins_one text i j a b =
    let low = cast_unsigned w64 j.imm % 2 ^ 32 in
    let parts = split j.op text j.dst j.src j.offset j.imm b.bytes in
    let f = fields_of (code_of j.op) j.dst j.src low j.offset text i parts.0 (omega (arith, b.legal.dst_register)) (omega arith) b.legal.offset_range a in
    let e : i.op ≡ j.op = code_of-injective i.op j.op f.code in
    let hj : HasImm j.op low (drop 8 text) j.imm = record { range = b.legal.imm_range; low_half = refl; high_half = parts.1 } in
    let hi = subst (λ (op : Op). HasImm op low (drop 8 text) i.imm) e f.imm in
    sym (insn_is i j.op j.dst j.src j.offset j.imm (sym e) f.dst f.src f.offset (imm_one j.op low (drop 8 text) j.imm i.imm hj hi))
