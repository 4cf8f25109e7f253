-- Instructions that are the same but for the distance of a conditional jump, by their parts.
use Rattle.std.proofs.Common.{◌≡◌, ℕ, ℤ, sym, ◌∙◌, ap}
use Rattle.xdp_machine.specs.bpf_isa.Opcode.{code_of}
use Rattle.xdp_machine.specs.bpf_isa.declared.operation.Op.{Op}
use Rattle.xdp_machine.specs.bpf_isa.declared.instruction.Insn.{Insn}
use Rattle.xdp_machine.proofs.bpf_isa_laws.CodeLaws.{code_of-injective}
use Rattle.cover_core.specs.Cover.{undirected, AreSameFields}
use Rattle.cover_core.proofs.Twins.{op_kept, same_op}

abbrev made : Op → ℕ → ℕ → ℤ → ℤ → Insn
made op dst src offset imm = record { op = op; dst = dst; src = src; offset = offset; imm = imm }

same_parts : (x y : Insn) → y.op ≡ x.op → AreSameFields y x → y ≡ x
same_parts x y op h =
    ap (λ o. made o y.dst y.src y.offset y.imm) op ∙ ap (λ d. made x.op d y.src y.offset y.imm) h.dst ∙ ap (λ s. made x.op x.dst s y.offset y.imm) h.src
    ∙ ap (λ z. made x.op x.dst x.src z y.imm) h.offset ∙ ap (λ z. made x.op x.dst x.src x.offset z) h.imm

pub same_code : (i j : Insn) → undirected j ≡ undirected i → code_of j.op ≡ code_of i.op
same_code i j h = ap code_of (same_op i j h)

pub same_by_parts : (i j x y : Insn) → x ≡ undirected i → y ≡ undirected j → code_of j.op ≡ code_of i.op → AreSameFields y x → undirected j ≡ undirected i
same_by_parts i j x y e f code h =
    let op : y.op ≡ x.op =
    ap (λ (z : Insn). z.op) f ∙ op_kept j j.op ∙ code_of-injective j.op i.op code ∙ sym (op_kept i i.op) ∙ sym (ap (λ (z : Insn). z.op) e) in
    let same : y ≡ x = same_parts x y op h in
    sym f ∙ same ∙ e

pub fields_of : (i j x y : Insn) → x ≡ undirected i → y ≡ undirected j → undirected j ≡ undirected i → AreSameFields y x
fields_of i j x y e f h =
    let same : y ≡ x = f ∙ h ∙ sym e in
    record { dst = ap (λ (z : Insn). z.dst) same; src = ap (λ (z : Insn). z.src) same; offset = ap (λ (z : Insn). z.offset) same; imm = ap (λ (z : Insn). z.imm) same }
