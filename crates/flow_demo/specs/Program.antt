-- The program, `demo`. It counts packets by flow: a flow is told by the four bytes from place 6 of a frame on, and the hash
-- `flow` holds how many packets each has had. A packet's verdict is 1 (drop) or 2 (pass), by the lowest bit of its byte 12.
use Rattle.std.specs.Prelude.{ℕ, ℤ, pos, neg_ℤ, ◌≤◌, List, [], ◌∷◌, codes}
use Rattle.bpf_isa.specs.declared.operation.AluCode.{AluCode}
use Rattle.bpf_isa.specs.declared.operation.AluCode.TheVariants.{Add, And, Mov}
use Rattle.bpf_isa.specs.declared.operation.JumpCode.TheVariants.{Jgt, Jne}
use Rattle.bpf_isa.specs.declared.operation.Op.{Op}
use Rattle.bpf_isa.specs.declared.operation.Op.TheVariants.{Alu, Atomic, Call, Exit, Ja, Jump, Load, LoadImm, Store, StoreImm}
use Rattle.bpf_isa.specs.declared.operation.Size.{Size}
use Rattle.bpf_isa.specs.declared.operation.Size.TheVariants.{B, Dw, W}
use Rattle.bpf_isa.specs.declared.operation.Src.TheVariants.{K, X}
use Rattle.bpf_isa.specs.declared.operation.Width.TheVariants.{Bits64}
use Rattle.bpf_isa.specs.declared.instruction.Insn.{Insn}
use Rattle.bpf_isa.specs.declared.helper.Helper.{Helper}
use Rattle.bpf_isa.specs.declared.helper.Helper.TheVariants.{Lookup, Update}
use Rattle.bpf_isa.specs.Helpers.{helper_number}
use Rattle.xdp_object.specs.xdp_maps.declared.decl.MapDecl.{MapDecl}
use Rattle.xdp_object.specs.xdp_maps.declared.decl.MapKind.TheVariants.{Hash}
use Rattle.xdp_object.specs.xdp_machine.Program.{XdpProgram}
use Rattle.xdp_object.specs.Laws.{ReadsAs}

-- ---- instructions on 64 bits, in the usual notation

abbrev pub insn : Op → (dst src : ℕ) → (offset imm : ℤ) → Insn
insn op dst src offset imm = record { op = op; dst = dst; src = src; offset = offset; imm = imm }

-- rD = K, rD += K, rD &= K
abbrev pub by_number : AluCode → ℕ → ℤ → Insn
by_number code dst imm = insn (Alu Bits64 code K) dst 0 (pos 0) imm

-- rD = rS
abbrev pub copy : (dst src : ℕ) → Insn
copy dst src = insn (Alu Bits64 Mov X) dst src (pos 0) (pos 0)

-- rD = *(size *)(rS + offset)
abbrev pub load : Size → (dst src : ℕ) → ℤ → Insn
load size dst src offset = insn (Load size) dst src offset (pos 0)

-- rD = the map, which is number 0
abbrev pub load_map : ℕ → Insn
load_map dst = insn LoadImm dst 0 (pos 0) (pos 0)

abbrev pub call : Helper → Insn
call helper = insn Call 0 0 (pos 0) (helper_number helper)

-- each with its place
unfoldable pub demo_insns : List Insn
demo_insns =
    load W 2 1 (pos 4)  -- 0: r2 = *(u32 *)(r1 + 4)
    ∷ load W 1 1 (pos 0)  -- 1: r1 = *(u32 *)(r1 + 0)
    ∷ copy 3 1  -- 2: r3 = r1
    ∷ by_number Add 3 (pos 14)  -- 3: r3 += 14
    ∷ by_number Mov 0 (pos 1)  -- 4: r0 = 1
    ∷ insn (Jump Bits64 Jgt X) 3 2 (pos 24) (pos 0)  -- 5: if r3 > r2 goto +24
    ∷ load W 6 1 (pos 6)  -- 6: r6 = *(u32 *)(r1 + 6)
    ∷ load B 7 1 (pos 12)  -- 7: r7 = *(u8 *)(r1 + 12)
    ∷ insn (Store W) 10 6 (neg_ℤ (pos 4)) (pos 0)  -- 8: *(u32 *)(r10 - 4) = r6
    ∷ insn (StoreImm Dw) 10 0 (neg_ℤ (pos 16)) (pos 1)  -- 9: *(u64 *)(r10 - 16) = 1
    ∷ load_map 1  -- 10: r1 = flow ll
    ∷ copy 2 10  -- 12: r2 = r10
    ∷ by_number Add 2 (neg_ℤ (pos 4))  -- 13: r2 += -4
    ∷ call Lookup  -- 14: call map_lookup_elem
    ∷ insn (Jump Bits64 Jne K) 0 0 (pos 9) (pos 0)  -- 15: if r0 != 0 goto +9
    ∷ load_map 1  -- 16: r1 = flow ll
    ∷ copy 2 10  -- 18: r2 = r10
    ∷ by_number Add 2 (neg_ℤ (pos 4))  -- 19: r2 += -4
    ∷ copy 3 10  -- 20: r3 = r10
    ∷ by_number Add 3 (neg_ℤ (pos 16))  -- 21: r3 += -16
    ∷ by_number Mov 4 (pos 0)  -- 22: r4 = 0
    ∷ call Update  -- 23: call map_update_elem
    ∷ insn (Ja Bits64) 0 0 (pos 2) (pos 0)  -- 24: goto +2
    ∷ by_number Mov 1 (pos 1)  -- 25: r1 = 1
    ∷ insn (Atomic Dw) 0 1 (pos 0) (pos 0)  -- 26: lock *(u64 *)(r0 + 0) += r1
    ∷ copy 0 7  -- 27: r0 = r7
    ∷ by_number And 0 (pos 1)  -- 28: r0 &= 1
    ∷ by_number Add 0 (pos 1)  -- 29: r0 += 1
    ∷ insn Exit 0 0 (pos 0) (pos 0)  -- 30: exit
    ∷ []

-- ---- the whole

-- keys of 4 bytes, values of 8, at most 64 entries
abbrev pub flow : MapDecl
flow = record { name = codes "flow"; kind = Hash; key = 4; value = 8; cap = 64 }

unfoldable pub demo_program : XdpProgram
demo_program = record { name = codes "demo"; insns = demo_insns; decls = flow ∷ []; refs = 10 ∷ 16 ∷ [] }

-- The bytes are an object of just this program, wherever a hash may have as many keys as its own.
abbrev pub IsDemoObject : List ℕ → Type 0
IsDemoObject bytes = (hash_cap : ℕ) → flow.cap ≤ hash_cap → ReadsAs hash_cap bytes demo_program
