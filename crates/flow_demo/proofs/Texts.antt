-- The bytes of the first instructions of a listing.
use Rattle.std.proofs.Common.{◌≡◌, ◌∙◌, ℕ, pos, ◌+◌, ◌<◌, List, [], ◌∷◌, ◌++◌, length, get_or, take, ap}
use Rattle.std.proofs.lemmas.List.{append-nil, take_more}
use Rattle.bpf_isa.specs.declared.instruction.Insn.{Insn}
use Rattle.bpf_isa.specs.declared.operation.AluCode.TheVariants.{Add}
use Rattle.bpf_isa.specs.declared.operation.Op.TheVariants.{Alu}
use Rattle.bpf_isa.specs.declared.operation.Src.TheVariants.{K}
use Rattle.bpf_isa.specs.declared.operation.Width.TheVariants.{Bits32}
use Rattle.bpf_isa.specs.Spelling.{spelling}
use Rattle.bpf_isa.specs.Text.{text_of}
use Rattle.bpf_isa.proofs.TextLaws.{text_of-append}

-- what a read after the end would give
abbrev pub no_insn : Insn
no_insn = record { op = Alu Bits32 Add K; dst = 0; src = 0; offset = pos 0; imm = pos 0 }

pub text_of-take_more : (insns : List Insn) (i : ℕ) → i < length insns
    → text_of (take (i + 1) insns) ≡ text_of (take i insns) ++ spelling (get_or insns i no_insn)
text_of-take_more insns i below =
    let insn = get_or insns i no_insn in
    let front = take i insns in
    ap text_of (take_more insns i no_insn below)
    ∙ text_of-append front (insn ∷ [])
    ∙ ap (λ bs. text_of front ++ bs) (append-nil (spelling insn))
