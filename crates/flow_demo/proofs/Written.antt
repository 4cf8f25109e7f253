-- What is written of the program is an object of it.
use Rattle.std.proofs.Common.{◌≡◌, ℕ, ◌≤◌, List, [], ◌∷◌, length, ap, arith, codes, subst, sym}
use Rattle.bpf_isa.specs.declared.instruction.Insn.{Insn}
use Rattle.bpf_isa.specs.Text.{text_of}
use Rattle.elf_view.specs.declared.object.MapRecord.{MapRecord}
use Rattle.elf_view.specs.Layout.{object_layout, object_size}
use Rattle.xdp_object.specs.xdp_machine.Program.{XdpProgram}
use Rattle.xdp_object.specs.Laws.{AreRecords, NumbersLaw, ProgramLaw, ReadsAs, numbers_of}
use Rattle.flow_demo.specs.Program.{IsDemoObject, demo_insns, demo_program, flow}
use Rattle.flow_demo.proofs.Writable.{insns_are, program_is, program_writable}

-- its references, each to the one map
abbrev pub demo_refs : List (ℕ × ℕ)
demo_refs = (10, 0) ∷ (16, 0) ∷ []

small : (code : List ℕ) (m : MapRecord) → code ≡ text_of demo_insns → m.name.now ≡ codes "flow" → object_size (codes "demo") code (m ∷ []) demo_refs ≤ 1048576
unfolding demo_insns
small code m code_is name = omega (arith, ap length code_is, ap length name)

pub object_is : ((hash_cap : ℕ) (p : XdpProgram) (code : List ℕ) (insns : List Insn) (maps : List MapRecord) → ProgramLaw hash_cap p code insns maps)
    → ((p : XdpProgram) → NumbersLaw p) → (bytes code : List ℕ) (m : MapRecord) → code ≡ text_of demo_insns
    → m.name.now ≡ codes "flow" → m.words ≡ numbers_of flow → bytes ≡ object_layout (codes "demo") code (m ∷ []) demo_refs → IsDemoObject bytes
unfolding demo_program demo_insns
object_is law numbers bytes code m code_is name words bytes_are hash_cap room =
    let records : AreRecords (m ∷ []) (flow ∷ []) = record { names = ap (λ n. n ∷ []) name; numbers = ap (λ n. n ∷ []) words } in
    subst (λ (bs : List ℕ). ReadsAs hash_cap bs demo_program) (sym bytes_are)
    (law hash_cap demo_program code demo_insns (m ∷ []) (program_writable hash_cap room) (record { legal = insns_are; bytes = code_is })
    (numbers demo_program program_is) records (small code m code_is name))
