-- What a comparison tells of a register, and that a move of what is told leaves the machine as it is.
use Rattle.std.proofs.Common.{◌≡◌, ℕ, zero, suc, ◌+◌, ◌^◌, ◌<◌, pos, Bool, true, false, List, Some, None, sym, ◌∙◌, ap, subst, arith, set}
use Rattle.std.specs.Prelude.{IsTrue, if◌then◌else◌, ◌==◌, unsigned_abs}
use Rattle.std.specs.Int.{w64, cast_unsigned}
use Rattle.std.proofs.Math.Nat.{mod-eq_of_lt}
use Rattle.std.proofs.lemmas.Bool.Decides.{nat_tests}
use Rattle.std.proofs.lemmas.List.{set-get_or}
use Rattle.xdp_machine.specs.bpf_isa.declared.operation.Src.TheVariants.{K}
use Rattle.xdp_machine.specs.bpf_isa.declared.operation.Width.TheVariants.{Bits64}
use Rattle.xdp_machine.specs.bpf_isa.declared.operation.AluCode.TheVariants.{Mov}
use Rattle.xdp_machine.specs.bpf_isa.declared.operation.JumpCode.TheVariants.{Jeq, Jne}
use Rattle.xdp_machine.specs.bpf_isa.declared.operation.Op.{Op}
use Rattle.xdp_machine.specs.bpf_isa.declared.operation.Op.TheVariants.{Alu, Jump}
use Rattle.xdp_machine.specs.bpf_isa.declared.instruction.Insn.{Insn}
use Rattle.xdp_machine.specs.bpf_isa.Rules.{Allows, rules_of}
use Rattle.xdp_machine.specs.bpf_isa.Spelling.{IsInsn}
use Rattle.xdp_machine.specs.bpf_isa.Text.{insn_at}
use Rattle.xdp_machine.specs.xdp_maps.declared.decl.MapDecl.{MapDecl}
use Rattle.xdp_machine.specs.Values.{Value, Number, Entry, ◌>>=◌}
use Rattle.xdp_machine.specs.State.{Code, Machine, register, put, with_registers}
use Rattle.xdp_machine.specs.Arithmetic.{low}
use Rattle.xdp_machine.specs.Pointers.{compared, copied}
use Rattle.xdp_machine.specs.Ranges.{InRange, IsInRange}
use Rattle.xdp_machine.specs.Step.{Goes, step, goes_on}
use Rattle.xdp_machine.proofs.NumberLaws.{word_of, imm_fits}
use Rattle.xdp_machine.proofs.PartLaws.{register_in_range}
use Rattle.cover_core.specs.Cover.{is_constant_move, equal_side, Tells}
use Rattle.cover_core.proofs.Silent.{at_place, step_is}
use Rattle.cover_core.proofs.Moving.{Compares, goes_inv}

-- ---- a comparison

same_word : (a c : ℕ) → a < 2 ^ 64 → c < 2 ^ 64 → low 64 a ≡ low 64 c → a ≡ c
same_word a c p q h = sym (mod-eq_of_lt p) ∙ h ∙ mod-eq_of_lt q

equal_of : (decls : List MapDecl) (v : Value) (c : ℕ) → InRange decls v → c < 2 ^ 64 → compared Bits64 Jeq v (Number c) ≡ Some true → v ≡ Number c
equal_of decls (Number n) c range below h =
    let same : low 64 n ≡ low 64 c = grind (arith, nat_tests, h) in
    ap Number (same_word n c range below same)
equal_of decls (Entry q key o) zero range below h = absurd (cc)
equal_of decls (Entry q key o) (suc c) range below h = absurd (cc)
equal_of decls v c range below h = absurd (cc)

unequal_of : (decls : List MapDecl) (v : Value) (c : ℕ) → InRange decls v → c < 2 ^ 64 → compared Bits64 Jne v (Number c) ≡ Some false → v ≡ Number c
unequal_of decls (Number n) c range below h =
    let same : low 64 n ≡ low 64 c = grind (arith, nat_tests, h) in
    ap Number (same_word n c range below same)
unequal_of decls (Entry q key o) zero range below h = absurd (cc)
unequal_of decls (Entry q key o) (suc c) range below h = absurd (cc)
unequal_of decls v c range below h = absurd (cc)

by_side : (decls : List MapDecl) (m : Machine) (j : Insn) (taken : Bool) (op : Op) → equal_side op ≡ Some taken → Compares m j taken op → InRange decls (register m.registers j.dst) → cast_unsigned w64 j.imm < 2 ^ 64
    → register m.registers j.dst ≡ Number (cast_unsigned w64 j.imm)
by_side decls m j taken (Jump Bits64 Jeq K) e h range below =
    equal_of decls (register m.registers j.dst) (cast_unsigned w64 j.imm) range below (h ∙ sym e)
by_side decls m j taken (Jump Bits64 Jne K) e h range below =
    unequal_of decls (register m.registers j.dst) (cast_unsigned w64 j.imm) range below (h ∙ sym e)
by_side decls m j taken op e h range below = absurd (cc)

-- On the equal side of a jump the register holds the number.
pub told_by : (m : Machine) (i j : Insn) (taken : Bool) → IsInRange m → IsInsn j → Tells i j taken → Compares m j taken j.op → register m.registers i.dst ≡ Number (cast_unsigned w64 i.imm)
told_by m i j taken range legal tells holds =
    let held : register m.registers j.dst ≡ Number (cast_unsigned w64 j.imm) =
    by_side m.maps.decls m j taken j.op tells.side holds (register_in_range m.maps.decls m.registers j.dst range.registers) (word_of j.imm (imm_fits j.op j.imm legal.imm_range)) in
    ap (register m.registers) (sym tells.register) ∙ held ∙ ap (λ z. Number (cast_unsigned w64 z)) tells.number

-- ---- a move

-- what a machine is once the number is put where it is already
put_same : (insns : List Insn) (m n : Machine) (r c : ℕ) → register m.registers r ≡ Number c → goes_on insns m.place 1 (with_registers m (put m.registers r (Number c))) ≡ Goes n → (to : ℕ) × (n ≡ at_place to m)
put_same insns m n r c held goes = by_test (r == 10) goes
  where
    same : set m.registers r (Number c) ≡ m.registers
    same = ap (set m.registers r) (sym held) ∙ set-get_or m.registers r _

    by_test : (b : Bool) → goes_on insns m.place 1 (with_registers m (if b then None else Some (set m.registers r (Number c)))) ≡ Goes n → (to : ℕ) × (n ≡ at_place to m)
    by_test true h = absurd (cc)
    by_test false h =
        let went = goes_inv insns (pos (m.place + 1)) (record m { registers = set m.registers r (Number c) }) n h in
        (went.to, went.is ∙ ap (λ rs. at_place went.to (record m { registers = rs })) same)

-- A move of the number that a register holds leaves the machine as it is, but for its place.
pub move_stays : (code : Code) (m n : Machine) (i : Insn) (op : Op) → insn_at code.insns m.place ≡ Some i → i.op ≡ op → IsInsn i → IsTrue (is_constant_move op)
    → register m.registers i.dst ≡ Number (cast_unsigned w64 i.imm) → step code m ≡ Goes n → (to : ℕ) × (n ≡ at_place to m)
move_stays code m n i (Alu Bits64 Mov K) here e legal move held goes =
    let plain : i.offset ≡ pos 0 = subst (λ (o : Op). Allows (rules_of o).offset i.offset) e legal.offset in
    let number = cast_unsigned w64 i.imm in
    put_same code.insns m n i.dst number held
    (sym (ap (λ z. goes_on code.insns m.place 1 (with_registers m (copied Bits64 (unsigned_abs z) (Number number) >>= put m.registers i.dst))) plain)
    ∙ sym (step_is code m i (Alu Bits64 Mov K) here e) ∙ goes)
move_stays code m n i op here e legal move held goes = absurd (cc)
