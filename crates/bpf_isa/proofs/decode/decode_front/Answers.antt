use Rattle.std.proofs.Common.{rules, ◌≡◌, ◌∙◌, refl, sym, subst, w16, w64, ℕ, List}
use Rattle.std.proofs.lemmas.Int.{to_z-of_z}
use Rattle.bpf_isa.specs.Spelling.{HasImm, IsInsn}
use Rattle.bpf_isa.proofs.Fronts.{fields_of, imm_needed, rest_is, spelled_by, insn_is, answer_is}
use Rattle.bpf_isa.proofs.decode.decode_front.Goals as goal

pub returns-in_err-imm_of-clause-only : goal.returns-in_err-imm_of-clause-only
returns-in_err-imm_of-clause-only c i b =
    let first = c.read-first.result in
    let f = fields_of first.code first.dst first.src first.imm first.offset c.args.bytes.now i c.read-first.ensures.bytes c.read-first.ensures.dst (search rules) (search rules) b in
    let e = c.op_of.ensures.only i.op f.code in
    let o : i.op ≡ c.in-Some.op = cc (e, c.in-Some.is) in
    let h = c.imm_of.ensures.only i.imm (imm_needed first.code first.dst first.src first.imm first.offset c.args.bytes.now i c.in-Some.op f o) in
    absurd (cc (h, c.in_err-imm_of.was))

pub returns-then-is_legal-clause-found : goal.returns-then-is_legal-clause-found
returns-then-is_legal-clause-found c =
    let first = c.read-first.result in
    let text = c.args.bytes.now in
    let legal = c.if-is_legal.ensures.0 refl in
    let offset = to_z-of_z w16 first.offset (search rules) in
    let imm = to_z-of_z w64 c.in_ok-imm_of.field-0 (search rules) in
    let code = c.in-Some.ensures.some in
    let half = subst (λ (rest : List ℕ). HasImm c.in-Some.op first.imm rest c.in_ok-imm_of.field-0) (rest_is 8 text) c.in_ok-imm_of.ensures.found in
    (record { legal = legal; bytes = spelled_by c.in-Some.op text first.code first.dst first.src first.imm first.offset _ c.in_ok-imm_of.field-0 _ code c.read-first.ensures.bytes offset imm half }, c.units.ensures)

pub returns-then-is_legal-clause-only : goal.returns-then-is_legal-clause-only
returns-then-is_legal-clause-only c i b =
    let first = c.read-first.result in
    let f = fields_of first.code first.dst first.src first.imm first.offset c.args.bytes.now i c.read-first.ensures.bytes c.read-first.ensures.dst (search rules) (search rules) b in
    let e = c.op_of.ensures.only i.op f.code in
    let o : i.op ≡ c.in-Some.op = cc (e, c.in-Some.is) in
    let h = c.imm_of.ensures.only i.imm (imm_needed first.code first.dst first.src first.imm first.offset c.args.bytes.now i c.in-Some.op f o) in
    let m : c.in_ok-imm_of.field-0 ≡ i.imm = cc (h, c.in_ok-imm_of.was) in
    let offset = to_z-of_z w16 first.offset (search rules) in
    let imm = to_z-of_z w64 c.in_ok-imm_of.field-0 (search rules) in
    answer_is i _ c.in-Some.op c.units.result (insn_is i c.in-Some.op first.dst first.src _ _ (sym o) f.dst f.src (offset ∙ f.offset) (imm ∙ m)) (sym o) c.units.ensures

pub returns-else-is_legal-clause-only : goal.returns-else-is_legal-clause-only
returns-else-is_legal-clause-only c i b =
    let first = c.read-first.result in
    let f = fields_of first.code first.dst first.src first.imm first.offset c.args.bytes.now i c.read-first.ensures.bytes c.read-first.ensures.dst (search rules) (search rules) b in
    let e = c.op_of.ensures.only i.op f.code in
    let o : i.op ≡ c.in-Some.op = cc (e, c.in-Some.is) in
    let h = c.imm_of.ensures.only i.imm (imm_needed first.code first.dst first.src first.imm first.offset c.args.bytes.now i c.in-Some.op f o) in
    let m : c.in_ok-imm_of.field-0 ≡ i.imm = cc (h, c.in_ok-imm_of.was) in
    let offset = to_z-of_z w16 first.offset (search rules) in
    let imm = to_z-of_z w64 c.in_ok-imm_of.field-0 (search rules) in
    let same = insn_is i c.in-Some.op first.dst first.src _ _ (sym o) f.dst f.src (offset ∙ f.offset) (imm ∙ m) in
    let no = c.if-is_legal.ensures.1 (subst IsInsn (sym same) b.legal) in
    absurd (cc (no))
