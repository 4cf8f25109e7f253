use Rattle.std.proofs.Common.{◌∙◌, ℤ, Some, sym, ap, w64, rules}
use Rattle.std.proofs.lemmas.Int.{to_z-of_z}
use Rattle.std.specs.Prelude.{is_some}
use Rattle.xdp_machine.specs.bpf_isa.Helpers.{helper_of}
use Rattle.register_cells.specs.Plain.{asks_no_map}
use Rattle.predicate_core.proofs.StepCells.Chosen.{allowed_known, delete_alone}
use Rattle.predicate_core.proofs.step_cells.operating.operate_call.Goals as goal

pub known-requires : goal.known-requires
known-requires c =
    let imm = to_z-of_z w64 c.args.insn.now.imm (search rules) in
    ap (λ (z : ℤ). is_some (helper_of z)) imm ∙ allowed_known c.args.decls.now c.args.kinds.now c.args.insn.now c.requires.op c.requires.allowed

pub operate_delete-requires-clause-helper : goal.operate_delete-requires-clause-helper
operate_delete-requires-clause-helper c =
    let imm = to_z-of_z w64 c.args.insn.now.imm (search rules) in
    let is = sym (ap helper_of imm) ∙ c.known.ensures in
    is ∙ ap Some (delete_alone c.known.result (ap asks_no_map (sym is) ∙ c.requires.asks) c.in_default.not-Lookup c.in_default.not-Update)
