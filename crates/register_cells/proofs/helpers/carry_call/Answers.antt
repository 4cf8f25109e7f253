use Rattle.std.proofs.Common.{◌∙◌, ℤ, Some, sym, ap, w64, rules}
use Rattle.std.proofs.lemmas.Int.{to_z-of_z}
use Rattle.std.specs.Prelude.{is_some}
use Rattle.cell_core.specs.bpf_isa.Helpers.{helper_of}
use Rattle.register_cells.specs.Plain.{asks_no_map}
use Rattle.register_cells.proofs.Answering.{no_map_known, redirect_alone}
use Rattle.register_cells.proofs.helpers.carry_call.Goals as goal

pub known-requires : goal.known-requires
known-requires c =
    let imm = to_z-of_z w64 c.args.insn.now.imm (search rules) in
    ap (λ (z : ℤ). is_some (helper_of z)) imm ∙ no_map_known (helper_of c.args.insn.now.imm) c.requires.helper

pub carry_redirect-requires-clause-helper : goal.carry_redirect-requires-clause-helper
carry_redirect-requires-clause-helper c =
    let imm = to_z-of_z w64 c.args.insn.now.imm (search rules) in
    let is = sym (ap helper_of imm) ∙ c.known.ensures in
    is ∙ ap Some (redirect_alone c.known.result (ap asks_no_map (sym is) ∙ c.requires.helper) c.in_default.not-Time)
