use Rattle.std.proofs.Common.{rules, ◌∙◌, to_z, of_z, w16}
use Rattle.std.proofs.lemmas.Int.{to_z-of_z}
use Rattle.bpf_isa.proofs.Units.{unit_read}
use Rattle.bpf_isa.proofs.unit.Unit.read.Goals as goal

pub returns-clause-bytes : goal.returns-clause-bytes
returns-clause-bytes c =
    unit_read c.args.bytes.now (to_z w16 (of_z w16 c.read_i16.result)) c.read_u32.result c.requires (λ i. (c.type_inv.bytes i).fits)
    (to_z-of_z w16 c.read_i16.result (search rules) ∙ c.read_i16.ensures) c.read_u32.ensures
