use Rattle.std.proofs.Common.{arith}
use Rattle.cell_core.specs.Cells.{bits_from}
use Rattle.cell_nets.specs.declared.operand.Operand.TheVariants.{Net, Part}
use Rattle.cell_nets.proofs.NarrowLaws.{bits_small}
use Rattle.cell_nets.proofs.ExpressionPartLaws.{read_slice, slice_of}
use Rattle.cell_nets.proofs.PartLaws.{part_slice}
use Rattle.cell_nets.proofs.ChoiceLaws.{truth_at, within_at}
use Rattle.cell_nets.proofs.choosing.truth.Goals as goal

pub returns-in_ok-e-in-Net : goal.returns-in_ok-e-in-Net
returns-in_ok-e-in-Net g c = λ ins h.
    let n = c.in-Net.net in
    let w = c.in-Net.width in
    truth_at ins c.args.a (Net n w) _ c.in-Net.is h (λ k. c.in_ok-e-in-Net.ensures ins (λ v. (v.net n).value) (λ v f. (f (Net n w) k).small) (read_slice ins n w k))

pub returns-in_ok-e-in-Part : goal.returns-in_ok-e-in-Part
returns-in_ok-e-in-Part g c = λ ins h.
    let n = c.in-Part.net in
    let of = c.in-Part.of in
    let from = c.in-Part.from in
    let w = c.in-Part.width in
    truth_at ins c.args.a (Part n of from w) _ c.in-Part.is h
    (λ k.
    c.in_ok-e-in-Part.ensures ins (λ v. bits_from (v.net n).value from w) (λ v f. bits_small (v.net n).value from w)
    (slice_of ins 1 1 w _ _ _ (omega arith) c.inside.ensures (part_slice n of from w (within_at c.args.a n of from w c.in-Part.is c.requires) ins k)))
