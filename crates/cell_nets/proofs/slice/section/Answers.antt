use Rattle.std.proofs.Common.{◌+◌, ◌-◌, ◌∙◌, sym, ap, arith}
use Rattle.net_core.specs.Nets.{TConcatenation, TMore, TLast}
use Rattle.net_core.specs.View.{tree_of}
use Rattle.cell_core.specs.Cells.{bits_from}
use Rattle.cell_nets.specs.Operands.{IsWithin}
use Rattle.cell_nets.proofs.NarrowLaws.{bits_small}
use Rattle.cell_nets.proofs.ExpressionPartLaws.{slice_of, slice_same}
use Rattle.cell_nets.proofs.PartLaws.{part_slice}
use Rattle.cell_nets.proofs.SliceLaws.{bits_of_bits, past_slice, last_slice}
use Rattle.cell_nets.proofs.slice.section.Goals as goal

pub returns-then-from-bits : goal.returns-then-from-bits
returns-then-from-bits g c = λ ins h.
    slice_of ins 2 2 c.args.width _ _ _ (omega arith) c.constant.ensures
    (past_slice ins (λ v. bits_from (v.net c.args.net).value c.args.at c.args.bits) c.args.bits c.args.from c.args.width (λ v. bits_small _ c.args.at c.args.bits) c.requires.width.most c.if-from-bits.true)

pub returns-then-from-width : goal.returns-then-from-width
returns-then-from-width g c = λ ins h.
    let within : IsWithin c.args.of (c.args.at + c.args.from) c.args.width = record { some = omega arith; inside = omega arith; most = omega arith } in
    slice_of ins 1 2 c.args.width _ _ _ (omega arith) c.inside.ensures
    (slice_same ins 1 c.args.width _ _ _ (λ v f. sym (bits_of_bits (v.net c.args.net).value c.args.at c.args.bits c.args.from c.args.width (omega arith))) (part_slice c.args.net c.args.of (c.args.at + c.args.from) c.args.width within ins h))

pub returns : goal.returns
returns g c = λ ins h.
    let rest = c.args.bits - c.args.from in
    let within : IsWithin c.args.of (c.args.at + c.args.from) rest = record { some = omega arith; inside = omega arith; most = omega arith } in
    let p = part_slice c.args.net c.args.of (c.args.at + c.args.from) rest within ins h in
    let q = slice_of ins 1 1 rest _ _ _ (omega arith) c.inside-there.ensures p in
    slice_of ins 2 2 c.args.width _ _ _ (omega arith) (c.in_ok-whole.ensures ∙ ap (λ z. TConcatenation (TMore z (TLast (tree_of c.inside-there.result)))) c.constant-zeros.ensures)
    (last_slice ins (λ v. bits_from (v.net c.args.net).value c.args.at c.args.bits) c.args.bits c.args.from c.args.width _ (λ v. bits_small _ c.args.at c.args.bits) c.requires.width.most c.if-from-bits.false (omega arith)
    (slice_same ins 1 rest _ _ _ (λ v f. sym (bits_of_bits (v.net c.args.net).value c.args.at c.args.bits c.args.from rest (omega arith))) q))
