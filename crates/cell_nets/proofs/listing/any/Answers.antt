use Rattle.std.specs.List.{list_any}
use Rattle.std.proofs.Common.{◌+◌, List, ap, ◌∙◌, arith}
use Rattle.std.proofs.lemmas.List.{take_all}
use Rattle.cell_core.specs.Cells.{bit, on}
use Rattle.cell_nets.specs.declared.operand.Operand.{Operand}
use Rattle.cell_nets.specs.Operands.{number_in}
use Rattle.cell_nets.proofs.ExpressionPartLaws.{part_same, part_of, part_computes, const_slice}
use Rattle.cell_nets.proofs.TestLemmas.{bit_low}
use Rattle.cell_nets.proofs.ListLemmas.{available_at, any_more, any_map}
use Rattle.cell_nets.proofs.listing.any.Goals as goal

pub loop-a-init : goal.loop-a-init
loop-a-init g c = λ ins h. part_of ins 1 3 1 _ _ _ (omega arith) c.constant-found.ensures (const_slice ins 1 0 (omega arith) (omega arith)).part

pub loop-a-preserved : goal.loop-a-preserved
loop-a-preserved g c = λ ins h.
    any_more ins c.args.args.now c.loop-a.a-index c.a-item.result _ _ _ (omega arith) c.a-item.is c.in_ok-found.ensures (c.loop-a.invariant ins h)
    (c.in_ok-one.ensures ins (available_at ins c.args.args.now c.loop-a.a-index c.a-item.result (omega arith) c.a-item.is h))

pub returns : goal.returns
returns g c = λ ins packet h.
    part_computes ins (2 + (3 + c.loop-a.a-index)) c.args.width _ _ (omega (arith, c.requires.few))
    (part_same ins _ c.args.width _ _ _
    (λ v f.
    ap (λ (l : List (Operand _)). bit (list_any (λ a. on (number_in v a)) l)) (take_all c.loop-a.a-index c.args.args.now (omega arith))
    ∙ ap bit (any_map v c.args.args.now)
    ∙ bit_low _ c.args.width c.requires.width.some)
    (c.in_ok-e.ensures ins (3 + c.loop-a.a-index) _ (c.loop-a.invariant ins h)))
