use Rattle.std.proofs.Common.{◌∙◌, ◌∷◌, [], ◌++◌, map as map_list, sym, ap, arith}
use Rattle.std.proofs.lemmas.List.{map_more, take_all}
use Rattle.cell_nets.specs.OperandBlocks.Registers.{zero_word}
use Rattle.cell_nets.proofs.operand_blocks.registers.zeros.Goals as goal

pub loop-taken-preserved : goal.loop-taken-preserved
loop-taken-preserved g c =
    let l = c.loop-taken in
    let t = c.taken-item.result in
    c.in_ok-push.ensures.items ∙ (λ i. l.invariant i ++ zero_word (c.taken-item.is i) ∷ []) ∙ sym (map_more zero_word c.args.all.now l.taken-index t (omega arith))

pub returns : goal.returns
returns g c = c.loop-taken.invariant ∙ ap (map_list zero_word) (take_all c.loop-taken.taken-index c.args.all.now (omega arith))
