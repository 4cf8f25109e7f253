use Rattle.std.proofs.Common.{All, [], ◌∷◌, ◌++◌, sym, ap, ◌∙◌, subst, arith, map as map_list}
use Rattle.std.specs.List.{AllZip}
use Rattle.net_core.specs.View.{tree_of}
use Rattle.cell_nets.specs.Operands.{IsOperand, IsAvailable}
use Rattle.row_net.specs.PlaceNet.Exit.{byte_operand, output_operands}
use Rattle.row_net.specs.PlaceNet.ExitNets.{IsFrameWord}
use Rattle.row_net.proofs.PlaceNet.ExitLemmas.{bytes_all, all_available, values_made}
use Rattle.row_net.proofs.place_net.leaving.values.Goals as goal

pub word_values-requires : goal.word_values-requires
word_values-requires g c = subst (All (λ x. IsOperand (byte_operand x))) (sym c.deref.ensures.value) (bytes_all IsOperand c.args.outputs.now c.requires)

pub slice-requires-clause-operand : goal.slice-requires-clause-operand
slice-requires-clause-operand g c = c.requires 0 c.args.outputs.now.verdict (omega arith)

pub slice-requires-2-clause-operand : goal.slice-requires-2-clause-operand
slice-requires-2-clause-operand g c = c.requires 1 c.args.outputs.now.verdict (omega arith)

pub returns : goal.returns
returns g c =
    let o = c.args.outputs.now in
    let ins = output_operands o in
    let there = all_available ins in
    values_made o c.args.words.now c.in_ok-verdict.verdict c.in_ok-target.target c.in_ok-more.more.items _
    (c.in_ok-append.ensures.items ∙ ap (λ l. l ++ c.in_ok-more.more.items) (c.in_ok-push-2.ensures.items ∙ ap (λ l. l ++ c.in_ok-target.target ∷ []) (c.in_ok-push.ensures.items ∙ ap (λ l. l ++ c.in_ok-verdict.verdict ∷ []) c.new-all.ensures.items)))
    (c.in_ok-verdict.ensures ins (there 0 o.verdict (omega arith))).part (c.in_ok-target.ensures ins (there 1 o.verdict (omega arith))).part
    (subst (λ bytes. AllZip (IsFrameWord ins bytes) c.args.words.now (map_list tree_of c.in_ok-more.more.items)) c.deref.ensures.value
    (c.in_ok-more.ensures ins (subst (All (λ x. IsAvailable ins (byte_operand x))) (sym c.deref.ensures.value) (bytes_all (IsAvailable ins) o there))))
