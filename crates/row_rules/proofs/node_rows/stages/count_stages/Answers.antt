use Rattle.std.proofs.Common.{◌∙◌, ◌<◌, Some, List, All, sym, ap, subst, length, arith}
use Rattle.std.proofs.lemmas.List.{get_or_default}
use Rattle.unfold_core.specs.declared.edges.Point.{Point}
use Rattle.unfold_core.specs.declared.links.Edge.{Edge}
use Rattle.row_rules.specs.declared.node_rows.node.AfterNode.{AfterNode}
use Rattle.row_rules.specs.NodeRows.Rows.{no_point, behind_node, may_write}
use Rattle.row_rules.proofs.NodeRows.RowsLaws.{more}
use Rattle.row_rules.proofs.node_rows.stages.count_stages.Goals as goal
use Rattle.row_rules.proofs.NodeRows.CountLaws.{count_rows}

pub behind-requires-clause-up : goal.behind-requires-clause-up
behind-requires-clause-up c =
    let nodes : List Point = c.args.unfolded.now.nodes.items in
    subst (λ (es : List Edge). All (λ e. (e.from < e.to) × (e.to < length nodes)) es) (sym c.requires.edges)
    (c.edges_lead_on.ensures c.args.unfolded.now.offsets c.args.program.now c.args.unfolded.now.loops.items nodes c.requires.loops.loops c.requires.graph)

pub behind-requires-clause-passed : goal.behind-requires-clause-passed
behind-requires-clause-passed c = ap length (c.deref-in-loop-number-2.ensures.value ∙ c.loop-number.invariant.rows) ∙ count_rows c.args.program.now c.args.unfolded.now.nodes.items c.args.unfolded.now.edges.items c.loop-number.number

pub loop-number-preserved : goal.loop-number-preserved
loop-number-preserved c =
    let inside : c.loop-number.number < length c.args.unfolded.now.nodes.items = omega (arith, c.loop-number-test.true, c.len-number-end.ensures) in
    rw (c.in-Ok-push.ensures.items, c.with_node-stages.ensures)
    (more c.args.program.now c.args.unfolded.now.nodes.items c.args.unfolded.now.edges.items c.loop-number.number c.loop-number.passed.items c.loop-number.stages c.loop-number.invariant c.in-Ok-behind.next
    (c.in-Ok-behind.ensures ∙ ap (λ (r : List AfterNode). behind_node c.args.program.now c.args.unfolded.now.nodes.items c.args.unfolded.now.edges.items r c.loop-number.number) c.deref-in-loop-number-2.ensures.value)
    (omega (arith, c.if-next-gt-MOST_STAGES.false)) c.insn_of_node-insn.result c.may_write.result inside c.insn_of_node-insn.ensures.found
    (c.may_write.ensures ∙ ap (λ (x : Point). may_write c.args.program.now x (Some c.insn_of_node-insn.result))
    (c.index-at.ensures ∙ get_or_default c.args.unfolded.now.nodes.items c.loop-number.number c.index-at.result.now no_point inside)))
