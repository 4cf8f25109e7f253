use Rattle.std.proofs.Common.{◌+◌, sym, ◌∙◌}
use Rattle.unfold_core.proofs.Reaching.{number_here}
use Rattle.unfold_core.proofs.links.number_behind.Goals as goal

pub returns-then-not-comes_before-2-clause-number : goal.returns-then-not-comes_before-2-clause-number
returns-then-not-comes_before-2-clause-number c =
    number_here c.args.loops.now c.args.nodes.now c.index-nodes-next.result c.args.node.now (c.args.from + 1) c.requires.nodes c.requires.node c.if-next-nodes.true (sym c.comes_before.ensures ∙ c.if-not-comes_before.true)
    (sym c.comes_before-then-not-comes_before.ensures ∙ c.if-not-comes_before-2.true)
