use Rattle.std.proofs.Common.{rules, of_calls}
use Rattle.std.proofs.lemmas.List.Sorted.{IsPartitionPoint-from_clause}
use Rattle.unfold_core.specs.Nodes.{comes_before}
use Rattle.unfold_core.proofs.Numbering.{partitioned, number_is}
use Rattle.unfold_core.proofs.pending.number_of.Goals as goal

pub returns-clause-number : goal.returns-clause-number
returns-clause-number c =
    number_is c.args.loops.now c.args.nodes.now c.args.node.now c.partition_point.result c.partition_point.ensures.bound
    (IsPartitionPoint-from_clause (λ x. comes_before c.args.loops.now x.node c.args.node.now) c.args.nodes.now c.partition_point.result c.partition_point.ensures.partitioned
    (partitioned c.args.loops.now c.args.nodes.now c.args.node.now c.requires.nodes c.requires.node) (λ a r q k. search (rules, of_calls)))
