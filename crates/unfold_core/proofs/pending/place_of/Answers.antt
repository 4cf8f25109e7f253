use Rattle.std.proofs.Common.{rules, of_calls, arith}
use Rattle.std.proofs.lemmas.List.Sorted.{IsPartitionPoint-from_clause}
use Rattle.unfold_core.specs.Nodes.{comes_before}
use Rattle.unfold_core.proofs.Numbering.{partitioned, number_is}
use Rattle.unfold_core.proofs.pending.place_of.Goals as goal

pub returns : goal.returns
returns c =
    number_is c.args.loops.now c.args.pending.now.items c.args.node.now c.partition_point.result (omega (arith, c.partition_point.ensures.bound, c.args.pending.now.ok.0))
    (IsPartitionPoint-from_clause (λ x. comes_before c.args.loops.now x.node c.args.node.now) c.args.pending.now.items c.partition_point.result c.partition_point.ensures.partitioned
    (partitioned c.args.loops.now c.args.pending.now.items c.args.node.now c.requires.pending c.requires.node) (λ a r q k. search (rules, of_calls)))
