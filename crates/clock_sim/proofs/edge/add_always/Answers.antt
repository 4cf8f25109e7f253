use Rattle.std.proofs.Common.{◌≡◌, [], map, drop, arith}
use Rattle.std.proofs.lemmas.List.{drop_all, length-map}
use Rattle.net_core.specs.declared.tree.Net.{Net}
use Rattle.net_core.specs.View.{statement_of}
use Rattle.clock_sim.proofs.ItemLaws.{at_item}
use Rattle.clock_sim.proofs.StatementLemmas.{acting_none, acting_first, acting_more, acting_all}
use Rattle.clock_sim.proofs.edge.add_always.Goals as goal

pub loop-s-init : goal.loop-s-init
loop-s-init c = acting_none _ _ _ _ c.requires.operands c.requires.edge c.requires.typed

pub add_statement-requires-clause-typed : goal.add_statement-requires-clause-typed
add_statement-requires-clause-typed c =
    let e = at_item statement_of c.args.all.now c.loop-s.s-index c.s-item.result c.loop-s-test.true c.s-item.is in
    acting_first _ _ _ _ _ _ _ _ _ e c.loop-s.invariant

pub loop-s-preserved : goal.loop-s-preserved
loop-s-preserved c =
    let e = at_item statement_of c.args.all.now c.loop-s.s-index c.s-item.result c.loop-s-test.true c.s-item.is in
    acting_more _ _ _ _ _ _ _ _ _ _ _ e c.in_ok-add_statement.ensures.extends c.in_ok-add_statement.ensures.edge c.in_ok-add_statement.ensures.executes c.loop-s.invariant

pub returns-clause-executes : goal.returns-clause-executes
returns-clause-executes c =
    let count = length-map c.args.all.now (statement_of {N = Net}) in
    let end : drop c.loop-s.s-index (map (statement_of {N = Net}) c.args.all.now) ≡ [] = drop_all c.loop-s.s-index (map (statement_of {N = Net}) c.args.all.now) (omega arith) in
    acting_all _ _ _ _ _ _ _ end c.loop-s.invariant
