use Rattle.std.specs.Prelude.{map}
use Rattle.std.proofs.Common.{sym, subst, add-one, arith}
use Rattle.std.proofs.lemmas.Bool.{and_parts}
use Rattle.std.proofs.lemmas.List.{take_all}
use Rattle.net_core.specs.View.{statement_of}
use Rattle.net_core.specs.Clock.{edge}
use Rattle.net_core.proofs.EdgeLaws.{edge_more}
use Rattle.net_rules.specs.NetSizes.Staying.{HaveSizes}
use Rattle.net_rules.proofs.net_sizes.keeping.edge_keeps.Goals as goal

pub loop-stmt-preserved : goal.loop-stmt-preserved
loop-stmt-preserved c both v known s h =
    let parts = and_parts c.stmt_keeps-all.result c.loop-stmt.all both in
    rw add-one (subst (HaveSizes c.args.sizes.now.registers.items) (sym (edge_more v c.args.always.now c.loop-stmt.stmt-index c.stmt-item.result s (omega arith) c.stmt-item.is))
    (c.stmt_keeps-all.ensures parts.0 v known _ (c.loop-stmt.invariant parts.1 v known s h)))

pub returns : goal.returns
returns c all v known s h =
    subst (λ xs. HaveSizes c.args.sizes.now.registers.items (edge v (map statement_of xs) s)) (take_all c.loop-stmt.stmt-index c.args.always.now (omega arith)) (c.loop-stmt.invariant all v known s h)
