use Rattle.verilog_read.proofs.Known.{absent, declared_kept}
use Rattle.verilog_read.proofs.added.with_declared.Goals as goal

pub add_name-requires : goal.add_name-requires
add_name-requires c = absent c.partial.inside.design c.args.partial _ _ _ _ c.args.name.now c.partial.view_is c.partial.invariant c.requires.fresh

pub invariant_of-result : goal.invariant_of-result
invariant_of-result c =
    declared_kept c.partial.inside.design c.args.partial _ _ _ _ _ _ _ _ c.args.name.now c.args.item _ c.partial.view_is c.partial.invariant c.requires.wires
    c.in_ok-add_name.ensures.entries c.declared_entry-entry.ensures c.in_ok-counts.ensures c.in_ok-add_name.ensures.names c.in_ok-push.ensures.items
