use Rattle.std.proofs.Common.{◌∙◌}
use Rattle.verilog_read.proofs.Known.{absent, port_kept}
use Rattle.verilog_read.proofs.added.with_port.Goals as goal

pub add_name-requires : goal.add_name-requires
add_name-requires c = absent c.partial.inside.design c.args.partial _ _ _ _ c.args.name.now c.partial.view_is c.partial.invariant c.requires.fresh

pub invariant_of-result : goal.invariant_of-result
invariant_of-result c =
    port_kept c.partial.inside.design c.args.partial _ _ _ _ _ _ _ c.args.name.now c.args.port c.port_entry-entry.result c.in_ok-next_number.field-0 c.partial.view_is c.partial.invariant c.requires.only
    c.in_ok-add_name.ensures.entries c.port_entry-entry.ensures (c.in_ok-next_number.ensures ∙ c.len.ensures ∙ c.partial.inside.design.ports.ok.0) c.in_ok-add_name.ensures.names c.in_ok-push.ensures.items
