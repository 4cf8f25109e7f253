use Rattle.std.proofs.Common.{◌∙◌, refl}
use Rattle.verilog_read.proofs.Known.{absent, wire_kept}
use Rattle.verilog_read.proofs.added.with_wire.Goals as goal

pub add_name-requires : goal.add_name-requires
add_name-requires c = absent c.partial.inside.design c.args.partial _ _ _ _ c.args.name.now c.partial.view_is c.partial.invariant c.requires

pub invariant_of-result : goal.invariant_of-result
invariant_of-result c =
    wire_kept c.partial.inside.design _ _ _ _ _ _ _ c.args.name.now c.args.wire _ c.in_ok-number.number c.partial.invariant
    c.in_ok-add_name.ensures.entries refl (c.in_ok-number.ensures ∙ c.len.ensures ∙ c.partial.inside.design.wires.ok.0) c.in_ok-add_name.ensures.names c.in_ok-push.ensures.items
