use Rattle.std.proofs.Common.{◌∙◌, ap}
use Rattle.std.specs.List.{list_any}
use Rattle.std.specs.Str.{bytes_eq}
use Rattle.net_core.specs.View.{netlist_of}
use Rattle.net_core.specs.declared.design.Design.{Design}
use Rattle.verilog_read.proofs.Known.{has_known}
use Rattle.verilog_read.proofs.partial.Partial.has_name.Goals as goal

pub returns : goal.returns
returns c =
    c.contains_key.ensures
    ∙ has_known (netlist_of c.self.inside.design) c.self.inside.entries.entries _ _ _ c.args.name.now c.self.invariant
    ∙ ap (λ (d : Design). list_any (bytes_eq c.args.name.now) (netlist_of d).names) c.self.view_is
