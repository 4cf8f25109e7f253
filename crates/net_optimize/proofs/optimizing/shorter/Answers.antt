use Rattle.std.proofs.Common.{◌∙◌, sym}
use Rattle.std.proofs.lemmas.List.{length-map}
use Rattle.net_core.specs.View.{netlist_of, wire_of}
use Rattle.net_optimize.specs.Folding.{sections_of}
use Rattle.net_optimize.proofs.SameLemmas.{show_the_same}
use Rattle.net_optimize.proofs.optimizing.shorter.Goals as goal

pub returns : goal.returns
returns c formed formed_too =
    let short = c.in_ok-short.short in
    let one = length-map short.wires.items wire_of in
    let other = length-map c.args.design.now.wires.items wire_of in
    show_the_same (netlist_of c.args.design.now) _ (sections_of short) c.in_ok-firsts.firsts.items formed formed_too c.in_ok-next.ensures
    (one ∙ c.in_ok-short.ensures.count ∙ sym other) c.in_ok-short.ensures.same c.in_ok-firsts.ensures
