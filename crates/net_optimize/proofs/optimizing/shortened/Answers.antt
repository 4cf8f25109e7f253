use Rattle.std.proofs.Common.{map}
use Rattle.net_core.specs.View.{netlist_of, wire_of}
use Rattle.net_optimize.specs.Folding.{netlist_sections, sections_of}
use Rattle.net_optimize.proofs.ListLemmas.{solves_same}
use Rattle.net_optimize.proofs.SameLemmas.{sections_twice}
use Rattle.net_optimize.proofs.optimizing.shortened.Goals as goal

pub returns-clause-same : goal.returns-clause-same
returns-clause-same c v solves =
    let shared = sections_of c.in_ok-shared.shared in
    let first = (rw (c.deref.ensures.value, c.deref-2.ensures.value, c.deref-3.ensures.value) at c.in_ok-shared.ensures.same) v solves in
    let second = (rw (c.deref-4.ensures.value, c.deref-5.ensures.value, c.deref-6.ensures.value) at c.in_ok-moved.ensures.same) v
    (solves_same v 0 (map wire_of c.args.design.now.wires.items) shared.wires solves first.wires) in
    sections_twice v (netlist_sections (netlist_of c.args.design.now)) shared (sections_of c.in_ok-moved.moved) first second
