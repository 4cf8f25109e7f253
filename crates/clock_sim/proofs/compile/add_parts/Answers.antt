use Rattle.net_core.specs.View.{netlist_of}
use Rattle.clock_sim.proofs.BuilderLemmas.{extends_more}
use Rattle.clock_sim.proofs.StatementLemmas.{edge_later}
use Rattle.clock_sim.proofs.CompiledLemmas.{matches_first, operands_first, edge_first, edge_wired, wires_are_typed, are_shown, are_statements, compiles}
use Rattle.clock_sim.proofs.compile.add_parts.Goals as goal

pub add_wires-requires : goal.add_wires-requires
add_wires-requires c =
    let d = netlist_of c.args.design.now in
    let matches = matches_first d c.requires.typed _ _ _ c.requires.begins in
    record {
      none = c.requires.begins.wires;
      typed = rw c.deref.ensures.value (wires_are_typed d c.args.operands.now c.requires.typed matches c.requires.begins.wires);
      operands = operands_first d c.requires.typed _ _ _ c.requires.begins;
    }

pub divisors_of-requires : goal.divisors_of-requires
divisors_of-requires c = rw c.deref-2.ensures.value (rw c.deref.ensures.value at c.in_ok-add_wires.ensures.divided)

pub add_outputs-requires-clause-typed : goal.add_outputs-requires-clause-typed
add_outputs-requires-clause-typed c =
    let d = netlist_of c.args.design.now in
    let adds = rw c.deref.ensures.value at c.in_ok-add_wires.ensures.adds in
    rw c.deref-3.ensures.value (are_shown d c.args.operands.now _ c.requires.typed (matches_first d c.requires.typed _ _ _ c.requires.begins) adds)

pub add_always-requires-clause-typed : goal.add_always-requires-clause-typed
add_always-requires-clause-typed c =
    let d = netlist_of c.args.design.now in
    let adds = rw c.deref.ensures.value at c.in_ok-add_wires.ensures.adds in
    rw c.deref-4.ensures.value (are_statements d c.args.operands.now _ c.requires.typed (matches_first d c.requires.typed _ _ _ c.requires.begins) adds)

pub add_always-requires-clause-edge : goal.add_always-requires-clause-edge
add_always-requires-clause-edge c =
    let d = netlist_of c.args.design.now in
    let adds = rw c.deref.ensures.value at c.in_ok-add_wires.ensures.adds in
    let e = extends_more _ _ _ c.in_ok-add_wires.ensures.extends c.in_ok-shown.ensures.extends in
    edge_wired _ _ _ _ _ adds (edge_later _ _ _ _ e (edge_first d c.requires.typed _ _ _ c.requires.begins))

pub returns : goal.returns
returns c =
    let adds = rw c.deref.ensures.value at c.in_ok-add_wires.ensures.adds in
    let known = rw c.deref.ensures.value at c.in_ok-add_wires.ensures.known in
    let divided = rw c.deref.ensures.value at c.in_ok-add_wires.ensures.divided in
    let divisors = rw c.deref-2.ensures.value at c.in_ok-divisors.ensures in
    let shows = rw c.deref-3.ensures.value at c.in_ok-shown.ensures.shows in
    let executes = rw c.deref-4.ensures.value at c.in_ok-add_always.ensures.executes in
    compiles (netlist_of c.args.design.now) c.requires.typed _ _ _ _ _ _ _ _ _ c.requires.begins c.in_ok-add_wires.ensures.extends known divided c.in_ok-add_wires.ensures.operands adds divisors c.in_ok-shown.ensures.extends c.in_ok-shown.ensures.there shows
    c.in_ok-add_always.ensures.extends c.in_ok-add_always.ensures.edge executes
