use Rattle.std.proofs.Common.{◌≡◌, ◌++◌, drop, map}
use Rattle.net_core.specs.Value.{word}
use Rattle.net_core.specs.Width.{wire_widths}
use Rattle.net_core.specs.View.{netlist_of, wire_of, assign_of}
use Rattle.event_sim.specs.Inside.{assigned_width, net_widths}
use Rattle.event_sim.proofs.events.zeros.Given as goal

abbrev pub invariant-loop-wire : goal.invariant-loop-wire
invariant-loop-wire l = l.nets.items ++ map (λ w. word w 0) (wire_widths (map wire_of (drop l.wire-index l.wires))) ≡ map (λ w. word w 0) (wire_widths (map wire_of l.wires))

abbrev pub invariant-loop-assign : goal.invariant-loop-assign
invariant-loop-assign l =
    l.nets.items ++ map (λ w. word w 0) (map (assigned_width (netlist_of l.design)) (map assign_of (drop l.assign-index l.assigns))) ≡ map (λ w. word w 0) (net_widths (netlist_of l.design))
