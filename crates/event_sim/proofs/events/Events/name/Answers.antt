use Rattle.std.proofs.Common.{◌≡◌, ◌<◌, [], length, get_or, ap, sym, ◌∙◌, subst, arith}
use Rattle.std.specs.Prelude.{string_bytes}
use Rattle.std.proofs.lemmas.List.{length-map, get_or-map}
use Rattle.net_core.specs.Names.{name_place, name_of}
use Rattle.net_core.specs.View.{netlist_of}
use Rattle.event_sim.specs.Events.{State, net_count, net_named}
use Rattle.event_sim.specs.Views.{state_of}
use Rattle.event_sim.proofs.States.{named}
use Rattle.event_sim.proofs.events.Events.name.Goals as goal

pub place_in-requires : goal.place_in-requires
place_in-requires c =
    let there = subst (λ (s : State). c.args.net < net_count s.netlist) (sym c.self.view_is) c.requires in
    let is = named (state_of c.self.inside.design c.self.inside.values) c.self.invariant.state c.args.net there in
    let place = ap (name_place (netlist_of c.self.inside.design)) c.net_named-named.ensures in
    omega (arith, is, place, length-map c.self.inside.design.names.items string_bytes)

pub index-requires : goal.index-requires
index-requires c =
    let there = subst (λ (s : State). c.args.net < net_count s.netlist) (sym c.self.view_is) c.requires in
    let is = named (state_of c.self.inside.design c.self.inside.values) c.self.invariant.state c.args.net there in
    let place = ap (name_place (netlist_of c.self.inside.design)) c.net_named-named.ensures in
    omega (arith, is, place, length-map c.self.inside.design.names.items string_bytes, c.place_in.ensures, c.self.inside.design.names.ok.0)

pub returns : goal.returns
returns c =
    let names = c.self.inside.design.names.items in
    let there = subst (λ (s : State). c.args.net < net_count s.netlist) (sym c.self.view_is) c.requires in
    let is = named (state_of c.self.inside.design c.self.inside.values) c.self.invariant.state c.args.net there in
    let d = netlist_of c.self.inside.design in
    let inside : name_place d (net_named d c.args.net) < length names = omega (arith, is, length-map names string_bytes) in
    subst (λ (s : State). c.as_str.result.now ≡ name_of s.netlist (net_named s.netlist c.args.net)) c.self.view_is
    (c.as_str.ensures.value
    ∙ ap string_bytes (c.index.ensures ∙ ap (λ i. get_or names i c.index.result.now) (c.place_in.ensures ∙ ap (name_place d) c.net_named-named.ensures))
    ∙ sym (get_or-map string_bytes names (name_place d (net_named d c.args.net)) c.index.result.now [] inside))
