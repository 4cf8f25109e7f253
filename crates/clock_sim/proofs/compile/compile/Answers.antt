use Rattle.std.proofs.Common.{◌≡◌, ◌+◌, ◌≤◌, refl, length, sym, ap, ◌∙◌, subst, arith}
use Rattle.std.proofs.lemmas.List.{take_at}
use Rattle.net_core.specs.declared.ports.TheConstants.{PORT_COUNT}
use Rattle.net_core.specs.Clock.{first_words}
use Rattle.net_core.specs.Width.{register_widths}
use Rattle.net_core.specs.View.{netlist_of}
use Rattle.clock_sim.specs.declared.clock.CompiledDesign.{CompiledDesign}
use Rattle.clock_sim.specs.Flat.{Flat, IsConsistent, numbers}
use Rattle.clock_sim.specs.Orders.{AreGroups, Reordered}
use Rattle.clock_sim.specs.Layouts.{with_words, constants_in, Compiles}
use Rattle.clock_sim.proofs.CompiledLemmas.{write_at_room, stored_first, ready_first}
use Rattle.clock_sim.proofs.compile.compile.Goals as goal

pub write_at-requires : goal.write_at-requires
write_at-requires c =
    let ds = c.args.design.declared.items in
    let first = rw c.deref.ensures.value at c.in_ok-beginning.ensures in
    let is = sym c.finish-steps.ensures.parts in
    let room = write_at_room ds c.finish-steps.result.1.items (subst (λ (b : Flat). PORT_COUNT + length (register_widths ds) ≤ length b.slots) is c.in_ok-parts.ensures.room) c.requires.declared in
    let values = ap length (c.deref-4.ensures.value ∙ first.values) in
    let all = ap length (c.deref_mut.ensures.value ∙ c.in_ok-slots.ensures ∙ ap constants_in c.deref-3.ensures.value) in
    omega (arith, room, values, all)

pub returns : goal.returns
returns c =
    let first = rw c.deref.ensures.value at c.in_ok-beginning.ensures in
    let steps = c.finish-steps.result.0.items in
    let constants = c.finish-steps.result.1 in
    let is = sym c.finish-steps.ensures.parts in
    let consistent = subst IsConsistent is c.finish-steps.ensures.consistent in
    let made = subst (λ b. Compiles (netlist_of c.args.design) b c.add_parts.new.edge c.in_ok-parts.parts) is c.in_ok-parts.ensures in
    let count : c.len.result ≡ length constants.items = omega (arith, c.len.ensures, constants.ok.0) in
    let order = subst (λ k. Reordered k steps c.reorder.new.steps.items) count c.in_ok-reorder.ensures in
    let groups = subst (λ l. AreGroups c.in_ok-groups.groups.items l) c.deref-2.ensures.value c.in_ok-groups.ensures in
    let same : length c.write_at.new.slots ≡ c.in_ok-slots.slots.len = omega (arith, c.write_at.auto.slots, c.deref_mut.ensures.len, c.in_ok-slots.slots.ok.0) in
    let values = c.deref-4.ensures.value ∙ first.values in
    let begun = c.deref_mut.ensures.value ∙ c.in_ok-slots.ensures ∙ ap constants_in c.deref-3.ensures.value in
    let all = take_at c.write_at.new.slots _ _ same ∙ c.write_at.ensures ∙ ap (λ l. with_words PORT_COUNT l c.deref_mut.result.now) values ∙ ap (λ l. with_words PORT_COUNT (numbers (first_words c.args.design.declared.items)) l) begun in
    let next = c.add_parts.new.edge.next in
    let words : length c.in_ok-next.next.items ≡ length next.items = omega (arith, c.in_ok-next.ensures.len, c.in_ok-next.next.ok.0, c.len-2.ensures, next.ok.0) in
    let p : CompiledDesign = record { design = c.args.design; steps = c.reorder.new.steps; groups = c.in_ok-groups.groups; divisors = c.in_ok-parts.parts.divisors; shown = c.in_ok-parts.parts.shown; next = next; stores = c.add_parts.new.edge.stores } in
    record {
      design = refl;
      stored = stored_first p steps constants.items c.requires consistent made order groups _ _ all first.contents;
      ready = ready_first p steps constants.items c.requires consistent made order groups _ _ _ all first.contents words;
    }
