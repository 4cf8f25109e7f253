use Rattle.std.proofs.Common.{◌≡◌, ◌<◌, ◌++◌, All, true, [], length, refl, sym, ap, ap₂, ◌∙◌, subst, map as map_list}
use Rattle.net_core.specs.ProductRules.Products.{statement_flat}
use Rattle.overlay_net.specs.cell_core.View.{cell_of}
use Rattle.cell_nets.specs.Wires.{wires_of}
use Rattle.frame_net.proofs.FormLaws.{same_block}
use Rattle.row_net.proofs.ApartLaws.{alone}
use Rattle.row_net.specs.SitePlace.Pointing.{ArePointed}
use Rattle.row_net.specs.SitePlace.PointerNets.{IsPointerRow}
use Rattle.row_net.specs.SitePlace.Inputs.{first_word, input_tree, held_statement, cell_input, pointer_input}
use Rattle.row_net.proofs.SitePlace.PointingLemmas.{pointed_after}
use Rattle.row_net.proofs.SitePlace.HoldingLemmas.{held_flat}
use Rattle.row_net.proofs.SitePlace.PlacingLemmas.{FromOperand, operands_all, held_all, in_all, carried_within, is_site_place}
use Rattle.row_net.proofs.site_place.placing.site_place.Goals as goal

pub pointer_nets-requires-clause-pointed : goal.pointer_nets-requires-clause-pointed
pointer_nets-requires-clause-pointed g c =
    let cells = map_list cell_of c.args.cells.now in
    let row = c.in_ok-row_nets.ensures in
    subst (λ l. ArePointed cells l c.args.pointers.items [] c.args.made_pointers.now) (sym c.deref.ensures.value)
    (pointed_after cells c.args.table.items c.row_nets.new.table.items c.args.pointers.items c.args.made.now c.args.made_pointers.now row.grows row.all_in c.requires.pointed)

pub cell_inputs-requires-clause-within : goal.cell_inputs-requires-clause-within
cell_inputs-requires-clause-within g c =
    let row = c.in_ok-row_nets.ensures in
    carried_within c.args.cells.now c.args.table.items c.row_nets.new.table.items c.args.made.now c.args.carried.now row.table row.grows row.all_in c.requires.carried

pub pointer_inputs-requires : goal.pointer_inputs-requires
pointer_inputs-requires g c =
    let those = c.pointer_nets.new.pointers.items in
    let pointed = c.in_ok-pointer_nets.ensures in
    subst (λ l. All (λ k. k < length l) c.args.carried_pointers.now) (sym c.deref-3.ensures.value)
    (in_all those (length those) c.args.carried_pointers.now refl (held_all c.args.pointers.items those c.args.made_pointers.now c.args.carried_pointers.now pointed.grows pointed.all_in c.requires.carried_pointers))

pub values-requires : goal.values-requires
values-requires g c =
    let cells = map_list cell_of c.args.cells.now in
    let after = c.row_nets.new.table.items in
    let those = c.pointer_nets.new.pointers.items in
    let inputs =
    c.in_ok-append.ensures.items
    ∙ ap₂ (λ a b. a ++ b) (c.in_ok-inputs.ensures ∙ ap (λ l. map_list (cell_input cells l) c.args.carried.now) c.deref-2.ensures.value) (c.in_ok-more.ensures ∙ ap (λ l. map_list (pointer_input c.args.bits l) c.args.carried_pointers.now) c.deref-3.ensures.value) in
    subst (All FromOperand) (sym (c.deref-5.ensures.value ∙ inputs))
    (operands_all cells c.args.bits after those c.args.carried.now c.args.carried_pointers.now c.in_ok-row_nets.ensures.table c.in_ok-pointer_nets.ensures.pointers)

pub returns-clause-block : goal.returns-clause-block
returns-clause-block g c = λ outside shown w t q.
    let cells = map_list cell_of c.args.cells.now in
    let mid = wires_of c.row_nets.new.wires.items in
    let new = wires_of c.pointer_nets.new.wires.items in
    let after = c.row_nets.new.table.items in
    let those = c.pointer_nets.new.pointers.items in
    let row = c.in_ok-row_nets.ensures in
    let pointed = subst (λ l. IsPointerRow c.args.part cells c.args.bits c.args.made_pointers.now l mid new c.args.pointers.items those) c.deref.ensures.value c.in_ok-pointer_nets.ensures in
    let inputs =
    c.in_ok-append.ensures.items
    ∙ ap₂ (λ a b. a ++ b) (c.in_ok-inputs.ensures ∙ ap (λ l. map_list (cell_input cells l) c.args.carried.now) c.deref-2.ensures.value) (c.in_ok-more.ensures ∙ ap (λ l. map_list (pointer_input c.args.bits l) c.args.carried_pointers.now) c.deref-3.ensures.value) in
    is_site_place c.args.part cells c.args.made.now c.args.carried.now c.args.made_pointers.now c.args.carried_pointers.now c.args.bits outside c.args.advance (wires_of c.args.wires.items) mid new c.args.table.items after c.args.pointers.items those c.requires.formed c.requires.bits row pointed shown w t q
    (held_all c.args.table.items after c.args.made.now c.args.carried.now row.grows row.all_in c.requires.carried) c.requires.some
    (held_all c.args.pointers.items those c.args.made_pointers.now c.args.carried_pointers.now pointed.grows pointed.all_in c.requires.carried_pointers) _
    (same_block _ _ _ _ _ (c.in_ok-registers.ensures ∙ ap (map_list first_word) (c.deref-4.ensures.value ∙ inputs)) c.new.ensures.items refl
    (c.in_ok-statement.ensures ∙ ap (held_statement c.args.advance) (c.in_ok-values.ensures ∙ ap (map_list input_tree) (c.deref-5.ensures.value ∙ inputs))))

pub returns-clause-begun : goal.returns-clause-begun
returns-clause-begun g c = λ v h. c.in_ok-row_nets.ensures.earlier v (c.in_ok-pointer_nets.ensures.adds.before v h)

pub returns-clause-apart : goal.returns-clause-apart
returns-clause-apart g c = λ clean marks take keep.
    let after = c.row_nets.new.table.items in
    let row = c.in_ok-row_nets.ensures.apart clean marks take keep in
    let next = c.in_ok-pointer_nets.ensures.adds.apart clean row.0 after row.1 in
    let sets = c.in_ok-statement.ensures ∙ ap (held_statement c.args.advance) c.in_ok-values.ensures in
    alone c.args.part clean next.0 after _ next.1 (λ made. subst (λ s. statement_flat made s ≡ true) (sym sets) (held_flat made c.args.advance c.deref-5.result.now))
