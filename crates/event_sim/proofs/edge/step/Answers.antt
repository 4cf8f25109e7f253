use Rattle.std.specs.Prelude.{All}
use Rattle.std.proofs.Common.{◌≡◌, ◌<◌, length, map, sym, ap, ◌∙◌, subst}
use Rattle.std.proofs.lemmas.List.{length-map}
use Rattle.net_core.specs.Clock.{edge, after}
use Rattle.net_core.specs.View.{statement_of}
use Rattle.event_sim.specs.Orders.{blocks_in}
use Rattle.event_sim.specs.Readable.{AreBlocks}
use Rattle.event_sim.specs.Shapes.{HaveOneShape}
use Rattle.event_sim.specs.Views.{env_in, state_of}
use Rattle.event_sim.specs.Inside.{IsState}
use Rattle.event_sim.proofs.Blocks.{order_below}
use Rattle.event_sim.proofs.Edges.{blocks_are, one_shape, after_is_stored}
use Rattle.event_sim.proofs.States.{blocks_read, with_stored}
use Rattle.event_sim.proofs.edge.step.Goals as goal

pub execute_blocks-requires-clause-there : goal.execute_blocks-requires-clause-there
execute_blocks-requires-clause-there c =
    let always = c.args.design.now.always.items in
    subst (λ n. All (λ k. k < n) c.args.blocks.now) (length-map always statement_of ∙ ap length (sym c.as_slice-always.ensures.value)) (order_below (length (map statement_of always)) c.args.blocks.now c.requires.may.order)

pub execute_blocks-requires-clause-blocks : goal.execute_blocks-requires-clause-blocks
execute_blocks-requires-clause-blocks c =
    subst (λ l. AreBlocks (env_in c.args.values.now) (map statement_of l)) (sym c.as_slice-always.ensures.value) (blocks_read (state_of c.args.design.now c.args.values.now) c.requires.inside.state)

pub copy_from-requires : goal.copy_from-requires
copy_from-requires c =
    let s = state_of c.args.design.now c.args.values.now in
    let v = env_in c.args.values.now in
    let next : c.execute_blocks.new.next ≡ after s.netlist s.ins s.stored =
    c.execute_blocks.ensures ∙ ap (λ l. edge v (blocks_in c.args.blocks.now (map statement_of l)) c.args.next.now) c.as_slice-always.ensures.value ∙ ap (edge v (blocks_in c.args.blocks.now s.netlist.always)) c.requires.inside.copy
    ∙ blocks_are s c.requires.inside.state c.requires.may.quiet c.requires.may.runs c.args.blocks.now c.requires.may.order in
    subst (HaveOneShape s.stored) (sym next) (one_shape s c.requires.inside.state)

pub returns-clause-stored : goal.returns-clause-stored
returns-clause-stored c =
    let s = state_of c.args.design.now c.args.values.now in
    let v = env_in c.args.values.now in
    c.copy_from.ensures
    ∙ c.execute_blocks.ensures ∙ ap (λ l. edge v (blocks_in c.args.blocks.now (map statement_of l)) c.args.next.now) c.as_slice-always.ensures.value ∙ ap (edge v (blocks_in c.args.blocks.now s.netlist.always)) c.requires.inside.copy
    ∙ blocks_are s c.requires.inside.state c.requires.may.quiet c.requires.may.runs c.args.blocks.now c.requires.may.order

pub returns-clause-inside : goal.returns-clause-inside
returns-clause-inside c =
    let s = state_of c.args.design.now c.args.values.now in
    let v = env_in c.args.values.now in
    let stored : c.copy_from.new.self ≡ after s.netlist s.ins s.stored =
    c.copy_from.ensures
    ∙ c.execute_blocks.ensures ∙ ap (λ l. edge v (blocks_in c.args.blocks.now (map statement_of l)) c.args.next.now) c.as_slice-always.ensures.value ∙ ap (edge v (blocks_in c.args.blocks.now s.netlist.always)) c.requires.inside.copy
    ∙ blocks_are s c.requires.inside.state c.requires.may.quiet c.requires.may.runs c.args.blocks.now c.requires.may.order in
    record {
      state = subst (λ t. IsState (record s { stored = t })) (sym stored) (with_stored s c.requires.inside.state (after s.netlist s.ins s.stored) (after_is_stored s c.requires.inside.state));
      copy = sym c.copy_from.ensures;
    }
