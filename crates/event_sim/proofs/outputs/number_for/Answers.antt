use Rattle.std.proofs.Common.{◌<◌, length, ap, sym, ◌∙◌, arith}
use Rattle.std.proofs.lemmas.List.{drop_more}
use Rattle.net_core.specs.declared.tree.Word.{Word}
use Rattle.net_core.specs.Value.{nothing}
use Rattle.net_core.specs.View.{assign_of}
use Rattle.clock_sim.proofs.ItemLaws.{at_item}
use Rattle.event_sim.proofs.Walks.{stored_here, stored_later}
use Rattle.event_sim.proofs.outputs.number_for.Goals as goal

pub returns-then-assign-port : goal.returns-then-assign-port
returns-then-assign-port c =
    let inside : c.loop-at.at < length c.args.words.now = omega arith in
    let e = at_item assign_of c.args.assigns.now c.loop-at.at c.index-assigns-at.result c.loop-at-test.true c.index-assigns-at.is in
    let f = drop_more c.args.words.now c.loop-at.at nothing inside in
    ap (λ (w : Word). w.value) (sym (stored_here c.args.port (assign_of c.index-assigns-at.result) _ _ _ _ _ e f c.if-assign-port.true) ∙ c.loop-at.invariant)

pub loop-at-preserved : goal.loop-at-preserved
loop-at-preserved c =
    let inside : c.loop-at.at < length c.args.words.now = omega arith in
    let e = at_item assign_of c.args.assigns.now c.loop-at.at c.index-assigns-at.result c.loop-at-test.true c.index-assigns-at.is in
    let f = drop_more c.args.words.now c.loop-at.at nothing inside in
    sym (stored_later c.args.port (assign_of c.index-assigns-at.result) _ _ _ _ _ e f c.if-assign-port.false) ∙ c.loop-at.invariant
