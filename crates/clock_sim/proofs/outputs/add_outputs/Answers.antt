use Rattle.std.proofs.Common.{ℕ, ◌+◌, List, length, map, sym, ap, ◌∙◌, subst}
use Rattle.std.proofs.lemmas.List.{length_push}
use Rattle.net_core.specs.View.{assign_of}
use Rattle.clock_sim.specs.Edges.{AreSlots, ShowsAll}
use Rattle.clock_sim.proofs.BuilderLemmas.{extends_none, extends_more, operands_later}
use Rattle.clock_sim.proofs.StatementLemmas.{slots_more}
use Rattle.clock_sim.proofs.OutputLemmas.{slots_push, shows_none, shows_push}
use Rattle.clock_sim.proofs.outputs.add_outputs.Goals as goal

pub loop-port-init : goal.loop-port-init
loop-port-init c =
    let first = c.args.builder.now in
    record {
      extends = extends_none first;
      operands = c.requires.operands;
      count = ap (λ (l : List ℕ). length l) c.new-shown.ensures.items;
      slots = subst (λ l. AreSlots l (length first.slots)) (sym c.new-shown.ensures.items) tt;
      shows = subst (λ l. ShowsAll first first c.args.operands.now (map assign_of c.args.assigns.now) l) (sym c.new-shown.ensures.items) (shows_none first first c.args.operands.now (map assign_of c.args.assigns.now));
    }

pub loop-port-preserved : goal.loop-port-preserved
loop-port-preserved c =
    let first = c.args.builder.now in let old = c.loop-port.builder in let new = c.assigned.new.builder in
    let all = map assign_of c.args.assigns.now in
    let pushed = c.in_ok-push.ensures.items in
    let more = c.in_ok-slot.ensures.adds.extends in
    let at = c.loop-port.invariant.count in
    record {
      extends = extends_more first old new c.loop-port.invariant.extends more;
      operands = operands_later _ _ _ more c.loop-port.invariant.operands;
      count = ap (λ (l : List ℕ). length l) pushed ∙ length_push c.loop-port.shown.items c.in_ok-slot.slot ∙ ap (λ n. n + 1) at;
      slots = subst (λ l. AreSlots l (length new.slots)) (sym pushed) (slots_push (length new.slots) c.loop-port.shown.items c.in_ok-slot.slot c.in_ok-slot.ensures.adds.there (slots_more (length old.slots) (length new.slots) more.grows c.loop-port.shown.items c.loop-port.invariant.slots));
      shows = subst (λ l. ShowsAll first new c.args.operands.now all l) (sym pushed) (shows_push first old new c.args.operands.now all c.loop-port.shown.items c.in_ok-slot.slot c.loop-port.port c.loop-port.invariant.extends more (sym at) c.loop-port.invariant.shows c.in_ok-slot.ensures.shows);
    }
