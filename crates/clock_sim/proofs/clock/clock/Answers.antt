use Rattle.std.proofs.Common.{◌≡◌, ◌+◌, ◌≤◌, length, sym, ap, ◌∙◌, subst}
use Rattle.net_core.specs.declared.ports.TheConstants.{PORT_COUNT}
use Rattle.net_core.specs.Ports.{words_of, FitOutputs, outputs_at}
use Rattle.net_core.specs.View.{netlist_of}
use Rattle.clock_sim.specs.Steps.{run}
use Rattle.clock_sim.specs.Flat.{AreReading, numbers}
use Rattle.clock_sim.specs.Edges.{first_zero, AreDivisors, AreSlots, AreStores, IsShown, shown_in, taken}
use Rattle.clock_sim.specs.Orders.{AreGroups}
use Rattle.clock_sim.specs.Layouts.{with_words, stored_of, IsReady}
use Rattle.clock_sim.proofs.RunLemmas.{ports_room, reads, divisors_in, stop_is, shown_there, shown_fit, shows_is, next_in, stores_in, words_room, stopped_stored, stopped_ready, after_is, ready_after, begun_is, done_is, words_are_taken, contents_are, ended_is, net_stops}
use Rattle.net_core.proofs.ClockLaws.{clock_goes}
use Rattle.clock_sim.proofs.clock.clock.Goals as goal

pub write_at-requires : goal.write_at-requires
write_at-requires c =
    subst (λ l. 0 + length l ≤ length c.args.slots.now) (sym c.numbers_at-ports.ensures.numbers) (ports_room c.args.compiled.now c.args.inputs c.args.slots.now c.args.contents.now _ c.requires.ready c.requires.inputs c.numbers_at-ports.ensures.fit)

pub run-requires-clause-groups : goal.run-requires-clause-groups
run-requires-clause-groups c =
    let groups = subst (λ l. AreGroups l c.args.compiled.now.steps.items) (sym c.deref.ensures.value) c.requires.ready.compiled.groups in
    subst (λ l. AreGroups c.deref.result.now l) (sym c.deref-2.ensures.value) groups

pub run-requires-clause-steps : goal.run-requires-clause-steps
run-requires-clause-steps c =
    let p = c.args.compiled.now in let i = c.args.inputs in let s = c.args.slots.now in let b = c.args.contents.now in
    let r = c.requires.ready in let v = c.requires.inputs in let f = c.numbers_at-ports.ensures.fit in
    let begun = begun_is p i s b _ r v f _ _ c.numbers_at-ports.ensures.numbers c.write_at.ensures in
    subst (λ l. AreReading (length l) c.deref-2.result.now) (sym begun) (subst (λ l. AreReading (length (with_words 0 (numbers (words_of i)) s)) l) (sym c.deref-2.ensures.value) (reads p i s b _ r v f))

pub stopped-requires : goal.stopped-requires
stopped-requires c =
    let p = c.args.compiled.now in let i = c.args.inputs in let s = c.args.slots.now in let b = c.args.contents.now in
    let r = c.requires.ready in let v = c.requires.inputs in let f = c.numbers_at-ports.ensures.fit in
    let begun = begun_is p i s b _ r v f _ _ c.numbers_at-ports.ensures.numbers c.write_at.ensures in
    let done = done_is p i s b _ r v f _ _ _ c.deref-2.ensures.value begun c.run.ensures in
    subst (λ l. AreDivisors c.deref-3.result.now (length l)) (sym done) (subst (λ l. AreDivisors l (length (run b p.steps.items (with_words 0 (numbers (words_of i)) s)))) (sym c.deref-3.ensures.value) (divisors_in p i s b _ r v f))

pub show-outputs-requires-clause-there : goal.show-outputs-requires-clause-there
show-outputs-requires-clause-there c =
    let p = c.args.compiled.now in let i = c.args.inputs in let s = c.args.slots.now in let b = c.args.contents.now in
    let r = c.requires.ready in let v = c.requires.inputs in let f = c.numbers_at-ports.ensures.fit in
    let begun = begun_is p i s b _ r v f _ _ c.numbers_at-ports.ensures.numbers c.write_at.ensures in
    let done = done_is p i s b _ r v f _ _ _ c.deref-2.ensures.value begun c.run.ensures in
    subst (λ l. IsShown c.deref-4.result.now (length l)) (sym done) (subst (λ l. IsShown l (length (run b p.steps.items (with_words 0 (numbers (words_of i)) s)))) (sym c.deref-4.ensures.value) (shown_there p i s b _ r v f))

pub show-outputs-requires-clause-fit : goal.show-outputs-requires-clause-fit
show-outputs-requires-clause-fit c =
    let p = c.args.compiled.now in let i = c.args.inputs in let s = c.args.slots.now in let b = c.args.contents.now in
    let r = c.requires.ready in let v = c.requires.inputs in let f = c.numbers_at-ports.ensures.fit in
    let begun = begun_is p i s b _ r v f _ _ c.numbers_at-ports.ensures.numbers c.write_at.ensures in
    let done = done_is p i s b _ r v f _ _ _ c.deref-2.ensures.value begun c.run.ensures in
    subst (λ l. FitOutputs (shown_in c.deref-4.result.now l)) (sym done) (subst (λ l. FitOutputs (shown_in l (run b p.steps.items (with_words 0 (numbers (words_of i)) s)))) (sym c.deref-4.ensures.value) (shown_fit p i s b _ r v f))

pub gather-requires-clause-slots : goal.gather-requires-clause-slots
gather-requires-clause-slots c =
    let p = c.args.compiled.now in let i = c.args.inputs in let s = c.args.slots.now in let b = c.args.contents.now in
    let r = c.requires.ready in let v = c.requires.inputs in let f = c.numbers_at-ports.ensures.fit in
    let begun = begun_is p i s b _ r v f _ _ c.numbers_at-ports.ensures.numbers c.write_at.ensures in
    let done = done_is p i s b _ r v f _ _ _ c.deref-2.ensures.value begun c.run.ensures in
    subst (λ l. AreSlots c.deref-5.result.now (length l)) (sym done) (subst (λ l. AreSlots l (length (run b p.steps.items (with_words 0 (numbers (words_of i)) s)))) (sym c.deref-5.ensures.value) (next_in p i s b _ r v f))

pub gather-requires-clause-count : goal.gather-requires-clause-count
gather-requires-clause-count c = c.requires.ready.next_count ∙ ap length (sym c.deref-5.ensures.value)

pub finish-requires : goal.finish-requires
finish-requires c =
    let p = c.args.compiled.now in let i = c.args.inputs in let s = c.args.slots.now in let b = c.args.contents.now in
    let r = c.requires.ready in let v = c.requires.inputs in let f = c.numbers_at-ports.ensures.fit in
    let begun = begun_is p i s b _ r v f _ _ c.numbers_at-ports.ensures.numbers c.write_at.ensures in
    let done = done_is p i s b _ r v f _ _ _ c.deref-2.ensures.value begun c.run.ensures in
    subst (λ l. AreStores c.deref-6.result.now (length l)) (sym done) (subst (λ l. AreStores l (length (run b p.steps.items (with_words 0 (numbers (words_of i)) s)))) (sym c.deref-6.ensures.value) (stores_in p i s b _ r v f))

pub write_at-requires-2 : goal.write_at-requires-2
write_at-requires-2 c =
    let p = c.args.compiled.now in let i = c.args.inputs in let s = c.args.slots.now in let b = c.args.contents.now in
    let r = c.requires.ready in let v = c.requires.inputs in let f = c.numbers_at-ports.ensures.fit in
    let begun = begun_is p i s b _ r v f _ _ c.numbers_at-ports.ensures.numbers c.write_at.ensures in
    let done = done_is p i s b _ r v f _ _ _ c.deref-2.ensures.value begun c.run.ensures in
    let words = words_are_taken p i s b _ r v f _ _ _ c.deref-5.ensures.value done c.gather.ensures in
    subst (λ l. PORT_COUNT + length c.gather.new.words ≤ length l) (sym done) (subst (λ l. PORT_COUNT + length l ≤ length (run b p.steps.items (with_words 0 (numbers (words_of i)) s))) (sym words) (words_room p i s b _ r v f))

pub returns-in-Some-clause-stops : goal.returns-in-Some-clause-stops
returns-in-Some-clause-stops c =
    let p = c.args.compiled.now in let i = c.args.inputs in let s = c.args.slots.now in let b = c.args.contents.now in
    let r = c.requires.ready in let v = c.requires.inputs in let f = c.numbers_at-ports.ensures.fit in
    let begun = begun_is p i s b _ r v f _ _ c.numbers_at-ports.ensures.numbers c.write_at.ensures in
    let done = done_is p i s b _ r v f _ _ _ c.deref-2.ensures.value begun c.run.ensures in
    let zero = c.in-Some.ensures ∙ ap (λ l. first_zero l c.run.new.slots) c.deref-3.ensures.value ∙ ap (λ l. first_zero p.divisors.items l) done in
    net_stops (netlist_of p.design) (words_of i) (stored_of p s b) c.in-Some.wire (zero ∙ stop_is p i s b _ r v f)

pub returns-in-Some-clause-unchanged : goal.returns-in-Some-clause-unchanged
returns-in-Some-clause-unchanged c =
    let p = c.args.compiled.now in let i = c.args.inputs in let s = c.args.slots.now in let b = c.args.contents.now in
    let r = c.requires.ready in let v = c.requires.inputs in let f = c.numbers_at-ports.ensures.fit in
    let begun = begun_is p i s b _ r v f _ _ c.numbers_at-ports.ensures.numbers c.write_at.ensures in
    let done = done_is p i s b _ r v f _ _ _ c.deref-2.ensures.value begun c.run.ensures in
    ap (λ l. stored_of p l b) done ∙ stopped_stored p i s b _ r v f

pub returns-in-Some-clause-ready : goal.returns-in-Some-clause-ready
returns-in-Some-clause-ready c =
    let p = c.args.compiled.now in let i = c.args.inputs in let s = c.args.slots.now in let b = c.args.contents.now in
    let r = c.requires.ready in let v = c.requires.inputs in let f = c.numbers_at-ports.ensures.fit in
    let begun = begun_is p i s b _ r v f _ _ c.numbers_at-ports.ensures.numbers c.write_at.ensures in
    let done = done_is p i s b _ r v f _ _ _ c.deref-2.ensures.value begun c.run.ensures in
    subst (λ l. IsReady p l b (length c.args.next.now)) (sym done) (stopped_ready p i s b _ r v f)

pub returns-clause-runs : goal.returns-clause-runs
returns-clause-runs c =
    let p = c.args.compiled.now in let i = c.args.inputs in let s = c.args.slots.now in let b = c.args.contents.now in
    let r = c.requires.ready in let v = c.requires.inputs in let f = c.numbers_at-ports.ensures.fit in
    let begun = begun_is p i s b _ r v f _ _ c.numbers_at-ports.ensures.numbers c.write_at.ensures in
    let done = done_is p i s b _ r v f _ _ _ c.deref-2.ensures.value begun c.run.ensures in
    let zero = c.in_default.ensures ∙ ap (λ l. first_zero l c.run.new.slots) c.deref-3.ensures.value ∙ ap (λ l. first_zero p.divisors.items l) done in
    sym (zero ∙ stop_is p i s b _ r v f)

pub returns-clause-stored : goal.returns-clause-stored
returns-clause-stored c =
    let p = c.args.compiled.now in let i = c.args.inputs in let s = c.args.slots.now in let b = c.args.contents.now in
    let r = c.requires.ready in let v = c.requires.inputs in let f = c.numbers_at-ports.ensures.fit in
    let begun = begun_is p i s b _ r v f _ _ c.numbers_at-ports.ensures.numbers c.write_at.ensures in
    let done = done_is p i s b _ r v f _ _ _ c.deref-2.ensures.value begun c.run.ensures in
    let zero = c.in_default.ensures ∙ ap (λ l. first_zero l c.run.new.slots) c.deref-3.ensures.value ∙ ap (λ l. first_zero p.divisors.items l) done in
    let words = words_are_taken p i s b _ r v f _ _ _ c.deref-5.ensures.value done c.gather.ensures in
    let contents = contents_are p i s b _ r v f _ _ _ c.deref-6.ensures.value done c.finish.ensures in
    let ended = ended_is p i s b _ r v f _ _ _ done words c.write_at-2.ensures in
    let after = ap (λ l. stored_of p l c.finish.new.contents) ended ∙ ap (λ k. stored_of p (with_words PORT_COUNT (taken p.next.items (run b p.steps.items (with_words 0 (numbers (words_of i)) s))) (run b p.steps.items (with_words 0 (numbers (words_of i)) s))) k) contents ∙ after_is p i s b _ r v f in
    clock_goes (netlist_of p.design) (words_of i) (stored_of p s b) _ (sym (zero ∙ stop_is p i s b _ r v f)) (sym after)

pub returns-clause-outputs : goal.returns-clause-outputs
returns-clause-outputs c =
    let p = c.args.compiled.now in let i = c.args.inputs in let s = c.args.slots.now in let b = c.args.contents.now in
    let r = c.requires.ready in let v = c.requires.inputs in let f = c.numbers_at-ports.ensures.fit in
    let begun = begun_is p i s b _ r v f _ _ c.numbers_at-ports.ensures.numbers c.write_at.ensures in
    let done = done_is p i s b _ r v f _ _ _ c.deref-2.ensures.value begun c.run.ensures in
    c.show-outputs.ensures ∙ ap (λ l. outputs_at (shown_in l c.run.new.slots)) c.deref-4.ensures.value ∙ ap (λ l. outputs_at (shown_in p.shown.items l)) done ∙ shows_is p i s b _ r v f

pub returns-clause-ready : goal.returns-clause-ready
returns-clause-ready c =
    let p = c.args.compiled.now in let i = c.args.inputs in let s = c.args.slots.now in let b = c.args.contents.now in
    let r = c.requires.ready in let v = c.requires.inputs in let f = c.numbers_at-ports.ensures.fit in
    let begun = begun_is p i s b _ r v f _ _ c.numbers_at-ports.ensures.numbers c.write_at.ensures in
    let done = done_is p i s b _ r v f _ _ _ c.deref-2.ensures.value begun c.run.ensures in
    let words = words_are_taken p i s b _ r v f _ _ _ c.deref-5.ensures.value done c.gather.ensures in
    let contents = contents_are p i s b _ r v f _ _ _ c.deref-6.ensures.value done c.finish.ensures in
    let ended = ended_is p i s b _ r v f _ _ _ done words c.write_at-2.ensures in
    let count : length c.gather.new.words ≡ length c.args.next.now = c.gather.auto.words in
    subst (λ n. IsReady p c.write_at-2.new.slots c.finish.new.contents n) (sym count)
    (subst (λ l. IsReady p l c.finish.new.contents (length c.args.next.now)) (sym ended) (subst (λ k. IsReady p (with_words PORT_COUNT (taken p.next.items (run b p.steps.items (with_words 0 (numbers (words_of i)) s))) (run b p.steps.items (with_words 0 (numbers (words_of i)) s))) k (length c.args.next.now)) (sym contents) (ready_after p i s b _ r v f)))
