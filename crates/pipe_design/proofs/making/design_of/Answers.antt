use Rattle.std.proofs.Common.{◌≡◌, ◌∙◌, length, ap, arith}
use Rattle.std.proofs.lemmas.Result.{IfOk-weaker}
use Rattle.pipe_design.specs.Answer.{changed_words}
use Rattle.pipe_design.specs.Layout.{layout}
use Rattle.pipe_design.proofs.Made.{made_for, linked_by}
use Rattle.pipe_design.proofs.making.design_of.Goals as goal

pub parts-requires-clause-words : goal.parts-requires-clause-words
parts-requires-clause-words c = c.deref-3.ensures.value ∙ c.in_ok-words.ensures.words ∙ ap changed_words c.deref.ensures.value

pub returns-clause-design : goal.returns-clause-design
returns-clause-design c =
    let d = c.args.pipeline_plan.now in
    let places = c.deref-2.result.now in
    let words = c.deref-3.result.now in
    let ms = c.in_ok-parts.parts.items in
    let all = c.in_ok-parts.ensures in
    let count : length words ≡ c.len.result = omega (arith, ap length c.deref-3.ensures.value, c.len.ensures) in
    let linked = linked_by d c.requires.pipeline_plan places words ms all c.len.result c.deref-4.result.now count c.deref-4.ensures.value in
    IfOk-weaker c.link_pipeline.result _ _
    (λ n is. record { layout = layout d places all.shown; whole = all.whole; made = made_for d c.requires.pipeline_plan places words ms all; is = is (layout d places all.shown) all.whole linked })
    c.link_pipeline.ensures.netlist

pub returns-clause-formed : goal.returns-clause-formed
returns-clause-formed c =
    let d = c.args.pipeline_plan.now in
    let places = c.deref-2.result.now in
    let words = c.deref-3.result.now in
    let all = c.in_ok-parts.ensures in
    let count : length words ≡ c.len.result = omega (arith, ap length c.deref-3.ensures.value, c.len.ensures) in
    let linked = linked_by d c.requires.pipeline_plan places words c.in_ok-parts.parts.items all c.len.result c.deref-4.result.now count c.deref-4.ensures.value in
    IfOk-weaker c.link_pipeline.result _ _ (λ n is. is (layout d places all.shown) all.whole linked) c.link_pipeline.ensures.formed

pub returns-clause-apart : goal.returns-clause-apart
returns-clause-apart c =
    let d = c.args.pipeline_plan.now in
    let places = c.deref-2.result.now in
    let words = c.deref-3.result.now in
    let all = c.in_ok-parts.ensures in
    let count : length words ≡ c.len.result = omega (arith, ap length c.deref-3.ensures.value, c.len.ensures) in
    let linked = linked_by d c.requires.pipeline_plan places words c.in_ok-parts.parts.items all c.len.result c.deref-4.result.now count c.deref-4.ensures.value in
    IfOk-weaker c.link_pipeline.result _ _ (λ n is. is (layout d places all.shown) all.whole linked) c.link_pipeline.ensures.apart

pub returns-clause-large : goal.returns-clause-large
returns-clause-large c = λ e.
    let d = c.args.pipeline_plan.now in
    let places = c.deref-2.result.now in
    let words = c.deref-3.result.now in
    let ms = c.in_ok-parts.parts.items in
    let all = c.in_ok-parts.ensures in
    let count : length words ≡ c.len.result = omega (arith, ap length c.deref-3.ensures.value, c.len.ensures) in
    let linked = linked_by d c.requires.pipeline_plan places words ms all c.len.result c.deref-4.result.now count c.deref-4.ensures.value in
    record { layout = layout d places all.shown; whole = all.whole; made = made_for d c.requires.pipeline_plan places words ms all; past = c.link_pipeline.ensures.large e (layout d places all.shown) all.whole linked }
