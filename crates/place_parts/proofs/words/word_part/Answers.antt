use Rattle.std.proofs.Common.{◌∙◌, ap, arith}
use Rattle.std.proofs.lemmas.List.{length-map}
use Rattle.hazard_core.specs.cell_core.View.{site_of}
use Rattle.overlay_net.specs.cell_nets.Wires.{wires_of}
use Rattle.overlay_net.specs.ValueNet.Words.{answers_number}
use Rattle.place_parts.proofs.WordParts.{number_low, number_answers, word_inside, slot_operand, made_word}
use Rattle.place_parts.proofs.words.word_part.Goals as goal

pub site_at-site-requires : goal.site_at-site-requires
site_at-site-requires c =
    let d = c.args.pipeline_plan.now in
    omega (arith, number_low d c.requires.pipeline_plan c.args.i c.index-number.result.now c.requires.load c.index-number.ensures, length-map d.program.now.sites.items site_of)

pub pointer_before-requires-clause-site : goal.pointer_before-requires-clause-site
pointer_before-requires-clause-site c = number_low c.args.pipeline_plan.now c.requires.pipeline_plan c.args.i c.index-number.result.now c.requires.load c.index-number.ensures

pub word_index-requires : goal.word_index-requires
word_index-requires c = ap answers_number c.site_at-site.ensures.act ∙ number_answers c.args.pipeline_plan.now c.requires.pipeline_plan c.args.i c.index-number.result.now c.requires.load c.index-number.ensures

pub pointed_words-requires-clause-slot : goal.pointed_words-requires-clause-slot
pointed_words-requires-clause-slot c =
    slot_operand c.args.pipeline_plan.now c.requires.pipeline_plan c.args.i c.index-number.result.now c.requires.load c.index-number.ensures c.index-form.result.now c.site_at-site.result.now.map c.site_at-site.ensures.map c.index-form.ensures c.args.places.now c.requires.places
    c.word_row-row.result c.word_row-row.ensures.row c.pointer_before.result c.pointer_before.ensures

pub pointed_words-requires-clause-there : goal.pointed_words-requires-clause-there
pointed_words-requires-clause-there c =
    let inside = word_inside c.args.pipeline_plan.now c.requires.pipeline_plan c.args.i c.index-number.result.now c.requires.load c.index-number.ensures c.index-form.result.now c.site_at-site.result.now.map c.site_at-site.ensures.map c.index-form.ensures c.site_at-site.result.now.act c.site_at-site.ensures.act in
    omega (arith, inside, c.word_index.ensures)

pub returns : goal.returns
returns c =
    made_word c.args.pipeline_plan.now c.requires.pipeline_plan c.args.i c.index-number.result.now c.requires.load c.index-number.ensures c.index-form.result.now c.site_at-site.result.now.map c.site_at-site.ensures.map c.index-form.ensures c.args.places.now c.requires.places
    c.word_row-row.result c.word_row-row.ensures.row c.pointer_before.result c.pointer_before.ensures c.word.result c.own.result (wires_of c.new.result.items) c.first_value.result c.word_index.result c.site_at-site.result.now.act c.in_ok-part.part c.word.ensures c.own.ensures
    (ap wires_of c.new.ensures.items) c.first_value.ensures.value c.site_at-site.ensures.act c.word_index.ensures c.in_ok-part.ensures
