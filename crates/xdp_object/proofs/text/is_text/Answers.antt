use Rattle.std.proofs.Common.{◌∙◌, sym}
use Rattle.elf_view.specs.File.{string_at}
use Rattle.xdp_object.proofs.Strings.{longer_text, not_named, other_text, whole_text}
use Rattle.xdp_object.proofs.text.is_text.Goals as goal

pub returns-in_default : goal.returns-in_default
returns-in_default c =
    let text = c.args.text.now in
    sym (not_named (string_at c.args.table.now c.args.at) text
    (other_text c.args.table.now text c.args.at (λ rest e. c.in_default.ensures rest (c.from_place.ensures ∙ e))))

pub returns-then-not-begins_with_zero : goal.returns-then-not-begins_with_zero
returns-then-not-begins_with_zero c =
    let text = c.args.text.now in
    sym (not_named (string_at c.args.table.now c.args.at) text
    (longer_text c.args.table.now text c.in-Some.behind.now c.args.at (sym c.from_place.ensures ∙ c.in-Some.ensures) c.if-not-begins_with_zero.ensures))

pub returns : goal.returns
returns c =
    whole_text c.args.table.now c.args.text.now c.in-Some.behind.now c.args.at c.contains.result (sym c.from_place.ensures ∙ c.in-Some.ensures)
    c.if-not-begins_with_zero.ensures c.contains.ensures.cases
