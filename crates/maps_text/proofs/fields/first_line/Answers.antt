use Rattle.std.proofs.Common.{sym, ap, ◌∙◌}
use Rattle.std.specs.Option.{option_copied}
use Rattle.maps_text.proofs.Cuts.{lines_of-by, rest_shorter}
use Rattle.maps_text.proofs.fields.first_line.Goals as goal

pub returns-in-Some-clause-lines : goal.returns-in-Some-clause-lines
returns-in-Some-clause-lines c =
    lines_of-by c.args.text.now c.cut.result.0.now _ c.requires c.cut.ensures.part (sym (ap option_copied c.in-Some.is) ∙ c.cut.ensures.rest)

pub returns-in-Some-clause-shorter : goal.returns-in-Some-clause-shorter
returns-in-Some-clause-shorter c =
    rest_shorter c.args.text.now c.in-Some.rest.now c.requires (sym (ap option_copied c.in-Some.is) ∙ c.cut.ensures.rest)

pub returns-in-None-clause-lines : goal.returns-in-None-clause-lines
returns-in-None-clause-lines c =
    lines_of-by c.args.text.now c.cut.result.0.now _ c.requires c.cut.ensures.part (sym (ap option_copied c.in-None.is) ∙ c.cut.ensures.rest)
