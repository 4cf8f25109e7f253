-- The names before a place, and the name there, as the view lists them.
use Rattle.std.proofs.Common.{sym, ap, ◌∙◌, not, take, string_bytes}
use Rattle.std.specs.List.{list_any}
use Rattle.std.specs.Str.{bytes_eq}
use Rattle.design_rules.proofs.FormedNames.{is_new_at}
use Rattle.design_rules.proofs.formed.names.found_new.Goals as goal

pub returns : goal.returns
returns c = ap not
    (c.is_among.ensures
    ∙ ap (λ name. list_any (λ other. bytes_eq name (string_bytes other)) (take c.args.place c.args.names.now)) c.as_bytes.ensures.value
    ∙ sym (is_new_at c.args.names.now c.args.place c.index-names-place.result c.requires c.index-names-place.is))
