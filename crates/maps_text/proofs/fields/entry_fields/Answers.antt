use Rattle.std.proofs.Common.{sym, ◌∙◌}
use Rattle.maps_text.proofs.Entries.{finds_entry, finds_none}
use Rattle.maps_text.proofs.fields.entry_fields.Goals as goal

pub returns-then-is_entry : goal.returns-then-is_entry
returns-then-is_entry c = finds_entry c.in_ok-fields.fields c.args.line.now c.in_ok-fields.ensures (sym c.is_entry.ensures ∙ c.if-is_entry.true)

pub returns-else-is_entry : goal.returns-else-is_entry
returns-else-is_entry c = finds_none c.in_ok-fields.fields c.args.line.now c.in_ok-fields.ensures (sym c.is_entry.ensures ∙ c.if-is_entry.false)
