use Rattle.std.proofs.Common.{◌∙◌}
use Rattle.indexmap.proofs.CallerLemmas.{insert_entry-new}
use Rattle.verilog_read.proofs.Known.{absent_as}
use Rattle.verilog_read.proofs.added.add_name.Goals as goal

pub returns-clause-entries : goal.returns-clause-entries
returns-clause-entries c = record {
  key = c.as_bytes.result;
  spelled = c.as_bytes.ensures.value;
  behind = c.in_ok-insert.ensures.entries ∙ insert_entry-new _ c.args.entries.now c.as_bytes.result c.args.entry (absent_as c.args.entries.now.entries c.as_bytes.result.now c.args.name.now c.as_bytes.ensures.value c.requires);
}
