use Rattle.std.proofs.Common.{◌∙◌}
use Rattle.cell_core.specs.View.{program_of, site_of}
use Rattle.hazard_core.proofs.Written.{written_array}
use Rattle.hazard_core.proofs.overlay.written_as.Goals as goal

pub returns-in-Array : goal.returns-in-Array
returns-in-Array c =
    rw (c.in-Update.is, c.in-Array.is)
    (c.slot_pointer.ensures ∙ written_array (program_of c.args.program.now) c.args.tables.now c.args.held.now c.args.j (site_of c.site_at-site.result.now) _ _ c.site_at-site.ensures.site c.slots.ensures.slots (c.as_slice.ensures.bytes ∙ c.key_of-key.ensures.key))
