use Rattle.std.proofs.Common.{◌≡◌, ℕ, ◌<◌, length, get_or}
use Rattle.block_core.specs.declared.name.Name.{Name}
use Rattle.overlay_net.specs.declared.site_operands.SiteNets.{SiteNets}
use Rattle.overlay_net.specs.SiteOperands.Sites.{operands_of}
use Rattle.stage_net.specs.SiteTable.Sites.{IsSiteOf}
use Rattle.pipe_net.specs.declared.parts.Part.{Part}
use Rattle.pipe_parts.specs.PipeDraft.PipelinePlan.{program_in}
use Rattle.pipe_parts.proofs.pipe_draft.places.sites_of.Given as goal

abbrev pub invariant-loop-j : goal.invariant-loop-j
invariant-loop-j l = record {
  count : length l.sites.items ≡ l.j;
  each : (j : ℕ) (s : SiteNets (Name Part)) → j < l.j → IsSiteOf (program_in l.pipeline_plan) l.tables.table.items l.tables.pointers.items j (operands_of (get_or l.sites.items j s));
}
