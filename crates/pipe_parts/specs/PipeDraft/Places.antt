-- What stands after the places of a pipeline plan.
use Rattle.std.specs.Prelude.{◌≡◌, ℕ, suc, ◌<◌, ◌≤◌, List, length}
use Rattle.std.proofs.Common.{get_or}
use Rattle.block_core.specs.declared.name.Name.{Name}
use Rattle.overlay_net.specs.declared.site_operands.SiteNets.{SiteNets}
use Rattle.overlay_net.specs.SiteOperands.Sites.{operands_of}
use Rattle.stage_net.specs.declared.site_table.tables.StageTables.{StageTables}
use Rattle.stage_net.specs.SiteTable.Sites.{IsSiteOf}
use Rattle.stage_net.specs.SiteTable.Tables.{StandBehind}
use Rattle.pipe_net.specs.declared.parts.Part.{Part}
use Rattle.pipe_net.specs.Parts as part
use Rattle.pipe_parts.specs.declared.pipe_draft.pipeline_plan.PipelinePlan.{PipelinePlan}
use Rattle.pipe_parts.specs.declared.pipe_draft.places.StageSources.{StageSources}
use Rattle.pipe_parts.specs.PipeDraft.PipelinePlan.{program_in, plan_in}

-- the operands of all sites by two tables
pub record AreSitesOf (d : PipelinePlan) (t : StageTables (Name Part)) (sites : List (SiteNets (Name Part))) : Type 0 where
  pub count : length sites ≡ length (program_in d).sites
  pub each : (j : ℕ) (s : SiteNets (Name Part)) → j < length (program_in d).sites → IsSiteOf (program_in d) t.table.items t.pointers.items j (operands_of (get_or sites j s))

-- the tables after the place of row k, and the operands of sites by them
pub record AreStageSources (d : PipelinePlan) (k : ℕ) (b : StageSources) : Type 0 where
  pub tables : StandBehind (part.place d.sizes k) (program_in d) (plan_in d) d.needed.items d.parts.items d.points.items d.bits k b.tables
  pub sites : AreSitesOf d b.tables b.sites.items

-- so of all places
pub record ArePlaces (d : PipelinePlan) (places : List StageSources) : Type 0 where
  pub count : length places ≡ suc (plan_in d).last
  pub each : (k : ℕ) (b : StageSources) → k ≤ (plan_in d).last → AreStageSources d k (get_or places k b)
