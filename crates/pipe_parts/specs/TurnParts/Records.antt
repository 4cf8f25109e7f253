-- What the operations at record sites write, and what stands for them.
use Rattle.std.specs.Prelude.{◌≡◌, ℕ, ◌<◌, All, List, [], length, map as map_list}
use Rattle.std.proofs.Common.{get_or}
use Rattle.block_core.specs.declared.name.Name.{Name}
use Rattle.block_core.specs.View.{block_of}
use Rattle.hazard_core.specs.cell_core.Sites.{site_at}
use Rattle.hazard_core.specs.Tables.{decl_of}
use Rattle.overlay_net.specs.cell_nets.declared.operand.Operand.{Operand}
use Rattle.overlay_net.specs.cell_nets.Operands.{IsNarrow}
use Rattle.commit_net.specs.declared.target.TakenSlot.{TakenSlot}
use Rattle.read_net.specs.declared.sites.OwnSite.{OwnSite}
use Rattle.read_net.specs.declared.sites.MapNets.{MapNets}
use Rattle.commit_net.specs.declared.map_block.form.MapForm.{MapForm}
use Rattle.turn_net.specs.declared.target_net.targets.Target.{Target}
use Rattle.turn_net.specs.declared.target_net.targets.TargetPart.{TargetPart}
use Rattle.turn_net.specs.TargetNet.Targets.{HasTargets, IsTargets}
use Rattle.turn_net.specs.declared.nets.RecordNets.{RecordNets}
use Rattle.turn_net.specs.Actions.{record_sites}
use Rattle.turn_net.specs.Nets.{sites_of, HasOperands}
use Rattle.pipe_net.specs.declared.parts.Part.{Part}
use Rattle.pipe_net.specs.Parts as part
use Rattle.pipe_parts.specs.declared.pipe_draft.pipeline_plan.PipelinePlan.{PipelinePlan}
use Rattle.pipe_parts.specs.declared.pipe_draft.places.StageSources.{StageSources}
use Rattle.pipe_parts.specs.PipeDraft.PipelinePlan.{program_in, decls_in}
use Rattle.pipe_parts.specs.TurnParts.Sites.{IsNetsAt}

-- ---- the parts that say it, one for each map
abbrev pub IsTargetPart : PipelinePlan → ℕ → MapNets (Name Part) → List (OwnSite (Name Part)) → List (TakenSlot (Name Part)) → MapForm → TargetPart Part → Type 0
IsTargetPart d m map own taken f r = IsTargets (program_in d) m (part.targets d.sizes m) map f.bits own taken r.targets.items (block_of r.block)

pub record AreTargetParts (d : PipelinePlan) (maps : List (MapNets (Name Part))) (own : ℕ → List (OwnSite (Name Part))) (taken : List (TakenSlot (Name Part))) (rs : List (TargetPart Part)) : Type 0 where
  pub count : length rs ≡ length d.forms.items
  pub each : (m : ℕ) (n : MapNets (Name Part)) (f : MapForm) (r : TargetPart Part) → m < length d.forms.items → IsTargetPart d m (get_or maps m n) (own m) taken (get_or d.forms.items m f) (get_or rs m r)

abbrev pub targets_at : List (TargetPart Part) → ℕ → List (Target (Name Part))
targets_at rs m = get_or (map_list (λ r. r.targets.items) rs) m []

-- of each map what these show, for its record sites
pub record HaveTargets (d : PipelinePlan) (own : ℕ → List (OwnSite (Name Part))) (rs : List (TargetPart Part)) : Type 0 where
  pub count : length rs ≡ length d.forms.items
  pub each : (m : ℕ) (f : MapForm) (r : TargetPart Part) → m < length d.forms.items → HasTargets (get_or d.forms.items m f).bits (own m) (get_or rs m r).targets.items

-- ---- what stands for the operations
-- the slot that the operation at site j writes, among those of the sites of its map
pub record IsTargetAt (owns : List (OwnSite (Name Part))) (outs : List (Target (Name Part))) (j : ℕ) (slot : Operand (Name Part)) : Type 0 where
  pub at : ℕ
  pub there : at < length owns
  pub site : (s : OwnSite (Name Part)) → (get_or owns at s).site ≡ j
  pub target : (t : Target (Name Part)) → (get_or outs at t).slot ≡ slot

-- the operation at a site of the program, of operands
pub record IsRecordOf (d : PipelinePlan) (r : RecordNets (Name Part)) : Type 0 where
  pub known : r.number < length (program_in d).sites
  pub act : (site_at (program_in d).sites r.number).act ≡ r.act
  pub decl : decl_of (decls_in d) (site_at (program_in d).sites r.number).map ≡ r.decl.now
  pub operands : HasOperands r
  pub narrow : (f : MapForm) → IsNarrow (get_or d.forms.items (site_at (program_in d).sites r.number).map f).bits r.target

-- those at all record sites, in order
pub record AreRecordsOf (d : PipelinePlan) (rs : List (RecordNets (Name Part))) : Type 0 where
  pub sites : sites_of rs ≡ record_sites (program_in d)
  pub each : All (IsRecordOf d) rs

-- by the operands after a place, and by what the operations on each map write
pub record IsRecordAt (d : PipelinePlan) (b : StageSources) (own : ℕ → List (OwnSite (Name Part))) (outs : ℕ → List (Target (Name Part))) (r : RecordNets (Name Part)) : Type 0 where
  pub of : IsRecordOf d r
  pub nets : IsNetsAt b r.number r.nets.now
  pub target : IsTargetAt (own (site_at (program_in d).sites r.number).map) (outs (site_at (program_in d).sites r.number).map) r.number r.target

pub record AreRecordsAt (d : PipelinePlan) (b : StageSources) (own : ℕ → List (OwnSite (Name Part))) (outs : ℕ → List (Target (Name Part))) (rs : List (RecordNets (Name Part))) : Type 0 where
  pub sites : sites_of rs ≡ record_sites (program_in d)
  pub each : All (IsRecordAt d b own outs) rs
