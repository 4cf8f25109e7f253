-- The parts of actions that are made for a pipeline plan.
use Rattle.std.specs.Prelude.{◌≡◌, ℕ, ◌<◌, List, length}
use Rattle.std.proofs.Common.{get_or}
use Rattle.net_core.specs.Nets.{Tree}
use Rattle.block_core.specs.declared.name.Name.{Name}
use Rattle.block_core.specs.Blocks.{BlockTree}
use Rattle.block_core.specs.View.{block_of}
use Rattle.overlay_net.specs.cell_nets.declared.operand.Operand.{Operand}
use Rattle.control_net.specs.declared.ring_net.shape.ControlShape.{ControlShape}
use Rattle.read_net.specs.declared.sites.OwnSite.{OwnSite}
use Rattle.read_net.specs.declared.sites.MapNets.{MapNets}
use Rattle.commit_net.specs.declared.map_block.form.MapForm.{MapForm}
use Rattle.commit_net.specs.MapBlock.Stored.{host_may}
use Rattle.turn_net.specs.HostNet.Host.{may_tree, IsHost}
use Rattle.turn_net.specs.TargetNet.Commits.{AreMaps, IsCommits}
use Rattle.turn_net.specs.declared.nets.RecordNets.{RecordNets}
use Rattle.turn_net.specs.declared.nets.Action.{Action}
use Rattle.turn_net.specs.declared.nets.ActionShape.{ActionShape}
use Rattle.turn_net.specs.Nets.{AreRecords}
use Rattle.turn_net.specs.Action.{IsAction}
use Rattle.pipe_net.specs.declared.parts.Part.{Part}
use Rattle.pipe_net.specs.Parts as part
use Rattle.pipe_parts.specs.declared.pipe_draft.pipeline_plan.PipelinePlan.{PipelinePlan}
use Rattle.pipe_parts.specs.declared.pipe_draft.places.StageSources.{StageSources}
use Rattle.pipe_parts.specs.PipeDraft.PipelinePlan.{program_in, decls_in}
use Rattle.pipe_parts.specs.declared.turn_parts.parts.ActionParts.{ActionParts}
use Rattle.pipe_parts.specs.TurnParts.Sites.{AreOwnOf, IsActionShape, taken_in}
use Rattle.pipe_parts.specs.TurnParts.Nets.{idle_of, host_nets_of, action_nets_of}
use Rattle.pipe_parts.specs.TurnParts.Records.{AreTargetParts, targets_at, AreRecordsAt}

-- ---- the part that says what the host may do, by what each map lets it write
pub record AreMay (d : PipelinePlan) (may : List (Tree (Name Part))) : Type 0 where
  pub count : length may ≡ length d.forms.items
  pub each : (m : ℕ) (f : MapForm) → m < length d.forms.items → may_tree may m ≡ host_may (get_or d.forms.items m f) (part.own d.sizes m) (idle_of d.sizes)

pub record IsHostPart (d : PipelinePlan) (b : BlockTree (Name Part)) : Type 0 where
  pub may : List (Tree (Name Part))
  pub are : AreMay d may
  pub is : IsHost (part.host d.sizes) (host_nets_of d.sizes) may b

-- ---- the one that says which operation commits
pub record IsActionPart (d : PipelinePlan) (c : ControlShape) (s : ActionShape) (rs : List (RecordNets (Name Part))) (t : Action Part) : Type 0 where
  pub records : AreRecords (program_in d) (decls_in d) rs
  pub is : IsAction (program_in d) (decls_in d) (part.action d.sizes) s (action_nets_of d.sizes c) rs (block_of t.block) t.chosen.items t.commits t.stays

-- ---- the one that says on which map it is
pub record IsCommitsPart (d : PipelinePlan) (rs : List (RecordNets (Name Part))) (chosen : List (Operand (Name Part))) (nets : List (Name Part)) (b : BlockTree (Name Part)) : Type 0 where
  pub numbers : List ℕ
  pub are : AreMaps (program_in d) numbers rs
  pub is : IsCommits (part.commits d.sizes) (length d.forms.items) numbers chosen nets b

-- ---- all of them, by the operands of sites after the commit place and by what stands for the maps
pub record AreActionPartsIn (d : PipelinePlan) (c : ControlShape) (b : StageSources) (maps : List (MapNets (Name Part))) (r : ActionParts) : Type 0 where
  pub own : ℕ → List (OwnSite (Name Part))
  pub owns : (m : ℕ) → m < length d.forms.items → AreOwnOf d b m (own m)
  pub shape : IsActionShape d r.action_shape
  pub targets : AreTargetParts d maps own (taken_in d r.action_shape) r.targets.items
  pub records : AreRecordsAt d b own (targets_at r.targets.items) r.records.items
  pub action : IsActionPart d c r.action_shape r.records.items r.action
  pub commits : IsCommitsPart d r.records.items r.action.chosen.items r.commits.commits.items (block_of r.commits.block)
  pub host : IsHostPart d (block_of r.host)
