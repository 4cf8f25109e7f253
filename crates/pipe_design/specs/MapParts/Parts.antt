-- The parts of a map.
use Rattle.std.specs.Prelude.{ℕ, List}
use Rattle.std.proofs.Common.{get_or}
use Rattle.block_core.specs.declared.name.Name.{Name}
use Rattle.block_core.specs.View.{block_of}
use Rattle.overlay_net.specs.cell_nets.declared.operand.Operand.{Operand}
use Rattle.overlay_net.specs.declared.site_operands.SiteNets.{SiteNets}
use Rattle.commit_net.specs.declared.choosing.CommitNets.{CommitNets}
use Rattle.commit_net.specs.declared.change_net.change.ChangePart.{ChangePart}
use Rattle.commit_net.specs.ChangeNet.Written.{IsWritten}
use Rattle.commit_net.specs.ChangeNet.Changes.{IsChange}
use Rattle.commit_net.specs.declared.map_block.form.MapForm.{MapForm}
use Rattle.commit_net.specs.declared.map_block.parts.MapParts.{MapParts}
use Rattle.commit_net.specs.declared.map_block.parts.ControlNets.{ControlNets}
use Rattle.commit_net.specs.MapBlock.Parts.{trees_of}
use Rattle.commit_net.specs.MapBlock.Block.{IsMapBlock}
use Rattle.turn_net.specs.declared.host_net.names.Wire.TheVariants.{Idle, Writes}
use Rattle.turn_net.specs.HostNet.Names.{wire_name}
use Rattle.pipe_net.specs.declared.parts.Part.{Part}
use Rattle.pipe_net.specs.declared.parts.Sizes.{Sizes}
use Rattle.pipe_net.specs.Parts as part
use Rattle.pipe_parts.specs.declared.pipe_draft.pipeline_plan.PipelinePlan.{PipelinePlan}
use Rattle.pipe_parts.specs.PipeDraft.PipelinePlan.{program_in}
use Rattle.pipe_design.specs.declared.map_parts.committing.MapCommits.{MapCommits}
use Rattle.pipe_design.specs.declared.map_parts.parts.PartsOfMap.{PartsOfMap}
use Rattle.pipe_design.specs.MapParts.Operations.{AreOperations}

-- ---- the parts of its table, and what control says of it
abbrev pub parts_in : Sizes → ℕ → MapParts Part
parts_in z m = record { finder = part.finder z m; fetcher = part.fetcher z m; asker = part.asker z m; own = part.own z m }

abbrev pub writes_in : Sizes → Name Part
writes_in z = wire_name (part.host z) Writes

abbrev pub control_in : Sizes → Name Part → ControlNets (Name Part)
control_in z commits = record { commits = commits; writes = writes_in z; idle = wire_name (part.host z) Idle }

-- ---- over operations on a map: the parts of its table and the one of what a clock writes there, and the part of what that changes
pub record ArePartsOver (z : Sizes) (f : MapForm) (commits : Name Part) (operations : List (CommitNets (Name Part))) (r : PartsOfMap) : Type 0 where
  pub map : IsMapBlock f (parts_in z f.number) (control_in z commits) operations (trees_of r.table)
  pub written : IsWritten (part.written z f.number) (part.own z f.number) f.decl f.bits commits r.table.slot r.written.slot r.written.words.items (block_of r.written.block)

abbrev pub IsChangeOver : Sizes → MapForm → Name Part → List (CommitNets (Name Part)) → PartsOfMap → ChangePart (Name Part) → Type 0
IsChangeOver z f commits operations r c =
    IsChange (part.change z f.number) f.number f.decl f.bits operations commits (writes_in z) r.written.slot r.written.words.items c.slot c.key.items c.presence c.any c.by_host (block_of c.block)

-- The parts of map m of a pipeline plan, over what stands for the operations at its record sites.
pub record ArePartsOfMap (d : PipelinePlan) (sites : List (SiteNets (Name Part))) (chosen : List (Operand (Name Part))) (on : MapCommits) (m : ℕ) (r : PartsOfMap) (c : ChangePart (Name Part)) : Type 0 where
  pub operations : List (CommitNets (Name Part))
  pub are : AreOperations (program_in d) sites chosen on.targets.now m operations
  pub parts : (f : MapForm) → ArePartsOver d.sizes (get_or d.forms.items m f) on.commits operations r
  pub change : (f : MapForm) → IsChangeOver d.sizes (get_or d.forms.items m f) on.commits operations r c
