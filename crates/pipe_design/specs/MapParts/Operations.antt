-- What other parts say of the operations of a program that commit, and what stands for those on a map.
use Rattle.std.specs.Prelude.{◌≡◌, ℕ, ◌<◌, All, List, length, slice_index}
use Rattle.std.proofs.Common.{get_or}
use Rattle.block_core.specs.declared.name.Name.{Name}
use Rattle.hazard_core.specs.cell_core.Sites.{ProgramView, site_at}
use Rattle.overlay_net.specs.cell_nets.declared.operand.Operand.{Operand}
use Rattle.overlay_net.specs.cell_nets.Operands.{IsOperand}
use Rattle.overlay_net.specs.declared.site_operands.SiteNets.{SiteNets}
use Rattle.commit_net.specs.declared.choosing.CommitNets.{CommitNets}
use Rattle.turn_net.specs.Actions.{record_sites}
use Rattle.turn_net.specs.declared.target_net.targets.Target.{Target}
use Rattle.turn_net.specs.TargetNet.Targets.{all_of}
use Rattle.pipe_net.specs.declared.parts.Part.{Part}
use Rattle.pipe_net.specs.PipeTurns.Maps.{records_on}
use Rattle.pipe_parts.specs.declared.pipe_draft.pipeline_plan.PipelinePlan.{PipelinePlan}
use Rattle.pipe_parts.specs.PipeDraft.PipelinePlan.{program_in, decls_in}
use Rattle.pipe_design.specs.declared.map_parts.committing.MapCommits.{MapCommits}
use Rattle.pipe_design.specs.declared.map_parts.committing.Committing.{Committing}

-- ---- what is said of operations: one operand for each record site, and what each of those on a map writes
pub record AreChosen (p : ProgramView) (chosen : List (Operand (Name Part))) : Type 0 where
  pub count : length chosen ≡ length (record_sites p)
  pub operands : All IsOperand chosen

pub record AreTargetsOn (p : ProgramView) (m : ℕ) (targets : List (Target (Name Part))) : Type 0 where
  pub count : length targets ≡ length (records_on p m)
  pub operands : All IsOperand (all_of targets)

pub record IsCommitting (d : PipelinePlan) (c : Committing) : Type 0 where
  pub chosen : AreChosen (program_in d) c.chosen.now
  pub maps : length c.maps.now ≡ length (decls_in d)
  pub targets : (m : ℕ) (x : MapCommits) → m < length (decls_in d) → AreTargetsOn (program_in d) m (get_or c.maps.now m x).targets.now

-- ---- What stands for the operation at the n-th record site of map m: the operands of its site, what it writes, and by its place among the records of all maps whether it
-- commits.
pub record IsOperation (p : ProgramView) (sites : List (SiteNets (Name Part))) (chosen : List (Operand (Name Part))) (targets : List (Target (Name Part))) (m n : ℕ) (c : CommitNets (Name Part)) : Type 0 where
  pub act : c.act ≡ (site_at p.sites (slice_index (records_on p m) n)).act
  pub nets : (s : SiteNets (Name Part)) → c.nets.now ≡ get_or sites (slice_index (records_on p m) n) s
  pub target : (t : Target (Name Part)) → c.target ≡ (get_or targets n t).slot
  pub makes : (t : Target (Name Part)) → c.makes ≡ (get_or targets n t).makes
  pub place : ℕ
  pub there : place < length (record_sites p)
  pub site : slice_index (record_sites p) place ≡ slice_index (records_on p m) n
  pub chosen_is : (o : Operand (Name Part)) → c.chosen ≡ get_or chosen place o

pub record AreOperations (p : ProgramView) (sites : List (SiteNets (Name Part))) (chosen : List (Operand (Name Part))) (targets : List (Target (Name Part))) (m : ℕ) (all : List (CommitNets (Name Part))) : Type 0 where
  pub count : length all ≡ length (records_on p m)
  pub each : (n : ℕ) (c : CommitNets (Name Part)) → n < length all → IsOperation p sites chosen targets m n (get_or all n c)
