-- The parts of marks of a pipeline that is laid out so.
use Rattle.std.specs.Prelude.{◌≡◌, ℕ, ◌<◌, ◌≤◌, List, length}
use Rattle.std.proofs.Common.{get_or}
use Rattle.block_core.specs.declared.name.Name.{Name}
use Rattle.block_core.specs.Blocks.{Whole}
use Rattle.overlay_net.specs.declared.site_operands.SiteNets.{SiteNets}
use Rattle.overlay_net.specs.SiteOperands.Sites.{operands_of}
use Rattle.commit_net.specs.declared.change_net.change.ChangePart.{ChangePart}
use Rattle.control_net.specs.Returns.{reload_name}
use Rattle.pipe_net.specs.declared.parts.Part.{Part}
use Rattle.pipe_net.specs.Parts as part
use Rattle.pipe_net.specs.Layout.{Layout, program_of, commit_of}
use Rattle.pipe_net.specs.Standing.{IsAtPlace}
use Rattle.pipe_net.specs.PipeMarks.Parts.{AreMarksOf}
use Rattle.place_parts.specs.declared.mark_parts.layout.MarkLayout.{MarkLayout}
use Rattle.place_parts.specs.MarkParts.Places.{program_in, rows_in}
use Rattle.place_parts.specs.MarkParts.Reload.{IsReloadPart}
use Rattle.place_parts.specs.MarkParts.Marks.{IsMarksPart}

-- a pipeline that is laid out for the same program
pub record IsFor (l : Layout) (f : MarkLayout) : Type 0 where
  pub program : program_of l ≡ program_in f
  pub rows : l.build.plan.row ≡ rows_in f
  pub decls : l.decls ≡ f.decls.now
  pub sizes : l.sizes ≡ f.sizes
  pub commit : commit_of l ≡ f.sizes.commit

-- what changes in a map is what the pipeline has for it
pub record IsChangeIn (l : Layout) (m : ℕ) (c : ChangePart (Name Part)) : Type 0 where
  pub slot : (l.changes m).slot ≡ c.slot
  pub key : (l.changes m).key ≡ c.key.items
  pub presence : (l.changes m).presence ≡ c.presence
  pub any : (l.changes m).any ≡ c.any
  pub by_host : (l.changes m).by_host ≡ c.by_host

-- Its parts of marks at a place are such, where the operands of sites are those there, and the changes those of its maps.
abbrev pub PartsAreOfMarks : Type 0
PartsAreOfMarks =
    (l : Layout) (f : MarkLayout) (d : Whole Part) (k : ℕ) (sites : List (SiteNets (Name Part))) (changes : List (ChangePart (Name Part))) → IsFor l f → k ≤ commit_of l
    → ((j : ℕ) (s : SiteNets (Name Part)) → j < length (program_of l).sites → IsAtPlace l k j (operands_of (get_or sites j s))) → ((m : ℕ) (c : ChangePart (Name Part)) → m < length l.decls → IsChangeIn l m (get_or changes m c))
    → length sites ≡ length (program_of l).sites → length changes ≡ length l.decls
    → IsReloadPart f sites k (reload_name l.reload k) (d.block (part.reload k)) → IsMarksPart f sites changes k (d.block (part.marks l.sizes k)) → AreMarksOf l k d
