-- The part of a place that says whether its packet must reload.
use Rattle.std.specs.Prelude.{◌≡◌, ℕ, ◌<◌, is_some, Option, Some, List, length, slice_index}
use Rattle.std.proofs.Common.{get_or}
use Rattle.block_core.specs.declared.name.Name.{Name}
use Rattle.block_core.specs.Blocks.{BlockTree}
use Rattle.hazard_core.specs.cell_core.Sites.{site_at}
use Rattle.overlay_net.specs.cell_nets.declared.operand.Operand.{Operand}
use Rattle.hazard_core.specs.Marks.{is_known}
use Rattle.overlay_net.specs.declared.site_operands.SiteNets.{SiteNets}
use Rattle.read_net.specs.declared.touch_net.marks.MarkNets.{MarkNets}
use Rattle.read_net.specs.MarkNet.Reload.{MustReload}
use Rattle.pipe_net.specs.declared.parts.Part.{Part}
use Rattle.pipe_net.specs.Parts as part
use Rattle.place_parts.specs.declared.mark_parts.layout.MarkLayout.{MarkLayout}
use Rattle.place_parts.specs.MarkParts.Places.{program_in, rows_in, reads_in, register_of}

-- the guard of site j, where it is known at a place
pub record IsGuard (f : MarkLayout) (sites : List (SiteNets (Name Part))) (k j : ℕ) (guard : Option (Operand (Name Part))) : Type 0 where
  pub known : is_known (rows_in f) k (site_at (program_in f).sites j) ≡ is_some guard
  pub is : (g : Operand (Name Part)) (s : SiteNets (Name Part)) → guard ≡ Some g → g ≡ (get_or sites j s).guard

-- the register of the i-th mark, and the guard of its site
pub record IsMarkNets (f : MarkLayout) (sites : List (SiteNets (Name Part))) (k i : ℕ) (m : MarkNets (Name Part)) : Type 0 where
  pub marked : m.marked ≡ register_of f.sizes k i
  pub guard : IsGuard f sites k (slice_index (reads_in f k) i) m.guard

pub record AreMarkNets (f : MarkLayout) (sites : List (SiteNets (Name Part))) (k : ℕ) (reloads : List (MarkNets (Name Part))) : Type 0 where
  pub count : length reloads ≡ length (reads_in f k)
  pub each : (i : ℕ) (m : MarkNets (Name Part)) → i < length reloads → IsMarkNets f sites k i (get_or reloads i m)

pub record IsReloadPart (f : MarkLayout) (sites : List (SiteNets (Name Part))) (k : ℕ) (reload : Name Part) (b : BlockTree (Name Part)) : Type 0 where
  pub reloads : List (MarkNets (Name Part))
  pub are : AreMarkNets f sites k reloads
  pub is : MustReload (part.reload k) reloads reload b
