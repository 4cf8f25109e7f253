-- The parts of marks.
use Rattle.std.specs.Prelude.{◌≡◌, ℕ, zero, suc, ◌<◌, ◌≤◌, ◌==◌, if◌then◌else◌, Some, All, List, length, slice_index, Contains}
use Rattle.std.proofs.Common.{get_or}
use Rattle.block_core.specs.declared.name.Name.{Name}
use Rattle.block_core.specs.declared.name.Name.TheVariants as name
use Rattle.block_core.specs.Blocks.{Whole}
use Rattle.hazard_core.specs.cell_core.Sites.{site_at}
use Rattle.turn_net.specs.cell_nets.declared.operand.Operand.{Operand}
use Rattle.turn_net.specs.cell_nets.declared.operand.Operand.TheVariants.{Known, Net}
use Rattle.read_net.specs.overlay_net.SiteOperands.Sites.{SiteOperands, operands_of}
use Rattle.read_net.specs.declared.touch_net.change.OwnKey.{OwnKey}
use Rattle.read_net.specs.declared.touch_net.marks.MarkNets.{MarkNets}
use Rattle.read_net.specs.TouchNet.Marking.{AreKnown}
use Rattle.read_net.specs.TouchNet.Touching.{key_bytes, IsAmong}
use Rattle.read_net.specs.declared.mark_net.nets.MarkSite.{MarkSite}
use Rattle.read_net.specs.MarkNet.Marks.{IsMarks}
use Rattle.read_net.specs.MarkNet.Sites.{AreMarkSites}
use Rattle.read_net.specs.MarkNet.Reload.{MustReload}
use Rattle.control_net.specs.Names.{wire_name}
use Rattle.control_net.specs.declared.names.Wire.TheVariants.{Advances}
use Rattle.control_net.specs.Returns.{reload_name}
use Rattle.hazard_core.specs.HeldRows.Fits.{IsMadeBefore}
use Rattle.pipe_net.specs.declared.parts.Part.{Part}
use Rattle.pipe_net.specs.Parts as part
use Rattle.pipe_net.specs.Layout.{Layout, program_of, commit_of}
use Rattle.pipe_net.specs.Relation.{read_sites}
use Rattle.pipe_net.specs.Standing.{IsAtPlace}

-- whether packets move on
abbrev pub advances : Layout → Name Part
advances l = wire_name (part.control l.sizes) Advances

-- the register of the mark at the i-th of the sites that have one at a place
abbrev pub mark_register : Layout → ℕ → ℕ → Operand (Name Part)
mark_register l k i = Net (name.Register (part.marks l.sizes k) i) 1

-- A mark at a place: of a site without a register there is none.
pub data IsMarkOf (l : Layout) (k j : ℕ) (mark : Operand (Name Part)) : Type 0 where
  Unread : ¬ Contains (read_sites l k) j → mark ≡ Known 0 → IsMarkOf l k j mark
  Read : (i : ℕ) → i < length (read_sites l k) → slice_index (read_sites l k) i ≡ j → mark ≡ mark_register l k i → IsMarkOf l k j mark

-- the mark at the place before; a packet comes into the first one without marks
abbrev pub IsMarkBefore : Layout → ℕ → ℕ → Operand (Name Part) → Type 0
IsMarkBefore l j zero before = before ≡ Known 0
IsMarkBefore l j (suc k) before = IsMarkOf l k j before

-- the net that says whether a map changes for packets at a place: at the commit place the host alone changes it
abbrev pub comes_by : Layout → ℕ → ℕ → Name Part
comes_by l k m = if k == commit_of l then (l.changes m).by_host else (l.changes m).any

-- the key of an update, as the packet at a place holds it
pub record IsOwnAt (l : Layout) (k : ℕ) (o : OwnKey (Name Part)) : Type 0 where
  pub nets : SiteOperands (Name Part)
  pub at : IsAtPlace l k o.site nets
  pub key : o.key.now ≡ nets.key

-- What the block of marks takes for the i-th site: its cells and the keys of the packet's updates, from the registers of the place; its own register, the mark at the
-- place before, and the change of its map. The updates have keys of the length that those of the map have, and are all such that the packet may have made.
pub record IsMarkAt (l : Layout) (k i : ℕ) (m : MarkSite (Name Part)) : Type 0 where
  pub site : m.site ≡ slice_index (read_sites l k) i
  pub nets : IsAtPlace l k m.site (operands_of m.nets.now)
  pub was : m.was ≡ mark_register l k i
  pub before : IsMarkBefore l m.site k m.before
  pub comes : m.comes ≡ Net (comes_by l k (site_at (program_of l).sites m.site).map) 1
  pub slot : m.change.slot ≡ (l.changes (site_at (program_of l).sites m.site).map).slot
  pub key : m.change.key.now ≡ (l.changes (site_at (program_of l).sites m.site).map).key
  pub presence : m.change.presence ≡ (l.changes (site_at (program_of l).sites m.site).map).presence
  pub owns : All (IsOwnAt l k) m.owns.now
  pub all : (u : ℕ) → IsMadeBefore (program_of l) l.decls l.build.plan.row (suc k) u → key_bytes (program_of l) l.decls u ≡ m.decl.now.key → IsAmong m.owns.now u

-- the register of a mark and the guard of its site, where that is known at the place
pub record IsMarkNets (l : Layout) (k i : ℕ) (m : MarkNets (Name Part)) : Type 0 where
  pub marked : m.marked ≡ mark_register l k i
  pub guard : (g : Operand (Name Part)) → m.guard ≡ Some g → (nets : SiteOperands (Name Part)) × IsAtPlace l k (slice_index (read_sites l k) i) nets × (g ≡ nets.guard)

pub record AreMarksOf (l : Layout) (k : ℕ) (d : Whole Part) : Type 0 where
  pub sites : List (MarkSite (Name Part))
  pub count : length sites ≡ length (read_sites l k)
  pub each : (i : ℕ) (m : MarkSite (Name Part)) → i < length sites → IsMarkAt l k i (get_or sites i m)
  pub are : AreMarkSites (program_of l) l.decls sites
  pub block : IsMarks (program_of l) l.decls (part.marks l.sizes k) (advances l) sites (d.block (part.marks l.sizes k))
  pub reloads : List (MarkNets (Name Part))
  pub known : AreKnown (program_of l) l.build.plan.row k (read_sites l k) reloads
  pub nets : (i : ℕ) (m : MarkNets (Name Part)) → i < length reloads → IsMarkNets l k i (get_or reloads i m)
  pub reload : MustReload (part.reload k) reloads (reload_name l.reload k) (d.block (part.reload k))

abbrev pub AreMarkParts : Layout → Whole Part → Type 0
AreMarkParts l d = (k : ℕ) → k ≤ commit_of l → AreMarksOf l k d
