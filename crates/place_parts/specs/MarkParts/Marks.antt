-- The part that keeps the marks of the packet at a place.
use Rattle.std.specs.Prelude.{◌≡◌, ◌==◌, ℕ, zero, suc, ◌<◌, if◌then◌else◌, List, length, slice_index, Contains}
use Rattle.std.proofs.Common.{get_or}
use Rattle.block_core.specs.declared.name.Name.{Name}
use Rattle.block_core.specs.Blocks.{BlockTree}
use Rattle.hazard_core.specs.cell_core.Sites.{site_at}
use Rattle.overlay_net.specs.cell_nets.declared.operand.Operand.{Operand}
use Rattle.overlay_net.specs.cell_nets.declared.operand.Operand.TheVariants.{Known, Net}
use Rattle.control_net.specs.Names.{wire_name}
use Rattle.control_net.specs.declared.names.Wire.TheVariants.{Advances}
use Rattle.hazard_core.specs.Tables.{decl_of}
use Rattle.overlay_net.specs.declared.site_operands.SiteNets.{SiteNets}
use Rattle.read_net.specs.declared.touch_net.change.ChangeNets.{ChangeNets}
use Rattle.read_net.specs.TouchNet.Touching.{IsChangeNets}
use Rattle.commit_net.specs.declared.change_net.change.ChangePart.{ChangePart}
use Rattle.commit_net.specs.ChangeNet.Changes.{StandsFor}
use Rattle.read_net.specs.declared.mark_net.nets.MarkSite.{MarkSite}
use Rattle.read_net.specs.MarkNet.Marks.{IsMarks}
use Rattle.read_net.specs.MarkNet.Sites.{AreMarkSites}
use Rattle.pipe_net.specs.declared.parts.Part.{Part}
use Rattle.pipe_net.specs.declared.parts.Sizes.{Sizes}
use Rattle.pipe_net.specs.Parts as part
use Rattle.place_parts.specs.declared.mark_parts.layout.MarkLayout.{MarkLayout}
use Rattle.place_parts.specs.MarkParts.Places.{program_in, reads_in, register_of}
use Rattle.place_parts.specs.MarkParts.Owns.{AreOwns}

-- ---- what changes in each map
pub record HaveChanges (f : MarkLayout) (changes : List (ChangePart (Name Part))) : Type 0 where
  pub count : length changes ≡ length f.decls.now
  pub nets : (m : ℕ) (d : ChangePart (Name Part)) (c : ChangeNets (Name Part)) → m < length changes → StandsFor (get_or changes m d).slot (get_or changes m d).key.items (get_or changes m d).presence c → IsChangeNets (decl_of f.decls.now m).key c

abbrev pub comes_by : Sizes → ℕ → ChangePart (Name Part) → Name Part
comes_by z k c = if k == z.commit then c.by_host else c.any

-- ---- the mark at the place before
-- A mark at a place: of a site without a register there is none.
pub data IsMarkOf (f : MarkLayout) (k j : ℕ) (mark : Operand (Name Part)) : Type 0 where
  Unread : ¬ Contains (reads_in f k) j → mark ≡ Known 0 → IsMarkOf f k j mark
  Read : (i : ℕ) → i < length (reads_in f k) → slice_index (reads_in f k) i ≡ j → mark ≡ register_of f.sizes k i → IsMarkOf f k j mark

-- the mark at the place before; a packet comes into the first one without marks
abbrev pub IsMarkBefore : MarkLayout → ℕ → ℕ → Operand (Name Part) → Type 0
IsMarkBefore f j zero before = before ≡ Known 0
IsMarkBefore f j (suc k) before = IsMarkOf f k j before

-- ---- what the block takes
-- the change of the map of a site, for the packet at a place
pub record IsChangeOf (z : Sizes) (k : ℕ) (c : ChangePart (Name Part)) (m : MarkSite (Name Part)) : Type 0 where
  pub comes : m.comes ≡ Net (comes_by z k c) 1
  pub change : StandsFor c.slot c.key.items c.presence m.change

-- For the i-th of the sites at which the packet has read: its operands, its own register, the mark at the place before, the change of its map and the keys of the packet's updates.
pub record IsMark (f : MarkLayout) (sites : List (SiteNets (Name Part))) (changes : List (ChangePart (Name Part))) (k i : ℕ) (m : MarkSite (Name Part)) : Type 0 where
  pub site : m.site ≡ slice_index (reads_in f k) i
  pub known : m.site < length (program_in f).sites
  pub map_known : (site_at (program_in f).sites m.site).map < length changes
  pub act : m.act ≡ (site_at (program_in f).sites m.site).act
  pub decl : m.decl.now ≡ decl_of f.decls.now (site_at (program_in f).sites m.site).map
  pub nets : (s : SiteNets (Name Part)) → m.nets.now ≡ get_or sites m.site s
  pub was : m.was ≡ register_of f.sizes k i
  pub before : IsMarkBefore f m.site k m.before
  pub change : (c : ChangePart (Name Part)) → IsChangeOf f.sizes k (get_or changes (site_at (program_in f).sites m.site).map c) m
  pub owns : AreOwns f sites m.decl.now.key m.owns.now

pub record AreMarks (f : MarkLayout) (sites : List (SiteNets (Name Part))) (changes : List (ChangePart (Name Part))) (k : ℕ) (ms : List (MarkSite (Name Part))) : Type 0 where
  pub count : length ms ≡ length (reads_in f k)
  pub each : (i : ℕ) (m : MarkSite (Name Part)) → i < length ms → IsMark f sites changes k i (get_or ms i m)

abbrev pub advances_by : Sizes → Name Part
advances_by z = wire_name (part.control z) Advances

pub record IsMarksPart (f : MarkLayout) (sites : List (SiteNets (Name Part))) (changes : List (ChangePart (Name Part))) (k : ℕ) (b : BlockTree (Name Part)) : Type 0 where
  pub marks : List (MarkSite (Name Part))
  pub are : AreMarks f sites changes k marks
  pub of_sites : AreMarkSites (program_in f) f.decls.now marks
  pub is : IsMarks (program_in f) f.decls.now (part.marks f.sizes k) (advances_by f.sizes) marks b
