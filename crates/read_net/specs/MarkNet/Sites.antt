-- The sites whose marks are kept, and when operands stand for them.
use Rattle.std.specs.Prelude.{◌≡◌, ◌==◌, ℕ, ◌*◌, ◌≤◌, Bool, true, false, Option, Some, None, All, List, [], ◌∷◌, ◌++◌, length}
use Rattle.block_core.specs.net_core.Value.{Env}
use Rattle.overlay_net.specs.xdp_maps.declared.decl.MapDecl.{MapDecl}
use Rattle.overlay_net.specs.cell_core.Cells.{bit}
use Rattle.overlay_net.specs.cell_core.Sites.{ProgramView, site_at}
use Rattle.overlay_net.specs.hazard_core.StageValues.{StageValues, access_pointer}
use Rattle.overlay_net.specs.hazard_core.declared.change.Change.{Change}
use Rattle.overlay_net.specs.hazard_core.Marks.{touches}
use Rattle.overlay_net.specs.cell_nets.declared.operand.Operand.{Operand}
use Rattle.overlay_net.specs.cell_nets.declared.operand.Operand.TheVariants.{Net}
use Rattle.overlay_net.specs.cell_nets.Operands.{number_in, IsOperand}
use Rattle.overlay_net.specs.SiteOperands.Sites.{operands_of, all_of, ShowsSite}
use Rattle.overlay_net.specs.Reading.{IsSite}
use Rattle.read_net.specs.TouchNet.Touching.{change_operands, own_operands, reads_entry, IsChangeNets, IsOwnKey, HaveKeys, ShowsChange, ShowsOwn, IsMade}
use Rattle.read_net.specs.declared.mark_net.nets.MarkSite.{MarkSite}

-- ---- the operands of them
abbrev pub read_operands : {N : Type 0} → MarkSite N → List (Operand N)
read_operands m = all_of (operands_of m.nets.now) ++ (change_operands m.change ++ own_operands m.owns.now)

abbrev pub site_operands : {N : Type 0} → MarkSite N → List (Operand N)
site_operands m = m.was ∷ m.before ∷ m.comes ∷ read_operands m

abbrev pub all_operands : {N : Type 0} → List (MarkSite N) → List (Operand N)
all_operands [] = []
all_operands (m ∷ ms) = site_operands m ++ all_operands ms

-- what the block takes from outside: these, and whether packets move on
abbrev pub outside : {N : Type 0} → N → List (MarkSite N) → List (Operand N)
outside advance ms = Net advance 1 ∷ all_operands ms

pub record HasOperands {N : Type 0} (m : MarkSite N) : Type 0 where
  pub was : IsOperand m.was
  pub before : IsOperand m.before
  pub comes : IsOperand m.comes
  pub cells : All IsOperand (all_of (operands_of m.nets.now))
  pub words : m.decl.now.key ≤ 8 * length m.nets.now.key.items
  pub owns : All (IsOwnKey m.decl.now.key) m.owns.now
  pub change : IsChangeNets m.decl.now.key m.change

-- ---- they are sites of a program, and the keys are those of updates of maps with keys of the same length
pub record IsMarkSite {N : Type 0} (p : ProgramView) (decls : List MapDecl) (m : MarkSite N) : Type 0 where
  pub site : IsSite p decls m.site m.act m.decl.now
  pub owns : HaveKeys p decls m.decl.now.key m.owns.now

abbrev pub AreMarkSites : {N : Type 0} → ProgramView → List MapDecl → List (MarkSite N) → Type 0
AreMarkSites p decls ms = All (IsMarkSite p decls) ms

-- ---- the change of a clock, if there is one
abbrev pub changes_map : ProgramView → ℕ → Option Change → Bool
changes_map p j None = false
changes_map p j (Some e) = (site_at p.sites j).map == e.map

abbrev pub is_touched : ProgramView → List MapDecl → StageValues → ℕ → Option Change → Bool
is_touched p decls h j None = false
is_touched p decls h j (Some e) = touches p decls h j e

-- ---- The operands stand for the cells that a packet holds, and for a change where it is one of the site's map. A pointer of an access to an entry that an
-- update is to make is to that of one of the updates whose keys are given, if its key has that length.
pub record ShowsMarkSite {N : Type 0} (v : Env N) (p : ProgramView) (decls : List MapDecl) (h : StageValues) (e : Option Change) (m : MarkSite N) : Type 0 where
  pub cells : ShowsSite v p h m.site (operands_of m.nets.now)
  pub comes : number_in v m.comes ≡ bit (changes_map p m.site e)
  pub change : (x : Change) → e ≡ Some x → (site_at p.sites m.site).map ≡ x.map → ShowsChange v m.decl.now.key x m.change
  pub owns : ShowsOwn v p h m.owns.now
  pub made : reads_entry m.act ≡ true → IsMade p decls m.decl.now.key (access_pointer h (site_at p.sites m.site)) m.owns.now

abbrev pub ShowMarkSites : {N : Type 0} → Env N → ProgramView → List MapDecl → StageValues → Option Change → List (MarkSite N) → Type 0
ShowMarkSites v p decls h e ms = All (ShowsMarkSite v p decls h e) ms
