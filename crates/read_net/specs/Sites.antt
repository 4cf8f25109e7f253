-- The sites of a packet's own operations on a map, and what stands for them and for the slots of its table.
use Rattle.std.specs.Prelude.{◌≡◌, ℕ, ◌+◌, ◌*◌, ◌^◌, ◌<◌, ◌≤◌, All, List, [], ◌∷◌, ◌++◌, length, map as map_list}
use Rattle.std.proofs.Common.{get_or}
use Rattle.block_core.specs.net_core.Value.{Env}
use Rattle.overlay_net.specs.xdp_maps.Contents.{IsWithinLimits}
use Rattle.overlay_net.specs.xdp_maps.declared.decl.MapDecl.{MapDecl}
use Rattle.overlay_net.specs.xdp_maps.declared.decl.MapKind.TheVariants as kind
use Rattle.overlay_net.specs.cell_core.Sites.{ProgramView, site_at}
use Rattle.pipe_core.specs.hazard_core.Tables.{TableState, decl_of, table_at, used_count}
use Rattle.pipe_core.specs.hazard_core.Tabled.{IsTable}
use Rattle.pipe_core.specs.hazard_core.StageValues.{StageValues}
use Rattle.overlay_net.specs.cell_nets.declared.operand.Operand.{Operand}
use Rattle.overlay_net.specs.cell_nets.Operands.{number_in, IsOperand, IsNarrow}
use Rattle.overlay_net.specs.declared.site_operands.Pending.{Pending}
use Rattle.overlay_net.specs.SiteOperands.Sites.{operands_of, all_of, ShowsSite}
use Rattle.hash_net.specs.SlotNet.Slots.{slots_of, operands_of as slot_operands, IsSlot, ShowSlots}
use Rattle.read_net.specs.declared.sites.OwnSite.{OwnSite}
use Rattle.read_net.specs.declared.sites.MapNets.{MapNets}

-- ---- the operands of a site, of several sites, and of the slots of a map
abbrev pub cells_of : {N : Type 0} → OwnSite N → List (Operand N)
cells_of s = all_of (operands_of s.nets.now)

abbrev pub all_cells : {N : Type 0} → List (OwnSite N) → List (Operand N)
all_cells [] = []
all_cells (s ∷ ss) = cells_of s ++ all_cells ss

abbrev pub slot_cells : {N : Type 0} → MapNets N → List (Operand N)
slot_cells m = m.used ∷ slot_operands (slots_of m.slots.now)

abbrev pub sites_of : {N : Type 0} → List (OwnSite N) → List ℕ
sites_of ss = map_list (λ s. s.site) ss

-- ---- a map within the limits, with bits enough for its pointers, and of a hash with what shows its slots
pub record IsMap {N : Type 0} (m : MapNets N) : Type 0 where
  pub limits : IsWithinLimits m.decl.now
  pub slots : All (IsSlot m.decl.now.key) (slots_of m.slots.now)
  pub used : IsOperand m.used
  pub used_narrow : IsNarrow 17 m.used
  pub few : length m.slots.now ≤ m.decl.now.cap
  pub some : 3 ≤ m.bits
  pub most : m.bits ≤ 34
  pub room : 4 * m.decl.now.cap + 1 < 2 ^ m.bits

-- a site with words enough for a key, whose pointers have no more bits
pub record IsWhole {N : Type 0} (m : MapNets N) (s : OwnSite N) : Type 0 where
  pub operands : All IsOperand (cells_of s)
  pub key : m.decl.now.key ≤ 8 * length s.nets.now.key.items
  pub number : 4 * s.site + 2 < 2 ^ m.bits
  pub found : IsNarrow m.bits s.nets.now.found
  pub pointer : IsNarrow m.bits s.nets.now.pointer

-- ---- in a program it is what stands at its number, on this map
pub record IsOwn {N : Type 0} (p : ProgramView) (m : ℕ) (s : OwnSite N) : Type 0 where
  pub act : (site_at p.sites s.site).act ≡ s.act
  pub map : (site_at p.sites s.site).map ≡ m

-- a site as a read sees it, and several of them
pub record IsSeenOf {N : Type 0} (s : OwnSite N) (d : Pending N) : Type 0 where
  pub act : d.act ≡ s.act
  pub nets : d.nets.now ≡ s.nets.now

pub record AreSeenOf {N : Type 0} (ss : List (OwnSite N)) (ds : List (Pending N)) : Type 0 where
  pub count : length ds ≡ length ss
  pub each : (n : ℕ) (s : OwnSite N) (d : Pending N) → n < length ds → IsSeenOf (get_or ss n s) (get_or ds n d)

-- a map with this declaration, and its table
pub record IsMapOf (t : TableState) (m : ℕ) (d : MapDecl) : Type 0 where
  pub decl : decl_of t.decls m ≡ d
  pub table : IsTable d (table_at t m)

-- ---- operands stand for what it asks, and for all of its cells
abbrev pub ShowsOwn : {N : Type 0} → Env N → ProgramView → StageValues → OwnSite N → Type 0
ShowsOwn v p h s = ShowsSite v p h s.site (operands_of s.nets.now)

-- those of a hash for its slots, and for how many are used; the ones of an array are known
abbrev pub ShowsTable : {N : Type 0} → Env N → TableState → ℕ → MapNets N → Type 0
ShowsTable v t k m = m.decl.now.kind ≡ kind.Hash → ShowSlots v m.decl.now (table_at t k) (slots_of m.slots.now) × (number_in v m.used ≡ used_count (table_at t k))
