-- What stands at a place for sites and maps.
use Rattle.std.specs.Prelude.{◌≡◌, ℕ, ◌<◌, All, List, length, map as map_list}
use Rattle.std.proofs.Common.{get_or}
use Rattle.hazard_core.specs.xdp_maps.declared.decl.MapDecl.{MapDecl}
use Rattle.hazard_core.specs.cell_core.Sites.{ProgramView, site_at}
use Rattle.overlay_net.specs.cell_nets.declared.operand.Operand.{Operand}
use Rattle.overlay_net.specs.cell_nets.Operands.{IsOperand, IsNarrow, IsAvailable}
use Rattle.overlay_net.specs.declared.site_operands.SiteNets.{SiteNets}
use Rattle.overlay_net.specs.SiteOperands.Sites.{operands_of, all_of}
use Rattle.read_net.specs.declared.sites.OwnSite.{OwnSite}
use Rattle.read_net.specs.declared.sites.MapNets.{MapNets}
use Rattle.read_net.specs.Sites.{slot_cells, IsMap}
use Rattle.stage_net.specs.declared.row.StageNets.{StageNets}

-- an operation as it stands in the program, with the operands of its site
pub record IsOwnOf {N : Type 0} (p : ProgramView) (sites : List (SiteNets N)) (s : OwnSite N) : Type 0 where
  pub site : s.site < length p.sites
  pub act : (site_at p.sites s.site).act ≡ s.act
  pub nets : s.nets.now ≡ get_or sites s.site s.nets.now

-- the declarations of maps
abbrev pub decls_of : {N : Type 0} → List (MapNets N) → List MapDecl
decls_of maps = map_list (λ m. m.decl.now) maps

-- Operands of a site: as many words of a key and operands as in the program, and pointers of no more than so many bits.
pub record IsSiteNets {N : Type 0} (p : ProgramView) (bits j : ℕ) (s : SiteNets N) : Type 0 where
  pub operands : All IsOperand (all_of (operands_of s))
  pub key : length s.key.items ≡ length (site_at p.sites j).key
  pub words : length s.operands.items ≡ length (site_at p.sites j).operands
  pub found : IsNarrow bits s.found
  pub pointer : IsNarrow bits s.pointer

-- what stands for a map whose pointers have so many bits
pub record IsMapNets {N : Type 0} (bits : ℕ) (m : MapNets N) : Type 0 where
  pub is : IsMap m
  pub same : m.bits ≡ bits

-- So of all sites and maps; a word stands for each site.
pub record AreNets {N : Type 0} (p : ProgramView) (nets : StageNets N) : Type 0 where
  pub count : length nets.sites.now ≡ length p.sites
  pub sites : (j : ℕ) (d : SiteNets N) → j < length p.sites → IsSiteNets p nets.bits j (get_or nets.sites.now j d)
  pub maps : All (IsMapNets nets.bits) nets.maps.now
  pub word_count : length nets.words.now ≡ length p.sites
  pub words : All IsOperand nets.words.now

-- All of them are numbers or among these operands.
pub record NetsAreThere {N : Type 0} (ins : List (Operand N)) (nets : StageNets N) : Type 0 where
  pub sites : All (λ s. All (IsAvailable ins) (all_of (operands_of s))) nets.sites.now
  pub maps : All (λ m. All (IsAvailable ins) (slot_cells m)) nets.maps.now
  pub words : All (IsAvailable ins) nets.words.now
