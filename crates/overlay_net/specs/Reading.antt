-- What a site is, and the nets of what it finds on the tables.
use Rattle.std.specs.Prelude.{◌≡◌, ℕ, List}
use Rattle.block_core.specs.net_core.Value.{Env}
use Rattle.hazard_core.specs.xdp_maps.declared.decl.MapDecl.{MapDecl}
use Rattle.hazard_core.specs.cell_core.declared.site.Act.{Act}
use Rattle.hazard_core.specs.cell_core.Sites.{ProgramView, site_at}
use Rattle.hazard_core.specs.Tables.{TableState, decl_of, table_at}
use Rattle.hazard_core.specs.StageValues.{StageValues, asked_key, slot_pointer}
use Rattle.hazard_core.specs.Overlay.{key_pointer}
use Rattle.cell_nets.specs.declared.operand.Operand.{Operand}
use Rattle.cell_nets.specs.Operands.{number_in}
use Rattle.overlay_net.specs.SiteOperands.Pointers.{pointer_number}

-- what site j of a program does, and the declaration of its map
pub record IsSite (p : ProgramView) (decls : List MapDecl) (j : ℕ) (a : Act) (d : MapDecl) : Type 0 where
  pub act : (site_at p.sites j).act ≡ a
  pub decl : decl_of decls (site_at p.sites j).map ≡ d

-- an operand stands for the slot that is used under the key of a site
abbrev pub ShowsSlot : {N : Type 0} → Env N → ProgramView → TableState → StageValues → ℕ → Operand N → Type 0
ShowsSlot v p t h j slot = number_in v slot ≡ pointer_number (slot_pointer (table_at t (site_at p.sites j).map) (asked_key t.decls h (site_at p.sites j)))

-- and for the entry under it over the packet's operations at some sites
abbrev pub ShowsKey : {N : Type 0} → Env N → ProgramView → TableState → StageValues → List ℕ → ℕ → Operand N → Type 0
ShowsKey v p t h before j key = number_in v key ≡ pointer_number (key_pointer p t h before j)
