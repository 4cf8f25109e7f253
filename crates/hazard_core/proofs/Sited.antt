-- The sites and the declarations in memory as they are read.
use Rattle.std.proofs.Common.{◌≡◌, ◌∙◌, ℕ, ◌<◌, List, length, get_or, sym, ap, subst, arith, map as map_list}
use Rattle.std.proofs.lemmas.List.{get_or-map, length-map}
use Rattle.xdp_maps.specs.declared.decl.MapDecl.{MapDecl}
use Rattle.cell_core.specs.Formed.{AllFit, FitsMap}
use Rattle.cell_core.specs.declared.site.Site.{Site}
use Rattle.cell_core.specs.declared.cell.Cell.{Cell}
use Rattle.cell_core.specs.Cells.{no_cell, cell_at}
use Rattle.cell_core.specs.Sites.{SiteView, site_at, no_site}
use Rattle.cell_core.specs.View.{site_of, cell_of}

pub site_read : (ss : List Site) (i : ℕ) (s : Site) → i < length ss → s ≡ get_or ss i s → site_of s ≡ site_at (map_list site_of ss) i
site_read ss i s h e = sym (get_or-map site_of ss i s no_site h ∙ ap site_of (sym e))

pub cell_read : (cs : List Cell) (i : ℕ) (c : Cell) → i < length cs → c ≡ get_or cs i c → cell_of c ≡ cell_at (map_list cell_of cs) i
cell_read cs i c h e = sym (get_or-map cell_of cs i c no_cell h ∙ ap cell_of (sym e))

pub site_fits : (decls : List MapDecl) (ss : List Site) (i : ℕ) (s : Site) → i < length ss → s ≡ get_or ss i s → AllFit decls (map_list site_of ss) → FitsMap decls (site_of s)
site_fits decls ss i s h e fit =
    let P : SiteView → Type 0 = λ v. FitsMap decls v in
    subst P (sym (site_read ss i s h e)) (fit i (omega (arith, length-map ss site_of, h)))
