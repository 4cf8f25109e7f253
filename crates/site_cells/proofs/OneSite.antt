-- One site more, with the cells that read it: what a node adds with an operation on a map.
use Rattle.std.proofs.Common.{◌≡◌, ℕ, ◌*◌, ◌<◌, ◌≤◌, ◌⊎◌, inl, inr, List, [], ◌∷◌, ◌++◌, length, length-append, get_or, sym, ◌∙◌, ap, subst, arith}
use Rattle.std.specs.Prelude.{All}
use Rattle.std.proofs.Math.Seq.{get_or-append_seam}
use Rattle.std.proofs.lemmas.Bool.{cases_lt}
use Rattle.std.proofs.lemmas.Option.{slice_get-get_or, slice_get_past}
use Rattle.std.proofs.lemmas.List.Elements.{All-nil, All-cons}
use Rattle.cell_core.specs.xdp_maps.declared.decl.MapDecl.{MapDecl}
use Rattle.cell_core.specs.xdp_maps.State.{no_decl}
use Rattle.kind_core.specs.Kinds.{key_bytes, value_bytes, key_in, value_in}
use Rattle.cell_core.specs.Cells.{CellView}
use Rattle.cell_core.specs.Sites.{SiteView, site_at, no_site}
use Rattle.cell_core.specs.Formed.{FitsMap, IsBelow, HasWords, IsInside}
use Rattle.operator_cells.specs.Making.{GrowsWith, Grows}
use Rattle.operator_cells.proofs.MakingLaws.{grown_with, reads_within, reads_none}
use Rattle.operator_cells.specs.HeldCells.Steps.{ReadsOwn}
use Rattle.site_cells.specs.declared.here.Here.{Here}
use Rattle.site_cells.specs.Siting.{ReadsNext}

-- The site is of this node and behind its guard, it fits its map, and the cells that it takes are there, before those that read it.
pub record AddsSite (decls : List MapDecl) (here : Here) (old new : List CellView) (sites sites2 : List SiteView) (site : SiteView) : Type 0 where
  pub grows : GrowsWith (ReadsOwn sites sites2) old new
  pub own : All (λ (s : SiteView). (s.node ≡ here.node) × (s.guard ≡ here.guard)) (site ∷ [])
  pub fits : All (FitsMap decls) (site ∷ [])
  pub below : All (IsBelow (length new)) (site ∷ [])

-- what is below a number is below later ones
pub below_later : (a b : ℕ) (s : SiteView) → a ≤ b → IsBelow a s → IsBelow b s
below_later a b s le h = record { guard = omega (arith, h.guard, le); key = λ j d l. omega (arith, h.key j d l, le); operands = λ j d l. omega (arith, h.operands j d l, le) }

-- cells that read no site, those that the site takes among them or before, and after them the cells that read it
pub adds_site : (decls : List MapDecl) (here : Here) (old mid new : List CellView) (sites sites2 : List SiteView) (site : SiteView) → Grows old mid → GrowsWith (ReadsNext sites) mid new → sites2 ≡ sites ++ site ∷ []
    → site.node ≡ here.node → site.guard ≡ here.guard → FitsMap decls site → IsBelow (length mid) site → AddsSite decls here old new sites sites2 site
adds_site decls here old mid new sites sites2 site before grows is node guard fits below = record {
  grows = grown_with (ReadsOwn sites sites2) old mid new (reads_none (ReadsOwn sites sites2) old mid before) (reads_within (ReadsNext sites) (ReadsOwn sites sites2) mid new reads grows);
  own = All-cons (λ (s : SiteView). (s.node ≡ here.node) × (s.guard ≡ here.guard)) site [] (node, guard) (All-nil (λ (s : SiteView). (s.node ≡ here.node) × (s.guard ≡ here.guard)));
  fits = All-cons (FitsMap decls) site [] fits (All-nil (FitsMap decls));
  below = All-cons (IsBelow (length new)) site [] (below_later (length mid) (length new) site grows.longer below) (All-nil (IsBelow (length new)));
}
  where
    last : (i j : ℕ) → j ≡ length sites → length sites ≤ i → i ≤ j → site_at sites2 i ≡ site
    last i j e low high = let at : i ≡ length sites = omega (arith, e, low, high) in
        ap (λ (xs : List SiteView). site_at xs i) is ∙ ap (site_at (sites ++ site ∷ [])) at ∙ get_or-append_seam sites site [] no_site

    reads : (c j : ℕ) → length mid ≤ c → j ≡ length sites → ReadsOwn sites sites2 c j
    reads c j behind e = (
      omega (arith, e),
      omega (arith, e, ap length is, length-append sites (site ∷ [])),
      λ i low high. subst (IsBelow c) (sym (last i j e low high)) (below_later (length mid) c site behind below),
    )

-- ---- a site fits its map

pub declared_bytes : (decls : List MapDecl) (q : ℕ) → q < length decls → ((get_or decls q no_decl).key ≡ key_bytes decls q) × ((get_or decls q no_decl).value ≡ value_bytes decls q)
declared_bytes decls q h = let e = slice_get-get_or decls q no_decl h in (sym (ap key_in e), sym (ap value_in e))

-- a map with bytes of values is declared
pub is_declared : (decls : List MapDecl) (q n : ℕ) → 1 ≤ n → n ≤ value_bytes decls q → q < length decls
is_declared decls q n some h = by (cases_lt q (length decls))
  where
    by : (q < length decls) ⊎ (length decls ≤ q) → q < length decls
    by (inl l) = l
    by (inr l) = absurd (omega (arith, some, h, ap value_in (slice_get_past decls q l)))

pub fits_map : (decls : List MapDecl) (s : SiteView) → s.map < length decls → key_bytes decls s.map ≤ 8 * length s.key → HasWords (value_bytes decls s.map) s.act (length s.operands)
    → IsInside (value_bytes decls s.map) s.act → FitsMap decls s
fits_map decls s there key value inside = let e = declared_bytes decls s.map there in record {
  map = there;
  key = omega (arith, e.0, key);
  value = subst (λ (n : ℕ). HasWords n s.act (length s.operands)) (sym e.1) value;
  inside = subst (λ (n : ℕ). IsInside n s.act) (sym e.1) inside;
}
