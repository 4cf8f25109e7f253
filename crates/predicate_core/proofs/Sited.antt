-- Sites of more nodes fit their maps, and reads stand after the cells that the sites take.
use Rattle.std.proofs.Common.{◌≡◌, ℕ, ◌-◌, ◌<◌, ◌≤◌, ◌⊎◌, inl, inr, Some, List, ◌++◌, length, length-append, sym, ◌∙◌, ap, subst, arith}
use Rattle.std.specs.Prelude.{All}
use Rattle.std.proofs.Math.ListN.{get_or-append}
use Rattle.std.proofs.Math.Seq.{get_or-append_right}
use Rattle.std.proofs.lemmas.Bool.{cases_lt}
use Rattle.std.proofs.lemmas.List.Elements.{All-weaker}
use Rattle.xdp_machine.specs.xdp_maps.declared.decl.MapDecl.{MapDecl}
use Rattle.cell_core.specs.Cells.{CellView, cell_at, site_in}
use Rattle.cell_core.specs.Sites.{SiteView, ProgramView, no_site, site_at}
use Rattle.cell_core.specs.Formed.{FitsMap, AreSited, IsBelow}
use Rattle.operator_cells.specs.Making.{GrowsWith}
use Rattle.operator_cells.specs.HeldCells.Paths.{GraphView}
use Rattle.operator_cells.specs.HeldCells.Steps.{ReadsOwn}
use Rattle.predicate_core.specs.Making.{Making, AreLaid}

pub below_later : (n m : ℕ) (s : SiteView) → n ≤ m → IsBelow n s → IsBelow m s
below_later n m s l b = record {
  guard = omega (arith, l, b.guard);
  key = All-weaker (λ i. i < n) (λ i. i < m) (λ i h. omega (arith, l, h)) s.key b.key;
  operands = All-weaker (λ i. i < n) (λ i. i < m) (λ i h. omega (arith, l, h)) s.operands b.operands;
}

-- the sites of nodes that are done take cells that are there
pub below_cells : (g : GraphView) (k : ℕ) (t : Making) → AreLaid g k t → All (IsBelow (length t.cells)) t.sites
below_cells g k t laid i d l = below_later _ (length t.cells) _ (laid.inside _ (laid.low i d l)).2 (laid.below i d l)

-- More cells and sites, where the new cells read new sites alone.
pub sited_more : (decls : List MapDecl) (p q : ProgramView) (more : List SiteView) → GrowsWith (ReadsOwn p.sites q.sites) p.cells q.cells → q.sites ≡ p.sites ++ more
    → All (FitsMap decls) more → All (IsBelow (length p.cells)) p.sites → AreSited decls p → AreSited decls q
sited_more decls p q more grows is fits there sited = record {
  fits = λ j l. fit j l (cases_lt j (length p.sites));
  known = λ k j l reads. known k j l reads (cases_lt k (length p.cells));
  below = λ k j i l reads h. below k j i l reads h (cases_lt k (length p.cells));
}
  where
    count : length q.sites ≡ length (p.sites ++ more)
    count = ap length is

    old : (j : ℕ) → j < length p.sites → site_at q.sites j ≡ site_at p.sites j
    old j l = ap (λ (ss : List SiteView). site_at ss j) is ∙ get_or-append p.sites more no_site j l

    fit : (j : ℕ) → j < length q.sites → (j < length p.sites) ⊎ (length p.sites ≤ j) → FitsMap decls (site_at q.sites j)
    fit j l (inl b) = subst (FitsMap decls) (sym (old j b)) (sited.fits j b)
    fit j l (inr b) = subst (FitsMap decls) (sym (ap (λ (ss : List SiteView). site_at ss j) is ∙ get_or-append_right p.sites more j no_site b))
        (fits (j - length p.sites) no_site (omega (arith, l, b, count, length-append p.sites more)))

    stays : (k j : ℕ) → k < length p.cells → site_in (cell_at q.cells k).op ≡ Some j → site_in (cell_at p.cells k).op ≡ Some j
    stays k j b reads = ap (λ (x : CellView). site_in x.op) (sym (grows.kept k b)) ∙ reads

    known : (k j : ℕ) → k < length q.cells → site_in (cell_at q.cells k).op ≡ Some j → (k < length p.cells) ⊎ (length p.cells ≤ k) → j < length q.sites
    known k j l reads (inl b) = omega (arith, sited.known k j b (stays k j b reads), count, length-append p.sites more)
    known k j l reads (inr b) = (grows.reads k j b l reads).1

    earlier : (k i : ℕ) → length p.cells ≤ k → i < length p.sites → IsBelow k (site_at q.sites i)
    earlier k i b h = subst (IsBelow k) (sym (old i h)) (below_later (length p.cells) k (site_at p.sites i) b (there i no_site h))

    own : (k j i : ℕ) → length p.cells ≤ k → k < length q.cells → site_in (cell_at q.cells k).op ≡ Some j → i ≤ j → (i < length p.sites) ⊎ (length p.sites ≤ i) → IsBelow k (site_at q.sites i)
    own k j i b l reads h (inl o) = earlier k i b o
    own k j i b l reads h (inr o) = (grows.reads k j b l reads).2 i o h

    below : (k j i : ℕ) → k < length q.cells → site_in (cell_at q.cells k).op ≡ Some j → i ≤ j → (k < length p.cells) ⊎ (length p.cells ≤ k) → IsBelow k (site_at q.sites i)
    below k j i l reads h (inl b) =
        let s = stays k j b reads in
        subst (IsBelow k) (sym (old i (omega (arith, h, sited.known k j b s)))) (sited.below k j i b s h)
    below k j i l reads h (inr b) = own k j i b l reads h (cases_lt i (length p.sites))
