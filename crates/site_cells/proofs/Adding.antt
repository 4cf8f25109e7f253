-- One site more, and what its cells read.
use Rattle.std.proofs.Common.{◌≡◌, ℕ, ◌<◌, ◌≤◌, ◌⊎◌, inl, inr, true, Some, List, [], ◌∷◌, ◌++◌, length, length-append, take, get_or, refl, sym, ◌∙◌, ap, subst, arith}
use Rattle.std.proofs.Math.ListN.{get_or-append}
use Rattle.std.proofs.Math.Seq.{get_or-append_seam}
use Rattle.std.specs.Prelude.{All}
use Rattle.std.proofs.lemmas.Bool.{cases_lt}
use Rattle.std.proofs.lemmas.List.{take_all, take-append-le, length-map, get_or-map}
use Rattle.std.proofs.lemmas.List.Elements.{All-append, All-push}
use Rattle.cell_core.specs.xdp_maps.State.{MapState}
use Rattle.cell_core.specs.declared.operator.Operator.{Operator}
use Rattle.cell_core.specs.declared.site.Site.{Site}
use Rattle.cell_core.specs.declared.site.Act.{Act}
use Rattle.cell_core.specs.Cells.{CellView, cell_at, no_cell, site_in, bits_from, on}
use Rattle.cell_core.specs.Sites.{SiteView, site_at, no_site, applied, after, read_on}
use Rattle.cell_core.specs.View.{site_of}
use Rattle.operator_cells.specs.Making.{Adds, GrowsWith}
use Rattle.operator_cells.specs.declared.held_cells.machine_cells.Pointer.{Pointer}
use Rattle.operator_cells.specs.HeldCells.RegisterCells.{PointerView, pointer_of, pointed, pointer_at, no_pointer}
use Rattle.operator_cells.specs.HeldCells.Steps.{AreRead}
use Rattle.site_cells.specs.Sited.{sited}
use Rattle.site_cells.specs.Siting.{IsReadOf}
use Rattle.site_cells.proofs.SitedLaws.{sited_length}

-- ---- in memory

pub sited_more : (sites : List Site) (s : Site) → sited (sites ++ s ∷ []) ≡ sited sites ++ site_of s ∷ []
unfolding sited
sited_more [] s = refl
sited_more (r ∷ sites) s = ap (λ (xs : List SiteView). site_of r ∷ xs) (sited_more sites s)

pub pointed_next : (ps qs : List Pointer) (p : Pointer) → qs ≡ ps ++ p ∷ [] → pointed qs ≡ pointed ps ++ pointer_of p ∷ []
unfolding pointed
pointed_next ps qs p e = ap pointed e ∙ by ps
  where
    by : (xs : List Pointer) → pointed (xs ++ p ∷ []) ≡ pointed xs ++ pointer_of p ∷ []
    by [] = refl
    by (x ∷ xs) = ap (λ (ys : List PointerView). pointer_of x ∷ ys) (by xs)

pub pointed_count : (ps : List Pointer) (n : ℕ) → n ≡ length ps → n ≡ length (pointed ps)
unfolding pointed
pointed_count ps n e = e ∙ sym (length-map ps pointer_of)

-- ---- what is added

pub read_added : (old new : List CellView) (c : ℕ) (op : Operator) (ins are : List ℕ) (width : ℕ) → Adds old new c (record { op = op; ins = ins; width = width; from = 0 }) → ins ≡ are
    → IsReadOf new c op are width
read_added old new c op ins are width adds e = record {
  there = omega (arith, adds.at, ap length adds.is, length-append old ((record { op = op; ins = ins; width = width; from = 0 }) ∷ []));
  is = ap (λ (cells : List CellView). cell_at cells c) adds.is ∙ ap (cell_at (old ++ (record { op = op; ins = ins; width = width; from = 0 }) ∷ [])) adds.at
      ∙ get_or-append_seam old (record { op = op; ins = ins; width = width; from = 0 }) [] no_cell ∙ ap (λ (is : List ℕ). record { op = op; ins = is; width = width; from = 0 }) e;
}

pub added_alone : (old new : List CellView) (c : ℕ) (cell : CellView) → Adds old new c cell → (d : ℕ) → length old ≤ d → d < length new → d ≡ c
added_alone old new c cell adds d low high = omega (arith, low, high, adds.at, ap length adds.is, length-append old (cell ∷ []))

pub added_both : (old mid new : List CellView) (c e : ℕ) (x y : CellView) → Adds old mid c x → Adds mid new e y → (d : ℕ) → length old ≤ d → d < length new → (d ≡ c) ⊎ (d ≡ e)
added_both old mid new c e x y first second d low high = by (cases_lt d (length mid))
  where
    by : (d < length mid) ⊎ (length mid ≤ d) → (d ≡ c) ⊎ (d ≡ e)
    by (inl l) = inl (added_alone old mid c x first d low l)
    by (inr m) = inr (added_alone mid new e y second d m high)

-- a cell that reads stays
pub read_later : (R : ℕ → ℕ → Type 0) (old new : List CellView) (c : ℕ) (op : Operator) (ins : List ℕ) (width : ℕ) → GrowsWith R old new → IsReadOf old c op ins width → IsReadOf new c op ins width
read_later R old new c op ins width grows r = record { there = omega (arith, r.there, grows.longer); is = grows.kept c r.there ∙ r.is }

-- ---- what it does

pub after_one : (v : ℕ → ℕ) (maps : MapState) (sites : List SiteView) (s : SiteView) → after v maps (sites ++ s ∷ []) ≡ applied v (after v maps sites) s
after_one v maps [] s = refl
after_one v maps (r ∷ sites) s = after_one v (applied v maps r) sites s

-- a read of the last site answers as the maps before its operation do
pub read_value : (v : ℕ → ℕ) (maps : MapState) (new : List CellView) (sites sites2 : List SiteView) (c : ℕ) (op : Operator) (site : SiteView) (ins : List ℕ) (width : ℕ) → AreRead maps new sites2 v
    → IsReadOf new c op ins width → site_in op ≡ Some (length sites) → sites2 ≡ sites ++ site ∷ [] → on (v site.guard) ≡ true
    → v c ≡ bits_from (read_on v (after v maps sites) site op) 0 width
read_value v maps new sites sites2 c op site ins width read is in_op sites_are guard =
    let j : ℕ = length sites in
    let there : j < length sites2 = omega (arith, ap length sites_are, length-append sites (site ∷ [])) in
    let at : site_at sites2 j ≡ site = ap (λ (xs : List SiteView). site_at xs j) sites_are ∙ get_or-append_seam sites site [] no_site in
    let before : take j sites2 ≡ sites = ap (take j) sites_are ∙ take-append-le j sites (site ∷ []) (omega arith) ∙ take_all j sites (omega arith) in
    let e = read c j is.there there (ap (λ (x : CellView). site_in x.op) is.is ∙ in_op) (ap (λ (s : SiteView). on (v s.guard)) at ∙ guard) in
    e ∙ ap (λ (x : CellView). bits_from (read_on v (after v maps (take j sites2)) (site_at sites2 j) x.op) x.from x.width) is.is
    ∙ ap (λ (xs : List SiteView). bits_from (read_on v (after v maps xs) (site_at sites2 j) op) 0 width) before
    ∙ ap (λ (s : SiteView). bits_from (read_on v (after v maps sites) s op) 0 width) at

-- ---- pointers

pub last_pointer : (ps : List PointerView) (p : PointerView) → pointer_at (ps ++ p ∷ []) (length ps) ≡ p
last_pointer ps p = get_or-append_seam ps p [] no_pointer

pub old_pointer : (ps more : List PointerView) (c : ℕ) → c < length ps → pointer_at (ps ++ more) c ≡ pointer_at ps c
old_pointer ps more c h = get_or-append ps more no_pointer c h

-- ---- sites

pub site_same : (node map guard : ℕ) (a : Act) (key words operands others : List ℕ) → key ≡ words → operands ≡ others
    → ◌≡◌ {A = SiteView} (record { node = node; map = map; guard = guard; act = a; key = key; operands = operands }) (record { node = node; map = map; guard = guard; act = a; key = words; operands = others })
site_same node map guard a key words operands others e f = rw (e, f) refl

pub site_pushed : (sites more : List Site) (s : Site) (t : SiteView) → more ≡ sites ++ s ∷ [] → site_of s ≡ t → sited more ≡ sited sites ++ t ∷ []
site_pushed sites more s t e is = ap sited e ∙ sited_more sites s ∙ ap (λ (x : SiteView). sited sites ++ x ∷ []) is

pub next_site : (sites : List Site) (n : ℕ) → n ≡ length sites → n ≡ length (sited sites)
next_site sites n e = e ∙ sym (sited_length sites)

pub inputs_there : (n : ℕ) (key operands ins : List ℕ) (pending : ℕ) → All (λ i. i < n) key → All (λ i. i < n) operands → pending < n → ins ≡ key ++ operands ++ pending ∷ [] → All (λ i. i < n) ins
inputs_there n key operands ins pending a b p e =
    subst (All (λ i. i < n)) (sym e) (All-push (λ i. i < n) (key ++ operands) pending (All-append (λ i. i < n) key operands a b) p)

pub pointer_seen : (ps : List Pointer) (c : ℕ) (p : Pointer) → c < length ps → p ≡ get_or ps c p → pointer_of p ≡ pointer_at (pointed ps) c
unfolding pointed
pointer_seen ps c p h is = ap pointer_of is ∙ sym (get_or-map pointer_of ps c p no_pointer h)
