-- One cell more of a packet's run.
use Rattle.std.proofs.Common.{◌≡◌, ℕ, zero, suc, ◌+◌, ◌<◌, ◌≤◌, Bool, true, false, List, [], ◌∷◌, ◌++◌, length, take, get_or, refl, sym, ◌∙◌, ap, subst, arith, inl, inr}
use Rattle.std.specs.Prelude.{Some, ◌⊎◌, ◌==◌, map as map_list}
use Rattle.std.proofs.lemmas.Bool.{eqb-true, eqb-false}
use Rattle.std.proofs.lemmas.List.{length-map, get_or-map}
use Rattle.xdp_state.specs.xdp_maps.declared.decl.MapDecl.{MapDecl}
use Rattle.xdp_state.specs.xdp_maps.State.{MapState}
use Rattle.xdp_state.specs.xdp_machine.State.{PacketIn}
use Rattle.cell_core.specs.Cells.{site_in, CellView, no_cell, cell_at, value_in}
use Rattle.cell_core.specs.Sites.{SiteView, ProgramView, site_at, after, IsValue}
use Rattle.cell_core.specs.Formed.{IsInRange, AreFormed, IsBelow, AreSited}
use Rattle.cell_core.specs.declared.cell.Cell.{Cell}
use Rattle.cell_core.specs.declared.site.Site.{Site}
use Rattle.cell_core.specs.declared.program.CellProgram.{CellProgram}
use Rattle.cell_core.specs.View.{cell_of, site_of, program_of}
use Rattle.cell_core.specs.SiteLaws.{AreSame}
use Rattle.cell_core.specs.Passing.{IsPassed}
use Rattle.cell_core.proofs.Kept.{sites_keep, values_keep}
use Rattle.cell_core.proofs.OperatorLaws.{plain_when}

old-value : (vs : List ℕ) (x i : ℕ) → i < length vs → value_in vs i ≡ value_in (vs ++ x ∷ []) i
old-value [] x i h = absurd (omega arith)
old-value (y ∷ vs) x zero h = refl
old-value (y ∷ vs) x (suc i) h = old-value vs x i (omega arith)

new-value : (vs : List ℕ) (x : ℕ) → value_in (vs ++ x ∷ []) (length vs) ≡ x
new-value [] x = refl
new-value (y ∷ vs) x = new-value vs x

more-below : (m k : ℕ) (s : SiteView) → m ≤ k → IsBelow m s → IsBelow k s
more-below m k s le b = record {
  guard = omega (arith, b.guard);
  key = λ i d h. omega (arith, b.key i d h);
  operands = λ i d h. omega (arith, b.operands i d h);
}

pub passed_next : (packet : PacketIn) (maps : MapState) (decls : List MapDecl) (p : ProgramView) (k : ℕ) (vs : List ℕ) (own next : MapState) (done far x : ℕ)
    → AreFormed p.cells → AreSited decls p → k < length p.cells → IsPassed packet maps p k vs own done
    → IsValue packet maps p.sites (value_in vs) (cell_at p.cells k) x → next ≡ after (value_in vs) maps (take far p.sites) → far ≤ length p.sites
    → ((i : ℕ) → i < far → IsBelow k (site_at p.sites i))
    → IsPassed packet maps p (suc k) (vs ++ x ∷ []) next far
passed_next packet maps decls p k vs own next done far x formed sited h old one is range below = record {
  count = omega (arith, length-more vs, old.count);
  range = range;
  below = λ i l. more-below k (suc k) (site_at p.sites i) (omega arith) (below i l);
  own_is = is ∙ sites_keep (value_in vs) w k maps far p.sites below same;
  each = λ i l. by_last i (last i l);
}
  where
    w : ℕ → ℕ
    w i = value_in (vs ++ x ∷ []) i

    same : AreSame k (value_in vs) w
    same i l = old-value vs x i (omega (arith, old.count))

    length-more : (ys : List ℕ) → length (ys ++ x ∷ []) ≡ suc (length ys)
    length-more [] = refl
    length-more (y ∷ ys) = ap suc (length-more ys)

    last : (i : ℕ) → i < suc k → (i < k) ⊎ (i ≡ k)
    last i l = by_test (i == k) refl
      where
        by_test : (b : Bool) → (i == k) ≡ b → (i < k) ⊎ (i ≡ k)
        by_test true t = inr (eqb-true i k t)
        by_test false t = inl (omega (arith, l, eqb-false i k t))

    kept : (i y : ℕ) → i ≤ k → IsValue packet maps p.sites (value_in vs) (cell_at p.cells i) y → IsValue packet maps p.sites w (cell_at p.cells i) y
    kept i y le v = values_keep packet maps p.sites (value_in vs) w k (cell_at p.cells i) y
        (λ j d l. omega (arith, (formed.each i (omega arith)).earlier j d l))
        (λ j n e l. more-below i k (site_at p.sites n) le (sited.below i j n (omega arith) e l)) same v

    by_last : (i : ℕ) → (i < k) ⊎ (i ≡ k) → IsValue packet maps p.sites w (cell_at p.cells i) (w i)
    by_last i (inl l) = subst (IsValue packet maps p.sites w (cell_at p.cells i)) (same i l) (kept i (value_in vs i) (omega arith) (old.each i l))
    by_last i (inr e) = subst (λ (n : ℕ). IsValue packet maps p.sites w (cell_at p.cells n) (w n)) (sym e)
        (subst (IsValue packet maps p.sites w (cell_at p.cells k)) (sym (ap w (sym old.count) ∙ new-value vs x)) (kept k x (omega arith) one))

-- ---- cells in memory

pub cell_read : (cs : List Cell) (k : ℕ) (c : Cell) → k < length cs → c ≡ get_or cs k c → cell_at (map_list cell_of cs) k ≡ cell_of c
cell_read cs k c h e = get_or-map cell_of cs k c no_cell h ∙ ap cell_of (sym e)

-- what a cell in memory keeps to
pub formed_at : (cs : List Cell) (k : ℕ) (c : Cell) → AreFormed (map_list cell_of cs) → k < length cs → c ≡ get_or cs k c → IsInRange c.op × (c.width ≤ 64) × (c.from ≤ 63)
formed_at cs k c formed h e =
    let more : k < length (map_list cell_of cs) = omega (arith, h, length-map cs cell_of) in (
      subst (λ (x : CellView). IsInRange x.op) (cell_read cs k c h e) (formed.each k more).in_range,
      subst (λ (x : CellView). x.width ≤ 64) (cell_read cs k c h e) (formed.each k more).width,
      subst (λ (x : CellView). x.from ≤ 63) (cell_read cs k c h e) (formed.each k more).from,
    )

pub known_at : (decls : List MapDecl) (q : CellProgram) (k j : ℕ) (c : Cell) → AreSited decls (program_of q) → k < length q.cells.items → c ≡ get_or q.cells.items k c
    → site_in c.op ≡ Some j → j < length q.sites.items
known_at decls q k j c sited h e s =
    omega (
      arith,
      length-map q.sites.items site_of,
      sited.known k j (omega (arith, h, length-map q.cells.items cell_of))
          (subst (λ (x : CellView). site_in x.op ≡ Some j) (sym (cell_read q.cells.items k c h e)) s),
    )

pub passed_step : (packet : PacketIn) (maps : MapState) (decls : List MapDecl) (q : CellProgram) (k : ℕ) (vs ys : List ℕ) (zs : List Site) (own next : MapState) (done far x : ℕ) (c : Cell)
    → AreFormed (program_of q).cells → AreSited decls (program_of q) → k < length q.cells.items → c ≡ get_or q.cells.items k c
    → IsPassed packet maps (program_of q) k vs own done → ys ≡ vs → zs ≡ q.sites.items
    → IsValue packet maps (map_list site_of zs) (value_in ys) (cell_of c) x → next ≡ after (value_in ys) maps (take far (map_list site_of zs))
    → (far ≤ done) ⊎ ((j : ℕ) × (site_in c.op ≡ Some j) × (far ≤ j + 1)) → IsPassed packet maps (program_of q) (suc k) (vs ++ x ∷ []) next far
passed_step packet maps decls q k vs ys zs own next done far x c formed sited h e old eys ezs one is bound =
    passed_next packet maps decls (program_of q) k vs own next done far x formed sited more old value_is next_is (range bound) (below bound)
  where
    more : k < length (map_list cell_of q.cells.items)
    more = omega (arith, h, length-map q.cells.items cell_of)

    at : cell_at (map_list cell_of q.cells.items) k ≡ cell_of c
    at = cell_read q.cells.items k c h e

    value_is : IsValue packet maps (map_list site_of q.sites.items) (value_in vs) (cell_at (map_list cell_of q.cells.items) k) x
    value_is =
        subst (λ (ss : List Site). IsValue packet maps (map_list site_of ss) (value_in vs) (cell_at (map_list cell_of q.cells.items) k) x) ezs
        (subst (λ (l : List ℕ). IsValue packet maps (map_list site_of zs) (value_in l) (cell_at (map_list cell_of q.cells.items) k) x) eys
        (subst (λ (d : CellView). IsValue packet maps (map_list site_of zs) (value_in ys) d x) (sym at) one))

    next_is : next ≡ after (value_in vs) maps (take far (map_list site_of q.sites.items))
    next_is = is ∙ ap (λ (l : List ℕ). after (value_in l) maps (take far (map_list site_of zs))) eys
        ∙ ap (λ (ss : List Site). after (value_in vs) maps (take far (map_list site_of ss))) ezs

    range : (far ≤ done) ⊎ ((j : ℕ) × (site_in c.op ≡ Some j) × (far ≤ j + 1)) → far ≤ length (map_list site_of q.sites.items)
    range (inl le) = omega (arith, le, old.range)
    range (inr (j, s, le)) = omega (arith, le, known_at decls q k j c sited h e s, length-map q.sites.items site_of)

    below : (far ≤ done) ⊎ ((j : ℕ) × (site_in c.op ≡ Some j) × (far ≤ j + 1)) → (i : ℕ) → i < far → IsBelow k (site_at (map_list site_of q.sites.items) i)
    below (inl le) i l = old.below i (omega (arith, le, l))
    below (inr (j, s, le)) i l = sited.below k j i more (subst (λ (x : CellView). site_in x.op ≡ Some j) (sym at) s) (omega (arith, le, l))
