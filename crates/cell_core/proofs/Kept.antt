-- Values, and what sites do, rest on the cells that they take.
use Rattle.std.proofs.Common.{◌≡◌, ℕ, zero, suc, Bool, true, false, List, [], ◌∷◌, take, refl, sym, ◌∙◌, ap, subst, arith}
use Rattle.std.specs.Prelude.{if◌then◌else◌, ◌&&◌, map as map_list}
use Rattle.xdp_state.specs.xdp_maps.State.{MapState, decl_at}
use Rattle.xdp_state.specs.xdp_maps.Operations.{Operation, operated}
use Rattle.xdp_state.specs.xdp_machine.State.{PacketIn}
use Rattle.cell_core.specs.Cells.{CellView, is_read, on, number, bits_from, Solves_as}
use Rattle.cell_core.specs.Sites.{SiteView, site_at, records, operation_with, operation_on, applied, after, read_with}
use Rattle.cell_core.specs.Formed.{IsBelow}
use Rattle.cell_core.specs.SiteLaws.{AreSame, SitesKeep, ValuesKeep}
use Rattle.cell_core.proofs.Values.{map-same}

operation-kept : (v w : ℕ → ℕ) (k : ℕ) (maps : MapState) (s : SiteView) → IsBelow k s → AreSame k v w → operation_on v maps s ≡ operation_on w maps s
operation-kept v w k maps s below same =
    ap (λ (key : List ℕ). operation_with (decl_at maps s.map) s.act key (map_list v s.operands)) (map-same v w k s.key below.key same)
    ∙ ap (λ (xs : List ℕ). operation_with (decl_at maps s.map) s.act (map_list w s.key) xs) (map-same v w k s.operands below.operands same)

applied-kept : (v w : ℕ → ℕ) (k : ℕ) (maps : MapState) (s : SiteView) → IsBelow k s → AreSame k v w → applied v maps s ≡ applied w maps s
applied-kept v w k maps s below same =
    ap (λ (g : ℕ). if records s.act && on g then operated maps s.map (operation_on v maps s) else maps) (same s.guard below.guard)
    ∙ ap (λ (op : Operation). if records s.act && on (w s.guard) then operated maps s.map op else maps) (operation-kept v w k maps s below same)

pub sites_keep : SitesKeep
sites_keep v w k maps zero ss below same = refl
sites_keep v w k maps (suc j) [] below same = refl
sites_keep v w k maps (suc j) (s ∷ ss) below same =
    sites_keep v w k (applied v maps s) j ss (λ i h. below (suc i) (omega arith)) same
    ∙ ap (λ (m : MapState). after w m (take j ss)) (applied-kept v w k maps s (below 0 (omega arith)) same)

solved-kept : (b : Bool) (packet : PacketIn) (v w : ℕ → ℕ) (c : CellView) (x : ℕ) → map_list v c.ins ≡ map_list w c.ins → Solves_as b packet v c x → Solves_as b packet w c x
solved-kept true packet v w c x same h = h
solved-kept false packet v w c x same h = h ∙ ap (λ (xs : List ℕ). bits_from (number packet c.op xs) c.from c.width) same

pub values_keep : ValuesKeep
values_keep packet maps sites v w k c x earlier below same h = record {
  solves = solved-kept (is_read c.op) packet v w c x (map-same v w k c.ins earlier same) h.solves;
  answers = λ j e is. h.answers j e (subst (λ (g : ℕ). on g ≡ true) (sym (same (site_at sites j).guard (below j j e (omega arith)).guard)) is)
      ∙ ap (λ (m : MapState). bits_from (read_with m (site_at sites j) (operation_on v m (site_at sites j)) c.op) c.from c.width) (sites_keep v w k maps j sites (λ i h. below j i e (omega arith)) same)
      ∙ ap (λ (op : Operation). bits_from (read_with (after w maps (take j sites)) (site_at sites j) op c.op) c.from c.width)
      (operation-kept v w k (after w maps (take j sites)) (site_at sites j) (below j j e (omega arith)) same);
}
