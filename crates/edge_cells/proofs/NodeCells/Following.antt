-- The maps after the operations of more sites.
use Rattle.std.proofs.Common.{◌≡◌, ℕ, ◌&&◌, Bool, true, false, if◌then◌else◌, List, [], ◌∷◌, ◌++◌, refl, ◌∙◌, ap}
use Rattle.std.specs.Prelude.{All}
use Rattle.std.proofs.lemmas.List.Elements.{All-head, All-tail}
use Rattle.xdp_machine.specs.xdp_maps.State.{MapState}
use Rattle.xdp_machine.specs.xdp_maps.Operations.{operated}
use Rattle.cell_core.specs.Cells.{on}
use Rattle.cell_core.specs.Sites.{SiteView, records, operation_on, applied, after}

pub after_both : (v : ℕ → ℕ) (maps : MapState) (xs ys : List SiteView) → after v maps (xs ++ ys) ≡ after v (after v maps xs) ys
after_both v maps [] ys = refl
after_both v maps (x ∷ xs) ys = after_both v (applied v maps x) xs ys

applied_off : (v : ℕ → ℕ) (maps : MapState) (s : SiteView) → v s.guard ≡ 0 → applied v maps s ≡ maps
applied_off v maps s e = by (records s.act) (on (v s.guard)) (ap on e)
  where
    by : (r t : Bool) → t ≡ false → (if r && t then operated maps s.map (operation_on v maps s) else maps) ≡ maps
    by true t f = ap (λ (b : Bool). if b then operated maps s.map (operation_on v maps s) else maps) f
    by false t f = refl

none_applied : (v : ℕ → ℕ) (maps : MapState) (k guard : ℕ) (xs : List SiteView) → All (λ s. (s.node ≡ k) × (s.guard ≡ guard)) xs → v guard ≡ 0 → after v maps xs ≡ maps
none_applied v maps k guard [] own e = refl
none_applied v maps k guard (x ∷ xs) own e =
    let first = All-head (λ (s : SiteView). (s.node ≡ k) × (s.guard ≡ guard)) x xs own in
    ap (λ (ms : MapState). after v ms xs) (applied_off v maps x (ap v first.1 ∙ e)) ∙ none_applied v maps k guard xs (All-tail (λ (s : SiteView). (s.node ≡ k) × (s.guard ≡ guard)) x xs own) e

-- sites of a node whose guard is off leave the maps
pub after_off : (v : ℕ → ℕ) (maps : MapState) (sites more : List SiteView) (k guard : ℕ) → All (λ s. (s.node ≡ k) × (s.guard ≡ guard)) more → v guard ≡ 0
    → after v maps (sites ++ more) ≡ after v maps sites
after_off v maps sites more k guard own e = after_both v maps sites more ∙ none_applied v (after v maps sites) k guard more own e
