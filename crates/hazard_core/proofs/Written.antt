-- What an update of an array writes.
use Rattle.std.proofs.Common.{◌≡◌, ◌∙◌, ℕ, List, ap}
use Rattle.xdp_maps.specs.declared.decl.MapKind.TheVariants.{Array}
use Rattle.cell_core.specs.declared.site.Act.TheVariants as act
use Rattle.cell_core.specs.Sites.{SiteView, ProgramView, site_at}
use Rattle.hazard_core.specs.Tables.{Slot, TableState, table_at}
use Rattle.hazard_core.specs.StageValues.{StageValues, asked_key, slot_pointer, written_as}

pub written_array : (p : ProgramView) (t : TableState) (h : StageValues) (j : ℕ) (s : SiteView) (slots : List Slot) (key : List ℕ) → s ≡ site_at p.sites j → slots ≡ table_at t s.map → key ≡ asked_key t.decls h s
    → slot_pointer slots key ≡ written_as act.Update Array p t h j
written_array p t h j s slots key e f g =
    ap (λ (xs : List Slot). slot_pointer xs key) f ∙ ap (λ (k : List ℕ). slot_pointer (table_at t s.map) k) g
    ∙ ap (λ (v : SiteView). slot_pointer (table_at t v.map) (asked_key t.decls h v)) e
