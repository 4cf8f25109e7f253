-- Maps are filled one after another.
use Rattle.std.proofs.Common.{◌≡◌, ℕ, suc, ◌<◌, ◌≤◌, List, [], length, drop, sym, ap, ◌∙◌, arith, drop-cons, get_or-set_same}
use Rattle.std.specs.Prelude.{map as map_list}
use Rattle.std.specs.FinMap as map
use Rattle.std.proofs.lemmas.List.{set-set, ext_get_or, get_or-map, length-map}
use Rattle.xdp_maps.specs.declared.decl.MapDecl.{MapDecl}
use Rattle.xdp_maps.specs.Contents.{Contents}
use Rattle.xdp_maps.specs.Laws.{IndexLaws, KeepsOver}
use Rattle.xdp_maps.specs.State.{MapState, decl_at, contents_at, with_contents}
use Rattle.hazard_core.specs.declared.slot.Slot.{Slot}
use Rattle.hazard_core.specs.Tables.{TableState, no_slot, decl_of, table_at, slot_at, contents_of, maps_of}
use Rattle.hazard_core.specs.Tabled.{AreTables}
use Rattle.hazard_core.specs.TableMaps.Refilled.{with_pair, refilled, AreRefilled}
use Rattle.hazard_core.proofs.TableMaps.Refilling.{stands}

-- a slot more, before those that were put
pub slot_more : (s m : MapState) (k i : ℕ) (slots : List Slot) → k < length s.contents → i < length slots → m ≡ with_contents s k (refilled (decl_at s k) (drop (suc i) slots) (contents_at s k)) →
    with_contents m k (with_pair (decl_at m k) (slot_at slots i) (contents_at m k)) ≡ with_contents s k (refilled (decl_at s k) (drop i slots) (contents_at s k))
slot_more s m k i slots l b e =
    ap (λ (x : MapState). with_contents x k (with_pair (decl_at x k) (slot_at slots i) (contents_at x k))) e
    ∙ ap (λ (x : Contents). with_contents (with_contents s k c) k (with_pair d (slot_at slots i) x)) (get_or-set_same s.contents k c map.empty l)
    ∙ ap (λ (cs : List Contents). record s { contents = cs }) (set-set s.contents k c (with_pair d (slot_at slots i) c))
    ∙ ap (λ (xs : List Slot). with_contents s k (refilled d xs (contents_at s k))) (sym (drop-cons slots i no_slot b))
  where
    d : MapDecl
    d = decl_at s k

    c : Contents
    c = refilled d (drop (suc i) slots) (contents_at s k)

-- all maps are filled: they are what the tables stand for
pub all_stand : IndexLaws → ((d : MapDecl) (c : Contents) → KeepsOver d c) → (t : TableState) (n : ℕ) (m : MapState) → length t.decls ≤ n → AreRefilled t n m → AreTables t → m ≡ maps_of t
all_stand laws keeps t n m l w tables = ap (λ (ds : List MapDecl). record { decls = ds; contents = m.contents }) w.decls ∙ ap (λ (cs : List Contents). record { decls = t.decls; contents = cs }) same
  where
    same : m.contents ≡ map_list contents_of t.tables
    same = ext_get_or map.empty m.contents (map_list contents_of t.tables) (w.beside ∙ sym (length-map t.tables contents_of ∙ tables.beside)) (λ k b.
        let i : k < length t.decls = omega (arith, b, w.beside) in
        w.filled k (omega (arith, i, l)) i ∙ stands laws keeps (decl_of t.decls k) (tables.limits k i) (table_at t k) (tables.each k i)
        ∙ sym (get_or-map contents_of t.tables k [] map.empty (omega (arith, i, tables.beside))))
