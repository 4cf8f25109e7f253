-- The pointers that meet.
use Rattle.std.proofs.Common.{◌≡◌, ℕ, ◌+◌, ◌<◌, ◌≤◌, ◌≢◌, ◌⊎◌, inl, inr, false, List, length, get_or, All, refl, sym, ◌∙◌, ap, subst, arith, get_or-set_other, get_or-set_same}
use Rattle.std.specs.Prelude.{Option, Some, None, slice_index}
use Rattle.std.proofs.Math.ListN.{set}
use Rattle.std.proofs.lemmas.Bool.{cases_lt}
use Rattle.xdp_machine.specs.xdp_maps.declared.decl.MapDecl.{MapDecl}
use Rattle.kind_core.specs.NumberBounds.{any_number}
use Rattle.kind_core.specs.declared.kind.Kind.{Kind}
use Rattle.kind_core.specs.declared.kind.Kind.TheVariants.{Unset, Num, Maybe, Entry}
use Rattle.kind_core.specs.declared.kind.Kinds.{Kinds}
use Rattle.kind_core.specs.Kinds.{key_bytes}
use Rattle.cell_core.specs.Cells.{CellView}
use Rattle.operator_cells.specs.Making.{Grows}
use Rattle.operator_cells.proofs.MakingLaws.{grown}
use Rattle.operator_cells.specs.declared.held_cells.machine_cells.RegisterCells.{RegisterCells}
use Rattle.operator_cells.specs.declared.held_cells.way.Way.{Way}
use Rattle.operator_cells.specs.HeldCells.RegisterCells.{PointerView, pointer_at, key_of, Counts}
use Rattle.operator_cells.specs.HeldCells.Rows as places
use Rattle.operator_cells.specs.HeldCells.Rows.{number_at}
use Rattle.operator_cells.specs.HeldCells.Pointing.{Pointing, pointing_as, pointing_at, IsSamePointer}
use Rattle.edge_cells.specs.declared.part.Part.{Part}
use Rattle.edge_cells.specs.declared.part.Part.TheVariants.{Register, Slot, Byte, Target}
use Rattle.edge_cells.specs.Meeting.{IsPart, held_at, kind_at, cell_brought, PicksPointer, words_of, is_known, map_of, Extends, AreWays, Meets, MeetsMore, MeetRow, first_on}
use Rattle.edge_cells.specs.Rows.{data_place}
use Rattle.edge_cells.specs.Pointing.{Follows, MeetsPointer, MeetRowPoints, JoinPoints}
use Rattle.edge_cells.proofs.GrowthLaws.{followed_before}
use Rattle.edge_cells.proofs.ExtendingLaws.{extended, same_pointer, pointer_new, part_counts}
use Rattle.edge_cells.proofs.PartsMet.{AreAt, widened, same_kind, keys_same}
use Rattle.edge_cells.proofs.PartRows.{kind_there, number_there}
use Rattle.edge_cells.proofs.JoinRows.{part_at}
use Rattle.edge_cells.proofs.WayLaws.{first_below}
use Rattle.operator_cells.specs.row_rules.PlaceRows.Locations.{first_pending}
use Rattle.operator_cells.proofs.row_rules_laws.PlaceRows.LocationLaws.{pending_there}

-- ---- one part

-- a pointer of a kind that leads into a map
pointing_is : (a : Kind) (q : ℕ) → map_of a ≡ Some q → (node : Option ℕ) × ((c : ℕ) → pointing_as a c ≡ Some (record { map = q; node = node; pointer = c }))
pointing_is (Maybe r n) q e = (Some n, λ c. let same : r ≡ q = cc in ap (λ (m : ℕ). Some (record { map = m; node = Some n; pointer = c })) same)
pointing_is (Entry r o) q e = (None, λ c. let same : r ≡ q = cc in ap (λ (m : ℕ). Some (record { map = m; node = None; pointer = c })) same)
pointing_is a q e = absurd (cc)

map_pointed : (a : Kind) (c : ℕ) (y : Pointing) → pointing_as a c ≡ Some y → map_of a ≡ Some y.map
map_pointed (Maybe r n) c y e = let same : record { map = r; node = Some n; pointer = c } ≡ y = cc in ap (λ (z : Pointing). Some z.map) same
map_pointed (Entry r o) c y e = let same : record { map = r; node = None; pointer = c } ≡ y = cc in ap (λ (z : Pointing). Some z.map) same
map_pointed a c y e = absurd (cc)

-- all edges hold one
pub points_same : {decls : List MapDecl} {cells : List CellView} {ps : List PointerView} {here : List Way} {k : Kinds} {part : Part} {c : ℕ} → AreAt decls cells ps here k part
    → All (λ e. (is_known (kind_at part e.kinds) ≡ false) × (held_at part e.held ≡ c)) here → MeetsPointer decls cells ps ps here part (kind_at part k) c
points_same {decls} {cells} {ps} {here} {k} {part} {c} a all = record {
  same = λ packet v u d run follows y is.
      let i : ℕ = first_on v here in
      let l : i < length here = first_below v here a.some in
      let kind = same_kind (kind_at part k) (kind_at part (get_or here i d).kinds) y.map (map_pointed (kind_at part k) c y is) (widened decls cells ps here k part a i d l) in
      (y, ap (λ (x : Kind). pointing_as x (held_at part (get_or here i d).held)) kind ∙ ap (pointing_as (kind_at part k)) (all i d l).1 ∙ is, record { map = refl; node = refl; found = refl; goes = refl; key = refl });
}

-- one is chosen
pub points_chosen : {decls : List MapDecl} {old new : List CellView} {ps qs : List PointerView} {here : List Way} {k : Kinds} {part : Part} {q n c : ℕ} → n ≡ words_of (key_bytes decls q) → map_of (kind_at part k) ≡ Some q
    → AreAt decls old ps here k part → PicksPointer old new ps qs here part n c → Follows new here (cell_brought ps part 0) (pointer_at qs c).found → MeetsPointer decls new ps qs here part (kind_at part k) c
points_chosen {decls} {old} {new} {ps} {qs} {here} {k} {part} {q} {n} {c} words e a picks follows = record {
  same = λ packet v u d run all y is.
      let f : Way = get_or here (first_on v here) d in
      let kind = same_kind (kind_at part k) (kind_at part f.kinds) q e (widened decls old ps here k part a (first_on v here) d (first_below v here a.some)) in
      let pointing = pointing_is (kind_at part k) q e in
      let both : Some (record { map = q; node = pointing.0; pointer = c }) ≡ Some y = sym (pointing.1 c) ∙ is in
      let one : record { map = q; node = pointing.0; pointer = c } ≡ y = cc both in
      subst (λ (z : Pointing). (x : Pointing) × (pointing_as (kind_at part f.kinds) (held_at part f.held) ≡ Some x) × IsSamePointer decls v u ps qs x z) one (
        record { map = q; node = pointing.0; pointer = held_at part f.held },
        ap (λ (x : Kind). pointing_as x (held_at part f.held)) kind ∙ pointing.1 (held_at part f.held),
        record {
          map = refl;
          node = refl;
          found = ap (λ (p : PointerView). v p.found) own ∙ picks.found.value packet v d run;
          goes = follows.goes v u d all;
          key = ap (key_of decls v q) own ∙ sym (keys_same decls old new ps qs here k part q n c words a e picks packet v d run);
        },
      );
}
  where
    own : pointer_at qs c ≡ picks.pointer
    own = pointer_new ps qs picks.pointer c picks.at picks.is

-- none is held
pub points_none : {decls : List MapDecl} {new : List CellView} {ps qs : List PointerView} {here : List Way} {part : Part} (a : Kind) {c : ℕ} → map_of a ≡ None → MeetsPointer decls new ps qs here part a c
points_none a {c} none = record { same = λ packet v u d run all y is. let bad : None ≡ Some y.map = sym none ∙ map_pointed a c y is in absurd (cc bad) }

-- ---- more pointers

pointed_inside : (decls : List MapDecl) (n : ℕ) (ps : List PointerView) (a : Kind) (c : ℕ) (y : Pointing) → pointing_as a c ≡ Some y → Counts decls n ps a c → y.pointer < length ps
pointed_inside decls n ps (Maybe r j) c y e k = let same : record { map = r; node = Some j; pointer = c } ≡ y = cc in subst (λ (z : Pointing). z.pointer < length ps) same k.0
pointed_inside decls n ps (Entry r o) c y e k = let same : record { map = r; node = None; pointer = c } ≡ y = cc in subst (λ (z : Pointing). z.pointer < length ps) same k.0
pointed_inside decls n ps a c y e k = absurd (cc)

same_among : {decls : List MapDecl} {v u : ℕ → ℕ} {ps qs rs ss : List PointerView} {x y : Pointing} → pointer_at ps x.pointer ≡ pointer_at qs x.pointer → pointer_at ss y.pointer ≡ pointer_at rs y.pointer
    → IsSamePointer decls v u qs rs x y → IsSamePointer decls v u ps ss x y
same_among {decls} {v} {u} {x = x} {y = y} e f s = record {
  map = s.map;
  node = s.node;
  found = ap (λ (p : PointerView). v p.found) f ∙ s.found ∙ ap (λ (p : PointerView). v p.found) (sym e);
  goes = ap (λ (p : PointerView). u p.found) f ∙ s.goes ∙ ap (λ (p : PointerView). u p.found) (sym e);
  key = ap (key_of decls v y.map) f ∙ s.key ∙ ap (key_of decls v x.map) (sym e);
}

points_later : {decls : List MapDecl} {mid new : List CellView} {ps qs rs : List PointerView} {here : List Way} {part : Part} {a : Kind} {c : ℕ} → Grows mid new → Extends qs rs → Meets decls mid qs here part a c
    → MeetsPointer decls mid ps qs here part a c → MeetsPointer decls new ps rs here part a c
points_later {decls} {mid} {qs = qs} {rs = rs} {a = a} {c = c} g e meets m = record {
  same = λ packet v u d run all y is. let old = m.same packet v u d (g.run packet v run) (followed_before g all) y is in
      (old.0, old.1, same_among refl (same_pointer qs rs y.pointer e (pointed_inside decls (length mid) qs a c y is meets.counts)) old.2);
}

-- the same of the pointers that the edges had
points_from : {decls : List MapDecl} {new : List CellView} (old : List CellView) {ps qs rs : List PointerView} {here : List Way} {part : Part} {a : Kind} {c : ℕ} → 1 ≤ length here → IsPart part → Extends ps qs → AreWays decls old ps here
    → MeetsPointer decls new qs rs here part a c → MeetsPointer decls new ps rs here part a c
points_from {decls} old {ps = ps} {qs = qs} {here = here} {part = part} some is_part e ways m = record {
  same = λ packet v u d run all y is.
      let later = m.same packet v u d run all y is in
      let f : Way = get_or here (first_on v here) d in
      let counts = part_counts decls (length old) ps f.held f.kinds part is_part (ways (first_on v here) d (first_below v here some)).1 in
      (later.0, later.1, same_among (sym (same_pointer ps qs later.0.pointer e (pointed_inside decls (length old) ps (kind_at part f.kinds) (held_at part f.held) later.0 later.1 counts))) refl later.2);
}

-- ---- all parts, of which bytes of the packet and the target of a redirect hold no pointer

pub row_more_points : (decls : List MapDecl) (old mid new : List CellView) (ps qs rs : List PointerView) (here : List Way) (k : Kinds) (part : ℕ → Part) (n c : ℕ) (held : List ℕ) → n < length held → IsPart (part n)
    → 1 ≤ length here → AreWays decls old ps here → MeetRow decls old mid ps qs here k part n held → MeetsMore decls mid new qs rs here (part n) (kind_at (part n) k) c
    → MeetRowPoints decls mid ps qs here k part n held → MeetsPointer decls new qs rs here (part n) (kind_at (part n) k) c → MeetRowPoints decls new ps rs here k part (n + 1) (set held n c)
row_more_points decls old mid new ps qs rs here k part n c held range is_part some ways met_row more row one = record { each = λ i l. by i (cases_lt i n) l }
  where
    by : (i : ℕ) → (i < n) ⊎ (n ≤ i) → i < n + 1 → MeetsPointer decls new ps rs here (part i) (kind_at (part i) k) (slice_index (set held n c) i)
    by i (inl l) h = let ne : i ≢ n = omega arith in
        subst (λ (x : ℕ). MeetsPointer decls new ps rs here (part i) (kind_at (part i) k) x) (sym (get_or-set_other held n i c 0 ne)) (points_later more.grows more.extends (met_row.each i l) (row.each i l))
    by i (inr l) h = let same : n ≡ i = omega (arith, l, h) in
        subst (λ (j : ℕ). MeetsPointer decls new ps rs here (part j) (kind_at (part j) k) (slice_index (set held n c) j)) same
        (subst (λ (x : ℕ). MeetsPointer decls new ps rs here (part n) (kind_at (part n) k) x) (sym (get_or-set_same held n c 0 range)) (points_from old some is_part met_row.extends ways one))

pub rows_points : (decls : List MapDecl) (a b c d e f : List CellView) (p q r s t : List PointerView) (here : List Way) (k : Kinds) (h : RegisterCells) → 1 ≤ length here → AreWays decls a p here
    → MeetRow decls b c p q here k Register 11 h.registers → MeetRowPoints decls c p q here k Register 11 h.registers
    → MeetRow decls c d q r here k Slot 64 h.slots → MeetRowPoints decls d q r here k Slot 64 h.slots
    → MeetRow decls d e r s here k Byte 256 h.window → MeetsMore decls e f s t here Target (kind_at Target k) h.target
    → (part : Part) → IsPart part → MeetsPointer decls f p t here part (kind_at part k) (held_at part h)
rows_points decls a b c d e f p q r s t here k h some ways registers registers_point slots slots_point window target (Register i) l =
    points_later (grown slots.grows (grown window.grows target.grows)) (extended slots.extends (extended window.extends target.extends)) (registers.each i (omega (arith, l))) (registers_point.each i (omega (arith, l)))
rows_points decls a b c d e f p q r s t here k h some ways registers registers_point slots slots_point window target (Slot i) l =
    points_later (grown window.grows target.grows) (extended window.extends target.extends) (slots.each i l) (points_from a some l registers.extends ways (slots_point.each i l))
rows_points decls a b c d e f p q r s t here k h some ways registers registers_point slots slots_point window target (Byte i) l = points_none (Num (any_number 64)) refl
rows_points decls a b c d e f p q r s t here k h some ways registers registers_point slots slots_point window target Target l = points_none (Num (any_number 64)) refl

nowhere : (k : Kinds) (place : ℕ) → first_pending ≤ place → places.kind_at k place ≡ Unset
nowhere k place l = ap (places.kind_by k) (pending_there place l)

place_of : (k : Kinds) (h : RegisterCells) (y : Pointing) (place : ℕ) → pointing_at k h place ≡ Some y → place < first_pending
place_of k h y place is = by (cases_lt place first_pending)
  where
    by : (place < first_pending) ⊎ (first_pending ≤ place) → place < first_pending
    by (inl l) = l
    by (inr l) = let bad : None ≡ Some y = ap (λ (a : Kind). pointing_as a (number_at h place)) (sym (nowhere k place l)) ∙ is in absurd (cc bad)

pointing_there : (k : Kinds) (h : RegisterCells) (part : Part) → IsPart part → pointing_at k h (data_place part) ≡ pointing_as (kind_at part k) (held_at part h)
pointing_there k h part l = ap (λ (a : Kind). pointing_as a (number_at h (data_place part))) (kind_there k part l) ∙ ap (pointing_as (kind_at part k)) (number_there h part l)

pub join_points : {decls : List MapDecl} {new : List CellView} {ps qs : List PointerView} {here : List Way} {k : Kinds} {h : RegisterCells}
    → ((part : Part) → IsPart part → MeetsPointer decls new ps qs here part (kind_at part k) (held_at part h)) → JoinPoints decls new ps qs here k h
join_points {here = here} {k = k} {h = h} met packet v u d run all y holds =
    let f : Way = get_or here (first_on v here) d in
    let at = part_at holds.0 (place_of k h y holds.0 holds.1) in
    let x = (met at.0 at.1).same packet v u d run all y (sym (pointing_there k h at.0 at.1) ∙ ap (pointing_at k h) at.2 ∙ holds.1) in
    (x.0, (data_place at.0, pointing_there f.kinds f.held at.0 at.1 ∙ x.1), x.2)
