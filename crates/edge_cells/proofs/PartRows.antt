-- The rows of what meets at a part.
use Rattle.std.proofs.Common.{◌≡◌, ℕ, ◌-◌, ◌≤◌, ◌==◌, Bool, true, false, not, ◌&&◌, if◌then◌else◌, List, [], ◌∷◌, get_or, All, refl, sym, ◌∙◌, ap, subst, arith}
use Rattle.std.specs.Prelude.{Some, None}
use Rattle.std.proofs.lemmas.Bool.{eq-eqb, eqb-true}
use Rattle.std.proofs.lemmas.List.Sums.{AllPass-from_list_all, list_all-from_AllPass}
use Rattle.xdp_machine.specs.xdp_maps.declared.decl.MapDecl.{MapDecl}
use Rattle.kind_core.specs.declared.number.Number.{Number}
use Rattle.kind_core.specs.declared.number.Number.TheVariants.{Known, Between}
use Rattle.kind_core.specs.declared.kind.Kind.{Kind}
use Rattle.kind_core.specs.declared.kind.Kind.TheVariants.{Unset, Num, Var, Maybe, Entry, Mixed}
use Rattle.kind_core.specs.declared.kind.Kinds.{Kinds}
use Rattle.cell_core.specs.Cells.{CellView}
use Rattle.cell_core.specs.Rows.{greatest}
use Rattle.operator_cells.specs.Rising.{Rises, RiseAll}
use Rattle.operator_cells.proofs.RisingLaws.{stand_none}
use Rattle.operator_cells.specs.row_rules.PlaceRows.Origins.{is_open}
use Rattle.operator_cells.specs.row_rules.PlaceRows.Reading as reading
use Rattle.operator_cells.specs.row_rules.PlaceRows.Locations.{IsLocation}
use Rattle.operator_cells.proofs.row_rules_laws.PlaceRows.LocationLaws.{at_number}
use Rattle.operator_cells.specs.declared.held_cells.machine_cells.RegisterCells.{RegisterCells}
use Rattle.operator_cells.specs.declared.held_cells.way.Way.{Way}
use Rattle.operator_cells.specs.HeldCells.RegisterCells.{PointerView, pointer_at}
use Rattle.operator_cells.specs.HeldCells.Rows as places
use Rattle.operator_cells.specs.HeldCells.Rows.{cells_of_pointer, number_row, value_row, number_at, held_row, brought_row, holds_at, hold_one, chosen_row, met_row, choosing_row}
use Rattle.operator_cells.proofs.HeldCells.RowLaws.{grows_by}
use Rattle.edge_cells.specs.declared.part.Part.{Part}
use Rattle.edge_cells.specs.declared.part.Part.TheVariants.{Register, Slot, Byte, Target}
use Rattle.edge_cells.specs.Widening.{Widens}
use Rattle.edge_cells.specs.Meeting.{IsPart, held_at, kind_at, number_in, is_known, is_unknown, map_of}
use Rattle.edge_cells.specs.Rows.{location_of, data_place, choice_row, number_row_brought, pointer_row_brought, MeetsTo}
use Rattle.edge_cells.proofs.PartsMet.{AreAt, part_wider}
use Rattle.edge_cells.proofs.ChoiceRows.{brought_above, choice_chosen}

-- ---- a part by its place

-- there is such a location
pub part_located : (part : Part) → IsPart part → IsLocation (location_of part)
part_located (Register r) l = omega (arith, l)
part_located (Slot s) l = l
part_located (Byte i) l = l
part_located Target l = tt

kind_located : (k : Kinds) (part : Part) → places.kind_by k (location_of part) ≡ kind_at part k
kind_located k (Register r) = refl
kind_located k (Slot s) = refl
kind_located k (Byte i) = refl
kind_located k Target = refl

number_located : (h : RegisterCells) (part : Part) → places.number_by h (location_of part) ≡ held_at part h
number_located h (Register r) = refl
number_located h (Slot s) = refl
number_located h (Byte i) = refl
number_located h Target = refl

pub kind_there : (k : Kinds) (part : Part) → IsPart part → places.kind_at k (data_place part) ≡ kind_at part k
kind_there k part l = ap (places.kind_by k) (at_number (location_of part) (part_located part l)) ∙ kind_located k part

pub number_there : (h : RegisterCells) (part : Part) → IsPart part → number_at h (data_place part) ≡ held_at part h
number_there h part l = ap (places.number_by h) (at_number (location_of part) (part_located part l)) ∙ number_located h part

pub row_there : (row : ℕ → ℕ) (ps : List PointerView) (h : RegisterCells) (k : Kinds) (part : Part) → IsPart part → held_row row ps h k (data_place part) ≡ value_row row ps (kind_at part k) (held_at part h)
row_there row ps h k part p = ap (λ (x : Kind). value_row row ps x (number_at h (data_place part))) (kind_there k part p) ∙ ap (value_row row ps (kind_at part k)) (number_there h part p)

-- ---- whether all edges hold one

-- an edge holds this at a part, and no number is known there
abbrev pub Agree : Part → ℕ → Way → Type 0
Agree part c e = (is_known (kind_at part e.kinds) ≡ false) × (held_at part e.held ≡ c)

known_same : (k : Kind) → reading.is_known k ≡ is_known k
known_same (Num (Known n)) = refl
known_same (Num (Between lo hi)) = refl
known_same k = refl

both_true : (a b : Bool) → (not a && b) ≡ true → (a ≡ false) × (b ≡ true)
both_true false b h = (refl, h)
both_true true b h = absurd (cc)

agree_from : (part : Part) (c : ℕ) (e : Way) → IsPart part → holds_at (data_place part) c e ≡ true → Agree part c e
agree_from part c e p h =
    let b = both_true (reading.is_known (places.kind_at e.kinds (data_place part))) (number_at e.held (data_place part) == c) h in
    (sym (known_same (kind_at part e.kinds)) ∙ ap reading.is_known (sym (kind_there e.kinds part p)) ∙ b.0, sym (number_there e.held part p) ∙ eqb-true (number_at e.held (data_place part)) c b.1)

agree_to : (part : Part) (c : ℕ) (e : Way) → IsPart part → Agree part c e → holds_at (data_place part) c e ≡ true
agree_to part c e p a =
    let known : reading.is_known (places.kind_at e.kinds (data_place part)) ≡ false = ap reading.is_known (kind_there e.kinds part p) ∙ known_same (kind_at part e.kinds) ∙ a.0 in
    ap (λ (b : Bool). not b && (number_at e.held (data_place part) == c)) known ∙ eq-eqb (number_at e.held (data_place part)) c (number_there e.held part p ∙ a.1)

pub one_agrees : (part : Part) (here : List Way) (c : ℕ) → IsPart part → ((d : Way) → c ≡ held_at part (get_or here 0 d).held) → hold_one here (data_place part) ≡ true → All (λ e. Agree part c e) here
one_agrees part [] c p first h = λ i d l. absurd (omega (arith, l))
one_agrees part (e ∷ here) c p first h = λ i d l.
    let held : ℕ = number_at e.held (data_place part) in
    let a = agree_from part held (get_or (e ∷ here) i d) p (AllPass-from_list_all (holds_at (data_place part) held) (e ∷ here) h i d l) in
    (a.0, a.1 ∙ number_there e.held part p ∙ sym (first e))

pub agrees_one : (part : Part) (here : List Way) (c : ℕ) → IsPart part → All (λ e. Agree part c e) here → hold_one here (data_place part) ≡ true
agrees_one part [] c p all = refl
agrees_one part (e ∷ here) c p all =
    let held : ℕ = number_at e.held (data_place part) in
    list_all-from_AllPass (holds_at (data_place part) held) (e ∷ here) (λ i d l. agree_to part held (get_or (e ∷ here) i d) p
    ((all i d l).0, (all i d l).1 ∙ sym (all 0 e (omega arith)).1 ∙ sym (number_there e.held part p)))

pub not_one : (part : Part) (here : List Way) (c : ℕ) (r : Bool) → IsPart part → ((d : Way) → c ≡ held_at part (get_or here 0 d).held) → (All (λ e. Agree part c e) here → r ≡ true) → r ≡ false
    → hold_one here (data_place part) ≡ false
not_one part here c r p first only none = by (hold_one here (data_place part)) refl
  where
    by : (t : Bool) → hold_one here (data_place part) ≡ t → hold_one here (data_place part) ≡ false
    by true e = let yes : r ≡ true = only (one_agrees part here c p first e) in absurd (cc)
    by false e = e

met_one : (row : ℕ → ℕ) (ps : List PointerView) (here : List Way) (place : ℕ) → hold_one here place ≡ true → met_row row ps here place ≡ brought_row row ps here place
met_one row ps here place h = ap (λ (b : Bool). if b then brought_row row ps here place else chosen_row row ps here place) h

met_chosen : (row : ℕ → ℕ) (ps : List PointerView) (here : List Way) (place : ℕ) → hold_one here place ≡ false → met_row row ps here place ≡ chosen_row row ps here place
met_chosen row ps here place h = ap (λ (b : Bool). if b then brought_row row ps here place else chosen_row row ps here place) h

choosing_chosen : (row : ℕ → ℕ) (ps : List PointerView) (here : List Way) (k : Kinds) (part : Part) → IsPart part → is_open (kind_at part k) ≡ true → hold_one here (data_place part) ≡ false
    → choosing_row row ps here k (data_place part) ≡ chosen_row row ps here (data_place part)
choosing_chosen row ps here k part p o h =
    ap (λ (b : Bool). if b && not (hold_one here (data_place part)) then chosen_row row ps here (data_place part) else 0) (ap is_open (kind_there k part p) ∙ o)
    ∙ ap (λ (b : Bool). if not b then chosen_row row ps here (data_place part) else 0) h

-- ---- all edges bring one

number_less : (row : ℕ → ℕ) (lo hi : ℕ) (n : Number) (c : ℕ) → is_known (Num n) ≡ false → number_row row (Between lo hi) c ≤ number_row row n c
number_less row lo hi (Between l h) c k = omega arith
number_less row lo hi (Known a) c k = absurd (cc)

value_less : (row : ℕ → ℕ) (ps : List PointerView) (a b : Kind) (c : ℕ) → Widens a b → is_known b ≡ false → value_row row ps a c ≤ value_row row ps b c
value_less row ps Unset b c w k = omega arith
value_less row ps Mixed b c w k = omega arith
value_less row ps (Num (Between lo hi)) b c w k = subst (λ (y : Kind). value_row row ps (Num (Between lo hi)) c ≤ value_row row ps y c) (sym w.1) (number_less row lo hi w.0 c (subst (λ (y : Kind). is_known y ≡ false) w.1 k))
value_less row ps (Num (Known n)) b c w k = omega arith
value_less row ps (Var a f) b c w k = omega arith
value_less row ps a b c w k = subst (λ (y : Kind). value_row row ps a c ≤ value_row row ps y c) w (omega arith)

below : (a b c d : ℕ) → a ≤ b → b ≡ c → c ≤ d → a ≤ d
below a b c d p q r = omega (arith, p, q, r)

pub meets_same : (decls : List MapDecl) (cells : List CellView) (ps : List PointerView) (here : List Way) (k : Kinds) (part : Part) (c : ℕ) (e : Way) → AreAt decls cells ps here k part
    → All (λ e. Agree part c e) here → MeetsTo cells cells ps ps here k part c
meets_same decls cells ps here k part c e a all = record {
  grows = stand_none.grows;
  met = record {
    value = λ row rows.
        let f : Way = get_or here 0 e in
        below _ _ _ _ (value_less row ps (kind_at part k) (kind_at part f.kinds) c (part_wider k f.kinds part (a.wider 0 e a.some)) (all 0 e a.some).0)
        (ap (value_row row ps (kind_at part f.kinds)) (sym (all 0 e a.some).1) ∙ sym (row_there row ps f.held f.kinds part a.is_part))
        (subst (λ (n : ℕ). held_row row ps f.held f.kinds (data_place part) ≤ n) (sym (met_one row ps here (data_place part) (agrees_one part here c a.is_part all))) (brought_above row ps here (data_place part) 0 e a.some));
    same = λ h i d l. sym (all i d l).1 ∙ sym (number_there (get_or here i d).held part a.is_part);
  };
}

-- ---- something is chosen

chosen_to : (old new : List CellView) (ps qs : List PointerView) (here : List Way) (k : Kinds) (part : Part) (c : ℕ) (cs : List ℕ) (brings : (ℕ → ℕ) → Way → ℕ) → IsPart part → is_open (kind_at part k) ≡ true
    → hold_one here (data_place part) ≡ false → ((row : ℕ → ℕ) → All (λ e. brings row e ≤ value_row row ps (kind_at part e.kinds) (held_at part e.held)) here)
    → ((row : ℕ → ℕ) → value_row row qs (kind_at part k) c ≡ greatest row cs) → RiseAll old new cs (λ row. choice_row row brings here) → MeetsTo old new ps qs here k part c
chosen_to old new ps qs here k part c cs brings p o none low is r = record {
  grows = grows_by r.grows (λ row. subst (λ (n : ℕ). choice_row row brings here ≤ n) (sym (choosing_chosen row ps here k part p o none)) (chosen row));
  met = record {
    value = λ row rows. subst (λ (n : ℕ). value_row row qs (kind_at part k) c ≤ n) (sym (met_chosen row ps here (data_place part) none)) (up _ _ _ _ (is row) (r.results row rows) (chosen row));
    same = λ h. let no : true ≡ false = sym h ∙ none in absurd (cc);
  };
}
  where
    up : (a b c d : ℕ) → a ≡ b → b ≤ c → c ≤ d → a ≤ d
    up a b c d p q r = omega (arith, p, q, r)

    chosen : (row : ℕ → ℕ) → choice_row row brings here ≤ chosen_row row ps here (data_place part)
    chosen row = choice_chosen row ps brings here (data_place part) (λ i d l.
        subst (λ (n : ℕ). brings row (get_or here i d) ≤ n) (sym (row_there row ps (get_or here i d).held (get_or here i d).kinds part p)) (low row i d l))

number_low : (row : ℕ → ℕ) (ps : List PointerView) (a b : Kind) (c lo hi : ℕ) → a ≡ Num (Between lo hi) → Widens a b → number_row row (number_in b) c ≤ value_row row ps b c
number_low row ps a b c lo hi e w = let n = subst (λ (x : Kind). Widens x b) e w in subst (λ (x : Kind). number_row row (number_in x) c ≤ value_row row ps x c) (sym n.1) (omega arith)

pub meets_number : (decls : List MapDecl) (old new : List CellView) (ps : List PointerView) (here : List Way) (k : Kinds) (part : Part) (c lo hi : ℕ) → AreAt decls old ps here k part → kind_at part k ≡ Num (Between lo hi)
    → hold_one here (data_place part) ≡ false → Rises old new c (λ row. choice_row row (number_row_brought part) here) → MeetsTo old new ps ps here k part c
meets_number decls old new ps here k part c lo hi a e none r = chosen_to old new ps ps here k part c (c ∷ []) (number_row_brought part) a.is_part (ap is_open e) none
    (λ row i d l. number_low row ps (kind_at part k) (kind_at part (get_or here i d).kinds) (held_at part (get_or here i d).held) lo hi e (part_wider k (get_or here i d).kinds part (a.wider i d l)))
    (λ row. ap (λ (x : Kind). value_row row ps x c) e) (record { grows = r.grows; results = λ row rows. omega (arith, r.result row rows) })

pointer_open : (a : Kind) (q : ℕ) → map_of a ≡ Some q → is_open a ≡ true
pointer_open (Maybe r n) q e = refl
pointer_open (Entry r o) q e = refl
pointer_open a q e = absurd (cc)

pointer_value : (row : ℕ → ℕ) (ps : List PointerView) (a : Kind) (q c : ℕ) → map_of a ≡ Some q → value_row row ps a c ≡ greatest row (cells_of_pointer (pointer_at ps c))
pointer_value row ps (Maybe r n) q c e = refl
pointer_value row ps (Entry r o) q c e = refl
pointer_value row ps a q c e = absurd (cc)

same_map : (a b : Kind) (q : ℕ) → map_of a ≡ Some q → Widens a b → map_of b ≡ Some q
same_map (Maybe r n) b q e w = ap map_of (sym w) ∙ e
same_map (Entry r o) b q e w = ap map_of (sym w) ∙ e
same_map a b q e w = absurd (cc)

pub meets_pointer : (decls : List MapDecl) (old new : List CellView) (ps qs : List PointerView) (here : List Way) (k : Kinds) (part : Part) (q c : ℕ) → AreAt decls old ps here k part → map_of (kind_at part k) ≡ Some q
    → hold_one here (data_place part) ≡ false → RiseAll old new (cells_of_pointer (pointer_at qs c)) (λ row. choice_row row (pointer_row_brought ps part) here) → MeetsTo old new ps qs here k part c
meets_pointer decls old new ps qs here k part q c a e none r = chosen_to old new ps qs here k part c (cells_of_pointer (pointer_at qs c)) (pointer_row_brought ps part) a.is_part (pointer_open (kind_at part k) q e) none
    (λ row i d l.
    let f : Way = get_or here i d in
    let is = pointer_value row ps (kind_at part f.kinds) q (held_at part f.held) (same_map (kind_at part k) (kind_at part f.kinds) q e (part_wider k f.kinds part (a.wider i d l))) in
    subst (λ (n : ℕ). pointer_row_brought ps part row f ≤ n) (sym is) (least (pointer_row_brought ps part row f)))
    (λ row. pointer_value row qs (kind_at part k) q c e) r
  where
    least : (n : ℕ) → n ≤ n
    least n = omega arith

-- ---- kinds without data

none_row : (row : ℕ → ℕ) (ps : List PointerView) (a : Kind) (c : ℕ) → map_of a ≡ None → is_unknown a ≡ false → value_row row ps a c ≡ 0
none_row row ps (Num (Between lo hi)) c h g = absurd (cc)
none_row row ps (Num (Known a)) c h g = refl
none_row row ps (Maybe q j) c h g = absurd (cc)
none_row row ps (Entry q o) c h g = absurd (cc)
none_row row ps a c h g = refl

pub meets_none : (cells : List CellView) (ps : List PointerView) (here : List Way) (k : Kinds) (part : Part) (c : ℕ) → map_of (kind_at part k) ≡ None → is_unknown (kind_at part k) ≡ false
    → hold_one here (data_place part) ≡ false → MeetsTo cells cells ps ps here k part c
meets_none cells ps here k part c h g none = record {
  grows = stand_none.grows;
  met = record {
    value = λ row rows. zero_less (value_row row ps (kind_at part k) c) _ (none_row row ps (kind_at part k) c h g);
    same = λ one. let no : true ≡ false = sym one ∙ none in absurd (cc);
  };
}
  where
    zero_less : (a b : ℕ) → a ≡ 0 → a ≤ b
    zero_less a b e = omega (arith, e)
