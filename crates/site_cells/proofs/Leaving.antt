-- In which rows stands what is held after an operation on a map.
use Rattle.std.proofs.Common.{◌≡◌, ◌≢◌, ℕ, ◌+◌, ◌-◌, ◌<◌, ◌≤◌, ◌⊎◌, inl, inr, ◌==◌, ◌||◌, if◌then◌else◌, Bool, true, false, Option, Some, List, [], ◌∷◌, ◌++◌, length, get_or, slice_index, refl, sym, subst, arith}
use Rattle.std.specs.List.{list_any}
use Rattle.std.proofs.lemmas.Bool.{cases_lt, lt-ltb, le-ltb}
use Rattle.cell_core.specs.xdp_maps.declared.decl.MapDecl.{MapDecl}
use Rattle.kind_core.specs.declared.kind.Kind.{Kind}
use Rattle.kind_core.specs.declared.kind.Kind.TheVariants.{Unset, Num, Maybe, Entry, Stale}
use Rattle.kind_core.specs.declared.kind.Kinds.{Kinds}
use Rattle.kind_core.specs.Kinds.{register}
use Rattle.cell_core.specs.Cells.{CellView}
use Rattle.cell_core.specs.Rows.{AreRows, greatest}
use Rattle.operator_cells.specs.Rising.{GrowsTo}
use Rattle.operator_cells.specs.row_rules.declared.place_rows.span.Span.{Span}
use Rattle.operator_cells.specs.row_rules.PlaceRows.Spans.{no_place, one, pending, pending_in, is_in, span_row}
use Rattle.operator_cells.specs.row_rules.declared.place_rows.location.Location.{Location}
use Rattle.operator_cells.specs.row_rules.declared.place_rows.location.Location.TheVariants as location
use Rattle.operator_cells.specs.row_rules.PlaceRows.Locations.{first_pending, location_at, IsLocation}
use Rattle.operator_cells.proofs.row_rules_laws.PlaceRows.LocationLaws.{location_there}
use Rattle.operator_cells.proofs.row_rules_laws.PlaceRows.SpanLaws.{in_none, in_one, is_inside, span_above, span_within}
use Rattle.operator_cells.specs.declared.held_cells.machine_cells.RegisterCells.{RegisterCells}
use Rattle.operator_cells.specs.HeldCells.RegisterCells.{PointerView, Counts, AreInside}
use Rattle.operator_cells.specs.HeldCells.Rows.{located_row, kind_at, number_at, cells_of_pointer, value_row, held_row, row_before, LeavesTo}
use Rattle.operator_cells.proofs.HeldCells.RowLaws.{register_row, past_held, put_register, number_kept}
use Rattle.site_cells.proofs.Adding.{old_pointer}
use Rattle.site_cells.proofs.Shedding.{IsBare, IsLess, Sheds, answer_kind, shed_kind, number_put}

pub trans_le : {a b c : ℕ} → a ≤ b → b ≤ c → a ≤ c
trans_le p q = omega (arith, p, q)

-- ---- before an instruction
module _ (row : ℕ → ℕ) (ps : List PointerView) (h : RegisterCells) (k : Kinds) where
  before_held : (q : Option ℕ) (c place : ℕ) → place < first_pending → row_before row ps h k q c place ≡ held_row row ps h k place
  before_held q c place l = rw (lt-ltb place first_pending l) refl

  held_before : (q : Option ℕ) (c place : ℕ) → held_row row ps h k place ≤ row_before row ps h k q c place
  held_before q c place = by (cases_lt place first_pending)
    where
      by : (place < first_pending) ⊎ (first_pending ≤ place) → held_row row ps h k place ≤ row_before row ps h k q c place
      by (inl l) = subst (λ (n : ℕ). held_row row ps h k place ≤ n) (sym (before_held q c place l)) (omega arith)
      by (inr l) = subst (λ (n : ℕ). n ≤ row_before row ps h k q c place) (sym (past_held row ps h k place l)) (omega arith)

  pub span_before : (q : Option ℕ) (c : ℕ) (s : Span) → span_row (held_row row ps h k) s ≤ span_row (row_before row ps h k q c) s
  span_before q c s = span_within (held_row row ps h k) s (span_row (row_before row ps h k q c) s) (λ place i. trans_le (held_before q c place) (span_above (row_before row ps h k q c) s place i))

  pub register_before : (q : Option ℕ) (c r : ℕ) → r ≤ 10 → value_row row ps (register k r) (slice_index h.registers r) ≤ span_row (row_before row ps h k q c) (one r)
  register_before q c r l =
      subst (λ (n : ℕ). n ≤ span_row (row_before row ps h k q c) (one r)) (register_row row ps h k r (omega (arith, l)))
      (trans_le (held_before q c r) (span_above (row_before row ps h k q c) (one r) r (is_inside r (one r) (omega arith) (omega arith))))

  same_pending : (q c : ℕ) → row_before row ps h k (Some q) c (first_pending + q) ≡ row c
  same_pending q c = rw (le-ltb (first_pending + q) first_pending (omega arith)) (by (first_pending + q == first_pending + q) refl)
    where
      by : (b : Bool) → (first_pending + q == first_pending + q) ≡ b → (if b then row c else 0) ≡ row c
      by true e = refl
      by false e = absurd (grind arith)

  pub pending_before : (used x : Option ℕ) (q c : ℕ) → used ≡ Some q → x ≡ Some q → row c ≤ span_row (row_before row ps h k used c) (pending_in x)
  pending_before used x q c e f =
      subst (λ (u : Option ℕ). row c ≤ span_row (row_before row ps h k u c) (pending_in x)) (sym e)
      (subst (λ (y : Option ℕ). row c ≤ span_row (row_before row ps h k (Some q) c) (pending_in y)) (sym f)
      (subst (λ (n : ℕ). n ≤ span_row (row_before row ps h k (Some q) c) (pending q)) (same_pending q c)
      (span_above (row_before row ps h k (Some q) c) (pending q) (first_pending + q) (is_inside (first_pending + q) (pending q) (omega arith) (omega arith)))))

-- ---- which places are written
in_first : (place r : ℕ) → list_any (is_in place) (one r ∷ no_place ∷ []) ≡ true → place ≡ r
in_first place r is = by (is_in place (one r)) refl (is_in place no_place) (in_none place) is
  where
    by : (a : Bool) → is_in place (one r) ≡ a → (b : Bool) → b ≡ false → (a || (b || false)) ≡ true → place ≡ r
    by true e b f g = in_one place r e
    by false e true f g = absurd (cc)
    by false e false f g = absurd (cc)

not_first : (place r : ℕ) → list_any (is_in place) (one r ∷ no_place ∷ []) ≡ false → place ≢ r
not_first place r is = by (is_in place (one r)) refl is
  where
    by : (a : Bool) → is_in place (one r) ≡ a → (a || (is_in place no_place || false)) ≡ false → place ≢ r
    by true e g = absurd (cc)
    by false e g = λ same. let t : is_in place (one r) ≡ true = is_inside place (one r) (omega (arith, same)) (omega (arith, same)) in absurd (cc)

-- ---- nothing is written
pub nothing_leaves : (ps : List PointerView) (h : RegisterCells) (k : Kinds) (q : Option ℕ) (c : ℕ) (old new : List CellView) (spans : List Span) (made result : (ℕ → ℕ) → ℕ) → ((place : ℕ) → list_any (is_in place) spans ≡ false) → GrowsTo old new made
    → LeavesTo (λ row. row_before row ps h k q c) ps h k h old new spans made result
nothing_leaves ps h k q c old new spans made result none grows = record {
  grows = grows;
  written = λ row rows place is. let n = none place in absurd (cc);
  kept = λ row rows place is. held_before row ps h k q c place;
  same = λ place l is. refl;
}

-- ---- more pointers
among_more : (decls : List MapDecl) (n : ℕ) (ps more : List PointerView) (row : ℕ → ℕ) (x : Kind) (c : ℕ) → Counts decls n ps x c → value_row row (ps ++ more) x c ≤ value_row row ps x c
among_more decls n ps more row (Maybe q j) c h = subst (λ (p : PointerView). greatest row (cells_of_pointer p) ≤ value_row row ps (Maybe q j) c) (sym (old_pointer ps more c h.0)) (omega arith)
among_more decls n ps more row (Entry q o) c h = subst (λ (p : PointerView). greatest row (cells_of_pointer p) ≤ value_row row ps (Entry q o) c) (sym (old_pointer ps more c h.0)) (omega arith)
among_more decls n ps more row (Num x) c h = omega arith
among_more decls n ps more row x c h = omega arith

-- what is held stands in no later row among more
pub rows_among : (decls : List MapDecl) (n : ℕ) (ps more : List PointerView) (h : RegisterCells) (k : Kinds) → AreInside decls n ps h k → (row : ℕ → ℕ) (place : ℕ) → held_row row (ps ++ more) h k place ≤ held_row row ps h k place
rows_among decls n ps more h k inside row place = by (location_at place) (location_there place)
  where
    by : (l : Location) → IsLocation l → located_row row (ps ++ more) h k l ≤ located_row row ps h k l
    by (location.Register r) there = among_more decls n ps more row (register k r) _ (inside.registers r (let small : r < 11 = there in omega (arith, small)))
    by (location.StackSlot s) there = among_more decls n ps more row (get_or k.slots s Unset) _ (inside.slots s (let small : s < 64 = there in omega (arith, small)))
    by (location.PacketByte i) there = omega arith
    by location.Target there = omega arith
    by (location.PendingWrites q) there = omega arith

-- ---- one register gets a value, and others keep what they have, or have no data any more
less_row : (row : ℕ → ℕ) (ps : List PointerView) (a b : Kind) (c : ℕ) → IsLess a b → value_row row ps b c ≤ value_row row ps a c
less_row row ps a b c (inl e) = subst (λ (y : Kind). value_row row ps y c ≤ value_row row ps a c) (sym e) (omega arith)
less_row row ps a b c (inr bare) = by b bare
  where
    by : (y : Kind) → IsBare y → value_row row ps y c ≤ value_row row ps a c
    by Unset t = omega arith
    by Stale t = omega arith
    by y t = absurd t

pub shed_leaves : (ps qs : List PointerView) (h : RegisterCells) (k after : Kinds) (r answer : ℕ) (x : Kind) (q : Option ℕ) (c : ℕ) (old new : List CellView) (made result : (ℕ → ℕ) → ℕ) → Sheds k after r x → r ≤ 10 → length h.registers ≡ 11
    → ((row : ℕ → ℕ) (place : ℕ) → held_row row qs h k place ≤ held_row row ps h k place) → GrowsTo old new made → ((row : ℕ → ℕ) → AreRows new row → value_row row qs x answer ≤ result row)
    → LeavesTo (λ row. row_before row ps h k q c) qs h after (put_register h r answer) old new (one r ∷ no_place ∷ []) made result
shed_leaves ps qs h k after r answer x q c old new made result sheds small whole among grows own =
    let next : RegisterCells = put_register h r answer in
    record {
      grows = grows;
      written = λ row rows place is. subst (λ (p : ℕ). held_row row qs next after p ≤ result row) (sym (in_first place r is))
          (subst (λ (y : Kind). value_row row qs y (number_at next r) ≤ result row) (sym (answer_kind k after r x sheds small))
          (subst (λ (m : ℕ). value_row row qs x m ≤ result row) (sym (number_put h r answer small whole)) (own row rows)));
      kept = λ row rows place is. let other = not_first place r is in
          trans_le
          (subst (λ (m : ℕ). value_row row qs (kind_at after place) m ≤ held_row row qs h k place) (sym (number_kept h r answer place other))
          (less_row row qs (kind_at k place) (kind_at after place) (number_at h place) (shed_kind k after r x sheds place other)))
          (trans_le (among row place) (held_before row ps h k q c place));
      same = λ place l is. number_kept h r answer place (not_first place r is);
    }
