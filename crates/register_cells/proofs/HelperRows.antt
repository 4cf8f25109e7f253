-- A helper that asks no map: in which rows its cells stand.
use Rattle.std.proofs.Common.{◌≡◌, ◌≢◌, ◌⊎◌, inl, inr, ℕ, zero, suc, ◌+◌, ◌<◌, ◌≤◌, max, ◌||◌, Bool, true, false, if◌then◌else◌, List, [], ◌∷◌, length, drop, get_or, set as set_list, slice_index, slice_set, refl, sym, ◌∙◌, ap, subst, arith, Option, Some}
use Rattle.std.specs.List.{list_any}
use Rattle.std.proofs.lemmas.List.{get_or-set_same, get_or-set_other, get_or-drop}
use Rattle.cell_core.specs.bpf_isa.declared.operation.Op.TheVariants.{Call}
use Rattle.cell_core.specs.bpf_isa.declared.instruction.Insn.{Insn}
use Rattle.cell_core.specs.bpf_isa.declared.helper.Helper.{Helper}
use Rattle.cell_core.specs.bpf_isa.declared.helper.Helper.TheVariants.{Time, Redirect}
use Rattle.cell_core.specs.bpf_isa.Helpers.{helper_of}
use Rattle.cell_core.specs.xdp_maps.declared.decl.MapDecl.{MapDecl}
use Rattle.kind_core.specs.NumberBounds.{any_number}
use Rattle.kind_core.specs.declared.kind.Kind.TheVariants.{Unset, Num}
use Rattle.kind_core.specs.declared.kind.Kinds.{Kinds}
use Rattle.kind_core.specs.Kinds.{register, answering}
use Rattle.cell_core.specs.Cells.{CellView}
use Rattle.cell_core.specs.Rows.{AreRows}
use Rattle.operator_cells.specs.Rising.{GrowsTo, Rises}
use Rattle.operator_cells.proofs.RisingLaws.{stand_none, stand_more}
use Rattle.operator_cells.specs.row_rules.declared.place_rows.span.Span.{Span}
use Rattle.operator_cells.specs.row_rules.PlaceRows.Spans.{no_place, one, target, is_in, spans_row}
use Rattle.operator_cells.specs.row_rules.PlaceRows.Calls.{call_reads, call_writes}
use Rattle.operator_cells.specs.row_rules.PlaceRows.Reading.{result_as, result_row}
use Rattle.operator_cells.specs.row_rules.PlaceRows.Writing.{writes_as, is_open_in, made_row}
use Rattle.operator_cells.specs.row_rules.declared.place_rows.location.Location.{Location}
use Rattle.operator_cells.specs.row_rules.declared.place_rows.location.Location.TheVariants as location
use Rattle.operator_cells.specs.row_rules.PlaceRows.Locations.{target_number, first_pending, location_at}
use Rattle.operator_cells.proofs.row_rules_laws.PlaceRows.LocationLaws.{numbered_as}
use Rattle.operator_cells.proofs.row_rules_laws.PlaceRows.SpanLaws.{in_one, in_none, is_inside, one_row}
use Rattle.operator_cells.specs.declared.held_cells.machine_cells.RegisterCells.{RegisterCells}
use Rattle.operator_cells.specs.HeldCells.RegisterCells.{PointerView}
use Rattle.operator_cells.specs.HeldCells.Rows.{number_by, located_row, number_at, value_row, held_row, LeavesTo, CarriesTo}
use Rattle.operator_cells.proofs.HeldCells.RowLaws.{grows_by, register_row, target_row}
use Rattle.register_cells.proofs.ValueLaws.{same_most, zero_most, trans_most}
use Rattle.register_cells.proofs.RegisterRows.{not_first, open_first, below}

first_most : {a : ℕ} (b : ℕ) → a ≤ max a b
first_most b = omega arith

abbrev pub answered : RegisterCells → ℕ → ℕ → RegisterCells
answered h c t = record h { registers = slice_set h.registers 0 c; target = t }

-- R1 to R5 hold nothing, and later registers what they held
registers_kept : (row : ℕ → ℕ) (ps : List PointerView) (k : Kinds) (hs : List ℕ) (c r : ℕ) → r ≢ 0
    → value_row row ps (get_or (Num (any_number 64) ∷ Unset ∷ Unset ∷ Unset ∷ Unset ∷ Unset ∷ drop 6 k.registers) r Unset) (slice_index (set_list hs 0 c) r) ≤ value_row row ps (get_or k.registers r Unset) (slice_index hs r)
registers_kept row ps k hs c zero other = absurd (other refl)
registers_kept row ps k hs c (suc zero) other = zero_most
registers_kept row ps k hs c (suc (suc zero)) other = zero_most
registers_kept row ps k hs c (suc (suc (suc zero))) other = zero_most
registers_kept row ps k hs c (suc (suc (suc (suc zero)))) other = zero_most
registers_kept row ps k hs c (suc (suc (suc (suc (suc zero))))) other = zero_most
registers_kept row ps k hs c (suc (suc (suc (suc (suc (suc r)))))) other =
    let e : 6 + r ≡ suc (suc (suc (suc (suc (suc r))))) = omega arith in
    rw (get_or-drop 6 k.registers r Unset ∙ ap (λ (j : ℕ). get_or k.registers j Unset) e, get_or-set_other hs 0 (suc (suc (suc (suc (suc (suc r)))))) c 0 other) same_most

module _ (ps : List PointerView) (k : Kinds) (h : RegisterCells) (c t : ℕ) where
  answer_row : (row : ℕ → ℕ) → 0 < length h.registers → held_row row ps (answered h c t) (answering (Num (any_number 64)) k) 0 ≡ row c
  answer_row row some = register_row row ps (answered h c t) (answering (Num (any_number 64)) k) 0 (omega arith) ∙ ap (value_row row ps (Num (any_number 64))) (get_or-set_same h.registers 0 c 0 some) ∙ omega arith

  places_kept : (row : ℕ → ℕ) (place : ℕ) → place ≢ 0 → (place ≡ target_number → t ≡ h.target) → held_row row ps (answered h c t) (answering (Num (any_number 64)) k) place ≤ held_row row ps h k place
  places_kept row place first last = by (location_at place) refl
    where
      by : (l : Location) → location_at place ≡ l → located_row row ps (answered h c t) (answering (Num (any_number 64)) k) l ≤ located_row row ps h k l
      by (location.Register r) e = registers_kept row ps k h.registers c r (λ same. first (numbered_as place (location.Register r) e ∙ same))
      by (location.StackSlot s) e = same_most
      by (location.PacketByte i) e = same_most
      by location.Target e = rw (last (numbered_as place location.Target e)) same_most
      by (location.PendingWrites q) e = same_most

  numbers_kept : (place : ℕ) → place < first_pending → place ≢ 0 → (place ≡ target_number → t ≡ h.target) → number_at (answered h c t) place ≡ number_at h place
  numbers_kept place within first last = by (location_at place) refl
    where
      by : (l : Location) → location_at place ≡ l → number_by (answered h c t) l ≡ number_by h l
      by (location.Register r) e = let off : r ≢ 0 = λ same. first (numbered_as place (location.Register r) e ∙ same) in rw (get_or-set_other h.registers 0 r c 0 off) refl
      by (location.StackSlot s) e = refl
      by (location.PacketByte i) e = refl
      by location.Target e = last (numbered_as place location.Target e)
      by (location.PendingWrites q) e = refl

-- the second span that is written: the target, or none where the target stays
abbrev pub Second : ℕ → RegisterCells → Span → Type 0
Second t h s = (s ≡ target) ⊎ ((s ≡ no_place) × (t ≡ h.target))

some_in : (b : Bool) → (false || (b || false)) ≡ true → b ≡ true
some_in true g = refl
some_in false g = absurd (cc)

in_either : (place : ℕ) (s : Span) → list_any (is_in place) (one 0 ∷ s ∷ []) ≡ true → (place ≡ 0) ⊎ (is_in place s ≡ true)
in_either place s h = by (is_in place (one 0)) refl h
  where
    by : (b : Bool) → is_in place (one 0) ≡ b → (b || (is_in place s || false)) ≡ true → (place ≡ 0) ⊎ (is_in place s ≡ true)
    by true e f = inl (in_one place 0 e)
    by false e f = inr (some_in (is_in place s) f)

in_second : (place : ℕ) (s : Span) → list_any (is_in place) (one 0 ∷ s ∷ []) ≡ false → is_in place s ≡ false
in_second place s h = by (is_in place (one 0)) (is_in place s) h
  where
    by : (a b : Bool) → (a || (b || false)) ≡ false → b ≡ false
    by true b f = absurd (cc)
    by false true f = absurd (cc)
    by false false f = refl

leaves_answer : {old new : List CellView} {made result : (ℕ → ℕ) → ℕ} (ps : List PointerView) (k : Kinds) (h : RegisterCells) (c t : ℕ) (s : Span) → 0 < length h.registers → Second t h s
    → GrowsTo old new made → ((row : ℕ → ℕ) → AreRows new row → row c ≤ result row) → ((row : ℕ → ℕ) → AreRows new row → s ≡ target → row t ≤ result row)
    → LeavesTo (λ row. held_row row ps h k) ps h (answering (Num (any_number 64)) k) (answered h c t) old new (one 0 ∷ s ∷ []) made result
leaves_answer {new = new} {result = result} ps k h c t s some second grows first last = record {
  grows = grows;
  written = λ row rows place at. at_place row rows place (in_either place s at) second;
  kept = λ row rows place at. places_kept ps k h c t row place (not_first place 0 _ at) (λ e. stays place e (in_second place s at) second);
  same = λ place within at. numbers_kept ps k h c t place within (not_first place 0 _ at) (λ e. stays place e (in_second place s at) second);
}
  where
    at_place : (row : ℕ → ℕ) → AreRows new row → (place : ℕ) → (place ≡ 0) ⊎ (is_in place s ≡ true) → Second t h s → held_row row ps (answered h c t) (answering (Num (any_number 64)) k) place ≤ result row
    at_place row rows place (inl e) two = subst (λ (p : ℕ). held_row row ps (answered h c t) (answering (Num (any_number 64)) k) p ≤ result row) (sym e) (below (answer_row ps k h c t row some) (first row rows))
    at_place row rows place (inr e) (inl is) =
        let at : place ≡ target_number = in_one place target_number (ap (is_in place) (sym is) ∙ e) in
        subst (λ (p : ℕ). held_row row ps (answered h c t) (answering (Num (any_number 64)) k) p ≤ result row) (sym at) (below (target_row row ps (answered h c t) (answering (Num (any_number 64)) k)) (last row rows is))
    at_place row rows place (inr e) (inr none) = let f : false ≡ true = sym (in_none place) ∙ ap (is_in place) (sym none.0) ∙ e in absurd (cc)

    at_target : (place : ℕ) → place ≡ target_number → is_in place target ≡ true
    at_target place e = is_inside place target (omega (arith, e)) (omega (arith, e))

    stays : (place : ℕ) → place ≡ target_number → is_in place s ≡ false → Second t h s → t ≡ h.target
    stays place e f (inl is) = let g : true ≡ false = sym (at_target place e) ∙ ap (is_in place) (sym is) ∙ f in absurd (cc)
    stays place e f (inr none) = none.1

-- what a helper that takes a row of its own answers
answers_to : {old new : List CellView} (decls : List MapDecl) (ps : List PointerView) (i : Insn) (k after : Kinds) (h : RegisterCells) (c t : ℕ) (s : Span) → writes_as k i i.op ≡ one 0 ∷ s ∷ [] → after ≡ answering (Num (any_number 64)) k
    → 0 < length h.registers → Second t h s → GrowsTo old new (λ row. result_row (held_row row ps h k) decls k after i)
    → ((row : ℕ → ℕ) → AreRows new row → row c ≤ result_row (held_row row ps h k) decls k after i) → ((row : ℕ → ℕ) → AreRows new row → s ≡ target → row t ≤ result_row (held_row row ps h k) decls k after i)
    → CarriesTo decls (λ row. held_row row ps h k) ps i k h after (answered h c t) old new
answers_to {old} {new} decls ps i k after h c t s writes is some second grows first last =
    let result : (ℕ → ℕ) → ℕ = λ row. result_row (held_row row ps h k) decls k after i in
    let made : (ℕ → ℕ) → ℕ = λ row. made_row (held_row row ps h k) decls k after i in
    let zero_is : register after 0 ≡ Num (any_number 64) = ap (λ (j : Kinds). register j 0) is in
    let is_some : list_any (is_open_in after) (writes_as k i i.op) ≡ true = ap (list_any (is_open_in after)) writes ∙ open_first after 0 (Num (any_number 64)) _ (omega arith) zero_is refl in
    let leaves : LeavesTo (λ row. held_row row ps h k) ps h (answering (Num (any_number 64)) k) (answered h c t) old new (one 0 ∷ s ∷ []) made result =
    leaves_answer ps k h c t s some second (grows_by grows (λ row. above (result row) _ _ is_some)) first last in
    subst (λ (ss : List Span). LeavesTo (λ row. held_row row ps h k) ps h after (answered h c t) old new ss made result) (sym writes)
    (subst (λ (a : Kinds). LeavesTo (λ row. held_row row ps h k) ps h a (answered h c t) old new (one 0 ∷ s ∷ []) made result) (sym is) leaves)
  where
    above : (r n : ℕ) (b : Bool) → b ≡ true → r ≤ max (if b then r else 0) n
    above r n b e = rw e (first_most n)

-- the row of what a helper gives, and the places that it writes
call_row : (R : ℕ → ℕ) (decls : List MapDecl) (k after : Kinds) (i : Insn) (helper : Option Helper) → i.op ≡ Call → helper_of i.imm ≡ helper → result_row R decls k after i ≡ spans_row R (call_reads decls k helper) + 1
call_row R decls k after i helper op is = ap (result_as R decls k after i) op ∙ ap (λ (h : Option Helper). spans_row R (call_reads decls k h) + 1) is

call_places : (k : Kinds) (i : Insn) (helper : Option Helper) → i.op ≡ Call → helper_of i.imm ≡ helper → writes_as k i i.op ≡ one 0 ∷ call_writes helper ∷ []
call_places k i helper op is = ap (writes_as k i) op ∙ ap (λ (h : Option Helper). one 0 ∷ call_writes h ∷ []) is

-- the time
pub time_to : {old new : List CellView} (decls : List MapDecl) (ps : List PointerView) (i : Insn) (k after : Kinds) (h : RegisterCells) (c : ℕ) → i.op ≡ Call → helper_of i.imm ≡ Some Time → after ≡ answering (Num (any_number 64)) k → 0 < length h.registers
    → Rises old new c (λ row. 1) → CarriesTo decls (λ row. held_row row ps h k) ps i k h after (answered h c h.target) old new
time_to decls ps i k after h c op helper is some r =
    let least : (row : ℕ → ℕ) → 1 ≤ result_row (held_row row ps h k) decls k after i = λ row. later (spans_row (held_row row ps h k) (call_reads decls k (Some Time))) (call_row (held_row row ps h k) decls k after i (Some Time) op helper) in
    answers_to decls ps i k after h c h.target no_place (call_places k i (Some Time) op helper) is some (inr (refl, refl)) (grows_by r.grows least) (λ row rows. trans_most (r.result row rows) (least row)) (λ row rows e. absurd (apart e))
  where
    apart : no_place ≡ target → ⊥
    apart e = let at : Span → ℕ = λ (s : Span). s.from in let f : at no_place ≡ at target = ap at e in absurd (omega (arith, f))

    later : {n : ℕ} (m : ℕ) → n ≡ m + 1 → 1 ≤ n
    later m e = omega (arith, e)

-- a redirect, of two numbers and the target
pub redirect_to : {s0 s1 s2 s3 s4 s5 : List CellView} {a b sent : ℕ} (decls : List MapDecl) (ps : List PointerView) (i : Insn) (k after : Kinds) (h : RegisterCells) (c t : ℕ) → i.op ≡ Call → helper_of i.imm ≡ Some Redirect → after ≡ answering (Num (any_number 64)) k
    → 0 < length h.registers → Rises s0 s1 a (λ row. value_row row ps (register k 1) (slice_index h.registers 1)) → Rises s1 s2 b (λ row. value_row row ps (register k 2) (slice_index h.registers 2))
    → Rises s2 s3 sent (λ row. max (row b) (max (row a) (row h.target)) + 1) → Rises s3 s4 c (λ row. row sent) → Rises s4 s5 t (λ row. max (row sent) (max (row a) (row h.target)))
    → CarriesTo decls (λ row. held_row row ps h k) ps i k h after (answered h c t) s0 s5
redirect_to decls ps i k after h c t op helper is some interface flags sent answer aim =
    let result : (ℕ → ℕ) → ℕ = λ row. result_row (held_row row ps h k) decls k after i in
    let a1 : (ℕ → ℕ) → ℕ = λ row. value_row row ps (register k 1) (slice_index h.registers 1) in
    let a2 : (ℕ → ℕ) → ℕ = λ row. value_row row ps (register k 2) (slice_index h.registers 2) in
    let a3 : (ℕ → ℕ) → ℕ = λ row. row h.target in
    let least : (row : ℕ → ℕ) → max (a1 row) (max (a2 row) (a3 row)) + 1 ≤ result row =
    λ row. least_by (call_row (held_row row ps h k) decls k after i (Some Redirect) op helper)
    (three (one_row (held_row row ps h k) 1 ∙ register_row row ps h k 1 (omega arith)) (one_row (held_row row ps h k) 2 ∙ register_row row ps h k 2 (omega arith)) (one_row (held_row row ps h k) target_number ∙ target_row row ps h k)) in
    let s = stand_more {last = result} (stand_more (stand_more (stand_more (stand_more stand_none interface (λ row p. first (a1 row) (a2 row) (a3 row) (least row))) flags (λ row p. second (a1 row) (a2 row) (a3 row) (least row)))
    sent (λ row p. third (a1 row) (a2 row) (a3 row) p.0.1 p.1 (least row))) answer (λ row p. fourth (a1 row) (a2 row) (a3 row) p.0.0.1 p.0.1 p.1 (least row))) aim (λ row p. fifth (a1 row) (a2 row) (a3 row) p.0.0.0.1 p.0.0.1 p.0.1 (least row)) in
    answers_to decls ps i k after h c t target (call_places k i (Some Redirect) op helper) is some (inl refl) s.grows
    (λ row rows. let p = s.known row rows in trans_most p.0.1 (fourth (a1 row) (a2 row) (a3 row) p.0.0.0.0.1 p.0.0.0.1 p.0.0.1 (least row)))
    (λ row rows e. let p = s.known row rows in trans_most p.1 (fifth (a1 row) (a2 row) (a3 row) p.0.0.0.0.1 p.0.0.0.1 p.0.0.1 (least row)))
  where
    least_by : {n m l : ℕ} → n ≡ m → l ≤ m → l ≤ n
    least_by e l = omega (arith, e, l)

    three : {a b d x y z : ℕ} → x ≡ a → y ≡ b → z ≡ d → max a (max b d) + 1 ≤ max x (max y (max z (max 0 0))) + 1
    three e f g = omega (arith, e, f, g)

    first : (a b d : ℕ) {n : ℕ} → max a (max b d) + 1 ≤ n → a ≤ n
    first a b d l = omega (arith, l)

    second : (a b d : ℕ) {n : ℕ} → max a (max b d) + 1 ≤ n → b ≤ n
    second a b d l = omega (arith, l)

    third : (a b d : ℕ) {x y n : ℕ} → x ≤ a → y ≤ b → max a (max b d) + 1 ≤ n → max y (max x d) + 1 ≤ n
    third a b d e f l = omega (arith, e, f, l)

    fourth : (a b d : ℕ) {x y z n : ℕ} → x ≤ a → y ≤ b → z ≤ max y (max x d) + 1 → max a (max b d) + 1 ≤ n → z ≤ n
    fourth a b d e f g l = omega (arith, e, f, g, l)

    fifth : (a b d : ℕ) {x y z n : ℕ} → x ≤ a → y ≤ b → z ≤ max y (max x d) + 1 → max a (max b d) + 1 ≤ n → max z (max x d) ≤ n
    fifth a b d e f g l = omega (arith, e, f, g, l)
