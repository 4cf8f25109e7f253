-- What stands after a node, place by place.
use Rattle.std.proofs.Common.{◌≡◌, ◌≢◌, ◌∙◌, ℕ, suc, ◌≤◌, ◌==◌, ◌⊎◌, inl, inr, Bool, true, false, if◌then◌else◌, Option, Some, None, List, [], ◌∷◌, get_or, refl, sym, ap, arith}
use Rattle.std.specs.Prelude.{All}
use Rattle.std.specs.List.{list_any}
use Rattle.std.proofs.lemmas.Bool.{eqb-true, eqb-false, eq-eqb}
use Rattle.kind_core.specs.declared.kind.Kinds.{Kinds}
use Rattle.cell_core.specs.Rows.{greatest}
use Rattle.operator_cells.specs.row_rules.declared.place_rows.origin.Origin.{Origin}
use Rattle.operator_cells.specs.row_rules.declared.place_rows.span.Span.{Span}
use Rattle.operator_cells.specs.row_rules.declared.place_rows.recording.Record.{Record}
use Rattle.operator_cells.specs.row_rules.PlaceRows.Spans.{pending_place, is_in}
use Rattle.operator_cells.specs.row_rules.PlaceRows.Origins.{has_data, row_of, row_at}
use Rattle.operator_cells.proofs.row_rules_laws.PlaceRows.SpanLaws.{one_row}
use Rattle.operator_cells.specs.row_rules.NodeRows.Passing.{written, is_some_place, pending_row, noted}
use Rattle.operator_cells.specs.HeldCells.Rows as cells

pub greatest_all : (row : ℕ → ℕ) (n : ℕ) (xs : List ℕ) → All (λ c. row c ≤ n) xs → greatest row xs ≤ n
greatest_all row n [] h = omega arith
greatest_all row n (x ∷ xs) h = omega (arith, h 0 x (omega arith), greatest_all row n xs (λ k d l. h (suc k) d (omega (arith, l))))

pub same_some : (ss : List Span) → cells.is_some_place ss ≡ is_some_place ss
same_some [] = refl
same_some (s ∷ ss) = refl

module _ (os : List (Option Origin)) (maker least place : ℕ) (x : Option Origin) where
  -- a place that is not noted
  pub noted_other : (w : Option Record) → ((r : Record) → w ≡ Some r → place ≢ pending_place r.map) → noted os w maker least place x ≡ x
  noted_other None h = refl
  noted_other (Some r) h = by (place == pending_place r.map) refl
    where
      by : (b : Bool) → (place == pending_place r.map) ≡ b → (if b then Some (record { maker = maker; row = pending_row os r least }) else x) ≡ x
      by true e = absurd (h r refl (eqb-true place (pending_place r.map) e))
      by false e = refl

  pub noted_here : (w : Option Record) (r : Record) → w ≡ Some r → place ≡ pending_place r.map → row_of (noted os w maker least place x) ≡ pending_row os r least
  noted_here None r e f = cc
  noted_here (Some s) r e f =
      let same : s ≡ r = cc in
      let t : (place == pending_place s.map) ≡ true = eq-eqb place (pending_place s.map) (f ∙ ap (λ (y : Record). pending_place y.map) (sym same)) in
      rw t (ap (λ (y : Record). pending_row os y least) same)

  -- a name that stays, or the node's own
  pub noted_cases : (w : Option Record) (o : Origin) → noted os w maker least place x ≡ Some o → (o.maker ≡ maker) ⊎ ((x ≡ Some o) × ((r : Record) → w ≡ Some r → place ≢ pending_place r.map))
  noted_cases None o h = inr (h, λ r e. absurd (cc))
  noted_cases (Some s) o h = by (place == pending_place s.map) refl h
    where
      by : (b : Bool) → (place == pending_place s.map) ≡ b → (if b then Some (record { maker = maker; row = pending_row os s least }) else x) ≡ Some o
          → (o.maker ≡ maker) ⊎ ((x ≡ Some o) × ((r : Record) → Some s ≡ Some r → place ≢ pending_place r.map))
      by true e g = inl (own (record { maker = maker; row = pending_row os s least }) o g refl)
        where
          own : (a b : Origin) → Some a ≡ Some b → a.maker ≡ maker → b.maker ≡ maker
          own a b f m = let same : a ≡ b = cc in sym (ap (λ (y : Origin). y.maker) same) ∙ m
      by false e g = inr (g, λ r f at. let same : s ≡ r = cc in eqb-false place (pending_place s.map) e (at ∙ ap (λ (y : Record). pending_place y.map) (sym same)))

  pub noted_above : (w : Option Record) → x ≡ get_or os place None → row_at os place ≤ row_of (noted os w maker least place x)
  noted_above None e = omega (arith, ap row_of e)
  noted_above (Some s) e = by (place == pending_place s.map) refl
    where
      by : (b : Bool) → (place == pending_place s.map) ≡ b → row_at os place ≤ row_of (if b then Some (record { maker = maker; row = pending_row os s least }) else x)
      by true f =
          let at = ap (row_at os) (eqb-true place (pending_place s.map) f) in
          let own = one_row (row_at os) (pending_place s.map) in omega (arith, at, own)
      by false f = omega (arith, ap row_of e)

module _ (after : Kinds) (spans : List Span) (own : Origin) (os : List (Option Origin)) (place : ℕ) where
  pub written_not : list_any (is_in place) spans ≡ false → written after spans own os place ≡ get_or os place None
  written_not e = rw e refl

  pub written_in : list_any (is_in place) spans ≡ true → has_data after place ≡ true → written after spans own os place ≡ Some own
  written_in e f = rw (e, f) refl

  pub written_cases : (o : Origin) → written after spans own os place ≡ Some o → (o.maker ≡ own.maker) ⊎ ((list_any (is_in place) spans ≡ false) × (get_or os place None ≡ Some o))
  written_cases o h = by (list_any (is_in place) spans) refl (has_data after place) h
    where
      by : (a : Bool) → list_any (is_in place) spans ≡ a → (b : Bool) → (if a then (if b then Some own else None) else get_or os place None) ≡ Some o
          → (o.maker ≡ own.maker) ⊎ ((list_any (is_in place) spans ≡ false) × (get_or os place None ≡ Some o))
      by true e true g = inl (let same : own ≡ o = cc in ap (λ (y : Origin). y.maker) (sym same))
      by true e false g = cc
      by false e b g = inr (e, g)
