-- The origins that edges bring to a place, and what edges hold there.
use Rattle.std.proofs.Common.{◌≡◌, ◌∙◌, ℕ, zero, suc, ◌≤◌, ◌==◌, ◌&&◌, ◌⊎◌, inl, inr, Bool, true, false, if◌then◌else◌, Option, Some, None, List, [], ◌∷◌, get_or, refl, sym, ap, arith}
use Rattle.std.specs.Prelude.{All, Contains}
use Rattle.std.proofs.lemmas.Bool.{eqb-true, eq-eqb}
use Rattle.std.proofs.lemmas.List.Elements.{All-nil, All-cons, All-contains}
use Rattle.std.proofs.lemmas.List.Sums.{list_all-from_AllPass}
use Rattle.cell_core.specs.Rows.{greatest}
use Rattle.operator_cells.specs.declared.joining.Arm.{Arm}
use Rattle.operator_cells.specs.Joining.{flat}
use Rattle.operator_cells.specs.row_rules.declared.place_rows.origin.Origin.{Origin}
use Rattle.operator_cells.specs.row_rules.PlaceRows.Origins.{row_of}
use Rattle.operator_cells.specs.row_rules.PlaceRows.Reading.{is_known}
use Rattle.operator_cells.specs.row_rules.declared.node_rows.joining.Arrival.{Arrival}
use Rattle.operator_cells.specs.row_rules.NodeRows.Joining.{brings, edge_row, brought_row, is_origin, all_bring, new_origin, met}
use Rattle.operator_cells.specs.declared.held_cells.way.Way.{Way}
use Rattle.operator_cells.specs.HeldCells.RegisterCells.{PointerView}
use Rattle.operator_cells.specs.HeldCells.Rows as cells
use Rattle.operator_cells.specs.HeldCells.Rows.{kind_at, number_at, held_row, bits_row, holds_at, hold_one, chosen_row}

-- ---- origins

-- all edges bring one origin, or the node makes a new one
pub met_is : (es : List Arrival) (maker place : ℕ) (first : Option Origin) → (o : Origin) × (met es maker place first ≡ Some o) × ((all_bring es place o ≡ true) ⊎ (o ≡ new_origin es maker place))
met_is es maker place None = (new_origin es maker place, refl, inr refl)
met_is es maker place (Some o) = by (all_bring es place o) refl
  where
    by : (b : Bool) → all_bring es place o ≡ b → (n : Origin) × ((if all_bring es place o then Some o else Some (new_origin es maker place)) ≡ Some n) × ((all_bring es place n ≡ true) ⊎ (n ≡ new_origin es maker place))
    by true e = (o, rw e refl, inl e)
    by false e = (new_origin es maker place, rw e refl, inr refl)

abbrev made : ℕ → ℕ → Origin
made maker row = record { maker = maker; row = row }

is_one : (a : Option Origin) (o : Origin) → is_origin a o ≡ true → a ≡ Some o
is_one None o h = cc
is_one (Some p) o h = by (p.maker == o.maker) refl (p.row == o.row) refl h
  where
    by : (a : Bool) → (p.maker == o.maker) ≡ a → (b : Bool) → (p.row == o.row) ≡ b → (a && b) ≡ true → Some p ≡ Some o
    by true f true g e = ap (λ (m : ℕ). Some (made m p.row)) (eqb-true p.maker o.maker f) ∙ ap (λ (r : ℕ). Some (made o.maker r)) (eqb-true p.row o.row g)
    by true f false g e = cc
    by false f b g e = cc

pub bring_each : (es : List Arrival) (place : ℕ) (o : Origin) → all_bring es place o ≡ true → All (λ a. brings a place ≡ Some o) es
bring_each [] place o h = All-nil (λ a. brings a place ≡ Some o)
bring_each (a ∷ es) place o h = by (is_origin (brings a place) o) refl (all_bring es place o) refl (λ f. bring_each es place o f) h
  where
    by : (b : Bool) → is_origin (brings a place) o ≡ b → (c : Bool) → all_bring es place o ≡ c → (all_bring es place o ≡ true → All (λ x. brings x place ≡ Some o) es) → (b && c) ≡ true → All (λ x. brings x place ≡ Some o) (a ∷ es)
    by true e true f rest g = All-cons (λ x. brings x place ≡ Some o) a es (is_one (brings a place) o e) (rest f)
    by true e false f rest g = cc
    by false e c f rest g = cc

pub rows_above : (es : List Arrival) → All (λ a. a.row ≤ edge_row es) es
rows_above [] k d h = absurd (omega (arith, h))
rows_above (a ∷ es) zero d h = omega arith
rows_above (a ∷ es) (suc k) d h = omega (arith, rows_above es k d (omega (arith, h)))

pub brought_above : (es : List Arrival) (place : ℕ) → All (λ a. row_of (brings a place) ≤ brought_row es place) es
brought_above [] place k d h = absurd (omega (arith, h))
brought_above (a ∷ es) place zero d h = omega arith
brought_above (a ∷ es) place (suc k) d h = omega (arith, brought_above es place k d (omega (arith, h)))

-- ---- rows

-- An edge among these arrivals has a bit and a cell in no later row than these.
pub record RowBrought (es : List Arrival) (place bit row : ℕ) : Type 0 where
  pub arrival : Arrival
  pub among : Contains es arrival
  pub bit_low : bit ≤ arrival.row
  pub row_low : row ≤ row_of (brings arrival place)

pub old_row : (es : List Arrival) (place bit row : ℕ) (o : Origin) → all_bring es place o ≡ true → RowBrought es place bit row → row ≤ o.row
old_row es place bit row o h x = let e = ap row_of (All-contains (λ a. brings a place ≡ Some o) es x.arrival (bring_each es place o h) x.among) in omega (arith, x.row_low, e)

pub new_row : (es : List Arrival) (maker place bit row : ℕ) → RowBrought es place bit row → (bit ≤ (new_origin es maker place).row) × (row ≤ (new_origin es maker place).row)
new_row es maker place bit row x =
    let a = All-contains (λ a. a.row ≤ edge_row es) es x.arrival (rows_above es) x.among in
    let b = All-contains (λ a. row_of (brings a place) ≤ brought_row es place) es x.arrival (brought_above es place) x.among in
    (omega (arith, a, x.bit_low), omega (arith, b, x.row_low))

pub edge_low : (es : List Arrival) (place bit row : ℕ) → RowBrought es place bit row → bit ≤ edge_row es
edge_low es place bit row x = let a = All-contains (λ a. a.row ≤ edge_row es) es x.arrival (rows_above es) x.among in omega (arith, a, x.bit_low)

-- ---- several edges
module _ (row : ℕ → ℕ) (ps : List PointerView) (n : ℕ) where
  pub bits_low : (here : List Way) → All (λ e. row e.bit ≤ n) here → bits_row row here ≤ n
  bits_low [] h = omega arith
  bits_low (e ∷ es) h = omega (arith, h 0 e (omega arith), bits_low es (λ k d l. h (suc k) d (omega (arith, l))))

  pub brought_low : (here : List Way) (place : ℕ) → All (λ e. held_row row ps e.held e.kinds place ≤ n) here → cells.brought_row row ps here place ≤ n
  brought_low [] place h = omega arith
  brought_low (e ∷ es) place h = omega (arith, h 0 e (omega arith), brought_low es place (λ k d l. h (suc k) d (omega (arith, l))))

  pub flat_low : (arms : List Arm) → All (λ a. (row a.bit ≤ n) × (row a.cell ≤ n)) arms → greatest row (flat arms) ≤ n
  flat_low [] h = omega arith
  flat_low (a ∷ arms) h = let x = h 0 a (omega arith) in omega (arith, x.0, x.1, flat_low arms (λ k d l. h (suc k) d (omega (arith, l))))

-- all hold one number, which is not known
pub holds : (place : ℕ) (c : ℕ) (here : List Way) → All (λ e. (is_known (kind_at e.kinds place) ≡ false) × (number_at e.held place ≡ c)) here → hold_one here place ≡ true
holds place c [] h = refl
holds place c (e ∷ es) h = list_all-from_AllPass (holds_at place (number_at e.held place)) (e ∷ es) (λ k d l. let x = h k d l in one (get_or (e ∷ es) k d) x.0 (x.1 ∙ sym (h 0 e (omega arith)).1))
  where
    one : (f : Way) → is_known (kind_at f.kinds place) ≡ false → number_at f.held place ≡ number_at e.held place → holds_at place (number_at e.held place) f ≡ true
    one f known same = let b : (number_at f.held place == number_at e.held place) ≡ true = eq-eqb _ _ same in rw (known, b) refl
