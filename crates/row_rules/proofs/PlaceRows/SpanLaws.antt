-- Places of spans, and their rows.
use Rattle.std.proofs.Common.{◌≡◌, ◌∙◌, ℕ, ◌+◌, ◌-◌, ◌<◌, ◌≤◌, nat_le, nat_lt, ◌&&◌, Bool, true, false, [], ◌∷◌, refl, ap, arith}
use Rattle.std.specs.List.{list_any}
use Rattle.std.proofs.lemmas.Bool.{lt-ltb, le-ltb, le-leb, leb-true, ltb-true}
use Rattle.cell_core.specs.Rows.{greatest, numbers}
use Rattle.row_rules.specs.declared.place_rows.span.Span.{Span}
use Rattle.row_rules.specs.PlaceRows.Spans.{no_place, one, is_in, span_row}
use Rattle.row_rules.proofs.PlaceRows.PlaceLaws.{greatest_above, greatest_within}

-- ---- which places
pub inside : (place : ℕ) (s : Span) → is_in place s ≡ true → (s.from ≤ place) × (place < s.end)
inside place s h = by (nat_le s.from place) refl (nat_lt place s.end) refl h
  where
    by : (a : Bool) → nat_le s.from place ≡ a → (b : Bool) → nat_lt place s.end ≡ b → (a && b) ≡ true → (s.from ≤ place) × (place < s.end)
    by true e true f g = (leb-true s.from place e, ltb-true place s.end f)
    by true e false f g = cc
    by false e b f g = cc

pub is_inside : (place : ℕ) (s : Span) → s.from ≤ place → place < s.end → is_in place s ≡ true
is_inside place s l m = rw (le-leb s.from place l, lt-ltb place s.end m) refl

pub not_beyond : (place : ℕ) (s : Span) → s.end ≤ place → is_in place s ≡ false
not_beyond place s l = by (nat_le s.from place)
  where
    by : (b : Bool) → (b && nat_lt place s.end) ≡ false
    by true = le-ltb place s.end l
    by false = refl

pub in_none : (place : ℕ) → is_in place no_place ≡ false
in_none place = not_beyond place no_place (omega arith)

-- nothing is read, or written
pub no_places : (place : ℕ) → list_any (is_in place) (no_place ∷ no_place ∷ []) ≡ false
no_places place = rw (in_none place) refl

pub in_one : (place d : ℕ) → is_in place (one d) ≡ true → place ≡ d
in_one place d h = let b = inside place (one d) h in omega (arith, b.0, b.1)

-- ---- one place
pub one_number : (d : ℕ) → numbers d (d + 1 - d) ≡ d ∷ []
one_number d = let e : d + 1 - d ≡ 1 = omega arith in ap (numbers d) e

pub one_row : (row : ℕ → ℕ) (d : ℕ) → span_row row (one d) ≡ row d
one_row row d = ap (greatest row) (one_number d) ∙ omega arith

-- ---- the greatest row of several
pub span_above : (row : ℕ → ℕ) (s : Span) (place : ℕ) → is_in place s ≡ true → row place ≤ span_row row s
span_above row s place h = let b = inside place s h in greatest_above row s.from (s.end - s.from) place b.0 (omega (arith, b.1))

pub span_within : (row : ℕ → ℕ) (s : Span) (most : ℕ) → ((place : ℕ) → is_in place s ≡ true → row place ≤ most) → span_row row s ≤ most
span_within row s most h = greatest_within row most s.from (s.end - s.from) (λ i low high. h i (is_inside i s low (omega (arith, low, high))))
