-- Origins place by place, and rows of spans.
use Rattle.std.proofs.Common.{◌≡◌, ◌∙◌, ℕ, zero, suc, ◌+◌, ◌-◌, ◌<◌, ◌≤◌, ◌⊎◌, inl, inr, nat_le, nat_lt, ◌&&◌, Option, None, List, [], ◌∷◌, length, get_or, refl, sym, ap, max, arith, map}
use Rattle.std.proofs.lemmas.Bool.{cases_lt, le-ltb, lt-leb}
use Rattle.std.proofs.lemmas.List.{get_or_past, ext_get_or, length-map, get_or-map}
use Rattle.cell_core.specs.Rows.{greatest, numbers}
use Rattle.cell_core.proofs.NumberLaws.{numbers_long}
use Rattle.row_rules.specs.declared.place_rows.origin.Origin.{Origin}
use Rattle.row_rules.specs.declared.place_rows.span.Span.{Span}
use Rattle.row_rules.specs.PlaceRows.Locations.{location_count}
use Rattle.row_rules.specs.PlaceRows.Origins.{row_of, row_at, span_row, spans_row, every_row, by_place}

-- ---- numbers one after another

pub at-numbers : (from n i d : ℕ) → i < n → get_or (numbers from n) i d ≡ from + i
at-numbers from zero i d h = absurd (omega (arith, h))
at-numbers from (suc n) zero d h = omega arith
at-numbers from (suc n) (suc i) d h = at-numbers (suc from) n i d (omega (arith, h)) ∙ omega arith

-- origins that are given place by place
pub all_places : (f : ℕ → Option Origin) (os : List (Option Origin)) → length os ≡ location_count → ((i : ℕ) → i < location_count → get_or os i None ≡ f i) → os ≡ by_place f
unfolding by_place
all_places f os n h = ext_get_or None os (map f (numbers 0 location_count)) (n ∙ sym (numbers_long 0 location_count) ∙ sym (length-map (numbers 0 location_count) f)) (λ i l. let b : i < location_count = omega (arith, l, n) in
    h i b ∙ sym (get_or-map f (numbers 0 location_count) i 0 None (omega (arith, b, numbers_long 0 location_count)) ∙ ap f (at-numbers 0 location_count i 0 b ∙ omega arith)))

-- and one of them
pub place_at : (f : ℕ → Option Origin) (i : ℕ) → i < location_count → get_or (by_place f) i None ≡ f i
unfolding by_place
place_at f i h = get_or-map f (numbers 0 location_count) i 0 None (omega (arith, h, numbers_long 0 location_count)) ∙ ap f (at-numbers 0 location_count i 0 h ∙ omega arith)

pub count_places : (f : ℕ → Option Origin) → length (by_place f) ≡ location_count
unfolding by_place
count_places f = length-map (numbers 0 location_count) f ∙ numbers_long 0 location_count

-- ---- the greatest row
pub greatest_split : (row : ℕ → ℕ) (from end most : ℕ) → from < end → max most (greatest row (numbers from (end - from))) ≡ max (max most (row from)) (greatest row (numbers (from + 1) (end - (from + 1))))
greatest_split row from end most h = ap (λ n. max most (greatest row (numbers from n))) (step from end h)
    ∙ assoc most (row from) (greatest row (numbers (suc from) (end - (from + 1)))) ∙ ap (λ f. max (max most (row from)) (greatest row (numbers f (end - (from + 1))))) (omega arith)
  where
    step : (a b : ℕ) → a < b → b - a ≡ suc (b - (a + 1))
    step a b l = omega (arith, l)

    assoc : (a b c : ℕ) → max a (max b c) ≡ max (max a b) c
    assoc a b c = omega arith

pub greatest_within : (row : ℕ → ℕ) (most : ℕ) (from n : ℕ) → ((i : ℕ) → from ≤ i → i < from + n → row i ≤ most) → greatest row (numbers from n) ≤ most
greatest_within row most from zero h = omega arith
greatest_within row most from (suc n) h = omega (arith, h from (omega arith) (omega arith), greatest_within row most (suc from) n (λ i low high. h i (omega (arith, low)) (omega (arith, high))))

-- a number is another, or less
either : (a b : ℕ) → a ≤ b → (a ≡ b) ⊎ (suc a ≤ b)
either zero zero l = inl refl
either zero (suc b) l = inr (omega arith)
either (suc a) zero l = absurd (omega (arith, l))
either (suc a) (suc b) l = next (either a b (omega (arith, l)))
  where
    next : (a ≡ b) ⊎ (suc a ≤ b) → (suc a ≡ suc b) ⊎ (suc (suc a) ≤ suc b)
    next (inl e) = inl (ap suc e)
    next (inr m) = inr (omega (arith, m))

above_first : (row : ℕ → ℕ) (from n i : ℕ) → (from ≤ i → i < suc from + n → suc from ≤ i → row i ≤ greatest row (numbers (suc from) n)) → from ≤ i → i < from + suc n → row i ≤ max (row from) (greatest row (numbers (suc from) n))
above_first row from n i later low high = by (either from i low)
  where
    by : (from ≡ i) ⊎ (suc from ≤ i) → row i ≤ max (row from) (greatest row (numbers (suc from) n))
    by (inl e) = omega (arith, ap row e)
    by (inr m) = omega (arith, later low (omega (arith, high)) m)

pub greatest_above : (row : ℕ → ℕ) (from n i : ℕ) → from ≤ i → i < from + n → row i ≤ greatest row (numbers from n)
greatest_above row from zero i low high = absurd (omega (arith, low, high))
greatest_above row from (suc n) i low high = above_first row from n i (λ l h m. greatest_above row (suc from) n i m h) low high

-- where no row exceeds a number, those of spans do not
pub row_low : (os : List (Option Origin)) (most i : ℕ) → length os ≡ location_count → every_row os ≤ most → row_at os i ≤ most
unfolding every_row
row_low os most i n h = by (cases_lt i location_count)
  where
    trans_le : {a b c : ℕ} → a ≤ b → b ≤ c → a ≤ c
    trans_le p q = omega (arith, p, q)

    by : (i < location_count) ⊎ (location_count ≤ i) → row_at os i ≤ most
    by (inl l) = let above = greatest_above (row_at os) 0 location_count i (omega arith) (omega (arith, l)) in trans_le above h
    by (inr l) = omega (arith, ap row_of (get_or_past os i None (omega (arith, n, l))))

-- and back
pub every_low : (os : List (Option Origin)) (most : ℕ) → ((i : ℕ) → i < location_count → row_at os i ≤ most) → every_row os ≤ most
unfolding every_row
every_low os most h = greatest_within (row_at os) most 0 location_count (λ i low high. h i (omega (arith, high)))

pub span_low : (os : List (Option Origin)) (most : ℕ) (s : Span) → length os ≡ location_count → every_row os ≤ most → span_row os s ≤ most
span_low os most s n h = greatest_within (row_at os) most s.from (s.end - s.from) (λ i low high. row_low os most i n h)

pub spans_low : (os : List (Option Origin)) (most : ℕ) (ss : List Span) → length os ≡ location_count → every_row os ≤ most → spans_row os ss ≤ most
spans_low os most [] n h = omega arith
spans_low os most (s ∷ ss) n h = omega (arith, span_low os most s n h, spans_low os most ss n h)

-- ---- spans
pub until : (from end place i : ℕ) → end ≤ place → (place ≤ end) ⊎ (place ≡ from) → (nat_le from i && nat_lt i place) ≡ (nat_le from i && nat_lt i end)
until from end place i far (inl near) = ap (λ n. nat_le from i && nat_lt i n) (omega (arith, far, near))
until from end place i far (inr is) = by (cases_lt i from)
  where
    by : (i < from) ⊎ (from ≤ i) → (nat_le from i && nat_lt i place) ≡ (nat_le from i && nat_lt i end)
    by (inl l) = ap (λ b. b && nat_lt i place) (lt-leb from i l) ∙ sym (ap (λ b. b && nat_lt i end) (lt-leb from i l))
    by (inr l) = ap (λ b. nat_le from i && b) (le-ltb i place (omega (arith, is, l)) ∙ sym (le-ltb i end (omega (arith, is, far, l))))
