-- Origins where edges meet and after an instruction, place by place.
use Rattle.std.proofs.Common.{◌≡◌, ◌∙◌, Bool, true, false, ℕ, suc, ◌+◌, ◌-◌, ◌<◌, ◌≤◌, ◌⊎◌, inl, inr, nat_lt, if◌then◌else◌, Option, Some, None, List, [], ◌∷◌, length, get_or, set, subst, refl, ap, max, arith}
use Rattle.std.specs.Prelude.{All}
use Rattle.std.proofs.lemmas.Bool.{cases_lt}
use Rattle.std.proofs.lemmas.List.{get_or-set_same, get_or-set_other}
use Rattle.row_rules.specs.declared.place_rows.origin.Origin.{Origin}
use Rattle.kind_core.specs.declared.kind.Kinds.{Kinds}
use Rattle.row_rules.specs.declared.node_rows.joining.Arrival.{Arrival}
use Rattle.row_rules.specs.NodeRows.Joining.{brings, edge_row, brought_row, all_bring, new_origin, met, first_brings, origin_at, origins_at}
use Rattle.row_rules.specs.NodeRows.Passing.{IsLowArrival}
use Rattle.row_rules.proofs.PlaceRows.PlaceLaws.{place_at, every_low}
use Rattle.row_rules.specs.PlaceRows.Locations.{location_count, first_byte}
use Rattle.row_rules.specs.PlaceRows.Origins.{row_of, every_row, by_place, has_data, origin_at_start}

-- ---- where edges meet
pub where_edges_meet : (es : List Arrival) (maker : ℕ) (k : Kinds) → 0 < length es → origins_at es maker k ≡ by_place (origin_at es maker k)
where_edges_meet [] maker k h = absurd (omega (arith, h))
where_edges_meet (a ∷ es) maker k h = refl

-- ---- low rows
pub brings_low : (a : Arrival) (i : ℕ) → IsLowArrival a → row_of (brings a i) ≤ 256
brings_low a i low = by (has_data a.kinds i)
  where
    by : (b : Bool) → row_of (if b then get_or a.origins.places i None else None) ≤ 256
    by true = low.1 i
    by false = omega arith

pub edges_low : (es : List Arrival) → All IsLowArrival es → edge_row es ≤ 256
edges_low [] h = omega arith
edges_low (a ∷ es) h = omega (arith, (h 0 a (omega arith)).0, edges_low es (λ k d l. h (suc k) d (omega (arith, l))))

brought_low : (es : List Arrival) (i : ℕ) → All IsLowArrival es → brought_row es i ≤ 256
brought_low [] i h = omega arith
brought_low (a ∷ es) i h = omega (arith, brings_low a i (h 0 a (omega arith)), brought_low es i (λ k d l. h (suc k) d (omega (arith, l))))

origin_low : (es : List Arrival) (maker : ℕ) (k : Kinds) (i : ℕ) → All IsLowArrival es → row_of (origin_at es maker k i) ≤ 256
origin_low es maker k i h = by (has_data k i)
  where
    new : max (edge_row es) (brought_row es i) ≤ 256
    new = omega (arith, edges_low es h, brought_low es i h)

    some : (o : Origin) (b : Bool) → o.row ≤ 256 → row_of (if b then Some o else Some (new_origin es maker i)) ≤ 256
    some o true l = l
    some o false l = new

    first : (xs : List Arrival) → All IsLowArrival xs → row_of (first_brings xs i) ≤ 256
    first [] g = omega arith
    first (a ∷ xs) g = brings_low a i (g 0 a (omega arith))

    meets : (o : Option Origin) → row_of o ≤ 256 → row_of (met es maker i o) ≤ 256
    meets None l = new
    meets (Some o) l = some o (all_bring es i o) l

    by : (b : Bool) → row_of (if b then met es maker i (first_brings es i) else None) ≤ 256
    by true = meets (first_brings es i) (first es h)
    by false = omega arith

start_low : (i : ℕ) → row_of (origin_at_start i) ≤ 256
start_low i = by (nat_lt i first_byte)
  where
    by : (b : Bool) → row_of (if b then None else Some (record { maker = 0; row = 0 })) ≤ 256
    by true = omega arith
    by false = omega arith

pub joined_low : (es : List Arrival) (maker : ℕ) (k : Kinds) → All IsLowArrival es → every_row (origins_at es maker k) ≤ 256
joined_low [] maker k h = every_low (by_place origin_at_start) 256 (λ i l. omega (arith, ap row_of (place_at origin_at_start i l), start_low i))
joined_low (a ∷ es) maker k h = every_low (by_place (origin_at (a ∷ es) maker k)) 256 (λ i l. omega (arith, ap row_of (place_at (origin_at (a ∷ es) maker k) i l), origin_low (a ∷ es) maker k i h))

-- ---- one place after another
pub kept_next : (f : ℕ → Option Origin) (os : List (Option Origin)) (n i : ℕ) → ((j : ℕ) → j < n → get_or os j None ≡ f j) → get_or os n None ≡ f n → i < n + 1 → get_or os i None ≡ f i
kept_next f os n i h e l = by (cases_lt i n)
  where
    by : (i < n) ⊎ (n ≤ i) → get_or os i None ≡ f i
    by (inl m) = h i m
    by (inr m) = let is : n ≡ i = omega (arith, l, m) in subst (λ j. get_or os j None ≡ f j) is e

pub set_next : (f : ℕ → Option Origin) (os new : List (Option Origin)) (n : ℕ) (o : Option Origin) (i : ℕ) → new ≡ set os n o → length os ≡ location_count → n < location_count
    → ((j : ℕ) → j < n → get_or os j None ≡ f j) → o ≡ f n → i < n + 1 → get_or new i None ≡ f i
set_next f os new n o i e count inside h is l = kept_next f new n i
    (λ j m. ap (λ xs. get_or xs j None) e ∙ get_or-set_other os n j o None (λ s. absurd (omega (arith, m, s))) ∙ h j m)
    (ap (λ xs. get_or xs n None) e ∙ get_or-set_same os n o None (omega (arith, inside, count)) ∙ is) l
