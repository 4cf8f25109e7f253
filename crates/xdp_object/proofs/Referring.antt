-- References by ascending places, each of which refers to the map of a number: what they say of each place, and which maps they make up.
use Rattle.std.proofs.Common.{◌≡◌, ◌≢◌, ◌∙◌, ℕ, zero, suc, ◌+◌, ◌<◌, ◌≤◌, ◌==◌, ◌||◌, ◌++◌, not, true, false, cond, ltb, Some, None, Ok, List, [], ◌∷◌, length, get_or, map, refl, sym, ap, subst, arith, inl, inr, ◌⊎◌}
use Rattle.std.proofs.lemmas.Bool.{cases_eq, cases_lt, lt-ltb}
use Rattle.std.proofs.lemmas.Bool.Decides.{nat_tests}
use Rattle.std.proofs.lemmas.List.{append_assoc, append-nil, length-append, length_push}
use Rattle.std.proofs.lemmas.List.Elements.{All-head, All-tail}
use Rattle.std.proofs.lemmas.List.FromFn.{length-range_with_len}
use Rattle.std.specs.List.{All, list_any, position_or_len, range_with_len}
use Rattle.std.specs.List.Sorted.{IsStrictlyIncreasing}
use Rattle.xdp_maps.specs.declared.decl.MapDecl.{MapDecl}
use Rattle.xdp_object.specs.declared.relocated.Relocated.{Relocated}
use Rattle.xdp_object.specs.declared.relocated.Relocated.TheVariants.{Untouched, Refers, Unknown}
use Rattle.xdp_object.specs.Maps.{MapTable, all_referred, carried, map_number, next_map, referred, with_map}
use Rattle.xdp_object.specs.Relocations.{Reference, both, reference_by, references_from, said_at}

is_same : (n : ℕ) → (n == n) ≡ true
is_same n = grind (arith, nat_tests)

is_other : (a b : ℕ) → a ≢ b → (a == b) ≡ false
is_other a b h = grind (arith, nat_tests)

-- ---- ascending places

abbrev pub Ascend : (from end : ℕ) → List ℕ → Type 0
Ascend from end [] = Unit {0}
Ascend from end (q ∷ qs) = (from ≤ q) × (q < end) × Ascend (suc q) end qs

pub ascend : (from end : ℕ) (qs : List ℕ) → IsStrictlyIncreasing qs → All (λ q. q < end) qs → (0 < length qs → from ≤ get_or qs 0 0) → Ascend from end qs
ascend from end [] rising below low = tt
ascend from end (q ∷ qs) rising below low = (
  low (omega arith),
  All-head (λ x. x < end) q qs below,
  ascend (suc q) end qs later (All-tail (λ x. x < end) q qs below) (λ some. rising 0 (omega arith)),
)
  where
    later : IsStrictlyIncreasing qs
    later k h =
        let next : suc k + 1 ≡ suc (k + 1) = omega arith in
        subst (λ (j : ℕ). get_or qs k 0 < get_or (q ∷ qs) j 0) next (rising (suc k) (omega arith))

-- ---- what they say of a place

abbrev pub says : (ℕ → ℕ) → ℕ → ℕ → Relocated
says number p q = cond (q == p) (Refers (2 + number q)) Untouched

abbrev pub said_by : (ℕ → ℕ) → List ℕ → ℕ → Relocated
said_by number [] p = Untouched
said_by number (q ∷ qs) p = both (says number p q) (said_by number qs p)

-- nothing of one before them or after them
apart : (number : ℕ → ℕ) (q : ℕ) (qs : List ℕ) (p : ℕ) → q ≢ p → said_by number (q ∷ qs) p ≡ said_by number qs p
apart number q qs p h = ap (λ b. both (cond b (Refers (2 + number q)) Untouched) (said_by number qs p)) (is_other q p h)

pub said_before : (number : ℕ → ℕ) (qs : List ℕ) (from end p : ℕ) → Ascend from end qs → p < from → said_by number qs p ≡ Untouched
said_before number [] from end p h low = refl
said_before number (q ∷ qs) from end p (above, below, later) low =
    apart number q qs p (λ e. absurd (omega arith)) ∙ said_before number qs (suc q) end p later (omega arith)

pub said_behind : (number : ℕ → ℕ) (qs : List ℕ) (from end p : ℕ) → Ascend from end qs → end ≤ p → said_by number qs p ≡ Untouched
said_behind number [] from end p h high = refl
said_behind number (q ∷ qs) from end p (above, below, later) high =
    apart number q qs p (λ e. absurd (omega arith)) ∙ said_behind number qs (suc q) end p later high

said_first : (number : ℕ → ℕ) (q : ℕ) (qs : List ℕ) (from end : ℕ) → Ascend from end (q ∷ qs) → said_by number (q ∷ qs) q ≡ Refers (2 + number q)
said_first number q qs from end (above, below, later) =
    ap (λ b. both (cond b (Refers (2 + number q)) Untouched) (said_by number qs q)) (is_same q)
    ∙ ap (both (Refers (2 + number q))) (said_before number qs (suc q) end q later (omega arith))

-- of a place nothing is said, or that it refers to the map of its number, and then it is one of them
abbrev pub IsSaid : (ℕ → ℕ) → (ℕ → Type 0) → ℕ → Relocated → Type 0
IsSaid number P p Untouched = Unit {0}
IsSaid number P p (Refers s) = (s ≡ 2 + number p) × P p
IsSaid number P p Unknown = ⊥

pub said_is : (number : ℕ → ℕ) (P : ℕ → Type 0) (qs : List ℕ) (from end p : ℕ) → Ascend from end qs → All P qs → IsSaid number P p (said_by number qs p)
said_is number P [] from end p h each = tt
said_is number P (q ∷ qs) from end p (above, below, later) each = elim (cases_eq q p) [
  | inl here ↦
      let one : said_by number (q ∷ qs) p ≡ Refers (2 + number p) = subst (λ (x : ℕ). said_by number (q ∷ qs) x ≡ Refers (2 + number x)) here (said_first number q qs from end (above, below, later)) in
      subst (λ (r : Relocated). IsSaid number P p r) (sym one) (refl, subst (λ (x : ℕ). P x) here (All-head P q qs each))
  | inr other ↦
      subst (λ (r : Relocated). IsSaid number P p r) (sym (apart number q qs p other)) (said_is number P qs (suc q) end p later (All-tail P q qs each))
]

-- ---- the references

abbrev pub refer : (ℕ → ℕ) → ℕ → Reference
refer number q = record { place = q; symbol = 2 + number q }

pub references_are : (number : ℕ → ℕ) (places : List Relocated) (qs : List ℕ) (i n : ℕ) → Ascend i (i + n) qs
    → ((p : ℕ) → i ≤ p → said_at places p ≡ said_by number qs p) → references_from places i n ≡ map (refer number) qs
references_are number places [] i zero h said = refl
references_are number places (q ∷ qs) i zero (above, below, later) said = absurd (omega arith)
references_are number places [] i (suc n) h said =
    ap (λ r. reference_by i r ++ references_from places (suc i) n) (said i (omega arith))
    ∙ references_are number places [] (suc i) n tt (λ p low. said p (omega arith))
references_are number places (q ∷ qs) i (suc n) (above, below, later) said = elim (cases_eq q i) [
  | inl here ↦
      let first : said_by number (q ∷ qs) i ≡ Refers (2 + number q) = subst (λ (x : ℕ). said_by number (q ∷ qs) x ≡ Refers (2 + number q)) here (said_first number q qs i (i + suc n) (above, below, later)) in
      let end : i + suc n ≡ suc i + n = omega arith in
      let next : suc q ≡ suc i = ap suc here in
      let rest : Ascend (suc i) (suc i + n) qs = subst (λ (e : ℕ). Ascend (suc i) e qs) end (subst (λ (f : ℕ). Ascend f (i + suc n) qs) next later) in
      ap (λ r. reference_by i r ++ references_from places (suc i) n) (said i (omega arith) ∙ first)
      ∙ ap (λ x. record { place = x; symbol = 2 + number q } ∷ references_from places (suc i) n) (sym here)
      ∙ ap (λ rs. refer number q ∷ rs)
      (references_are number places qs (suc i) n rest (λ p low. said p (omega arith) ∙ apart number q qs p (λ e. absurd (omega arith))))
  | inr other ↦
      let end : i + suc n ≡ suc i + n = omega arith in
      let rest : Ascend (suc i) (i + suc n) (q ∷ qs) = (omega (arith, above, other), below, later) in
      ap (λ r. reference_by i r ++ references_from places (suc i) n) (said i (omega arith) ∙ said_before number (q ∷ qs) (suc i) (i + suc n) i rest (omega arith))
      ∙ references_are number places (q ∷ qs) (suc i) n (subst (λ (e : ℕ). Ascend (suc i) e (q ∷ qs)) end rest) (λ p low. said p (omega arith))
]

pub places_again : (number : ℕ → ℕ) (qs : List ℕ) → map (λ (r : Reference). r.place) (map (refer number) qs) ≡ qs
places_again number [] = refl
places_again number (q ∷ qs) = ap (λ xs. q ∷ xs) (places_again number qs)

-- ---- the numbers of maps

-- the map of each reference is one of those so far or the next
abbrev pub Counts : (ℕ → ℕ) → (maps so_far : ℕ) → List ℕ → Type 0
Counts number maps so_far [] = so_far ≡ maps
Counts number maps so_far (q ∷ qs) = ((number q < so_far) × Counts number maps so_far qs) ⊎ ((number q ≡ so_far) × (so_far < maps) × Counts number maps (suc so_far) qs)

-- each map from one on is referred to, first after maps of smaller numbers
abbrev pub Firsts : (ℕ → ℕ) → (maps so_far : ℕ) → List ℕ → Type 0
Firsts number maps so_far qs =
    (n : ℕ) → so_far ≤ n → n < maps → (k : ℕ) × (k < length qs) × (number (get_or qs k 0) ≡ n) × ((j : ℕ) → j < k → number (get_or qs j 0) < n)

pub counts : (number : ℕ → ℕ) (maps so_far : ℕ) (qs : List ℕ) → so_far ≤ maps → All (λ q. number q < maps) qs → Firsts number maps so_far qs → Counts number maps so_far qs
counts number maps so_far [] few below firsts = elim (cases_lt so_far maps) [
  | inl left ↦ let none = firsts so_far (omega arith) left in absurd (omega (arith, none.1))
  | inr all ↦ omega arith
]
counts number maps so_far (q ∷ qs) few below firsts =
    by_order (λ m le next. counts number maps m qs le (All-tail (λ x. number x < maps) q qs below) next) (cases_lt (number q) so_far)
  where
    small : number q < maps
    small = All-head (λ x. number x < maps) q qs below

    -- a map after that of q is not referred to at q
    behind : (n : ℕ) → number q < n → n < maps → so_far ≤ n → (k : ℕ) × (k < length qs) × (number (get_or qs k 0) ≡ n) × ((j : ℕ) → j < k → number (get_or qs j 0) < n)
    behind n above under low = by_place (firsts n low under)
      where
        by_place : (k : ℕ) × (k < length (q ∷ qs)) × (number (get_or (q ∷ qs) k 0) ≡ n) × ((j : ℕ) → j < k → number (get_or (q ∷ qs) j 0) < n)
            → (k : ℕ) × (k < length qs) × (number (get_or qs k 0) ≡ n) × ((j : ℕ) → j < k → number (get_or qs j 0) < n)
        by_place (zero, inside, is, before) = absurd (omega arith)
        by_place (suc k, inside, is, before) = (k, omega arith, is, λ j low'. before (suc j) (omega arith))

    -- q refers to no map after the next
    not_later : so_far < number q → ⊥
    not_later above = by_place (firsts so_far (omega arith) (omega (arith, small)))
      where
        by_place : (k : ℕ) × (k < length (q ∷ qs)) × (number (get_or (q ∷ qs) k 0) ≡ so_far) × ((j : ℕ) → j < k → number (get_or (q ∷ qs) j 0) < so_far) → ⊥
        by_place (zero, inside, is, before) = absurd (omega arith)
        by_place (suc k, inside, is, before) = let first = before 0 (omega arith) in absurd (omega arith)

    by_order : ((m : ℕ) → m ≤ maps → Firsts number maps m qs → Counts number maps m qs) → (number q < so_far) ⊎ (so_far ≤ number q)
        → Counts number maps so_far (q ∷ qs)
    by_order rest (inl known) = inl (known, rest so_far few (λ n low under. behind n (omega arith) under low))
    by_order rest (inr new) =
        let is : number q ≡ so_far = elim (cases_eq (number q) so_far) [
          | inl e ↦ e
          | inr other ↦ absurd (not_later (omega (arith, new, other)))
        ] in
        inr (is, omega (arith, small, is), rest (suc so_far) (omega (arith, small, is)) (λ n low under. behind n (omega arith) under (omega arith)))

-- ---- the table

range-more : (a n : ℕ) → range_with_len a (suc n) ≡ range_with_len a n ++ (a + n) ∷ []
range-more a zero = let e : a + 0 ≡ a = omega arith in ap (λ x. x ∷ []) (sym e)
range-more a (suc n) =
    let e : a + 1 + n ≡ a + suc n = omega arith in
    ap (λ xs. a ∷ xs) (range-more (a + 1) n ∙ ap (λ x. range_with_len (a + 1) n ++ x ∷ []) e)

in_range : (a n x : ℕ) → a ≤ x → list_any (λ m. m == x) (range_with_len a n) ≡ ltb x (a + n)
in_range a zero x low = sym (not_below x (a + 0) (omega arith))
  where
    not_below : (x a : ℕ) → a ≤ x → ltb x a ≡ false
    not_below x a h = grind (arith, nat_tests)
in_range a (suc n) x low = elim (cases_eq a x) [
  | inl here ↦ ap (λ b. b || list_any (λ m. m == x) (range_with_len (a + 1) n)) (subst (λ (y : ℕ). (a == y) ≡ true) here (is_same a)) ∙ sym (lt-ltb x (a + suc n) (omega arith))
  | inr other ↦
      let end : a + 1 + n ≡ a + suc n = omega arith in
      ap (λ b. b || list_any (λ m. m == x) (range_with_len (a + 1) n)) (is_other a x other)
      ∙ in_range (a + 1) n x (omega (arith, low, other)) ∙ ap (ltb x) end
]

place_in_range : (a n k : ℕ) → k < n → position_or_len (λ m. m == a + k) (range_with_len a n) ≡ k
place_in_range a zero k h = absurd (omega arith)
place_in_range a (suc n) zero h = let e : a ≡ a + 0 = omega arith in ap (λ b. cond (not b) (1 + position_or_len (λ m. m == a + 0) (range_with_len (a + 1) n)) 0) (subst (λ (y : ℕ). (a == y) ≡ true) e (is_same a))
place_in_range a (suc n) (suc k) h =
    let e : a + suc k ≡ a + 1 + k = omega arith in
    let later : position_or_len (λ m. m == a + suc k) (range_with_len (a + 1) n) ≡ k =
    ap (λ x. position_or_len (λ m. m == x) (range_with_len (a + 1) n)) e ∙ place_in_range (a + 1) n k (omega arith) in
    ap (λ b. cond (not b) (1 + position_or_len (λ m. m == a + suc k) (range_with_len (a + 1) n)) 0) (is_other a (a + suc k) (λ f. absurd (omega arith)))
    ∙ omega (arith, later)

-- the number of the map of symbol 2 + n
pub number_in_range : (count n : ℕ) → n < count → map_number (range_with_len 2 count) (Refers (2 + n)) ≡ Some n
number_in_range count n h =
    ap (λ k. cond (ltb k (length (range_with_len 2 count))) (Some k) None) (place_in_range 2 count n h)
    ∙ ap (λ b. cond b (Some n) None) (lt-ltb n (length (range_with_len 2 count)) (omega (arith, length-range_with_len 2 count)))

-- of each place that they refer to, and of no other
pub said_number : (number : ℕ → ℕ) (count : ℕ) (qs : List ℕ) (from end p : ℕ) → Ascend from end qs → All (λ q. number q < count) qs
    → map_number (range_with_len 2 count) (said_by number qs p) ≡ cond (list_any (λ r. r == p) qs) (Some (number p)) None
said_number number count [] from end p h each = refl
said_number number count (q ∷ qs) from end p (above, below, later) each = elim (cases_eq q p) [
  | inl here ↦
      let found : (q == p) ≡ true = subst (λ (x : ℕ). (q == x) ≡ true) here (is_same q) in
      let one : said_by number (q ∷ qs) p ≡ Refers (2 + number q) = subst (λ (x : ℕ). said_by number (q ∷ qs) x ≡ Refers (2 + number q)) here (said_first number q qs from end (above, below, later)) in
      ap (map_number (range_with_len 2 count)) one ∙ number_in_range count (number q) (All-head (λ x. number x < count) q qs each) ∙ ap (λ x. Some (number x)) here
      ∙ sym (ap (λ b. cond (b || list_any (λ r. r == p) qs) (Some (number p)) None) found)
  | inr other ↦
      ap (map_number (range_with_len 2 count)) (apart number q qs p other)
      ∙ said_number number count qs (suc q) end p later (All-tail (λ x. number x < count) q qs each)
      ∙ sym (ap (λ b. cond (b || list_any (λ r. r == p) qs) (Some (number p)) None) (is_other q p other))
]

-- each declaration is that of its symbol, after those before it
abbrev pub AreNext : (hash_cap : ℕ) → List ℕ → List MapDecl → Type 0
AreNext hash_cap bytes decls =
    (before : List MapDecl) (d : MapDecl) (after : List MapDecl) → decls ≡ before ++ d ∷ after → next_map hash_cap bytes before (2 + length before) ≡ Ok d

abbrev pub table : List MapDecl → MapTable
table decls = record { symbols = range_with_len 2 (length decls); decls = decls }

table_push : (before : List MapDecl) (d : MapDecl)
    → with_map (table before) (2 + length before) (Ok d) ≡ Ok (table (before ++ d ∷ []))
table_push before d =
    let more = range-more 2 (length before) in
    ap (λ xs. Ok (record { symbols = xs; decls = before ++ d ∷ [] })) (sym more)
    ∙ ap (λ n. Ok (record { symbols = range_with_len 2 n; decls = before ++ d ∷ [] })) size
  where
    size : suc (length before) ≡ length (before ++ d ∷ [])
    size = omega (arith, length_push before d)

known_map : (hash_cap : ℕ) (bytes : List ℕ) (before : List MapDecl) (n : ℕ) → n < length before → referred hash_cap bytes (table before) (2 + n) ≡ Ok (table before)
unfolding referred
known_map hash_cap bytes before n h =
    ap (λ b. cond b (Ok (table before)) (with_map (table before) (2 + n) (next_map hash_cap bytes before (2 + n))))
    (in_range 2 (length before) (2 + n) (omega arith) ∙ lt-ltb (2 + n) (2 + length before) (omega arith))

new_map : (hash_cap : ℕ) (bytes : List ℕ) (before : List MapDecl) (d : MapDecl) → next_map hash_cap bytes before (2 + length before) ≡ Ok d
    → referred hash_cap bytes (table before) (2 + length before) ≡ Ok (table (before ++ d ∷ []))
unfolding referred
new_map hash_cap bytes before d next =
    ap (λ b. cond b (Ok (table before)) (with_map (table before) (2 + length before) (next_map hash_cap bytes before (2 + length before))))
    (in_range 2 (length before) (2 + length before) (omega arith) ∙ not_below (2 + length before))
    ∙ ap (with_map (table before) (2 + length before)) next ∙ table_push before d
  where
    not_below : (n : ℕ) → ltb n n ≡ false
    not_below n = grind (arith, nat_tests)

pub table_is : (hash_cap : ℕ) (bytes : List ℕ) (decls : List MapDecl) (number : ℕ → ℕ) (before rest : List MapDecl) (qs : List ℕ) → AreNext hash_cap bytes decls
    → decls ≡ before ++ rest → Counts number (length decls) (length before) qs → all_referred hash_cap bytes (table before) (map (refer number) qs) ≡ Ok (table decls)
table_is hash_cap bytes decls number before rest [] next whole count = ap Ok (all rest whole count)
  where
    all : (rest : List MapDecl) → decls ≡ before ++ rest → length before ≡ length decls → table before ≡ table decls
    all [] e f = ap table (sym (append-nil before) ∙ sym e)
    all (d ∷ ds) e f = absurd (longer (ap length e) f)
      where
        longer : length decls ≡ length (before ++ d ∷ ds) → length before ≡ length decls → ⊥
        longer g h = absurd (omega (arith, g, h, length-append before (d ∷ ds)))
table_is hash_cap bytes decls number before rest (q ∷ qs) next whole (inl (known, count)) =
    ap (λ r. carried r (λ u. all_referred hash_cap bytes u (map (refer number) qs))) (known_map hash_cap bytes before (number q) known)
    ∙ table_is hash_cap bytes decls number before rest qs next whole count
table_is hash_cap bytes decls number before [] (q ∷ qs) next whole (inr (new, few, count)) =
    absurd (omega (arith, few, ap length whole, ap length (append-nil before)))
table_is hash_cap bytes decls number before (d ∷ rest) (q ∷ qs) next whole (inr (new, few, count)) =
    let size : suc (length before) ≡ length (before ++ d ∷ []) = omega (arith, length_push before d) in
    ap (λ n. carried (referred hash_cap bytes (table before) (2 + n)) (λ u. all_referred hash_cap bytes u (map (refer number) qs))) new
    ∙ ap (λ r. carried r (λ u. all_referred hash_cap bytes u (map (refer number) qs))) (new_map hash_cap bytes before d (next before d rest whole))
    ∙ table_is hash_cap bytes decls number (before ++ d ∷ []) rest qs next (whole ∙ sym (append_assoc before (d ∷ []) rest))
    (subst (λ (n : ℕ). Counts number (length decls) n qs) size count)
