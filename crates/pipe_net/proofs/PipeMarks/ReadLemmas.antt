-- The sites at which a packet has read, and their marks.
use Rattle.std.specs.Prelude.{nat_le, cond, filter, Contains, map as map_list}
use Rattle.std.specs.List.{list_any}
use Rattle.std.proofs.Common.{◌≡◌, ◌≢◌, ◌∙◌, ℕ, zero, suc, ◌+◌, ◌==◌, ◌<◌, ◌≤◌, Bool, true, false, true≢false, ◌||◌, All, List, [], ◌∷◌, length, get_or, refl, sym, ap, arith}
use Rattle.std.proofs.lemmas.Bool.{eqb-true, eqb-false, le-leb}
use Rattle.std.proofs.lemmas.Bool.Decides.{nat_tests}
use Rattle.std.proofs.lemmas.List.{get_or_past, length-map}
use Rattle.std.proofs.lemmas.List.Elements.{All-filter, filter_passes}
use Rattle.block_core.specs.net_core.declared.tree.Word.{Word}
use Rattle.block_core.specs.net_core.Value.{bit as bit_word}
use Rattle.hazard_core.specs.cell_core.Cells.{bit}
use Rattle.hazard_core.specs.cell_core.Rows.{numbers}
use Rattle.hazard_core.specs.cell_core.Sites.{ProgramView}
use Rattle.pipe_core.proofs.cell_core_laws.NumberLaws.{numbers_long}
use Rattle.hazard_core.specs.Tables.{TableState}
use Rattle.hazard_core.specs.declared.change.Change.{Change}
use Rattle.hazard_core.specs.declared.pointer.Pointer.TheVariants.{Null, Pending}
use Rattle.hazard_core.specs.StageValues.{StageValues, pointer_in, read_cells}
use Rattle.hazard_core.specs.Marks.{has_read, is_marked}
use Rattle.pipe_core.specs.Machine.{Packet, Build, marked_at, marked_by}

-- ---- bits
pub bit_value : (c : Bool) → (bit_word c).value ≡ bit c
bit_value true = refl
bit_value false = refl

pub same_bit : (a b : Bool) → bit_word a ≡ bit_word b → a ≡ b
same_bit true true e = refl
same_bit false false e = refl
same_bit true false e = absurd (omega (arith, ap (λ (w : Word). w.value) e))
same_bit false true e = absurd (omega (arith, ap (λ (w : Word). w.value) e))

pub or_false : (b : Bool) → (b || false) ≡ b
or_false true = refl
or_false false = refl

-- ---- lists

-- what holds of the image of the i-th of several
pub mapped : {X Y : Type 0} (f : X → Y) (Q : Y → Type 0) (xs : List X) (i : ℕ) (d : Y) → i < length xs → ((x : X) → Q (f (get_or xs i x))) → Q (get_or (map_list f xs) i d)
mapped f Q [] i d lt h = absurd (omega (arith, lt))
mapped f Q (x ∷ xs) zero d lt h = h x
mapped f Q (x ∷ xs) (suc i) d lt h = mapped f Q xs i d (omega (arith, lt)) h

numbers_below : (from n most : ℕ) → from + n ≤ most → All (λ j. j < most) (numbers from n)
numbers_below from zero most h k d lt = absurd (omega (arith, lt))
numbers_below from (suc n) most h zero d lt = omega (arith, h)
numbers_below from (suc n) most h (suc k) d lt = numbers_below (suc from) n most (omega (arith, h)) k d (omega (arith, lt))

kept_number : (q : ℕ → Bool) (from n j : ℕ) → from ≤ j → j < from + n → q j ≡ true → Contains (filter q (numbers from n)) j
kept_number q from zero j low high e = absurd (omega (arith, low, high))
kept_number q from (suc n) j low high e = by (q from) refl (from == j) refl (λ ne. kept_number q (suc from) n j (omega (arith, low, ne)) (omega (arith, high)) e)
  where
    more : List ℕ
    more = filter q (numbers (suc from) n)

    by : (c : Bool) → q from ≡ c → (same : Bool) → (from == j) ≡ same → (from ≢ j → Contains more j) → Contains (cond c (from ∷ more) more) j
    by true is true same rest = (0, omega arith, eqb-true from j same)
    by true is false same rest = let r = rest (eqb-false from j same) in (suc r.0, omega (arith, r.1), r.2)
    by false is true same rest = absurd (true≢false (sym e ∙ ap q (sym (eqb-true from j same)) ∙ is))
    by false is false same rest = rest (eqb-false from j same)

-- ---- sites
module _ (p : ProgramView) (row : ℕ → ℕ) (k : ℕ) where
  abbrev reads : List ℕ
  reads = filter (has_read p row k) (numbers 0 (length p.sites))

  pub read_known : All (λ j. j < length p.sites) reads
  read_known = All-filter (has_read p row k) (λ j. j < length p.sites) (numbers 0 (length p.sites)) (numbers_below 0 (length p.sites) (length p.sites) (omega arith))

  pub read_there : All (λ j. has_read p row k j ≡ true) reads
  read_there = filter_passes (has_read p row k) (numbers 0 (length p.sites))

  -- others have no read there
  pub unread : (j : ℕ) → j < length p.sites → ¬ Contains reads j → has_read p row k j ≡ false
  unread j lt none = by (has_read p row k j) refl
    where
      by : (c : Bool) → has_read p row k j ≡ c → has_read p row k j ≡ false
      by true e = absurd (none (kept_number (has_read p row k) 0 (length p.sites) j (omega arith) (omega (arith, lt)) e))
      by false e = e

-- a read of the rows up to k stands in the rows up to a later one
none_before : (row : ℕ → ℕ) (k : ℕ) (cs : List ℕ) → list_any (λ c. nat_le (row c) (suc k)) cs ≡ false → list_any (λ c. nat_le (row c) k) cs ≡ false
none_before row k [] e = refl
none_before row k (c ∷ cs) e = by (nat_le (row c) (suc k)) (nat_le (row c) k) refl refl e (none_before row k cs)
  where
    by : (a b : Bool) → nat_le (row c) (suc k) ≡ a → nat_le (row c) k ≡ b → (a || list_any (λ c. nat_le (row c) (suc k)) cs) ≡ false
        → (list_any (λ c. nat_le (row c) (suc k)) cs ≡ false → list_any (λ c. nat_le (row c) k) cs ≡ false) → (b || list_any (λ c. nat_le (row c) k) cs) ≡ false
    by true b f g e rest = cc
    by false true f g e rest = let low : row c ≤ k = grind (arith, nat_tests) in absurd (true≢false (sym (le-leb (row c) (suc k) (omega (arith, low))) ∙ f))
    by false false f g e rest = rest e

pub unread_before : (p : ProgramView) (row : ℕ → ℕ) (k j : ℕ) → has_read p row (suc k) j ≡ false → has_read p row k j ≡ false
unread_before p row k j = none_before row k (read_cells p.cells j)

-- ---- marks

-- past the last site there is none
pub marked_by_past : (b : Build) (t : TableState) (k : ℕ) (e : Change) (x : Packet) (j : ℕ) → length b.program.sites ≤ j → marked_at (marked_by b t k e x) j ≡ false
unfolding marked_by
marked_by_past b t k e x j past =
    let mark : ℕ → Bool = λ i. marked_at x i || is_marked b.program b.plan.row t.decls k x.held e i in
    let all = numbers 0 (length b.program.sites) in
    get_or_past (map_list mark all) j false (omega (arith, past, numbers_long 0 (length b.program.sites), length-map all mark))

-- a pointer of an access is that of a cell
pub access_at : (h : StageValues) (ks : List ℕ) (n u : ℕ) → get_or (map_list (pointer_in h) ks) n Null ≡ Pending u → (c : ℕ) × (pointer_in h c ≡ Pending u)
access_at h [] n u e = cc
access_at h (c ∷ ks) zero u e = (c, e)
access_at h (c ∷ ks) (suc n) u e = access_at h ks n u e
