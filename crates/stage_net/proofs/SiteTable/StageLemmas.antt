-- What is made and held is there where it is taken, with its pointers.
use Rattle.std.specs.Prelude.{◌==◌, ◌≢◌, nat_lt, nat_le, ◌&&◌, ◌||◌, not, Contains}
use Rattle.std.specs.List.{filter, list_any}
use Rattle.std.proofs.Common.{◌≡◌, ◌⊎◌, inl, inr, ℕ, zero, suc, ◌-◌, ◌<◌, ◌≤◌, Bool, true, false, All, List, length, take, get_or, refl, subst, arith, slice_index}
use Rattle.std.proofs.lemmas.Bool.{eqb-true, eqb-false, eq-eqb, le-leb, leb-true, lt-ltb, ltb-true}
use Rattle.std.proofs.lemmas.List.Elements.{All-weaker, Contains-get_or, filter_passes}
use Rattle.block_core.proofs.list_laws_laws.BoolLaws.{both_of, either_of, left_or, right_or, and_is}
use Rattle.hazard_core.specs.cell_core.declared.operator.Operator.{Operator}
use Rattle.hazard_core.specs.cell_core.declared.operator.Operator.TheVariants.{Wire, Phi, Found}
use Rattle.hazard_core.specs.cell_core.Cells.{CellView, cell_at}
use Rattle.hazard_core.specs.cell_core.Formed.{AreFormed, takes}
use Rattle.hazard_core.specs.cell_core.Rows.{RowsRise, numbers}
use Rattle.hazard_core.specs.cell_core.Sites.{ProgramView}
use Rattle.overlay_net.specs.cell_nets.Computing.{is_outside}
use Rattle.row_plan.specs.Plan.{Plan, IsPlan, Taken, Answered, answer_cells}
use Rattle.row_net.specs.Needed.{AreNeeded, IsUsed, flag}
use Rattle.row_net.specs.Needed as needs
use Rattle.row_net.specs.Lists.{varies, is_made, made_cells, ArePlaced, CellsArePlaced}
use Rattle.row_net.specs.Table.{is_constant, is_number}
use Rattle.row_net.specs.PlaceNet.Place.{width_at}
use Rattle.row_net.specs.SitePlace.Pointing.{Takes, HoldsOf, is_edge}
use Rattle.row_net.proofs.FlagLaws.{marked_inside}
use Rattle.stage_net.specs.SiteTable.Lists.{goes_on, is_awaited, stays, is_computed, has_pointer, is_held, is_held_pointer, is_made_pointer, held_cells, held_pointers, made_pointers}
use Rattle.stage_net.specs.SiteTable.Parts.{IsPart, AreParts}
use Rattle.stage_net.specs.SiteTable.Parts as sites
use Rattle.stage_net.specs.SiteTable.Pointing.{gives_pointer, AreFlagged}
use Rattle.stage_net.specs.SiteTable.Staged.{IsStaged, Same, Outside, Before, IsPointed, AreStaged, IsMadeAt, IsHeldAt, AreLists, StagesArePlaced, ListsAreFormed}
use Rattle.stage_net.specs.SiteTable.Staged as staged
use Rattle.stage_net.proofs.SiteTable.ListLemmas.{kept_below, kept_in, kept_before, any_of, of_any, not_of, of_not, test}

-- ---- operators
found_is : (o : Operator) → is_outside o ≡ true → gives_pointer o ≡ true → (j : ℕ) × (o ≡ Found j)
found_is (Found j) h g = (j, refl)
found_is Wire h g = cc
found_is Phi h g = cc
found_is o h g = cc

-- what a pointer takes is there, as a cell and as a pointer
module _ (E Q : ℕ → Type 0) where
  holds_of : (b : Bool) (i : ℕ) → E i → Q i → HoldsOf E Q b i
  holds_of true i e q = e
  holds_of false i e q = q

  takes_of : (o : Operator) (ins : List ℕ) → takes o ≤ length ins → ((m : ℕ) → m < length ins → E (slice_index ins m)) → ((m : ℕ) → m < length ins → Q (slice_index ins m)) → Takes E Q o ins
  takes_of Wire ins enough e q = q 0 (omega arith)
  takes_of Phi ins enough e q = λ n l. holds_of (is_edge n) (slice_index ins n) (e n l) (q n l)
  takes_of o ins enough e q = tt

wide_of : (w : ℕ) (b : Bool) → ((w == 0) || b) ≡ false → 0 < w
wide_of zero b e = cc
wide_of (suc w) b e = omega arith

module _ (p : ProgramView) (plan : Plan) (needed parts points : List Bool) where
  abbrev row : ℕ → ℕ
  row = slice_index plan.rows

  abbrev kept : ℕ → ℕ
  kept = slice_index plan.kept

  abbrev here : ℕ → CellView
  here k = cell_at p.cells k

  abbrev n : ℕ
  n = length p.cells

  -- ---- what the tests say
  of_computed : (at k : ℕ) → is_computed p plan at k ≡ true → (is_outside (here k).op ≡ false) × (row k ≡ at)
  of_computed at k h = let s = both_of (not (is_outside (here k).op)) (row k == at) h in (not_of (is_outside (here k).op) s.0, eqb-true (row k) at s.1)

  to_computed : (at k : ℕ) → is_outside (here k).op ≡ false → row k ≡ at → is_computed p plan at k ≡ true
  to_computed at k o e = and_is (not (is_outside (here k).op)) (row k == at) (of_not (is_outside (here k).op) o) (eq-eqb (row k) at e)

  stays_row : (at k : ℕ) → stays p plan parts at k ≡ true → row k ≤ at
  stays_row at k h = leb-true (row k) at (both_of (nat_le (row k) at) (goes_on p plan at k || is_awaited plan parts at k) h).0

  made_varies : (at k : ℕ) → is_made p plan needed at k ≡ true → varies p needed k ≡ true
  made_varies at k h = (both_of (varies p needed k) (is_computed p plan at k) h).0

  of_varies : (k : ℕ) → varies p needed k ≡ true → (flag needed k ≡ true) × (is_constant (here k) ≡ false)
  of_varies k h = let s = both_of (flag needed k) (not (is_constant (here k))) h in (s.0, not_of (is_constant (here k)) s.1)

  -- ---- of the lists themselves
  listed : (q : ℕ → Bool) → All (λ k. q k ≡ true) (filter q (numbers 0 n))
  listed q = filter_passes q (numbers 0 n)

  made_at : (q : ℕ → Bool) (at : ℕ) → All (IsMadeAt p plan at) (filter (λ k. q k && is_computed p plan at k) (numbers 0 n))
  made_at q at i d lt =
      let list = filter (λ k. q k && is_computed p plan at k) (numbers 0 n) in
      let k = get_or list i d in
      let s = of_computed at k (both_of (q k) (is_computed p plan at k) (listed (λ k. q k && is_computed p plan at k) i d lt)).1 in
      record { within = kept_below (λ k. q k && is_computed p plan at k) n i d lt; row = s.1; computed = s.0 }

  held_at : (q : ℕ → Bool) (at : ℕ) → All (IsHeldAt p plan at) (filter (λ k. q k && stays p plan parts at k) (numbers 0 n))
  held_at q at i d lt =
      let list = filter (λ k. q k && stays p plan parts at k) (numbers 0 n) in
      let k = get_or list i d in
      record { within = kept_below (λ k. q k && stays p plan parts at k) n i d lt; row = stays_row at k (both_of (q k) (stays p plan parts at k) (listed (λ k. q k && stays p plan parts at k) i d lt)).1 }

  held_wide : (at : ℕ) → All (λ k. 0 < width_at p.cells k) (held_cells p plan needed parts at)
  held_wide at =
      All-weaker (λ k. is_held p plan needed parts at k ≡ true) (λ k. 0 < width_at p.cells k)
      (λ k h. wide_of (here k).width (is_number (here k).op) (of_varies k (both_of (varies p needed k) (stays p plan parts at k) h).0).1) (held_cells p plan needed parts at) (listed (is_held p plan needed parts at))

  are_lists : AreLists p plan needed parts points
  are_lists = record { made = made_at (varies p needed); held = held_at (varies p needed); wide = held_wide; pointers_made = made_at (has_pointer needed points); pointers_held = held_at (has_pointer needed points) }

  module _ (rise : RowsRise) (formed : AreFormed p.cells) (is : IsPlan p plan) (are : AreNeeded p needed) (of : AreParts p parts) (flagged : AreFlagged p.cells points) where
    -- it is taken in this row or after it, or packets have not committed and it is a site's
    abbrev Far : ℕ → ℕ → Type 0
    Far at k = (at ≤ kept k) ⊎ ((at ≤ plan.commit) × (flag parts k ≡ true))

    needed_inside : (k : ℕ) → flag needed k ≡ true → k < n
    needed_inside k h = omega (arith, are.count, marked_inside needed k h)

    -- ---- which cells are held
    stays_on : (at k : ℕ) → row k ≤ at → goes_on p plan at k ≡ true → stays p plan parts at k ≡ true
    stays_on at k le h = and_is (nat_le (row k) at) (goes_on p plan at k || is_awaited plan parts at k) (le-leb (row k) at le) (left_or (goes_on p plan at k) (is_awaited plan parts at k) h)

    stays_for : (at k : ℕ) → row k ≤ at → at ≤ plan.commit → flag parts k ≡ true → stays p plan parts at k ≡ true
    stays_for at k le c h =
        and_is (nat_le (row k) at) (goes_on p plan at k || is_awaited plan parts at k) (le-leb (row k) at le)
        (right_or (goes_on p plan at k) (is_awaited plan parts at k) (and_is (nat_le at plan.commit) (flag parts k) (le-leb at plan.commit c) h))

    stays_far : (at k : ℕ) → k < n → stays p plan parts at k ≡ true → Far at k
    stays_far at k lt h = by_end (either_of (goes_on p plan at k) (is_awaited plan parts at k) (both_of (nat_le (row k) at) (goes_on p plan at k || is_awaited plan parts at k) h).1)
      where
        by_taker : (nat_lt at (kept k) ≡ true) ⊎ ((at == plan.last && list_any (λ c. c == k) (answer_cells p)) ≡ true) → at ≤ kept k
        by_taker (inl e) = omega (arith, ltb-true at (kept k) e)
        by_taker (inr e) =
            let s = both_of (at == plan.last) (list_any (λ c. c == k) (answer_cells p)) e in
            omega (arith, is.kept.enough k plan.last lt (Answered (answered (answer_cells p) s.1) refl), eqb-true at plan.last s.0)
          where
            answered : (xs : List ℕ) → list_any (λ c. c == k) xs ≡ true → Contains xs k
            answered xs h = let a = of_any (λ c. c == k) xs h in subst (Contains xs) (eqb-true a.0 k a.2) a.1

        by_end : (goes_on p plan at k ≡ true) ⊎ (is_awaited plan parts at k ≡ true) → Far at k
        by_end (inl e) = inl (by_taker (either_of (nat_lt at (kept k)) (at == plan.last && list_any (λ c. c == k) (answer_cells p)) e))
        by_end (inr e) = let s = both_of (nat_le at plan.commit) (flag parts k) e in inr (leb-true at plan.commit s.0, s.1)

    -- a cell of an earlier row that is far is held by the place before
    earlier : (q : ℕ → Bool) (at k : ℕ) → k < n → q k ≡ true → row k ≤ at → row k ≢ at → Far at k → (before : ℕ) × (suc before ≡ at) × Contains (filter (λ k. q k && stays p plan parts before k) (numbers 0 n)) k
    earlier q at k lt h le other far =
        let less : row k < at = omega arith in
        let back : suc (at - 1) ≡ at = omega arith in
        (at - 1, back, kept_in (λ k. q k && stays p plan parts (at - 1) k) n k lt (and_is (q k) (stays p plan parts (at - 1) k) h (by_far far)))
      where
        by_far : Far at k → stays p plan parts (at - 1) k ≡ true
        by_far (inl f) =
            let less : row k < at = omega arith in
            let more : at - 1 < kept k = omega arith in
            stays_on (at - 1) k (omega arith) (left_or (nat_lt (at - 1) (kept k)) ((at - 1) == plan.last && list_any (λ c. c == k) (answer_cells p)) (lt-ltb (at - 1) (kept k) more))
        by_far (inr f) =
            let less : row k < at = omega arith in
            stays_for (at - 1) k (omega arith) (omega (arith, f.0)) f.1

    -- ---- a needed cell that is far is there; `Here` says that it is made
    module _ (Here : Type 0) (at k : ℕ) (marked : flag needed k ≡ true) (le : row k ≤ at) (far : Far at k) where
      inside : k < n
      inside = needed_inside k marked

      in_stage : (is_made p plan needed at k ≡ true → Here) → IsStaged p plan needed parts at k ⊎ Here
      in_stage made = by_kind (test (is_constant (here k)))
        where
          by_source : varies p needed k ≡ true → row k ≡ at → (is_outside (here k).op ≡ true) ⊎ (is_outside (here k).op ≡ false) → IsStaged p plan needed parts at k ⊎ Here
          by_source v e (inl o) = inl (Outside marked o e)
          by_source v e (inr o) = inr (made (and_is (varies p needed k) (is_computed p plan at k) v (to_computed at k o e)))

          by_row : varies p needed k ≡ true → (t : Bool) → (row k == at) ≡ t → IsStaged p plan needed parts at k ⊎ Here
          by_row v true e = by_source v (eqb-true (row k) at e) (test (is_outside (here k).op))
          by_row v false e = let b = earlier (varies p needed) at k inside v le (eqb-false (row k) at e) far in inl (Before b.0 b.1 b.2)

          by_kind : (is_constant (here k) ≡ true) ⊎ (is_constant (here k) ≡ false) → IsStaged p plan needed parts at k ⊎ Here
          by_kind (inl e) = inl (Same marked e)
          by_kind (inr e) = by_row (and_is (flag needed k) (not (is_constant (here k))) marked (of_not (is_constant (here k)) e)) (row k == at) refl

      in_pointers : (is_made_pointer p plan needed points at k ≡ true → Here) → IsPointed p plan needed parts points at k ⊎ Here
      in_pointers made = by_flag (test (flag points k))
        where
          by_source : flag points k ≡ true → row k ≡ at → (is_outside (here k).op ≡ true) ⊎ (is_outside (here k).op ≡ false) → IsPointed p plan needed parts points at k ⊎ Here
          by_source f e (inl o) = let j = found_is (here k).op o (flagged.only k f) in inl (staged.Found j.0 marked j.1 e)
          by_source f e (inr o) = inr (made (and_is (has_pointer needed points k) (is_computed p plan at k) (and_is (flag needed k) (flag points k) marked f) (to_computed at k o e)))

          by_row : flag points k ≡ true → (t : Bool) → (row k == at) ≡ t → IsPointed p plan needed parts points at k ⊎ Here
          by_row f true e = by_source f (eqb-true (row k) at e) (test (is_outside (here k).op))
          by_row f false e =
              let b = earlier (has_pointer needed points) at k inside (and_is (flag needed k) (flag points k) marked f) le (eqb-false (row k) at e) far in
              inl (staged.Kept b.0 b.1 b.2)

          by_flag : (flag points k ≡ true) ⊎ (flag points k ≡ false) → IsPointed p plan needed parts points at k ⊎ Here
          by_flag (inl f) = by_row f (row k == at) refl
          by_flag (inr f) = inl (staged.Plain marked f)

    -- ---- what a needed cell of this row takes
    module _ (at taker m d : ℕ) (marked : flag needed taker ≡ true) (this : row taker ≡ at) (within : m < length (here taker).ins) where
      abbrev taken : ℕ
      taken = get_or (here taker).ins m d

      taken_before : taken < taker
      taken_before = (formed.each taker (needed_inside taker marked)).earlier m d within

      takes_it : Contains (here taker).ins taken
      takes_it = Contains-get_or (here taker).ins m d within

      taken_marked : flag needed taken ≡ true
      taken_marked = are.used taken (omega (arith, taken_before, needed_inside taker marked)) (needs.Taken taker taken (are.only taker marked) takes_it)

      taken_low : row taken ≤ at
      taken_low = omega (arith, rise p.cells row is.rows taker (needed_inside taker marked) m d within, this)

      taken_far : Far at taken
      taken_far = inl (omega (arith, is.kept.enough taken (row taker) (omega (arith, taken_before, needed_inside taker marked)) (Taken taker (needed_inside taker marked) takes_it refl), this))

    -- ---- the cells of a place
    abbrev made : ℕ → List ℕ
    made at = made_cells p plan needed at

    abbrev those : ℕ → List ℕ
    those at = made_pointers p plan needed points at

    in_made : (at k : ℕ) → flag needed k ≡ true → is_made p plan needed at k ≡ true → Contains (made at) k
    in_made at k marked h = kept_in (is_made p plan needed at) n k (needed_inside k marked) h

    in_held : (at k : ℕ) → flag needed k ≡ true → stays p plan parts at k ≡ true → (is_constant (here k) ≡ true) ⊎ Contains (held_cells p plan needed parts at) k
    in_held at k marked h = by_kind (test (is_constant (here k)))
      where
        by_kind : (is_constant (here k) ≡ true) ⊎ (is_constant (here k) ≡ false) → (is_constant (here k) ≡ true) ⊎ Contains (held_cells p plan needed parts at) k
        by_kind (inl e) = inl e
        by_kind (inr e) =
            inr (kept_in (is_held p plan needed parts at) n k (needed_inside k marked) (and_is (varies p needed k) (stays p plan parts at k) (and_is (flag needed k) (not (is_constant (here k))) marked (of_not (is_constant (here k)) e)) h))

    in_held_pointers : (at k : ℕ) → flag needed k ≡ true → stays p plan parts at k ≡ true → (flag points k ≡ false) ⊎ Contains (held_pointers p plan needed parts points at) k
    in_held_pointers at k marked h = by_flag (test (flag points k))
      where
        by_flag : (flag points k ≡ true) ⊎ (flag points k ≡ false) → (flag points k ≡ false) ⊎ Contains (held_pointers p plan needed parts points at) k
        by_flag (inl f) = inr (kept_in (is_held_pointer p plan needed parts points at) n k (needed_inside k marked) (and_is (has_pointer needed points k) (stays p plan parts at k) (and_is (flag needed k) (flag points k) marked f) h))
        by_flag (inr f) = inl f

    of_made : (at i : ℕ) → i < length (made at) → is_made p plan needed at (slice_index (made at) i) ≡ true
    of_made at i lt = listed (is_made p plan needed at) i 0 lt

    inputs : (at i : ℕ) → i < length (made at) → All (λ k. IsStaged p plan needed parts at k ⊎ Contains (take i (made at)) k) (here (slice_index (made at) i)).ins
    inputs at i lt m d within =
        let taker = slice_index (made at) i in
        let marked = (of_varies taker (made_varies at taker (of_made at i lt))).0 in
        let this = (made_at (varies p needed) at i 0 lt).row in
        let k = taken at taker m d marked this within in
        in_stage (Contains (take i (made at)) k) at k (taken_marked at taker m d marked this within) (taken_low at taker m d marked this within) (taken_far at taker m d marked this within)
        (λ h. kept_before (is_made p plan needed at) n i k lt (taken_before at taker m d marked this within) h)

    held : (at : ℕ) → All (λ k. IsStaged p plan needed parts at k ⊎ Contains (made at) k) (held_cells p plan needed parts at)
    held at i d lt =
        let k = get_or (held_cells p plan needed parts at) i d in
        let s = both_of (varies p needed k) (stays p plan parts at k) (listed (is_held p plan needed parts at) i d lt) in
        let marked = (of_varies k s.0).0 in
        in_stage (Contains (made at) k) at k marked (stays_row at k s.1) (stays_far at k (needed_inside k marked) s.1) (in_made at k marked)

    -- ---- its pointers
    module _ (at i : ℕ) (lt : i < length (those at)) where
      abbrev pointed : ℕ
      pointed = slice_index (those at) i

      pointed_is : is_made_pointer p plan needed points at pointed ≡ true
      pointed_is = listed (is_made_pointer p plan needed points at) i 0 lt

      pointed_marked : flag needed pointed ≡ true
      pointed_marked = (both_of (flag needed pointed) (flag points pointed) (both_of (has_pointer needed points pointed) (is_computed p plan at pointed) pointed_is).0).0

      pointed_row : row pointed ≡ at
      pointed_row = (made_at (has_pointer needed points) at i 0 lt).row

      pointers : Takes (λ k. IsStaged p plan needed parts at k ⊎ Contains (made at) k) (λ k. IsPointed p plan needed parts points at k ⊎ Contains (take i (those at)) k) (here pointed).op (here pointed).ins
      pointers =
          takes_of (λ k. IsStaged p plan needed parts at k ⊎ Contains (made at) k) (λ k. IsPointed p plan needed parts points at k ⊎ Contains (take i (those at)) k) (here pointed).op (here pointed).ins
          (formed.each pointed (needed_inside pointed pointed_marked)).enough
          (λ m within.
          let k = taken at pointed m 0 pointed_marked pointed_row within in
          let marked = taken_marked at pointed m 0 pointed_marked pointed_row within in
          in_stage (Contains (made at) k) at k marked (taken_low at pointed m 0 pointed_marked pointed_row within) (taken_far at pointed m 0 pointed_marked pointed_row within) (in_made at k marked))
          (λ m within.
          let k = taken at pointed m 0 pointed_marked pointed_row within in
          in_pointers (Contains (take i (those at)) k) at k (taken_marked at pointed m 0 pointed_marked pointed_row within) (taken_low at pointed m 0 pointed_marked pointed_row within) (taken_far at pointed m 0 pointed_marked pointed_row within)
          (λ h. kept_before (is_made_pointer p plan needed points at) n i k lt (taken_before at pointed m 0 pointed_marked pointed_row within) h))

    kept_pointers : (at : ℕ) → All (λ k. IsPointed p plan needed parts points at k ⊎ Contains (those at) k) (held_pointers p plan needed parts points at)
    kept_pointers at i d lt =
        let k = get_or (held_pointers p plan needed parts points at) i d in
        let s = both_of (has_pointer needed points k) (stays p plan parts at k) (listed (is_held_pointer p plan needed parts points at) i d lt) in
        let marked = (both_of (flag needed k) (flag points k) s.0).0 in
        in_pointers (Contains (those at) k) at k marked (stays_row at k s.1) (stays_far at k (needed_inside k marked) s.1) (λ h. kept_in (is_made_pointer p plan needed points at) n k (needed_inside k marked) h)

    -- ---- the answer, and the cells of sites
    answer : (k : ℕ) → k < n → Contains (answer_cells p) k → row k ≤ plan.last → (is_constant (here k) ≡ true) ⊎ Contains (held_cells p plan needed parts plan.last) k
    answer k lt there le =
        in_held plan.last k (are.used k lt (needs.Answered k there))
        (stays_on plan.last k le
        (right_or (nat_lt plan.last (kept k)) (plan.last == plan.last && list_any (λ c. c == k) (answer_cells p))
        (and_is (plan.last == plan.last) (list_any (λ c. c == k) (answer_cells p)) (eq-eqb plan.last plan.last refl) (any_of (λ c. c == k) (answer_cells p) k there (eq-eqb k k refl)))))

    used_part : (k : ℕ) → IsPart p k → IsUsed p k
    used_part k (sites.Taken s there takes) = needs.AtSite k s there takes
    used_part k (sites.Read e) = needs.Read k e

    part_marked : (k : ℕ) → k < n → flag parts k ≡ true → flag needed k ≡ true
    part_marked k lt h = are.used k lt (used_part k (of.only k h))

    are_staged : ArePlaced p plan needed → AreStaged p plan needed parts points
    are_staged placed = record {
      inputs = inputs;
      apart = placed.apart;
      held = held;
      pointers = λ at i lt. pointers at i lt;
      kept_pointers = kept_pointers;
      answer = answer;
      sites = λ at k le lt h low. in_held at k (part_marked k lt h) (stays_for at k low le h);
      site_pointers = λ at k le lt h low. in_held_pointers at k (part_marked k lt h) (stays_for at k low le h);
    }

pub lists_formed : ListsAreFormed
lists_formed p plan needed parts points = are_lists p plan needed parts points

pub stages_placed : RowsRise → CellsArePlaced → StagesArePlaced
stages_placed rise placed p plan needed parts points formed is are of flagged = are_staged p plan needed parts points rise formed is are of flagged (placed p plan needed formed is are)
