-- What is made and carried is there where it is taken.
use Rattle.std.specs.Prelude.{◌==◌, ◌≢◌, nat_lt, nat_le, Contains, not}
use Rattle.std.specs.List.{list_any}
use Rattle.std.proofs.Common.{◌≡◌, ◌⊎◌, inl, inr, ℕ, suc, ◌-◌, ◌<◌, ◌≤◌, Bool, true, false, ◌||◌, ◌&&◌, All, List, length, take, get_or, refl, arith, slice_index}
use Rattle.std.proofs.lemmas.Bool.{eqb-true, eqb-false, eq-eqb, le-leb, leb-true, lt-ltb, ltb-true}
use Rattle.std.proofs.lemmas.List.Elements.{Contains-get_or, filter_passes}
use Rattle.block_core.proofs.list_laws_laws.BoolLaws.{both_of, either_of, left_or, right_or, and_is}
use Rattle.overlay_net.specs.cell_core.Cells.{cell_at}
use Rattle.overlay_net.specs.cell_core.Formed.{AreFormed}
use Rattle.overlay_net.specs.cell_core.Rows.{RowsRise, numbers}
use Rattle.overlay_net.specs.cell_core.Sites.{ProgramView}
use Rattle.cell_nets.specs.Computing.{is_outside}
use Rattle.row_plan.specs.Plan.{Plan, IsPlan, Taken, Answered, answer_cells}
use Rattle.row_net.specs.Needed.{AreNeeded, flag}
use Rattle.row_net.specs.Needed as needs
use Rattle.row_net.specs.Lists.{varies, is_made, is_carried, made_cells, carried_cells, IsBrought, Same, Outside, Carried, CellsArePlaced}
use Rattle.row_net.specs.Table.{is_constant}
use Rattle.row_net.proofs.ListLemmas.{kept_in, kept_before, any_of, of_any}
use Rattle.row_net.proofs.EarlyLemmas.{early_takes}
use Rattle.row_net.proofs.FlagLaws.{marked_inside}

of_not : (b : Bool) → b ≡ false → not b ≡ true
of_not true e = cc
of_not false e = refl

test : (b : Bool) → (b ≡ true) ⊎ (b ≡ false)
test true = inl refl
test false = inr refl

passed : (q : ℕ → Bool) (xs : List ℕ) (n : ℕ) → n < length xs → All (λ x. q x ≡ true) xs → q (slice_index xs n) ≡ true
passed q xs n lt h = h n 0 lt

module _ (rise : RowsRise) (p : ProgramView) (plan : Plan) (needed : List Bool) (formed : AreFormed p.cells) (is : IsPlan p plan) (are : AreNeeded p needed) where
  abbrev row : ℕ → ℕ
  row = slice_index plan.rows

  abbrev kept : ℕ → ℕ
  kept = slice_index plan.kept

  inside : (k : ℕ) → flag needed k ≡ true → k < length p.cells
  inside k h = omega (arith, are.count, marked_inside needed k h)

  -- ---- what the tests say
  flag_of : (k : ℕ) → varies p needed k ≡ true → flag needed k ≡ true
  flag_of k h = (both_of (flag needed k) (not (is_constant (cell_at p.cells k))) h).0

  varies_of : (k : ℕ) → flag needed k ≡ true → is_constant (cell_at p.cells k) ≡ false → varies p needed k ≡ true
  varies_of k h c = and_is (flag needed k) (not (is_constant (cell_at p.cells k))) h (of_not (is_constant (cell_at p.cells k)) c)

  made_varies : (at k : ℕ) → is_made p plan needed at k ≡ true → varies p needed k ≡ true
  made_varies at k h = (both_of (varies p needed k) (not (is_outside (cell_at p.cells k).op) && row k == at) h).0

  made_row : (at k : ℕ) → is_made p plan needed at k ≡ true → row k ≡ at
  made_row at k h =
      let g = (both_of (varies p needed k) (not (is_outside (cell_at p.cells k).op) && row k == at) h).1 in
      eqb-true (row k) at (both_of (not (is_outside (cell_at p.cells k).op)) (row k == at) g).1

  made_of : (at k : ℕ) → varies p needed k ≡ true → is_outside (cell_at p.cells k).op ≡ false → row k ≡ at → is_made p plan needed at k ≡ true
  made_of at k h o e =
      and_is (varies p needed k) (not (is_outside (cell_at p.cells k).op) && row k == at) h
      (and_is (not (is_outside (cell_at p.cells k).op)) (row k == at) (of_not (is_outside (cell_at p.cells k).op) o) (eq-eqb (row k) at e))

  -- the last place carries what the answer takes
  abbrev for_answer : ℕ → ℕ → Bool
  for_answer at k = at == plan.last && list_any (λ c. c == k) (answer_cells p)

  abbrev goes_on : ℕ → ℕ → Bool
  goes_on at k = nat_lt at (kept k) || for_answer at k

  carried_of : (at k : ℕ) → varies p needed k ≡ true → row k ≤ at → goes_on at k ≡ true → is_carried p plan needed at k ≡ true
  carried_of at k h le g = and_is (varies p needed k) (nat_le (row k) at && goes_on at k) h (and_is (nat_le (row k) at) (goes_on at k) (le-leb (row k) at le) g)

  carried_varies : (at k : ℕ) → is_carried p plan needed at k ≡ true → varies p needed k ≡ true
  carried_varies at k h = (both_of (varies p needed k) (nat_le (row k) at && goes_on at k) h).0

  carried_rest : (at k : ℕ) → is_carried p plan needed at k ≡ true → (row k ≤ at) × (goes_on at k ≡ true)
  carried_rest at k h =
      let g = (both_of (varies p needed k) (nat_le (row k) at && goes_on at k) h).1 in
      let s = both_of (nat_le (row k) at) (goes_on at k) g in
      (leb-true (row k) at s.0, s.1)

  in_made : (at k : ℕ) → is_made p plan needed at k ≡ true → Contains (made_cells p plan needed at) k
  in_made at k h = kept_in (is_made p plan needed at) (length p.cells) 0 k (omega arith) (omega (arith, inside k (flag_of k (made_varies at k h)))) h

  in_carried : (at k : ℕ) → is_carried p plan needed at k ≡ true → Contains (carried_cells p plan needed at) k
  in_carried at k h = kept_in (is_carried p plan needed at) (length p.cells) 0 k (omega arith) (omega (arith, inside k (flag_of k (carried_varies at k h)))) h

  -- ---- a cell of an earlier row that is kept so far is carried by the place before
  brought : (at k : ℕ) → varies p needed k ≡ true → row k ≤ at → row k ≢ at → at ≤ kept k → IsBrought p plan needed at k
  brought at k h le other far =
      let less : row k < at = omega arith in
      let back : suc (at - 1) ≡ at = omega arith in
      let more : at - 1 < kept k = omega arith in
      Carried (at - 1, back, in_carried (at - 1) k (carried_of (at - 1) k h (omega arith) (left_or (nat_lt (at - 1) (kept k)) (for_answer (at - 1) k) (lt-ltb (at - 1) (kept k) more))))

  -- where it is of this row, it comes from outside or is made; `There` says that it is
  here : (There : Type 0) (at k : ℕ) → varies p needed k ≡ true → row k ≤ at → at ≤ kept k → (is_made p plan needed at k ≡ true → There) → IsBrought p plan needed at k ⊎ There
  here There at k h le far made = by_row (row k == at) refl
    where
      by_source : row k ≡ at → (is_outside (cell_at p.cells k).op ≡ true) ⊎ (is_outside (cell_at p.cells k).op ≡ false) → IsBrought p plan needed at k ⊎ There
      by_source e (inl o) = inl (Outside o e)
      by_source e (inr o) = inr (made (made_of at k h o e))

      by_row : (t : Bool) → (row k == at) ≡ t → IsBrought p plan needed at k ⊎ There
      by_row true e = by_source (eqb-true (row k) at e) (test (is_outside (cell_at p.cells k).op))
      by_row false e = inl (brought at k h le (eqb-false (row k) at e) far)

  -- ---- an input of a made cell
  module _ (at n : ℕ) (lt : n < length (made_cells p plan needed at)) (m d : ℕ) (within : m < length (cell_at p.cells (slice_index (made_cells p plan needed at) n)).ins) where
    abbrev made : List ℕ
    made = made_cells p plan needed at

    abbrev taker : ℕ
    taker = slice_index made n

    abbrev taken : ℕ
    taken = get_or (cell_at p.cells taker).ins m d

    is_taker : is_made p plan needed at taker ≡ true
    is_taker = passed (is_made p plan needed at) made n lt (filter_passes (is_made p plan needed at) (numbers 0 (length p.cells)))

    taker_marked : flag needed taker ≡ true
    taker_marked = flag_of taker (made_varies at taker is_taker)

    taker_inside : taker < length p.cells
    taker_inside = inside taker taker_marked

    earlier : taken < taker
    earlier = (formed.each taker taker_inside).earlier m d within

    takes : Contains (cell_at p.cells taker).ins taken
    takes = Contains-get_or (cell_at p.cells taker).ins m d within

    marked : flag needed taken ≡ true
    marked = are.used taken (omega (arith, earlier, taker_inside)) (needs.Taken taker taken (are.only taker taker_marked) takes)

    below : row taken ≤ at
    below = omega (arith, rise p.cells row is.rows taker taker_inside m d within, made_row at taker is_taker)

    far : at ≤ kept taken
    far = omega (arith, is.kept.enough taken (row taker) (omega (arith, earlier, taker_inside)) (Taken taker taker_inside takes refl), made_row at taker is_taker)

    input : IsBrought p plan needed at taken ⊎ Contains (take n made) taken
    input = by_kind (test (is_constant (cell_at p.cells taken)))
      where
        by_kind : (is_constant (cell_at p.cells taken) ≡ true) ⊎ (is_constant (cell_at p.cells taken) ≡ false) → IsBrought p plan needed at taken ⊎ Contains (take n made) taken
        by_kind (inl e) = inl (Same e)
        by_kind (inr e) =
            here (Contains (take n made) taken) at taken (varies_of taken marked e) below far (λ h. kept_before (is_made p plan needed at) (length p.cells) 0 n taken lt (omega arith) earlier h)

  -- ---- a cell that is carried
  module _ (at k : ℕ) (is_k : is_carried p plan needed at k ≡ true) where
    by_end : (nat_lt at (kept k) ≡ true) ⊎ (for_answer at k ≡ true) → at ≤ kept k
    by_end (inl h) = omega (arith, ltb-true at (kept k) h)
    by_end (inr h) =
        let s = both_of (at == plan.last) (list_any (λ c. c == k) (answer_cells p)) h in
        omega (arith, is.kept.enough k plan.last (inside k (flag_of k (carried_varies at k is_k))) (Answered (of_any (answer_cells p) k s.1) refl), eqb-true at plan.last s.0)

    carried_far : at ≤ kept k
    carried_far = by_end (either_of (nat_lt at (kept k)) (for_answer at k) (carried_rest at k is_k).1)

    carry : IsBrought p plan needed at k ⊎ Contains (made_cells p plan needed at) k
    carry = here (Contains (made_cells p plan needed at) k) at k (carried_varies at k is_k) (carried_rest at k is_k).0 carried_far (in_made at k)

  answer : (k : ℕ) → k < length p.cells → Contains (answer_cells p) k → row k ≤ plan.last → (is_constant (cell_at p.cells k) ≡ true) ⊎ Contains (carried_cells p plan needed plan.last) k
  answer k lt there le = by_kind (test (is_constant (cell_at p.cells k)))
    where
      by_kind : (is_constant (cell_at p.cells k) ≡ true) ⊎ (is_constant (cell_at p.cells k) ≡ false) → (is_constant (cell_at p.cells k) ≡ true) ⊎ Contains (carried_cells p plan needed plan.last) k
      by_kind (inl e) = inl e
      by_kind (inr e) =
          inr (in_carried plan.last k (carried_of plan.last k (varies_of k (are.used k lt (needs.Answered k there)) e) le
          (right_or (nat_lt plan.last (kept k)) (for_answer plan.last k) (and_is (plan.last == plan.last) (list_any (λ c. c == k) (answer_cells p)) (eq-eqb plan.last plan.last refl) (any_of (answer_cells p) k there)))))

pub cells_placed : RowsRise → CellsArePlaced
cells_placed rise p plan needed formed is are = record {
  inputs = λ at n lt m d within. input rise p plan needed formed is are at n lt m d within;
  apart = λ at. early_takes p plan formed is.rows at (made_cells p plan needed at) (λ n d lt. let h = filter_passes (is_made p plan needed at) (numbers 0 (length p.cells)) n d lt in
      (inside rise p plan needed formed is are _ (flag_of rise p plan needed formed is are _ (made_varies rise p plan needed formed is are at _ h)), made_row rise p plan needed formed is are at _ h));
  carried = λ at le m d within. carry rise p plan needed formed is are at _ (filter_passes (is_carried p plan needed at) (numbers 0 (length p.cells)) m d within);
  answer = answer rise p plan needed formed is are;
}
