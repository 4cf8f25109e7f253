-- What products of a row take.
use Rattle.std.specs.Prelude.{nat_le}
use Rattle.std.proofs.Common.{◌≡◌, ◌⊎◌, inl, inr, ℕ, zero, suc, ◌<◌, ◌≤◌, true, false, ◌||◌, All, List, length, take, get_or, refl, sym, ◌∙◌, ap, subst, arith, slice_index}
use Rattle.std.proofs.lemmas.Bool.{le-leb, leb-true}
use Rattle.std.proofs.lemmas.List.{length-take, get_or-take, get_or_default}
use Rattle.std.proofs.lemmas.List.Elements.{All-contains}
use Rattle.block_core.proofs.list_laws_laws.BoolLaws.{either_of, left_or, right_or}
use Rattle.overlay_net.specs.cell_core.declared.operator.Operator.{Operator}
use Rattle.overlay_net.specs.cell_core.declared.operator.Operator.TheVariants.{Mul, Quotient, Remainder, NonZero}
use Rattle.overlay_net.specs.cell_core.Cells.{cell_at, is_heavy, bit}
use Rattle.overlay_net.specs.cell_core.Formed.{AreFormed, divides}
use Rattle.overlay_net.specs.cell_core.Rows.{AreRows}
use Rattle.overlay_net.specs.cell_core.Sites.{ProgramView}
use Rattle.cell_nets.specs.Computing.{makes_product, taken}
use Rattle.row_plan.specs.Plan.{Plan}
use Rattle.row_plan.proofs.cell_core_laws.RowLaws.{greatest_above}
use Rattle.row_net.specs.Apart.{TakeClean}
use Rattle.row_net.specs.Lists.{is_non_zero, is_early}
use Rattle.row_net.proofs.ApartLaws.{divides_two}

-- a product or a `NonZero` is heavy, or it divides
kind_of : (op : Operator) → (is_non_zero op || makes_product op) ≡ true → ((is_heavy op ≡ true) × (divides op ≡ false)) ⊎ (divides op ≡ true)
kind_of NonZero h = inl (refl, refl)
kind_of Mul h = inl (refl, refl)
kind_of Quotient h = inr refl
kind_of Remainder h = inr refl
kind_of op h = cc

non_zero_plain : (op : Operator) → is_non_zero op ≡ true → makes_product op ≡ false
non_zero_plain NonZero h = refl
non_zero_plain op h = cc

module _ (p : ProgramView) (plan : Plan) (formed : AreFormed p.cells) (rows : AreRows p.cells (slice_index plan.rows)) where
  abbrev row : ℕ → ℕ
  row = slice_index plan.rows

  abbrev op_of : ℕ → Operator
  op_of k = (cell_at p.cells k).op

  abbrev ins_of : ℕ → List ℕ
  ins_of k = (cell_at p.cells k).ins

  -- what a heavy cell takes is of an earlier row
  heavy_later : (k : ℕ) → k < length p.cells → is_heavy (op_of k) ≡ true → All (λ i. row i < row k) (ins_of k)
  heavy_later k lt heavy n d inside = let e : bit (is_heavy (op_of k)) ≡ 1 = ap bit heavy in omega (arith, rows.each k lt, greatest_above row (ins_of k) n d inside, e)

  heavy_some : (k : ℕ) → k < length p.cells → is_heavy (op_of k) ≡ true → 0 < row k
  heavy_some k lt heavy = let e : bit (is_heavy (op_of k)) ≡ 1 = ap bit heavy in omega (arith, rows.each k lt, e)

  -- a divisor, and what is divided, of a cell that divides
  module _ (k : ℕ) (lt : k < length p.cells) (div : divides (op_of k) ≡ true) where
    abbrev divisor : ℕ
    divisor = slice_index (ins_of k) 1

    two : 1 < length (ins_of k)
    two = omega (arith, (formed.each k lt).enough, divides_two (op_of k) div)

    inside : divisor < length p.cells
    inside = omega (arith, (formed.each k lt).earlier 1 0 two, lt)

    is_some : op_of divisor ≡ NonZero
    is_some = ((formed.each k lt).divisor div).op

    divisor_row : row divisor ≤ row k
    divisor_row = omega (arith, rows.each k lt, greatest_above row (ins_of k) 1 0 two)

    divisor_heavy : is_heavy (op_of divisor) ≡ true
    divisor_heavy = ap is_heavy is_some

    dividend_row : row (slice_index (ins_of k) 0) < row k
    dividend_row = let less = All-contains (λ i. row i < row divisor) (ins_of divisor) (slice_index (ins_of k) 0) (heavy_later divisor inside divisor_heavy) ((formed.each k lt).later div) in omega (arith, less, divisor_row)

    some_row : 0 < row k
    some_row = omega (arith, heavy_some divisor inside divisor_heavy, divisor_row)

  -- none is in the first row
  product_later : (k : ℕ) → k < length p.cells → makes_product (op_of k) ≡ true → 0 < row k
  product_later k lt h = by_kind (kind_of (op_of k) (right_or (is_non_zero (op_of k)) (makes_product (op_of k)) h))
    where
      by_kind : ((is_heavy (op_of k) ≡ true) × (divides (op_of k) ≡ false)) ⊎ (divides (op_of k) ≡ true) → 0 < row k
      by_kind (inl e) = heavy_some k lt e.0
      by_kind (inr e) = some_row k lt e

  module _ (j k : ℕ) (lt : k < length p.cells) (here : row k ≡ suc j) where
    abbrev Early : ℕ → Type 0
    Early i = is_early p plan (suc j) i ≡ true

    below : (i : ℕ) → row i < row k → Early i
    below i less = left_or (nat_le (row i) j) (is_non_zero (op_of i)) (le-leb (row i) j (omega arith))

    takes_two : divides (op_of k) ≡ true → All Early (take 2 (ins_of k))
    takes_two div zero d inside =
        let e : get_or (take 2 (ins_of k)) 0 d ≡ slice_index (ins_of k) 0 = get_or-take 2 (ins_of k) 0 d (omega arith) ∙ get_or_default (ins_of k) 0 d 0 (omega (arith, two k lt div)) in
        subst Early (sym e) (below (slice_index (ins_of k) 0) (dividend_row k lt div))
    takes_two div (suc zero) d inside =
        let e : get_or (take 2 (ins_of k)) 1 d ≡ divisor k lt div = get_or-take 2 (ins_of k) 1 d (omega arith) ∙ get_or_default (ins_of k) 1 d 0 (two k lt div) in
        subst Early (sym e) (right_or (nat_le (row (divisor k lt div)) j) (is_non_zero (op_of (divisor k lt div))) (ap is_non_zero (is_some k lt div)))
    takes_two div (suc (suc n)) d inside = absurd (omega (arith, inside, length-take 2 (ins_of k)))

    takes_early : (is_non_zero (op_of k) || makes_product (op_of k)) ≡ true → All Early (taken (op_of k) (ins_of k))
    takes_early h = by_kind (kind_of (op_of k) h)
      where
        by_kind : ((is_heavy (op_of k) ≡ true) × (divides (op_of k) ≡ false)) ⊎ (divides (op_of k) ≡ true) → All Early (taken (op_of k) (ins_of k))
        by_kind (inl e) = rw e.1 (λ n d inside. below (get_or (ins_of k) n d) (heavy_later k lt e.0 n d inside))
        by_kind (inr e) = rw e (takes_two e)

    -- of this row a `NonZero` alone is early
    only_some : Early k → is_non_zero (op_of k) ≡ true
    only_some h = by_cases (either_of (nat_le (row k) j) (is_non_zero (op_of k)) h)
      where
        by_cases : (nat_le (row k) j ≡ true) ⊎ (is_non_zero (op_of k) ≡ true) → is_non_zero (op_of k) ≡ true
        by_cases (inl e) = absurd (omega (arith, leb-true (row k) j e, here))
        by_cases (inr e) = e

    early_or : (is_early p plan (suc j) k || makes_product (op_of k)) ≡ true → (is_non_zero (op_of k) || makes_product (op_of k)) ≡ true
    early_or h = by_cases (either_of (is_early p plan (suc j) k) (makes_product (op_of k)) h)
      where
        by_cases : Early k ⊎ (makes_product (op_of k) ≡ true) → (is_non_zero (op_of k) || makes_product (op_of k)) ≡ true
        by_cases (inl e) = left_or (is_non_zero (op_of k)) (makes_product (op_of k)) (only_some e)
        by_cases (inr e) = right_or (is_non_zero (op_of k)) (makes_product (op_of k)) e

  pub early_takes : (at : ℕ) (made : List ℕ) → All (λ k. (k < length p.cells) × (row k ≡ at)) made → TakeClean (is_early p plan at) p.cells made
  early_takes zero made h = record {
    inputs = λ n d lt e. absurd (let is = h n d lt in omega (arith, product_later (get_or made n d) is.0 e, is.1));
    others = λ n d lt e. cc;
  }
  early_takes (suc j) made h = record {
    inputs = λ n d lt e. let is = h n d lt in takes_early j (get_or made n d) is.0 is.1 (early_or j (get_or made n d) is.0 is.1 e);
    others = λ n d lt e. let is = h n d lt in non_zero_plain (op_of (get_or made n d)) (only_some j (get_or made n d) is.0 is.1 e);
  }
