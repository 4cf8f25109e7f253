-- The lists of a place can be made from what the place before holds and from what the row reads.
use Rattle.std.specs.Prelude.{Option}
use Rattle.std.proofs.Common.{◌≡◌, ◌∙◌, ◌⊎◌, inl, inr, ℕ, zero, suc, ◌+◌, ◌<◌, Bool, true, false, All, List, [], ◌∷◌, length, slice_index, refl, ap, subst, arith}
use Rattle.block_core.specs.declared.name.Name.{Name}
use Rattle.overlay_net.specs.cell_nets.declared.operand.Operand.{Operand}
use Rattle.hazard_core.specs.cell_core.declared.operator.Operator.{Operator}
use Rattle.hazard_core.specs.cell_core.declared.operator.Operator.TheVariants as op
use Rattle.hazard_core.specs.cell_core.Cells.{cell_at, is_read, is_heavy, bit}
use Rattle.hazard_core.specs.cell_core.Formed.{AreFormed, AreInputs}
use Rattle.hazard_core.specs.cell_core.Rows.{AreRows, greatest}
use Rattle.hazard_core.specs.cell_core.Sites.{ProgramView}
use Rattle.overlay_net.specs.cell_nets.Computing.{is_outside}
use Rattle.row_plan.specs.Plan.{Plan, IsPlan}
use Rattle.row_net.specs.Lists.{made_cells}
use Rattle.row_net.specs.Needed.{AreNeeded, flag}
use Rattle.row_net.specs.Table.{IsIn, is_constant}
use Rattle.stage_net.specs.declared.site_table.tables.StageTables.{StageTables}
use Rattle.stage_net.specs.SiteTable.Lists.{held_cells, held_pointers, made_pointers}
use Rattle.stage_net.specs.SiteTable.Staged.{AreStaged, AreLists, AreAtHand}
use Rattle.stage_net.specs.SiteTable.Tables.{StandBehind}
use Rattle.stage_net.proofs.SiteTable.StagingLaws.{inputs_had, pointers_had}
use Rattle.stage_net.proofs.SiteTable.TableLaws.{plain_in}
use Rattle.stage_net.specs.Rows.{IsHad, IsPointerHad}
use Rattle.stage_net.specs.Stage.{CanMake, CanPoint}

pub flagged_within : (flags : List Bool) (k : ℕ) → flag flags k ≡ true → k < length flags
flagged_within [] k e = cc
flagged_within (b ∷ flags) zero e = omega arith
flagged_within (b ∷ flags) (suc k) e = omega (arith, flagged_within flags k e)

-- ---- from what is at hand in a row
module _ (p : ProgramView) (plan : Plan) (needed parts points : List Bool) (at : ℕ) (Has HasPointer : ℕ → Type 0) (are : AreNeeded p needed) (hand : AreAtHand p plan needed parts points at Has HasPointer) (staged : AreStaged p plan needed parts points) (lists : AreLists p plan needed parts points) where
  pub can_make : CanMake p.cells Has (made_cells p plan needed at)
  can_make = record {
    within = λ n d lt. (lists.made at n d lt).within;
    computed = λ n d lt. (lists.made at n d lt).computed;
    inputs = inputs_had p plan needed parts points at Has HasPointer are hand staged;
  }

  pub can_point : CanPoint p.cells Has HasPointer (made_cells p plan needed at) (made_pointers p plan needed points at)
  can_point = record {
    within = λ n d lt. (lists.pointers_made at n d lt).within;
    computed = λ n d lt. (lists.pointers_made at n d lt).computed;
    inputs = pointers_had p plan needed parts points at Has HasPointer are hand staged;
  }

  pub pointers_of_row : All (λ k. slice_index plan.rows k ≡ at) (made_pointers p plan needed points at)
  pointers_of_row n d lt = (lists.pointers_made at n d lt).row

-- ---- after the place before
outside_reads : (o : Operator) (ins : List ℕ) → is_outside o ≡ true → AreInputs o ins → (is_read o ≡ true) ⊎ ((ins ≡ []) × (is_heavy o ≡ false))
outside_reads (op.Byte i) ins e h = inr (h, refl)
outside_reads op.Length ins e h = inr (h, refl)
outside_reads op.Ifindex ins e h = inr (h, refl)
outside_reads op.Time ins e h = inr (h, refl)
outside_reads (op.Found j) ins e h = inl refl
outside_reads (op.Answer j) ins e h = inl refl
outside_reads o ins e h = cc

module _ {P : Type 0} (part : P) (p : ProgramView) (plan : Plan) (needed parts points : List Bool) (bits k : ℕ) (t : StageTables (Name P)) (formed : AreFormed p.cells) (is : IsPlan p plan) (count : length needed ≡ length p.cells) (point_count : length points ≡ length p.cells)
    (stand : StandBehind part p plan needed parts points bits k t) where
  abbrev HasHere : ℕ → Type 0
  HasHere = IsHad p (slice_index plan.rows) (suc k) t.table.items

  abbrev HasPointerHere : ℕ → Type 0
  HasPointerHere = IsPointerHad p (slice_index plan.rows) (suc k) t.pointers.items

  -- past the first row only reads come from outside
  read_here : (c : ℕ) → flag needed c ≡ true → is_outside (cell_at p.cells c).op ≡ true → slice_index plan.rows c ≡ suc k → HasHere c
  read_here c f e row = by_case (outside_reads (cell_at p.cells c).op (cell_at p.cells c).ins e (formed.each c lt).inputs)
    where
      lt : c < length p.cells
      lt = omega (arith, flagged_within needed c f, count)

      by_case : (is_read (cell_at p.cells c).op ≡ true) ⊎ (((cell_at p.cells c).ins ≡ []) × (is_heavy (cell_at p.cells c).op ≡ false)) → HasHere c
      by_case (inl r) = inr (lt, row, r)
      by_case (inr n) =
          let first : slice_index plan.rows c ≡ 0 = is.rows.each c lt ∙ ap (λ xs. greatest (slice_index plan.rows) xs + bit (is_heavy (cell_at p.cells c).op)) n.0 ∙ ap (λ b. greatest (slice_index plan.rows) [] + bit b) n.1 in
          absurd (omega (arith, first, row))

  pub at_hand : AreAtHand p plan needed parts points (suc k) (IsHad p (slice_index plan.rows) (suc k) t.table.items) (IsPointerHad p (slice_index plan.rows) (suc k) t.pointers.items)
  at_hand = record {
    same = λ c lt e. inl (stand.behind.table.grows c (stand.are_constants.known c lt e));
    outside = read_here;
    before = λ b e. let s : k ≡ b = omega arith in subst (λ n. All HasHere (held_cells p plan needed parts n)) s (λ i d lt. inl (stand.behind.table.taken i d lt));
    plain = λ c lt f. inl (stand.behind.pointers.grows c (plain_in points c (omega (arith, lt, point_count)) f));
    found = λ c j f e row. inr (j, omega (arith, flagged_within needed c f, count), row, e);
    pointers_before = λ b e. let s : k ≡ b = omega arith in subst (λ n. All HasPointerHere (held_pointers p plan needed parts points n)) s (λ i d lt. inl (stand.behind.pointers.taken i d lt));
  }

-- ---- in the first place
-- no read stands in the first row
pub first_unread : (p : ProgramView) (row : ℕ → ℕ) → AreRows p.cells row → (c : ℕ) → c < length p.cells → row c ≡ 0 → is_read (cell_at p.cells c).op ≡ true → ⊥
first_unread p row rows c lt e r = let late = rows.each c lt ∙ ap (λ b. greatest row (cell_at p.cells c).ins + bit b) (reads_wait (cell_at p.cells c).op r) in omega (arith, late, e)
  where
    reads_wait : (o : Operator) → is_read o ≡ true → is_heavy o ≡ true
    reads_wait (op.Found j) r = refl
    reads_wait (op.Answer j) r = refl
    reads_wait o r = cc

module _ {N : Type 0} (p : ProgramView) (plan : Plan) (needed parts points : List Bool) (table pointers : List (Option (Operand N))) (is : IsPlan p plan) (count : length needed ≡ length p.cells) (same : (k : ℕ) → k < length p.cells → is_constant (cell_at p.cells k) ≡ true → IsIn table k)
    (sources : (k : ℕ) → flag needed k ≡ true → is_outside (cell_at p.cells k).op ≡ true → is_read (cell_at p.cells k).op ≡ false → IsIn table k) (plain : (k : ℕ) → k < length p.cells → flag points k ≡ false → IsIn pointers k) where
  unread : (k : ℕ) → flag needed k ≡ true → slice_index plan.rows k ≡ 0 → is_read (cell_at p.cells k).op ≡ true → ⊥
  unread k f e r = first_unread p (slice_index plan.rows) is.rows k (omega (arith, flagged_within needed k f, count)) e r

  pub at_hand_first : AreAtHand p plan needed parts points 0 (IsHad p (slice_index plan.rows) 0 table) (IsPointerHad p (slice_index plan.rows) 0 pointers)
  at_hand_first = record {
    same = λ k lt e. inl (same k lt e);
    outside = λ k f e row. by_kind k f e row (is_read (cell_at p.cells k).op) refl;
    before = λ b e. absurd (omega (arith, e));
    plain = λ k lt f. inl (plain k lt f);
    found = λ k j f e row. absurd (unread k f row (ap is_read e));
    pointers_before = λ b e. absurd (omega (arith, e));
  }
    where
      by_kind : (k : ℕ) → flag needed k ≡ true → is_outside (cell_at p.cells k).op ≡ true → slice_index plan.rows k ≡ 0 → (b : Bool) → is_read (cell_at p.cells k).op ≡ b → IsHad p (slice_index plan.rows) 0 table k
      by_kind k f e row true r = absurd (unread k f row r)
      by_kind k f e row false r = inl (sources k f e r)
