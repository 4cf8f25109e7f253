-- What reads are among operators, and what sites do.
use Rattle.std.proofs.Common.{◌≡◌, ℕ, true, Some, None, List, refl, sym, ap, ◌∙◌, subst, arith, get_or, take, drop, map as map_list}
use Rattle.std.specs.Prelude.{Contains, ◌||◌}
use Rattle.std.specs.List.{AllByRecursion}
use Rattle.std.proofs.lemmas.Bool.Decides.{Decides-eqb}
use Rattle.xdp_object.specs.xdp_machine.State.{PacketIn}
use Rattle.hazard_core.specs.cell_core.declared.operator.Operator.{Operator}
use Rattle.hazard_core.specs.cell_core.declared.operator.Operator.TheVariants.{Found, Answer}
use Rattle.hazard_core.specs.cell_core.declared.site.Act.{Act}
use Rattle.hazard_core.specs.cell_core.declared.site.Act.TheVariants as act
use Rattle.hazard_core.specs.cell_core.Acts.{pointer_operand}
use Rattle.hazard_core.specs.cell_core.Cells.{CellView, is_heavy, site_in, number}
use Rattle.hazard_core.specs.cell_core.Sites.{ProgramView}
use Rattle.hazard_core.specs.Tables.{TableState}
use Rattle.hazard_core.specs.declared.pointer.Pointer.TheVariants.{Null}
use Rattle.hazard_core.specs.StageValues.{StageValues, stage_value, pointer_in, is_found_of, is_answer_of, is_update, is_delete}
use Rattle.hazard_core.specs.Keeping.{looked_operands}
use Rattle.hazard_core.specs.Rows.{cell_number}
use Rattle.operator_cells.specs.HeldCells.Pointing.{IsThrough, changes_keys}

-- ---- reads

pub heavy_of_site : (op : Operator) (j : ℕ) → site_in op ≡ Some j → is_heavy op ≡ true
heavy_of_site (Found i) j e = refl
heavy_of_site (Answer i) j e = refl
heavy_of_site op j e = absurd cc

-- what is no read has its number by its inputs alone
pub number_of_plain : (p : ProgramView) (row : ℕ → ℕ) (r : ℕ) (t : TableState) (packet : PacketIn) (h : StageValues) (c : CellView) (op : Operator) → site_in op ≡ None
    → cell_number p row r t packet h c op ≡ number packet op (map_list (stage_value h) c.ins)
number_of_plain p row r t packet h c (Found i) e = absurd cc
number_of_plain p row r t packet h c (Answer i) e = absurd cc
number_of_plain p row r t packet h c op e = refl

pub is_found : (j : ℕ) (op : Operator) → op ≡ Found j → is_found_of j op ≡ true
is_found j op e = ap (is_found_of j) e ∙ (Decides-eqb j j).1 refl

pub is_answer : (j : ℕ) (op : Operator) → op ≡ Answer j → is_answer_of j op ≡ true
is_answer j op e = ap (is_answer_of j) e ∙ (Decides-eqb j j).1 refl

-- ---- operations

pub looked : (P : ℕ → Type 0) (a : Act) (xs : List ℕ) → AllByRecursion P (take 1 (drop (pointer_operand a) xs)) → AllByRecursion P (looked_operands a xs)
looked P act.Update xs all = all
looked P (act.Load at size) xs all = all
looked P (act.Atomic at a) xs all = all
looked P a xs all = tt

pub changes : (a : Act) → (is_update a || is_delete a) ≡ changes_keys a
changes act.Update = refl
changes act.Delete = refl
changes a = refl

-- The pointer of an access is that of the cell that it goes through.
pub record GoesBy (h : StageValues) (a : Act) (xs : List ℕ) (c : ℕ) : Type 0 where
  pub pointer : get_or (map_list (pointer_in h) xs) (pointer_operand a) Null ≡ pointer_in h c
  pub there : Contains xs c

pub goes_by : (h : StageValues) (a : Act) (xs : List ℕ) (c : ℕ) → IsThrough a xs c → GoesBy h a xs c
goes_by h (act.Load at size) xs c is = record {
  pointer = ap (λ (ys : List ℕ). get_or (map_list (pointer_in h) ys) 0 Null) is;
  there = subst (λ (ys : List ℕ). Contains ys c) (sym is) (0, omega arith, refl);
}
goes_by h (act.Store at size) xs c (x, is) = record {
  pointer = ap (λ (ys : List ℕ). get_or (map_list (pointer_in h) ys) 1 Null) is;
  there = subst (λ (ys : List ℕ). Contains ys c) (sym is) (1, omega arith, refl);
}
goes_by h (act.Atomic at a) xs c (x, y, is) = record {
  pointer = ap (λ (ys : List ℕ). get_or (map_list (pointer_in h) ys) 2 Null) is;
  there = subst (λ (ys : List ℕ). Contains ys c) (sym is) (2, omega arith, refl);
}
goes_by h a xs c is = absurd is
