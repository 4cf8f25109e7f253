-- What a packet holds of cells: of reads, of joins, and of cells that do not read.
use Rattle.std.specs.Prelude.{if◌then◌else◌, map as map_list, All}
use Rattle.std.proofs.Common.{◌≡◌, ℕ, suc, true, false, List, [], ◌∷◌, refl, ap, ◌∙◌, arith}
use Rattle.std.proofs.lemmas.Bool.Decides.{Decides-eqb}
use Rattle.cell_core.specs.xdp_machine.State.{PacketIn}
use Rattle.cell_core.specs.declared.operator.Operator.{Operator}
use Rattle.cell_core.specs.declared.operator.Operator.TheVariants.{Found, Answer}
use Rattle.cell_core.specs.Cells.{CellView, is_read, number, on}
use Rattle.cell_core.specs.Sites.{ProgramView}
use Rattle.hazard_core.specs.Tables.{TableState}
use Rattle.hazard_core.specs.declared.pointer.Pointer.{Pointer}
use Rattle.hazard_core.specs.StageValues.{StageValues, stage_value, pointer_in, is_found_of, is_answer_of}
use Rattle.hazard_core.specs.Rows.{phi_pointer, cell_number}
use Rattle.hazard_core.specs.Keeping.{SameCell}

-- ---- reads of a site
pub found_is : (j : ℕ) (op : Operator) → is_found_of j op ≡ true → op ≡ Found j
found_is j (Found i) e = ap Found ((Decides-eqb i j).0 e)
found_is j op e = cc

pub answer_is : (j : ℕ) (op : Operator) → is_answer_of j op ≡ true → op ≡ Answer j
answer_is j (Answer i) e = ap Answer ((Decides-eqb i j).0 e)
answer_is j op e = cc

-- ---- cells of which two packets hold the same
pub same_trans : (h g f : StageValues) (c : ℕ) → SameCell h g c → SameCell g f c → SameCell h f c
same_trans h g f c a b = record { value = a.value ∙ b.value; pointer = a.pointer ∙ b.pointer }

pub phi_same : (h g : StageValues) (xs : List ℕ) → All (λ i. SameCell h g i) xs → phi_pointer h xs ≡ phi_pointer g xs
phi_same h g [] a = refl
phi_same h g (e ∷ []) a = refl
phi_same h g (e ∷ x ∷ []) a = (a 1 x (omega arith)).pointer
phi_same h g (e ∷ x ∷ d ∷ more) a =
    ap (λ (n : ℕ). if on n then pointer_in h x else phi_pointer h (d ∷ more)) (a 0 e (omega arith)).value
    ∙ ap (λ (q : Pointer). if on (stage_value g e) then q else phi_pointer h (d ∷ more)) (a 1 x (omega arith)).pointer
    ∙ ap (λ (q : Pointer). if on (stage_value g e) then pointer_in g x else q) (phi_same h g (d ∷ more) (λ i y l. a (suc (suc i)) y (omega arith)))

-- ---- a cell that does not read is computed
pub plain_number : (p : ProgramView) (row : ℕ → ℕ) (r : ℕ) (t : TableState) (packet : PacketIn) (h : StageValues) (c : CellView) (op : Operator) → is_read op ≡ false → cell_number p row r t packet h c op ≡ number packet op (map_list (stage_value h) c.ins)
plain_number p row r t packet h c (Found j) e = cc
plain_number p row r t packet h c (Answer j) e = cc
plain_number p row r t packet h c op e = refl
