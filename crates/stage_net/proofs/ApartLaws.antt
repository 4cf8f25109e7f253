-- Products stay apart at a place that reads the registers of the place before.
use Rattle.std.specs.Prelude.{Option, nat_le}
use Rattle.std.proofs.Common.{◌≡◌, ◌∙◌, ℕ, zero, suc, Bool, true, false, ◌||◌, All, List, [], ◌∷◌, slice_index, refl, ap, arith}
use Rattle.std.proofs.lemmas.Bool.{lt-leb}
use Rattle.std.proofs.lemmas.List.Elements.{All-nil, All-cons}
use Rattle.block_core.specs.ProductBlocks.Apart.{is_marked}
use Rattle.block_core.specs.declared.name.Name.{Name}
use Rattle.hazard_core.specs.cell_core.declared.operator.Operator.{Operator}
use Rattle.hazard_core.specs.cell_core.declared.operator.Operator.TheVariants.{Found, Answer}
use Rattle.hazard_core.specs.cell_core.Cells.{CellView, cell_at, is_read}
use Rattle.hazard_core.specs.cell_core.Sites.{ProgramView}
use Rattle.overlay_net.specs.cell_nets.declared.operand.Operand.{Operand}
use Rattle.overlay_net.specs.cell_nets.Apart.{IsClean}
use Rattle.overlay_net.specs.cell_nets.Operands.{IsAvailable}
use Rattle.overlay_net.proofs.cell_nets_laws.ApartLaws.{all_clean, all_self}
use Rattle.row_plan.specs.Plan.{Plan}
use Rattle.row_net.specs.Apart.{KeepApart}
use Rattle.row_net.specs.Lists.{is_early, is_non_zero}
use Rattle.row_net.specs.Table.{AreThere}
use Rattle.row_net.specs.PlaceNet.Place.{registers_from}
use Rattle.stage_net.specs.declared.site_table.tables.StageTables.{StageTables}
use Rattle.stage_net.specs.SiteTable.Lists.{held_cells}
use Rattle.stage_net.specs.SiteTable.Tables.{StandBehind}
use Rattle.stage_net.specs.Rows.{IsReadHere}

-- ---- what reads give is no clean cell of the row
read_is_some : (o : Operator) → is_read o ≡ true → is_non_zero o ≡ false
read_is_some (Found j) e = refl
read_is_some (Answer j) e = refl
read_is_some o e = cc

pub reads_late : (p : ProgramView) (plan : Plan) (at k : ℕ) → IsReadHere p (slice_index plan.rows) at k → is_early p plan at k ≡ false
reads_late p plan zero k h = refl
reads_late p plan (suc j) k h =
    let later : nat_le (slice_index plan.rows k) j ≡ false = ap (λ n. nat_le n j) h.1 ∙ lt-leb (suc j) j (omega arith) in
    ap (λ b. b || is_non_zero (cell_at p.cells k).op) later ∙ read_is_some (cell_at p.cells k).op h.2

-- ---- no product makes a register
pub registers_clean : {P : Type 0} (all : P → List Bool) (q : P) (cells : List CellView) (at : ℕ) (ks : List ℕ) → All (IsClean (is_marked all)) (registers_from q cells at ks)
registers_clean all q cells at [] = All-nil (IsClean (is_marked all))
registers_clean all q cells at (k ∷ ks) = All-cons (IsClean (is_marked all)) _ (registers_from q cells (suc at) ks) refl (registers_clean all q cells (suc at) ks)

-- so a place without wires of its own that has a table over registers keeps products apart
pub registers_apart : {P : Type 0} (own q : P) (cells : List CellView) (at : ℕ) (ks : List ℕ) (clean : ℕ → Bool) (table : List (Option (Operand (Name P)))) → AreThere (registers_from q cells at ks) table → KeepApart own clean [] [] table
registers_apart own q cells at ks clean table there = record {
  count = refl;
  wires = λ all g. tt;
  stands = λ all g k a e s. all_clean (is_marked all) (registers_from q cells at ks) (registers_clean all q cells at ks) (a ∷ []) (All-cons (IsAvailable (registers_from q cells at ks)) a [] (there k a s) (All-nil (IsAvailable (registers_from q cells at ks)))) 0 a (omega arith);
}

-- as the place after another one
pub behind_apart :
    {P : Type 0} (part : P) (p : ProgramView) (plan : Plan) (needed parts points : List Bool) (bits k : ℕ) (t : StageTables (Name P)) → StandBehind part p plan needed parts points bits k t → (own : P) (clean : ℕ → Bool) → KeepApart own clean [] [] t.table.items
behind_apart part p plan needed parts points bits k t stand own clean =
    let held = held_cells p plan needed parts k in
    let ins = registers_from part p.cells 0 held in
    registers_apart own part p.cells 0 held clean t.table.items (stand.behind.table.there ins (stand.are_constants.there ins) (all_self ins))
