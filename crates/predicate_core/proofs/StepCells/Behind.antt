-- The rows of instructions that lead on.
use Rattle.std.proofs.Common.{◌≡◌, ◌∙◌, ℕ, ◌<◌, ◌≤◌, ◌⊎◌, inl, inr, ◌==◌, nat_lt, if◌then◌else◌, Bool, true, false, Option, Some, None, Result, Ok, Err, List, length, slice_index, refl, sym, ap, subst, arith}
use Rattle.std.specs.Prelude.{OnOk}
use Rattle.std.proofs.lemmas.Bool.{cases_lt}
use Rattle.std.proofs.lemmas.Bool.Decides.{nat_tests}
use Rattle.xdp_machine.specs.bpf_isa.declared.instruction.Insn.{Insn}
use Rattle.xdp_machine.specs.xdp_maps.declared.decl.MapDecl.{MapDecl}
use Rattle.kind_core.specs.declared.kind.Kinds.{Kinds}
use Rattle.kind_core.specs.Tests.{passed}
use Rattle.kind_core.specs.Effects.{effect_of, verdict}
use Rattle.kind_core.specs.Edges.{transferred}
use Rattle.cell_core.specs.Cells.{CellView}
use Rattle.cell_core.specs.Sites.{SiteView}
use Rattle.cell_core.specs.Rows.{AreRows}
use Rattle.operator_cells.specs.row_rules.declared.place_rows.recording.Record.{Record}
use Rattle.operator_cells.specs.row_rules.PlaceRows.Locations.{first_pending}
use Rattle.operator_cells.specs.row_rules.PlaceRows.Spans.{pending_place}
use Rattle.operator_cells.specs.row_rules.PlaceRows.Writing.{record_as}
use Rattle.operator_cells.specs.Making.{Grows}
use Rattle.operator_cells.specs.declared.held_cells.machine_cells.RegisterCells.{RegisterCells}
use Rattle.operator_cells.specs.HeldCells.RegisterCells.{PointerView, AreInside}
use Rattle.operator_cells.specs.HeldCells.Carrying.{Carries}
use Rattle.operator_cells.specs.HeldCells.Rows.{held_row, map_used, pending_before, row_before, CarriesTo, written_row, WriteWithin, OperatesTo}
use Rattle.operator_cells.proofs.HeldCells.RowLaws.{past_held}
use Rattle.operator_cells.proofs.HeldCells.MonotoneLaws.{made_below, result_below, written_below}
use Rattle.predicate_core.specs.StepCells.Rows.{AreWithin, InstructionRows}

-- where no site is added and no new cell reads one, nothing may write
pub none_writes : (write : Option Record) (old new : List CellView) (sites : List SiteView) (row : ℕ → ℕ) (last : ℕ) → Grows old new → WriteWithin write old new sites sites row last
none_writes write old new sites row last grows = record {
  write_is = λ j low high w. absurd (omega (arith, low, high));
  taken = λ j low high w. absurd (omega (arith, low, high));
  readers = λ c j low high reads w. absurd (grows.reads c j low high reads);
}

-- ---- the rows of places before

pub held_within : (decls : List MapDecl) (row : ℕ → ℕ) (ps : List PointerView) (h : RegisterCells) (k : Kinds) (pending : List ℕ) (before : ℕ → ℕ) → AreWithin decls row ps h k pending before → (place : ℕ) → held_row row ps h k place ≤ before place
held_within decls row ps h k pending before within place = by (cases_lt place first_pending)
  where
    by : (place < first_pending) ⊎ (first_pending ≤ place) → held_row row ps h k place ≤ before place
    by (inl l) = within.held place l
    by (inr past) = omega (arith, past_held row ps h k place past)

pending_within : (decls : List MapDecl) (row : ℕ → ℕ) (ps : List PointerView) (h : RegisterCells) (k : Kinds) (pending : List ℕ) (before : ℕ → ℕ) (u : Option ℕ) (c : ℕ) → AreWithin decls row ps h k pending before
    → ((q : ℕ) → u ≡ Some q → (q < length decls) × (q < length pending → c ≡ slice_index pending q)) → (place : ℕ) → pending_before row u c place ≤ before place
pending_within decls row ps h k pending before None c within own place = omega arith
pending_within decls row ps h k pending before (Some q) c within own place = by (place == pending_place q) refl
  where
    by : (b : Bool) → (place == pending_place q) ≡ b → pending_before row (Some q) c place ≤ before place
    by true e =
        let at : place ≡ pending_place q = grind (arith, nat_tests) in
        let there : q < length pending = omega (arith, (own q refl).0, within.count) in
        rw e (omega (arith, within.pending q there, ap row ((own q refl).1 there), ap before at))
    by false e = rw e (omega arith)

pub before_within : (decls : List MapDecl) (row : ℕ → ℕ) (ps : List PointerView) (h : RegisterCells) (k : Kinds) (pending : List ℕ) (before : ℕ → ℕ) (u : Option ℕ) (c : ℕ) → AreWithin decls row ps h k pending before
    → ((q : ℕ) → u ≡ Some q → (q < length decls) × (q < length pending → c ≡ slice_index pending q)) → (place : ℕ) → row_before row ps h k u c place ≤ before place
before_within decls row ps h k pending before u c within own place =
    by (nat_lt place first_pending) (held_within decls row ps h k pending before within place) (pending_within decls row ps h k pending before u c within own place)
  where
    by : {m n : ℕ} (b : Bool) → m ≤ before place → n ≤ before place → (if b then m else n) ≤ before place
    by true l r = omega (arith, l)
    by false l r = omega (arith, r)

-- ---- by the sort of the instruction

-- what is carried, by rows of places that stand within others
carried_rows : (decls : List MapDecl) (before : (ℕ → ℕ) → ℕ → ℕ) (ps qs : List PointerView) (i : Insn) (k after : Kinds) (h next : RegisterCells) (pending : List ℕ) (old new : List CellView) (sites sites2 : List SiteView)
    → CarriesTo decls before qs i k h after next old new → ((row bound : ℕ → ℕ) → AreWithin decls row ps h k pending bound → (place : ℕ) → before row place ≤ bound place)
    → ((row bound : ℕ → ℕ) → AreRows new row → AreWithin decls row ps h k pending bound → WriteWithin (record_as decls k i i.op) old new sites sites2 row (written_row bound decls k after i))
    → InstructionRows decls k h i after next pending old new ps qs sites sites2
carried_rows decls before ps qs i k after h next pending old new sites sites2 carries below writes = record {
  rows = carries.grows.rows;
  same = carries.same;
  stand = λ row bound rows within. let under = below row bound within in record {
    cells = λ c low high. omega (arith, carries.grows.each row rows c low high, made_below (before row) bound under decls k after i);
    written = λ place is. omega (arith, carries.written row rows place is, result_below (before row) bound under decls k after i);
    kept = λ place is. omega (arith, carries.kept row rows place is, under place);
    writes = writes row bound rows within;
  };
}

write_by : {write : Option Record} {old new : List CellView} {sites sites2 : List SiteView} {row : ℕ → ℕ} {m n : ℕ} → WriteWithin write old new sites sites2 row m → m ≤ n → WriteWithin write old new sites sites2 row n
write_by w l = record {
  write_is = w.write_is;
  taken = λ j low high r. omega (arith, w.taken j low high r, l);
  readers = λ c j low high reads r. omega (arith, w.readers c j low high reads r, l);
}

both_ok : {A B : Type 0} (r : Result A B) (P Q R : Type 0) → (P → Q → R) → OnOk r P → OnOk r Q → OnOk r R
both_ok (Ok a) P Q R f p q = f p q
both_ok (Err b) P Q R f p q = tt

-- one that operates on no map
pub plain_rows : {A B : Type 0} (r : Result A B) (decls : List MapDecl) (ps qs : List PointerView) (i : Insn) (node : ℕ) (is_ref : Bool) (k : Kinds) (h next : RegisterCells) (pending : List ℕ) (old new : List CellView) (sites : List SiteView)
    → qs ≡ ps → verdict (effect_of decls k i) ≡ passed → AreInside decls (length old) ps h k
    → (verdict (effect_of decls k i) ≡ passed → AreInside decls (length old) qs h k → OnOk r (Carries decls qs i node is_ref false k h next old new))
    → (verdict (effect_of decls k i) ≡ passed → OnOk r (CarriesTo decls (λ row. held_row row qs h k) qs i k h (transferred decls k i node is_ref false) next old new))
    → OnOk r (InstructionRows decls k h i (transferred decls k i node is_ref false) next pending old new ps ps sites sites)
plain_rows r decls ps qs i node is_ref k h next pending old new sites same allowed inside carries rows =
    subst (λ (xs : List PointerView). OnOk r (InstructionRows decls k h i (transferred decls k i node is_ref false) next pending old new xs xs sites sites)) same
    (both_ok r _ _ _
    (λ x y. carried_rows decls (λ row. held_row row qs h k) qs qs i k (transferred decls k i node is_ref false) h next pending old new sites sites y
    (λ row bound within. held_within decls row qs h k pending bound within)
    (λ row bound rows within. none_writes _ old new sites row _ x.grows))
    (carries allowed (subst (λ (xs : List PointerView). AreInside decls (length old) xs h k) (sym same) inside)) (rows allowed))

-- one that may operate on a map, before which this cell stood for what is pending of it
pub operated_rows : {A B : Type 0} (r : Result A B) (decls : List MapDecl) (i : Insn) (k after : Kinds) (h next : RegisterCells) (pending : List ℕ) (map cell : ℕ) (old new : List CellView) (ps qs : List PointerView) (sites sites2 : List SiteView)
    → OnOk r (OperatesTo decls i cell k h after next old new ps qs sites sites2) → ((q : ℕ) → map_used k i i.op ≡ Some q → map ≡ q) → (map < length pending → cell ≡ slice_index pending map)
    → OnOk r (InstructionRows decls k h i after next pending old new ps qs sites sites2)
operated_rows (Err b) decls i k after h next pending map cell old new ps qs sites sites2 o is own = tt
operated_rows (Ok a) decls i k after h next pending map cell old new ps qs sites sites2 o is own =
    carried_rows decls (λ row. row_before row ps h k (map_used k i i.op) cell) ps qs i k after h next pending old new sites sites2 o.carries (λ row bound within. under row bound within)
    (λ row bound rows within. write_by (o.writes row rows) (written_below (row_before row ps h k (map_used k i i.op) cell) bound (under row bound within) decls k after i))
  where
    under : (row bound : ℕ → ℕ) → AreWithin decls row ps h k pending bound → (place : ℕ) → row_before row ps h k (map_used k i i.op) cell place ≤ bound place
    under row bound within = before_within decls row ps h k pending bound (map_used k i i.op) cell within
        (λ q u. let at = is q u in (o.declared q u, λ there. own (omega (arith, there, at)) ∙ ap (slice_index pending) at))
