-- In which rows stand the cells of accesses through a pointer to an entry.
use Rattle.std.proofs.Common.{◌≡◌, ◌∙◌, ℕ, ◌<◌, ◌≤◌, true, false, Option, Some, List, [], ◌∷◌, ◌++◌, length, slice_index, refl, sym, ap, subst, arith}
use Rattle.std.specs.List.{list_any}
use Rattle.cell_core.specs.bpf_isa.declared.instruction.Insn.{Insn}
use Rattle.cell_core.specs.xdp_maps.declared.decl.MapDecl.{MapDecl}
use Rattle.kind_core.proofs.xdp_machine_laws.ChangeLaws.{some_inj}
use Rattle.kind_core.specs.declared.number.Number.TheVariants.{Between}
use Rattle.kind_core.specs.declared.kind.Kind.{Kind}
use Rattle.kind_core.specs.declared.kind.Kind.TheVariants.{Num, Entry}
use Rattle.kind_core.specs.declared.kind.Kinds.{Kinds}
use Rattle.kind_core.specs.Kinds.{register, with_register}
use Rattle.cell_core.specs.Cells.{CellView}
use Rattle.cell_core.specs.Sites.{SiteView}
use Rattle.cell_core.specs.Rows.{AreRows, greatest}
use Rattle.cell_core.specs.declared.site.Act.{Act}
use Rattle.cell_core.proofs.RowLaws.{greatest_append}
use Rattle.operator_cells.specs.Making.{Grows}
use Rattle.operator_cells.specs.Rising.{Rises, RiseAll}
use Rattle.operator_cells.specs.row_rules.declared.place_rows.span.Span.{Span}
use Rattle.operator_cells.specs.row_rules.PlaceRows.Spans.{no_place, one, is_in, span_row, spans_row}
use Rattle.operator_cells.specs.row_rules.PlaceRows.Reading.{result_row}
use Rattle.operator_cells.specs.row_rules.PlaceRows.Writing.{writes_as, record_as, is_open_in, taken_row, made_row}
use Rattle.operator_cells.specs.declared.held_cells.machine_cells.RegisterCells.{RegisterCells}
use Rattle.operator_cells.specs.HeldCells.RegisterCells.{PointerView, pointer_at}
use Rattle.operator_cells.specs.HeldCells.Rows.{cells_of_pointer, value_row, map_used, row_before, written_row, WriteWithin, LeavesTo, OperatesTo}
use Rattle.operator_cells.proofs.HeldCells.RowLaws.{grows_by, put_register}
use Rattle.site_cells.specs.declared.here.Here.{Here}
use Rattle.site_cells.specs.Siting.{access_site}
use Rattle.site_cells.proofs.Shedding.{written_sheds}
use Rattle.site_cells.proofs.Leaving.{trans_le, register_before, nothing_leaves, shed_leaves}
use Rattle.site_cells.proofs.Recording.{made_taken, made_result, written_taken, open_register, one_write}

-- ---- what is read
pub pointer_before : (row : ℕ → ℕ) (ps : List PointerView) (h : RegisterCells) (k : Kinds) (used : Option ℕ) (c r q o : ℕ) (p : PointerView) → r ≤ 10 → register k r ≡ Entry q o → p ≡ pointer_at ps (slice_index h.registers r)
    → greatest row (cells_of_pointer p) ≤ span_row (row_before row ps h k used c) (one r)
pointer_before row ps h k used c r q o p small base p_is =
    subst (λ (x : PointerView). greatest row (cells_of_pointer x) ≤ span_row (row_before row ps h k used c) (one r)) (sym p_is)
    (subst (λ (x : Kind). value_row row ps x (slice_index h.registers r) ≤ span_row (row_before row ps h k used c) (one r)) base (register_before row ps h k used c r small))

pub read_low : (row : ℕ → ℕ) (p : PointerView) (operands : List ℕ) (pending most : ℕ) → greatest row (cells_of_pointer p) ≤ most → greatest row operands ≤ most → row pending ≤ most
    → greatest row (p.key ++ (operands ++ p.found ∷ []) ++ pending ∷ []) ≤ most
read_low row p operands pending most a b c =
    omega (arith, greatest_append row (p.key ++ (operands ++ p.found ∷ [])) (pending ∷ []), greatest_append row p.key (operands ++ p.found ∷ []), greatest_append row operands (p.found ∷ []), a, b, c)

pub site_low : (row : ℕ → ℕ) (p : PointerView) (operands : List ℕ) (most : ℕ) → greatest row (cells_of_pointer p) ≤ most → greatest row operands ≤ most → greatest row (p.key ++ (operands ++ p.found ∷ [])) ≤ most
site_low row p operands most a b = omega (arith, greatest_append row p.key (operands ++ p.found ∷ []), greatest_append row operands (p.found ∷ []), a, b)

module _ (decls : List MapDecl) (i : Insn) (here : Here) (k : Kinds) (h : RegisterCells) (ps : List PointerView) (q : ℕ) (used : map_used k i i.op ≡ Some q) (there : q < length decls) where
  abbrev before : (ℕ → ℕ) → ℕ → ℕ
  before row = row_before row ps h k (map_used k i i.op) here.pending

  abbrev write_last : (ℕ → ℕ) → Kinds → ℕ
  write_last row after = written_row (before row) decls k after i

  is_there : (p : ℕ) → map_used k i i.op ≡ Some p → p < length decls
  is_there p e = subst (λ (n : ℕ). n < length decls) (some_inj q p (sym used ∙ e)) there

  -- a register gets what is read
  pub answer_rows : {lo hi : ℕ} (after : Kinds) (old new : List CellView) (sites sites2 : List SiteView) (r answer : ℕ) → r ≤ 10 → length k.registers ≡ 11 → length h.registers ≡ 11 → after ≡ with_register k r (Num (Between lo hi))
      → register after r ≡ Num (Between lo hi) → writes_as k i i.op ≡ one r ∷ no_place ∷ [] → Rises old new answer (λ row. result_row (before row) decls k after i)
      → ((row : ℕ → ℕ) → AreRows new row → WriteWithin (record_as decls k i i.op) old new sites sites2 row (write_last row after))
      → OperatesTo decls i here.pending k h after (put_register h r answer) old new ps ps sites sites2
  answer_rows {lo} {hi} after old new sites sites2 r answer small ks hs becomes is writes rises within =
      let opened : list_any (is_open_in after) (writes_as k i i.op) ≡ true = ap (list_any (is_open_in after)) writes ∙ open_register after (Num (Between lo hi)) r small is refl in
      let made : (ℕ → ℕ) → ℕ = λ row. made_row (before row) decls k after i in
      let result : (ℕ → ℕ) → ℕ = λ row. result_row (before row) decls k after i in
      let own : (row : ℕ → ℕ) → AreRows new row → value_row row ps (Num (Between lo hi)) answer ≤ result row = λ row rows. omega (arith, rises.result row rows) in
      let leaves = shed_leaves ps ps h k (with_register k r (Num (Between lo hi))) r answer (Num (Between lo hi)) (map_used k i i.op) here.pending old new made result (written_sheds k r (Num (Between lo hi)) small ks) small hs (λ row place. omega arith) (grows_by rises.grows (λ row. made_result (before row) decls k after i opened)) own in
      record {
        carries = subst (λ (ws : List Span). LeavesTo before ps h after (put_register h r answer) old new ws made result) (sym writes)
            (subst (λ (x : Kinds). LeavesTo before ps h x (put_register h r answer) old new (one r ∷ no_place ∷ []) made result) (sym becomes) leaves);
        writes = within;
        declared = is_there;
      }

  -- nothing is held anew; the site takes the pointer and these operands
  pub quiet_rows : (after : Kinds) (old new : List CellView) (sites sites2 : List SiteView) (a : Act) (p : PointerView) (operands : List ℕ) (takes : List Span) (f : (ℕ → ℕ) → ℕ) → after ≡ k
      → ((place : ℕ) → list_any (is_in place) (writes_as k i i.op) ≡ false) → record_as decls k i i.op ≡ Some (record { map = q; takes = takes }) → Grows old new → RiseAll old new operands f
      → ((row : ℕ → ℕ) → f row ≤ spans_row (before row) takes) → ((row : ℕ → ℕ) → greatest row (cells_of_pointer p) ≤ spans_row (before row) takes) → sites2 ≡ sites ++ access_site here q a p operands ∷ []
      → OperatesTo decls i here.pending k h after h old new ps ps sites sites2
  quiet_rows after old new sites sites2 a p operands takes f becomes none write grows rises low led sites_are =
      let made : (ℕ → ℕ) → ℕ = λ row. made_row (before row) decls k after i in
      let result : (ℕ → ℕ) → ℕ = λ row. result_row (before row) decls k after i in
      let taken : (row : ℕ → ℕ) → taken_row (before row) (record_as decls k i i.op) ≡ spans_row (before row) takes = λ row. ap (taken_row (before row)) write in
      let under : (row : ℕ → ℕ) → f row ≤ made row = λ row. trans_le (low row) (subst (λ (n : ℕ). n ≤ made row) (taken row) (made_taken (before row) decls k after i)) in
      let last : (row : ℕ → ℕ) → spans_row (before row) takes ≤ write_last row after = λ row. subst (λ (n : ℕ). n ≤ write_last row after) (taken row) (written_taken (before row) decls k after i) in
      record {
        carries = subst (λ (x : Kinds). LeavesTo before ps h x h old new (writes_as k i i.op) made result) (sym becomes)
            (nothing_leaves ps h k (map_used k i i.op) here.pending old new (writes_as k i i.op) made result none (grows_by rises.grows under));
        writes = λ row rows. one_write (record_as decls k i i.op) old new sites sites2 (access_site here q a p operands) row (write_last row after) sites_are (record { map = q; takes = takes }) write refl
            (site_low row p operands (write_last row after) (trans_le (led row) (last row)) (trans_le (rises.results row rows) (trans_le (low row) (last row))))
            (λ c j behind there e. absurd (grows.reads c j behind there e));
        declared = is_there;
      }
