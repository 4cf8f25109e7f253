-- In which rows stand the cells of lookups.
use Rattle.std.proofs.Common.{◌≡◌, ◌∙◌, ℕ, ◌+◌, ◌<◌, ◌≤◌, pos, Bool, true, false, Some, List, [], ◌∷◌, ◌++◌, length, slice_set, refl, sym, ap, subst, arith, Option}
use Rattle.std.specs.List.{list_any}
use Rattle.cell_core.specs.bpf_isa.declared.operation.Op.TheVariants.{Call}
use Rattle.cell_core.specs.bpf_isa.declared.instruction.Insn.{Insn}
use Rattle.cell_core.specs.bpf_isa.declared.helper.Helper.{Helper}
use Rattle.cell_core.specs.bpf_isa.declared.helper.Helper.TheVariants.{Lookup}
use Rattle.cell_core.specs.bpf_isa.Helpers.{helper_of}
use Rattle.cell_core.specs.xdp_maps.declared.decl.MapDecl.{MapDecl}
use Rattle.kind_core.proofs.xdp_machine_laws.ChangeLaws.{some_inj}
use Rattle.kind_core.specs.declared.kind.Kind.{Kind}
use Rattle.kind_core.specs.declared.kind.Kind.TheVariants.{MapRef, Maybe}
use Rattle.kind_core.specs.declared.kind.Kinds.{Kinds}
use Rattle.kind_core.specs.Kinds.{register, answering, key_bytes}
use Rattle.kind_core.specs.Tests.{passed}
use Rattle.kind_core.specs.Effects.{effect_of, verdict}
use Rattle.kind_core.specs.Edges.{transferred}
use Rattle.cell_core.specs.Cells.{CellView}
use Rattle.cell_core.specs.Sites.{SiteView}
use Rattle.cell_core.specs.Rows.{AreRows, greatest}
use Rattle.cell_core.proofs.RowLaws.{greatest_append}
use Rattle.operator_cells.specs.Making.{Grows}
use Rattle.operator_cells.specs.Rising.{RiseAll}
use Rattle.operator_cells.proofs.MakingLaws.{grown_with, reads_none}
use Rattle.operator_cells.proofs.RisingLaws.{stand_none, stand_all, rises_then}
use Rattle.operator_cells.specs.row_rules.declared.place_rows.span.Span.{Span}
use Rattle.operator_cells.specs.row_rules.PlaceRows.Spans.{no_place, one, region, map_of, pending_of, key_in, span_row, spans_row}
use Rattle.operator_cells.specs.row_rules.PlaceRows.Calls.{key_span, call_reads, call_writes}
use Rattle.operator_cells.specs.row_rules.PlaceRows.Reading.{result_as, result_row}
use Rattle.operator_cells.specs.row_rules.PlaceRows.Writing.{writes_as, record_as, is_open_in, made_row}
use Rattle.operator_cells.specs.declared.held_cells.machine_cells.RegisterCells.{RegisterCells}
use Rattle.operator_cells.specs.HeldCells.RegisterCells.{PointerView, AreInside, pointer_at}
use Rattle.operator_cells.specs.HeldCells.Rows.{cells_of_pointer, value_row, held_row, map_used, row_before, LeavesTo, OperatesTo}
use Rattle.operator_cells.proofs.HeldCells.RowLaws.{grows_by}
use Rattle.site_cells.specs.declared.here.Here.{Here}
use Rattle.site_cells.specs.Siting.{LooksUp, ReadsNext, lookup_site}
use Rattle.site_cells.proofs.Adding.{last_pointer}
use Rattle.site_cells.proofs.Allowed.{lookup_allowed}
use Rattle.site_cells.proofs.Shedding.{Sheds, answering_sheds}
use Rattle.site_cells.proofs.Leaving.{span_before, pending_before, rows_among, shed_leaves}
use Rattle.site_cells.proofs.Recording.{made_result, open_register, no_write}

-- ---- a call on the map in R1
pub call_used : (k : Kinds) (i : Insn) (q : ℕ) → i.op ≡ Call → register k 1 ≡ MapRef q → map_used k i i.op ≡ Some q
call_used k i q op one = ap (map_used k i) op ∙ ap map_of one

pub call_places : (k : Kinds) (i : Insn) (helper : Option Helper) → i.op ≡ Call → helper_of i.imm ≡ helper → call_writes helper ≡ no_place → writes_as k i i.op ≡ one 0 ∷ no_place ∷ []
call_places k i helper op same none = ap (writes_as k i) op ∙ ap (λ (h : Option Helper). one 0 ∷ call_writes h ∷ []) same ∙ ap (λ (s : Span). one 0 ∷ s ∷ []) none

pub call_result : (before : ℕ → ℕ) (decls : List MapDecl) (k after : Kinds) (i : Insn) (helper : Option Helper) → i.op ≡ Call → helper_of i.imm ≡ helper → result_row before decls k after i ≡ spans_row before (call_reads decls k helper) + 1
call_result before decls k after i helper op same = ap (result_as before decls k after i) op ∙ ap (λ (h : Option Helper). spans_row before (call_reads decls k h) + 1) same

-- the key that the code reads is that of the call
pub key_is_span : (decls : List MapDecl) (k : Kinds) (base : Kind) (count map q : ℕ) → base ≡ register k 2 → count ≡ key_bytes decls map → map ≡ q → register k 1 ≡ MapRef q → region base (pos 0) count ≡ key_span decls k
key_is_span decls k base count map q base_is count_is map_is one =
    ap (λ (x : Kind). region x (pos 0) count) base_is
    ∙ ap (region (register k 2) (pos 0)) (count_is ∙ ap (key_bytes decls) map_is ∙ sym (ap (λ (x : Kind). key_in decls (map_of x)) one))

pub lookup_rows : (decls : List MapDecl) (i : Insn) (here : Here) (is_ref : Bool) (k : Kinds) (h : RegisterCells) (old mid new : List CellView) (ps qs : List PointerView) (sites sites2 : List SiteView) (base : Kind) (count map c : ℕ) (key words : List ℕ)
    → i.op ≡ Call → helper_of i.imm ≡ Some Lookup → verdict (effect_of decls k i) ≡ passed → length h.registers ≡ 11 → AreInside decls (length old) ps h k
    → base ≡ register k 2 → count ≡ key_bytes decls map → ((q : ℕ) → register k 1 ≡ MapRef q → map ≡ q) → key ≡ words
    → Grows old mid → RiseAll old mid words (λ row. span_row (held_row row ps h k) (region base (pos 0) count)) → LooksUp mid new ps qs sites sites2 here map key c
    → OperatesTo decls i here.pending k h (transferred decls k i here.node is_ref false) (record h { registers = slice_set h.registers 0 c }) old new ps qs sites sites2
lookup_rows decls i here is_ref k h old mid new ps qs sites sites2 base count map c key words op helper allowed whole inside base_is count_is map_is key_is before rises looks =
    let f = lookup_allowed decls k i op helper allowed in
    let used : map_used k i i.op ≡ Some f.0 = call_used k i f.0 op f.1 in
    let after : Kinds = transferred decls k i here.node is_ref false in
    let becomes : after ≡ answering (Maybe f.0 here.node) k = f.4 here.node is_ref false in
    let b : (ℕ → ℕ) → ℕ → ℕ = λ row. row_before row ps h k (map_used k i i.op) here.pending in
    let last : (ℕ → ℕ) → ℕ = λ row. result_row (b row) decls k after i in
    let result : (row : ℕ → ℕ) → last row ≡ spans_row (b row) (call_reads decls k (Some Lookup)) + 1 = λ row. call_result (b row) decls k after i (Some Lookup) op helper in
    let span_is = key_is_span decls k base count map f.0 base_is count_is (map_is f.0 f.1) f.1 in
    let low : (row : ℕ → ℕ) → span_row (held_row row ps h k) (region base (pos 0) count) ≤ span_row (b row) (key_span decls k) = λ row.
    subst (λ (s : Span). span_row (held_row row ps h k) (region base (pos 0) count) ≤ span_row (b row) s) span_is (span_before row ps h k (map_used k i i.op) here.pending (region base (pos 0) count)) in
    let waits : (row : ℕ → ℕ) → row here.pending ≤ span_row (b row) (pending_of (register k 1)) = λ row. pending_before row ps h k (map_used k i i.op) (map_of (register k 1)) f.0 here.pending used (ap map_of f.1) in
    let s = stand_all {last = last} (stand_none {last = last}) rises (λ row p. omega (arith, result row, low row)) in
    let all = rises_then s looks.rises (λ row p. omega (arith, result row, low row, waits row, p.1, greatest_append row key (here.pending ∷ []), ap (greatest row) key_is)) in
    let known = λ (row : ℕ → ℕ) (rows : AreRows new row). s.known row (looks.rises.grows.rows row rows) in
    let spans = call_places k i (Some Lookup) op helper refl in
    let sheds : Sheds k after 0 (Maybe f.0 here.node) = subst (λ (x : Kinds). Sheds k x 0 (Maybe f.0 here.node)) (sym becomes) (answering_sheds k (Maybe f.0 here.node)) in
    let among = λ (row : ℕ → ℕ) (place : ℕ). subst (λ (xs : List PointerView). held_row row xs h k place ≤ held_row row ps h k place) (sym looks.pointers_are) (rows_among decls (length old) ps ((record { found = looks.found; key = key }) ∷ []) h k inside row place) in
    let at : pointer_at qs c ≡ record { found = looks.found; key = key } = ap (λ (xs : List PointerView). pointer_at xs c) looks.pointers_are
    ∙ ap (pointer_at (ps ++ (record { found = looks.found; key = key }) ∷ [])) looks.number_is ∙ last_pointer ps (record { found = looks.found; key = key }) in
    let opened : list_any (is_open_in after) (writes_as k i i.op) ≡ true = ap (list_any (is_open_in after)) spans ∙ open_register after (Maybe f.0 here.node) 0 (omega arith) sheds.answer refl in
    let made : (row : ℕ → ℕ) → last row ≤ made_row (b row) decls k after i = λ row. made_result (b row) decls k after i opened in
    let own : (row : ℕ → ℕ) → AreRows new row → value_row row qs (Maybe f.0 here.node) c ≤ last row = λ row rows.
    subst (λ (p : PointerView). greatest row (cells_of_pointer p) ≤ last row) (sym at)
    (let w = known row rows in omega (arith, all.result row rows, result row, low row, w.1, ap (greatest row) key_is)) in
    record {
      carries = subst (λ (ws : List Span). LeavesTo b qs h after (record h { registers = slice_set h.registers 0 c }) old new ws (λ row. made_row (b row) decls k after i) last) (sym spans)
          (shed_leaves ps qs h k after 0 c (Maybe f.0 here.node) (map_used k i i.op) here.pending old new (λ row. made_row (b row) decls k after i) last sheds (omega arith) whole among (grows_by all.grows made) own);
      writes = λ row rows. no_write (record_as decls k i i.op) old new sites sites2 (lookup_site here map key) row _ looks.sites_are refl
          (grown_with (ReadsNext sites) old mid new (reads_none (ReadsNext sites) old mid before) looks.grows).reads;
      declared = λ q e. subst (λ (n : ℕ). n < length decls) (some_inj f.0 q (sym used ∙ e)) f.2;
    }
