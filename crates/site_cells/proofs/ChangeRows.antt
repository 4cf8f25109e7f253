-- In which rows stand the cells of updates and deletes.
use Rattle.std.proofs.Common.{◌≡◌, ◌∙◌, ℕ, ◌+◌, ◌<◌, ◌≤◌, pos, max, Bool, true, false, Some, List, [], ◌∷◌, ◌++◌, length, slice_index, slice_set, refl, sym, ap, subst, arith, Option}
use Rattle.std.specs.List.{list_any}
use Rattle.cell_core.specs.bpf_isa.declared.operation.Op.TheVariants.{Call}
use Rattle.cell_core.specs.bpf_isa.declared.instruction.Insn.{Insn}
use Rattle.cell_core.specs.bpf_isa.declared.helper.Helper.{Helper}
use Rattle.cell_core.specs.bpf_isa.declared.helper.Helper.TheVariants.{Update, Delete}
use Rattle.cell_core.specs.bpf_isa.Helpers.{helper_of}
use Rattle.cell_core.specs.xdp_maps.declared.decl.MapDecl.{MapDecl}
use Rattle.kind_core.proofs.xdp_machine_laws.ChangeLaws.{some_inj}
use Rattle.kind_core.specs.NumberBounds.{any_number}
use Rattle.kind_core.specs.declared.kind.Kind.{Kind}
use Rattle.kind_core.specs.declared.kind.Kind.TheVariants.{Num, MapRef}
use Rattle.kind_core.specs.declared.kind.Kinds.{Kinds}
use Rattle.kind_core.specs.Kinds.{register, key_bytes, value_bytes}
use Rattle.kind_core.specs.Calls as calls
use Rattle.kind_core.specs.Tests.{passed}
use Rattle.kind_core.specs.Effects.{effect_of, verdict}
use Rattle.kind_core.specs.Edges.{transferred, changed}
use Rattle.cell_core.specs.declared.site.Act.{Act}
use Rattle.cell_core.specs.declared.site.Act.TheVariants as act
use Rattle.cell_core.specs.Cells.{CellView}
use Rattle.cell_core.specs.Sites.{SiteView}
use Rattle.cell_core.specs.Rows.{AreRows, greatest}
use Rattle.cell_core.proofs.RowLaws.{greatest_append}
use Rattle.operator_cells.specs.Rising.{GrowsTo, Rises, RiseAll}
use Rattle.operator_cells.proofs.RisingLaws.{stand_none, stand_more, stand_all, rises_then}
use Rattle.operator_cells.specs.row_rules.declared.place_rows.span.Span.{Span}
use Rattle.operator_cells.specs.row_rules.PlaceRows.Spans.{no_place, one, region, map_of, pending_of, value_in, span_row, spans_row}
use Rattle.operator_cells.specs.row_rules.PlaceRows.Calls.{key_span, value_span, call_reads, call_writes, called_on}
use Rattle.operator_cells.specs.row_rules.PlaceRows.Reading.{result_row}
use Rattle.operator_cells.specs.row_rules.PlaceRows.Writing.{writes_as, record_as, is_open_in, taken_row, made_row}
use Rattle.operator_cells.specs.declared.held_cells.machine_cells.RegisterCells.{RegisterCells}
use Rattle.operator_cells.specs.HeldCells.RegisterCells.{PointerView}
use Rattle.operator_cells.specs.HeldCells.Rows.{value_row, held_row, map_used, row_before, is_some_place, written_row, LeavesTo, OperatesTo}
use Rattle.operator_cells.proofs.HeldCells.RowLaws.{grows_by, put_register}
use Rattle.site_cells.specs.declared.here.Here.{Here}
use Rattle.site_cells.specs.Siting.{Changes, change_site}
use Rattle.site_cells.proofs.Allowed.{delete_allowed, update_allowed}
use Rattle.site_cells.proofs.Shedding.{Sheds, changed_sheds}
use Rattle.site_cells.proofs.Leaving.{trans_le, span_before, register_before, pending_before, shed_leaves}
use Rattle.site_cells.proofs.LookupRows.{call_used, call_places, call_result, key_is_span}
use Rattle.site_cells.proofs.Recording.{made_taken, made_result, written_taken, written_result, open_register, some_place, one_write}

-- ---- a change
module _ (decls : List MapDecl) (i : Insn) (here : Here) (is_ref : Bool) (k : Kinds) (h : RegisterCells) (ps : List PointerView) (q : ℕ) (helper : Option Helper) (op : i.op ≡ Call) (called : helper_of i.imm ≡ helper) (plain : call_writes helper ≡ no_place) (map : register k 1 ≡ MapRef q)
    (there : q < length decls) (is : transferred decls k i here.node is_ref false ≡ changed here.node is_ref false k (calls.change_of decls q)) where
  abbrev before : (ℕ → ℕ) → ℕ → ℕ
  before row = row_before row ps h k (map_used k i i.op) here.pending

  abbrev after : Kinds
  after = transferred decls k i here.node is_ref false

  abbrev last : (ℕ → ℕ) → ℕ
  last row = result_row (before row) decls k after i

  abbrev taken : (ℕ → ℕ) → ℕ
  taken row = taken_row (before row) (record_as decls k i i.op)

  used : map_used k i i.op ≡ Some q
  used = call_used k i q op map

  writes : writes_as k i i.op ≡ one 0 ∷ no_place ∷ []
  writes = call_places k i helper op called plain

  pub last_is : (row : ℕ → ℕ) → last row ≡ spans_row (before row) (call_reads decls k helper) + 1
  last_is row = call_result (before row) decls k after i helper op called

  pub record_is : record_as decls k i i.op ≡ called_on decls k helper (Some q)
  record_is = ap (record_as decls k i) op ∙ ap (λ (h : Option Helper). called_on decls k h (map_of (register k 1))) called ∙ ap (λ (x : Kind). called_on decls k helper (map_of x)) map

  pub waits : (row : ℕ → ℕ) → row here.pending ≤ span_row (before row) (pending_of (register k 1))
  waits row = pending_before row ps h k (map_used k i i.op) (map_of (register k 1)) q here.pending used (ap map_of map)

  pub key_low : (row : ℕ → ℕ) (base : Kind) (count at : ℕ) → base ≡ register k 2 → count ≡ key_bytes decls at → at ≡ q → span_row (held_row row ps h k) (region base (pos 0) count) ≤ span_row (before row) (key_span decls k)
  key_low row base count at base_is count_is map_is = subst (λ (s : Span). span_row (held_row row ps h k) (region base (pos 0) count) ≤ span_row (before row) s) (key_is_span decls k base count at q base_is count_is map_is map)
      (span_before row ps h k (map_used k i i.op) here.pending (region base (pos 0) count))

  pub change_rows : (old new : List CellView) (sites sites2 : List SiteView) (a : Act) (key operands : List ℕ) (c : ℕ) (takes : List Span) → record_as decls k i i.op ≡ Some (record { map = q; takes = takes }) → length h.registers ≡ 11
      → GrowsTo old new (λ row. max (last row) (taken row)) → ((row : ℕ → ℕ) → AreRows new row → row c ≤ last row)
      → ((row : ℕ → ℕ) → AreRows new row → greatest row (key ++ operands) ≤ max (last row) (taken row)) → sites2 ≡ sites ++ change_site here q a key operands ∷ []
      → OperatesTo decls i here.pending k h after (put_register h 0 c) old new ps ps sites sites2
  change_rows old new sites sites2 a key operands c takes write whole grows own taken_low sites_are =
      let sheds : Sheds k after 0 (Num (any_number 64)) = subst (λ (x : Kinds). Sheds k x 0 (Num (any_number 64))) (sym is) (changed_sheds decls q here.node is_ref false k) in
      let opened : list_any (is_open_in after) (writes_as k i i.op) ≡ true = ap (list_any (is_open_in after)) writes ∙ open_register after (Num (any_number 64)) 0 (omega arith) sheds.answer refl in
      let some : is_some_place (writes_as k i i.op) ≡ true = ap is_some_place writes ∙ some_place 0 in
      let made : (ℕ → ℕ) → ℕ = λ row. made_row (before row) decls k after i in
      let all : (ℕ → ℕ) → ℕ = λ row. written_row (before row) decls k after i in
      let makes : (row : ℕ → ℕ) → max (last row) (taken row) ≤ made row = λ row. let a = made_result (before row) decls k after i opened in let b = made_taken (before row) decls k after i in omega (arith, a, b) in
      let written : (row : ℕ → ℕ) → max (last row) (taken row) ≤ all row = λ row. let a = written_result (before row) decls k after i some in let b = written_taken (before row) decls k after i in omega (arith, a, b) in
      record {
        carries = subst (λ (ws : List Span). LeavesTo before ps h after (put_register h 0 c) old new ws made last) (sym writes)
            (shed_leaves ps ps h k after 0 c (Num (any_number 64)) (map_used k i i.op) here.pending old new made last sheds (omega arith) whole (λ row place. omega arith) (grows_by grows makes) (λ row rows. let r = own row rows in omega (arith, r)));
        writes = λ row rows. one_write (record_as decls k i i.op) old new sites sites2 (change_site here q a key operands) row (all row) sites_are (record { map = q; takes = takes }) write refl (trans_le (taken_low row rows) (written row))
            (λ cell j behind before_end e. trans_le (grows.each row rows cell behind before_end) (written row));
        declared = λ p e. subst (λ (n : ℕ). n < length decls) (some_inj q p (sym used ∙ e)) there;
      }

-- ---- deletes
pub delete_rows : (decls : List MapDecl) (i : Insn) (here : Here) (is_ref : Bool) (k : Kinds) (h : RegisterCells) (old mid new : List CellView) (ps : List PointerView) (sites sites2 : List SiteView) (base : Kind) (count map c : ℕ) (key words looked none : List ℕ)
    → i.op ≡ Call → helper_of i.imm ≡ Some Delete → verdict (effect_of decls k i) ≡ passed → length h.registers ≡ 11
    → base ≡ register k 2 → count ≡ key_bytes decls map → ((q : ℕ) → register k 1 ≡ MapRef q → map ≡ q) → key ≡ words → looked ≡ [] → none ≡ []
    → RiseAll old mid words (λ row. span_row (held_row row ps h k) (region base (pos 0) count)) → Changes mid new sites sites2 here map act.Delete key looked none c
    → OperatesTo decls i here.pending k h (transferred decls k i here.node is_ref false) (record h { registers = slice_set h.registers 0 c }) old new ps ps sites sites2
delete_rows decls i here is_ref k h old mid new ps sites sites2 base count map c key words looked none op helper allowed whole base_is count_is map_is key_is looked_is none_is rises made =
    let f = delete_allowed decls k i op helper allowed in
    let is = f.4 here.node is_ref false in
    let before : (ℕ → ℕ) → ℕ → ℕ = λ row. row_before row ps h k (map_used k i i.op) here.pending in
    let last : (ℕ → ℕ) → ℕ = λ row. result_row (before row) decls k (transferred decls k i here.node is_ref false) i in
    let taken : (ℕ → ℕ) → ℕ = λ row. taken_row (before row) (record_as decls k i i.op) in
    let result = last_is decls i here is_ref k h ps f.0 (Some Delete) op helper refl f.1 f.2 is in
    let wait = waits decls i here is_ref k h ps f.0 (Some Delete) op helper refl f.1 f.2 is in
    let low : (row : ℕ → ℕ) → span_row (held_row row ps h k) (region base (pos 0) count) ≤ span_row (before row) (key_span decls k) = λ row.
    key_low decls i here is_ref k h ps f.0 (Some Delete) op helper refl f.1 f.2 is row base count map base_is count_is (map_is f.0 f.1) in
    let most : (ℕ → ℕ) → ℕ = λ row. max (last row) (taken row) in
    let first = stand_all {last = most} (stand_none {last = most}) rises (λ row p. let l = low row in let r = result row in omega (arith, l, r)) in
    let reading : (row : ℕ → ℕ) → greatest row words ≤ span_row (held_row row ps h k) (region base (pos 0) count) → greatest row (key ++ looked ++ here.pending ∷ []) + 1 ≤ last row = λ row g.
    let l = low row in let r = result row in let w = wait row in
    omega (arith, g, l, r, w, ap (greatest row) key_is, ap (greatest row) looked_is, greatest_append row (key ++ looked) (here.pending ∷ []), greatest_append row key looked) in
    let all = rises_then first made.rises (λ row p. let r = reading row p.1 in omega (arith, r)) in
    change_rows decls i here is_ref k h ps f.0 (Some Delete) op helper refl f.1 f.2 is old new sites sites2 act.Delete key none c (key_span decls k ∷ no_place ∷ no_place ∷ []) (record_is decls i here is_ref k h ps f.0 (Some Delete) op helper refl f.1 f.2 is) whole all.grows
    (λ row rows. trans_le (made.rises.result row rows) (reading row (first.known row (made.rises.grows.rows row rows)).1))
    (λ row rows. let g = (first.known row (made.rises.grows.rows row rows)).1 in let l = low row in let r = result row in
    omega (arith, g, l, r, ap (greatest row) key_is, ap (greatest row) none_is, greatest_append row key none))
    (made.sites_are ∙ ap (λ (n : ℕ). sites ++ change_site here n act.Delete key none ∷ []) (map_is f.0 f.1))

-- ---- updates
pub update_rows : (decls : List MapDecl) (i : Insn) (here : Here) (is_ref : Bool) (k : Kinds) (h : RegisterCells) (old mid next end new : List CellView) (ps : List PointerView) (sites sites2 : List SiteView) (base second : Kind) (count size map c flags : ℕ) (key words looked values operands : List ℕ)
    → i.op ≡ Call → helper_of i.imm ≡ Some Update → verdict (effect_of decls k i) ≡ passed → length h.registers ≡ 11
    → base ≡ register k 2 → second ≡ register k 3 → count ≡ key_bytes decls map → size ≡ value_bytes decls map → ((q : ℕ) → register k 1 ≡ MapRef q → map ≡ q) → key ≡ words → looked ≡ flags ∷ [] → operands ≡ flags ∷ values
    → RiseAll old mid words (λ row. span_row (held_row row ps h k) (region base (pos 0) count)) → RiseAll mid next values (λ row. span_row (held_row row ps h k) (region second (pos 0) size))
    → Rises next end flags (λ row. value_row row ps (register k 4) (slice_index h.registers 4)) → Changes end new sites sites2 here map act.Update key looked operands c
    → OperatesTo decls i here.pending k h (transferred decls k i here.node is_ref false) (record h { registers = slice_set h.registers 0 c }) old new ps ps sites sites2
update_rows decls i here is_ref k h old mid next end new ps sites sites2 base second count size map c flags key words looked values operands op helper allowed whole base_is second_is count_is size_is map_is key_is looked_is operands_are rises others flag made =
    let f = update_allowed decls k i op helper allowed in
    let is = f.7 here.node is_ref false in
    let before : (ℕ → ℕ) → ℕ → ℕ = λ row. row_before row ps h k (map_used k i i.op) here.pending in
    let last : (ℕ → ℕ) → ℕ = λ row. result_row (before row) decls k (transferred decls k i here.node is_ref false) i in
    let taken : (ℕ → ℕ) → ℕ = λ row. taken_row (before row) (record_as decls k i i.op) in
    let takes : List Span = key_span decls k ∷ value_span decls k (Some f.0) ∷ no_place ∷ [] in
    let write = record_is decls i here is_ref k h ps f.0 (Some Update) op helper refl f.1 f.2 is in
    let takes_is : (row : ℕ → ℕ) → taken row ≡ spans_row (before row) takes = λ row. ap (taken_row (before row)) write in
    let result = last_is decls i here is_ref k h ps f.0 (Some Update) op helper refl f.1 f.2 is in
    let wait = waits decls i here is_ref k h ps f.0 (Some Update) op helper refl f.1 f.2 is in
    let low : (row : ℕ → ℕ) → span_row (held_row row ps h k) (region base (pos 0) count) ≤ span_row (before row) (key_span decls k) = λ row.
    key_low decls i here is_ref k h ps f.0 (Some Update) op helper refl f.1 f.2 is row base count map base_is count_is (map_is f.0 f.1) in
    let value_is : region second (pos 0) size ≡ region (register k 3) (pos 0) (value_in decls (Some f.0)) =
    ap (λ (x : Kind). region x (pos 0) size) second_is ∙ ap (region (register k 3) (pos 0)) (size_is ∙ ap (value_bytes decls) (map_is f.0 f.1)) in
    let value_low : (row : ℕ → ℕ) → span_row (held_row row ps h k) (region second (pos 0) size) ≤ taken row = λ row.
    let v = subst (λ (s : Span). span_row (held_row row ps h k) (region second (pos 0) size) ≤ span_row (before row) s) value_is (span_before row ps h k (map_used k i i.op) here.pending (region second (pos 0) size)) in
    omega (arith, v, takes_is row) in
    let flag_low : (row : ℕ → ℕ) → value_row row ps (register k 4) (slice_index h.registers 4) + 1 ≤ last row = λ row.
    let v = register_before row ps h k (map_used k i i.op) here.pending 4 (omega arith) in omega (arith, v, result row) in
    let key_under : (row : ℕ → ℕ) → span_row (held_row row ps h k) (region base (pos 0) count) + 1 ≤ last row = λ row. let l = low row in omega (arith, l, result row) in
    let most : (ℕ → ℕ) → ℕ = λ row. max (last row) (taken row) in
    let keys = stand_all {last = most} (stand_none {last = most}) rises (λ row p. let l = key_under row in omega (arith, l)) in
    let both = stand_all keys others (λ row p. let v = value_low row in omega (arith, v)) in
    let three = stand_more both flag (λ row p. let v = flag_low row in omega (arith, v)) in
    let reading : (row : ℕ → ℕ) → greatest row words ≤ span_row (held_row row ps h k) (region base (pos 0) count) → row flags ≤ value_row row ps (register k 4) (slice_index h.registers 4) → greatest row (key ++ looked ++ here.pending ∷ []) + 1 ≤ last row = λ row g e.
    let l = key_under row in let v = flag_low row in let w = wait row in
    omega (arith, g, e, l, v, w, result row, ap (greatest row) key_is, ap (greatest row) looked_is, greatest_append row (key ++ looked) (here.pending ∷ []), greatest_append row key looked) in
    let all = rises_then three made.rises (λ row p. let r = reading row p.0.0.1 p.1 in omega (arith, r)) in
    let known = λ (row : ℕ → ℕ) (rows : AreRows new row). three.known row (made.rises.grows.rows row rows) in
    change_rows decls i here is_ref k h ps f.0 (Some Update) op helper refl f.1 f.2 is old new sites sites2 act.Update key operands c takes write whole all.grows
    (λ row rows. let p = known row rows in trans_le (made.rises.result row rows) (reading row p.0.0.1 p.1))
    (λ row rows. let p = known row rows in let l = key_under row in let v = value_low row in let e = flag_low row in
    omega (arith, p.0.0.1, p.0.1, p.1, l, v, e, ap (greatest row) key_is, ap (greatest row) operands_are, greatest_append row key operands))
    (made.sites_are ∙ ap (λ (n : ℕ). sites ++ change_site here n act.Update key operands ∷ []) (map_is f.0 f.1))
