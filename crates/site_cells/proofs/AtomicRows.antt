-- In which rows stand the cells of atomic changes.
use Rattle.std.proofs.Common.{◌≡◌, ◌∙◌, ℕ, ◌+◌, ◌<◌, ◌≤◌, if◌then◌else◌, Bool, true, false, Some, None, List, [], ◌∷◌, ◌++◌, length, slice_index, slice_set, max, refl, sym, ap, subst, arith}
use Rattle.std.specs.List.{list_any}
use Rattle.std.proofs.lemmas.List.{get_or-set_same}
use Rattle.cell_core.specs.bpf_isa.declared.operation.Size.{Size}
use Rattle.cell_core.specs.bpf_isa.declared.operation.Op.TheVariants.{Atomic}
use Rattle.cell_core.specs.bpf_isa.declared.instruction.Insn.{Insn}
use Rattle.cell_core.specs.xdp_maps.declared.decl.MapDecl.{MapDecl}
use Rattle.cell_core.specs.xdp_machine.Atomics.{fetches}
use Rattle.kind_core.proofs.xdp_machine_laws.ChangeLaws.{some_inj}
use Rattle.kind_core.specs.NumberBounds.{any_number}
use Rattle.kind_core.specs.declared.kind.Kind.{Kind}
use Rattle.kind_core.specs.declared.kind.Kind.TheVariants.{Unset, Num, Entry}
use Rattle.kind_core.specs.declared.kind.Kinds.{Kinds}
use Rattle.kind_core.specs.Kinds.{register}
use Rattle.kind_core.specs.Access.{compares}
use Rattle.kind_core.specs.Edges.{transferred}
use Rattle.cell_core.specs.declared.site.Act.TheVariants as act
use Rattle.cell_core.specs.declared.site.Atomic.{Atomic as AtomicChange}
use Rattle.cell_core.specs.Cells.{CellView}
use Rattle.cell_core.specs.Sites.{SiteView}
use Rattle.cell_core.specs.Rows.{greatest}
use Rattle.operator_cells.specs.Rising.{Rises, RiseAll}
use Rattle.operator_cells.proofs.RisingLaws.{stand_none, stand_all, rises_then, rise_more}
use Rattle.operator_cells.specs.row_rules.declared.place_rows.span.Span.{Span}
use Rattle.operator_cells.specs.row_rules.PlaceRows.Spans.{no_place, one, pending, map_of, pending_of, is_in, span_row, spans_row}
use Rattle.operator_cells.specs.row_rules.PlaceRows.Reading.{compared_span, result_as, result_row}
use Rattle.operator_cells.specs.row_rules.PlaceRows.Writing.{old_value, writes_as, record_as, through, taken_row}
use Rattle.operator_cells.proofs.row_rules_laws.PlaceRows.SpanLaws.{is_inside, span_above, no_places}
use Rattle.operator_cells.specs.declared.held_cells.machine_cells.RegisterCells.{RegisterCells}
use Rattle.operator_cells.specs.HeldCells.RegisterCells.{PointerView, pointer_at}
use Rattle.operator_cells.specs.HeldCells.Rows.{cells_of_pointer, value_row, held_row, map_used, row_before, written_row, is_some_place, OperatesTo}
use Rattle.operator_cells.proofs.HeldCells.RowLaws.{register_row, rise_one}
use Rattle.site_cells.specs.declared.here.Here.{Here}
use Rattle.site_cells.specs.Siting.{Accesses, access_site}
use Rattle.site_cells.specs.Changing.{code_of, taken_by, HoldsOperands}
use Rattle.site_cells.proofs.Allowed.{AtomicAllowed}
use Rattle.site_cells.proofs.Leaving.{trans_le, span_before, pending_before}
use Rattle.site_cells.proofs.Recording.{written_taken, written_result, some_place, one_write}
use Rattle.site_cells.proofs.AccessRows.{pointer_before, read_low, site_low, answer_rows, quiet_rows}
use Rattle.site_cells.proofs.EntryRows.{placed_map}

-- ---- the operands
pub held_span : (row : ℕ → ℕ) (ps : List PointerView) (h : RegisterCells) (k : Kinds) (r : ℕ) → r ≤ 10 → value_row row ps (register k r) (slice_index h.registers r) ≤ span_row (held_row row ps h k) (one r)
held_span row ps h k r l =
    subst (λ (n : ℕ). n ≤ span_row (held_row row ps h k) (one r)) (register_row row ps h k r (omega (arith, l))) (span_above (held_row row ps h k) (one r) r (is_inside r (one r) (omega arith) (omega arith)))

-- one cell and then another
pub two_rise : {a b d : List CellView} {s c : ℕ} {f g last : (ℕ → ℕ) → ℕ} → Rises a b s f → Rises b d c g → ((row : ℕ → ℕ) → f row ≤ last row) → ((row : ℕ → ℕ) → g row ≤ last row) → RiseAll a d (s ∷ c ∷ []) last
two_rise one two h g = rise_more refl (rise_one one h) two g

pub compared_low : (row : ℕ → ℕ) (ps : List PointerView) (h : RegisterCells) (k : Kinds) (i : Insn) → compares i ≡ true
    → value_row row ps (register k 0) (slice_index h.registers 0) ≤ spans_row (held_row row ps h k) (one i.src ∷ compared_span i ∷ [])
compared_low row ps h k i e =
    let low = held_span row ps h k 0 (omega arith) in
    subst (λ (s : Span). value_row row ps (register k 0) (slice_index h.registers 0) ≤ spans_row (held_row row ps h k) (one i.src ∷ s ∷ [])) (sym (ap (λ (t : Bool). if t then one 0 else no_place) e)) (omega (arith, low))

pub source_low : (row : ℕ → ℕ) (ps : List PointerView) (h : RegisterCells) (k : Kinds) (i : Insn) → i.src ≤ 10
    → value_row row ps (register k i.src) (slice_index h.registers i.src) ≤ spans_row (held_row row ps h k) (one i.src ∷ compared_span i ∷ [])
source_low row ps h k i l = let low = held_span row ps h k i.src l in omega (arith, low)

-- ---- where the old number goes
goes_to : (i : Insn) (r : ℕ) → taken_by i ≡ Some r → old_value i ≡ one r
goes_to i r = by (compares i) (fetches (code_of i))
  where
    by : (b f : Bool) → (if b then Some 0 else (if f then Some i.src else None)) ≡ Some r → (if b then one 0 else (if f then one i.src else no_place)) ≡ one r
    by true f e = ap one (some_inj 0 r e)
    by false true e = ap one (some_inj i.src r e)
    by false false e = absurd (cc)

goes_nowhere : (i : Insn) → taken_by i ≡ None → old_value i ≡ no_place
goes_nowhere i = by (compares i) (fetches (code_of i))
  where
    by : (b f : Bool) → (if b then Some 0 else (if f then Some i.src else None)) ≡ None → (if b then one 0 else (if f then one i.src else no_place)) ≡ no_place
    by true f e = absurd (cc)
    by false true e = absurd (cc)
    by false false e = refl

module _ (decls : List MapDecl) (i : Insn) (here : Here) (is_ref : Bool) (k : Kinds) (h : RegisterCells) (old mid new : List CellView) (ps : List PointerView) (sites sites2 : List SiteView) (size : Size) (q o a s c : ℕ) (at : AtomicChange) (p : PointerView)
    (op : i.op ≡ Atomic size) (dst : i.dst ≤ 10) (base : register k i.dst ≡ Entry q o) (allowed : AtomicAllowed decls k i size q o) (p_is : p ≡ pointer_at ps (slice_index h.registers i.dst)) (operands : HoldsOperands k h i old mid s c)
    (rises : RiseAll old mid (s ∷ c ∷ []) (λ row. spans_row (held_row row ps h k) (one i.src ∷ compared_span i ∷ []))) where
  abbrev before : (ℕ → ℕ) → ℕ → ℕ
  before row = row_before row ps h k (map_used k i i.op) here.pending

  abbrev after : Kinds
  after = transferred decls k i here.node is_ref false

  abbrev takes : List Span
  takes = one i.dst ∷ one i.src ∷ compared_span i ∷ []

  used : map_used k i i.op ≡ Some q
  used = ap (map_used k i) op ∙ ap map_of base

  there : q < length decls
  there = placed_map decls q _ size allowed.placed

  write : record_as decls k i i.op ≡ Some (record { map = q; takes = takes })
  write = ap (record_as decls k i) op ∙ ap (λ (x : Kind). through x takes) base

  low : (row : ℕ → ℕ) → spans_row (held_row row ps h k) (one i.src ∷ compared_span i ∷ []) ≤ spans_row (before row) takes
  low row =
      let source = span_before row ps h k (map_used k i i.op) here.pending (one i.src) in
      let other = span_before row ps h k (map_used k i i.op) here.pending (compared_span i) in
      omega (arith, source, other)

  led : (row : ℕ → ℕ) → greatest row (cells_of_pointer p) ≤ spans_row (before row) takes
  led row = let l = pointer_before row ps h k (map_used k i i.op) here.pending i.dst q o p dst base p_is in omega (arith, l)

  pub silent_rows : taken_by i ≡ None → sites2 ≡ sites ++ access_site here q (act.Atomic a at) p (s ∷ c ∷ []) ∷ [] → OperatesTo decls i here.pending k h after h old mid ps ps sites sites2
  silent_rows to sites_are =
      let writes : writes_as k i i.op ≡ no_place ∷ no_place ∷ [] = ap (writes_as k i) op ∙ ap (λ (x : Span). x ∷ no_place ∷ []) (goes_nowhere i to) in
      quiet_rows decls i here k h ps q used there after old mid sites sites2 (act.Atomic a at) p (s ∷ c ∷ []) takes _ (allowed.not_taken here.node is_ref false to)
      (λ place. ap (list_any (is_in place)) writes ∙ no_places place) write operands.grows rises low led sites_are

  result : (row : ℕ → ℕ) → result_row (before row) decls k after i ≡ spans_row (before row) (one i.dst ∷ one i.src ∷ compared_span i ∷ pending q ∷ []) + 1
  result row = ap (result_as (before row) decls k after i) op ∙ ap (λ (x : Kind). spans_row (before row) (one i.dst ∷ one i.src ∷ compared_span i ∷ pending_of x ∷ []) + 1) base

  pub taken_rows : (r answer width : ℕ) → r ≤ 10 → taken_by i ≡ Some r → length k.registers ≡ 11 → length h.registers ≡ 11 → Accesses mid new sites sites2 here q (act.Atomic a at) p (s ∷ c ∷ []) answer width
      → OperatesTo decls i here.pending k h after (record h { registers = slice_set h.registers r answer }) old new ps ps sites sites2
  taken_rows r answer width small to ks hs reads =
      let last : (ℕ → ℕ) → ℕ = λ row. result_row (before row) decls k after i in
      let becomes = allowed.taken here.node is_ref false r to in
      let is : register after r ≡ Num (any_number 64) = ap (λ (x : Kinds). register x r) becomes ∙ get_or-set_same k.registers r (Num (any_number 64)) Unset (omega (arith, small, ks)) in
      let writes : writes_as k i i.op ≡ one r ∷ no_place ∷ [] = ap (writes_as k i) op ∙ ap (λ (x : Span). x ∷ no_place ∷ []) (goes_to i r to) in
      let under : (row : ℕ → ℕ) → spans_row (before row) takes + 1 ≤ last row = λ row. omega (arith, result row) in
      let waits : (row : ℕ → ℕ) → row here.pending + 1 ≤ last row = λ row.
      let w = pending_before row ps h k (map_used k i i.op) (Some q) q here.pending used refl in omega (arith, w, result row) in
      let f : (ℕ → ℕ) → ℕ = λ row. spans_row (held_row row ps h k) (one i.src ∷ compared_span i ∷ []) in
      let reading : (row : ℕ → ℕ) → greatest row (s ∷ c ∷ []) ≤ f row → greatest row (p.key ++ ((s ∷ c ∷ []) ++ p.found ∷ []) ++ here.pending ∷ []) + 1 ≤ last row = λ row g.
      let most : ℕ = max (spans_row (before row) takes) (row here.pending) in
      let all : greatest row (p.key ++ ((s ∷ c ∷ []) ++ p.found ∷ []) ++ here.pending ∷ []) ≤ most = read_low row p (s ∷ c ∷ []) here.pending most (trans_le (led row) (omega arith)) (trans_le g (trans_le (low row) (omega arith))) (omega arith) in
      omega (arith, all, under row, waits row) in
      let first = stand_all {last = last} (stand_none {last = last}) rises (λ row t. let l = low row in let u = under row in omega (arith, l, u)) in
      let all = rises_then first reads.rises (λ row t. reading row t.1) in
      let some : is_some_place (writes_as k i i.op) ≡ true = ap is_some_place writes ∙ some_place r in
      let written : (row : ℕ → ℕ) → last row ≤ written_row (before row) decls k after i = λ row. written_result (before row) decls k after i some in
      let taken : (row : ℕ → ℕ) → spans_row (before row) takes ≤ written_row (before row) decls k after i = λ row.
      subst (λ (n : ℕ). n ≤ written_row (before row) decls k after i) (ap (taken_row (before row)) write) (written_taken (before row) decls k after i) in
      answer_rows decls i here k h ps q used there after old new sites sites2 r answer small ks hs becomes is writes all
      (λ row rows. one_write (record_as decls k i i.op) old new sites sites2 (access_site here q (act.Atomic a at) p (s ∷ c ∷ [])) row (written_row (before row) decls k after i) reads.sites_are (record { map = q; takes = takes }) write refl
      (site_low row p (s ∷ c ∷ []) (written_row (before row) decls k after i) (trans_le (led row) (taken row)) (trans_le (first.known row (reads.rises.grows.rows row rows)).1 (trans_le (low row) (taken row))))
      (λ cell j behind before_end e. trans_le (all.grows.each row rows cell behind before_end) (written row)))
