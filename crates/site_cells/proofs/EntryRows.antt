-- In which rows stand the cells of loads from entries and of stores into them.
use Rattle.std.proofs.Common.{◌≡◌, ◌∙◌, ℕ, ◌+◌, ◌<◌, ◌≤◌, ℤ, pos, ◌+ℤ◌, ◌||◌, Bool, false, Some, List, [], ◌∷◌, ◌++◌, length, slice_index, slice_set, refl, sym, ap, arith}
use Rattle.std.proofs.lemmas.List.{get_or-set_same}
use Rattle.std.specs.List.{list_any}
use Rattle.std.specs.Int.{w64, cast_unsigned}
use Rattle.cell_core.specs.bpf_isa.declared.operation.Size.{Size}
use Rattle.cell_core.specs.bpf_isa.declared.operation.Op.TheVariants.{Load, LoadSigned, Store, StoreImm}
use Rattle.cell_core.specs.bpf_isa.declared.instruction.Insn.{Insn}
use Rattle.cell_core.specs.xdp_maps.declared.decl.MapDecl.{MapDecl}
use Rattle.cell_core.specs.xdp_machine.Memory.{bytes_in}
use Rattle.kind_core.proofs.xdp_machine_laws.ChangeLaws.{some_inj}
use Rattle.kind_core.specs.declared.number.Number.TheVariants.{Known, Between}
use Rattle.kind_core.specs.declared.kind.Kind.{Kind}
use Rattle.kind_core.specs.declared.kind.Kind.TheVariants.{Unset, Num, Entry}
use Rattle.kind_core.specs.declared.kind.Kinds.{Kinds}
use Rattle.kind_core.specs.Kinds.{register, with_register}
use Rattle.kind_core.specs.Tests.{passed}
use Rattle.kind_core.specs.Effects.{effect_of, effect_as, verdict}
use Rattle.kind_core.specs.Edges.{transferred}
use Rattle.cell_core.specs.declared.site.Act.TheVariants as act
use Rattle.cell_core.specs.Cells.{CellView, bit}
use Rattle.cell_core.specs.Sites.{SiteView}
use Rattle.cell_core.specs.Rows.{greatest}
use Rattle.operator_cells.specs.Making.{Grows}
use Rattle.operator_cells.specs.Rising.{Rises}
use Rattle.operator_cells.proofs.MakingLaws.{grown_with, grown_none, reads_none}
use Rattle.operator_cells.proofs.RisingLaws.{stand_none, stand_more, rises_none, rises_then}
use Rattle.operator_cells.specs.row_rules.PlaceRows.Spans.{no_place, one, pending, region, map_of, pending_of, is_in, spans_row}
use Rattle.operator_cells.specs.row_rules.PlaceRows.Reading.{is_entry, is_var, result_as, result_row}
use Rattle.operator_cells.specs.row_rules.PlaceRows.Writing.{writes_as, record_as, through}
use Rattle.operator_cells.specs.declared.held_cells.machine_cells.RegisterCells.{RegisterCells}
use Rattle.operator_cells.specs.HeldCells.RegisterCells.{PointerView, pointer_at}
use Rattle.operator_cells.specs.HeldCells.Rows.{value_row, map_used, row_before, OperatesTo}
use Rattle.operator_cells.proofs.HeldCells.RowLaws.{rise_one}
use Rattle.operator_cells.proofs.row_rules_laws.PlaceRows.SpanLaws.{no_places}
use Rattle.site_cells.specs.declared.here.Here.{Here}
use Rattle.site_cells.specs.Siting.{Accesses, ReadsNext, access_site}
use Rattle.site_cells.proofs.Allowed.{load_allowed, signed_allowed, store_allowed}
use Rattle.site_cells.proofs.Entries.{IsInPlace, place_fits}
use Rattle.site_cells.proofs.Leaving.{trans_le, pending_before, register_before}
use Rattle.site_cells.proofs.Recording.{no_write}
use Rattle.site_cells.proofs.AccessRows.{pointer_before, read_low, answer_rows, quiet_rows}

-- a place in a value has a map
pub placed_map : (decls : List MapDecl) (q : ℕ) (z : ℤ) (size : Size) → IsInPlace decls q z size → q < length decls
placed_map decls q z size p = (place_fits decls q p.place z size p (λ b e. some_inj p.place b (sym p.at ∙ e))).0

-- ---- loads
entry_result : (before : ℕ → ℕ) (k : Kinds) (i : Insn) (size : Size) (q o : ℕ) → register k i.src ≡ Entry q o
    → spans_row before (one i.src ∷ region (register k i.src) i.offset (bytes_in size) ∷ pending_of (register k i.src) ∷ no_place ∷ []) + bit (is_entry (register k i.src) || is_var (register k i.src)) ≡ spans_row before (one i.src ∷ no_place ∷ pending q ∷ no_place ∷ []) + 1
entry_result before k i size q o base = ap (λ (x : Kind). spans_row before (one i.src ∷ region x i.offset (bytes_in size) ∷ pending_of x ∷ no_place ∷ []) + bit (is_entry x || is_var x)) base

-- what is read is answered, and then a number is made of it
loaded_rows : (lo hi : ℕ) (decls : List MapDecl) (i : Insn) (here : Here) (k after : Kinds) (h : RegisterCells) (old mid new : List CellView) (ps : List PointerView) (sites sites2 : List SiteView) (size : Size) (q o a answer c width : ℕ) (p : PointerView)
    → map_used k i i.op ≡ Some q → writes_as k i i.op ≡ one i.dst ∷ no_place ∷ []
    → ((before : ℕ → ℕ) → result_row before decls k after i ≡ spans_row before (one i.src ∷ no_place ∷ pending q ∷ no_place ∷ []) + 1)
    → i.src ≤ 10 → i.dst ≤ 10 → register k i.src ≡ Entry q o → IsInPlace decls q (pos o +ℤ i.offset) size → after ≡ with_register k i.dst (Num (Between lo hi))
    → length k.registers ≡ 11 → length h.registers ≡ 11 → p ≡ pointer_at ps (slice_index h.registers i.src) → Accesses old mid sites sites2 here q (act.Load a size) p [] answer width → Grows mid new → Rises mid new c (λ row. row answer)
    → OperatesTo decls i here.pending k h after (record h { registers = slice_set h.registers i.dst c }) old new ps ps sites sites2
loaded_rows lo hi decls i here k after h old mid new ps sites sites2 size q o a answer c width p used writes result src dst base placed becomes ks hs p_is reads grows rises =
    let before : (ℕ → ℕ) → ℕ → ℕ = λ row. row_before row ps h k (map_used k i i.op) here.pending in
    let last : (ℕ → ℕ) → ℕ = λ row. result_row (before row) decls k after i in
    let low : (row : ℕ → ℕ) → greatest row (p.key ++ ([] ++ p.found ∷ []) ++ here.pending ∷ []) + 1 ≤ last row = λ row.
    let led = pointer_before row ps h k (map_used k i i.op) here.pending i.src q o p src base p_is in
    let waits = pending_before row ps h k (map_used k i i.op) (Some q) q here.pending used refl in
    let most : ℕ = spans_row (before row) (one i.src ∷ no_place ∷ pending q ∷ no_place ∷ []) in
    let all : greatest row (p.key ++ ([] ++ p.found ∷ []) ++ here.pending ∷ []) ≤ most = read_low row p [] here.pending most (omega (arith, led)) (omega arith) (omega (arith, waits)) in
    omega (arith, all, result (before row)) in
    let is : register after i.dst ≡ Num (Between lo hi) = ap (λ (x : Kinds). register x i.dst) becomes ∙ get_or-set_same k.registers i.dst (Num (Between lo hi)) Unset (omega (arith, dst, ks)) in
    answer_rows decls i here k h ps q used (placed_map decls q (pos o +ℤ i.offset) size placed) after old new sites sites2 i.dst c dst ks hs becomes is writes
    (rises_then (stand_more {last = last} stand_none reads.rises (λ row t. low row)) rises (λ row t. trans_le t.1 (low row)))
    (λ row rows. no_write (record_as decls k i i.op) old new sites sites2 (access_site here q (act.Load a size) p []) row _ reads.sites_are refl
    (grown_with (ReadsNext sites) old mid new reads.grows (reads_none (ReadsNext sites) mid new grows)).reads)

pub load_rows : (decls : List MapDecl) (i : Insn) (here : Here) (is_ref : Bool) (k : Kinds) (h : RegisterCells) (old new : List CellView) (ps : List PointerView) (sites sites2 : List SiteView) (size : Size) (q o a c width : ℕ) (p : PointerView)
    → i.op ≡ Load size → i.src ≤ 10 → i.dst ≤ 10 → register k i.src ≡ Entry q o → verdict (effect_of decls k i) ≡ passed → length k.registers ≡ 11 → length h.registers ≡ 11
    → p ≡ pointer_at ps (slice_index h.registers i.src) → Accesses old new sites sites2 here q (act.Load a size) p [] c width
    → OperatesTo decls i here.pending k h (transferred decls k i here.node is_ref false) (record h { registers = slice_set h.registers i.dst c }) old new ps ps sites sites2
load_rows decls i here is_ref k h old new ps sites sites2 size q o a c width p op src dst base allowed ks hs p_is reads =
    let f = load_allowed decls k i size q o op base allowed in
    let after : Kinds = transferred decls k i here.node is_ref false in
    loaded_rows _ _ decls i here k after h old new new ps sites sites2 size q o a c c width p (ap (map_used k i) op ∙ ap map_of base) (ap (writes_as k i) op)
    (λ before. ap (result_as before decls k after i) op ∙ entry_result before k i size q o base) src dst base f.0 (f.1 here.node is_ref false) ks hs p_is reads grown_none (rises_none c (λ row. row c) (λ row. omega arith))

pub signed_rows : (decls : List MapDecl) (i : Insn) (here : Here) (is_ref : Bool) (k : Kinds) (h : RegisterCells) (old mid new : List CellView) (ps : List PointerView) (sites sites2 : List SiteView) (size : Size) (q o a answer c width : ℕ) (p : PointerView)
    → i.op ≡ LoadSigned size → i.src ≤ 10 → i.dst ≤ 10 → register k i.src ≡ Entry q o → verdict (effect_of decls k i) ≡ passed → length k.registers ≡ 11 → length h.registers ≡ 11
    → p ≡ pointer_at ps (slice_index h.registers i.src) → Accesses old mid sites sites2 here q (act.Load a size) p [] answer width → Grows mid new → Rises mid new c (λ row. row answer)
    → OperatesTo decls i here.pending k h (transferred decls k i here.node is_ref false) (record h { registers = slice_set h.registers i.dst c }) old new ps ps sites sites2
signed_rows decls i here is_ref k h old mid new ps sites sites2 size q o a answer c width p op src dst base allowed ks hs p_is reads grows rises =
    let f = signed_allowed decls k i size q o op base allowed in
    let after : Kinds = transferred decls k i here.node is_ref false in
    loaded_rows _ _ decls i here k after h old mid new ps sites sites2 size q o a answer c width p (ap (map_used k i) op ∙ ap map_of base) (ap (writes_as k i) op)
    (λ before. ap (result_as before decls k after i) op ∙ entry_result before k i size q o base) src dst base f.0 (f.1 here.node is_ref false) ks hs p_is reads grows rises

-- ---- stores
pub store_rows : (decls : List MapDecl) (i : Insn) (here : Here) (is_ref : Bool) (k : Kinds) (h : RegisterCells) (old new : List CellView) (ps : List PointerView) (sites sites2 : List SiteView) (size : Size) (q o a source : ℕ) (p : PointerView)
    → i.op ≡ Store size → i.src ≤ 10 → i.dst ≤ 10 → register k i.dst ≡ Entry q o → verdict (effect_of decls k i) ≡ passed → p ≡ pointer_at ps (slice_index h.registers i.dst)
    → Grows old new → Rises old new source (λ row. value_row row ps (register k i.src) (slice_index h.registers i.src)) → sites2 ≡ sites ++ access_site here q (act.Store a size) p (source ∷ []) ∷ []
    → OperatesTo decls i here.pending k h (transferred decls k i here.node is_ref false) h old new ps ps sites sites2
store_rows decls i here is_ref k h old new ps sites sites2 size q o a source p op src dst base allowed p_is grows rises sites_are =
    let f = store_allowed decls k i size q o (register k i.src) (ap (effect_as decls k i) op) base allowed in
    let used : map_used k i i.op ≡ Some q = ap (map_used k i) op ∙ ap map_of base in
    let writes : writes_as k i i.op ≡ no_place ∷ no_place ∷ [] = ap (writes_as k i) op ∙ ap (λ (x : Kind). region x i.offset (bytes_in size) ∷ no_place ∷ []) base in
    quiet_rows decls i here k h ps q used (placed_map decls q (pos o +ℤ i.offset) size f.2) (transferred decls k i here.node is_ref false) old new sites sites2 (act.Store a size) p (source ∷ []) (one i.dst ∷ one i.src ∷ no_place ∷ []) (λ row. value_row row ps (register k i.src) (slice_index h.registers i.src))
    (f.3 here.node is_ref false) (λ place. ap (list_any (is_in place)) writes ∙ no_places place) (ap (record_as decls k i) op ∙ ap (λ (x : Kind). through x (one i.dst ∷ one i.src ∷ no_place ∷ [])) base) grows (rise_one rises (λ row. omega arith))
    (λ row. let low = register_before row ps h k (map_used k i i.op) here.pending i.src src in omega (arith, low))
    (λ row. let led = pointer_before row ps h k (map_used k i i.op) here.pending i.dst q o p dst base p_is in omega (arith, led)) sites_are

pub imm_rows : (decls : List MapDecl) (i : Insn) (here : Here) (is_ref : Bool) (k : Kinds) (h : RegisterCells) (old new : List CellView) (ps : List PointerView) (sites sites2 : List SiteView) (size : Size) (q o a source : ℕ) (p : PointerView)
    → i.op ≡ StoreImm size → i.dst ≤ 10 → register k i.dst ≡ Entry q o → verdict (effect_of decls k i) ≡ passed → p ≡ pointer_at ps (slice_index h.registers i.dst)
    → Grows old new → Rises old new source (λ row. 0) → sites2 ≡ sites ++ access_site here q (act.Store a size) p (source ∷ []) ∷ []
    → OperatesTo decls i here.pending k h (transferred decls k i here.node is_ref false) h old new ps ps sites sites2
imm_rows decls i here is_ref k h old new ps sites sites2 size q o a source p op dst base allowed p_is grows rises sites_are =
    let f = store_allowed decls k i size q o (Num (Known (cast_unsigned w64 i.imm))) (ap (effect_as decls k i) op) base allowed in
    let used : map_used k i i.op ≡ Some q = ap (map_used k i) op ∙ ap map_of base in
    let writes : writes_as k i i.op ≡ no_place ∷ no_place ∷ [] = ap (writes_as k i) op ∙ ap (λ (x : Kind). region x i.offset (bytes_in size) ∷ no_place ∷ []) base in
    quiet_rows decls i here k h ps q used (placed_map decls q (pos o +ℤ i.offset) size f.2) (transferred decls k i here.node is_ref false) old new sites sites2 (act.Store a size) p (source ∷ []) (one i.dst ∷ no_place ∷ no_place ∷ []) (λ row. 0)
    (f.3 here.node is_ref false) (λ place. ap (list_any (is_in place)) writes ∙ no_places place) (ap (record_as decls k i) op ∙ ap (λ (x : Kind). through x (one i.dst ∷ no_place ∷ no_place ∷ [])) base) grows (rise_one rises (λ row. omega arith))
    (λ row. omega arith)
    (λ row. let led = pointer_before row ps h k (map_used k i i.op) here.pending i.dst q o p dst base p_is in omega (arith, led)) sites_are
