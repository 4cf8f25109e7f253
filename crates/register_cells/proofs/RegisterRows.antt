-- An instruction that writes its destination: in which rows its cells stand.
use Rattle.std.proofs.Common.{◌≡◌, ◌≢◌, ℕ, ◌+◌, ◌≤◌, ℤ, max, ◌||◌, Bool, true, false, if◌then◌else◌, Ok, IfOk, List, [], ◌∷◌, length, slice_index, refl, sym, ◌∙◌, ap, subst, arith, ◌<◌}
use Rattle.std.specs.List.{list_any}
use Rattle.std.proofs.lemmas.List.{get_or-set_same}
use Rattle.cell_core.specs.bpf_isa.declared.operation.Width.{Width}
use Rattle.cell_core.specs.bpf_isa.declared.operation.AluCode.{AluCode}
use Rattle.cell_core.specs.bpf_isa.declared.operation.AluCode.TheVariants.{Add, Mov, Lsh, Rsh, Arsh}
use Rattle.cell_core.specs.bpf_isa.declared.operation.Src.{Src}
use Rattle.cell_core.specs.bpf_isa.declared.operation.Src.TheVariants.{K, X}
use Rattle.cell_core.specs.bpf_isa.declared.operation.Op.{Op}
use Rattle.cell_core.specs.bpf_isa.declared.operation.Op.TheVariants.{Alu, Neg, End, Swap, LoadImm, Load, LoadSigned}
use Rattle.cell_core.specs.bpf_isa.declared.operation.Size.{Size}
use Rattle.cell_core.specs.bpf_isa.declared.instruction.Insn.{Insn}
use Rattle.cell_core.specs.xdp_maps.declared.decl.MapDecl.{MapDecl}
use Rattle.kind_core.specs.declared.kind.Kind.{Kind}
use Rattle.kind_core.specs.declared.kind.Kind.TheVariants.{Unset, Num}
use Rattle.kind_core.specs.declared.number.Number.{Number}
use Rattle.kind_core.specs.declared.kind.Offsets.TheVariants.{Fixed}
use Rattle.kind_core.specs.declared.kind.Kinds.{Kinds}
use Rattle.kind_core.specs.Kinds.{register, with_register}
use Rattle.kind_core.specs.Pointers.{combined}
use Rattle.kind_core.specs.Profile.{writes_destination}
use Rattle.kind_core.specs.Tests.{◌>>=◌, passed, number_in}
use Rattle.kind_core.specs.Effects.{operand, renumbered, effect_of, verdict}
use Rattle.kind_core.specs.Edges as edges
use Rattle.kind_core.specs.Edges.{transferred}
use Rattle.cell_core.specs.Cells.{CellView, bit}
use Rattle.operator_cells.specs.row_rules.PlaceRows.Spans.{no_place, one, is_in, span_row}
use Rattle.operator_cells.specs.row_rules.PlaceRows.Origins.{is_open, open_row, has_data, data_by}
use Rattle.operator_cells.specs.row_rules.PlaceRows.Reading.{right_of, is_number, arithmetic_is_heavy, result_as, result_row}
use Rattle.operator_cells.specs.row_rules.PlaceRows.Writing.{writes_as, is_open_in, made_row}
use Rattle.operator_cells.specs.row_rules.declared.place_rows.location.Location.TheVariants as location
use Rattle.operator_cells.proofs.row_rules_laws.PlaceRows.LocationLaws.{at_number}
use Rattle.operator_cells.proofs.row_rules_laws.PlaceRows.SpanLaws.{in_one, in_none, is_inside, one_number, one_row}
use Rattle.operator_cells.specs.declared.held_cells.machine_cells.RegisterCells.{RegisterCells}
use Rattle.operator_cells.specs.HeldCells.RegisterCells.{PointerView}
use Rattle.operator_cells.specs.HeldCells.Rows.{number_row, value_row, held_row, LeavesTo, CarriesTo}
use Rattle.operator_cells.proofs.HeldCells.RowLaws.{grows_by, put_register, register_row, register_changed, register_kept, number_kept}
use Rattle.register_cells.specs.Giving.{given_kind}
use Rattle.register_cells.specs.Combining.{is_late, combined_row}
use Rattle.register_cells.specs.Rows.{ValueTo}
use Rattle.register_cells.proofs.Carrying.{kind_is}
use Rattle.register_cells.proofs.Growing.{ok_map}
use Rattle.register_cells.proofs.Known.{only_constant}
use Rattle.register_cells.proofs.ValueLaws.{same_most, zero_most, value_by, value_none, ok_at}

-- ---- what is read
module _ (row : ℕ → ℕ) (ps : List PointerView) (h : RegisterCells) (k : Kinds) where
  one_register : (r : ℕ) → r ≤ 10 → span_row (held_row row ps h k) (one r) ≡ value_row row ps (register k r) (slice_index h.registers r)
  one_register r l = one_row (held_row row ps h k) r ∙ register_row row ps h k r (omega (arith, l))

  right_row : (i : Insn) (s : Src) → i.src ≤ 10 → span_row (held_row row ps h k) (right_of i s) ≡ value_row row ps (operand k i s) (slice_index h.registers i.src)
  right_row i K l = refl
  right_row i X l = one_register i.src l

either_above : (a b : Bool) → bit a ≤ bit (a || b)
either_above true b = same_most
either_above false b = zero_most

heavy_above : (k after : Kinds) (i : Insn) (code : AluCode) (s : Src) → bit (is_late code (operand k i s) (register after i.dst)) ≤ bit (arithmetic_is_heavy k after i code s)
heavy_above k after i Add s = either_above (is_number (register after i.dst)) _
heavy_above k after i Lsh K = same_most
heavy_above k after i Lsh X = same_most
heavy_above k after i Rsh K = same_most
heavy_above k after i Rsh X = same_most
heavy_above k after i Arsh K = same_most
heavy_above k after i Arsh X = same_most
heavy_above k after i code s = same_most

sum_most : {a b l r late heavy : ℕ} → a ≡ l → b ≡ r → late ≤ heavy → max l r + late ≤ max a (max b (max 0 (max 0 0))) + heavy
sum_most e f g = omega (arith, e, f, g)

move_most : {b r : ℕ} → b ≡ r → r ≤ max 0 (max b (max 0 (max 0 0))) + 0
move_most f = omega (arith, f)

one_most : {a l : ℕ} (n : ℕ) → a ≡ l → l + n ≤ max a (max 0 (max 0 (max 0 0))) + n
one_most n e = omega (arith, e)

light_most : {a l : ℕ} → a ≡ l → l ≤ max a (max 0 (max 0 (max 0 0))) + 0
light_most e = omega (arith, e)

-- the row of a result of arithmetic
module _ (ps : List PointerView) (h : RegisterCells) (k : Kinds) (decls : List MapDecl) (after : Kinds) (i : Insn) (w : Width) (s : Src) (dst : i.dst ≤ 10) (src : i.src ≤ 10) where
  combined_most : (row : ℕ → ℕ) (code : AluCode) (x : Kind) → register after i.dst ≡ x
      → combined_row code (operand k i s) x (value_row row ps (register k i.dst) (slice_index h.registers i.dst)) (value_row row ps (operand k i s) (slice_index h.registers i.src)) ≤ result_as (held_row row ps h k) decls k after i (Alu w code s)
  combined_most row Mov x is = move_most (right_row row ps h k i s src)
  combined_most row code x is = sum_most (one_register row ps h k i.dst dst) (right_row row ps h k i s src) (subst (λ (y : Kind). bit (is_late code (operand k i s) y) ≤ bit (arithmetic_is_heavy k after i code s)) is (heavy_above k after i code s))

  pub combine_to : (old new : List CellView) (code : AluCode) (c : ℕ) (z : ℤ) (b : Kind) → z ≡ i.offset → b ≡ operand k i s
      → IfOk (combined decls w code z s (register k i.dst) b) (λ x. ValueTo old new ps x c (λ row. combined_row code b x (value_row row ps (register k i.dst) (slice_index h.registers i.dst)) (value_row row ps b (slice_index h.registers i.src))))
      → IfOk (combined decls w code i.offset s (register k i.dst) (operand k i s)) (λ x. register after i.dst ≡ x → ValueTo old new ps x c (λ row. result_as (held_row row ps h k) decls k after i (Alu w code s)))
  combine_to old new code c z b at is rows =
      let same = rw (at, is) at rows in
      ok_map (combined decls w code i.offset s (register k i.dst) (operand k i s)) _ (λ x. register after i.dst ≡ x → ValueTo old new ps x c (λ row. result_as (held_row row ps h k) decls k after i (Alu w code s)))
      (λ x v e. value_by v (λ row. combined_most row code x e)) same

-- a number in the destination that is changed
pub renumbered_to : {old new : List CellView} (ps : List PointerView) (h : RegisterCells) (k : Kinds) (i : Insn) (f : Number → Number) (n : Number) (c : ℕ) (g : ℕ → ℕ) → i.dst ≤ 10 → register k i.dst ≡ Num n
    → ValueTo old new ps (Num (f n)) c (λ row. g (number_row row n (slice_index h.registers i.dst))) → IfOk (renumbered k i f) (λ x. ValueTo old new ps x c (λ row. g (held_row row ps h k i.dst)))
renumbered_to {old} {new} ps h k i f n c g dst is v =
    subst (λ (y : Kind). IfOk (number_in y >>= λ m. Ok (Num (f m))) (λ x. ValueTo old new ps x c (λ row. g (held_row row ps h k i.dst)))) (sym is)
    (value_by v (λ row. least (ap g (register_row row ps h k i.dst (omega (arith, dst)) ∙ ap (λ (y : Kind). value_row row ps y (slice_index h.registers i.dst)) is))))
  where
    least : {a b : ℕ} → a ≡ b → b ≤ a
    least e = omega (arith, e)

-- ---- what an instruction that is no load gives, by its operation
module _ (old new : List CellView) (ps : List PointerView) (h : RegisterCells) (k : Kinds) (decls : List MapDecl) (is_ref : Bool) (after : Kinds) (i : Insn) (c : ℕ) where
  abbrev pub GivesAs : Op → Type 0
  GivesAs op = IfOk (given_kind is_ref decls k i op) (λ x. register after i.dst ≡ x → ValueTo old new ps x c (λ row. result_as (held_row row ps h k) decls k after i op))

  pub give_to : (op known : Op) → op ≡ known → GivesAs known → GivesAs op
  give_to op known e gives = subst GivesAs (sym e) gives

  pub load_to : (op known : Op) → op ≡ known → IfOk (given_kind is_ref decls k i known) (λ x. ValueTo old new ps x c (λ row. result_as (held_row row ps h k) decls k after i known)) → GivesAs op
  load_to op known e rows = give_to op known e (ok_map (given_kind is_ref decls k i known) _ (λ x. register after i.dst ≡ x → ValueTo old new ps x c (λ row. result_as (held_row row ps h k) decls k after i known)) (λ x v is. v) rows)

  -- of the destination alone, one row later or in its row
  pub give_later : (w : Width) → IfOk (given_kind is_ref decls k i (Neg w)) (λ x. ValueTo old new ps x c (λ row. held_row row ps h k i.dst + 1)) → GivesAs (Neg w)
  give_later w rows = ok_map (given_kind is_ref decls k i (Neg w)) _ (λ x. register after i.dst ≡ x → ValueTo old new ps x c (λ row. result_as (held_row row ps h k) decls k after i (Neg w)))
      (λ x v e. value_by v (λ row. one_most 1 (one_row (held_row row ps h k) i.dst))) rows

  pub give_end : (s : Src) → IfOk (given_kind is_ref decls k i (End s)) (λ x. ValueTo old new ps x c (λ row. held_row row ps h k i.dst)) → GivesAs (End s)
  give_end s rows = ok_map (given_kind is_ref decls k i (End s)) _ (λ x. register after i.dst ≡ x → ValueTo old new ps x c (λ row. result_as (held_row row ps h k) decls k after i (End s)))
      (λ x v e. value_by v (λ row. light_most (one_row (held_row row ps h k) i.dst))) rows

  pub give_swap : IfOk (given_kind is_ref decls k i Swap) (λ x. ValueTo old new ps x c (λ row. held_row row ps h k i.dst)) → GivesAs Swap
  give_swap rows = ok_map (given_kind is_ref decls k i Swap) _ (λ x. register after i.dst ≡ x → ValueTo old new ps x c (λ row. result_as (held_row row ps h k) decls k after i Swap))
      (λ x v e. value_by v (λ row. light_most (one_row (held_row row ps h k) i.dst))) rows

-- a constant is known, and has no cell
constant_row : (row : ℕ → ℕ) (ps : List PointerView) (is_ref : Bool) (z : ℤ) (c n : ℕ) → value_row row ps (edges.constant is_ref z) c ≤ n
constant_row row ps true z c n = zero_most
constant_row row ps false z c n = zero_most

pub give_nothing : (old : List CellView) (ps : List PointerView) (h : RegisterCells) (k : Kinds) (decls : List MapDecl) (is_ref : Bool) (after : Kinds) (i : Insn) (c : ℕ) (op : Op)
    → ((w : Width) (code : AluCode) (s : Src) → op ≢ Alu w code s) → ((w : Width) → op ≢ Neg w) → ((s : Src) → op ≢ End s) → op ≢ Swap → ((size : Size) → (op ≢ Load size) × (op ≢ LoadSigned size))
    → GivesAs old old ps h k decls is_ref after i c op
give_nothing old ps h k decls is_ref after i c op a b d e f =
    only_constant decls is_ref k i (λ o x. register after i.dst ≡ x → ValueTo old old ps x c (λ row. result_as (held_row row ps h k) decls k after i o)) op a b d e f
    (λ is. value_none ps (edges.constant is_ref i.imm) c _ (λ row. constant_row row ps is_ref i.imm c _))

-- ---- a destination that is given a value
writes_are : (k : Kinds) (i : Insn) (op : Op) → writes_destination op ≡ true → writes_as k i op ≡ one i.dst ∷ no_place ∷ []
writes_are k i (Alu w c s) t = refl
writes_are k i (Neg w) t = refl
writes_are k i (End s) t = refl
writes_are k i Swap t = refl
writes_are k i LoadImm t = refl
writes_are k i (Load size) t = refl
writes_are k i (LoadSigned size) t = refl
writes_are k i op t = absurd (cc)

-- the places that are written
none_in : (b : Bool) → b ≡ false → (false || (b || false)) ≡ true → ⊥
none_in true e f = absurd (cc)
none_in false e f = absurd (cc)

some_in : (a b : Bool) → a ≡ true → (a || b) ≡ false → ⊥
some_in true b e f = absurd (cc)
some_in false b e f = absurd (cc)

in_first : (place d : ℕ) → list_any (is_in place) (one d ∷ no_place ∷ []) ≡ true → place ≡ d
in_first place d h = by (is_in place (one d)) refl h
  where
    by : (b : Bool) → is_in place (one d) ≡ b → (b || (is_in place no_place || false)) ≡ true → place ≡ d
    by true e f = in_one place d e
    by false e f = absurd (none_in (is_in place no_place) (in_none place) f)

pub not_first : (place d : ℕ) (b : Bool) → (is_in place (one d) || b) ≡ false → place ≢ d
not_first place d b h e = some_in (is_in place (one d)) b (is_inside place (one d) (omega (arith, e)) (omega (arith, e))) h

-- and whether there is data in them
pub open_first : (k : Kinds) (d : ℕ) (x : Kind) (b : Bool) → d ≤ 10 → register k d ≡ x → is_open x ≡ true → (is_open_in k (one d) || b) ≡ true
open_first k d x b l e o =
    let small : d < 11 = omega (arith, l) in
    let has : has_data k d ≡ is_open (register k d) = ap (data_by k) (at_number (location.Register d) small) in
    let first : list_any (has_data k) (d ∷ []) ≡ true = ap (λ t. t || false) (has ∙ ap is_open e ∙ o) in
    ap (λ t. t || b) (ap (list_any (has_data k)) (one_number d) ∙ first)

pub made_most : (x : Kind) (r n : ℕ) (b : Bool) → (is_open x ≡ true → b ≡ true) → open_row x r ≤ max (if b then r else 0) n
made_most x r n b h = by (is_open x) h
  where
    by : (t : Bool) → (t ≡ true → b ≡ true) → (if t then r else 0) ≤ max (if b then r else 0) n
    by true g = rw (g refl) (omega arith)
    by false g = omega arith

pub below : {a b n : ℕ} → a ≡ b → b ≤ n → a ≤ n
below e l = omega (arith, e, l)

leaves_register : {old new : List CellView} {made result : (ℕ → ℕ) → ℕ} (ps : List PointerView) (k : Kinds) (h : RegisterCells) (x : Kind) (d c : ℕ) → d ≤ 10 → length k.registers ≡ 11 → length h.registers ≡ 11
    → ValueTo old new ps x c result → ((row : ℕ → ℕ) → open_row x (result row) ≤ made row)
    → LeavesTo (λ row. held_row row ps h k) ps h (with_register k d x) (put_register h d c) old new (one d ∷ no_place ∷ []) made result
leaves_register {result = result} ps k h x d c l ks hs v most = record {
  grows = grows_by v.grows most;
  written = λ row rows place at. subst (λ (p : ℕ). held_row row ps (put_register h d c) (with_register k d x) p ≤ result row) (sym (in_first place d at))
      (below (register_changed row ps h k x d c (omega (arith, l)) ks hs) (v.value row rows));
  kept = λ row rows place at. below (register_kept row ps h k x d c place (not_first place d _ at)) same_most;
  same = λ place within at. number_kept h d c place (not_first place d _ at);
}

pub carried_to : (old new : List CellView) (decls : List MapDecl) (ps : List PointerView) (i : Insn) (node : ℕ) (is_ref : Bool) (k : Kinds) (h : RegisterCells) (c : ℕ)
    → k.offsets ≡ Fixed → writes_destination i.op ≡ true → i.dst ≤ 10 → length k.registers ≡ 11 → length h.registers ≡ 11 → verdict (effect_of decls k i) ≡ passed
    → ((after : Kinds) → GivesAs old new ps h k decls is_ref after i c i.op)
    → CarriesTo decls (λ row. held_row row ps h k) ps i k h (transferred decls k i node is_ref false) (put_register h i.dst c) old new
carried_to old new decls ps i node is_ref k h c fixed writes dst ks hs allowed gives =
    let x = kind_is is_ref decls k i node fixed writes allowed in
    let after : Kinds = with_register k i.dst x.0 in
    let is : register after i.dst ≡ x.0 = get_or-set_same k.registers i.dst x.0 Unset (omega (arith, dst, ks)) in
    let result : (ℕ → ℕ) → ℕ = λ row. result_row (held_row row ps h k) decls k after i in
    let made : (ℕ → ℕ) → ℕ = λ row. made_row (held_row row ps h k) decls k after i in
    let value : ValueTo old new ps x.0 c result = ok_at (given_kind is_ref decls k i i.op) (λ y. register after i.dst ≡ y → ValueTo old new ps y c result) x.0 x.1 (gives after) is in
    let leaves = leaves_register {made = made} ps k h x.0 i.dst c dst ks hs value
    (λ row. made_most x.0 (result row) _ _ (λ o. ap (list_any (is_open_in after)) (writes_are k i i.op writes) ∙ open_first after i.dst x.0 _ dst is o)) in
    rw x.2 (subst (λ ss. LeavesTo (λ row. held_row row ps h k) ps h after (put_register h i.dst c) old new ss made result) (sym (writes_are k i i.op writes)) leaves)
