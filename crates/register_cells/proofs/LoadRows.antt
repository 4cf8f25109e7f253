-- Rows of what is loaded.
use Rattle.std.proofs.Common.{◌≡◌, ◌≢◌, ◌∙◌, ℕ, suc, ◌+◌, ◌*◌, ◌/◌, ◌%◌, ◌<◌, ◌≤◌, ℤ, pos, ◌+ℤ◌, unsigned_abs, ◌||◌, true, false, Some, Result, Ok, IfOk, List, [], ◌∷◌, length, get_or, slice_index, slice_range, max, refl, sym, ap, subst, arith}
use Rattle.cell_core.specs.bpf_isa.declared.operation.Size.{Size}
use Rattle.cell_core.specs.bpf_isa.declared.operation.Size.TheVariants.{B, H, W, Dw}
use Rattle.cell_core.specs.bpf_isa.declared.operation.Width.TheVariants.{Bits64}
use Rattle.cell_core.specs.bpf_isa.declared.operation.Op.TheVariants.{Load, LoadSigned}
use Rattle.cell_core.specs.bpf_isa.declared.instruction.Insn.{Insn}
use Rattle.cell_core.specs.xdp_maps.declared.decl.MapDecl.{MapDecl}
use Rattle.byteorder.specs.Endian.{little_bytes}
use Rattle.cell_core.specs.xdp_machine.Memory.{bytes_in, number_at, inside}
use Rattle.cell_core.specs.xdp_machine.Memory as machine
use Rattle.kind_core.specs.declared.number.Number.{Number}
use Rattle.kind_core.specs.declared.number.Number.TheVariants.{Known, Between}
use Rattle.kind_core.specs.declared.kind.Kind.{Kind}
use Rattle.kind_core.specs.declared.kind.Kind.TheVariants.{Unset, Num, Packet, Stack, Ctx}
use Rattle.kind_core.specs.declared.kind.Kinds.{Kinds}
use Rattle.xdp_state.specs.declared.refusal.Why.{Why}
use Rattle.kind_core.specs.Kinds.{register}
use Rattle.kind_core.specs.Numbers.{any_bytes, number_part, number_extended}
use Rattle.kind_core.specs.Tests.{◌>>=◌}
use Rattle.kind_core.specs.Tests as tests
use Rattle.kind_core.specs.Places as places
use Rattle.kind_core.specs.Access as kind
use Rattle.kind_core.proofs.TestLaws.{bind_ok, bind_all, bind_passed}
use Rattle.cell_core.specs.Cells.{CellView, bit}
use Rattle.cell_core.specs.Rows.{greatest}
use Rattle.operator_cells.specs.Rising.{Rises, RiseAll}
use Rattle.operator_cells.proofs.RisingLaws.{Stand, stand_all, rises_then}
use Rattle.operator_cells.specs.row_rules.PlaceRows.Spans.{no_place, one, region, slots_of, bytes_of, pending_of, is_in, span_row, spans_row}
use Rattle.operator_cells.specs.row_rules.PlaceRows.Reading.{is_entry, is_var, result_as}
use Rattle.operator_cells.specs.row_rules.PlaceRows.Locations.{first_slot, first_byte}
use Rattle.operator_cells.proofs.row_rules_laws.PlaceRows.SpanLaws.{is_inside, span_above}
use Rattle.operator_cells.specs.declared.held_cells.machine_cells.RegisterCells.{RegisterCells}
use Rattle.operator_cells.specs.HeldCells.RegisterCells.{PointerView, number_of}
use Rattle.operator_cells.specs.HeldCells.Rows.{number_row, value_row, held_row}
use Rattle.operator_cells.proofs.HeldCells.RowLaws.{slot_row, byte_row}
use Rattle.register_cells.specs.Reading.{Yields, Finds}
use Rattle.register_cells.specs.Rows.{ValueTo}
use Rattle.register_cells.proofs.Yielding.{yields_one}
use Rattle.register_cells.proofs.ValueLaws.{same_most, value_by, value_risen}
use Rattle.register_cells.proofs.Growing.{ok_map}
use Rattle.register_cells.proofs.Loads.{aligned_is, inside_is, in_packet_all, range_at, range_length, some_bytes}
use Rattle.register_cells.proofs.Signed.{number_there}

-- ---- values that new cells make

-- a copy of a number
pub value_copied : (ps : List PointerView) (old new : List CellView) (x : Kind) (lo hi p c : ℕ) → x ≡ Num (Between lo hi) → Rises old new c (λ row. row p) → ValueTo old new ps x c (λ row. value_row row ps x p)
value_copied ps old new x lo hi p c e r = subst (λ (k : Kind). ValueTo old new ps k c (λ row. value_row row ps k p)) (sym e) (value_risen ps r (λ row. omega arith))

-- a number that is computed from one in a cell
pub from_one_to : {old mid new : List CellView} {ps : List PointerView} {p c : ℕ} {F : (ℕ → ℕ) → ℕ} (size : Size) (n : Number) → ValueTo old mid ps (Num n) p F → ValueTo mid new ps (Num (number_extended Bits64 (8 * bytes_in size) n)) c (λ row. number_row row n p)
    → ValueTo old new ps (Num (number_extended Bits64 (8 * bytes_in size) n)) c F
from_one_to {old} {mid} {new} {ps} {p} {c} {F} size (Between lo hi) v w =
    let s : Stand old mid (λ row. number_row row (Between lo hi) p ≤ F row) F = record { grows = v.grows; known = v.value } in
    let r : Rises mid new c (λ row. number_row row (Between lo hi) p) = record { grows = w.grows; result = λ row rows. omega (arith, w.value row rows) } in
    value_risen {f = F} ps (rises_then s r (λ row h. h)) (λ row. same_most)
from_one_to {old} {mid} {new} {ps} {p} {c} {F} size (Known a) v w =
    let s : Stand old mid (λ row. Unit {0}) (λ row. 0) = record { grows = v.grows; known = λ row rows. tt } in
    let r : RiseAll mid new [] (λ row. 0) = record { grows = w.grows; results = λ row rows. omega arith } in
    record { grows = (stand_all s r (λ row h. omega arith)).grows; value = λ row rows. omega arith }

-- ---- places

pub le_by : {a b c : ℕ} → a ≡ b → b ≤ c → a ≤ c
le_by {c = c} e h = subst (λ (n : ℕ). n ≤ c) (sym e) h

-- the slot that an access lies in
pub slot_in : (o offset : ℤ) (size : Size) (at : ℕ) → machine.in_stack (o +ℤ offset) (bytes_in size) ≡ Some at → is_in (first_slot + at / 8) (region (Stack o) offset (bytes_in size)) ≡ true
slot_in o offset size at e =
    subst (λ (z : ℤ). is_in (first_slot + at / 8) (slots_of (unsigned_abs z) (bytes_in size)) ≡ true) (sym (aligned_is (o +ℤ offset +ℤ pos 512) (bytes_in size) 512 at e).0)
    (is_inside (first_slot + at / 8) (slots_of at (bytes_in size)) (omega arith) (omega (arith, some_bytes size)))

pub slot_above : (ps : List PointerView) (h : RegisterCells) (k : Kinds) (o offset : ℤ) (size : Size) (at : ℕ) → at < 512 → machine.in_stack (o +ℤ offset) (bytes_in size) ≡ Some at → (row : ℕ → ℕ)
    → value_row row ps (get_or k.slots (at / 8) Unset) (slice_index h.slots (at / 8)) ≤ span_row (held_row row ps h k) (region (Stack o) offset (bytes_in size))
slot_above ps h k o offset size at within e row =
    let low : at / 8 < 64 = omega (arith, within) in
    le_by (sym (slot_row row ps h k (at / 8) low)) (span_above (held_row row ps h k) (region (Stack o) offset (bytes_in size)) (first_slot + at / 8) (slot_in o offset size at e))

-- bytes of the packet
greatest_each : (row : ℕ → ℕ) (xs : List ℕ) (most : ℕ) → ((j : ℕ) → j < length xs → row (slice_index xs j) ≤ most) → greatest row xs ≤ most
greatest_each row [] most h = omega arith
greatest_each row (x ∷ xs) most h = omega (arith, h 0 (omega arith), greatest_each row xs most (λ j l. h (suc j) (omega (arith, l))))

bytes_above : (row : ℕ → ℕ) (ps : List PointerView) (h : RegisterCells) (k : Kinds) (at n : ℕ) (bs : List ℕ) → length h.window ≡ 256 → at + n ≤ 256 → bs ≡ slice_range h.window at (at + n) → greatest row bs ≤ span_row (held_row row ps h k) (bytes_of at n)
bytes_above row ps h k at n bs whole fits named = greatest_each row bs _ (λ j l.
    let long : length bs ≡ n = ap length named ∙ range_length h.window at n (omega (arith, fits, whole)) in
    let below : j < n = omega (arith, l, long) in
    let is_byte : slice_index bs j ≡ slice_index h.window (at + j) = ap (λ xs. slice_index xs j) named ∙ range_at h.window at n j below in
    le_by (ap row is_byte ∙ sym (byte_row row ps h k (at + j) (omega (arith, below, fits))))
    (span_above (held_row row ps h k) (bytes_of at n) (first_byte + (at + j)) (is_inside (first_byte + (at + j)) (bytes_of at n) (omega arith) (omega (arith, below)))))

pub window_above : (ps : List PointerView) (h : RegisterCells) (k : Kinds) (o : ℕ) (offset : ℤ) (size : Size) (at : ℕ) (bs : List ℕ) → length h.window ≡ 256 → inside (pos o +ℤ offset) (bytes_in size) 256 ≡ Some at → at + bytes_in size ≤ 256
    → bs ≡ slice_range h.window at (at + bytes_in size) → (row : ℕ → ℕ) → greatest row bs ≤ span_row (held_row row ps h k) (region (Packet o) offset (bytes_in size))
window_above ps h k o offset size at bs whole e fits named row =
    subst (λ (z : ℤ). greatest row bs ≤ span_row (held_row row ps h k) (bytes_of (unsigned_abs z) (bytes_in size))) (sym (inside_is (pos o +ℤ offset) (bytes_in size) 256 at e))
    (bytes_above row ps h k at (bytes_in size) bs whole fits named)

-- ---- what is found there

-- a part of a number in a slot
pub part_yields : (decls : List MapDecl) (ps : List PointerView) (old new : List CellView) (size : Size) (at : ℕ) (n : Number) (p c : ℕ) → size ≢ Dw
    → Finds old new (number_part size at n) c (λ packet v. number_at size at (little_bytes 8 (number_of v n p)))
    → IfOk (kind.from_slot size at (Num n)) (λ x. Yields decls ps (Num n) p (Num n) p old new x c (λ s t. machine.from_slot size at t))
part_yields decls ps old new Dw at n p c other found = absurd (other refl)
part_yields decls ps old new B at n p c other found = yields_one (8 * bytes_in B) (8 * bytes_in B) (λ m. number_at B at (little_bytes 8 m)) (λ m. number_at B at (little_bytes 8 m)) (λ s t. machine.from_slot B at t) decls ps old new (Num n) p n p c (λ s m h. refl) found
part_yields decls ps old new H at n p c other found = yields_one (8 * bytes_in H) (8 * bytes_in H) (λ m. number_at H at (little_bytes 8 m)) (λ m. number_at H at (little_bytes 8 m)) (λ s t. machine.from_slot H at t) decls ps old new (Num n) p n p c (λ s m h. refl) found
part_yields decls ps old new W at n p c other found = yields_one (8 * bytes_in W) (8 * bytes_in W) (λ m. number_at W at (little_bytes 8 m)) (λ m. number_at W at (little_bytes 8 m)) (λ s t. machine.from_slot W at t) decls ps old new (Num n) p n p c (λ s m h. refl) found

pub part_rows : (ps : List PointerView) (old new : List CellView) (size : Size) (at : ℕ) (n : Number) (c : ℕ) (last : (ℕ → ℕ) → ℕ) → size ≢ Dw → ValueTo old new ps (Num (number_part size at n)) c last
    → IfOk (kind.from_slot size at (Num n)) (λ x. ValueTo old new ps x c last)
part_rows ps old new Dw at n c last other v = absurd (other refl)
part_rows ps old new B at n c last other v = v
part_rows ps old new H at n c last other v = v
part_rows ps old new W at n c last other v = v

stack_is : (decls : List MapDecl) (k : Kinds) (o offset : ℤ) (size : Size) (at : ℕ) → machine.in_stack (o +ℤ offset) (bytes_in size) ≡ Some at
    → kind.loaded decls k (Stack o) offset size ≡ (tests.readable (get_or k.slots (at / 8) Unset) >>= (λ u. kind.from_slot size (at % 8) (get_or k.slots (at / 8) Unset)))
unfolding kind.loaded
stack_is decls k o offset size at e = let z = aligned_is (o +ℤ offset +ℤ pos 512) (bytes_in size) 512 at e in rw (z.0, z.1, z.2) refl

pub stack_loaded : (decls : List MapDecl) (k : Kinds) (o offset : ℤ) (size : Size) (at : ℕ) (P : Kind → Type 0) → machine.in_stack (o +ℤ offset) (bytes_in size) ≡ Some at
    → IfOk (kind.from_slot size (at % 8) (get_or k.slots (at / 8) Unset)) P → IfOk (kind.loaded decls k (Stack o) offset size) P
stack_loaded decls k o offset size at P e found =
    let kd : Kind = get_or k.slots (at / 8) Unset in
    subst (λ r. IfOk r P) (sym (stack_is decls k o offset size at e)) (bind_all (tests.readable kd) (λ u. kind.from_slot size (at % 8) kd) P (λ u. found))

pub stack_to : (decls : List MapDecl) (ps : List PointerView) (k : Kinds) (h : RegisterCells) (old new : List CellView) (o offset : ℤ) (size : Size) (at c : ℕ) → at < 512 → machine.in_stack (o +ℤ offset) (bytes_in size) ≡ Some at
    → IfOk (kind.from_slot size (at % 8) (get_or k.slots (at / 8) Unset)) (λ x. ValueTo old new ps x c (λ row. value_row row ps (get_or k.slots (at / 8) Unset) (slice_index h.slots (at / 8))))
    → IfOk (kind.loaded decls k (Stack o) offset size) (λ x. ValueTo old new ps x c (λ row. span_row (held_row row ps h k) (region (Stack o) offset (bytes_in size))))
stack_to decls ps k h old new o offset size at c within e found =
    stack_loaded decls k o offset size at _ e (ok_map (kind.from_slot size (at % 8) (get_or k.slots (at / 8) Unset)) _ _ (λ x v. value_by v (slot_above ps h k o offset size at within e)) found)

pub packet_to : (decls : List MapDecl) (ps : List PointerView) (k : Kinds) (h : RegisterCells) (old new : List CellView) (o : ℕ) (offset : ℤ) (size : Size) (at c : ℕ) (bs : List ℕ)
    → length h.window ≡ 256 → inside (pos o +ℤ offset) (bytes_in size) 256 ≡ Some at → at + bytes_in size ≤ 256 → bs ≡ slice_range h.window at (at + bytes_in size) → Rises old new c (λ row. greatest row bs)
    → IfOk (kind.loaded decls k (Packet o) offset size) (λ x. ValueTo old new ps x c (λ row. span_row (held_row row ps h k) (region (Packet o) offset (bytes_in size))))
unfolding kind.loaded
packet_to decls ps k h old new o offset size at c bs whole e fits named r =
    let P : Kind → Type 0 = λ x. ValueTo old new ps x c (λ row. span_row (held_row row ps h k) (region (Packet o) offset (bytes_in size))) in
    subst (λ (y : ℤ). IfOk (places.in_packet k.checked y (bytes_in size) >>= (λ place. kind.found k.slots size place)) P) (sym (inside_is (pos o +ℤ offset) (bytes_in size) 256 at e))
    (in_packet_all P k.slots size k.checked at (value_risen ps r (window_above ps h k o offset size at bs whole e fits named)))

-- ---- MEM and MEMSX

load_above : (row : ℕ → ℕ) (decls : List MapDecl) (k after : Kinds) (i : Insn) (size : Size) → span_row row (region (register k i.src) i.offset (bytes_in size)) ≤ result_as row decls k after i (Load size)
load_above row decls k after i size = by (span_row row (one i.src)) (span_row row (region (register k i.src) i.offset (bytes_in size))) (span_row row (pending_of (register k i.src))) (spans_row row (no_place ∷ [])) (bit (is_entry (register k i.src) || is_var (register k i.src)))
  where
    by : (a b c d e : ℕ) → b ≤ max a (max b (max c d)) + e
    by a b c d e = omega arith

-- what is found through the source stands by what the instruction reads
read_to : (f : Kind → ℤ → Result Kind Why) (ps : List PointerView) (k : Kinds) (h : RegisterCells) (i : Insn) (old new : List CellView) (base : Kind) (size : Size) (c : ℕ) (last : (ℕ → ℕ) → ℕ) {z : ℤ} → register k i.src ≡ base → z ≡ i.offset
    → ((row : ℕ → ℕ) → span_row (held_row row ps h k) (region (register k i.src) i.offset (bytes_in size)) ≤ last row)
    → IfOk (f base z) (λ x. ValueTo old new ps x c (λ row. span_row (held_row row ps h k) (region base z (bytes_in size)))) → IfOk (f (register k i.src) i.offset) (λ x. ValueTo old new ps x c last)
read_to f ps k h i old new base size c last {z} e at above found =
    ok_map (f (register k i.src) i.offset) _ _ (λ x v. value_by v above)
    (subst (λ (b : Kind). IfOk (f b i.offset) (λ x. ValueTo old new ps x c (λ row. span_row (held_row row ps h k) (region b i.offset (bytes_in size))))) (sym e)
    (subst (λ (y : ℤ). IfOk (f base y) (λ x. ValueTo old new ps x c (λ row. span_row (held_row row ps h k) (region base y (bytes_in size))))) at found))

pub plain_loaded : (decls : List MapDecl) (k : Kinds) (base : Kind) (z : ℤ) (size : Size) (P : Kind → Type 0) → kind.is_context base ≡ false → IfOk (kind.loaded decls k base z size) P → IfOk (kind.loaded_plain decls k base z size) P
unfolding kind.loaded_plain
plain_loaded decls k base z size P e h = rw e h

pub context_loaded : (decls : List MapDecl) (k : Kinds) (z : ℤ) (size : Size) (P : Kind → Type 0) → IfOk (kind.from_context z size) P → IfOk (kind.loaded_plain decls k Ctx z size) P
unfolding kind.loaded_plain
context_loaded decls k z size P h = h

pub load_to : (decls : List MapDecl) (ps : List PointerView) (k after : Kinds) (h : RegisterCells) (i : Insn) (old new : List CellView) (base : Kind) (size : Size) (c : ℕ) {z : ℤ} → kind.is_context base ≡ false → register k i.src ≡ base → z ≡ i.offset
    → IfOk (kind.loaded decls k base z size) (λ x. ValueTo old new ps x c (λ row. span_row (held_row row ps h k) (region base z (bytes_in size))))
    → IfOk (kind.loaded_plain decls k (register k i.src) i.offset size) (λ x. ValueTo old new ps x c (λ row. result_as (held_row row ps h k) decls k after i (Load size)))
load_to decls ps k after h i old new base size c {z} plain e at found =
    read_to (λ b y. kind.loaded_plain decls k b y size) ps k h i old new base size c _ e at (λ row. load_above (held_row row ps h k) decls k after i size) (plain_loaded decls k base z size _ plain found)

pub load_context_to : (decls : List MapDecl) (ps : List PointerView) (k after : Kinds) (h : RegisterCells) (i : Insn) (old new : List CellView) (size : Size) (c : ℕ) {z : ℤ} → register k i.src ≡ Ctx → z ≡ i.offset
    → IfOk (kind.from_context z size) (λ x. ValueTo old new ps x c (λ row. 0))
    → IfOk (kind.loaded_plain decls k (register k i.src) i.offset size) (λ x. ValueTo old new ps x c (λ row. result_as (held_row row ps h k) decls k after i (Load size)))
load_context_to decls ps k after h i old new size c {z} e at found =
    read_to (λ b y. kind.loaded_plain decls k b y size) ps k h i old new Ctx size c _ e at (λ row. load_above (held_row row ps h k) decls k after i size)
    (context_loaded decls k z size _ (ok_map (kind.from_context z size) _ _ (λ x v. value_by v (λ row. omega arith)) found))

pub load_signed_to : (decls : List MapDecl) (ps : List PointerView) (k after : Kinds) (h : RegisterCells) (i : Insn) (old new : List CellView) (base : Kind) (size : Size) (c : ℕ) {z : ℤ} → register k i.src ≡ base → z ≡ i.offset
    → IfOk (kind.loaded_signed decls k base z size) (λ x. ValueTo old new ps x c (λ row. span_row (held_row row ps h k) (region base z (bytes_in size))))
    → IfOk (kind.loaded_signed decls k (register k i.src) i.offset size) (λ x. ValueTo old new ps x c (λ row. result_as (held_row row ps h k) decls k after i (LoadSigned size)))
load_signed_to decls ps k after h i old new base size c e at found =
    read_to (λ b y. kind.loaded_signed decls k b y size) ps k h i old new base size c _ e at (λ row. load_above (held_row row ps h k) decls k after i size) found

-- ---- with the sign extended

pub sign_to : (ps : List PointerView) (old new : List CellView) (size : Size) (x : Kind) (n : Number) (lo hi p c : ℕ) → x ≡ Num (Between lo hi) → x ≡ Num n → Rises old new c (λ row. row p) → ValueTo old new ps (Num (number_extended Bits64 (8 * bytes_in size) n)) c (λ row. number_row row n p)
sign_to ps old new size x (Between l h) lo hi p c e g r = value_risen ps r (λ row. omega arith)
sign_to ps old new size x (Known a) lo hi p c e g r = let q : Num (Between lo hi) ≡ Num (Known a) = sym e ∙ g in absurd cc

pub signed_unknown : (ps : List PointerView) (old new : List CellView) (size : Size) (n : Number) (p c : ℕ) → n ≡ any_bytes size → ValueTo old new ps (Num (number_extended Bits64 (8 * bytes_in size) (any_bytes size))) c (λ row. number_row row (any_bytes size) p)
    → ValueTo old new ps (Num (number_extended Bits64 (8 * bytes_in size) n)) c (λ row. number_row row n p)
signed_unknown ps old new size n p c e v = rw e v

-- a number that is loaded, extended
signed_found : (decls : List MapDecl) (k : Kinds) (base : Kind) (offset : ℤ) (size : Size) (P : Kind → Type 0) → kind.is_context base ≡ false
    → ((n : Number) → kind.loaded decls k base offset size ≡ Ok (Num n) → P (Num (number_extended Bits64 (8 * bytes_in size) n))) → IfOk (kind.loaded_signed decls k base offset size) P
unfolding kind.loaded_signed
signed_found decls k base offset size P plain h =
    rw plain
    (bind_ok (kind.loaded decls k base offset size) (λ x. tests.number_in x >>= (λ n. Ok (Num (number_extended Bits64 (8 * bytes_in size) n)))) P (λ x e.
    bind_ok (tests.number_in x) (λ n. Ok (Num (number_extended Bits64 (8 * bytes_in size) n))) P (λ n f. h n (e ∙ ap Ok (number_there x n f)))))

pub signed_to : (decls : List MapDecl) (ps : List PointerView) (k : Kinds) (old mid new : List CellView) (base : Kind) (offset : ℤ) (size : Size) (p c : ℕ) (last : (ℕ → ℕ) → ℕ) → kind.is_context base ≡ false
    → IfOk (kind.loaded decls k base offset size) (λ x. ValueTo old mid ps x p last)
    → ((n : Number) → kind.loaded decls k base offset size ≡ Ok (Num n) → ValueTo mid new ps (Num (number_extended Bits64 (8 * bytes_in size) n)) c (λ row. number_row row n p))
    → IfOk (kind.loaded_signed decls k base offset size) (λ x. ValueTo old new ps x c last)
signed_to decls ps k old mid new base offset size p c last plain found signed =
    signed_found decls k base offset size _ plain (λ n e. from_one_to size n (subst (λ r. IfOk r (λ x. ValueTo old mid ps x p last)) e found) (signed n e))

-- what holds of the number in a slot holds of a part of it
part_to : {mid new : List CellView} {ps : List PointerView} {c : ℕ} (p : ℕ) (size : Size) (at : ℕ) (i : Number) → ValueTo mid new ps (Num (number_extended Bits64 (8 * bytes_in size) i)) c (λ row. number_row row i p)
    → ValueTo mid new ps (Num (number_extended Bits64 (8 * bytes_in size) (number_part size at i))) c (λ row. number_row row (number_part size at i) p)
part_to p size at (Known a) v = record { grows = v.grows; value = v.value }
part_to p size at (Between lo hi) v = record { grows = v.grows; value = v.value }

of_slot : (P : Number → Type 0) (size : Size) (at : ℕ) (x : Kind) (n : Number) → ((i : Number) → P i → P (number_part size at i)) → kind.from_slot size at x ≡ Ok (Num n) → ((i : Number) → x ≡ Num i → P i) → P n
of_slot P Dw at x n part e h = let f : x ≡ Num n = cc in h n f
of_slot P B at (Num i) n part e h = let f : number_part B at i ≡ n = cc in subst P f (part i (h i refl))
of_slot P H at (Num i) n part e h = let f : number_part H at i ≡ n = cc in subst P f (part i (h i refl))
of_slot P W at (Num i) n part e h = let f : number_part W at i ≡ n = cc in subst P f (part i (h i refl))
of_slot P size at x n part e h = absurd cc

pub slot_signed : (decls : List MapDecl) (ps : List PointerView) (k : Kinds) (mid new : List CellView) (o offset : ℤ) (size : Size) (at p c : ℕ) → machine.in_stack (o +ℤ offset) (bytes_in size) ≡ Some at
    → ((i : Number) → get_or k.slots (at / 8) Unset ≡ Num i → ValueTo mid new ps (Num (number_extended Bits64 (8 * bytes_in size) i)) c (λ row. number_row row i p))
    → (n : Number) → kind.loaded decls k (Stack o) offset size ≡ Ok (Num n) → ValueTo mid new ps (Num (number_extended Bits64 (8 * bytes_in size) n)) c (λ row. number_row row n p)
slot_signed decls ps k mid new o offset size at p c place signed n e =
    let x : Kind = get_or k.slots (at / 8) Unset in
    let b = bind_passed (tests.readable x) (λ u. kind.from_slot size (at % 8) x) (Num n) (sym (stack_is decls k o offset size at place) ∙ e) in
    of_slot (λ i. ValueTo mid new ps (Num (number_extended Bits64 (8 * bytes_in size) i)) c (λ row. number_row row i p)) size (at % 8) x n (λ i v. part_to p size (at % 8) i v) b.2 signed
