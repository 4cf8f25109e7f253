-- Rows of what stores leave.
use Rattle.std.proofs.Common.{◌≡◌, ◌≢◌, ◌∙◌, ℕ, zero, suc, ◌+◌, ◌-◌, ◌/◌, ◌%◌, ◌<◌, ◌≤◌, ◌⊎◌, inl, inr, ℤ, pos, ◌+ℤ◌, unsigned_abs, ◌||◌, Bool, true, false, if◌then◌else◌, Some, Result, Ok, Err, IfOk, OnOk, List, [], ◌∷◌, length, get_or, slice_index, slice_set, max, refl, sym, ap, subst, arith}
use Rattle.std.specs.List.{list_any}
use Rattle.std.proofs.lemmas.Bool.{cases_lt}
use Rattle.std.proofs.lemmas.Result.{on_ok_weaker}
use Rattle.std.proofs.lemmas.List.{get_or-set_same, get_or-set_other}
use Rattle.cell_core.specs.bpf_isa.declared.operation.Size.{Size}
use Rattle.cell_core.specs.bpf_isa.declared.operation.Size.TheVariants.{B, H, W, Dw}
use Rattle.cell_core.specs.bpf_isa.declared.operation.Src.{Src}
use Rattle.cell_core.specs.bpf_isa.declared.operation.Src.TheVariants.{K, X}
use Rattle.cell_core.specs.bpf_isa.declared.operation.Op.{Op}
use Rattle.cell_core.specs.bpf_isa.declared.operation.Op.TheVariants.{StoreImm, Store}
use Rattle.cell_core.specs.bpf_isa.declared.instruction.Insn.{Insn}
use Rattle.cell_core.specs.xdp_maps.declared.decl.MapDecl.{MapDecl}
use Rattle.cell_core.specs.xdp_maps.Calls.{patched}
use Rattle.cell_core.specs.xdp_machine.Memory.{bytes_in, inside}
use Rattle.cell_core.specs.xdp_machine.Memory as machine
use Rattle.kind_core.specs.declared.number.Number.{Number}
use Rattle.kind_core.specs.declared.number.Number.TheVariants.{Known, Between}
use Rattle.kind_core.specs.declared.kind.Kind.{Kind}
use Rattle.kind_core.specs.declared.kind.Kind.TheVariants.{Unset, Num, Packet, Stack}
use Rattle.kind_core.specs.declared.kind.Kinds.{Kinds}
use Rattle.kind_core.specs.Kinds.{register, with_slot}
use Rattle.kind_core.specs.Numbers.{number_patched}
use Rattle.kind_core.specs.Tests.{◌>>=◌, passed}
use Rattle.kind_core.specs.Places as places
use Rattle.kind_core.specs.Access.{underlying}
use Rattle.kind_core.specs.Access as access
use Rattle.kind_core.specs.Effects.{operand, effect_of, effect_as, verdict}
use Rattle.kind_core.specs.Edges.{changed, transferred}
use Rattle.kind_core.proofs.TestLaws.{bind_ok}
use Rattle.cell_core.specs.Cells.{CellView, bit}
use Rattle.cell_core.specs.Rows.{greatest, numbers}
use Rattle.operator_cells.specs.Rising.{Rises, RiseAll}
use Rattle.operator_cells.proofs.RisingLaws.{stand_none, stand_more, rises_then}
use Rattle.operator_cells.specs.row_rules.declared.place_rows.span.Span.{Span}
use Rattle.operator_cells.specs.row_rules.PlaceRows.Spans.{no_place, one, region, slots_of, bytes_of, is_in, span_row, spans_row}
use Rattle.operator_cells.specs.row_rules.PlaceRows.Origins.{is_open, open_row, has_data, data_by}
use Rattle.operator_cells.specs.row_rules.PlaceRows.Reading.{in_slot, is_var, pointer_read, result_as}
use Rattle.operator_cells.specs.row_rules.PlaceRows.Writing.{is_open_in, writes_as, record_as, taken_row}
use Rattle.operator_cells.specs.row_rules.declared.place_rows.location.Location.{Location}
use Rattle.operator_cells.specs.row_rules.declared.place_rows.location.Location.TheVariants as location
use Rattle.operator_cells.specs.row_rules.PlaceRows.Locations.{first_slot, first_byte, location_at}
use Rattle.operator_cells.proofs.row_rules_laws.PlaceRows.LocationLaws.{at_number, numbered_as}
use Rattle.operator_cells.proofs.row_rules_laws.PlaceRows.SpanLaws.{inside as in_span, is_inside, in_none, one_row}
use Rattle.operator_cells.specs.declared.held_cells.machine_cells.RegisterCells.{RegisterCells}
use Rattle.operator_cells.specs.HeldCells.RegisterCells.{PointerView}
use Rattle.operator_cells.specs.HeldCells.Rows.{number_row, value_row, kind_at, number_at, held_row, LeavesTo, CarriesTo, number_by}
use Rattle.operator_cells.proofs.HeldCells.RowLaws.{grows_by, register_row, byte_row, slot_changed, slot_kept}
use Rattle.register_cells.specs.Rows.{ValueTo, left_row, stored_row, StoresTo}
use Rattle.register_cells.proofs.ValueLaws.{same_most, trans_most, value_by, value_risen}
use Rattle.register_cells.proofs.Growing.{ok_map}
use Rattle.register_cells.proofs.Loads.{aligned_is, inside_is, some_bytes}
use Rattle.register_cells.proofs.Stored.{patched_low, patched_in, patched_past}
use Rattle.register_cells.proofs.Stores.{slot_stored, store_passed, number_stored, all_ok}
use Rattle.register_cells.proofs.LoadRows.{le_by, slot_in, slot_above}

-- ---- a slot that is stored into

pub number_rises : (ps : List PointerView) (old new : List CellView) (x : Kind) (n : Number) (p c : ℕ) → x ≡ Num n → Rises old new c (λ row. number_row row n p) → Rises old new c (λ row. value_row row ps x p)
number_rises ps old new x n p c e r = subst (λ (k : Kind). Rises old new c (λ row. value_row row ps k p)) (sym e) r

-- a part over what is left, of which one is not known
pub part_to : (ps : List PointerView) (old x y new : List CellView) (size : Size) (at : ℕ) (a : Kind) (p : ℕ) (m n : Number) (q l r c : ℕ)
    → ((i j : ℕ) → m ≡ Known i → n ≢ Known j) → Rises old x l (λ row. value_row row ps a p) → Rises x y r (λ row. number_row row n q) → Rises y new c (λ row. max (row l) (row r))
    → ValueTo old new ps (Num (number_patched size at m n)) c (λ row. max (value_row row ps a p) (number_row row n q))
part_to ps old x y new size at a p m n q l r c other left part all = by m n other made
  where
    made : Rises old new c (λ row. max (value_row row ps a p) (number_row row n q))
    made = rises_then (stand_more (stand_more stand_none left (λ row h. omega arith)) part (λ row h. omega arith)) all (λ row h. omega (arith, h.0.1, h.1))

    by : (m g : Number) → ((i j : ℕ) → m ≡ Known i → g ≢ Known j) → Rises old new c (λ row. max (value_row row ps a p) (number_row row n q))
        → ValueTo old new ps (Num (number_patched size at m g)) c (λ row. max (value_row row ps a p) (number_row row n q))
    by (Known i) (Known j) f h = absurd (f i j refl refl)
    by (Known i) (Between lo hi) f h = value_risen ps h (λ row. same_most)
    by (Between lo hi) g f h = value_risen ps h (λ row. same_most)

pub part_fills_to : (ps : List PointerView) (old new : List CellView) (size : Size) (at : ℕ) (a : Kind) (p : ℕ) (n : Number) (q c : ℕ) → size ≢ Dw
    → ((m : Number) → underlying a ≡ Ok m → ValueTo old new ps (Num (number_patched size at m n)) c (λ row. max (value_row row ps a p) (number_row row n q)))
    → IfOk (access.to_slot size at a (Num n)) (λ x. ValueTo old new ps x c (λ row. max (left_row row ps size a p) (value_row row ps (Num n) q)))
part_fills_to ps old new Dw at a p n q c other h = absurd (other refl)
part_fills_to ps old new B at a p n q c other h = bind_ok (underlying a) _ _ h
part_fills_to ps old new H at a p n q c other h = bind_ok (underlying a) _ _ h
part_fills_to ps old new W at a p n q c other h = bind_ok (underlying a) _ _ h

-- ---- the places that are written

either : (b : Bool) → (b || false) ≡ b
either true = refl
either false = refl

in_first : (place : ℕ) (s : Span) → list_any (is_in place) (s ∷ no_place ∷ []) ≡ is_in place s
in_first place s = ap (λ (b : Bool). is_in place s || (b || false)) (in_none place) ∙ either (is_in place s)

any_of : (f : ℕ → Bool) (from n i : ℕ) → from ≤ i → i < from + n → f i ≡ true → list_any f (numbers from n) ≡ true
any_of f from zero i low high h = absurd (omega (arith, low, high))
any_of f from (suc n) i low high h = by (λ l. any_of f (suc from) n i l (omega (arith, high)) h) (cases_lt from i)
  where
    any : (b : Bool) → (b || true) ≡ true
    any true = refl
    any false = refl

    by : (suc from ≤ i → list_any f (numbers (suc from) n) ≡ true) → (from < i) ⊎ (i ≤ from) → (f from || list_any f (numbers (suc from) n)) ≡ true
    by more (inl l) = ap (λ (b : Bool). f from || b) (more (omega (arith, l))) ∙ any (f from)
    by more (inr l) = let e : i ≡ from = omega (arith, l, low) in ap (λ (b : Bool). b || list_any f (numbers (suc from) n)) (subst (λ (j : ℕ). f j ≡ true) e h)

-- where there is data in a place of the first there is some in what is written
open_first : (k : Kinds) (s : Span) (place : ℕ) → is_in place s ≡ true → has_data k place ≡ true → list_any (is_open_in k) (s ∷ no_place ∷ []) ≡ true
open_first k s place h d =
    let b = in_span place s h in
    let e : is_open_in k s ≡ true = any_of (has_data k) s.from (s.end - s.from) place b.0 (omega (arith, b.0, b.1)) d in
    ap (λ (t : Bool). t || list_any (is_open_in k) (no_place ∷ [])) e

-- ---- a store into the stack

one_slot : (o offset : ℤ) (size : Size) (at place : ℕ) → machine.in_stack (o +ℤ offset) (bytes_in size) ≡ Some at → at % 8 + bytes_in size ≤ 8 → is_in place (region (Stack o) offset (bytes_in size)) ≡ true → place ≡ first_slot + at / 8
one_slot o offset size at place e fits h =
    let b = in_span place (slots_of at (bytes_in size)) (subst (λ (z : ℤ). is_in place (slots_of (unsigned_abs z) (bytes_in size)) ≡ true) (aligned_is (o +ℤ offset +ℤ pos 512) (bytes_in size) 512 at e).0 h) in
    omega (arith, b.0, b.1, fits)

slot_has : (k : Kinds) (s : ℕ) (x : Kind) → s < 64 → length k.slots ≡ 64 → has_data (with_slot k s x) (first_slot + s) ≡ is_open x
slot_has k s x l ks = ap (data_by (with_slot k s x)) (at_number (location.StackSlot s) l) ∙ ap is_open (get_or-set_same k.slots s x Unset (omega (arith, l, ks)))

slot_number : (h : RegisterCells) (s c place : ℕ) → place ≢ first_slot + s → number_at (record h { slots = slice_set h.slots s c }) place ≡ number_at h place
slot_number h s c place other = by (location_at place) refl
  where
    by : (l : Location) → location_at place ≡ l → number_by (record h { slots = slice_set h.slots s c }) l ≡ number_by h l
    by (location.Register r) e = refl
    by (location.StackSlot t) e =
        let off : t ≢ s = λ same. other (numbered_as place (location.StackSlot t) e ∙ ap (λ (n : ℕ). first_slot + n) same) in
        rw (get_or-set_other h.slots s t c 0 off) refl
    by (location.PacketByte i) e = refl
    by location.Target e = refl
    by (location.PendingWrites q) e = refl

left_above : (ps : List PointerView) (h : RegisterCells) (k : Kinds) (o offset : ℤ) (size : Size) (at : ℕ) → at < 512 → machine.in_stack (o +ℤ offset) (bytes_in size) ≡ Some at → (row : ℕ → ℕ)
    → left_row row ps size (get_or k.slots (at / 8) Unset) (slice_index h.slots (at / 8)) ≤ span_row (held_row row ps h k) (in_slot (Stack o) offset size)
left_above ps h k o offset Dw at within e row = omega arith
left_above ps h k o offset B at within e row = slot_above ps h k o offset B at within e row
left_above ps h k o offset H at within e row = slot_above ps h k o offset H at within e row
left_above ps h k o offset W at within e row = slot_above ps h k o offset W at within e row

max_by : (a b c : ℕ) → a ≤ c → max a b ≤ max b c
max_by a b c h = omega (arith, h)

-- what is made of a kind is made where something of what is written has data
open_within : (x : Kind) (m n : ℕ) (any : Bool) → (is_open x ≡ true → any ≡ true) → m ≤ n → open_row x m ≤ (if any then n else 0)
open_within x m n any some h = by (is_open x) some
  where
    by : (b : Bool) → (b ≡ true → any ≡ true) → (if b then m else 0) ≤ (if any then n else 0)
    by true f = rw (f refl) h
    by false f = omega arith

le_of : {a b : ℕ} → a ≡ b → a ≤ b
le_of e = omega (arith, e)

differs : (place s : ℕ) (sp : Span) → is_in (first_slot + s) sp ≡ true → list_any (is_in place) (sp ∷ no_place ∷ []) ≡ false → place ≢ first_slot + s
differs place s sp h out same = let e : true ≡ false = sym h ∙ ap (λ (p : ℕ). is_in p sp) (sym same) ∙ sym (in_first place sp) ∙ out in absurd cc

slot_stores : (ps : List PointerView) (k : Kinds) (h : RegisterCells) (old new : List CellView) (o offset : ℤ) (size : Size) (b : Kind) (q at c : ℕ) (x : Kind)
    → length k.slots ≡ 64 → length h.slots ≡ 64 → at < 512 → at % 8 + bytes_in size ≤ 8 → machine.in_stack (o +ℤ offset) (bytes_in size) ≡ Some at
    → ValueTo old new ps x c (λ row. max (left_row row ps size (get_or k.slots (at / 8) Unset) (slice_index h.slots (at / 8))) (value_row row ps b q))
    → StoresTo ps k h (with_slot k (at / 8) x) (record h { slots = slice_set h.slots (at / 8) c }) (Stack o) offset size b q old new
slot_stores ps k h old new o offset size b q at c x ks hs within fits e v =
    let slot : at / 8 < 64 = omega (arith, within) in
    let there = slot_in o offset size at e in
    let sp : Span = region (Stack o) offset (bytes_in size) in
    let R : (ℕ → ℕ) → ℕ = λ row. stored_row row ps h k (Stack o) offset size b q in
    let w : ValueTo old new ps x c R = value_by v (λ row. max_by _ (value_row row ps b q) _ (left_above ps h k o offset size at within e row)) in record {
      grows = grows_by w.grows (λ row. open_within x (R row) (R row) (list_any (is_open_in (with_slot k (at / 8) x)) (sp ∷ no_place ∷ []))
          (λ g. open_first (with_slot k (at / 8) x) sp (first_slot + at / 8) there (slot_has k (at / 8) x slot ks ∙ g)) same_most);
      written = λ row rows place is_written.
          let is_slot = one_slot o offset size at place e fits (sym (in_first place sp) ∙ is_written) in
          le_by (ap (held_row row ps (record h { slots = slice_set h.slots (at / 8) c }) (with_slot k (at / 8) x)) is_slot ∙ slot_changed row ps h k x (at / 8) c slot ks hs) (w.value row rows);
      kept = λ row rows place out. le_of (slot_kept row ps h k x (at / 8) c place (differs place (at / 8) sp there out));
      same = λ place l out. slot_number h (at / 8) c place (differs place (at / 8) sp there out);
    }

pub stack_stores_to : (ps : List PointerView) (decls : List MapDecl) (node : ℕ) (is_ref : Bool) (k : Kinds) (h : RegisterCells) (old new : List CellView) (o offset : ℤ) (size : Size) (b : Kind) (q at c : ℕ)
    → length k.slots ≡ 64 → length h.slots ≡ 64 → at < 512 → at % 8 + bytes_in size ≤ 8 → machine.in_stack (o +ℤ offset) (bytes_in size) ≡ Some at
    → IfOk (access.to_slot size (at % 8) (get_or k.slots (at / 8) Unset) b) (λ x. ValueTo old new ps x c (λ row. max (left_row row ps size (get_or k.slots (at / 8) Unset) (slice_index h.slots (at / 8))) (value_row row ps b q)))
    → IfOk (access.stored decls k (Stack o) offset size b) (λ e. StoresTo ps k h (changed node is_ref false k e) (record h { slots = slice_set h.slots (at / 8) c }) (Stack o) offset size b q old new)
stack_stores_to ps decls node is_ref k h old new o offset size b q at c ks hs within fits e fills =
    slot_stored (λ after. StoresTo ps k h after (record h { slots = slice_set h.slots (at / 8) c }) (Stack o) offset size b q old new) decls node is_ref k o offset size b at e
    (ok_map (access.to_slot size (at % 8) (get_or k.slots (at / 8) Unset) b) _ _ (λ x v. slot_stores ps k h old new o offset size b q at c x ks hs within fits e v) fills)

-- ---- a store into the packet

greatest_at : (row : ℕ → ℕ) (xs : List ℕ) (j : ℕ) → j < length xs → row (slice_index xs j) ≤ greatest row xs
greatest_at row [] j l = absurd (omega (arith, l))
greatest_at row (x ∷ xs) zero l = omega arith
greatest_at row (x ∷ xs) (suc j) l = omega (arith, greatest_at row xs j (omega (arith, l)))

-- places of the packet that are not among those that are written
window_number_at : (h : RegisterCells) (at : ℕ) (bs : List ℕ) (place : ℕ) → length h.window ≡ 256 → at + length bs ≤ 256 → ((place < first_byte + at) ⊎ (first_byte + at + length bs ≤ place)) → number_at (record h { window = patched h.window at bs }) place ≡ number_at h place
window_number_at h at bs place whole fits out = by (location_at place) refl out
  where
    by : (l : Location) → location_at place ≡ l → ((place < first_byte + at) ⊎ (first_byte + at + length bs ≤ place)) → number_by (record h { window = patched h.window at bs }) l ≡ number_by h l
    by (location.Register r) e g = refl
    by (location.StackSlot s) e g = refl
    by (location.PacketByte i) e (inl l) = let n : place ≡ first_byte + i = numbered_as place (location.PacketByte i) e in patched_low h.window bs at i (omega (arith, l, n)) (omega (arith, fits, whole))
    by (location.PacketByte i) e (inr l) = let n : place ≡ first_byte + i = numbered_as place (location.PacketByte i) e in patched_past h.window bs at i (omega (arith, l, n)) (omega (arith, fits, whole))
    by location.Target e g = refl
    by (location.PendingWrites q) e g = refl

outside : (at n place : ℕ) → is_in place (bytes_of at n) ≡ false → (place < first_byte + at) ⊎ (first_byte + at + n ≤ place)
outside at n place h = by (cases_lt place (first_byte + at)) (cases_lt place (first_byte + at + n))
  where
    by : (place < first_byte + at) ⊎ (first_byte + at ≤ place) → (place < first_byte + at + n) ⊎ (first_byte + at + n ≤ place) → (place < first_byte + at) ⊎ (first_byte + at + n ≤ place)
    by (inl l) m = inl l
    by (inr l) (inr m) = inr m
    by (inr l) (inl m) = let e : true ≡ false = sym (is_inside place (bytes_of at n) l m) ∙ h in absurd cc

byte_written : (row : ℕ → ℕ) (ps : List PointerView) (h : RegisterCells) (k : Kinds) (at : ℕ) (bs : List ℕ) (place : ℕ) → length h.window ≡ 256 → at + length bs ≤ 256 → first_byte + at ≤ place → place < first_byte + at + length bs
    → held_row row ps (record h { window = patched h.window at bs }) k place ≤ greatest row bs
byte_written row ps h k at bs place whole fits low high =
    let is_place : place ≡ first_byte + (place - first_byte) = omega (arith, low) in
    le_by (ap (held_row row ps (record h { window = patched h.window at bs }) k) is_place ∙ byte_row row ps (record h { window = patched h.window at bs }) k (place - first_byte) (omega (arith, low, high, fits))
    ∙ ap row (patched_in h.window bs at (place - first_byte) (omega (arith, low)) (omega (arith, low, high)) (omega (arith, fits, whole))))
    (greatest_at row bs (place - first_byte - at) (omega (arith, low, high)))

byte_kept : (h : RegisterCells) (at n : ℕ) (bs : List ℕ) (place : ℕ) → length h.window ≡ 256 → at + n ≤ 256 → length bs ≡ n → list_any (is_in place) (bytes_of at n ∷ no_place ∷ []) ≡ false
    → number_at (record h { window = patched h.window at bs }) place ≡ number_at h place
byte_kept h at n bs place whole fits count out =
    window_number_at h at bs place whole (omega (arith, fits, count))
    (subst (λ (m : ℕ). (place < first_byte + at) ⊎ (first_byte + at + m ≤ place)) (sym count) (outside at n place (sym (in_first place (bytes_of at n)) ∙ out)))

window_stores : (ps : List PointerView) (k : Kinds) (h : RegisterCells) (old new : List CellView) (at n : ℕ) (last : (ℕ → ℕ) → ℕ) (bs : List ℕ) → 1 ≤ n → length h.window ≡ 256 → at + n ≤ 256 → length bs ≡ n → RiseAll old new bs last
    → LeavesTo (λ row. held_row row ps h k) ps h k (record h { window = patched h.window at bs }) old new (bytes_of at n ∷ no_place ∷ []) (λ row. if list_any (is_open_in k) (bytes_of at n ∷ no_place ∷ []) then last row else 0) last
window_stores ps k h old new at n last bs some whole fits count r =
    let next : RegisterCells = record h { window = patched h.window at bs } in
    let fits2 : at + length bs ≤ 256 = omega (arith, fits, count) in
    let first : is_in (first_byte + at) (bytes_of at n) ≡ true = is_inside (first_byte + at) (bytes_of at n) (omega arith) (omega (arith, some)) in
    let room : at < 256 = omega (arith, some, fits) in
    let data_there : has_data k (first_byte + at) ≡ true = ap (data_by k) (at_number (location.PacketByte at) room) in
    let any = open_first k (bytes_of at n) (first_byte + at) first data_there in
    record {
      grows = grows_by r.grows (λ row. subst (λ (t : Bool). last row ≤ (if t then last row else 0)) (sym any) same_most);
      written = λ row rows place is_written.
          let b = in_span place (bytes_of at n) (sym (in_first place (bytes_of at n)) ∙ is_written) in
          trans_most (byte_written row ps h k at bs place whole fits2 (omega (arith, b.0)) (omega (arith, b.1, count))) (r.results row rows);
      kept = λ row rows place out. le_of (ap (value_row row ps (kind_at k place)) (byte_kept h at n bs place whole fits count out));
      same = λ place l out. byte_kept h at n bs place whole fits count out;
    }

first : (a b : ℕ) → a ≤ max a b
first a b = omega arith

packet_stores : (ps : List PointerView) (k : Kinds) (h : RegisterCells) (old new : List CellView) (o : ℕ) (offset : ℤ) (size : Size) (i : Number) (q at : ℕ) (bs : List ℕ) → length h.window ≡ 256 → inside (pos o +ℤ offset) (bytes_in size) 256 ≡ Some at
    → at + bytes_in size ≤ 256 → length bs ≡ bytes_in size → RiseAll old new bs (λ row. number_row row i q) → StoresTo ps k h k (record h { window = patched h.window at bs }) (Packet o) offset size (Num i) q old new
packet_stores ps k h old new o offset size i q at bs whole e fits count r =
    let R : (ℕ → ℕ) → ℕ = λ row. stored_row row ps h k (Packet o) offset size (Num i) q in
    let all : RiseAll old new bs R = record { grows = grows_by r.grows (λ row. first (number_row row i q) (span_row (held_row row ps h k) no_place)); results = λ row rows. trans_most (r.results row rows) (first (number_row row i q) (span_row (held_row row ps h k) no_place)) } in
    subst (λ (z : ℤ). LeavesTo (λ row. held_row row ps h k) ps h k (record h { window = patched h.window at bs }) old new (bytes_of (unsigned_abs z) (bytes_in size) ∷ no_place ∷ [])
    (λ row. if list_any (is_open_in k) (bytes_of (unsigned_abs z) (bytes_in size) ∷ no_place ∷ []) then R row else 0) R) (sym (inside_is (pos o +ℤ offset) (bytes_in size) 256 at e))
    (window_stores ps k h old new at (bytes_in size) R bs (some_bytes size) whole fits count all)

pub packet_stores_to : {R E : Type 0} (r : Result R E) (decls : List MapDecl) (ps : List PointerView) (node : ℕ) (is_ref : Bool) (k : Kinds) (h next : RegisterCells) (old new : List CellView) (o : ℕ) (offset : ℤ) (size : Size) (b : Kind) (i : Number) (q at : ℕ)
    → b ≡ Num i → length h.window ≡ 256 → inside (pos o +ℤ offset) (bytes_in size) 256 ≡ Some at → at + bytes_in size ≤ 256
    → OnOk r ((bytes : List ℕ) × (next ≡ record h { window = patched h.window at bytes }) × (length bytes ≡ bytes_in size) × RiseAll old new bytes (λ row. number_row row i q))
    → IfOk (access.stored decls k (Packet o) offset size b) (λ e. OnOk r (StoresTo ps k h (changed node is_ref false k e) next (Packet o) offset size b q old new))
unfolding access.stored
packet_stores_to (Err w) decls ps node is_ref k h next old new o offset size b i q at is_number whole e fits stored = all_ok (access.stored decls k (Packet o) offset size b) _ (λ f. tt)
packet_stores_to (Ok u) decls ps node is_ref k h next old new o offset size b i q at is_number whole e fits stored =
    rw (is_number, stored.1)
    (subst (λ (z : ℤ). IfOk (places.in_packet k.checked z (bytes_in size) >>= (λ place. access.stored_at k.slots size (Num i) place))
    (λ f. StoresTo ps k h (changed node is_ref false k f) (record h { window = patched h.window at stored.0 }) (Packet o) offset size (Num i) q old new)) (sym (inside_is (pos o +ℤ offset) (bytes_in size) 256 at e))
    (number_stored (λ after. StoresTo ps k h after (record h { window = patched h.window at stored.0 }) (Packet o) offset size (Num i) q old new) node is_ref k size (Num i) at
    (packet_stores ps k h old new o offset size i q at stored.0 whole e fits stored.2 stored.3)))

-- ---- stores

pub store_to : {R E : Type 0} (r : Result R E) (decls : List MapDecl) (ps : List PointerView) (node : ℕ) (is_ref : Bool) (k : Kinds) (h next : RegisterCells) (i : Insn) (old new : List CellView) (base : Kind) (size : Size) (x y : Kind) (q : ℕ) {z : ℤ}
    → register k i.dst ≡ base → z ≡ i.offset → y ≡ x
    → IfOk (access.stored decls k base z size y) (λ e. OnOk r (StoresTo ps k h (changed node is_ref false k e) next base z size y q old new))
    → IfOk (access.stored decls k (register k i.dst) i.offset size x) (λ e. OnOk r (StoresTo ps k h (changed node is_ref false k e) next (register k i.dst) i.offset size x q old new))
store_to r decls ps node is_ref k h next i old new base size x y q {z} e at same stores =
    subst (λ (a : Kind). IfOk (access.stored decls k a i.offset size x) (λ e. OnOk r (StoresTo ps k h (changed node is_ref false k e) next a i.offset size x q old new))) (sym e)
    (subst (λ (t : ℤ). IfOk (access.stored decls k base t size x) (λ e. OnOk r (StoresTo ps k h (changed node is_ref false k e) next base t size x q old new))) at
    (subst (λ (w : Kind). IfOk (access.stored decls k base z size w) (λ e. OnOk r (StoresTo ps k h (changed node is_ref false k e) next base z size w q old new))) same stores))

leaves_by : {before : (ℕ → ℕ) → ℕ → ℕ} {ps : List PointerView} {h next : RegisterCells} {after : Kinds} {old new : List CellView} {spans : List Span} {f g a b : (ℕ → ℕ) → ℕ} → LeavesTo before ps h after next old new spans f a
    → ((row : ℕ → ℕ) → f row ≤ g row) → ((row : ℕ → ℕ) → a row ≤ b row) → LeavesTo before ps h after next old new spans g b
leaves_by l up more = record {
  grows = grows_by l.grows up;
  written = λ row rows place h. trans_most (l.written row rows place h) (more row);
  kept = l.kept;
  same = l.same;
}

abbrev AsTo : List MapDecl → List PointerView → Insn → Op → Kinds → RegisterCells → Kinds → RegisterCells → List CellView → List CellView → Type 0
AsTo decls ps i op k h after next old new =
    LeavesTo (λ row. held_row row ps h k) ps h after next old new (writes_as k i op)
    (λ row. max (if list_any (is_open_in after) (writes_as k i op) then result_as (held_row row ps h k) decls k after i op else 0) (taken_row (held_row row ps h k) (record_as decls k i op)))
    (λ row. result_as (held_row row ps h k) decls k after i op)

if_by : (b : Bool) (m n t : ℕ) → m ≤ n → (if b then m else 0) ≤ max (if b then n else 0) t
if_by true m n t h = omega (arith, h)
if_by false m n t h = omega arith

imm_above : (row : ℕ → ℕ) (ps : List PointerView) (decls : List MapDecl) (k : Kinds) (h : RegisterCells) (after : Kinds) (i : Insn) (size : Size) (q : ℕ)
    → stored_row row ps h k (register k i.dst) i.offset size (operand k i K) q ≤ result_as (held_row row ps h k) decls k after i (StoreImm size)
imm_above row ps decls k h after i size q = by (span_row (held_row row ps h k) (in_slot (register k i.dst) i.offset size)) (spans_row (held_row row ps h k) (pointer_read k i ∷ no_place ∷ no_place ∷ [])) (bit (is_var (register k i.dst)))
  where
    by : (a b t : ℕ) → max 0 a ≤ max a b + t
    by a b t = omega arith

src_above : (row : ℕ → ℕ) (ps : List PointerView) (decls : List MapDecl) (k : Kinds) (h : RegisterCells) (after : Kinds) (i : Insn) (size : Size) → i.src ≤ 10
    → stored_row row ps h k (register k i.dst) i.offset size (operand k i X) (slice_index h.registers i.src) ≤ result_as (held_row row ps h k) decls k after i (Store size)
src_above row ps decls k h after i size src =
    by (value_row row ps (register k i.src) (slice_index h.registers i.src)) (span_row (held_row row ps h k) (one i.src)) (span_row (held_row row ps h k) (in_slot (register k i.dst) i.offset size))
    (spans_row (held_row row ps h k) (pointer_read k i ∷ no_place ∷ [])) (bit (is_var (register k i.dst))) (one_row (held_row row ps h k) i.src ∙ register_row row ps h k i.src (omega (arith, src)))
  where
    by : (v s a b t : ℕ) → s ≡ v → max v a ≤ max s (max a b) + t
    by v s a b t e = omega (arith, e)

pub imm_carries : (decls : List MapDecl) (ps : List PointerView) (i : Insn) (k : Kinds) (h : RegisterCells) (after : Kinds) (next : RegisterCells) (old new : List CellView) (size : Size) → i.op ≡ StoreImm size
    → StoresTo ps k h after next (register k i.dst) i.offset size (operand k i K) (slice_index h.registers i.src) old new → CarriesTo decls (λ row. held_row row ps h k) ps i k h after next old new
imm_carries decls ps i k h after next old new size e stores =
    subst (λ (op : Op). AsTo decls ps i op k h after next old new) (sym e)
    (leaves_by stores (λ row. if_by (list_any (is_open_in after) (writes_as k i (StoreImm size))) _ _ _ (imm_above row ps decls k h after i size (slice_index h.registers i.src))) (λ row. imm_above row ps decls k h after i size (slice_index h.registers i.src)))

pub src_carries : (decls : List MapDecl) (ps : List PointerView) (i : Insn) (k : Kinds) (h : RegisterCells) (after : Kinds) (next : RegisterCells) (old new : List CellView) (size : Size) → i.src ≤ 10 → i.op ≡ Store size
    → StoresTo ps k h after next (register k i.dst) i.offset size (operand k i X) (slice_index h.registers i.src) old new → CarriesTo decls (λ row. held_row row ps h k) ps i k h after next old new
src_carries decls ps i k h after next old new size src e stores =
    subst (λ (op : Op). AsTo decls ps i op k h after next old new) (sym e)
    (leaves_by stores (λ row. if_by (list_any (is_open_in after) (writes_as k i (Store size))) _ _ _ (src_above row ps decls k h after i size src)) (λ row. src_above row ps decls k h after i size src))

-- an allowed store carries to where its effect leads
pub store_carried_to : {R E : Type 0} (r : Result R E) (decls : List MapDecl) (ps : List PointerView) (node : ℕ) (is_ref : Bool) (k : Kinds) (h next : RegisterCells) (i : Insn) (old new : List CellView) (size : Size) (s : Src)
    → verdict (effect_of decls k i) ≡ passed → effect_as decls k i i.op ≡ access.stored decls k (register k i.dst) i.offset size (operand k i s)
    → ((after : Kinds) → StoresTo ps k h after next (register k i.dst) i.offset size (operand k i s) (slice_index h.registers i.src) old new → CarriesTo decls (λ row. held_row row ps h k) ps i k h after next old new)
    → IfOk (access.stored decls k (register k i.dst) i.offset size (operand k i s))
    (λ e. OnOk r (StoresTo ps k h (changed node is_ref false k e) next (register k i.dst) i.offset size (operand k i s) (slice_index h.registers i.src) old new))
    → OnOk r (CarriesTo decls (λ row. held_row row ps h k) ps i k h (transferred decls k i node is_ref false) next old new)
store_carried_to r decls ps node is_ref k h next i old new size s allowed kind_is carries stores =
    on_ok_weaker r (carries (transferred decls k i node is_ref false))
    (store_passed (λ after. OnOk r (StoresTo ps k h after next (register k i.dst) i.offset size (operand k i s) (slice_index h.registers i.src) old new)) decls node is_ref k i size s allowed kind_is stores)
