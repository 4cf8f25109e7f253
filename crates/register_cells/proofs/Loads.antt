-- Loads.
use Rattle.std.proofs.Common.{◌≡◌, ◌≢◌, ℕ, zero, suc, ◌+◌, ◌-◌, ◌/◌, ◌%◌, ◌<◌, ◌≤◌, ◌==◌, ℤ, pos, negsuc, ◌+ℤ◌, nat_le, Bool, true, false, Option, Some, None, Result, IfOk, List, [], ◌∷◌, length, drop, slice_range, slice_index, get_or, All, map as map_list, refl, sym, ◌∙◌, ap, subst, arith}
use Rattle.std.proofs.lemmas.List.{get_or_default, get_or-take, get_or-drop, get_or-map, length-take, length-drop}
use Rattle.std.specs.Prelude.{◌⊎◌}
use Rattle.std.proofs.Common.{inl, inr}
use Rattle.std.proofs.lemmas.Bool.{cases_lt}
use Rattle.byteorder.specs.Endian.{little_number, little_from}
use Rattle.cell_core.specs.bpf_isa.declared.operation.Size.{Size}
use Rattle.cell_core.specs.bpf_isa.declared.operation.Size.TheVariants.{B, H, W, Dw}
use Rattle.cell_core.specs.xdp_maps.declared.decl.MapDecl.{MapDecl}
use Rattle.cell_core.specs.xdp_machine.Values.{Value}
use Rattle.cell_core.specs.xdp_machine.Values as is
use Rattle.cell_core.specs.xdp_machine.State.{Machine, PacketIn, register}
use Rattle.cell_core.specs.xdp_machine.Memory.{bytes_in, number_at, inside, aligned}
use Rattle.cell_core.specs.xdp_machine.Memory as machine
use Rattle.kind_core.specs.declared.number.Number.TheVariants.{Between}
use Rattle.kind_core.specs.declared.kind.Kind.{Kind}
use Rattle.kind_core.specs.declared.kind.Kind.TheVariants.{Unset, Num, Packet, Var, Stack, Ctx, Entry}
use Rattle.kind_core.specs.declared.base.Base.{Base}
use Rattle.kind_core.specs.declared.kind.Kinds.{Kinds}
use Rattle.kind_core.specs.Numbers.{any_bytes}
use Rattle.kind_core.specs.Tests.{◌>>=◌, within}
use Rattle.kind_core.specs.Tests as tests
use Rattle.kind_core.specs.Kinds as kinds
use Rattle.kind_core.specs.Describes.{Describes}
use Rattle.cell_core.specs.bpf_isa.declared.instruction.Insn.{Insn}
use Rattle.cell_core.specs.bpf_isa.declared.operation.Op.TheVariants.{Load}
use Rattle.register_cells.specs.Giving.{given}
use Rattle.xdp_state.specs.declared.refusal.Why.{Why}
use Rattle.kind_core.specs.Places as places
use Rattle.kind_core.specs.Access as kind
use Rattle.cell_core.specs.Cells.{CellView, IsRun}
use Rattle.operator_cells.specs.Making.{Grows, MakesIf}
use Rattle.operator_cells.specs.declared.held_cells.machine_cells.RegisterCells.{RegisterCells}
use Rattle.operator_cells.specs.HeldCells.RegisterCells.{PointerView}
use Rattle.operator_cells.specs.HeldCells.Carrying.{IsKnown, Gives}
use Rattle.register_cells.specs.Reading.{Yields}
use Rattle.register_cells.proofs.Growing.{ok_map}
use Rattle.kind_core.proofs.TestLaws.{bind_ok}
use Rattle.register_cells.proofs.Known.{slot_read, gives_yielded}

-- ---- numbers of bytes

little_same : (i n : ℕ) (xs ys : List ℕ) → ((j : ℕ) → i ≤ j → j < i + n → slice_index xs j ≡ slice_index ys j) → little_from i n xs ≡ little_from i n ys
little_same i zero xs ys h = refl
little_same i (suc n) xs ys h =
    let first = h i (omega arith) (omega arith) in
    let rest = little_same (suc i) n xs ys (λ j l m. h j (omega (arith, l)) (omega (arith, m))) in
    rw (first, rest) refl

pub range_at : (xs : List ℕ) (a n j : ℕ) → j < n → slice_index (slice_range xs a (a + n)) j ≡ slice_index xs (a + j)
range_at xs a n j h = let e : a + n - a ≡ n = omega arith in get_or-take (a + n - a) (drop a xs) j 0 (omega (arith, e, h)) ∙ get_or-drop a xs j 0

pub range_length : (xs : List ℕ) (a n : ℕ) → a + n ≤ length xs → length (slice_range xs a (a + n)) ≡ n
range_length xs a n h = grind (arith, length-take, length-drop)

-- bytes in cells
pub window_number : (v : ℕ → ℕ) (frame window : List ℕ) (size : Size) (at : ℕ) → at + bytes_in size ≤ 256 → length window ≡ 256
    → ((i : ℕ) → i < 256 → slice_index frame i ≡ v (slice_index window i))
    → number_at size at frame ≡ little_number (length (slice_range window at (at + bytes_in size))) (map_list v (slice_range window at (at + bytes_in size)))
window_number v frame window size at fits whole same =
    let k : ℕ = bytes_in size in
    let bs : List ℕ = slice_range window at (at + k) in
    let long : length bs ≡ k = range_length window at k (omega (arith, fits, whole)) in
    little_same 0 k (slice_range frame at (at + k)) (map_list v bs) (λ j l m.
    range_at frame at k j (omega (arith, m)) ∙ same (at + j) (omega (arith, m, fits)) ∙ ap v (sym (range_at window at k j (omega (arith, m))))
    ∙ sym (get_or-map v bs j 0 0 (omega (arith, m, long))))
    ∙ ap (λ (n : ℕ). little_number n (map_list v bs)) (sym long)

pub window_small : (v : ℕ → ℕ) (frame window : List ℕ) (at n : ℕ) → at + n ≤ 256 → length window ≡ 256 → All (λ b. b < 256) frame
    → ((i : ℕ) → i < 256 → slice_index frame i ≡ v (slice_index window i)) → All (λ i. v i < 256) (slice_range window at (at + n))
window_small v frame window at n fits whole bytes same j d l =
    let long : length (slice_range window at (at + n)) ≡ n = range_length window at n (omega (arith, fits, whole)) in
    let below : j < n = omega (arith, l, long) in
    let e : get_or (slice_range window at (at + n)) j d ≡ slice_index window (at + j) = get_or_default (slice_range window at (at + n)) j d 0 l ∙ range_at window at n j below in
    rw e (subst (λ (b : ℕ). b < 256) (same (at + j) (omega (arith, below, fits))) (byte_at frame (at + j)))
  where
    past : (xs : List ℕ) (i : ℕ) → length xs ≤ i → slice_index xs i ≡ 0
    past [] i h = refl
    past (x ∷ xs) zero h = absurd (omega (arith, h))
    past (x ∷ xs) (suc i) h = past xs i (omega (arith, h))

    byte_at : (xs : List ℕ) (i : ℕ) → slice_index frame i < 256
    byte_at xs i = by (cases_lt i (length frame))
      where
        by : (i < length frame) ⊎ (length frame ≤ i) → slice_index frame i < 256
        by (inl h) = bytes i 0 h
        by (inr h) = rw (past frame i h) (omega arith)

-- ---- what is found at a place

pub gives_as : (decls : List MapDecl) (ps : List PointerView) (node : ℕ) (k : Kinds) (h : RegisterCells) (old new : List CellView) (x : Kind) (c : ℕ) (f g : Machine → Option Value)
    → ((packet : PacketIn) (v : ℕ → ℕ) (m : Machine) → IsKnown decls packet v ps node k h m → f m ≡ g m) → Gives decls ps node k h old new x c f → Gives decls ps node k h old new x c g
gives_as decls ps node k h old new x c f g same gives = record {
  grows = gives.grows;
  counts = gives.counts;
  holds = λ packet v m y run known e. gives.holds packet v m y run known (same packet v m known ∙ e);
}

-- a number that cells have, in place of what is found
gives_number_made : {lo hi : ℕ} (decls : List MapDecl) (ps : List PointerView) (node : ℕ) (k : Kinds) (h : RegisterCells) (old new : List CellView) (c : ℕ) (f : Machine → Option Value)
    → Grows old new → c < length new
    → ((packet : PacketIn) (v : ℕ → ℕ) (m : Machine) (y : Value) → IsRun packet new v → IsKnown decls packet v ps node k h m → f m ≡ Some y → y ≡ is.Number (v c))
    → Gives decls ps node k h old new (Num (Between lo hi)) c f
gives_number_made decls ps node k h old new c f grows there value = record { grows = grows; counts = there; holds = value }

frame_number : (frame : List ℕ) (a : ℕ) (size : Size) (y : Value) → machine.from_frame frame (pos a) size ≡ Some y → y ≡ is.Number (number_at size a frame)
frame_number frame a size y e = by (nat_le (a + bytes_in size) (length frame)) refl
  where
    by : (t : Bool) → nat_le (a + bytes_in size) (length frame) ≡ t → y ≡ is.Number (number_at size a frame)
    by true t = let f = rw t at e in cc
    by false t = let f = rw t at e in cc

pub inside_is : (z : ℤ) (n len a : ℕ) → inside z n len ≡ Some a → z ≡ pos a
inside_is (pos b) n len a e = by (nat_le (b + n) len) refl
  where
    by : (t : Bool) → nat_le (b + n) len ≡ t → pos b ≡ pos a
    by true t = let f = rw t at e in cc
    by false t = let f = rw t at e in cc
inside_is (negsuc b) n len a e = cc

-- a number of the packet is not known
pub in_packet_all : (P : Kind → Type 0) (slots : List Kind) (size : Size) (checked a : ℕ) → P (Num (any_bytes size)) → IfOk (places.in_packet checked (pos a) (bytes_in size) >>= (λ place. kind.found slots size place)) P
in_packet_all P slots size checked a h = by (nat_le (a + bytes_in size) 256) refl (nat_le (a + bytes_in size) checked) refl
  where
    by : (s : Bool) → nat_le (a + bytes_in size) 256 ≡ s → (t : Bool) → nat_le (a + bytes_in size) checked ≡ t → IfOk (places.in_packet checked (pos a) (bytes_in size) >>= (λ place. kind.found slots size place)) P
    by true e true g = rw (e, g) h
    by true e false g = rw (e, g) tt
    by false e t g = rw e tt

pub packet_gives : (decls : List MapDecl) (ps : List PointerView) (node : ℕ) (k : Kinds) (h : RegisterCells) (old new : List CellView) (o : ℕ) (offset : ℤ) (size : Size) (at c : ℕ) (bs : List ℕ)
    → length h.window ≡ 256 → inside (pos o +ℤ offset) (bytes_in size) 256 ≡ Some at → at + bytes_in size ≤ 256 → bs ≡ slice_range h.window at (at + bytes_in size)
    → MakesIf old new c (λ v. All (λ i. v i < 256) bs) (λ packet v. little_number (length bs) (map_list v bs))
    → IfOk (kind.loaded decls k (Packet o) offset size) (λ x. Gives decls ps node k h old new x c (λ m. machine.loaded m (is.Packet (pos o)) offset size))
unfolding kind.loaded
packet_gives decls ps node k h old new o offset size at c bs whole e fits named made =
    let z = inside_is (pos o +ℤ offset) (bytes_in size) 256 at e in
    subst (λ (y : ℤ). IfOk (places.in_packet k.checked y (bytes_in size) >>= (λ place. kind.found k.slots size place)) (λ x. Gives decls ps node k h old new x c (λ m. machine.from_frame m.frame y size))) (sym z)
    (in_packet_all (λ x. Gives decls ps node k h old new x c (λ m. machine.from_frame m.frame (pos at) size)) k.slots size k.checked at
    (gives_number_made decls ps node k h old new c (λ m. machine.from_frame m.frame (pos at) size) made.grows made.there
    (λ packet v m y run known f. frame_number m.frame at size y f ∙ ap is.Number
    (window_number v m.frame h.window size at fits whole known.held.window ∙ sym (made.value packet v run
    (subst (λ (xs : List ℕ). All (λ i. v i < 256) xs) (sym named) (window_small v m.frame h.window at (bytes_in size) fits whole known.in_range.frame known.held.window))
    ∙ ap (λ (xs : List ℕ). little_number (length xs) (map_list v xs)) named)))))

pub not_in_packet : {A : Type 0} (checked : ℕ) (z : ℤ) (size : Size) (f : _ → Result A Why) (P : A → Type 0) → inside z (bytes_in size) 256 ≡ None → IfOk (places.in_packet checked z (bytes_in size) >>= f) P
not_in_packet checked (negsuc a) size f P e = tt
not_in_packet checked (pos a) size f P e = test (nat_le (a + bytes_in size) 256) refl
  where
    test : (t : Bool) → nat_le (a + bytes_in size) 256 ≡ t → IfOk (places.in_packet checked (pos a) (bytes_in size) >>= f) P
    test true t = let g = rw t at e in absurd cc
    test false t = rw t tt

pub packet_none : (decls : List MapDecl) (k : Kinds) (o : ℕ) (offset : ℤ) (size : Size) (P : Kind → Type 0) → inside (pos o +ℤ offset) (bytes_in size) 256 ≡ None → IfOk (kind.loaded decls k (Packet o) offset size) P
unfolding kind.loaded
packet_none decls k o offset size P e = not_in_packet k.checked (pos o +ℤ offset) size (λ place. kind.found k.slots size place) P e

-- ---- the stack

pub aligned_is : (z : ℤ) (n len a : ℕ) → aligned z n len ≡ Some a → (z ≡ pos a) × (nat_le (a + n) len ≡ true) × ((a % n == 0) ≡ true)
aligned_is (pos b) n len a e = by (nat_le (b + n) len) refl (b % n == 0) refl
  where
    by : (s : Bool) → nat_le (b + n) len ≡ s → (t : Bool) → (b % n == 0) ≡ t → (pos b ≡ pos a) × (nat_le (a + n) len ≡ true) × ((a % n == 0) ≡ true)
    by true h true g = let f = rw (h, g) at e in let q : b ≡ a = cc in (ap pos q, ap (λ (i : ℕ). nat_le (i + n) len) (sym q) ∙ h, ap (λ (i : ℕ). i % n == 0) (sym q) ∙ g)
    by true h false g = let f = rw (h, g) at e in absurd cc
    by false h t g = let f = rw h at e in absurd cc
aligned_is (negsuc b) n len a e = absurd cc

pub stack_gives : (decls : List MapDecl) (ps : List PointerView) (node : ℕ) (k : Kinds) (h : RegisterCells) (old new : List CellView) (o offset : ℤ) (size : Size) (at c : ℕ)
    → at < 512 → machine.in_stack (o +ℤ offset) (bytes_in size) ≡ Some at
    → IfOk (kind.from_slot size (at % 8) (get_or k.slots (at / 8) Unset)) (λ x. Yields decls ps (get_or k.slots (at / 8) Unset) (slice_index h.slots (at / 8)) (get_or k.slots (at / 8) Unset) (slice_index h.slots (at / 8)) old new x c
    (λ s t. machine.from_slot size (at % 8) t))
    → IfOk (kind.loaded decls k (Stack o) offset size) (λ x. Gives decls ps node k h old new x c (λ m. machine.loaded m (is.Stack o) offset size))
unfolding kind.loaded
stack_gives decls ps node k h old new o offset size at c within e yields =
    let z = aligned_is (o +ℤ offset +ℤ pos 512) (bytes_in size) 512 at e in
    let slot : at / 8 < 64 = omega (arith, within) in
    let kd : Kind = get_or k.slots (at / 8) Unset in let p : ℕ = slice_index h.slots (at / 8) in
    let found = ok_map (kind.from_slot size (at % 8) kd) _ (λ x. Gives decls ps node k h old new x c (λ m. machine.loaded m (is.Stack o) offset size))
    (λ x y. gives_as decls ps node k h old new x c (λ m. machine.from_slot size (at % 8) (get_or m.stack (at / 8) is.Unset)) (λ m. machine.loaded m (is.Stack o) offset size)
    (λ packet v m known. rw (z.0, z.1, z.2) refl)
    (gives_yielded decls ps node k h kd p kd p old new x c (λ s t. machine.from_slot size (at % 8) t) (λ m. get_or m.stack (at / 8) is.Unset) (λ m. get_or m.stack (at / 8) is.Unset)
    (λ packet v m known. let r = slot_read decls packet v ps node k h m (at / 8) known slot in (r, r)) y)) yields in
    let is_slot : kind.loaded decls k (Stack o) offset size ≡ (tests.readable kd >>= (λ u. kind.from_slot size (at % 8) kd)) = rw (z.0, z.1, z.2) refl in
    subst (λ r. IfOk r (λ x. Gives decls ps node k h old new x c (λ m. machine.loaded m (is.Stack o) offset size))) (sym is_slot)
    (bind_ok (tests.readable kd) (λ u. kind.from_slot size (at % 8) kd) _ (λ u q. found))

-- an access that does not lie there is not allowed
pub not_in_stack : {A : Type 0} (z : ℤ) (size : Size) (f : _ → Result A Why) (P : A → Type 0) → machine.in_stack z (bytes_in size) ≡ None → IfOk (places.in_stack z size >>= f) P
not_in_stack z size f P e = by (z +ℤ pos 512) refl e
  where
    by : (y : ℤ) → z +ℤ pos 512 ≡ y → aligned y (bytes_in size) 512 ≡ None → IfOk (places.in_stack z size >>= f) P
    by (negsuc a) q g = rw q tt
    by (pos a) q g = test (nat_le (a + bytes_in size) 512) refl (a % bytes_in size == 0) refl
      where
        test : (s : Bool) → nat_le (a + bytes_in size) 512 ≡ s → (t : Bool) → (a % bytes_in size == 0) ≡ t → IfOk (places.in_stack z size >>= f) P
        test true h true t = let r = rw (h, t) at g in absurd cc
        test true h false t = rw (q, h, t) tt
        test false h t r = rw (q, h) tt

pub stack_none : (decls : List MapDecl) (k : Kinds) (o offset : ℤ) (size : Size) (P : Kind → Type 0) → machine.in_stack (o +ℤ offset) (bytes_in size) ≡ None → IfOk (kind.loaded decls k (Stack o) offset size) P
unfolding kind.loaded
stack_none decls k o offset size P e = not_in_stack (o +ℤ offset) size (λ place. kind.found k.slots size place) P e

pub some_bytes : (size : Size) → 1 ≤ bytes_in size
some_bytes B = omega arith
some_bytes H = omega arith
some_bytes W = omega arith
some_bytes Dw = omega arith

-- ---- MEM

pub register_is : (decls : List MapDecl) (packet : PacketIn) (v : ℕ → ℕ) (ps : List PointerView) (node : ℕ) (k : Kinds) (h : RegisterCells) (m : Machine) (r : ℕ) (x : Kind) (known : IsKnown decls packet v ps node k h m)
    → kinds.register k r ≡ x → Describes known.world m.maps x (register m.registers r)
register_is decls packet v ps node k h m r x known e = subst (λ (y : Kind). Describes known.world m.maps y (register m.registers r)) e (known.stands.described.registers r)

pub load_packet : (decls : List MapDecl) (ps : List PointerView) (refs : List ℕ) (node : ℕ) (k : Kinds) (h : RegisterCells) (i : Insn) (old new : List CellView) (o : ℕ) (size : Size) (c : ℕ) {z : ℤ} → kinds.register k i.src ≡ Packet o → z ≡ i.offset
    → IfOk (kind.loaded decls k (Packet o) z size) (λ x. Gives decls ps node k h old new x c (λ m. machine.loaded m (is.Packet (pos o)) z size))
    → IfOk (kind.loaded_plain decls k (kinds.register k i.src) i.offset size) (λ x. Gives decls ps node k h old new x c (λ m. given refs m i (Load size)))
unfolding kind.loaded_plain
load_packet decls ps refs node k h i old new o size c {z} e at gives =
    subst (λ (b : Kind). IfOk (kind.loaded_plain decls k b i.offset size) (λ x. Gives decls ps node k h old new x c (λ m. given refs m i (Load size)))) (sym e)
    (ok_map (kind.loaded decls k (Packet o) i.offset size) _ (λ x. Gives decls ps node k h old new x c (λ m. given refs m i (Load size)))
    (λ x g. gives_as decls ps node k h old new x c (λ m. machine.loaded m (is.Packet (pos o)) i.offset size) (λ m. given refs m i (Load size))
    (λ packet v m known. sym (ap (λ (b : Value). machine.loaded_plain m b i.offset size) (register_is decls packet v ps node k h m i.src (Packet o) known e))) g)
    (subst (λ (y : ℤ). IfOk (kind.loaded decls k (Packet o) y size) (λ x. Gives decls ps node k h old new x c (λ m. machine.loaded m (is.Packet (pos o)) y size))) at gives))

pub load_stack : (decls : List MapDecl) (ps : List PointerView) (refs : List ℕ) (node : ℕ) (k : Kinds) (h : RegisterCells) (i : Insn) (old new : List CellView) (o : ℤ) (size : Size) (c : ℕ) {z : ℤ} → kinds.register k i.src ≡ Stack o → z ≡ i.offset
    → IfOk (kind.loaded decls k (Stack o) z size) (λ x. Gives decls ps node k h old new x c (λ m. machine.loaded m (is.Stack o) z size))
    → IfOk (kind.loaded_plain decls k (kinds.register k i.src) i.offset size) (λ x. Gives decls ps node k h old new x c (λ m. given refs m i (Load size)))
unfolding kind.loaded_plain
load_stack decls ps refs node k h i old new o size c {z} e at gives =
    subst (λ (b : Kind). IfOk (kind.loaded_plain decls k b i.offset size) (λ x. Gives decls ps node k h old new x c (λ m. given refs m i (Load size)))) (sym e)
    (ok_map (kind.loaded decls k (Stack o) i.offset size) _ (λ x. Gives decls ps node k h old new x c (λ m. given refs m i (Load size)))
    (λ x g. gives_as decls ps node k h old new x c (λ m. machine.loaded m (is.Stack o) i.offset size) (λ m. given refs m i (Load size))
    (λ packet v m known. sym (ap (λ (b : Value). machine.loaded_plain m b i.offset size) (register_is decls packet v ps node k h m i.src (Stack o) known e))) g)
    (subst (λ (y : ℤ). IfOk (kind.loaded decls k (Stack o) y size) (λ x. Gives decls ps node k h old new x c (λ m. machine.loaded m (is.Stack o) y size))) at gives))

pub load_context : (decls : List MapDecl) (ps : List PointerView) (refs : List ℕ) (node : ℕ) (k : Kinds) (h : RegisterCells) (i : Insn) (old new : List CellView) (size : Size) (c : ℕ) {z : ℤ} → kinds.register k i.src ≡ Ctx → z ≡ i.offset
    → IfOk (kind.from_context z size) (λ x. Gives decls ps node k h old new x c (λ m. machine.loaded_plain m is.Context z size))
    → IfOk (kind.loaded_plain decls k (kinds.register k i.src) i.offset size) (λ x. Gives decls ps node k h old new x c (λ m. given refs m i (Load size)))
unfolding kind.loaded_plain
load_context decls ps refs node k h i old new size c {z} e at gives =
    subst (λ (b : Kind). IfOk (kind.loaded_plain decls k b i.offset size) (λ x. Gives decls ps node k h old new x c (λ m. given refs m i (Load size)))) (sym e)
    (ok_map (kind.from_context i.offset size) _ (λ x. Gives decls ps node k h old new x c (λ m. given refs m i (Load size)))
    (λ x g. gives_as decls ps node k h old new x c (λ m. machine.loaded_plain m is.Context i.offset size) (λ m. given refs m i (Load size))
    (λ packet v m known. sym (ap (λ (b : Value). machine.loaded_plain m b i.offset size) (register_is decls packet v ps node k h m i.src Ctx known e))) g)
    (subst (λ (y : ℤ). IfOk (kind.from_context y size) (λ x. Gives decls ps node k h old new x c (λ m. machine.loaded_plain m is.Context y size))) at gives))

-- nothing is loaded through anything else
pub load_other : (decls : List MapDecl) (k : Kinds) (b : Kind) (offset : ℤ) (size : Size) (P : Kind → Type 0) → b ≢ Ctx → ((o : ℕ) → b ≢ Packet o) → ((o : ℤ) → b ≢ Stack o) → ((q o : ℕ) → b ≢ Entry q o) → ((x : Base) (f : ℤ) → b ≢ Var x f)
    → IfOk (kind.loaded_plain decls k b offset size) P
unfolding kind.loaded_plain kind.loaded
load_other decls k Ctx offset size P e f g h v = absurd (e refl)
load_other decls k (Packet o) offset size P e f g h v = absurd (f o refl)
load_other decls k (Stack o) offset size P e f g h v = absurd (g o refl)
load_other decls k (Entry q o) offset size P e f g h v = absurd (h q o refl)
load_other decls k (Var x z) offset size P e f g h v = absurd (v x z refl)
load_other decls k b offset size P e f g h v = tt
