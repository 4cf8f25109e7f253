-- Stores.
use Rattle.std.proofs.Common.{◌≡◌, ◌≢◌, ℕ, ◌+◌, ◌/◌, ◌%◌, ◌<◌, ◌≤◌, inl, inr, ℤ, pos, ◌+ℤ◌, nat_le, Bool, true, false, Option, Some, None, Result, Ok, Err, IfOk, OnOk, List, length, get_or, slice_index, slice_set, refl, sym, ◌∙◌, ap, subst, arith}
use Rattle.std.proofs.lemmas.Result.{on_ok_weaker}
use Rattle.byteorder.specs.Endian.{little_number, little_bytes}
use Rattle.cell_core.specs.bpf_isa.declared.operation.Size.{Size}
use Rattle.cell_core.specs.bpf_isa.declared.operation.Src.{Src}
use Rattle.cell_core.specs.bpf_isa.declared.instruction.Insn.{Insn}
use Rattle.cell_core.specs.bpf_isa.declared.operation.Size.TheVariants.{B, H, W, Dw}
use Rattle.cell_core.specs.xdp_maps.declared.decl.MapDecl.{MapDecl}
use Rattle.cell_core.specs.xdp_maps.State.{MapState}
use Rattle.cell_core.specs.xdp_maps.Calls.{patched}
use Rattle.cell_core.specs.xdp_machine.Values.{Value}
use Rattle.cell_core.specs.xdp_machine.Values as is
use Rattle.cell_core.specs.xdp_machine.State.{Machine, PacketIn, register}
use Rattle.cell_core.specs.xdp_machine.Step as step
use Rattle.cell_core.specs.xdp_machine.Memory.{bytes_in, inside}
use Rattle.cell_core.specs.xdp_machine.Memory as machine
use Rattle.kind_core.specs.declared.number.Number.{Number}
use Rattle.kind_core.specs.declared.number.Number.TheVariants.{Known, Between}
use Rattle.kind_core.specs.declared.kind.Kind.{Kind}
use Rattle.kind_core.specs.declared.kind.Kind.TheVariants.{Unset, Num, Packet, Var, End, Stack, Ctx, MapRef, Maybe, Entry, Stale, Mixed}
use Rattle.kind_core.specs.declared.base.Base.{Base}
use Rattle.kind_core.specs.declared.kind.Kinds.{Kinds}
use Rattle.xdp_state.specs.declared.refusal.Why.{Why}
use Rattle.kind_core.specs.Places as places
use Rattle.kind_core.specs.Numbers.{number_patched}
use Rattle.kind_core.specs.Kinds.{with_slot}
use Rattle.kind_core.specs.Kinds as kinds
use Rattle.kind_core.specs.Profile as profile
use Rattle.kind_core.specs.Effects.{operand, effect_as, effect_of, verdict}
use Rattle.kind_core.specs.Edges.{changed, changed_if, transferred}
use Rattle.kind_core.specs.Tests.{◌>>=◌, passed, number_in}
use Rattle.kind_core.specs.Access.{underlying}
use Rattle.kind_core.specs.Access as access
use Rattle.kind_core.specs.Describes.{World, Describes}
use Rattle.cell_core.specs.Cells.{CellView}
use Rattle.operator_cells.specs.declared.held_cells.machine_cells.RegisterCells.{RegisterCells}
use Rattle.operator_cells.specs.HeldCells.RegisterCells.{PointerView, Holds, Counts, AreInside, number_of, IsThere}
use Rattle.operator_cells.specs.HeldCells.Carrying.{IsKnown, Carries}
use Rattle.register_cells.specs.Reading.{IsRead, Finds}
use Rattle.register_cells.specs.Giving.{numbered}
use Rattle.register_cells.specs.Storing.{left_of, IsSource, Fills, Leaves}
use Rattle.operator_cells.specs.Spreading.{MakesBytes}
use Rattle.kind_core.proofs.TestLaws.{bind_ok, bind_all, bind_passed}
use Rattle.register_cells.proofs.Known.{slot_read, frame_short}
use Rattle.register_cells.proofs.Carrying.{slot_inside, slot_held, passed_ok}
use Rattle.register_cells.proofs.Growing.{ok_map}
use Rattle.register_cells.proofs.Loads.{inside_is, aligned_is, not_in_stack, not_in_packet}
use Rattle.register_cells.proofs.Stored.{stack_stored, packet_stored, number_is, window_inside, window_held}

-- ---- what a part of a slot is stored into

left_by : (decls : List MapDecl) (packet : PacketIn) (v : ℕ → ℕ) (ps : List PointerView) (w : World) (maps : MapState) (a : Kind) (p : ℕ) (x : Value) (n : Number)
    → Describes w maps a x → IsRead decls packet v ps a p x → a ≢ Unset → underlying a ≡ Ok n → machine.underlying x ≡ left_of v a p
left_by decls packet v ps w maps (Num m) p x n d r some e = ap machine.underlying r.0
left_by decls packet v ps w maps Unset p x n d r some e = absurd (some refl)
left_by decls packet v ps w maps Mixed p x n d r some e = absurd (cc)
left_by decls packet v ps w maps (Packet o) p x n d r some e = ap machine.underlying d
left_by decls packet v ps w maps (Var b f) p x n d r some e = ap machine.underlying d.value
left_by decls packet v ps w maps End p x n d r some e = ap machine.underlying d
left_by decls packet v ps w maps (Stack o) p x n d r some e = ap machine.underlying d
left_by decls packet v ps w maps Ctx p x n d r some e = ap machine.underlying d
left_by decls packet v ps w maps (MapRef q) p x n d r some e = ap machine.underlying d
left_by decls packet v ps w maps (Maybe q j) p x n (before, gave, inl z) r some e = ap machine.underlying z
left_by decls packet v ps w maps (Maybe q j) p x n (before, gave, inr (key, there, z)) r some e = ap machine.underlying z
left_by decls packet v ps w maps (Entry q o) p x n (key, there, z) r some e = ap machine.underlying z
left_by decls packet v ps w maps Stale p x n (inl z) r some e = ap machine.underlying z
left_by decls packet v ps w maps Stale p x n (inr (q, key, o, z)) r some e = ap machine.underlying z

left_is : (decls : List MapDecl) (packet : PacketIn) (v : ℕ → ℕ) (ps : List PointerView) (node : ℕ) (k : Kinds) (h : RegisterCells) (m : Machine) (s : ℕ) (n : Number) → IsKnown decls packet v ps node k h m → s < 64
    → underlying (get_or k.slots s Unset) ≡ Ok n → machine.underlying (get_or m.stack s is.Unset) ≡ left_of v (get_or k.slots s Unset) (slice_index h.slots s)
left_is decls packet v ps node k h m s n known below e =
    left_by decls packet v ps known.world m.maps (get_or k.slots s Unset) (slice_index h.slots s) (get_or m.stack s is.Unset) n
    (known.stands.described.slots s) (slot_read decls packet v ps node k h m s known below) (known.filled s below) e

-- ---- a slot that is stored into

pub counts_number : (decls : List MapDecl) (n : ℕ) (ps : List PointerView) (g : Number) (c : ℕ) → IsThere n g c → Counts decls n ps (Num g) c
counts_number decls n ps (Known a) c h = tt
counts_number decls n ps (Between lo hi) c h = h

pub holds_number : (decls : List MapDecl) (v : ℕ → ℕ) (ps : List PointerView) (g : Number) (c : ℕ) (y : Value) → y ≡ is.Number (number_of v g c) → Holds decls v ps (Num g) c y
holds_number decls v ps (Known a) c y h = tt
holds_number decls v ps (Between lo hi) c y h = h

abbrev part : Size → ℕ → ℕ → ℕ → ℕ
part size at old n = little_number 8 (patched (little_bytes 8 old) at (little_bytes (bytes_in size) n))

-- a part of a slot gets a number
fills_part : (decls : List MapDecl) (ps : List PointerView) (size : Size) (at : ℕ) (a : Kind) (p : ℕ) (n : Number) (q : ℕ) (old new : List CellView) (m : Number) (c : ℕ)
    → ((s t : Value) → machine.to_slot size at s t ≡ numbered (part size at (machine.underlying s)) t)
    → underlying a ≡ Ok m → Finds old new (number_patched size at m n) c (λ packet v. part size at (left_of v a p) (number_of v n q))
    → Fills decls ps size at a p (Num n) q old new (Num (number_patched size at m n)) c
fills_part decls ps size at a p n q old new m c same e found = record {
  grows = found.grows;
  counts = counts_number decls (length new) ps (number_patched size at m n) c found.there;
  holds = λ packet v s t y run short under read f. holds_number decls v ps (number_patched size at m n) c y (by v s t y (under m e) read.0 (same s t) f ∙ ap is.Number (sym (found.value packet v run)));
}
  where
    by : (v : ℕ → ℕ) (s t y : Value) → machine.underlying s ≡ left_of v a p → t ≡ is.Number (number_of v n q)
        → machine.to_slot size at s t ≡ numbered (part size at (machine.underlying s)) t → machine.to_slot size at s t ≡ Some y
        → y ≡ is.Number (part size at (left_of v a p) (number_of v n q))
    by v s t y u r e f =
        let g = rw r at (sym e ∙ f) in
        let h : y ≡ is.Number (part size at (machine.underlying s) (number_of v n q)) = cc in
        h ∙ ap (λ (i : ℕ). is.Number (part size at i (number_of v n q))) u

over : (decls : List MapDecl) (ps : List PointerView) (size : Size) (at : ℕ) (a : Kind) (p : ℕ) (n : Number) (q : ℕ) (old new : List CellView) (c : ℕ)
    → ((s t : Value) → machine.to_slot size at s t ≡ numbered (part size at (machine.underlying s)) t)
    → ((m : Number) → underlying a ≡ Ok m → Finds old new (number_patched size at m n) c (λ packet v. part size at (left_of v a p) (number_of v n q)))
    → (r : Result Number Why) → underlying a ≡ r → IfOk (r >>= (λ m. Ok (Num (number_patched size at m n)))) (λ x. Fills decls ps size at a p (Num n) q old new x c)
over decls ps size at a p n q old new c same found (Ok m) e = fills_part decls ps size at a p n q old new m c same e (found m e)
over decls ps size at a p n q old new c same found (Err w) e = tt

pub part_fills : (decls : List MapDecl) (ps : List PointerView) (size : Size) (at : ℕ) (a : Kind) (p : ℕ) (n : Number) (q : ℕ) (old new : List CellView) (c : ℕ) → size ≢ Dw
    → ((m : Number) → underlying a ≡ Ok m → Finds old new (number_patched size at m n) c (λ packet v. part size at (left_of v a p) (number_of v n q)))
    → IfOk (access.to_slot size at a (Num n)) (λ x. Fills decls ps size at a p (Num n) q old new x c)
part_fills decls ps Dw at a p n q old new c other found = absurd (other refl)
part_fills decls ps B at a p n q old new c other found = over decls ps B at a p n q old new c (λ s t. refl) found (underlying a) refl
part_fills decls ps H at a p n q old new c other found = over decls ps H at a p n q old new c (λ s t. refl) found (underlying a) refl
part_fills decls ps W at a p n q old new c other found = over decls ps W at a p n q old new c (λ s t. refl) found (underlying a) refl

-- ---- a store into the stack

stack_fills : (decls : List MapDecl) (ps : List PointerView) (node : ℕ) (is_ref : Bool) (k : Kinds) (h : RegisterCells) (old new : List CellView) (o offset : ℤ) (size : Size) (b : Kind) (q : ℕ) (t : Machine → Value) (a c : ℕ) (x : Kind)
    → length k.slots ≡ 64 → length h.slots ≡ 64 → a < 512 → machine.in_stack (o +ℤ offset) (bytes_in size) ≡ Some a → AreInside decls (length old) ps h k → IsSource decls ps node k h b q t
    → Fills decls ps size (a % 8) (get_or k.slots (a / 8) Unset) (slice_index h.slots (a / 8)) b q old new x c
    → Leaves decls ps node k h (record h { slots = slice_set h.slots (a / 8) c }) old new (with_slot k (a / 8) x) (λ m. machine.stored m (is.Stack o) offset size (t m))
stack_fills decls ps node is_ref k h old new o offset size b q t a c x ks hs within place inside source fills = let slot : a / 8 < 64 = omega (arith, within) in record {
  grows = fills.grows;
  inside = slot_inside decls (length old) (length new) ps h k (a / 8) c x fills.grows.longer slot ks hs inside fills.counts;
  holds = λ packet v m n run known e.
      let y = stack_stored m n o offset size (t m) a place e in
      let one = fills.holds packet v (get_or m.stack (a / 8) is.Unset) (t m) y.0 run (frame_short decls packet v ps node k h m known)
      (λ l u. left_is decls packet v ps node k h m (a / 8) l known slot u) (source packet v m known) y.1 in
      rw y.2 (slot_held decls packet v ps h k m (a / 8) c x y.0 slot ks hs known.stands.stack known.held one);
}

pub slot_stored : (Q : Kinds → Type 0) (decls : List MapDecl) (node : ℕ) (is_ref : Bool) (k : Kinds) (o offset : ℤ) (size : Size) (b : Kind) (a : ℕ) → machine.in_stack (o +ℤ offset) (bytes_in size) ≡ Some a
    → IfOk (access.to_slot size (a % 8) (get_or k.slots (a / 8) Unset) b) (λ x. Q (with_slot k (a / 8) x)) → IfOk (access.stored decls k (Stack o) offset size b) (λ e. Q (changed node is_ref false k e))
unfolding access.stored
slot_stored Q decls node is_ref k o offset size b a place h =
    let z = aligned_is (o +ℤ offset +ℤ pos 512) (bytes_in size) 512 a place in
    rw (z.0, z.1, z.2) (bind_ok (access.to_slot size (a % 8) (get_or k.slots (a / 8) Unset) b) _ _ (λ x i. subst (λ r. IfOk r (λ y. Q (with_slot k (a / 8) y))) i h))

pub stack_stores : (decls : List MapDecl) (ps : List PointerView) (node : ℕ) (is_ref : Bool) (k : Kinds) (h : RegisterCells) (old new : List CellView) (o offset : ℤ) (size : Size) (b : Kind) (q : ℕ) (t : Machine → Value) (a c : ℕ)
    → length k.slots ≡ 64 → length h.slots ≡ 64 → a < 512 → machine.in_stack (o +ℤ offset) (bytes_in size) ≡ Some a → AreInside decls (length old) ps h k → IsSource decls ps node k h b q t
    → IfOk (access.to_slot size (a % 8) (get_or k.slots (a / 8) Unset) b) (λ x. Fills decls ps size (a % 8) (get_or k.slots (a / 8) Unset) (slice_index h.slots (a / 8)) b q old new x c)
    → IfOk (access.stored decls k (Stack o) offset size b) (λ e. Leaves decls ps node k h (record h { slots = slice_set h.slots (a / 8) c }) old new (changed node is_ref false k e) (λ m. machine.stored m (is.Stack o) offset size (t m)))
stack_stores decls ps node is_ref k h old new o offset size b q t a c ks hs within place there source fills =
    slot_stored (λ after. Leaves decls ps node k h (record h { slots = slice_set h.slots (a / 8) c }) old new after (λ m. machine.stored m (is.Stack o) offset size (t m))) decls node is_ref k o offset size b a place
    (ok_map (access.to_slot size (a % 8) (get_or k.slots (a / 8) Unset) b) _ _ (λ x f. stack_fills decls ps node is_ref k h old new o offset size b q t a c x ks hs within place there source f) fills)

pub stack_refused : (decls : List MapDecl) (k : Kinds) (o offset : ℤ) (size : Size) (b : Kind) (P : _ → Type 0) → machine.in_stack (o +ℤ offset) (bytes_in size) ≡ None
    → IfOk (access.stored decls k (Stack o) offset size b) P
unfolding access.stored
stack_refused decls k o offset size b P e = not_in_stack (o +ℤ offset) size (λ place. access.stored_at k.slots size b place) P e

-- ---- a store into the packet

pub number_stored : (Q : Kinds → Type 0) (node : ℕ) (is_ref : Bool) (k : Kinds) (size : Size) (x : Kind) (a : ℕ) → Q k
    → IfOk (places.in_packet k.checked (pos a) (bytes_in size) >>= (λ place. access.stored_at k.slots size x place)) (λ e. Q (changed node is_ref false k e))
number_stored Q node is_ref k size x a h = by (nat_le (a + bytes_in size) 256) refl (nat_le (a + bytes_in size) k.checked) refl
  where
    by : (s : Bool) → nat_le (a + bytes_in size) 256 ≡ s → (t : Bool) → nat_le (a + bytes_in size) k.checked ≡ t
        → IfOk (places.in_packet k.checked (pos a) (bytes_in size) >>= (λ place. access.stored_at k.slots size x place)) (λ e. Q (changed node is_ref false k e))
    by true e true g = rw (e, g) (bind_all (number_in x) _ _ (λ n. h))
    by true e false g = rw (e, g) tt
    by false e t g = rw e tt

pub packet_stores : (decls : List MapDecl) (ps : List PointerView) (node : ℕ) (is_ref : Bool) (k : Kinds) (h : RegisterCells) (old new : List CellView) (o : ℕ) (offset : ℤ) (size : Size) (i : Number) (q : ℕ) (t : Machine → Value) (a : ℕ) (cs : List ℕ)
    → length h.window ≡ 256 → inside (pos o +ℤ offset) (bytes_in size) 256 ≡ Some a → a + bytes_in size ≤ 256 → AreInside decls (length old) ps h k → IsSource decls ps node k h (Num i) q t
    → MakesBytes old new (bytes_in size) cs (λ v. little_bytes (bytes_in size) (number_of v i q))
    → IfOk (access.stored decls k (Packet o) offset size (Num i)) (λ e. Leaves decls ps node k h (record h { window = patched h.window a cs }) old new (changed node is_ref false k e) (λ m. machine.stored m (is.Packet (pos o)) offset size (t m)))
unfolding access.stored
packet_stores decls ps node is_ref k h old new o offset size i q t a cs whole e fits there source made =
    let z = inside_is (pos o +ℤ offset) (bytes_in size) 256 a e in
    subst (λ (y : ℤ). IfOk (places.in_packet k.checked y (bytes_in size) >>= (λ place. access.stored_at k.slots size (Num i) place))
    (λ f. Leaves decls ps node k h (record h { window = patched h.window a cs }) old new (changed node is_ref false k f) (λ m. machine.stored m (is.Packet (pos o)) offset size (t m)))) (sym z)
    (number_stored (λ after. Leaves decls ps node k h (record h { window = patched h.window a cs }) old new after (λ m. machine.stored m (is.Packet (pos o)) offset size (t m))) node is_ref k size (Num i) a (record {
      grows = made.grows;
      inside = window_inside decls (length old) (length new) ps h k a cs made.grows.longer (omega (arith, fits, made.count)) whole made.there there;
      holds = λ packet v m n run known f.
          let s = packet_stored m n (pos o) offset size (t m) a z f in
          let y = number_is s.0 (number_of v i q) (t m) s.1 (source packet v m known).0 in
          let bytes = made.values packet v run ∙ ap (little_bytes (bytes_in size)) (sym y) in
          rw s.3 (window_held decls packet v ps h k m a cs (little_bytes (bytes_in size) s.0) (omega (arith, fits, made.count)) whole bytes (omega (arith, s.2, made.count)) known.held);
    }))

pub all_ok : {A : Type 0} (r : Result A Why) (P : A → Type 0) → ((a : A) → P a) → IfOk r P
all_ok (Ok a) P f = f a
all_ok (Err e) P f = tt

pub packet_stored_by : {R E : Type 0} (r : Result R E) (decls : List MapDecl) (ps : List PointerView) (node : ℕ) (is_ref : Bool) (k : Kinds) (h next : RegisterCells) (old new : List CellView) (o : ℕ) (offset : ℤ) (size : Size) (b : Kind) (i : Number) (q : ℕ) (t : Machine → Value) (a : ℕ)
    → b ≡ Num i → length h.window ≡ 256 → inside (pos o +ℤ offset) (bytes_in size) 256 ≡ Some a → a + bytes_in size ≤ 256 → AreInside decls (length old) ps h k → IsSource decls ps node k h b q t
    → OnOk r ((bytes : List ℕ) × (next ≡ record h { window = patched h.window a bytes }) × MakesBytes old new (bytes_in size) bytes (λ v. little_bytes (bytes_in size) (number_of v i q)))
    → IfOk (access.stored decls k (Packet o) offset size b) (λ e. OnOk r (Leaves decls ps node k h next old new (changed node is_ref false k e) (λ m. machine.stored m (is.Packet (pos o)) offset size (t m))))
packet_stored_by (Err w) decls ps node is_ref k h next old new o offset size b i q t a is_number whole e fits there source stored = all_ok (access.stored decls k (Packet o) offset size b) _ (λ f. tt)
packet_stored_by (Ok u) decls ps node is_ref k h next old new o offset size b i q t a is_number whole e fits there source stored =
    rw (is_number, stored.1)
    (packet_stores decls ps node is_ref k h old new o offset size i q t a stored.0 whole e fits there (subst (λ (x : Kind). IsSource decls ps node k h x q t) is_number source) stored.2)

pub packet_refused : (decls : List MapDecl) (k : Kinds) (o : ℕ) (offset : ℤ) (size : Size) (b : Kind) (P : _ → Type 0) → inside (pos o +ℤ offset) (bytes_in size) 256 ≡ None
    → IfOk (access.stored decls k (Packet o) offset size b) P
unfolding access.stored
packet_refused decls k o offset size b P e = not_in_packet k.checked (pos o +ℤ offset) size (λ place. access.stored_at k.slots size b place) P e

-- nothing but a number goes into the packet
pub number_refused : (decls : List MapDecl) (k : Kinds) (o : ℕ) (offset : ℤ) (size : Size) (b : Kind) (P : _ → Type 0) (a : ℕ) → ((n : Number) → b ≢ Num n) → inside (pos o +ℤ offset) (bytes_in size) 256 ≡ Some a
    → IfOk (access.stored decls k (Packet o) offset size b) P
unfolding access.stored
number_refused decls k o offset size b P a other e = rw (inside_is (pos o +ℤ offset) (bytes_in size) 256 a e) (by b other (nat_le (a + bytes_in size) 256) refl (nat_le (a + bytes_in size) k.checked) refl)
  where
    by : (b : Kind) → ((n : Number) → b ≢ Num n) → (s : Bool) → nat_le (a + bytes_in size) 256 ≡ s → (t : Bool) → nat_le (a + bytes_in size) k.checked ≡ t
        → IfOk (places.in_packet k.checked (pos a) (bytes_in size) >>= (λ place. access.stored_at k.slots size b place)) P
    by (Num n) f s g t h = absurd (f n refl)
    by b f true g true h = rw (g, h) tt
    by b f true g false h = rw (g, h) tt
    by b f false g t h = rw g tt

-- ---- stores

pub leaves_as : (decls : List MapDecl) (ps : List PointerView) (node : ℕ) (k : Kinds) (h next : RegisterCells) (old new : List CellView) (after : Kinds) (f g : Machine → Option Machine)
    → ((packet : PacketIn) (v : ℕ → ℕ) (m : Machine) → IsKnown decls packet v ps node k h m → f m ≡ g m) → Leaves decls ps node k h next old new after f → Leaves decls ps node k h next old new after g
leaves_as decls ps node k h next old new after f g same leaves = record {
  grows = leaves.grows;
  inside = leaves.inside;
  holds = λ packet v m n run known e. leaves.holds packet v m n run known (same packet v m known ∙ e);
}

-- a store through the destination
pub store_as : {R E : Type 0} (r : Result R E) (decls : List MapDecl) (ps : List PointerView) (node : ℕ) (is_ref : Bool) (k : Kinds) (h next : RegisterCells) (i : Insn) (old new : List CellView) (base : Kind) (b : Value) (size : Size) (x y : Kind) (t : Machine → Value) {z : ℤ}
    → kinds.register k i.dst ≡ base → z ≡ i.offset → y ≡ x → ((packet : PacketIn) (v : ℕ → ℕ) (m : Machine) → IsKnown decls packet v ps node k h m → register m.registers i.dst ≡ b)
    → IfOk (access.stored decls k base z size y) (λ e. OnOk r (Leaves decls ps node k h next old new (changed node is_ref false k e) (λ m. machine.stored m b z size (t m))))
    → IfOk (access.stored decls k (kinds.register k i.dst) i.offset size x) (λ e. OnOk r (Leaves decls ps node k h next old new (changed node is_ref false k e) (λ m. machine.stored m (register m.registers i.dst) i.offset size (t m))))
store_as r decls ps node is_ref k h next i old new base b size x y t {z} e at same read leaves =
    let P : _ → Type 0 = λ e. OnOk r (Leaves decls ps node k h next old new (changed node is_ref false k e) (λ m. machine.stored m (register m.registers i.dst) i.offset size (t m))) in
    subst (λ (a : Kind). IfOk (access.stored decls k a i.offset size x) P) (sym e)
    (ok_map (access.stored decls k base i.offset size x) _ P
    (λ f g. on_ok_weaker r (leaves_as decls ps node k h next old new (changed node is_ref false k f) (λ m. machine.stored m b i.offset size (t m)) (λ m. machine.stored m (register m.registers i.dst) i.offset size (t m))
    (λ packet v m known. sym (ap (λ (a : Value). machine.stored m a i.offset size (t m)) (read packet v m known)))) g)
    (subst (λ (y : ℤ). IfOk (access.stored decls k base y size x) (λ e. OnOk r (Leaves decls ps node k h next old new (changed node is_ref false k e) (λ m. machine.stored m b y size (t m))))) at
    (subst (λ (w : Kind). IfOk (access.stored decls k base z size w) (λ e. OnOk r (Leaves decls ps node k h next old new (changed node is_ref false k e) (λ m. machine.stored m b z size (t m))))) same leaves)))

-- nothing is stored through anything else
pub store_refused : (decls : List MapDecl) (k : Kinds) (b : Kind) (offset : ℤ) (size : Size) (x : Kind) (P : _ → Type 0) → ((o : ℕ) → b ≢ Packet o) → ((o : ℤ) → b ≢ Stack o) → ((q o : ℕ) → b ≢ Entry q o) → ((y : Base) (z : ℤ) → b ≢ Var y z)
    → IfOk (access.stored decls k b offset size x) P
unfolding access.stored
store_refused decls k (Packet o) offset size x P f g h v = absurd (f o refl)
store_refused decls k (Stack o) offset size x P f g h v = absurd (g o refl)
store_refused decls k (Entry q o) offset size x P f g h v = absurd (h q o refl)
store_refused decls k (Var y z) offset size x P f g h v = absurd (v y z refl)
store_refused decls k b offset size x P f g h v = tt

-- what an allowed store leaves
pub store_passed : (P : Kinds → Type 0) (decls : List MapDecl) (node : ℕ) (is_ref : Bool) (k : Kinds) (i : Insn) (size : Size) (s : Src)
    → verdict (effect_of decls k i) ≡ passed → effect_as decls k i i.op ≡ access.stored decls k (kinds.register k i.dst) i.offset size (operand k i s)
    → IfOk (access.stored decls k (kinds.register k i.dst) i.offset size (operand k i s)) (λ e. P (changed node is_ref false k e)) → P (transferred decls k i node is_ref false)
unfolding effect_of
store_passed P decls node is_ref k i size s allowed kind_is leaves =
    let e = passed_ok (effect_of decls k i) allowed in
    let b = bind_passed (profile.profiled i k) (λ u. effect_as decls k i i.op) e.0 e.1 in
    subst P (sym (ap (changed_if node is_ref false k) e.1)) (subst (λ q. IfOk q (λ f. P (changed node is_ref false k f))) (sym kind_is ∙ b.2) leaves)

-- it carries this
pub store_carried : {R E : Type 0} (r : Result R E) (decls : List MapDecl) (ps : List PointerView) (node : ℕ) (is_ref : Bool) (k : Kinds) (h next : RegisterCells) (i : Insn) (old new : List CellView) (size : Size) (s : Src)
    → verdict (effect_of decls k i) ≡ passed → effect_as decls k i i.op ≡ access.stored decls k (kinds.register k i.dst) i.offset size (operand k i s)
    → ((refs : List ℕ) (m : Machine) → step.effect refs m i i.op ≡ machine.stored m (register m.registers i.dst) i.offset size (step.operand m.registers i s))
    → IfOk (access.stored decls k (kinds.register k i.dst) i.offset size (operand k i s)) (λ e. OnOk r (Leaves decls ps node k h next old new (changed node is_ref false k e) (λ m. machine.stored m (register m.registers i.dst) i.offset size (step.operand m.registers i s))))
    → OnOk r (Carries decls ps i node is_ref false k h next old new)
store_carried r decls ps node is_ref k h next i old new size s allowed kind_is machine_is leaves =
    let stores : Machine → Option Machine = λ m. machine.stored m (register m.registers i.dst) i.offset size (step.operand m.registers i s) in
    on_ok_weaker r (λ (l : Leaves decls ps node k h next old new (transferred decls k i node is_ref false) stores). record {
      grows = l.grows;
      inside = l.inside;
      holds = λ packet v m n refs run known at e. l.holds packet v m n run known (sym (machine_is refs m) ∙ e);
    }) (store_passed (λ after. OnOk r (Leaves decls ps node k h next old new after stores)) decls node is_ref k i size s allowed kind_is leaves)
