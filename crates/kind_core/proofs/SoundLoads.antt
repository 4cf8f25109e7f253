-- Loads through pointers that kinds describe give values that their kinds describe.
use Rattle.std.proofs.Common.{◌≡◌, ℕ, ◌+◌, ◌*◌, ◌/◌, ◌%◌, ◌^◌, ◌==◌, ◌<◌, ◌≤◌, ◌⊎◌, inl, inr, ℤ, pos, negsuc, ◌+ℤ◌, Bool, true, false, cond, nat_le, refl, sym, ap, ◌∙◌, subst, arith, Option, Some, None, Result, Ok, Err, IfOk, List, length, get_or, slice_get, is_some, IsTrue}
use Rattle.std.specs.Prelude.{IfSome}
use Rattle.std.proofs.lemmas.Option.{slice_get_within}
use Rattle.std.specs.Ordering.{int_eq}
use Rattle.byteorder.specs.Endian.{little_bytes}
use Rattle.xdp_machine.specs.bpf_isa.declared.operation.Size.{Size}
use Rattle.xdp_machine.specs.bpf_isa.declared.operation.Size.TheVariants.{B, H, W, Dw}
use Rattle.xdp_machine.specs.bpf_isa.declared.operation.Width.TheVariants.{Bits64}
use Rattle.xdp_machine.specs.xdp_maps.declared.decl.MapDecl.{MapDecl}
use Rattle.xdp_machine.specs.xdp_maps.Contents.{IsBytes}
use Rattle.xdp_machine.specs.xdp_maps.State.{MapState, IsSound, decl_at, contents_at}
use Rattle.xdp_machine.proofs.xdp_maps_laws.ByteLaws.{IsBytes-little_bytes}
use Rattle.xdp_machine.specs.Ranges.{IsInRange}
use Rattle.xdp_machine.proofs.PartLaws.{AreBytes}
use Rattle.xdp_machine.specs.xdp_maps.Calls.{lookup_of}
use Rattle.xdp_machine.specs.Values.{Value}
use Rattle.xdp_machine.specs.Values as is
use Rattle.xdp_machine.specs.State.{Machine}
use Rattle.xdp_machine.specs.Arithmetic.{extended}
use Rattle.xdp_machine.specs.Memory.{bytes_in, number_at}
use Rattle.xdp_machine.specs.Memory as machine
use Rattle.kind_core.specs.declared.kind.Kind.{Kind}
use Rattle.kind_core.specs.declared.kind.Kind.TheVariants.{Unset, Num, Packet, Var, End, Stack, Ctx, Entry, Stale, Mixed}
use Rattle.kind_core.specs.declared.base.Base.{Base}
use Rattle.kind_core.specs.declared.kind.Kinds.{Kinds}
use Rattle.kind_core.specs.declared.places.Place.{Place}
use Rattle.kind_core.specs.declared.places.Place.TheVariants.{InPacket, InStack, InEntry}
use Rattle.xdp_state.specs.declared.refusal.Why.{Why}
use Rattle.xdp_state.specs.declared.refusal.Why.TheVariants as why
use Rattle.kind_core.specs.NumberBounds.{any_number}
use Rattle.kind_core.specs.Numbers.{any_bytes, number_extended}
use Rattle.kind_core.specs.Kinds.{value_in, value_bytes}
use Rattle.kind_core.specs.Tests.{◌>>=◌, readable, number_in, within, aligned}
use Rattle.kind_core.specs.Places.{past_base, in_packet, in_stack, in_value}
use Rattle.kind_core.specs.Access.{context_field, from_slot, found, loaded, loaded_plain, loaded_signed}
use Rattle.kind_core.specs.Describes.{World, Describes, IsFrom, DescribesMachine}
use Rattle.kind_core.proofs.BoundLaws.{number_short, extended_is}
use Rattle.kind_core.proofs.Sound.{Gives, number_of, of_number, one_is, any_described}
use Rattle.kind_core.proofs.SoundBases.{at_value, past_base_is}
use Rattle.kind_core.proofs.TestLaws.{bind_ok, bind_passed, within_is}
use Rattle.kind_core.proofs.MachineSteps.{some_of, aligned_at, from_frame_at, from_stack_at, from_entry_at, signed_load}

pub aligned_is : (z : ℤ) (n len a : ℕ) → aligned z n len ≡ Ok a → (z ≡ pos a) × (nat_le (a + n) len ≡ true) × ((a % n == 0) ≡ true)
aligned_is z n len a e =
    let b = bind_passed (within z n len) (λ c. cond (c % n == 0) (Ok c) (Err why.Misaligned)) a e in
    let i = within_is z n len b.0 b.1 in
    (elim (b.0 % n == 0) as (λ t. cond t (Ok b.0) (Err why.Misaligned) ≡ Ok a → ((b.0 % n == 0) ≡ t) → (z ≡ pos a) × (nat_le (a + n) len ≡ true) × ((a % n == 0) ≡ true)) [
      | true ↦ λ f g. let same : b.0 ≡ a = cc in (i.0 ∙ ap pos same, subst (λ c. nat_le (c + n) len ≡ true) same i.1, subst (λ c. (c % n == 0) ≡ true) same g)
      | false ↦ λ f g. cc
    ]) b.2 refl

-- where an access to the packet lies that is checked
pub in_packet_is : (checked : ℕ) (z : ℤ) (n : ℕ) (p : Place) → in_packet checked z n ≡ Ok p → (a : ℕ) × (InPacket ≡ p) × (z ≡ pos a) × (nat_le (a + n) checked ≡ true)
in_packet_is checked z n p e =
    let b = bind_passed (within z n 256) (λ a. cond (nat_le (a + n) checked) (Ok InPacket) (Err why.Unchecked)) p e in
    let i = within_is z n 256 b.0 b.1 in
    (elim (nat_le (b.0 + n) checked) as (λ t. cond t (Ok InPacket) (Err why.Unchecked) ≡ Ok p → (nat_le (b.0 + n) checked ≡ t) → (a : ℕ) × (InPacket ≡ p) × (z ≡ pos a) × (nat_le (a + n) checked ≡ true)) [
      | true ↦ λ f g. let same : InPacket ≡ p = cc in (b.0, same, i.0, g)
      | false ↦ λ f g. cc
    ]) b.2 refl

-- what is read of so many bytes
bytes_described : (w : World) (maps : MapState) (size : Size) (a : ℕ) (bytes : List ℕ) → AreBytes bytes → Describes w maps (Num (any_bytes size)) (is.Number (number_at size a bytes))
bytes_described w maps size a bytes all = any_described (8 * bytes_in size) (number_at size a bytes) (number_short size a bytes all)

-- a load of bytes of the packet that are there
frame_load : (w : World) (maps : MapState) (slots : List Kind) (frame : List ℕ) (z : ℤ) (size : Size) (p : Place) (a : ℕ) → AreBytes frame → InPacket ≡ p → z ≡ pos a → nat_le (a + bytes_in size) (length frame) ≡ true
    → IfOk (found slots size p) (Gives w maps (machine.from_frame frame z size))
frame_load w maps slots frame z size p a bytes same at there =
    subst (λ x. IfOk (found slots size x) (Gives w maps (machine.from_frame frame z size))) same
    (is.Number (number_at size a frame), ap (λ x. machine.from_frame frame x size) at ∙ from_frame_at frame size a there, bytes_described w maps size a frame bytes)

packet_load : (w : World) (maps : MapState) (slots : List Kind) (frame : List ℕ) (checked : ℕ) (z : ℤ) (size : Size) → AreBytes frame → checked ≤ length frame
    → IfOk (in_packet checked z (bytes_in size) >>= (λ p. found slots size p)) (Gives w maps (machine.from_frame frame z size))
packet_load w maps slots frame checked z size bytes c =
    bind_ok (in_packet checked z (bytes_in size)) (λ p. found slots size p) (Gives w maps (machine.from_frame frame z size)) (λ p e.
    let i = in_packet_is checked z (bytes_in size) p e in
    let there : nat_le (i.0 + bytes_in size) (length frame) ≡ true = grind (arith, i.3) in
    frame_load w maps slots frame z size p i.0 bytes (i.1) (i.2) there)

base_load : (w : World) (maps : MapState) (slots : List Kind) (frame : List ℕ) (b : Base) (f : ℤ) (v : Value) (offset : ℤ) (size : Size) → AreBytes frame → length frame ≡ w.frame → (d : IsFrom w b f v)
    → IfOk (past_base b (f +ℤ offset) (bytes_in size) >>= (λ p. found slots size p)) (Gives w maps (machine.from_frame frame ((pos d.place +ℤ f) +ℤ offset) size))
base_load w maps slots frame b f v offset size bytes len d =
    let z = (pos d.place +ℤ f) +ℤ offset in
    bind_ok (past_base b (f +ℤ offset) (bytes_in size)) (λ p. found slots size p) (Gives w maps (machine.from_frame frame z size)) (λ p e.
    let i = past_base_is w b f v offset (bytes_in size) p d e in
    frame_load w maps slots frame z size p i.at bytes i.is_it i.place (subst (λ n. nat_le (i.at + bytes_in size) n ≡ true) (sym len) i.there))

slot_load : (w : World) (maps : MapState) (size : Size) (at : ℕ) (k : Kind) (v : Value) → Describes w maps k v
    → IfOk (readable k >>= (λ _. from_slot size at k)) (Gives w maps (machine.from_slot size at v))
slot_load w maps Dw at Unset v d = tt
slot_load w maps Dw at Mixed v d = tt
slot_load w maps Dw at Stale v d = tt
slot_load w maps Dw at k v d = (v, refl, d)
slot_load w maps B at (Num n) v d = let u = number_of n v d in rw (u.1) (is.Number (number_at B at (little_bytes 8 u.0)), refl, of_number _ _ (one_is (8 * bytes_in B) (λ x. number_at B at (little_bytes 8 x)) n u.0 (number_short B at (little_bytes 8 u.0) (IsBytes-little_bytes 8 u.0).bytes_fit) u.2))
slot_load w maps H at (Num n) v d = let u = number_of n v d in rw (u.1) (is.Number (number_at H at (little_bytes 8 u.0)), refl, of_number _ _ (one_is (8 * bytes_in H) (λ x. number_at H at (little_bytes 8 x)) n u.0 (number_short H at (little_bytes 8 u.0) (IsBytes-little_bytes 8 u.0).bytes_fit) u.2))
slot_load w maps W at (Num n) v d = let u = number_of n v d in rw (u.1) (is.Number (number_at W at (little_bytes 8 u.0)), refl, of_number _ _ (one_is (8 * bytes_in W) (λ x. number_at W at (little_bytes 8 x)) n u.0 (number_short W at (little_bytes 8 u.0) (IsBytes-little_bytes 8 u.0).bytes_fit) u.2))
slot_load w maps size at k v d = tt

stack_load : (w : World) (maps : MapState) (slots : List Kind) (stack : List Value) (z : ℤ) (size : Size)
    → ((s : ℕ) → Describes w maps (get_or slots s Unset) (get_or stack s is.Unset))
    → IfOk (in_stack z size >>= (λ p. found slots size p)) (Gives w maps (machine.from_stack stack z size))
stack_load w maps slots stack z size d =
    let P : Kind → Type 0 = λ k. Gives w maps (machine.from_stack stack z size) k in
    bind_ok (in_stack z size) (λ p. found slots size p) P (λ p e.
    let b = bind_passed (aligned (z +ℤ pos 512) (bytes_in size) 512) (λ a. Ok (InStack a)) p e in
    let i = aligned_is (z +ℤ pos 512) (bytes_in size) 512 b.0 b.1 in
    let same : InStack b.0 ≡ p = cc in
    let at : machine.in_stack z (bytes_in size) ≡ Some b.0 = ap (λ x. machine.aligned x (bytes_in size) 512) (i.0) ∙ aligned_at b.0 (bytes_in size) 512 (i.1) (i.2) in
    subst (λ x. IfOk (found slots size x) P) same
    (subst (λ o. IfOk (found slots size (InStack b.0)) (λ k. Gives w maps o k)) (sym (from_stack_at stack z size b.0 at))
    (slot_load w maps size (b.0 % 8) (get_or slots (b.0 / 8) Unset) (get_or stack (b.0 / 8) is.Unset) (d (b.0 / 8)))))

pub either_decl : (o : Option MapDecl) → (o ≡ None) ⊎ ((d : MapDecl) × (o ≡ Some d))
either_decl None = inl refl
either_decl (Some d) = inr (d, refl)

pub some_bytes : (size : Size) → 1 ≤ bytes_in size
some_bytes B = omega arith
some_bytes H = omega arith
some_bytes W = omega arith
some_bytes Dw = omega arith

-- the bytes of a value that is under a key
pub entry_bytes : (maps : MapState) (q : ℕ) (key value : List ℕ) (d : MapDecl) → IsSound maps → slice_get maps.decls q ≡ Some d → lookup_of (contents_at maps q) key ≡ Some value → AreBytes value
entry_bytes maps q key value d sound is at =
    let fits : IsBytes (decl_at maps q).value value = subst (λ o. IfSome o (IsBytes (decl_at maps q).value)) at ((sound.over q (slice_get_within maps.decls q d is)).values key) in
    fits.bytes_fit

entry_load : (w : World) (maps : MapState) (slots : List Kind) (q : ℕ) (key : List ℕ) (z : ℤ) (size : Size) → IsSound maps → IsTrue (is_some (lookup_of (contents_at maps q) key))
    → IfOk (in_value maps.decls q z size >>= (λ p. found slots size p)) (Gives w maps (machine.from_entry maps q key z size))
entry_load w maps slots q key z size sound there =
    let P : Kind → Type 0 = λ k. Gives w maps (machine.from_entry maps q key z size) k in
    bind_ok (in_value maps.decls q z size) (λ p. found slots size p) P (λ p e.
    let b = bind_passed (aligned z (bytes_in size) (value_bytes maps.decls q)) (λ a. Ok InEntry) p e in
    let i = aligned_is z (bytes_in size) (value_bytes maps.decls q) b.0 b.1 in
    let same : InEntry ≡ p = cc in
    let value = some_of (lookup_of (contents_at maps q) key) there in
    subst (λ x. IfOk (found slots size x) P) same (elim (either_decl (slice_get maps.decls q)) [
      | inl none ↦
          let short : value_bytes maps.decls q ≡ 0 = ap value_in none in
          let some = some_bytes size in
          let room : b.0 + bytes_in size ≤ value_bytes maps.decls q = grind (arith, i.1) in
          absurd (omega arith)
      | inr (d, e) ↦
          let len : value_bytes maps.decls q ≡ d.value = ap value_in e in
          let inside : nat_le (b.0 + bytes_in size) d.value ≡ true = subst (λ n. nat_le (b.0 + bytes_in size) n ≡ true) len (i.1) in
          let at : machine.aligned z (bytes_in size) d.value ≡ Some b.0 = ap (λ x. machine.aligned x (bytes_in size) d.value) (i.0) ∙ aligned_at b.0 (bytes_in size) d.value inside (i.2) in
          (is.Number (number_at size b.0 value.0), from_entry_at maps q key z size d b.0 value.0 e at value.1, bytes_described w maps size b.0 value.0 (entry_bytes maps q key value.0 d sound e value.1))
    ]))

pub loaded_sound : (w : World) (k : Kinds) (m : Machine) (base : Kind) (x : Value) (offset : ℤ) (size : Size) → DescribesMachine w k m → IsInRange m → Describes w m.maps base x
    → IfOk (loaded m.maps.decls k base offset size) (Gives w m.maps (machine.loaded m x offset size))
unfolding loaded
loaded_sound w k m (Packet o) x offset size d r h = rw h (packet_load w m.maps k.slots m.frame k.checked (pos o +ℤ offset) size r.frame d.checked)
loaded_sound w k m (Var b f) x offset size d r h = rw (h.value) (base_load w m.maps k.slots m.frame b f x offset size r.frame d.frame h)
loaded_sound w k m (Stack o) x offset size d r h = rw h (stack_load w m.maps k.slots m.stack (o +ℤ offset) size d.slots)
loaded_sound w k m (Entry q o) x offset size d r (key, there, h) = rw h (entry_load w m.maps k.slots q key (pos o +ℤ offset) size r.maps there)
loaded_sound w k m base x offset size d r h = tt

context_gives : (w : World) (maps : MapState) (ifindex : ℕ) (a b c d : Bool) → ifindex < 2 ^ 32
    → IfOk (cond a (Ok (Packet 0)) (cond b (Ok End) (cond c (Ok (Num (any_number 32))) (cond d (Ok (Num (any_number 32))) (Err why.Offset)))))
    (Gives w maps (cond a (Some (is.Packet (pos 0))) (cond b (Some (is.Packet (pos w.frame))) (cond c (Some (is.Number ifindex)) (cond d (Some (is.Number 0)) None)))))
context_gives w maps ifindex true b c d h = (is.Packet (pos 0), refl, refl)
context_gives w maps ifindex false true c d h = (is.Packet (pos w.frame), refl, refl)
context_gives w maps ifindex false false true d h = (is.Number ifindex, refl, any_described 32 ifindex h)
context_gives w maps ifindex false false false true h = (is.Number 0, refl, any_described 32 0 (omega arith))
context_gives w maps ifindex false false false false h = tt

field_sound : (w : World) (k : Kinds) (m : Machine) (offset : ℤ) → DescribesMachine w k m → IsInRange m → IfOk (context_field offset) (Gives w m.maps (machine.from_context m offset))
field_sound w k m offset d r = rw (d.frame) (context_gives w m.maps m.ifindex (int_eq offset (pos 0)) (int_eq offset (pos 4)) (int_eq offset (pos 12)) (int_eq offset (pos 16)) r.ifindex)

abbrev is_memory : Kind → Bool
is_memory (Packet o) = true
is_memory (Var b f) = true
is_memory (Stack o) = true
is_memory (Entry q o) = true
is_memory k = false

-- other kinds are refused
refused_load : (w : World) (k : Kinds) (m : Machine) (base : Kind) (x : Value) (offset : ℤ) (size : Size) → is_memory base ≡ false
    → IfOk (loaded m.maps.decls k base offset size) (Gives w m.maps (machine.loaded_plain m x offset size))
unfolding loaded
refused_load w k m (Packet o) x offset size h = cc
refused_load w k m (Var b f) x offset size h = cc
refused_load w k m (Stack o) x offset size h = cc
refused_load w k m (Entry q o) x offset size h = cc
refused_load w k m base x offset size h = tt

pub loaded_plain_sound : (w : World) (k : Kinds) (m : Machine) (base : Kind) (x : Value) (offset : ℤ) (size : Size) → DescribesMachine w k m → IsInRange m → Describes w m.maps base x
    → IfOk (loaded_plain m.maps.decls k base offset size) (Gives w m.maps (machine.loaded_plain m x offset size))
unfolding loaded_plain
loaded_plain_sound w k m Ctx x offset W d r h = rw h (field_sound w k m offset d r)
loaded_plain_sound w k m Ctx x offset size d r h = tt
loaded_plain_sound w k m (Packet o) x offset size d r h = rw h (loaded_sound w k m (Packet o) (is.Packet (pos o)) offset size d r refl)
loaded_plain_sound w k m (Var b f) x offset size d r h = rw (h.value) (loaded_sound w k m (Var b f) (is.Packet (pos h.place +ℤ f)) offset size d r (at_value w b f x h))
loaded_plain_sound w k m (Stack o) x offset size d r h = rw h (loaded_sound w k m (Stack o) (is.Stack o) offset size d r refl)
loaded_plain_sound w k m (Entry q o) x offset size d r (key, there, h) = rw h (loaded_sound w k m (Entry q o) (is.Entry q key (pos o)) offset size d r (key, there, refl))
loaded_plain_sound w k m base x offset size d r h = refused_load w k m base x offset size refl

signed_gives : (w : World) (maps : MapState) (size : Size) (r : Result Kind Why) (o : Option Value) → IfOk r (Gives w maps o)
    → IfOk (r >>= (λ x. number_in x >>= (λ n. Ok (Num (number_extended Bits64 (8 * bytes_in size) n))))) (Gives w maps (signed_load size o))
signed_gives w maps size (Err e) o g = tt
signed_gives w maps size (Ok (Num n)) o (v, e, d) =
    let u = number_of n v d in
    rw (e, u.1) (is.Number (extended 64 (8 * bytes_in size) u.0), refl, of_number _ _ (extended_is Bits64 (8 * bytes_in size) n u.0 u.2))
signed_gives w maps size (Ok k) o g = tt

pub loaded_signed_sound : (w : World) (k : Kinds) (m : Machine) (base : Kind) (x : Value) (offset : ℤ) (size : Size) → DescribesMachine w k m → IsInRange m → Describes w m.maps base x
    → IfOk (loaded_signed m.maps.decls k base offset size) (Gives w m.maps (machine.loaded_signed m x offset size))
unfolding loaded_signed
loaded_signed_sound w k m Ctx x offset size d r h = tt
loaded_signed_sound w k m base x offset size d r h = signed_gives w m.maps size (loaded m.maps.decls k base offset size) (machine.loaded m x offset size) (loaded_sound w k m base x offset size d r h)
