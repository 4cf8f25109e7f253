-- Parts of the machine's step where their cases are known.
use Rattle.std.proofs.Common.{◌≡◌, ℕ, ◌+◌, ◌*◌, ◌/◌, ◌%◌, ◌==◌, ℤ, pos, ◌+ℤ◌, true, false, cond, nat_le, refl, ap, ◌∙◌, Option, Some, None, List, length, get_or, slice_set, slice_get, is_some, IsTrue}
use Rattle.byteorder.specs.Endian.{little_bytes}
use Rattle.xdp_machine.specs.bpf_isa.declared.operation.Size.{Size}
use Rattle.xdp_machine.specs.bpf_isa.declared.instruction.Insn.{Insn}
use Rattle.xdp_machine.specs.xdp_maps.declared.decl.MapDecl.{MapDecl}
use Rattle.xdp_machine.specs.xdp_maps.State.{MapState, contents_at, with_contents}
use Rattle.xdp_machine.specs.xdp_maps.Calls.{lookup_of, patched, stored as entry_stored}
use Rattle.xdp_machine.specs.Values.{Value, Unset, Number, Packet, Stack, Entry, number_in, ◌>>=◌}
use Rattle.xdp_machine.specs.State.{Machine, register, put, with_registers}
use Rattle.xdp_machine.specs.Arithmetic.{extended}
use Rattle.xdp_machine.specs.Memory.{bytes_in, inside, aligned, in_stack, number_at, from_frame, from_slot, from_stack, from_entry, to_frame, to_slot, number_stored, stored}
use Rattle.xdp_machine.specs.Step.{assigned, renumbered}

pub some_of : {A : Type 0} (o : Option A) → IsTrue (is_some o) → (x : A) × (o ≡ Some x)
some_of (Some x) h = (x, refl)
some_of None h = cc

pub inside_at : (a n len : ℕ) → nat_le (a + n) len ≡ true → inside (pos a) n len ≡ Some a
inside_at a n len h = ap (λ t. cond t (Some a) None) h

pub aligned_at : (a n len : ℕ) → nat_le (a + n) len ≡ true → (a % n == 0) ≡ true → aligned (pos a) n len ≡ Some a
aligned_at a n len h g =
    ap (λ o. o >>= (λ b. cond (b % n == 0) (Some b) None)) (inside_at a n len h)
    ∙ ap (λ t. cond t (Some a) None) g

pub from_frame_at : (frame : List ℕ) (size : Size) (a : ℕ) → nat_le (a + bytes_in size) (length frame) ≡ true
    → from_frame frame (pos a) size ≡ Some (Number (number_at size a frame))
from_frame_at frame size a h = ap (λ o. o >>= (λ b. Some (Number (number_at size b frame)))) (inside_at a (bytes_in size) (length frame) h)

pub from_stack_at : (stack : List Value) (z : ℤ) (size : Size) (a : ℕ) → in_stack z (bytes_in size) ≡ Some a
    → from_stack stack z size ≡ from_slot size (a % 8) (get_or stack (a / 8) Unset)
from_stack_at stack z size a e = ap (λ o. o >>= (λ b. from_slot size (b % 8) (get_or stack (b / 8) Unset))) e

pub from_entry_at : (maps : MapState) (q : ℕ) (key : List ℕ) (z : ℤ) (size : Size) (d : MapDecl) (a : ℕ) (value : List ℕ)
    → slice_get maps.decls q ≡ Some d → aligned z (bytes_in size) d.value ≡ Some a → lookup_of (contents_at maps q) key ≡ Some value
    → from_entry maps q key z size ≡ Some (Number (number_at size a value))
from_entry_at maps q key z size d a value e f g =
    ap (λ o. o >>= (λ c. aligned z (bytes_in size) c.value >>= (λ b. lookup_of (contents_at maps q) key >>= (λ v. Some (Number (number_at size b v)))))) e
    ∙ ap (λ o. o >>= (λ b. lookup_of (contents_at maps q) key >>= (λ v. Some (Number (number_at size b v))))) f
    ∙ ap (λ o. o >>= (λ v. Some (Number (number_at size a v)))) g

-- the sign of what is loaded is extended
abbrev pub signed_load : Size → Option Value → Option Value
signed_load size o = o >>= number_in >>= λ n. Some (Number (extended 64 (8 * bytes_in size) n))

-- a value goes into the destination
pub assigned_at : (m : Machine) (i : Insn) (o : Option Value) (v : Value) → (i.dst == 10) ≡ false → o ≡ Some v
    → with_registers m (assigned m.registers i o) ≡ Some (record m { registers = slice_set m.registers i.dst v })
assigned_at m i o v h e =
    ap (λ p. with_registers m (p >>= put m.registers i.dst)) e
    ∙ ap (λ t. with_registers m (cond t None (Some (slice_set m.registers i.dst v)))) h

-- a number that is changed goes back into the destination
abbrev pub changed_number : (ℕ → ℕ) → Value → Option Value
changed_number f v = number_in v >>= λ n. Some (Number (f n))

put_bound : (registers : List Value) (r : ℕ) (f : ℕ → ℕ) (o : Option ℕ) → (o >>= (λ n. put registers r (Number (f n)))) ≡ ((o >>= (λ n. Some (Number (f n)))) >>= put registers r)
put_bound registers r f None = refl
put_bound registers r f (Some n) = refl

pub renumbered_is : (registers : List Value) (i : Insn) (f : ℕ → ℕ) → renumbered registers i f ≡ assigned registers i (changed_number f (register registers i.dst))
renumbered_is registers i f = put_bound registers i.dst f (number_in (register registers i.dst))

-- stores where their places are known
pub stored_packet : (m : Machine) (o offset : ℤ) (size : Size) (n a : ℕ) → o +ℤ offset ≡ pos a → nat_le (a + bytes_in size) (length m.frame) ≡ true
    → stored m (Packet o) offset size (Number n) ≡ Some (record m { frame = patched m.frame a (little_bytes (bytes_in size) n) })
stored_packet m o offset size n a e h =
    ap (λ z. to_frame m.frame z size n >>= (λ f. Some (record m { frame = f }))) e
    ∙ ap (λ p. p >>= (λ b. Some (patched m.frame b (little_bytes (bytes_in size) n))) >>= (λ f. Some (record m { frame = f }))) (inside_at a (bytes_in size) (length m.frame) h)

pub stored_stack : (m : Machine) (o offset : ℤ) (size : Size) (v : Value) (a : ℕ) (s : Value) → in_stack (o +ℤ offset) (bytes_in size) ≡ Some a
    → to_slot size (a % 8) (get_or m.stack (a / 8) Unset) v ≡ Some s
    → stored m (Stack o) offset size v ≡ Some (record m { stack = slice_set m.stack (a / 8) s })
stored_stack m o offset size v a s e h =
    ap (λ p. p >>= (λ b. to_slot size (b % 8) (get_or m.stack (b / 8) Unset) v >>= (λ t. Some (slice_set m.stack (b / 8) t))) >>= (λ t. Some (record m { stack = t }))) e
    ∙ ap (λ p. p >>= (λ t. Some (slice_set m.stack (a / 8) t)) >>= (λ t. Some (record m { stack = t }))) h

pub stored_entry : (m : Machine) (q : ℕ) (key : List ℕ) (o offset : ℤ) (size : Size) (n : ℕ) (d : MapDecl) (a : ℕ)
    → slice_get m.maps.decls q ≡ Some d → aligned (o +ℤ offset) (bytes_in size) d.value ≡ Some a → is_some (lookup_of (contents_at m.maps q) key) ≡ true
    → stored m (Entry q key o) offset size (Number n) ≡ Some (record m { maps = with_contents m.maps q (entry_stored (contents_at m.maps q) key a (little_bytes (bytes_in size) n)) })
stored_entry m q key o offset size n d a e f g =
    ap (λ p. p >>= (λ c. aligned (o +ℤ offset) (bytes_in size) c.value >>= (λ b. number_stored m.maps q key b size n)) >>= (λ t. Some (record m { maps = t }))) e
    ∙ ap (λ p. p >>= (λ b. number_stored m.maps q key b size n) >>= (λ t. Some (record m { maps = t }))) f
    ∙ ap (λ t. cond t (Some (with_contents m.maps q (entry_stored (contents_at m.maps q) key a (little_bytes (bytes_in size) n)))) None >>= (λ t'. Some (record m { maps = t' }))) g
