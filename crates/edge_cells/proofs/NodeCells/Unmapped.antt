-- Steps of the machine that operate on no map.
use Rattle.std.proofs.Common.{◌≡◌, ℕ, ℤ, zero, suc, ◌==◌, ◌+ℤ◌, ◌⊎◌, inl, inr, Bool, true, false, if◌then◌else◌, Option, Some, None, List, refl, sym, ◌∙◌, ap, subst}
use Rattle.byteorder.specs.Endian.{little_bytes}
use Rattle.xdp_machine.specs.bpf_isa.declared.operation.Op.{Op}
use Rattle.xdp_machine.specs.bpf_isa.declared.operation.Op.TheVariants.{Call}
use Rattle.xdp_machine.specs.bpf_isa.declared.operation.Size.{Size}
use Rattle.xdp_machine.specs.bpf_isa.declared.instruction.Insn.{Insn}
use Rattle.xdp_machine.specs.bpf_isa.declared.helper.Helper.{Helper}
use Rattle.xdp_machine.specs.bpf_isa.declared.helper.Helper.TheVariants.{Time, Redirect}
use Rattle.xdp_machine.specs.bpf_isa.Helpers.{helper_of}
use Rattle.xdp_machine.specs.xdp_maps.State.{MapState}
use Rattle.xdp_machine.specs.xdp_maps.Operations as map
use Rattle.xdp_machine.specs.xdp_maps.Operations.{Operation}
use Rattle.xdp_machine.specs.Values.{Value, Number, Packet, Stack, Context, Entry, number_in, ◌>>=◌}
use Rattle.xdp_machine.specs.State.{Machine, register, with_registers}
use Rattle.xdp_machine.specs.Memory.{bytes_in, to_frame, to_stack, stored}
use Rattle.xdp_machine.specs.Helpers.{answering, packet_time, redirect, redirected, called, calls_on}
use Rattle.xdp_machine.specs.Step.{calls}
use Rattle.xdp_machine.specs.Touched.{operation_as, accesses, stores}

-- a step that operates on no map, and leaves the maps
pub record Stays (m n : Machine) (i : Insn) (op : Op) : Type 0 where
  pub maps : n.maps ≡ m.maps
  pub none : operation_as m i op ≡ None

-- ---- what is made of a machine

abbrev maps_in : MapState → Option Machine → MapState
maps_in other None = other
maps_in other (Some n) = n.maps

is_made : (m n a : Machine) → a.maps ≡ m.maps → Some a ≡ Some n → n.maps ≡ m.maps
is_made m n a same e = sym (ap (maps_in m.maps) e) ∙ same

made_of : {A : Type 0} (m n : Machine) (o : Option A) (f : A → Option Machine) → ((a : A) → f a ≡ Some n → n.maps ≡ m.maps) → (o >>= f) ≡ Some n → n.maps ≡ m.maps
made_of m n None f all e = absurd (cc e)
made_of m n (Some a) f all e = all a e

pub registers_keep : (m n : Machine) (o : Option (List Value)) → with_registers m o ≡ Some n → n.maps ≡ m.maps
registers_keep m n None e = absurd (cc e)
registers_keep m n (Some xs) e = is_made m n (record m { registers = xs }) refl e

-- ---- accesses through pointers that are none to an entry

abbrev pub IsBase : Value → Type 0
IsBase (Packet o) = Unit {0}
IsBase (Stack o) = Unit {0}
IsBase Context = Unit {0}
IsBase v = ⊥

pub no_access : (maps : MapState) (v : Value) (offset : ℤ) (size : Size) (f : List ℕ → ℕ → Operation) → IsBase v → accesses maps v offset size f ≡ None
no_access maps (Entry q key o) offset size f b = absurd b
no_access maps v offset size f b = refl

none_accessed : (maps : MapState) (v : Value) (offset : ℤ) (size : Size) (f : ℕ → List ℕ → ℕ → Operation) (o : Option ℕ) → IsBase v → (o >>= λ n. accesses maps v offset size (f n)) ≡ None
none_accessed maps v offset size f None b = refl
none_accessed maps v offset size f (Some n) b = no_access maps v offset size (f n) b

pub no_store : (m : Machine) (v : Value) (offset : ℤ) (size : Size) (y : Value) → IsBase v → stores m v offset size y ≡ None
no_store m v offset size y b = none_accessed m.maps v offset size (λ n key a. map.Store key a (little_bytes (bytes_in size) n)) (number_in y) b

pub store_keeps : (m n : Machine) (v : Value) (offset : ℤ) (size : Size) (y : Value) → IsBase v → stored m v offset size y ≡ Some n → n.maps ≡ m.maps
store_keeps m n (Packet o) offset size y b e = made_of m n (number_in y >>= to_frame m.frame (o +ℤ offset) size) _ (λ frame d. is_made m n (record m { frame = frame }) refl d) e
store_keeps m n (Stack o) offset size y b e = made_of m n (to_stack m.stack (o +ℤ offset) size y) _ (λ stack d. is_made m n (record m { stack = stack }) refl d) e
store_keeps m n (Entry q key o) offset size y b e = absurd b
store_keeps m n v offset size y b e = absurd (cc e)

-- ---- calls

redirect_keeps : (m : Machine) (ifindex flags : ℕ) → (redirected ifindex flags m).maps ≡ m.maps
redirect_keeps m ifindex zero = refl
redirect_keeps m ifindex (suc flags) = refl

-- the helpers for the time and for a redirect
abbrev pub AsksNone : Option Helper → Type 0
AsksNone h = (h ≡ Some Time) ⊎ (h ≡ Some Redirect)

abbrev CallStays : Machine → Machine → Option Helper → Type 0
CallStays m n h = called h m ≡ Some n → (n.maps ≡ m.maps) × (calls_on h m ≡ None)

time_keeps : (m n : Machine) → packet_time m ≡ Some n → n.maps ≡ m.maps
time_keeps m n e = is_made m n (answering (Number m.time) m) refl e

redirects_keep : (m n : Machine) → redirect m ≡ Some n → n.maps ≡ m.maps
redirects_keep m n e =
    made_of m n (number_in (register m.registers 1)) _ (λ ifindex d. made_of m n (number_in (register m.registers 2)) _ (λ flags c. is_made m n (redirected ifindex flags m) (redirect_keeps m ifindex flags) c) d) e

called_if : (m n : Machine) (b : Bool) (h : Option Helper) → (if b then called h m else None) ≡ Some n → called h m ≡ Some n
called_if m n true h e = e
called_if m n false h e = absurd (cc e)

pub call_stays : (m n : Machine) (i : Insn) → AsksNone (helper_of i.imm) → calls m i ≡ Some n → Stays m n i Call
call_stays m n i asks e = by asks
  where
    made : CallStays m n (helper_of i.imm) → Stays m n i Call
    made c = let s = c (called_if m n (i.src == 0) (helper_of i.imm) e) in record { maps = s.0; none = s.1 }

    by : AsksNone (helper_of i.imm) → Stays m n i Call
    by (inl time) = made (subst (CallStays m n) (sym time) (λ c. (time_keeps m n c, refl)))
    by (inr sends) = made (subst (CallStays m n) (sym sends) (λ c. (redirects_keep m n c, refl)))
