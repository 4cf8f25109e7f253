-- What is in range of a part: of registers, of bytes that a pointer leads to.
use Rattle.std.proofs.Common.{◌≡◌, ℕ, zero, suc, ◌+◌, ◌-◌, ◌/◌, ◌%◌, ◌^◌, ◌<◌, ◌≤◌, ℤ, pos, ◌+ℤ◌, inl, inr, Bool, true, false, List, [], ◌∷◌, length, drop, get_or, Some, None, refl, sym, ◌∙◌, ap, subst, arith, length-drop}
use Rattle.std.specs.Prelude.{if◌then◌else◌, slice_index, slice_range, ◌==◌, All}
use Rattle.std.proofs.lemmas.Bool.{cases_lt}
use Rattle.std.proofs.lemmas.List.{get_or_past, length-take-le}
use Rattle.std.proofs.lemmas.List.Elements.{All-nil, All-cons, All-take, All-drop, All-get_or}
use Rattle.byteorder.specs.Endian.{little_bytes}
use Rattle.xdp_maps.specs.declared.decl.MapDecl.{MapDecl}
use Rattle.xdp_maps.specs.Contents.{IsBytes}
use Rattle.xdp_maps.proofs.ByteLaws.{IsBytes-little_bytes}
use Rattle.xdp_machine.specs.Values.{Value, Unset, Number, Packet, Stack, number_in}
use Rattle.xdp_machine.specs.State.{register}
use Rattle.xdp_machine.specs.Memory.{inside, aligned}
use Rattle.xdp_machine.specs.Helpers.{stack_byte, stack_bytes, region}
use Rattle.xdp_machine.specs.Ranges.{InRange}
use Rattle.xdp_machine.proofs.ChangeLaws.{some_inj, bind_inv, inside-within}

-- an element, or what stands for none
pub at_or : {X : Type 0} (P : X → Type 0) (xs : List X) (i : ℕ) (d : X) → All P xs → P d → P (get_or xs i d)
at_or P xs i d all none = elim (cases_lt i (length xs)) [
  | inl lt ↦ All-get_or P xs i d lt all
  | inr past ↦ subst P (sym (get_or_past xs i d past)) none
]

pub register_in_range : (decls : List MapDecl) (rs : List Value) (r : ℕ) → All (InRange decls) rs → InRange decls (register rs r)
register_in_range decls rs r all = at_or (InRange decls) rs r Unset all tt

pub number_in_range : (decls : List MapDecl) (v : Value) (n : ℕ) → InRange decls v → number_in v ≡ Some n → n < 2 ^ 64
number_in_range decls (Number k) n range e = subst (λ (x : ℕ). x < 2 ^ 64) (some_inj k n e) range
number_in_range decls v n range e = absurd (cc)

-- an access at a multiple of its size is inside
pub aligned-within : (at : ℤ) (n len a : ℕ) → aligned at n len ≡ Some a → a + n ≤ len
aligned-within at n len a e =
    bind_inv (inside at n len) _ a e (λ b is h. by_test (b % n == 0) b is h)
  where
    by_test : (t : Bool) (b : ℕ) → inside at n len ≡ Some b → (if t then Some b else None) ≡ Some a → a + n ≤ len
    by_test true b is h = subst (λ (x : ℕ). x + n ≤ len) (some_inj b a h) (inside-within at n len b is)
    by_test false b is h = absurd (cc)

-- ---- bytes

abbrev pub AreBytes : List ℕ → Type 0
AreBytes bytes = All (λ b. b < 256) bytes

pub bytes_in_slice : (bytes : List ℕ) (a b : ℕ) → AreBytes bytes → AreBytes (slice_range bytes a b)
bytes_in_slice bytes a b all = All-take (λ x. x < 256) (b - a) (drop a bytes) (All-drop (λ x. x < 256) a bytes all)

pub IsBytes-slice : (bytes : List ℕ) (a n : ℕ) → AreBytes bytes → a + n ≤ length bytes → IsBytes n (slice_range bytes a (a + n))
IsBytes-slice bytes a n all within = record { len = length-take-le (a + n - a) (drop a bytes) (omega (arith, within, length-drop a bytes)) ∙ omega arith; bytes_fit = bytes_in_slice bytes a (a + n) all }

pub byte_of_number : (n i : ℕ) → slice_index (little_bytes 8 n) i < 256
byte_of_number n i = at_or (λ b. b < 256) (little_bytes 8 n) i 0 (IsBytes-little_bytes 8 n).bytes_fit (omega arith)

stack_byte_fits : (stack : List Value) (a b : ℕ) → stack_byte stack a ≡ Some b → b < 256
stack_byte_fits stack a b e =
    bind_inv (number_in (get_or stack (a / 8) Unset)) _ b e (λ n _ h. subst (λ (x : ℕ). x < 256) (some_inj _ b h) (byte_of_number n (a % 8)))

pub IsBytes-stack_bytes : (stack : List Value) (a n : ℕ) (bytes : List ℕ) → stack_bytes stack a n ≡ Some bytes → IsBytes n bytes
IsBytes-stack_bytes stack a zero bytes e = subst (IsBytes 0) (some_inj [] bytes e) (record { len = refl; bytes_fit = All-nil (λ b. b < 256) })
IsBytes-stack_bytes stack a (suc n) bytes e =
    bind_inv (stack_byte stack a) _ bytes e (λ b is h.
    bind_inv (stack_bytes stack (suc a) n) _ bytes h (λ bs rest k.
    let more = IsBytes-stack_bytes stack (suc a) n bs rest in
    subst (IsBytes (suc n)) (some_inj (b ∷ bs) bytes k) (record { len = ap suc more.len; bytes_fit = All-cons (λ x. x < 256) b bs (stack_byte_fits stack a b is) more.bytes_fit })))

-- the bytes that a pointer leads to
pub IsBytes-region : (stack : List Value) (frame : List ℕ) (n : ℕ) (v : Value) (bytes : List ℕ) → AreBytes frame → region stack frame n v ≡ Some bytes → IsBytes n bytes
IsBytes-region stack frame n (Packet o) bytes all e =
    bind_inv (inside o n (length frame)) _ bytes e (λ a is h.
    subst (IsBytes n) (some_inj _ bytes h) (IsBytes-slice frame a n all (inside-within o n (length frame) a is)))
IsBytes-region stack frame n (Stack o) bytes all e =
    bind_inv (inside (o +ℤ pos 512) n 512) _ bytes e (λ a is h. IsBytes-stack_bytes stack a n bytes h)
IsBytes-region stack frame n v bytes all e = absurd (cc)
