-- Calls of the machine where what they need is there.
use Rattle.std.proofs.Common.{◌≡◌, ℕ, zero, suc, ◌+◌, ◌/◌, ◌%◌, ◌<◌, ◌≤◌, ℤ, pos, ◌+ℤ◌, refl, ap, ◌∙◌, arith, Some, List, [], ◌∷◌, length, get_or, slice_get}
use Rattle.std.specs.Prelude.{slice_index, slice_range}
use Rattle.std.specs.Int.{w64, cast_unsigned}
use Rattle.byteorder.specs.Endian.{little_bytes}
use Rattle.xdp_machine.specs.xdp_maps.declared.decl.MapDecl.{MapDecl}
use Rattle.xdp_machine.specs.xdp_maps.State.{contents_at, with_contents}
use Rattle.xdp_machine.specs.xdp_maps.Calls.{update_number, updated, delete_number, deleted}
use Rattle.xdp_machine.specs.Values.{Value, Unset, Number, Packet, Stack, Map, number_in, map_in, ◌>>=◌}
use Rattle.xdp_machine.specs.State.{Machine, register}
use Rattle.xdp_machine.specs.Memory.{inside}
use Rattle.xdp_machine.specs.Helpers.{stack_byte, stack_bytes, region, answering, entry_or_null, lookup, update, delete, redirected, redirect}

-- bytes of slots that hold numbers
byte_there : (stack : List Value) (a y : ℕ) → get_or stack (a / 8) Unset ≡ Number y → stack_byte stack a ≡ Some (slice_index (little_bytes 8 y) (a % 8))
byte_there stack a y e = ap (λ v. number_in v >>= (λ n. Some (slice_index (little_bytes 8 n) (a % 8)))) e

pub bytes_there : (stack : List Value) (n a : ℕ) → ((j : ℕ) → a ≤ j → j < a + n → (y : ℕ) × (get_or stack (j / 8) Unset ≡ Number y)) → (bs : List ℕ) × (stack_bytes stack a n ≡ Some bs)
bytes_there stack zero a h = ([], refl)
bytes_there stack (suc n) a h =
    let first = h a (omega arith) (omega arith) in
    let rest = bytes_there stack n (suc a) (λ j p q. h j (omega arith) (omega arith)) in
    let b = slice_index (little_bytes 8 first.0) (a % 8) in (
      b ∷ rest.0,
      ap (λ o. o >>= (λ c. stack_bytes stack (suc a) n >>= (λ bs. Some (c ∷ bs)))) (byte_there stack a first.0 (first.1))
          ∙ ap (λ o. o >>= (λ bs. Some (b ∷ bs))) (rest.1),
    )

pub packet_region : (stack : List Value) (frame : List ℕ) (n : ℕ) (o : ℤ) (a : ℕ) → inside o n (length frame) ≡ Some a → region stack frame n (Packet o) ≡ Some (slice_range frame a (a + n))
packet_region stack frame n o a e = ap (λ p. p >>= (λ b. Some (slice_range frame b (b + n)))) e

pub stack_region : (stack : List Value) (frame : List ℕ) (n : ℕ) (o : ℤ) (a : ℕ) (bs : List ℕ) → inside (o +ℤ pos 512) n 512 ≡ Some a → stack_bytes stack a n ≡ Some bs
    → region stack frame n (Stack o) ≡ Some bs
stack_region stack frame n o a bs e f = ap (λ p. p >>= (λ b. stack_bytes stack b n)) e ∙ f

pub lookup_there : (m : Machine) (q : ℕ) (d : MapDecl) (key : List ℕ) → register m.registers 1 ≡ Map q → slice_get m.maps.decls q ≡ Some d → region m.stack m.frame d.key (register m.registers 2) ≡ Some key
    → lookup m ≡ Some (answering (entry_or_null q key (contents_at m.maps q)) m)
lookup_there m q d key e f g =
    ap (λ v. map_in v >>= (λ p. slice_get m.maps.decls p >>= (λ c. region m.stack m.frame c.key (register m.registers 2) >>= (λ x. Some (answering (entry_or_null p x (contents_at m.maps p)) m))))) e
    ∙ ap (λ o. o >>= (λ c. region m.stack m.frame c.key (register m.registers 2) >>= (λ x. Some (answering (entry_or_null q x (contents_at m.maps q)) m)))) f
    ∙ ap (λ o. o >>= (λ x. Some (answering (entry_or_null q x (contents_at m.maps q)) m))) g

-- what an update and a deletion leave
abbrev pub after_update : Machine → ℕ → MapDecl → List ℕ → List ℕ → ℕ → Machine
after_update m q d key value flags =
    answering (Number (cast_unsigned w64 (update_number d (contents_at m.maps q) key flags))) (record m { maps = with_contents m.maps q (updated d (contents_at m.maps q) key value flags) })

abbrev pub after_delete : Machine → ℕ → MapDecl → List ℕ → Machine
after_delete m q d key = answering (Number (cast_unsigned w64 (delete_number d (contents_at m.maps q) key))) (record m { maps = with_contents m.maps q (deleted d (contents_at m.maps q) key) })

pub update_there : (m : Machine) (q : ℕ) (d : MapDecl) (key value : List ℕ) (flags : ℕ) → register m.registers 1 ≡ Map q → slice_get m.maps.decls q ≡ Some d
    → region m.stack m.frame d.key (register m.registers 2) ≡ Some key → region m.stack m.frame d.value (register m.registers 3) ≡ Some value → register m.registers 4 ≡ Number flags
    → update m ≡ Some (after_update m q d key value flags)
update_there m q d key value flags e f g h i =
    ap (λ v. map_in v >>= (λ p. slice_get m.maps.decls p >>= (λ c. region m.stack m.frame c.key (register m.registers 2) >>= (λ x. region m.stack m.frame c.value (register m.registers 3) >>= (λ y. number_in (register m.registers 4) >>= (λ z. Some (after_update m p c x y z))))))) e
    ∙ ap (λ o. o >>= (λ c. region m.stack m.frame c.key (register m.registers 2) >>= (λ x. region m.stack m.frame c.value (register m.registers 3) >>= (λ y. number_in (register m.registers 4) >>= (λ z. Some (after_update m q c x y z)))))) f
    ∙ ap (λ o. o >>= (λ x. region m.stack m.frame d.value (register m.registers 3) >>= (λ y. number_in (register m.registers 4) >>= (λ z. Some (after_update m q d x y z))))) g
    ∙ ap (λ o. o >>= (λ y. number_in (register m.registers 4) >>= (λ z. Some (after_update m q d key y z)))) h
    ∙ ap (λ v. number_in v >>= (λ z. Some (after_update m q d key value z))) i

pub delete_there : (m : Machine) (q : ℕ) (d : MapDecl) (key : List ℕ) → register m.registers 1 ≡ Map q → slice_get m.maps.decls q ≡ Some d
    → region m.stack m.frame d.key (register m.registers 2) ≡ Some key → delete m ≡ Some (after_delete m q d key)
delete_there m q d key e f g =
    ap (λ v. map_in v >>= (λ p. slice_get m.maps.decls p >>= (λ c. region m.stack m.frame c.key (register m.registers 2) >>= (λ x. Some (after_delete m p c x))))) e
    ∙ ap (λ o. o >>= (λ c. region m.stack m.frame c.key (register m.registers 2) >>= (λ x. Some (after_delete m q c x)))) f
    ∙ ap (λ o. o >>= (λ x. Some (after_delete m q d x))) g

pub redirect_there : (m : Machine) (a b : ℕ) → register m.registers 1 ≡ Number a → register m.registers 2 ≡ Number b → redirect m ≡ Some (redirected a b m)
redirect_there m a b e f =
    ap (λ v. number_in v >>= (λ x. number_in (register m.registers 2) >>= (λ y. Some (redirected x y m)))) e
    ∙ ap (λ v. number_in v >>= (λ y. Some (redirected a y m))) f
