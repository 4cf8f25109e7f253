-- Slots of the stack by where an access begins.
use Rattle.std.proofs.Common.{◌≡◌, ℕ, suc, ◌+◌, ◌-◌, ◌/◌, ◌%◌, ◌<◌, ℤ, List, [], ◌∷◌, ◌++◌, length, map, take, get_or, set, Some, None, refl, sym, ◌∙◌, ap, arith}
use Rattle.std.proofs.lemmas.List.{get_or-map, map-set, take_more_set, append_assoc}
use Rattle.std.specs.Prelude.{Option}
use Rattle.std.specs.Option.{option_map}
use Rattle.xdp_machine.specs.bpf_isa.declared.operation.Size.{Size}
use Rattle.xdp_machine.specs.Values as seen
use Rattle.xdp_machine.specs.Values.{◌>>=◌}
use Rattle.xdp_machine.specs.Helpers.{stack_byte, stack_bytes}
use Rattle.xdp_machine.specs.Memory.{bytes_in, in_stack, from_slot, from_stack, to_slot, to_stack}
use Rattle.xdp_state.specs.declared.value.Value.{Value}
use Rattle.xdp_state.specs.Views.{value_of}

-- what a load finds, by the slot
pub from_stack-at : (slots : List Value) (o : ℤ) (size : Size) (a : ℕ) (d : Value) → Some a ≡ in_stack o (bytes_in size) → a / 8 < length slots
    → from_slot size (a % 8) (value_of (get_or slots (a / 8) d)) ≡ from_stack (map value_of slots) o size
from_stack-at slots o size a d e below =
    ap (from_slot size (a % 8)) (sym (get_or-map value_of slots (a / 8) d seen.Unset below))
    ∙ ap (λ r. r >>= (λ b. from_slot size (b % 8) (get_or (map value_of slots) (b / 8) seen.Unset))) e

-- what a store leaves, by the slot
pub to_stack-at : (slots : List Value) (o : ℤ) (size : Size) (a : ℕ) (d v slot : Value) → Some a ≡ in_stack o (bytes_in size) → a / 8 < length slots
    → Some (value_of slot) ≡ to_slot size (a % 8) (value_of (get_or slots (a / 8) d)) (value_of v)
    → to_stack (map value_of slots) o size (value_of v) ≡ Some (map value_of (set slots (a / 8) slot))
to_stack-at slots o size a d v slot e below h =
    sym (ap (λ r. r >>= (λ b. to_slot size (b % 8) (get_or (map value_of slots) (b / 8) seen.Unset) (value_of v) >>= (λ s. Some (set (map value_of slots) (b / 8) s)))) e)
    ∙ ap (λ s. s >>= (λ s'. Some (set (map value_of slots) (a / 8) s'))) (sym (h ∙ ap (λ x. to_slot size (a % 8) x (value_of v)) (sym (get_or-map value_of slots (a / 8) d seen.Unset below))))
    ∙ ap Some (sym (map-set value_of slots (a / 8) slot))

-- the first of the bytes of the stack, and those after it
pub stack_bytes-suc : (stack : List seen.Value) (a k b : ℕ) → Some b ≡ stack_byte stack a
    → stack_bytes stack a (suc k) ≡ option_map (λ bs. b ∷ bs) (stack_bytes stack (suc a) k)
stack_bytes-suc stack a k b e =
    sym (ap (λ r. r >>= (λ x. stack_bytes stack (suc a) k >>= (λ bs. Some (x ∷ bs)))) e) ∙ bind_map (stack_bytes stack (suc a) k)
  where
    bind_map : (o : Option (List ℕ)) → (o >>= (λ bs. Some (b ∷ bs))) ≡ option_map (λ bs. b ∷ bs) o
    bind_map None = refl
    bind_map (Some bs) = refl

front_more : (xs : List ℕ) (i b : ℕ) (o : Option (List ℕ)) → i < length xs
    → option_map (λ bs. take (i + 1) (set xs i b) ++ bs) o ≡ option_map (λ bs. take i xs ++ bs) (option_map (λ bs. b ∷ bs) o)
front_more xs i b None below = refl
front_more xs i b (Some bs) below = ap Some (ap (λ ys. ys ++ bs) (take_more_set xs i b below) ∙ append_assoc (take i xs) (b ∷ []) bs)

-- one more byte of the stack is in the buffer
pub fill_more : (stack : List seen.Value) (at i n : ℕ) (xs : List ℕ) (b : ℕ) → i < n → length xs ≡ n → Some b ≡ stack_byte stack (at + i)
    → option_map (λ bs. take (i + 1) (set xs i b) ++ bs) (stack_bytes stack (at + (i + 1)) (n - (i + 1)))
    ≡ option_map (λ bs. take i xs ++ bs) (stack_bytes stack (at + i) (n - i))
fill_more stack at i n xs b below len e =
    let in_list : i < length xs = omega arith in
    let left : n - i ≡ suc (n - (i + 1)) = omega arith in
    let next : at + (i + 1) ≡ suc (at + i) = omega arith in
    front_more xs i b (stack_bytes stack (at + (i + 1)) (n - (i + 1))) in_list
    ∙ ap (λ a. option_map (λ bs. take i xs ++ bs) (option_map (λ bs. b ∷ bs) (stack_bytes stack a (n - (i + 1))))) next
    ∙ ap (option_map (λ bs. take i xs ++ bs)) (sym (stack_bytes-suc stack (at + i) (n - (i + 1)) b e))
    ∙ ap (λ k. option_map (λ bs. take i xs ++ bs) (stack_bytes stack (at + i) k)) (sym left)
