-- A walk over the types: one after the other, in ascending order.
use Rattle.std.proofs.Common.{◌≡◌, ℕ, zero, suc, ◌+◌, ◌-◌, ◌*◌, ◌<◌, ◌≤◌, cond, List, length, Option, Some, None, refl, sym, ap, ◌∙◌, arith, inl, inr, option_and_then, add-one, add-zero}
use Rattle.std.proofs.lemmas.Bool.{cases_lt, lt-ltb, le-ltb}
use Rattle.std.proofs.lemmas.Bool.Decides.{nat_tests}
use Rattle.std.specs.Option.{option_or}
use Rattle.list_laws.proofs.FirstLaws.{first_from-next, first_from-none, none-first_from}
use Rattle.btf_view.specs.Rules.{type_fault, types_fault}
use Rattle.btf_view.specs.Types.{end_of, first_of_types, place_of, record_size}
use Rattle.list_laws.specs.Firsts.{first_from}

-- ---- where types begin

pub least_record : (types : List ℕ) (at : ℕ) → 12 ≤ record_size types at
unfolding record_size
least_record types at = omega arith

pub end_of-zero : (types : List ℕ) → end_of types 0 ≡ 0
unfolding end_of
end_of-zero types = refl

pub end_of-more : (types : List ℕ) (id : ℕ)
    → end_of types (id + 1) ≡ end_of types id + record_size types (end_of types id)
unfolding end_of
end_of-more types id = rw add-one refl

-- records have at least 12 bytes, so there are no more of them than bytes
pub least_end : (types : List ℕ) (id : ℕ) → 12 * id ≤ end_of types id
unfolding end_of
least_end types zero = omega arith
least_end types (suc id) = omega (arith, least_end types id, least_record types (end_of types id))

end_of-later : (types : List ℕ) (id k : ℕ) → end_of types id ≤ end_of types (id + k)
end_of-later types id zero = rw add-zero (omega arith)
end_of-later types id (suc k) =
    let e : id + suc k ≡ id + k + 1 = omega arith in
    omega (arith, end_of-later types id k, end_of-more types (id + k), ap (end_of types) e)

-- type `last + 1` begins where type `last` ends
pub place_of-inside : (types : List ℕ) (last : ℕ) → end_of types last < length types
    → place_of types (last + 1) ≡ Some (end_of types last)
unfolding place_of
place_of-inside types last h =
    ap (place_of types) (add-one last)
    ∙ ap (λ b. cond b (Some (end_of types last)) None) (lt-ltb (end_of types last) (length types) h)

-- and there is none after a last one, and none of number 0
pub place_of-past : (types : List ℕ) (last id : ℕ) → length types ≤ end_of types last
    → (0 < id → last < id) → place_of types id ≡ None
unfolding place_of
place_of-past types last zero h k = refl
place_of-past types last (suc id) h k =
    let below : last < suc id = k (omega arith) in
    let later = end_of-later types last (id - last) in
    let e : last + (id - last) ≡ id = omega arith in
    ap (λ b. cond b (Some (end_of types id)) None)
    (le-ltb (end_of types id) (length types) (omega (arith, ap (end_of types) e)))

-- ---- the first answer of those that are left

abbrev asked : {X : Type 0} → List ℕ → (ℕ → ℕ → Option X) → ℕ → Option X
asked types f id = option_and_then (f id) (place_of types id)

-- what a question is answered by the types after type `last`
pub left : {X : Type 0} → List ℕ → (ℕ → ℕ → Option X) → ℕ → Option X
left types f last = first_from (asked types f) (last + 1) (length types - last)

pub first_of_types-left : {X : Type 0} (types : List ℕ) (f : ℕ → ℕ → Option X) → first_of_types types f ≡ left types f 0
unfolding first_of_types left
first_of_types-left types f =
    let all : length types ≡ length types - 0 = omega arith in
    ap (first_from (asked types f) 1) all

left-next : {X : Type 0} (types : List ℕ) (f : ℕ → ℕ → Option X) (last : ℕ) → end_of types last < length types
    → left types f last ≡ option_or (f (last + 1) (end_of types last)) (left types f (last + 1))
unfolding left
left-next types f last inside =
    let few = least_end types last in
    let n : length types - last - 1 ≡ length types - (last + 1) = omega arith in
    first_from-next (asked types f) (last + 1) (length types - last) (omega arith)
    ∙ ap (λ k. option_or (asked types f (last + 1)) (first_from (asked types f) (last + 1 + 1) k)) n
    ∙ ap (λ o. option_or (option_and_then (f (last + 1)) o) (first_from (asked types f) (last + 1 + 1) (length types - (last + 1))))
    (place_of-inside types last inside)

-- one with no answer is passed over
pub left-more : {X : Type 0} (types : List ℕ) (f : ℕ → ℕ → Option X) (last : ℕ) → end_of types last < length types
    → f (last + 1) (end_of types last) ≡ None → left types f last ≡ left types f (last + 1)
left-more types f last inside none =
    left-next types f last inside ∙ ap (λ o. option_or o (left types f (last + 1))) none

-- one with an answer gives it
pub left-found : {X : Type 0} (types : List ℕ) (f : ℕ → ℕ → Option X) (last : ℕ) (x : X) → end_of types last < length types
    → f (last + 1) (end_of types last) ≡ Some x → left types f last ≡ Some x
left-found types f last x inside found =
    left-next types f last inside ∙ ap (λ o. option_or o (left types f (last + 1))) found

-- there is none after the last type
pub left-all : {X : Type 0} (types : List ℕ) (f : ℕ → ℕ → Option X) (last : ℕ) → length types ≤ end_of types last
    → left types f last ≡ None
unfolding left
left-all types f last past =
    first_from-none (asked types f) (last + 1) (length types - last)
    (λ k h. ap (option_and_then (f k)) (place_of-past types last k past (λ _. omega arith)))

-- ---- a question without an answer

-- no type answers it
pub first_of_types-none : {X : Type 0} (types : List ℕ) (f : ℕ → ℕ → Option X) (last : ℕ) → first_of_types types f ≡ None
    → end_of types last < length types → f (last + 1) (end_of types last) ≡ None
unfolding first_of_types
first_of_types-none types f last e inside =
    let few = least_end types last in
    sym (ap (option_and_then (f (last + 1))) (place_of-inside types last inside))
    ∙ none-first_from (asked types f) 1 (length types) (last + 1) e (omega arith) (omega arith)

-- a type without fault is whole
whole : (types : List ℕ) (id at : ℕ) → type_fault types id at ≡ None → at + record_size types at ≤ length types
unfolding type_fault
whole types id at e = elim (cases_lt (length types) (at + record_size types at)) [
  | inl outside ↦
      let short = lt-ltb (length types) (at + record_size types at) outside in
      absurd (grind (arith, nat_tests))
  | inr inside ↦ inside
]

pub record-inside : (types : List ℕ) (last : ℕ) → types_fault types ≡ None → end_of types last < length types
    → end_of types last + record_size types (end_of types last) ≤ length types
record-inside types last e inside =
    whole types (last + 1) (end_of types last) (first_of_types-none types (type_fault types) last e inside)

pub ruleset walks =
    (end_of-zero, end_of-more, least_record, place_of-inside, place_of-past, first_of_types-left, left-more, left-found, left-all, record-inside)
