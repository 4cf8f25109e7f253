-- The beats in the room for a frame, and the bytes in the room for an answer.
use Rattle.std.proofs.Common.{◌≡◌, ◌≢◌, ℕ, ◌+◌, ◌-◌, ◌<◌, ◌≤◌, min, Bool, true, false, Some, None, List, [], ◌∷◌, ◌++◌, length, take, drop, refl, sym, ap, ◌∙◌, arith, inl, inr}
use Rattle.std.specs.Prelude.{◌==◌, map, if◌then◌else◌, Result, Ok, Err, OnErr}
use Rattle.std.proofs.lemmas.Bool.{eqb-true, eq-eqb, cases_lt}
use Rattle.std.proofs.lemmas.List.{length-append, length-take, length-drop, drop-map}
use Rattle.beat_core.specs.declared.beat.Beat.{Beat}
use Rattle.beat_core.specs.Beats.{beats_of}
use Rattle.beat_core.specs.Ports.{Offered}
use Rattle.beat_core.specs.Words.{low_bytes}
use Rattle.beat_core.proofs.LeftLaws.{left_none, left_some, left_after}
use Rattle.net_core.specs.declared.ports.Inputs.{Inputs}
use Rattle.net_core.specs.declared.ports.Outputs.{Outputs}
use Rattle.port_drive.specs.Driving.{taken_in, held_bytes, begun_next, ended_by}

-- ---- beats that are left
pub room_over : (f : Beat → Offered) (at len : ℕ) (buffer : List ℕ) → (at == len) ≡ true → map f (beats_of (drop at (take len buffer))) ≡ []
room_over f at len buffer e = ap (λ (bs : List Beat). map f bs) (left_none at len buffer (eqb-true at len e))

true_false : true ≡ false → ⊥
true_false e = cc

pub room_left : (f : Beat → Offered) (at len : ℕ) (buffer : List ℕ) → at ≤ len → len ≤ length buffer → (at == len) ≡ false → map f (beats_of (drop at (take len buffer))) ≡ [] → ⊥
room_left f at len buffer le room e none =
    cons_nil _ _ (sym (ap (λ (bs : List Beat). map f bs) (left_some at len buffer le (λ same. true_false (sym (eq-eqb at len same) ∙ e)) room)) ∙ none)
  where
    cons_nil : (x : Offered) (xs : List Offered) → x ∷ xs ≡ [] → ⊥
    cons_nil x xs e = cc

less_same : (a b : ℕ) → a < b → a ≡ b → ⊥
less_same a b lt e = omega arith

pub room_taken : (f : Beat → Offered) (at len k : ℕ) (buffer : List ℕ) → at ≤ len → len ≤ length buffer → k ≡ min (len - at) 8 → map f (beats_of (drop (at + k) (take len buffer))) ≡ drop 1 (map f (beats_of (drop at (take len buffer))))
room_taken f at len k buffer le room e = elim (cases_lt at len) [
  | inl less ↦
      let some : at ≢ len = λ same. less_same at len less same in
      let many : k ≡ min (length (take (len - at) (drop at buffer))) 8 = omega (arith, length-take (len - at) (drop at buffer), length-drop at buffer) in
      ap (λ (bs : List Beat). map f bs) (left_after at len k buffer le some room many) ∙ sym (drop-map f 1 (beats_of (drop at (take len buffer))))
  | inr all ↦
      let end : at + k ≡ len = omega arith in
      let same : at ≡ len = omega arith in
      ap (λ (bs : List Beat). map f bs) (left_none (at + k) len buffer end) ∙ sym (ap (λ (l : List Offered). drop 1 l) (ap (λ (bs : List Beat). map f bs) (left_none at len buffer same)))
]

-- ---- bytes that are taken
-- a beat is taken: these are the bytes of the answer now
pub part_taken : (o : Outputs) (begun bytes : List ℕ) → o.out_valid ≡ true → bytes ≡ begun ++ low_bytes (min o.out_bytes 8) o.out_data → (given : Inputs) → given.out_ready ≡ true
    → taken_in begun (record { given = given; shown = o }) ≡ record { begun = if o.out_last then [] else bytes; last = if o.out_last then Some (record { verdict = o.out_verdict; target = o.out_target; frame = bytes }) else None }
part_taken o begun bytes v e given r = by_last o.out_last refl
  where
    by_last : (l : Bool) → o.out_last ≡ l → taken_in begun (record { given = given; shown = o }) ≡ record { begun = if o.out_last then [] else bytes; last = if o.out_last then Some (record { verdict = o.out_verdict; target = o.out_target; frame = bytes }) else None }
    by_last true l = rw (v, r, l, e) refl
    by_last false l = rw (v, r, l, e) refl

pub held_length : (o : Outputs) (begun part : List ℕ) → o.out_valid ≡ true → part ≡ low_bytes (min o.out_bytes 8) o.out_data → (given : Inputs) → given.out_ready ≡ true
    → length (held_bytes (begun_next begun (record { given = given; shown = o })) (ended_by begun (record { given = given; shown = o }))) ≡ length begun + length part
held_length o begun part v e given r = by_last o.out_last refl
  where
    by_last : (l : Bool) → o.out_last ≡ l → length (held_bytes (begun_next begun (record { given = given; shown = o })) (ended_by begun (record { given = given; shown = o }))) ≡ length begun + length part
    by_last true l = rw (v, r, l, e) (length-append begun (low_bytes (min o.out_bytes 8) o.out_data))
    by_last false l = rw (v, r, l, e) (length-append begun (low_bytes (min o.out_bytes 8) o.out_data))

-- ---- what is said of an error
pub on_err : {A E : Type 0} (r : Result A E) {P : Type 0} → P → OnErr r P
on_err (Ok a) p = tt
on_err (Err e) p = p
