-- The first part of a text is what stands before its first separator.
use Rattle.std.proofs.Common.{◌≡◌, ◌≢◌, ℕ, zero, suc, ◌<◌, true, false, List, [], ◌∷◌, length, get_or, take, drop, Option, Some, None, unwrap_or, refl, sym, ap, ◌∙◌, inl, inr, arith}
use Rattle.std.specs.Prelude.{◌==◌}
use Rattle.std.proofs.lemmas.Bool.{cases_eq, eq-eqb, ne_eqb}
use Rattle.maps_text.specs.Lines.{in_front, lines_of, fields_of}
use Rattle.maps_text.specs.Steps.{cut}

pub cut_found : (separator : ℕ) (text : List ℕ) (i : ℕ) → i < length text → get_or text i 0 ≡ separator → ((k : ℕ) → k < i → get_or text k 0 ≡ separator → ⊥) → cut separator text ≡ (take i text, Some (drop (suc i) text))
unfolding cut
cut_found separator [] i lt is before = absurd (omega arith)
cut_found separator (b ∷ bytes) zero lt is before = let yes : (b == separator) ≡ true = eq-eqb b separator is in rw yes refl
cut_found separator (b ∷ bytes) (suc i) lt is before =
    let no : (b == separator) ≡ false = ne_eqb b separator (before 0 (omega arith)) in
    let later = cut_found separator bytes i (omega arith) is (λ k below. before (suc k) (omega arith)) in
    rw (no, later) refl

pub cut_none : (separator : ℕ) (text : List ℕ) → ((k : ℕ) → k < length text → get_or text k 0 ≡ separator → ⊥) → cut separator text ≡ (text, None)
unfolding cut
cut_none separator [] before = refl
cut_none separator (b ∷ bytes) before =
    let no : (b == separator) ≡ false = ne_eqb b separator (before 0 (omega arith)) in
    let later = cut_none separator bytes (λ k below. before (suc k) (omega arith)) in
    rw (no, later) refl

-- the lines after the first
abbrev pub lines_behind : Option (List ℕ) → List (List ℕ)
lines_behind None = lines_of []
lines_behind (Some rest) = lines_of rest

pub lines_of-cons : (b : ℕ) (bytes : List ℕ) → lines_of (b ∷ bytes) ≡ (cut 10 (b ∷ bytes)).0 ∷ lines_behind (cut 10 (b ∷ bytes)).1
unfolding lines_of cut
lines_of-cons b [] = elim (cases_eq b 10) [
  | inl is ↦ let yes : (b == 10) ≡ true = eq-eqb b 10 is in rw yes refl
  | inr not ↦ let no : (b == 10) ≡ false = ne_eqb b 10 not in rw no refl
]
lines_of-cons b (c ∷ bytes) = elim (cases_eq b 10) [
  | inl is ↦ let yes : (b == 10) ≡ true = eq-eqb b 10 is in rw yes refl
  | inr not ↦
      let no : (b == 10) ≡ false = ne_eqb b 10 not in
      rw no (ap (in_front b) (lines_of-cons c bytes))
]

pub lines_of-by : (text line : List ℕ) (rest : Option (List ℕ)) → text ≢ [] → line ≡ (cut 10 text).0 → rest ≡ (cut 10 text).1 → lines_of text ≡ line ∷ lines_behind rest
lines_of-by [] line rest some p r = absurd (some refl)
lines_of-by (b ∷ bytes) line rest some p r =
    lines_of-cons b bytes ∙ ap (λ (x : List ℕ). x ∷ lines_behind (cut 10 (b ∷ bytes)).1) (sym p) ∙ ap (λ (o : Option (List ℕ)). line ∷ lines_behind o) (sym r)

-- what is left after the first line is shorter
pub cut_shorter : (separator b : ℕ) (bytes : List ℕ) → length (unwrap_or (cut separator (b ∷ bytes)).1 []) < suc (length bytes)
unfolding cut
cut_shorter separator b [] = elim (cases_eq b separator) [
  | inl is ↦ let yes : (b == separator) ≡ true = eq-eqb b separator is in rw yes (omega arith)
  | inr not ↦ let no : (b == separator) ≡ false = ne_eqb b separator not in rw no (omega arith)
]
cut_shorter separator b (c ∷ bytes) = elim (cases_eq b separator) [
  | inl is ↦ let yes : (b == separator) ≡ true = eq-eqb b separator is in rw yes (omega arith)
  | inr not ↦
      let no : (b == separator) ≡ false = ne_eqb b separator not in
      let later = cut_shorter separator c bytes in
      rw no (omega (arith, later))
]

pub rest_shorter : (text rest : List ℕ) → text ≢ [] → Some rest ≡ (cut 10 text).1 → length rest < length text
rest_shorter [] rest some r = absurd (some refl)
rest_shorter (b ∷ bytes) rest some r =
    let len : length rest ≡ length (unwrap_or (cut 10 (b ∷ bytes)).1 []) = ap (λ (o : Option (List ℕ)). length (unwrap_or o [])) r in
    let less = cut_shorter 10 b bytes in
    omega (arith, len, less)

-- the fields after the first
abbrev pub fields_behind : Option (List ℕ) → List (List ℕ)
fields_behind None = []
fields_behind (Some rest) = fields_of rest

pub fields_of-cut : (line : List ℕ) → fields_of line ≡ (cut 32 line).0 ∷ fields_behind (cut 32 line).1
unfolding fields_of cut
fields_of-cut [] = refl
fields_of-cut (b ∷ bytes) = elim (cases_eq b 32) [
  | inl is ↦ let yes : (b == 32) ≡ true = eq-eqb b 32 is in rw yes refl
  | inr not ↦
      let no : (b == 32) ≡ false = ne_eqb b 32 not in
      rw no (ap (in_front b) (fields_of-cut bytes))
]

pub fields_of-by : (line part : List ℕ) (rest : Option (List ℕ)) → part ≡ (cut 32 line).0 → rest ≡ (cut 32 line).1 → fields_of line ≡ part ∷ fields_behind rest
fields_of-by line part rest p r =
    fields_of-cut line ∙ ap (λ (x : List ℕ). x ∷ fields_behind (cut 32 line).1) (sym p) ∙ ap (λ (o : Option (List ℕ)). part ∷ fields_behind o) (sym r)
