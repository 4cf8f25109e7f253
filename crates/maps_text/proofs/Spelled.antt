-- A written line is read as its entry.
use Rattle.std.proofs.Common.{◌≡◌, ◌≢◌, ℕ, ◌<◌, true, false, List, [], ◌∷◌, ◌++◌, length, All, Some, Ok, refl, sym, ap, ◌∙◌, arith, append_assoc}
use Rattle.std.specs.Prelude.{◌==◌}
use Rattle.std.proofs.lemmas.Bool.{ne_eqb}
use Rattle.std.proofs.lemmas.List.Elements.{All-head, All-tail}
use Rattle.std.specs.List.{AllPass}
use Rattle.hex.specs.Hex.{decode_of, encode_lower, is_hex_digit}
use Rattle.hex.specs.Hex as hex
use Rattle.hex.proofs.HexLemmas.{decode_of-ok, decode_of-encode_lower, length-encode_with}
use Rattle.hex.specs.Hex.{lower_digits}
use Rattle.maps_text.specs.Lines.{in_front, lines_of, fields_of, is_empty, decoded, entry_as, entry_in}
use Rattle.maps_text.specs.Laws.{IsField}
use Rattle.maps_text.specs.Writing.{line_text}

-- the bytes have no such byte
abbrev pub Lacks : ℕ → List ℕ → Type 0
Lacks b [] = Unit {0}
Lacks b (x ∷ xs) = (x ≡ b → ⊥) × Lacks b xs

pub Lacks-append : (b : ℕ) (xs ys : List ℕ) → Lacks b xs → Lacks b ys → Lacks b (xs ++ ys)
Lacks-append b [] ys h k = k
Lacks-append b (x ∷ xs) ys h k = (h.0, Lacks-append b xs ys h.1 k)

lines_of-line : (line rest : List ℕ) → Lacks 10 line → lines_of (line ++ 10 ∷ rest) ≡ line ∷ lines_of rest
unfolding lines_of
lines_of-line [] rest h = refl
lines_of-line (b ∷ line) rest h =
    let no : (b == 10) ≡ false = ne_eqb b 10 h.0 in
    rw no (ap (in_front b) (lines_of-line line rest h.1))

fields_of-part : (part rest : List ℕ) → Lacks 32 part → fields_of (part ++ 32 ∷ rest) ≡ part ∷ fields_of rest
unfolding fields_of
fields_of-part [] rest h = refl
fields_of-part (b ∷ part) rest h =
    let no : (b == 32) ≡ false = ne_eqb b 32 h.0 in
    rw no (ap (in_front b) (fields_of-part part rest h.1))

fields_of-last : (part : List ℕ) → Lacks 32 part → fields_of part ≡ part ∷ []
unfolding fields_of
fields_of-last [] h = refl
fields_of-last (b ∷ part) h =
    let no : (b == 32) ≡ false = ne_eqb b 32 h.0 in
    rw no (ap (in_front b) (fields_of-last part h.1))

-- ---- names and digits

plain_lacks : (name : List ℕ) → All (λ b. (b ≢ 32) × (b ≢ 10)) name → Lacks 32 name × Lacks 10 name
plain_lacks [] h = (tt, tt)
plain_lacks (b ∷ name) h =
    let here = All-head (λ b. (b ≢ 32) × (b ≢ 10)) b name h in
    let later = plain_lacks name (All-tail (λ b. (b ≢ 32) × (b ≢ 10)) b name h) in
    ((here.0, later.0), (here.1, later.1))

digits_lack : (b : ℕ) (digits : List ℕ) → is_hex_digit b ≡ false → AllPass is_hex_digit digits → Lacks b digits
digits_lack b [] other h = tt
digits_lack b (x ∷ digits) other h = (
  λ e. (let clash : true ≡ false = sym (All-head (λ x. is_hex_digit x ≡ true) x digits h) ∙ ap is_hex_digit e ∙ other in cc),
  digits_lack b digits other (All-tail (λ x. is_hex_digit x ≡ true) x digits h),
)

encoded_lacks : (b : ℕ) (bytes : List ℕ) → is_hex_digit b ≡ false → hex.IsBytes bytes → Lacks b (encode_lower bytes)
encoded_lacks b bytes other h = digits_lack b (encode_lower bytes) other (decode_of-ok (encode_lower bytes) bytes (decode_of-encode_lower bytes h)).1

some_empty_not : (field : List ℕ) → 0 < length field → is_empty field ≡ false
some_empty_not field h = ne_eqb (length field) 0 (λ e. omega (arith, h, e))

encoded_some : (bytes : List ℕ) → 0 < length bytes → 0 < length (encode_lower bytes)
encoded_some bytes h = let len = length-encode_with lower_digits bytes in omega (arith, h, len)

name_some : (name : List ℕ) → name ≢ [] → 0 < length name
name_some [] h = absurd (h refl)
name_some (b ∷ name) h = omega arith

-- ---- the line

-- a line without its line feed
abbrev pub body : List ℕ → List ℕ → List ℕ → List ℕ
body name key value = name ++ 32 ∷ encode_lower key ++ 32 ∷ encode_lower value

module _ (name key value : List ℕ) (named : IsField name) (k : hex.IsBytes key) (v : hex.IsBytes value) (k_some : 0 < length key) (v_some : 0 < length value) where
  body_lacks : Lacks 10 (body name key value)
  body_lacks =
      Lacks-append 10 (name ++ 32 ∷ encode_lower key) (32 ∷ encode_lower value)
      (Lacks-append 10 name (32 ∷ encode_lower key) (plain_lacks name named.plain).1 ((λ e. omega (arith, e)), encoded_lacks 10 key refl k))
      ((λ e. omega (arith, e)), encoded_lacks 10 value refl v)

  pub lines_of-written : (rest : List ℕ) → lines_of (line_text name key value ++ rest) ≡ body name key value ∷ lines_of rest
  unfolding line_text
  lines_of-written rest =
      ap lines_of (append_assoc (body name key value) (10 ∷ []) rest) ∙ lines_of-line (body name key value) rest body_lacks

  fields_are : fields_of (body name key value) ≡ name ∷ (encode_lower key ∷ (encode_lower value ∷ []))
  fields_are =
      ap fields_of (append_assoc name (32 ∷ encode_lower key) (32 ∷ encode_lower value))
      ∙ fields_of-part name (encode_lower key ++ 32 ∷ encode_lower value) (plain_lacks name named.plain).0
      ∙ ap (λ (fs : List (List ℕ)). name ∷ fs) (fields_of-part (encode_lower key) (encode_lower value) (encoded_lacks 32 key refl k)
      ∙ ap (λ (fs : List (List ℕ)). encode_lower key ∷ fs) (fields_of-last (encode_lower value) (encoded_lacks 32 value refl v)))

  pub entry_in-written : entry_in (body name key value) ≡ Some (record { name = name; key = key; value = value })
  unfolding entry_in
  entry_in-written =
      let n : is_empty name ≡ false = some_empty_not name (name_some name named.some) in
      let ek : is_empty (encode_lower key) ≡ false = some_empty_not _ (encoded_some key k_some) in
      let ev : is_empty (encode_lower value) ≡ false = some_empty_not _ (encoded_some value v_some) in
      let dk : decode_of (encode_lower key) ≡ Ok key = decode_of-encode_lower key k in
      let dv : decode_of (encode_lower value) ≡ Ok value = decode_of-encode_lower value v in
      let all : entry_as (name ∷ (encode_lower key ∷ (encode_lower value ∷ []))) ≡ Some (record { name = name; key = key; value = value }) = rw (n, ek, ev) (ap (λ r. decoded name r (decode_of (encode_lower value))) dk ∙ ap (decoded name (Ok key)) dv) in
      ap entry_as fields_are ∙ all
