-- The entry of a line, by its fields as they are written.
use Rattle.std.proofs.Common.{◌≡◌, ℕ, ◌%◌, Bool, true, false, List, [], ◌∷◌, length, Option, Some, None, Result, Ok, Err, is_some, is_ok, IsTrue, refl, sym, ap, ◌∙◌}
use Rattle.std.specs.Prelude.{◌↔◌, ◌||◌, if◌then◌else◌}
use Rattle.std.specs.List.{AllPass}
use Rattle.hex.specs.declared.error.FromHexError.{FromHexError}
use Rattle.hex.specs.Hex.{decode_of, is_hex_digit}
use Rattle.hex.proofs.HexLemmas.{decode_of-ok, decode_of-digits}
use Rattle.maps_text.specs.declared.fields.Fields.{Fields}
use Rattle.maps_text.specs.Lines.{Entry, is_empty, decoded, entry_as, entry_in, fields_of}
use Rattle.maps_text.specs.Steps.{IsWritten, FindsEntry, cut}
use Rattle.maps_text.proofs.Cuts.{fields_behind, fields_of-by}

-- ---- digits

pub digits_ok : (text : List ℕ) → length text % 2 ≡ 0 → AllPass is_hex_digit text → is_ok (decode_of text) ≡ true
digits_ok text even all = let d = decode_of-digits text even all in ap is_ok d.1

ok_only : (text : List ℕ) (r : Result (List ℕ) FromHexError) → decode_of text ≡ r → is_ok r ≡ true → (length text % 2 ≡ 0) × AllPass is_hex_digit text
ok_only text (Ok bytes) is h = let d = decode_of-ok text bytes is in (d.0, d.1)
ok_only text (Err e) is h = cc

pub ok_digits : (text : List ℕ) → is_ok (decode_of text) ≡ true → (length text % 2 ≡ 0) × AllPass is_hex_digit text
ok_digits text h = ok_only text (decode_of text) refl h

pub not_ok : (text : List ℕ) → ((length text % 2 ≡ 0) → AllPass is_hex_digit text → ⊥) → is_ok (decode_of text) ≡ false
not_ok text never = elim (is_ok (decode_of text)) as (λ b. is_ok (decode_of text) ≡ b → b ≡ false) [
  | true ↦ λ h. (let d = ok_digits text h in absurd (never d.0 d.1))
  | false ↦ λ _. refl
] refl

pub digits_by : (text : List ℕ) (all : Bool) → length text % 2 ≡ 0 → IsTrue all ↔ AllPass is_hex_digit text → all ≡ is_ok (decode_of text)
digits_by text true even is = sym (digits_ok text even (is.0 refl))
digits_by text false even is = sym (not_ok text (λ _ all. (let clash : false ≡ true = is.1 all in cc)))

-- ---- the tests of a line's fields

abbrev pub some_empty : List ℕ → List ℕ → List ℕ → Bool
some_empty name key value = is_empty name || (is_empty key || is_empty value)

-- ---- the entry

module _ (fields : Fields) where
  found_decoded : (empty : Bool) (key value : Result (List ℕ) FromHexError) → decode_of fields.key.now ≡ key → decode_of fields.value.now ≡ value → is_some (if empty then None else decoded fields.name.now key value) ≡ true
      → (e : Entry) × ((if empty then None else decoded fields.name.now key value) ≡ Some e) × IsWritten fields e
  found_decoded true key value k v h = cc
  found_decoded false (Ok key) (Ok value) k v h = (record { name = fields.name.now; key = key; value = value }, refl, record { name = refl; key = k; value = v })
  found_decoded false (Ok key) (Err e) k v h = cc
  found_decoded false (Err e) value k v h = cc

  pub finds_entry : (line : List ℕ) → fields_of line ≡ fields.name.now ∷ (fields.key.now ∷ (fields.value.now ∷ [])) → is_some (entry_as (fields.name.now ∷ (fields.key.now ∷ (fields.value.now ∷ [])))) ≡ true → FindsEntry line fields
  unfolding entry_in
  finds_entry line is h =
      let f = found_decoded (some_empty fields.name.now fields.key.now fields.value.now) (decode_of fields.key.now) (decode_of fields.value.now) refl refl h in
      record { entry = f.0; found = ap entry_as is ∙ f.1; written = f.2 }

  none_from : (o : Option Entry) → is_some o ≡ false → o ≡ None
  none_from None h = refl
  none_from (Some e) h = cc

  pub finds_none : (line : List ℕ) → fields_of line ≡ fields.name.now ∷ (fields.key.now ∷ (fields.value.now ∷ [])) → is_some (entry_as (fields.name.now ∷ (fields.key.now ∷ (fields.value.now ∷ [])))) ≡ false → entry_in line ≡ None
  unfolding entry_in
  finds_none line is h = ap entry_as is ∙ none_from _ h

-- ---- a line of other than three fields

pub one_field : (line a : List ℕ) → a ≡ (cut 32 line).0 → None ≡ (cut 32 line).1 → entry_in line ≡ None
unfolding entry_in
one_field line a p r = ap entry_as (fields_of-by line a None p r)

pub two_fields : (line a b rest : List ℕ) → a ≡ (cut 32 line).0 → Some rest ≡ (cut 32 line).1 → b ≡ (cut 32 rest).0 → None ≡ (cut 32 rest).1 → entry_in line ≡ None
unfolding entry_in
two_fields line a b rest p r q t = ap entry_as (fields_of-by line a (Some rest) p r ∙ ap (λ (xs : List (List ℕ)). a ∷ xs) (fields_of-by rest b None q t))

pub three_are : (line a b c rest later : List ℕ) (end : Option (List ℕ)) → a ≡ (cut 32 line).0 → Some rest ≡ (cut 32 line).1 → b ≡ (cut 32 rest).0 → Some later ≡ (cut 32 rest).1 → c ≡ (cut 32 later).0 → end ≡ (cut 32 later).1
    → fields_of line ≡ a ∷ (b ∷ (c ∷ fields_behind end))
three_are line a b c rest later end p r q t u v =
    fields_of-by line a (Some rest) p r
    ∙ ap (λ (xs : List (List ℕ)). a ∷ xs) (fields_of-by rest b (Some later) q t)
    ∙ ap (λ (xs : List (List ℕ)). a ∷ (b ∷ xs)) (fields_of-by later c end u v)

pub more_fields : (line a b c rest later last : List ℕ) → a ≡ (cut 32 line).0 → Some rest ≡ (cut 32 line).1 → b ≡ (cut 32 rest).0 → Some later ≡ (cut 32 rest).1 → c ≡ (cut 32 later).0 → Some last ≡ (cut 32 later).1 → entry_in line ≡ None
unfolding entry_in
more_fields line a b c rest later last p r q t u v =
    ap entry_as (three_are line a b c rest later (Some last) p r q t u v ∙ ap (λ (xs : List (List ℕ)). a ∷ (b ∷ (c ∷ xs))) (fields_of-by last _ _ refl refl))
