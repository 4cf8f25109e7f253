-- Names and numbers of a design, as the lexical rules have them.
use Rattle.std.specs.Prelude.{◌≡◌, ℕ, ◌==◌, ◌^◌, nat_lt, nat_le, true, ◌&&◌, ◌||◌, ◌⊎◌, List, [], ◌∷◌, codes}
use Rattle.std.specs.List.{list_all, list_any}
use Rattle.std.specs.Str.{bytes_eq}
use Rattle.std.proofs.Common.{refl, sym, subst, inl, inr}
use Rattle.std.proofs.lemmas.Bool.{and_parts, and_from, or_cases, or_left, or_right, le-leb, lt-ltb}
use Rattle.std.proofs.lemmas.Slice.Eq.{bytes_eq-Decides}
use Rattle.net_core.specs.declared.tree.Word.{Word}
use Rattle.net_core.specs.Width.{Fits}
use Rattle.verilog_lex.specs.Bytes.{begins_word, is_word_byte}
use Rattle.verilog_lex.specs.Number.{fits_size}
use Rattle.verilog_lex.specs.Spelling.{IsName, is_word}
use Rattle.verilog_lex.proofs.NameLaws.{IsName-underscore}
use Rattle.design_rules.specs.FormedSyntax.{begins_name, continues_name, is_letter, is_digit, is_underscore, is_identifier, is_unreserved, is_name}

pub fits_size_of : (w : Word) → Fits w → fits_size w.width w.value ≡ true
fits_size_of w f =
    and_from (nat_le 1 w.width && nat_le w.width 64) (nat_lt w.value (2 ^ w.width))
    (and_from (nat_le 1 w.width) (nat_le w.width 64) (le-leb 1 w.width f.some) (le-leb w.width 64 f.most))
    (lt-ltb w.value (2 ^ w.width) f.small)

-- a letter of either case
letters_same : (c : ℕ) → is_letter c ≡ true → begins_word c ≡ true
letters_same c h = letter (or_cases (nat_le 97 c && nat_le c 122) (nat_le 65 c && nat_le c 90) h)
  where
    letter : ((nat_le 97 c && nat_le c 122) ≡ true) ⊎ ((nat_le 65 c && nat_le c 90) ≡ true) → begins_word c ≡ true
    letter (inl lower) = or_left _ (c == 95) (or_right (nat_le 65 c && nat_le c 90) (nat_le 97 c && nat_le c 122) lower)
    letter (inr upper) = or_left _ (c == 95) (or_left (nat_le 65 c && nat_le c 90) (nat_le 97 c && nat_le c 122) upper)

begins_same : (c : ℕ) → begins_name c ≡ true → begins_word c ≡ true
begins_same c h = begin (or_cases (is_letter c) (c == 95) h)
  where
    begin : (is_letter c ≡ true) ⊎ ((c == 95) ≡ true) → begins_word c ≡ true
    begin (inl letter) = letters_same c letter
    begin (inr line) = or_right _ (c == 95) line

continues_same : (c : ℕ) → continues_name c ≡ true → is_word_byte c ≡ true
continues_same c h = continue (or_cases (begins_name c) (is_digit c) h)
  where
    continue : (begins_name c ≡ true) ⊎ (is_digit c ≡ true) → is_word_byte c ≡ true
    continue (inl begins) = or_right (is_digit c) (begins_word c) (begins_same c begins)
    continue (inr digit) = or_left (is_digit c) (begins_word c) digit

all_same : (cs : List ℕ) → list_all continues_name cs ≡ true → list_all is_word_byte cs ≡ true
all_same [] h = refl
all_same (c ∷ cs) h =
    let s = and_parts (continues_name c) (list_all continues_name cs) h in
    and_from (is_word_byte c) (list_all is_word_byte cs) (continues_same c s.0) (all_same cs s.1)

identifier_word : (cs : List ℕ) → is_identifier cs ≡ true → is_word cs ≡ true
identifier_word [] h = h
identifier_word (c ∷ cs) h =
    let s = and_parts (begins_name c) (list_all continues_name cs) h in
    and_from (begins_word c) (list_all is_word_byte cs) (begins_same c s.0) (all_same cs s.1)

same_name : (cs name : List ℕ) → bytes_eq cs name ≡ true → IsName name → IsName cs
same_name cs name h n = subst IsName (sym ((bytes_eq-Decides cs name).0 h)) n

clk_named : IsName (codes "clk")
clk_named = record { letters = refl; other = refl }

ehdl_named : IsName (codes "ehdl")
ehdl_named = record { letters = refl; other = refl }

-- the names of the subset are words and no keywords
pub word_of_name : (cs : List ℕ) → is_name cs ≡ true → IsName cs
word_of_name cs h = name (or_cases (bytes_eq cs (codes "clk") || bytes_eq cs (codes "ehdl")) (is_identifier cs && is_unreserved cs) h)
  where
    fixed : (bytes_eq cs (codes "clk") ≡ true) ⊎ (bytes_eq cs (codes "ehdl") ≡ true) → IsName cs
    fixed (inl e) = same_name cs (codes "clk") e clk_named
    fixed (inr e) = same_name cs (codes "ehdl") e ehdl_named

    name : ((bytes_eq cs (codes "clk") || bytes_eq cs (codes "ehdl")) ≡ true) ⊎ ((is_identifier cs && is_unreserved cs) ≡ true) → IsName cs
    name (inl e) = fixed (or_cases (bytes_eq cs (codes "clk")) (bytes_eq cs (codes "ehdl")) e)
    name (inr e) =
        let s = and_parts (is_identifier cs) (is_unreserved cs) e in
        IsName-underscore cs (identifier_word cs s.0) (and_parts (list_any is_underscore cs) _ s.1).0
