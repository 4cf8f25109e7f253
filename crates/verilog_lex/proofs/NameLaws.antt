-- Which texts are names.
use Rattle.std.proofs.Common.{◌≡◌, ℕ, ◌==◌, true, false, List, Option, Some, None, nat_eq, refl, sym, ap, ◌∙◌}
use Rattle.std.specs.Cmp.Lexicographic.{pointwise, same_text}
use Rattle.std.specs.List.{list_any}
use Rattle.verilog_lex.specs.Words.{keyword_text, keywords}
use Rattle.verilog_lex.specs.Element.{keyword_of}
use Rattle.verilog_lex.specs.Spelling.{IsName, is_word}
use Rattle.verilog_lex.specs.declared.token.Keyword.{Keyword}
use Rattle.verilog_lex.specs.declared.token.Keyword.TheVariants as keyword
use Rattle.verilog_lex.proofs.ByteRuns.{find_passes}

no_underscore : (k : Keyword) → list_any (λ c. c == 95) (keyword_text k) ≡ false
no_underscore keyword.Module = refl
no_underscore k = refl

other_word : (word : List ℕ) (o : Option Keyword) → keyword_of word ≡ o → list_any (λ c. c == 95) word ≡ true → keyword_of word ≡ None
other_word word None e h = e
other_word word (Some k) e h =
    let passes = find_passes (λ k. pointwise nat_eq (keyword_text k) word) keywords k e in
    let same : keyword_text k ≡ word = same_text (keyword_text k) word (sym passes) in
    let f : false ≡ true = sym (no_underscore k) ∙ ap (list_any (λ c. c == 95)) same ∙ h in absurd cc

-- a word with `_` in it is no keyword
pub IsName-underscore : (word : List ℕ) → is_word word ≡ true → list_any (λ c. c == 95) word ≡ true → IsName word
IsName-underscore word e h = record { letters = e; other = other_word word (keyword_of word) refl h }
