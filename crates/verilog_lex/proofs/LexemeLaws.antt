-- Lexemes of a text, and tokens that lead to its end.
use Rattle.std.proofs.Common.{◌≡◌, ℕ, ◌+◌, ◌-◌, ◌≤◌, List, [], ◌∷◌, length, take, drop, slice_range, Ok, refl, sym, ap, subst, ◌∙◌, arith, length-drop, drop-drop}
use Rattle.std.proofs.Math.Seq.{drop-length}
use Rattle.verilog_lex.specs.Element.{element_in}
use Rattle.verilog_lex.specs.Tokens.{Leads, token, tokens_in}
use Rattle.verilog_lex.specs.Tokens.Leads.{here, separator as over, next as after}
use Rattle.verilog_lex.specs.Lexeme.{Lexeme, Lexes, lexeme, lexemes_of}
use Rattle.verilog_lex.specs.Lexeme.Lexes.{done, separator, next}
use Rattle.verilog_lex.specs.declared.token.Token.{Token}
use Rattle.verilog_lex.specs.declared.token.TokenKind.{TokenKind}
use Rattle.verilog_lex.proofs.LeadsLemmas.{token_ends, separator_ends, tokens_in-leads}

-- the bytes of a token, from its place on
span_take : (at n : ℕ) (text : List ℕ) (k : TokenKind) → lexeme k (take n (drop at text)) ≡ lexeme k (slice_range text at (at + n))
span_take at n text k = let e : n ≡ (at + n) - at = omega arith in ap (λ m. lexeme k (take m (drop at text))) e

-- tokens that lead to the end are the lexemes of the text
pub Lexes-leads : (text : List ℕ) (at : ℕ) (ts : List Token) (to : ℕ) → Leads text at ts to → to ≡ length text → Lexes (drop at text) (lexemes_of text ts)
Lexes-leads text at ts to (here p) end =
    let P : List ℕ → Type 0 = λ rest. Lexes rest [] in
    let e : drop p text ≡ [] = ap (λ n. drop n text) end ∙ drop-length text in subst P (sym e) done
Lexes-leads text at ts to (over p n us q e h) end =
    let P : List ℕ → Type 0 = λ rest. Lexes rest (lexemes_of text us) in
    separator (drop p text) n (lexemes_of text us) e (subst P (sym (drop-drop n p text)) (Lexes-leads text (p + n) us q h end))
Lexes-leads text at ts to (after p n k us q e h) end =
    let P : List ℕ → Type 0 = λ rest. Lexes rest (lexemes_of text us) in
    let Q : Lexeme → Type 0 = λ l. Lexes (drop p text) (l ∷ lexemes_of text us) in
    subst Q (span_take p n text k) (next (drop p text) n k (lexemes_of text us) e (subst P (sym (drop-drop n p text)) (Lexes-leads text (p + n) us q h end)))

-- tokens of a text from a place on, with the lexemes that they are
pub record LexedFrom (text : List ℕ) (at : ℕ) (ls : List Lexeme) : Type 0 where
  pub found : List Token
  pub leads : Leads text at found (length text)
  pub same : lexemes_of text found ≡ ls

leads_from : (text : List ℕ) (at : ℕ) (rest : List ℕ) (ls : List Lexeme) → Lexes rest ls → rest ≡ drop at text → at ≤ length text → LexedFrom text at ls
leads_from text at rest ls done e h =
    let l : 0 ≡ length text - at = ap length e ∙ length-drop at text in
    let end : at ≡ length text = omega arith in
    let P : ℕ → Type 0 = λ to. Leads text at [] to in
    record { found = []; leads = subst P end (here at); same = refl }
leads_from text at rest ls (separator r n ms p h) e within =
    let here_too : element_in (drop at text) ≡ _ = ap element_in (sym e) ∙ p in
    let w = separator_ends text at n here_too in
    let more = leads_from text (at + n) (drop n r) ms h (ap (drop n) e ∙ drop-drop n at text) w.1 in
    record { found = more.found; leads = over at n more.found (length text) here_too more.leads; same = more.same }
leads_from text at rest ls (next r n k ms p h) e within =
    let here_too : element_in (drop at text) ≡ _ = ap element_in (sym e) ∙ p in
    let w = token_ends text at n k here_too in
    let more = leads_from text (at + n) (drop n r) ms h (ap (drop n) e ∙ drop-drop n at text) w.1 in
    record {
      found = token k at (at + n) ∷ more.found;
      leads = after at n k more.found (length text) here_too more.leads;
      same =
          ap (λ l. l ∷ lexemes_of text more.found) (sym (span_take at n text k))
          ∙ ap (λ bytes. lexeme k (take n bytes) ∷ lexemes_of text more.found) (sym e)
          ∙ ap (λ ls. lexeme k (take n r) ∷ ls) more.same;
    }

-- the lexemes of a text are those of its tokens
pub tokens_in-lexes : (text : List ℕ) (ls : List Lexeme) → Lexes text ls → (ts : List Token) × (tokens_in text ≡ Ok ts) × (lexemes_of text ts ≡ ls)
tokens_in-lexes text ls h =
    let from = leads_from text 0 text ls h refl (omega arith) in
    (from.found, tokens_in-leads text from.found from.leads, from.same)
