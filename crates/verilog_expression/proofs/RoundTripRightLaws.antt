-- What is spelled as the right side of a wire and keeps the rules is read as it.
use Rattle.std.proofs.Common.{◌≡◌, ℕ, ◌<◌, Bool, true, false, Ok, List, ◌∷◌, ◌++◌, refl, ◌∙◌}
use Rattle.std.proofs.lemmas.Bool.{and_parts, eq-eqb}
use Rattle.net_core.specs.declared.tree.Net.{Net}
use Rattle.net_core.specs.Nets.{Tree, TConst, TRead, TBit, TPartSelect, TMemoryWord, TUnary, TBinary, TConditional, TConcatenation, RightTree, RPlain, RQuotient, RRemainder}
use Rattle.net_core.specs.Width.{Scope, same_width, width_of, right_width}
use Rattle.verilog_lex.specs.declared.token.Symbol.TheVariants as symbol
use Rattle.verilog_lex.specs.Lexeme.{Lexeme, LName, LSymbol}
use Rattle.verilog_write.specs.VerilogGrammar.Grammar.{tree_lexemes, right_lexemes}
use Rattle.design_rules.specs.FormedScope.{Sorts}
use Rattle.verilog_expression.specs.declared.entry.Entry.TheVariants as entry
use Rattle.verilog_expression.specs.Expressions.{Resolve}
use Rattle.verilog_expression.specs.Rights.{value_at, division, division_at, plain_at, right_at}
use Rattle.verilog_expression.specs.Laws.{Names, IsRightKept, IsBehindTree, IsBehindRight}
use Rattle.verilog_expression.proofs.LexemeLaws.{entry_again}
use Rattle.verilog_expression.proofs.Widths.{same_is}
use Rattle.verilog_expression.proofs.RoundTripTreeLaws.{whole_again}

behind_right : (rest : List Lexeme) → IsBehindRight rest → IsBehindTree rest
behind_right (LSymbol symbol.Semicolon ∷ ts) h = tt
behind_right ts h = absurd h

name_alone : (names : Resolve) (l : List ℕ) (rest : List Lexeme) → IsBehindRight rest → right_at names (LName l ∷ rest) ≡ plain_at names (LName l ∷ rest)
unfolding right_at
name_alone names l (LSymbol symbol.Semicolon ∷ ts) h = refl
name_alone names l ts h = absurd h

-- an expression is no division
no_division : (names : Resolve) (name : Net → List ℕ) (t : Tree Net) (rest : List Lexeme) → IsBehindRight rest → right_at names (tree_lexemes name t ++ rest) ≡ plain_at names (tree_lexemes name t ++ rest)
unfolding right_at
no_division names name (TConst w) rest h = refl
no_division names name (TRead n) rest h = name_alone names (name n) rest h
no_division names name (TBit n i) rest h = refl
no_division names name (TPartSelect n hi lo) rest h = refl
no_division names name (TMemoryWord m i) rest h = refl
no_division names name (TUnary p a) rest h = refl
no_division names name (TBinary o a b) rest h = refl
no_division names name (TConditional c a b) rest h = refl
no_division names name (TConcatenation ps) rest h = refl

module _ (names : Resolve) (name : Net → List ℕ) (s : Scope Net) (k : Sorts Net) (named : Names names name s k) where
  value_again : (n : Net) (ts : List Lexeme) → k.value n ≡ true → value_at names (LName (name n) ∷ ts) ≡ Ok ((n, s.net n), ts)
  unfolding value_at
  value_again n ts h = rw (entry_again names (name n) (entry.Value n (s.net n)) ts (named.proper n h) (named.value n h)) refl

  division_again : (q : Bool) (own : List Lexeme) (a b : Net) (t1 rest : List Lexeme) → own ≡ LName (name a) ∷ t1 → k.value a ≡ true → k.value b ≡ true → 0 < same_width (s.net a) (s.net b) → division_at names q own (LName (name b) ∷ rest) ≡ Ok (record { right = division q a b; width = same_width (s.net a) (s.net b) }, rest)
  unfolding division_at
  division_again q own a b t1 rest e h g w =
      let p = same_is (s.net a) (s.net b) w in
      rw (e, value_again a t1 h, value_again b rest g, eq-eqb (s.net a) (s.net b) p.0) refl

  plain_again : (e : Tree Net) (rest : List Lexeme) → IsRightKept s k (RPlain e) → IsBehindTree rest → plain_at names (tree_lexemes name e ++ rest) ≡ Ok (record { right = RPlain e; width = width_of s e }, rest)
  unfolding plain_at
  plain_again e rest kept b = rw (whole_again names name s k named e rest (record { spelled = kept.spelled; some = kept.some; known = kept.known }) b) refl

  -- what is spelled as the right side of a wire and keeps the rules is read as it
  pub right_again : (r : RightTree Net) (rest : List Lexeme) → IsRightKept s k r → IsBehindRight rest → right_at names (right_lexemes name r ++ rest) ≡ Ok (record { right = r; width = right_width s r }, rest)
  unfolding right_at
  right_again (RPlain e) rest kept b = no_division names name e rest b ∙ plain_again e rest kept (behind_right rest b)
  right_again (RQuotient a b) rest kept h =
      let p = and_parts (k.value a) (k.value b) kept.known in
      division_again true _ a b _ rest refl p.0 p.1 kept.some
  right_again (RRemainder a b) rest kept h =
      let p = and_parts (k.value a) (k.value b) kept.known in
      division_again false _ a b _ rest refl p.0 p.1 kept.some
