-- Widths, new names, ends and indices are read where they are spelled.
use Rattle.std.proofs.Common.{◌≡◌, inl, inr, ℕ, zero, suc, ◌+◌, ◌-◌, ◌^◌, ◌<◌, ◌≤◌, true, false, Some, Ok, List, [], ◌∷◌, ◌++◌, refl, ap, ◌∙◌, arith}
use Rattle.std.specs.Prelude.{◌==◌}
use Rattle.std.specs.Str.{bytes_eq}
use Rattle.std.specs.List.{list_any}
use Rattle.std.proofs.lemmas.Bool.{lt-ltb, eq-eqb, ne_eqb, cases_eq}
use Rattle.std.proofs.lemmas.Nat.{pow_pos, pow_below}
use Rattle.net_core.specs.Nets.{Netlist}
use Rattle.verilog_lex.specs.declared.token.Symbol.TheVariants as symbol
use Rattle.verilog_lex.specs.Lexeme.{Lexeme, LName, LNumber, LSymbol}
use Rattle.verilog_expression.specs.verilog_write.VerilogGrammar.Grammar.{range_lexemes}
use Rattle.design_rules.specs.FormedSyntax.{is_name}
use Rattle.verilog_expression.proofs.LexemeLaws.{symbol_again, behind_again}
use Rattle.verilog_read.specs.Header.{range_at, fresh_at}
use Rattle.verilog_read.specs.Declarations.{ends_at, index_from, index_of}

-- ---- widths
range_wide : (n : ℕ) (ts : List Lexeme) → 0 < n → n < 64 → range_at (LSymbol symbol.OpenBracket ∷ LNumber n ∷ LSymbol symbol.Colon ∷ LNumber 0 ∷ LSymbol symbol.CloseBracket ∷ ts) ≡ Ok (suc n, ts)
unfolding range_at
range_wide n ts l m = rw (behind_again (LSymbol symbol.Colon ∷ LNumber 0 ∷ []) (LSymbol symbol.CloseBracket ∷ ts) refl, symbol_again symbol.CloseBracket ts, lt-ltb 0 n l, lt-ltb n 64 m) refl

pub range_again : (w : ℕ) (s : List ℕ) (ts : List Lexeme) → 0 < w → w ≤ 64 → range_at (range_lexemes w ++ LName s ∷ ts) ≡ Ok (w, LName s ∷ ts)
unfolding range_at
range_again w s ts l m = elim (cases_eq w 1) [
  | inl e ↦ rw e refl
  | inr e ↦ let n : suc (w - 1) ≡ w = omega arith in rw (ne_eqb w 1 e) (range_wide (w - 1) (LName s ∷ ts) (omega arith) (omega arith) ∙ ap (λ v. Ok (v, LName s ∷ ts)) n)
]

-- ---- a name that nothing before has, and the end of an item
pub fresh_again : (a : Netlist) (s : List ℕ) (ts : List Lexeme) → is_name s ≡ true → list_any (bytes_eq s) a.names ≡ false → fresh_at a (LName s ∷ ts) ≡ Ok (s, ts)
unfolding fresh_at
fresh_again a s ts h n = rw (h, n) refl

pub ends_again : (v w : ℕ) (ts : List Lexeme) → v ≡ w → ends_at (v == w) (LSymbol symbol.Semicolon ∷ ts) ≡ Ok ts
unfolding ends_at
ends_again v w ts e = rw (symbol_again symbol.Semicolon ts, eq-eqb v w e) refl

-- ---- the width of an index
index_reached : (more width w : ℕ) → width ≤ w → w < width + more → index_from more width (2 ^ w - 1) ≡ Some w
index_reached zero width w l m = absurd (omega arith)
index_reached (suc more) width w l m = elim (cases_eq width w) [
  | inl e ↦ rw (e, eq-eqb (2 ^ w - 1) (2 ^ w - 1) refl) refl
  | inr e ↦
      let n : (2 ^ w - 1 ≡ 2 ^ width - 1) → ⊥ = λ q. omega (arith, pow_below width w (omega arith), pow_pos width) in
      rw (ne_eqb (2 ^ w - 1) (2 ^ width - 1) n) (index_reached more (suc width) w (omega arith) (omega arith))
]

pub index_again : (w : ℕ) → 1 ≤ w → w ≤ 16 → index_of (2 ^ w - 1) ≡ Some w
index_again w l m = index_reached 16 1 w l (omega arith)
