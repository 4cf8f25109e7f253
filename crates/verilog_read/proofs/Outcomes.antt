-- What a text is, from its tokens.
use Rattle.std.proofs.Common.{◌≡◌, ◌∙◌, sym, ap, subst, ℕ, List, Result, Ok, Err}
use Rattle.net_core.specs.declared.design.Design.{Design}
use Rattle.net_core.specs.Nets.{Netlist}
use Rattle.std.specs.declared.vec.Vec.{Vec}
use Rattle.std.specs.declared.alloc.Global.{Global}
use Rattle.verilog_lex.specs.declared.token.Token.{Token}
use Rattle.verilog_lex.specs.declared.token.LexError.{LexError}
use Rattle.verilog_lex.specs.declared.token.LexError.TheVariants.{At}
use Rattle.verilog_lex.specs.Lexeme.{lexemes_of}
use Rattle.verilog_lex.specs.Tokens.{Gives, tokens_in}
use Rattle.verilog_read.specs.declared.error.ReadError.{ReadError}
use Rattle.verilog_read.specs.declared.error.ReadError.TheVariants.{Lex}
use Rattle.verilog_read.specs.Designs.{design_at}
use Rattle.verilog_read.specs.Texts.{IsOutcome, by_lexemes, by_tokens, outcome_of}

pub tokens_read : (text : List ℕ) (all ts : List Token) (r : Result Design ReadError) → tokens_in text ≡ Ok all → ts ≡ all → IsOutcome r (by_lexemes text ts (design_at (lexemes_of text ts))) → IsOutcome r (outcome_of text)
unfolding outcome_of
tokens_read text all ts r e f h =
    subst (λ (o : Result Netlist ReadError). IsOutcome r o)
    (ap (λ (xs : List Token). by_lexemes text xs (design_at (lexemes_of text xs))) f ∙ sym (ap (by_tokens text) e))
    h

pub no_tokens : (text : List ℕ) (e : LexError) (at : ℕ) → e ≡ At at → let r : Result (Vec Token Global) LexError = Err e in Gives r (tokens_in text) → outcome_of text ≡ Err (Lex at)
unfolding outcome_of
no_tokens text e at f h = ap (by_tokens text) (subst (λ (x : LexError). let r : Result (Vec Token Global) LexError = Err x in Gives r (tokens_in text)) f h)
