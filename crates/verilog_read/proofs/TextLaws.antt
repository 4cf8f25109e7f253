-- What a text's outcome tells of its spelling, and the other way round.
use Rattle.std.proofs.Common.{◌≡◌, ◌∙◌, ℕ, List, Option, Some, None, Result, Ok, Err, refl, sym, ap, subst, IfOk}
use Rattle.net_core.specs.declared.design.Design.{Design}
use Rattle.net_core.specs.Nets.{Netlist}
use Rattle.net_core.specs.View.{netlist_of}
use Rattle.verilog_expression.specs.verilog_write.VerilogGrammar.Grammar.{design_lexemes}
use Rattle.verilog_expression.specs.verilog_write.VerilogGrammar.Spelling.{Spells}
use Rattle.verilog_lex.specs.declared.token.Token.{Token}
use Rattle.verilog_lex.specs.Lexeme.{Lexeme, Lexes, lexemes_of}
use Rattle.verilog_lex.specs.Tokens.{tokens_in}
use Rattle.verilog_expression.specs.Reads.{Reading}
use Rattle.verilog_read.specs.declared.error.ReadError.{ReadError}
use Rattle.verilog_read.specs.declared.error.ReadError.TheVariants.{Lex, Syntax, Unknown, Twice, Width, Order, Ports, NoMemory}
use Rattle.verilog_read.specs.Designs.{design_at, port_fault}
use Rattle.verilog_read.specs.Texts.{by_ports, by_lexemes, by_tokens, outcome_of, IsOutcome, ReadsNetlist}
use Rattle.verilog_read.proofs.SoundDesign.{design_found}
use Rattle.verilog_read.proofs.CompleteDesigns.{design_only}

ports_found : (d p : Netlist) (fault : Option ℕ) → by_ports d fault ≡ Ok p → (fault ≡ None) × (d ≡ p)
ports_found d p None h = (refl, cc)
ports_found d p (Some k) h = absurd cc

-- the reading of a text whose outcome is a design
lexemes_found : (text : List ℕ) (ts : List Token) (r : Reading Netlist) (p : Netlist) → by_lexemes text ts r ≡ Ok p → (r ≡ Ok p) × (port_fault p ≡ None)
lexemes_found text ts (Ok d) p h =
    let k = ports_found d p (port_fault d) h in
    (ap (λ (x : Netlist). Ok x) k.1, ap port_fault (sym k.1) ∙ k.0)
lexemes_found text ts (Err f) p h = absurd cc

-- the outcome of a text by its tokens
pub by_its_tokens : (text : List ℕ) (ts : List Token) → tokens_in text ≡ Ok ts → outcome_of text ≡ by_lexemes text ts (design_at (lexemes_of text ts))
unfolding outcome_of
by_its_tokens text ts e = ap (by_tokens text) e

pub outcome_found : (text : List ℕ) (ts : List Token) (p : Netlist) → tokens_in text ≡ Ok ts → Lexes text (lexemes_of text ts) → outcome_of text ≡ Ok p → Spells text p
outcome_found text ts p e l h =
    let r = lexemes_found text ts (design_at (lexemes_of text ts)) p (sym (by_its_tokens text ts e) ∙ h) in
    let k = design_found (lexemes_of text ts) p r.0 r.1 in
    record { lexemes = subst (λ (ls : List Lexeme). Lexes text ls) k.0 l; formed = k.1 }

whole_again : (text : List ℕ) (ts : List Token) (p : Netlist) (r : Reading Netlist) → r ≡ Ok p → port_fault p ≡ None → by_lexemes text ts r ≡ Ok p
whole_again text ts p r e f = ap (by_lexemes text ts) e ∙ ap (by_ports p) f

pub outcome_only : (text : List ℕ) (ts : List Token) (p : Netlist) → tokens_in text ≡ Ok ts → ((ls : List Lexeme) → Lexes text ls → lexemes_of text ts ≡ ls) → Spells text p → outcome_of text ≡ Ok p
outcome_only text ts p e only s =
    let k = design_only p s.formed in
    by_its_tokens text ts e ∙ whole_again text ts p (design_at (lexemes_of text ts)) (ap design_at (only (design_lexemes p) s.lexemes) ∙ k.0) k.1

-- what was returned, where the outcome is a design
pub reads_netlist : (r : Result Design ReadError) (outcome : Result Netlist ReadError) (p : Netlist) → IsOutcome r outcome → outcome ≡ Ok p → ReadsNetlist r p
reads_netlist (Ok d) outcome p h e = cc
reads_netlist (Err (Lex at)) outcome p h e = absurd cc
reads_netlist (Err (Syntax at)) outcome p h e = absurd cc
reads_netlist (Err (Unknown at)) outcome p h e = absurd cc
reads_netlist (Err (Twice at)) outcome p h e = absurd cc
reads_netlist (Err (Width at)) outcome p h e = absurd cc
reads_netlist (Err (Order at)) outcome p h e = absurd cc
reads_netlist (Err (Ports k)) outcome p h e = absurd cc
reads_netlist (Err NoMemory) outcome p h e = tt

-- the clauses of a reader, where its tokens are known
pub found_clause : (text : List ℕ) (ts : List Token) (r : Result Design ReadError) → tokens_in text ≡ Ok ts → Lexes text (lexemes_of text ts) → IsOutcome r (outcome_of text) → IfOk r (λ d. Spells text (netlist_of d))
found_clause text ts (Ok d) e l h = outcome_found text ts (netlist_of d) e l h
found_clause text ts (Err x) e l h = tt

pub only_clause : (text : List ℕ) (ts : List Token) (r : Result Design ReadError) → tokens_in text ≡ Ok ts → ((ls : List Lexeme) → Lexes text ls → lexemes_of text ts ≡ ls) → IsOutcome r (outcome_of text) → (p : Netlist) → Spells text p → ReadsNetlist r p
only_clause text ts r e only h p s = reads_netlist r (outcome_of text) p h (outcome_only text ts p e only s)
