-- Texts whose lexemes begin alike have the same error, and spell no design.
use Rattle.std.proofs.Common.{◌≡◌, ◌≢◌, ℕ, Option, Some, None, ◌+◌, ◌-◌, ◌<◌, Result, Ok, Err, List, ◌++◌, length, length-append, refl, sym, ◌∙◌, ap, arith}
use Rattle.std.proofs.lemmas.List.{length-map}
use Rattle.net_core.specs.Nets.{Netlist}
use Rattle.verilog_lex.specs.declared.token.Token.{Token}
use Rattle.verilog_lex.specs.Lexeme.{Lexeme, Lexes, lexeme_of, lexemes_of}
use Rattle.verilog_lex.specs.Tokens.{tokens_in}
use Rattle.verilog_lex.proofs.LexemeLaws.{tokens_in-lexes}
use Rattle.verilog_expression.specs.declared.fault.Code.{Code}
use Rattle.verilog_expression.specs.declared.fault.Code.TheVariants as code
use Rattle.verilog_expression.specs.Reads.{Reading}
use Rattle.verilog_read.specs.declared.error.ReadError.{ReadError}
use Rattle.verilog_read.specs.declared.error.ReadError.TheVariants.{Ports}
use Rattle.verilog_read.specs.Designs.{design_at, port_fault}
use Rattle.verilog_read.specs.Texts.{place_of, by_ports, by_lexemes, error_of, outcome_of}
use Rattle.verilog_read.proofs.TextLaws.{by_its_tokens, outcome_only}
use Rattle.verilog_read.specs.VerilogFaults.Faults.{lexemes_behind, fault_with, BeginsWith, start_of, SharesError}
use Rattle.verilog_read.proofs.VerilogFaults.DesignLaws.{design_fault}

outcome_at : (text : List ℕ) (ts : List Token) (c : Code) (left : ℕ) → tokens_in text ≡ Ok ts → design_at (lexemes_of text ts) ≡ Err (fault_with c left)
    → outcome_of text ≡ Err (error_of c (start_of text ts (length ts - left)))
outcome_at text ts c left e h = by_its_tokens text ts e ∙ ap (by_lexemes text ts) h

-- ---- the fault of an error
error_same : (c d : Code) (p q : ℕ) → error_of c p ≡ error_of d q → (c ≡ d) × (p ≡ q)
error_same code.Syntax code.Syntax p q e = (refl, cc)
error_same code.Unknown code.Unknown p q e = (refl, cc)
error_same code.Twice code.Twice p q e = (refl, cc)
error_same code.Width code.Width p q e = (refl, cc)
error_same code.Order code.Order p q e = (refl, cc)
error_same c d p q e = absurd cc

same_error : (e f : ReadError) → (let x : Result Netlist ReadError = Err e in x) ≡ Err f → e ≡ f
same_error e f h = cc

no_code : (k : ℕ) (c : Code) (at : ℕ) → Ports k ≢ error_of c at
no_code k code.Syntax at e = absurd cc
no_code k code.Unknown at e = absurd cc
no_code k code.Twice at e = absurd cc
no_code k code.Width at e = absurd cc
no_code k code.Order at e = absurd cc

no_ports : (d : Netlist) (o : Option ℕ) (c : Code) (at : ℕ) → by_ports d o ≢ Err (error_of c at)
no_ports d None c at e = absurd cc
no_ports d (Some k) c at e = no_code k c at (same_error (Ports k) (error_of c at) e)

fault_of : (text : List ℕ) (ts : List Token) (r : Reading Netlist) (c : Code) (at : ℕ) → by_lexemes text ts r ≡ Err (error_of c at)
    → (left : ℕ) × (r ≡ Err (fault_with c left)) × (at ≡ place_of text ts left)
fault_of text ts (Ok d) c at e = absurd (no_ports d (port_fault d) c at e)
fault_of text ts (Err f) c at e =
    let k = error_same f.code c (place_of text ts f.left) at (same_error (error_of f.code (place_of text ts f.left)) (error_of c at) e) in
    (f.left, ap (λ (x : Code). let y : Reading Netlist = Err (fault_with x f.left) in y) k.0, sym k.1)

count : (text : List ℕ) (ts : List Token) (front : List Lexeme) (b : BeginsWith text ts front) → length ts ≡ length front + length b.rest
count text ts front b = sym (length-map ts (lexeme_of text)) ∙ ap (λ (l : List Lexeme). length l) b.lexemes ∙ length-append front b.rest

-- ---- a text that begins alike
same_tokens : (ts us : List Token) → (let x : Result (List Token) ℕ = Ok ts in x) ≡ Ok us → ts ≡ us
same_tokens ts us e = cc

only_lexemes : (text : List ℕ) (ts : List Token) → tokens_in text ≡ Ok ts → (ls : List Lexeme) → Lexes text ls → lexemes_of text ts ≡ ls
only_lexemes text ts e ls h =
    let k = tokens_in-lexes text ls h in
    ap (lexemes_of text) (same_tokens ts k.0 (sym e ∙ k.1)) ∙ k.2

no_error : (r : Result Netlist ReadError) (d : Netlist) (e : ReadError) → r ≡ Ok d → r ≡ Err e → ⊥
no_error r d e h k = let q = sym h ∙ k in absurd cc

same_outcome : (text other : List ℕ) (ts us : List Token) (front : List Lexeme) (b : BeginsWith text ts front) (o : BeginsWith other us front) (c : Code) (left : ℕ)
    → design_at (lexemes_of text ts) ≡ Err (fault_with c left) → length ts - left + lexemes_behind c < length front
    → outcome_of other ≡ Err (error_of c (start_of other us (length ts - left)))
same_outcome text other ts us front b o c left e h =
    let i : length ts ≡ length front + length b.rest = count text ts front b in
    let j : length us ≡ length front + length o.rest = count other us front o in
    let n = left - length b.rest in
    let p : left ≡ n + length b.rest = omega arith in
    let q : lexemes_behind c < n = omega arith in
    let f : design_at (front ++ b.rest) ≡ Err (fault_with c (n + length b.rest)) = ap design_at (sym b.lexemes) ∙ e ∙ ap (λ (m : ℕ). let x : Reading Netlist = Err (fault_with c m) in x) p in
    let g : design_at (lexemes_of other us) ≡ Err (fault_with c (n + length o.rest)) = ap design_at o.lexemes ∙ design_fault front b.rest o.rest c n q f in
    let k : length us - (n + length o.rest) ≡ length ts - left = omega arith in
    outcome_at other us c (n + length o.rest) o.tokens g ∙ ap (λ (m : ℕ). let x : Result Netlist ReadError = Err (error_of c (start_of other us m)) in x) k

pub shares_error : (text other : List ℕ) (ts us : List Token) (front : List Lexeme) → BeginsWith text ts front → BeginsWith other us front
    → (c : Code) (at : ℕ) → outcome_of text ≡ Err (error_of c at) → SharesError text other ts us front c at
shares_error text other ts us front b o c at e =
    let f = fault_of text ts (design_at (lexemes_of text ts)) c at (sym (by_its_tokens text ts b.tokens) ∙ e) in
    record {
      number = length ts - f.0;
      place = f.2;
      same = λ h. same_outcome text other ts us front b o c f.0 f.1 h;
      spells_none = λ h d s. no_error (outcome_of other) d _ (outcome_only other us d o.tokens (only_lexemes other us o.tokens) s) (same_outcome text other ts us front b o c f.0 f.1 h);
    }
