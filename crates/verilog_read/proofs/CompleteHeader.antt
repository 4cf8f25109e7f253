-- The header of a well-formed design is read where it is spelled, and its ports are as every design has them.
use Rattle.std.proofs.Common.{◌≡◌, ℕ, zero, suc, ◌+◌, ◌<◌, ◌≤◌, Bool, true, false, not, ◌&&◌, Option, Some, None, Ok, List, [], ◌∷◌, ◌++◌, length, drop, refl, sym, ap, ◌∙◌, append_assoc, length-append, take-append-drop, arith}
use Rattle.std.specs.Prelude.{codes, if◌then◌else◌}
use Rattle.std.proofs.lemmas.Bool.{eq-eqb}
use Rattle.std.proofs.lemmas.Slice.Eq.{bytes_eq-Decides}
use Rattle.net_core.specs.declared.design.Port.{Port}
use Rattle.net_core.specs.Nets.{AssignTree, Netlist}
use Rattle.net_core.specs.Ports.{port_list, port_names}
use Rattle.net_core.specs.Width.{is_assigned, all_assigned}
use Rattle.verilog_lex.specs.declared.token.Keyword.TheVariants as keyword
use Rattle.verilog_lex.specs.declared.token.Symbol.TheVariants as symbol
use Rattle.verilog_lex.specs.Lexeme.{Lexeme, LName, LKeyword, LSymbol}
use Rattle.verilog_expression.specs.verilog_write.VerilogGrammar.Grammar.{port_lexemes, ports_lexemes, text_at}
use Rattle.design_rules.specs.Formed.{IsWellFormed, same_bool}
use Rattle.design_rules.proofs.FormedItemLaws.{last_kept}
use Rattle.design_rules.proofs.FormedWidthLaws.{ports_listed}
use Rattle.design_rules.proofs.FormedLaws.{port_names_first, ports_counted}
use Rattle.verilog_expression.proofs.LexemeLaws.{behind_again}
use Rattle.verilog_read.specs.Header.{port_at, more_ports_at, ports_at, header_at}
use Rattle.verilog_read.specs.Designs.{other_port, unassigned, port_fault}
use Rattle.verilog_read.proofs.CompletePrefixes.{before_port, before_declared, left_in, ports_whole}
use Rattle.verilog_read.proofs.CompleteItems.{port_read}

-- ---- ports
abbrev close : List Lexeme → List Lexeme
close ts = LSymbol symbol.CloseParenthesis ∷ ts

ports_end : (n : ℕ) (a b : Netlist) (ts us : List Lexeme) → port_at a ts ≡ Ok (b, close us) → ports_at (suc n) a ts ≡ Ok (b, close us)
unfolding ports_at more_ports_at
ports_end n a b ts us e = rw e refl

ports_more : (n : ℕ) (a b : Netlist) (ts us : List Lexeme) → port_at a ts ≡ Ok (b, LSymbol symbol.Comma ∷ us) → ports_at (suc n) a ts ≡ ports_at n b us
unfolding ports_at more_ports_at
ports_more n a b ts us e = rw e refl

ports_again : (d : Netlist) → IsWellFormed d → (ps : List Port) (k n : ℕ) (ts : List Lexeme) → drop k d.ports ≡ ps → 0 < length ps → length (ports_lexemes d k ps) ≤ n → ports_at n (before_port d k) (ports_lexemes d k ps ++ close ts) ≡ Ok (before_port d (k + length ps), close ts)
ports_again d h [] k n ts e m l = absurd (omega arith)
ports_again d h (p ∷ []) k zero ts e m l = absurd (omega arith)
ports_again d h (p ∷ []) k (suc n) ts e m l =
    let f = left_in d.ports k p [] e in
    let g : suc k ≡ k + length (p ∷ []) = omega arith in
    ports_end n (before_port d k) (before_port d (suc k)) (port_lexemes (text_at d k) p ++ close ts) ts (port_read d h k p (close ts) f.0 f.1)
    ∙ ap (λ j. Ok (before_port d j, close ts)) g
ports_again d h (p ∷ q ∷ ps) k zero ts e m l = absurd (omega arith)
ports_again d h (p ∷ q ∷ ps) k (suc n) ts e m l =
    let f = left_in d.ports k p (q ∷ ps) e in
    let rest = ports_lexemes d (suc k) (q ∷ ps) in
    let us = rest ++ close ts in
    let fewer : length rest ≤ n = omega (arith, length-append (port_lexemes (text_at d k) p) (LSymbol symbol.Comma ∷ rest)) in
    ap (λ vs. ports_at (suc n) (before_port d k) vs) (append_assoc (port_lexemes (text_at d k) p) (LSymbol symbol.Comma ∷ rest) (close ts))
    ∙ ports_more n (before_port d k) (before_port d (suc k)) (port_lexemes (text_at d k) p ++ LSymbol symbol.Comma ∷ us) us (port_read d h k p (LSymbol symbol.Comma ∷ us) f.0 f.1)
    ∙ ports_again d h (q ∷ ps) (suc k) n ts f.2 (omega arith) fewer
    ∙ ap (λ j. Ok (before_port d j, close ts)) (omega arith)

-- ---- the header
abbrev first : List Lexeme
first = LKeyword keyword.Module ∷ LName (codes "ehdl") ∷ LSymbol symbol.OpenParenthesis ∷ []

all_ports : (d : Netlist) → IsWellFormed d → (n : ℕ) (ts : List Lexeme) → length (ports_lexemes d 0 d.ports) ≤ n → ports_at n (before_port d 0) (ports_lexemes d 0 d.ports ++ close ts) ≡ Ok (before_declared d 0, close ts)
all_ports d h n ts l = ports_again d h d.ports 0 n ts refl (omega (arith, ports_counted d h)) l ∙ ap (λ a. Ok (a, close ts)) (ports_whole d (0 + length d.ports) (omega arith))

pub header_again : (d : Netlist) → IsWellFormed d → (ts : List Lexeme) → header_at (first ++ (ports_lexemes d 0 d.ports ++ LSymbol symbol.CloseParenthesis ∷ LSymbol symbol.Semicolon ∷ ts)) ≡ Ok (before_declared d 0, ts)
unfolding header_at
header_again d h ts =
    let us = LSymbol symbol.Semicolon ∷ ts in
    let all = ports_lexemes d 0 d.ports ++ close us in
    let enough : length (ports_lexemes d 0 d.ports) ≤ length all = omega (arith, length-append (ports_lexemes d 0 d.ports) (close us)) in
    rw (behind_again first all refl, all_ports d h (length all) us enough, behind_again (LSymbol symbol.CloseParenthesis ∷ LSymbol symbol.Semicolon ∷ []) ts refl) refl

-- ---- the ports are those of every design
same_output : (b : Bool) → same_bool b b ≡ true
same_output true = refl
same_output false = refl

none_other : (k : ℕ) (names more : List (List ℕ)) (ps : List Port) → length names ≡ length ps → other_port k (names ++ more) ps names ps ≡ None
none_other k [] more [] e = refl
none_other k [] more (p ∷ ps) e = absurd (omega arith)
none_other k (s ∷ names) more [] e = absurd (omega arith)
none_other k (s ∷ names) more (p ∷ ps) e =
    rw ((bytes_eq-Decides s s).1 refl, same_output p.output, eq-eqb p.width p.width refl) (none_other (suc k) names more ps (omega arith))

-- each output is assigned
driven_next : (output assigned rest : Bool) (k : ℕ) (later : Option ℕ) → ((if output then assigned else true) && rest) ≡ true → (rest ≡ true → later ≡ None) → (if output && not assigned then Some k else later) ≡ None
driven_next true true rest k later h f = f h
driven_next true false rest k later h f = absurd cc
driven_next false assigned rest k later h f = f h

all_driven : (assigns : List AssignTree) (k : ℕ) (ps : List Port) → all_assigned assigns k ps ≡ true → unassigned k assigns ps ≡ None
all_driven assigns k [] h = refl
all_driven assigns k (p ∷ ps) h =
    driven_next p.output (is_assigned assigns k) (all_assigned assigns (suc k) ps) k (unassigned (suc k) assigns ps) h (all_driven assigns (suc k) ps)

pub ports_faultless : (d : Netlist) → IsWellFormed d → port_fault d ≡ None
unfolding port_fault
ports_faultless d h =
    let named : d.names ≡ port_names ++ drop (length port_names) d.names = sym (take-append-drop (length port_names) d.names) ∙ ap (λ xs. xs ++ drop (length port_names) d.names) (port_names_first d h) in
    let same : other_port 0 d.names d.ports port_names port_list ≡ None = rw (named, ports_listed d h) (none_other 0 port_names (drop (length port_names) d.names) port_list refl) in
    rw (same, all_driven d.assigns 0 d.ports (last_kept d h).assigned) refl
