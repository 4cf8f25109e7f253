-- The header of a design looks no further than what it takes, and than its faults depend on.
use Rattle.std.specs.Prelude.{codes}
use Rattle.std.specs.Str.{bytes_eq}
use Rattle.std.specs.List.{list_any}
use Rattle.std.proofs.Common.{◌≡◌, ℕ, zero, suc, ◌≤◌, not, Bool, true, false, Ok, List, [], ◌∷◌, length, refl, sym, ◌∙◌, arith}
use Rattle.net_core.specs.Nets.{Netlist}
use Rattle.verilog_lex.specs.declared.token.Keyword.TheVariants as keyword
use Rattle.verilog_lex.specs.declared.token.Symbol.TheVariants as symbol
use Rattle.verilog_lex.specs.Lexeme.{Lexeme, LName, LKeyword, LNumber, LSymbol}
use Rattle.design_rules.specs.FormedSyntax.{is_name}
use Rattle.verilog_expression.specs.declared.fault.Code.TheVariants as code
use Rattle.verilog_expression.specs.Reads.{Read, ◌>>=◌, fault, kept_if}
use Rattle.verilog_expression.specs.Lexemes.{lexeme_at, number_at}
use Rattle.verilog_read.specs.Header.{range_at, fresh_at, with_port, port_at, more_ports_at, ports_at, no_design, header_at}
use Rattle.verilog_read.proofs.VerilogFaults.Local.{Local, IsStrict, raised, loose, from_head, by_heads, by_strict_heads, by_turns, bind_same, gives_local, fails_local, bind_local}
use Rattle.verilog_read.proofs.VerilogFaults.LexemeLocal.{own_fault, kept_value, lexeme_local, behind_local, closed_local, number_local}

range_head : (t : Lexeme) → Local 1 1 (λ ts. range_at (t ∷ ts))
unfolding range_at
range_head (LSymbol symbol.OpenBracket) = raised 1 1 (bind_local number_at _ number_local (λ n. behind_local (LSymbol symbol.Colon ∷ LNumber 0 ∷ []) _ (closed_local symbol.CloseBracket _ _ code.Width)))
range_head t = from_head (gives_local 1) t

pub range_local : Local 0 0 range_at
unfolding range_at
range_local = by_heads range_at (omega arith) range_head

fresh_name : (d : Netlist) (s : List ℕ) (b : Bool) → Local 1 1 (λ ts. kept_if {A = List ℕ × List Lexeme} b (s, ts) code.Syntax (LName s ∷ ts) >>= λ x. kept_if (not (list_any (bytes_eq x.0) d.names)) x code.Twice (LName s ∷ ts))
fresh_name d s true = loose (kept_value (LName s) (not (list_any (bytes_eq s) d.names)) s code.Twice)
fresh_name d s false = own_fault (LName s) code.Syntax 1

fresh_head : (d : Netlist) (t : Lexeme) → Local 1 1 (λ ts. fresh_at d (t ∷ ts))
unfolding fresh_at
fresh_head d (LName s) = fresh_name d s (is_name s)
fresh_head d t = own_fault t code.Syntax 1

pub fresh_local : (d : Netlist) → Local 0 0 (fresh_at d)
unfolding fresh_at
fresh_local d = by_heads (fresh_at d) (omega arith) (fresh_head d)

-- ---- ports
behind_direction : (d : Netlist) (output : Bool) → Local 0 0 (λ ts. lexeme_at (LKeyword keyword.Wire) ts >>= λ a. (range_at a >>= λ w. (fresh_at d w.1 >>= λ s. let x : Read Netlist = Ok (with_port s.0 (record { output = output; width = w.0 }) d, s.1) in x)))
behind_direction d output =
    lexeme_local (LKeyword keyword.Wire) _ (bind_local range_at _ range_local
    (λ w. bind_local (fresh_at d) _ (fresh_local d) (λ s. gives_local _)))

port_head : (d : Netlist) (t : Lexeme) → Local 0 1 (λ ts. port_at d (t ∷ ts))
unfolding port_at
port_head d (LKeyword keyword.Input) = raised 0 1 (behind_direction d false)
port_head d (LKeyword keyword.Output) = raised 0 1 (behind_direction d true)
port_head d t = own_fault t code.Syntax 0

port_none : (d : Netlist) → port_at d [] ≡ fault code.Syntax []
unfolding port_at
port_none d = refl

port_local : (d : Netlist) → Local 0 0 (port_at d)
port_local d = by_heads (port_at d) (rw (port_none d) (omega arith)) (λ t. loose (port_head d t))

port_strict : (d : Netlist) → IsStrict (port_at d)
port_strict d = by_strict_heads (port_at d) (λ v l e. let h = sym (port_none d) ∙ e in absurd cc) (port_head d)

more_head : (ports : Netlist → List Lexeme → Read Netlist) → ((d : Netlist) → Local 0 0 (ports d)) → (d : Netlist) (t : Lexeme) → Local 1 1 (λ ts. more_ports_at ports d (t ∷ ts))
unfolding more_ports_at
more_head ports P d (LSymbol symbol.Comma) = raised 1 1 (P d)
more_head ports P d t = from_head (gives_local d) t

more_local : (ports : Netlist → List Lexeme → Read Netlist) → ((d : Netlist) → Local 0 0 (ports d)) → (d : Netlist) → Local 0 0 (more_ports_at ports d)
unfolding more_ports_at
more_local ports P d = by_heads (more_ports_at ports d) (omega arith) (more_head ports P d)

ports_local : (n : ℕ) (d : Netlist) → Local 0 0 (ports_at n d)
unfolding ports_at
ports_local zero d = fails_local [] code.Syntax 0 0 (omega arith)
ports_local (suc n) d = bind_local (port_at d) _ (port_local d) (more_local (ports_at n) (ports_local n))

more_same : (f g : Netlist → List Lexeme → Read Netlist) (d : Netlist) (l : List Lexeme) → ((k : List Lexeme) → length k ≤ length l → f d k ≡ g d k) → more_ports_at f d l ≡ more_ports_at g d l
unfolding more_ports_at
more_same f g d (LSymbol symbol.Comma ∷ l) h = h l (omega arith)
more_same f g d l h = refl

-- more turns than lexemes change nothing
ports_same : (d : Netlist) (n m : ℕ) (ts : List Lexeme) → length ts ≤ n → length ts ≤ m → ports_at n d ts ≡ ports_at m d ts
unfolding ports_at
ports_same d zero zero ts h k = refl
ports_same d zero (suc m) [] h k = rw (port_none d) refl
ports_same d zero (suc m) (t ∷ ts) h k = absurd (omega arith)
ports_same d (suc n) zero [] h k = rw (port_none d) refl
ports_same d (suc n) zero (t ∷ ts) h k = absurd (omega arith)
ports_same d (suc n) (suc m) ts h k =
    bind_same (port_at d ts) (λ p. more_ports_at (ports_at n) p.0 p.1) (λ p. more_ports_at (ports_at m) p.0 p.1)
    (λ p l e. let s : suc (length l) ≤ length ts = port_strict d ts p l e in more_same (ports_at n) (ports_at m) p l (λ j q. ports_same p n m j (omega arith) (omega arith)))

pub header_local : Local 0 0 header_at
unfolding header_at
header_local =
    behind_local (LKeyword keyword.Module ∷ LName (codes "ehdl") ∷ LSymbol symbol.OpenParenthesis ∷ []) _
    (bind_local (λ a. ports_at (length a) no_design a) _ (by_turns (λ n. ports_at n no_design) (λ n. ports_local n no_design) (ports_same no_design))
    (λ p. behind_local (LSymbol symbol.CloseParenthesis ∷ LSymbol symbol.Semicolon ∷ []) _ (gives_local p)))
