-- One step of the loops over ports, items and parts.
use Rattle.std.proofs.Common.{◌≡◌, ◌∙◌, refl, arith, ℕ, zero, suc, ◌+◌, ◌-◌, ◌<◌, ◌≤◌, Option, Some, None, Ok, Err, List, ◌∷◌, length, map, drop, get_or, drop-cons, add-one}
use Rattle.std.proofs.lemmas.List.{drop_all}
use Rattle.net_core.specs.Nets.{Netlist}
use Rattle.verilog_lex.specs.Lexeme.{Lexeme, LKeyword, LSymbol}
use Rattle.verilog_lex.specs.declared.token.Keyword.TheVariants as keyword
use Rattle.verilog_lex.specs.declared.token.Symbol.TheVariants as symbol
use Rattle.verilog_expression.specs.declared.fault.Code.TheVariants as code
use Rattle.verilog_expression.specs.declared.fault.Fault.{Fault}
use Rattle.verilog_expression.specs.Reads.{Read, ◌>>=◌, fault}
use Rattle.verilog_expression.specs.View.{comma_at}
use Rattle.verilog_read.specs.declared.section.Section.{Section}
use Rattle.verilog_read.specs.declared.memory.Part as memory
use Rattle.verilog_read.specs.Declarations.{part_at, all_parts_at}
use Rattle.verilog_read.specs.Header.{port_at, more_ports_at, ports_at}
use Rattle.verilog_read.specs.Items.{item_in, items_at}
use Rattle.verilog_read.specs.Parts.{part_of}
use Rattle.verilog_read.specs.View.{endmodule_at}

-- ---- ports
-- after a port, from what stands after a comma
by_comma : (Netlist → List Lexeme → Read Netlist) → Netlist → List Lexeme → Option (List Lexeme) → Read Netlist
by_comma ports d ts (Some more) = ports d more
by_comma ports d ts None = Ok (d, ts)

comma_next : (ports : Netlist → List Lexeme → Read Netlist) (d : Netlist) (ts : List Lexeme) → more_ports_at ports d ts ≡ by_comma ports d ts (comma_at ts)
unfolding more_ports_at by_comma
comma_next ports d (LSymbol symbol.Comma ∷ ts) = refl
comma_next ports d ts = refl

port_step : (n : ℕ) (d : Netlist) (ts : List Lexeme) → 0 < n → ports_at n d ts ≡ (port_at d ts >>= λ p. more_ports_at (ports_at (n - 1)) p.0 p.1)
unfolding ports_at
port_step zero d ts h = absurd (omega arith)
port_step (suc n) d ts h = let e : suc n - 1 ≡ n = omega arith in rw e refl

port_known : (n : ℕ) (d e : Netlist) (ts r : List Lexeme) → 0 < n → port_at d ts ≡ Ok (e, r) → ports_at n d ts ≡ by_comma (ports_at (n - 1)) e r (comma_at r)
port_known n d e ts r h p = port_step n d ts h ∙ rw p (comma_next (ports_at (n - 1)) e r)

pub port_fails : (n : ℕ) (d : Netlist) (ts : List Lexeme) (f : Fault) → 0 < n → port_at d ts ≡ Err f → ports_at n d ts ≡ Err f
port_fails n d ts f h p = rw (port_step n d ts h, p) refl

pub last_port : (n : ℕ) (d e : Netlist) (ts r : List Lexeme) → 0 < n → port_at d ts ≡ Ok (e, r) → comma_at r ≡ None → ports_at n d ts ≡ Ok (e, r)
unfolding by_comma
last_port n d e ts r h p k = port_known n d e ts r h p ∙ rw k refl

pub next_port : (n : ℕ) (d e : Netlist) (ts r more : List Lexeme) → 0 < n → port_at d ts ≡ Ok (e, r) → comma_at r ≡ Some more → ports_at n d ts ≡ ports_at (n - 1) e more
unfolding by_comma
next_port n d e ts r more h p k = port_known n d e ts r h p ∙ rw k refl

pub no_port : (n : ℕ) (d : Netlist) (ts : List Lexeme) → n ≡ 0 → ports_at n d ts ≡ fault code.Syntax ts
unfolding ports_at
no_port n d ts h = rw h refl

-- ---- items
-- an item, from what stands after `endmodule`
by_end : (Section → Netlist → List Lexeme → Read Netlist) → Section → Netlist → List Lexeme → Option (List Lexeme) → Read Netlist
by_end items now d ts (Some more) = Ok (d, more)
by_end items now d ts None = item_in now d ts >>= λ x. items x.0.0 x.0.1 x.1

end_next : (n : ℕ) (now : Section) (d : Netlist) (ts : List Lexeme) → items_at (suc n) now d ts ≡ by_end (items_at n) now d ts (endmodule_at ts)
unfolding items_at by_end
end_next n now d (LKeyword keyword.Endmodule ∷ ts) = refl
end_next n now d ts = refl

item_step : (n : ℕ) (now : Section) (d : Netlist) (ts : List Lexeme) → 0 < n → items_at n now d ts ≡ by_end (items_at (n - 1)) now d ts (endmodule_at ts)
item_step zero now d ts h = absurd (omega arith)
item_step (suc n) now d ts h = let e : suc n - 1 ≡ n = omega arith in rw e (end_next n now d ts)

pub items_end : (n : ℕ) (now : Section) (d : Netlist) (ts more : List Lexeme) → 0 < n → endmodule_at ts ≡ Some more → items_at n now d ts ≡ Ok (d, more)
unfolding by_end
items_end n now d ts more h e = item_step n now d ts h ∙ rw e refl

pub item_fails : (n : ℕ) (now : Section) (d : Netlist) (ts : List Lexeme) (f : Fault) → 0 < n → endmodule_at ts ≡ None → item_in now d ts ≡ Err f → items_at n now d ts ≡ Err f
unfolding by_end
item_fails n now d ts f h e p = item_step n now d ts h ∙ rw (e, p) refl

pub next_item : (n : ℕ) (now s : Section) (d x : Netlist) (ts r : List Lexeme) → 0 < n → endmodule_at ts ≡ None → item_in now d ts ≡ Ok ((s, x), r) → items_at n now d ts ≡ items_at (n - 1) s x r
unfolding by_end
next_item n now s d x ts r h e p = item_step n now d ts h ∙ rw (e, p) refl

pub no_item : (n : ℕ) (now : Section) (d : Netlist) (ts : List Lexeme) → n ≡ 0 → items_at n now d ts ≡ fault code.Syntax ts
unfolding items_at
no_item n now d ts h = rw h refl

-- ---- parts
part_step : (ps : List memory.Part) (i : ℕ) (d : memory.Part) (ts : List Lexeme) → i < length ps → all_parts_at (map part_of (drop i ps)) ts ≡ (part_at (part_of (get_or ps i d)) ts >>= λ r. all_parts_at (map part_of (drop (i + 1) ps)) r)
unfolding all_parts_at
part_step ps i d ts h = rw (add-one, drop-cons ps i d h) refl

pub part_passes : (ps : List memory.Part) (i : ℕ) (d : memory.Part) (ts r : List Lexeme) → i < length ps → part_at (part_of (get_or ps i d)) ts ≡ Ok r → all_parts_at (map part_of (drop i ps)) ts ≡ all_parts_at (map part_of (drop (i + 1) ps)) r
part_passes ps i d ts r h e = part_step ps i d ts h ∙ rw e refl

pub part_fails : (ps : List memory.Part) (i : ℕ) (d : memory.Part) (ts : List Lexeme) (f : Fault) → i < length ps → part_at (part_of (get_or ps i d)) ts ≡ Err f → all_parts_at (map part_of (drop i ps)) ts ≡ Err f
part_fails ps i d ts f h e = part_step ps i d ts h ∙ rw e refl

pub no_part : (ps : List memory.Part) (i : ℕ) (ts : List Lexeme) → length ps ≤ i → all_parts_at (map part_of (drop i ps)) ts ≡ Ok ts
unfolding all_parts_at
no_part ps i ts h = rw (drop_all i ps h) refl
