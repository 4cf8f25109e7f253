-- Items and designs look no further than what they take, and than their faults depend on.
use Rattle.std.specs.Prelude.{nat_le, codes}
use Rattle.std.proofs.Common.{◌≡◌, ℕ, zero, suc, ◌≤◌, ◌==◌, not, Bool, true, false, Option, Some, None, Ok, List, [], ◌∷◌, length, refl, sym, ◌∙◌, arith}
use Rattle.net_core.specs.Nets.{Netlist}
use Rattle.net_core.specs.Width.{is_assigned}
use Rattle.verilog_lex.specs.declared.token.Keyword.TheVariants as keyword
use Rattle.verilog_lex.specs.declared.token.Symbol.TheVariants as symbol
use Rattle.verilog_lex.specs.Lexeme.{Lexeme, LName, LKeyword, LSymbol}
use Rattle.design_rules.specs.FormedSyntax.{is_name}
use Rattle.verilog_expression.specs.declared.fault.Code.TheVariants as code
use Rattle.verilog_expression.specs.Reads.{Read, ◌>>=◌, fault, kept_if, found}
use Rattle.verilog_expression.specs.Expressions.{whole_expr_at}
use Rattle.verilog_expression.specs.Rights.{right_at}
use Rattle.verilog_expression.specs.Statements.{whole_statement_at}
use Rattle.verilog_read.specs.declared.section.Section.{Section}
use Rattle.verilog_read.specs.declared.section.Section.TheVariants as section
use Rattle.verilog_read.specs.Entries.{entry_in, free_in}
use Rattle.verilog_read.specs.Header.{range_at, fresh_at}
use Rattle.verilog_read.specs.Items.{with_wire, with_assign, with_always, wire_at, as_output, output_at, assign_at, always_at, item_at, rank, item_in, items_at}
use Rattle.verilog_read.proofs.VerilogFaults.Local.{Local, IsStrict, raised, loose, from_head, by_heads, by_strict_heads, by_turns, bind_same, gives_local, fails_local, bind_local, bind_head}
use Rattle.verilog_read.proofs.VerilogFaults.LexemeLocal.{own_fault, kept_value, symbol_local, behind_local}
use Rattle.verilog_read.proofs.VerilogFaults.ExpressionLocal.{whole_expr_local}
use Rattle.verilog_read.proofs.VerilogFaults.RightLocal.{right_local}
use Rattle.verilog_read.proofs.VerilogFaults.StatementLocal.{whole_statement_local}
use Rattle.verilog_read.proofs.VerilogFaults.HeaderLocal.{range_local, fresh_local}
use Rattle.verilog_read.proofs.VerilogFaults.DeclarationLocal.{ends_local, integer_item_local, reg_item_local}

-- ---- items
wire_local : (d : Netlist) → Local 0 0 (wire_at d)
unfolding wire_at
wire_local d =
    bind_local range_at _ range_local (λ w. bind_local (fresh_at d) _ (fresh_local d) (λ s. symbol_local symbol.Assign _
    (bind_local (right_at (entry_in d)) _ (right_local (entry_in d)) (λ e. ends_local (e.width == w) _ (gives_local (with_wire s (record { width = w; right = e.right }) d))))))

output_found : (d : Netlist) (s : List ℕ) (o : Option (ℕ × ℕ))
    → Local 1 1 (λ ts. found o code.Unknown (LName s ∷ ts) >>= λ p. kept_if {A = (ℕ × ℕ) × List Lexeme} (not (is_assigned d.assigns p.0)) (p, ts) code.Twice (LName s ∷ ts))
output_found d s (Some p) = loose (kept_value (LName s) (not (is_assigned d.assigns p.0)) p code.Twice)
output_found d s None = own_fault (LName s) code.Unknown 1

output_name : (d : Netlist) (s : List ℕ) (b : Bool)
    → Local 1 1 (λ ts. kept_if {A = List ℕ × List Lexeme} b (s, ts) code.Syntax (LName s ∷ ts) >>= λ n. (found (as_output (entry_in d n.0)) code.Unknown (LName s ∷ ts) >>= λ p. kept_if {A = (ℕ × ℕ) × List Lexeme} (not (is_assigned d.assigns p.0)) (p, n.1) code.Twice (LName s ∷ ts)))
output_name d s true = output_found d s (as_output (entry_in d s))
output_name d s false = own_fault (LName s) code.Syntax 1

output_head : (d : Netlist) (t : Lexeme) → Local 1 1 (λ ts. output_at d (t ∷ ts))
unfolding output_at
output_head d (LName s) = output_name d s (is_name s)
output_head d t = own_fault t code.Syntax 1

output_local : (d : Netlist) → Local 0 0 (output_at d)
unfolding output_at
output_local d = by_heads (output_at d) (omega arith) (output_head d)

assign_local : (d : Netlist) → Local 0 0 (assign_at d)
unfolding assign_at
assign_local d =
    bind_local (output_at d) _ (output_local d) (λ o. symbol_local symbol.Assign _
    (bind_local (whole_expr_at (entry_in d)) _ (whole_expr_local (entry_in d)) (λ e. ends_local (e.width == o.1) _ (gives_local (with_assign (record { port = o.0; value = e.tree }) d)))))

always_local : (d : Netlist) → Local 0 0 (always_at d)
unfolding always_at
always_local d =
    behind_local (LSymbol symbol.At ∷ LSymbol symbol.OpenParenthesis ∷ LKeyword keyword.Posedge ∷ LName (codes "clk") ∷ LSymbol symbol.CloseParenthesis ∷ []) _
    (bind_local (whole_statement_at (entry_in d) (free_in d)) _ (whole_statement_local (entry_in d) (free_in d)) (λ a. gives_local (with_always a d)))

item_head : (d : Netlist) (t : Lexeme) → Local 0 1 (λ ts. item_at d (t ∷ ts))
unfolding item_at
item_head d (LKeyword keyword.Integer) = raised 0 1 (integer_item_local d)
item_head d (LKeyword keyword.Reg) = raised 0 1 (reg_item_local d)
item_head d (LKeyword keyword.Wire) = raised 0 1 (wire_local d)
item_head d (LKeyword keyword.Assign) = raised 0 1 (assign_local d)
item_head d (LKeyword keyword.Always) = raised 0 1 (always_local d)
item_head d t = own_fault t code.Syntax 0

-- ---- sections
ordered : (d : Netlist) (s : Section) (b : Bool) (t : Lexeme)
    → Local 0 1 (λ ts. kept_if b (t ∷ ts) code.Order (t ∷ ts) >>= λ o. (item_at d o >>= λ x. let y : Read (Section × Netlist) = Ok ((s, x.0), x.1) in y))
ordered d s true t = bind_head (λ ts. item_at d (t ∷ ts)) _ (item_head d t) (λ n. gives_local (s, n))
ordered d s false t = own_fault t code.Order 0

section_head : (now : Section) (d : Netlist) (t : Lexeme) → Local 0 1 (λ ts. item_in now d (t ∷ ts))
unfolding item_in
section_head now d (LKeyword keyword.Integer) = ordered d section.Declared (nat_le (rank now) (rank section.Declared)) (LKeyword keyword.Integer)
section_head now d (LKeyword keyword.Reg) = ordered d section.Declared (nat_le (rank now) (rank section.Declared)) (LKeyword keyword.Reg)
section_head now d (LKeyword keyword.Wire) = ordered d section.Wires (nat_le (rank now) (rank section.Wires)) (LKeyword keyword.Wire)
section_head now d (LKeyword keyword.Assign) = ordered d section.Assigns (nat_le (rank now) (rank section.Assigns)) (LKeyword keyword.Assign)
section_head now d (LKeyword keyword.Always) = ordered d section.Always (nat_le (rank now) (rank section.Always)) (LKeyword keyword.Always)
section_head now d t = own_fault t code.Syntax 0

item_none : (now : Section) (d : Netlist) → item_in now d [] ≡ fault code.Syntax []
unfolding item_in
item_none now d = refl

item_local : (now : Section) (d : Netlist) → Local 0 0 (item_in now d)
item_local now d = by_heads (item_in now d) (rw (item_none now d) (omega arith)) (λ t. loose (section_head now d t))

item_strict : (now : Section) (d : Netlist) → IsStrict (item_in now d)
item_strict now d = by_strict_heads (item_in now d) (λ v l e. let h = sym (item_none now d) ∙ e in absurd cc) (section_head now d)

next_local : (f : Section → Netlist → List Lexeme → Read Netlist) → ((now : Section) (d : Netlist) → Local 0 0 (f now d)) → (now : Section) (d : Netlist) → Local 0 0 (λ ts. item_in now d ts >>= λ x. f x.0.0 x.0.1 x.1)
next_local f F now d = bind_local (item_in now d) _ (item_local now d) (λ x. F x.0 x.1)

items_head : (n : ℕ) → ((now : Section) (d : Netlist) → Local 0 0 (items_at n now d)) → (now : Section) (d : Netlist) (t : Lexeme) → Local 1 1 (λ ts. items_at (suc n) now d (t ∷ ts))
unfolding items_at
items_head n F now d (LKeyword keyword.Endmodule) = raised 1 1 (gives_local d)
items_head n F now d t = from_head (next_local (items_at n) F now d) t

items_local : (n : ℕ) (now : Section) (d : Netlist) → Local 0 0 (items_at n now d)
unfolding items_at
items_local zero now d = fails_local [] code.Syntax 0 0 (omega arith)
items_local (suc n) now d = by_heads (items_at (suc n) now d) ((next_local (items_at n) (items_local n) now d).bounded []) (items_head n (items_local n) now d)

next_same : (f g : Section → Netlist → List Lexeme → Read Netlist) (now : Section) (d : Netlist) (ts : List Lexeme)
    → ((s : Section) (n : Netlist) (l : List Lexeme) → suc (length l) ≤ length ts → f s n l ≡ g s n l) → (item_in now d ts >>= λ x. f x.0.0 x.0.1 x.1) ≡ (item_in now d ts >>= λ x. g x.0.0 x.0.1 x.1)
next_same f g now d ts h = bind_same (item_in now d ts) (λ x. f x.0.0 x.0.1 x.1) (λ x. g x.0.0 x.0.1 x.1) (λ x l e. h x.0 x.1 l (item_strict now d ts x l e))

-- more turns than lexemes change nothing
items_same : (now : Section) (d : Netlist) (n m : ℕ) (ts : List Lexeme) → length ts ≤ n → length ts ≤ m → items_at n now d ts ≡ items_at m now d ts
unfolding items_at
items_same now d zero zero ts h k = refl
items_same now d zero (suc m) [] h k = rw (item_none now d) refl
items_same now d zero (suc m) (t ∷ ts) h k = absurd (omega arith)
items_same now d (suc n) zero [] h k = rw (item_none now d) refl
items_same now d (suc n) zero (t ∷ ts) h k = absurd (omega arith)
items_same now d (suc n) (suc m) (LKeyword keyword.Endmodule ∷ ts) h k = refl
items_same now d (suc n) (suc m) ts h k = next_same (items_at n) (items_at m) now d ts (λ s p l q. items_same s p n m l (omega arith) (omega arith))

pub all_items_local : (now : Section) (d : Netlist) → Local 0 0 (λ ts. items_at (length ts) now d ts)
all_items_local now d = by_turns (λ n. items_at n now d) (λ n. items_local n now d) (items_same now d)
