-- Integers, registers and memories look no further than what they take, and than their faults depend on.
use Rattle.std.specs.Prelude.{◌^◌}
use Rattle.std.specs.Str.{bytes_eq}
use Rattle.std.proofs.Common.{ℕ, ◌==◌, Bool, true, false, Option, Some, None, Ok, List, [], ◌∷◌, arith}
use Rattle.net_core.specs.declared.design.Declared.TheVariants as declared
use Rattle.net_core.specs.Nets.{Netlist}
use Rattle.verilog_lex.specs.declared.token.Keyword.TheVariants as keyword
use Rattle.verilog_lex.specs.declared.token.Symbol.TheVariants as symbol
use Rattle.verilog_lex.specs.Lexeme.{Lexeme, LName, LKeyword, LNumber, LSymbol}
use Rattle.design_rules.specs.FormedSyntax.{is_name}
use Rattle.verilog_expression.specs.declared.fault.Code.TheVariants as code
use Rattle.verilog_expression.specs.Reads.{Read, ◌>>=◌, kept_if, found}
use Rattle.verilog_expression.specs.Lexemes.{same_lexeme, lexeme_at, symbol_at, number_at, constant_at}
use Rattle.verilog_read.specs.Entries.{entry_in}
use Rattle.verilog_read.specs.Header.{range_at, fresh_at}
use Rattle.verilog_read.specs.Declarations.{with_declared, ends_at, integer_item_at, register_at, index_of, Part, This, Same, Bound, part_at, all_parts_at, loop_parts, as_integer, integer_at, fill_at, memory_at, stored_at, reg_item_at}
use Rattle.verilog_read.proofs.VerilogFaults.Local.{Local, raised, loose, by_heads, gives_local, bind_local, as_local}
use Rattle.verilog_read.proofs.VerilogFaults.LexemeLocal.{own_fault, kept_tail, lexeme_local, symbol_local, behind_local, closed_local, number_local, constant_local, bind_assoc}
use Rattle.verilog_read.proofs.VerilogFaults.HeaderLocal.{range_local, fresh_local}

-- ---- the semicolon of an item
ends_head : {B : Type 0} (t : Lexeme) (o fits : Bool) (g : List Lexeme → Read B) → Local 0 0 g → Local 1 1 (λ ts. (kept_if o ts code.Syntax (t ∷ ts) >>= λ r. kept_if fits r code.Width (t ∷ ts)) >>= g)
ends_head t true true g G = raised 1 1 G
ends_head t true false g G = own_fault t code.Width 1
ends_head t false fits g G = own_fault t code.Syntax 1

pub ends_local : {B : Type 0} (fits : Bool) (g : List Lexeme → Read B) → Local 0 0 g → Local 0 0 (λ ts. ends_at fits ts >>= g)
unfolding ends_at lexeme_at
ends_local fits g G = by_heads (λ ts. ends_at fits ts >>= g) (omega arith) (λ t. ends_head t (same_lexeme (LSymbol symbol.Semicolon) t) fits g G)

pub integer_item_local : (d : Netlist) → Local 0 0 (integer_item_at d)
unfolding integer_item_at
integer_item_local d = bind_local (fresh_at d) _ (fresh_local d) (λ s. symbol_local symbol.Semicolon _ (gives_local (with_declared s declared.Integer d)))

register_local : (d : Netlist) (width : ℕ) (s : List ℕ) → Local 0 0 (register_at d width s)
unfolding register_at
register_local d width s = bind_local constant_at _ constant_local (λ c. ends_local (c.width == width) _ (gives_local (with_declared s (declared.Register c) d)))

-- ---- the loop that fills a memory
same_name : {B : Type 0} (s w : List ℕ) (b : Bool) (g : List Lexeme → Read B) → Local 0 0 g
    → Local 1 1 (λ ts. (kept_if {A = List ℕ × List Lexeme} b (w, ts) code.Syntax (LName w ∷ ts) >>= λ t. kept_if (bytes_eq s t.0) t.1 code.Unknown (LName w ∷ ts)) >>= g)
same_name s w true g G = loose (kept_tail (LName w) (bytes_eq s w) code.Unknown g G)
same_name s w false g G = own_fault (LName w) code.Syntax 1

same_head : {B : Type 0} (s : List ℕ) (g : List Lexeme → Read B) → Local 0 0 g → (t : Lexeme) → Local 1 1 (λ ts. part_at (Same s) (t ∷ ts) >>= g)
unfolding part_at
same_head s g G (LName w) = same_name s w (is_name w) g G
same_head s g G t = own_fault t code.Syntax 1

bound_head : {B : Type 0} (n : ℕ) (g : List Lexeme → Read B) → Local 0 0 g → (t : Lexeme) → Local 1 1 (λ ts. part_at (Bound n) (t ∷ ts) >>= g)
unfolding part_at
bound_head n g G (LNumber m) = loose (kept_tail (LNumber m) (n == m) code.Width g G)
bound_head n g G t = own_fault t code.Syntax 1

part_local : {B : Type 0} (p : Part) (g : List Lexeme → Read B) → Local 0 0 g → Local 0 0 (λ ts. part_at p ts >>= g)
unfolding part_at
part_local (This l) g G = lexeme_local l g G
part_local (Same s) g G = by_heads (λ ts. part_at (Same s) ts >>= g) (omega arith) (same_head s g G)
part_local (Bound n) g G = by_heads (λ ts. part_at (Bound n) ts >>= g) (omega arith) (bound_head n g G)

all_parts_local : {B : Type 0} (ps : List Part) (g : List Lexeme → Read B) → Local 0 0 g → Local 0 0 (λ ts. all_parts_at ps ts >>= g)
unfolding all_parts_at
all_parts_local [] g G = G
all_parts_local (p ∷ ps) g G =
    as_local (λ ts. part_at p ts >>= λ r. (all_parts_at ps r >>= g)) (λ ts. all_parts_at (p ∷ ps) ts >>= g) (λ ts. bind_assoc (part_at p ts) (all_parts_at ps) g)
    (part_local p (λ r. all_parts_at ps r >>= g) (all_parts_local ps g G))

integer_found : (s : List ℕ) (o : Option ℕ) → Local 1 1 (λ ts. found o code.Unknown (LName s ∷ ts) >>= λ k. let x : Read (List ℕ × ℕ) = Ok ((s, k), ts) in x)
integer_found s (Some k) = raised 1 1 (gives_local (s, k))
integer_found s None = own_fault (LName s) code.Unknown 1

integer_name : (d : Netlist) (s : List ℕ) (b : Bool)
    → Local 1 1 (λ ts. kept_if {A = List ℕ × List Lexeme} b (s, ts) code.Syntax (LName s ∷ ts) >>= λ n. (found (as_integer (entry_in d n.0)) code.Unknown (LName s ∷ ts) >>= λ k. let x : Read (List ℕ × ℕ) = Ok ((n.0, k), n.1) in x))
integer_name d s true = integer_found s (as_integer (entry_in d s))
integer_name d s false = own_fault (LName s) code.Syntax 1

integer_head : (d : Netlist) (t : Lexeme) → Local 1 1 (λ ts. integer_at d (t ∷ ts))
unfolding integer_at
integer_head d (LName s) = integer_name d s (is_name s)
integer_head d t = own_fault t code.Syntax 1

integer_local : (d : Netlist) → Local 0 0 (integer_at d)
unfolding integer_at
integer_local d = by_heads (integer_at d) (omega arith) (integer_head d)

fill_local : (d : Netlist) (width : ℕ) (s : List ℕ) (index : ℕ) → Local 0 0 (fill_at d width s index)
unfolding fill_at
fill_local d width s index =
    behind_local (LSymbol symbol.Semicolon ∷ LKeyword keyword.Initial ∷ LKeyword keyword.For ∷ LSymbol symbol.OpenParenthesis ∷ []) _
    (bind_local (integer_at d) _ (integer_local d) (λ i. all_parts_local (loop_parts s i.0 (2 ^ index)) _
    (bind_local constant_at _ constant_local (λ c. ends_local (c.width == width) _ (gives_local (with_declared s (declared.Memory index c i.1) d))))))

indexed : (d : Netlist) (width : ℕ) (s : List ℕ) (o : Option ℕ) → Local 0 0 (λ ts. symbol_at symbol.CloseBracket ts >>= λ r. (found o code.Width ts >>= λ index. fill_at d width s index r))
indexed d width s (Some index) = symbol_local symbol.CloseBracket (fill_at d width s index) (fill_local d width s index)
indexed d width s None = closed_local symbol.CloseBracket false d code.Width

memory_local : (d : Netlist) (width : ℕ) (s : List ℕ) → Local 0 0 (memory_at d width s)
unfolding memory_at
memory_local d width s = behind_local (LNumber 0 ∷ LSymbol symbol.Colon ∷ []) _ (bind_local number_at _ number_local (λ n. indexed d width s (index_of n)))

-- ---- what is declared after `reg`
stored_head : (d : Netlist) (width : ℕ) (s : List ℕ) (t : Lexeme) → Local 1 1 (λ ts. stored_at d width s (t ∷ ts))
unfolding stored_at
stored_head d width s (LSymbol symbol.Assign) = raised 1 1 (register_local d width s)
stored_head d width s (LSymbol symbol.OpenBracket) = raised 1 1 (memory_local d width s)
stored_head d width s t = own_fault t code.Syntax 1

stored_local : (d : Netlist) (width : ℕ) (s : List ℕ) → Local 0 0 (stored_at d width s)
unfolding stored_at
stored_local d width s = by_heads (stored_at d width s) (omega arith) (stored_head d width s)

pub reg_item_local : (d : Netlist) → Local 0 0 (reg_item_at d)
unfolding reg_item_at
reg_item_local d = bind_local range_at _ range_local (λ w. bind_local (fresh_at d) _ (fresh_local d) (λ s. stored_local d w s))
