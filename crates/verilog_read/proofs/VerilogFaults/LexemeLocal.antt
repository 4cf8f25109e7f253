-- Single lexemes look no further than themselves.
use Rattle.std.proofs.Common.{◌≡◌, ℕ, Bool, true, false, Option, Some, None, Ok, Err, List, [], ◌∷◌, refl, arith}
use Rattle.net_core.specs.declared.tree.Op.TheVariants as op
use Rattle.net_core.specs.Value.{word}
use Rattle.net_core.specs.Width.{word_fits}
use Rattle.verilog_lex.specs.declared.token.Symbol.{Symbol}
use Rattle.verilog_lex.specs.declared.token.Symbol.TheVariants as symbol
use Rattle.verilog_lex.specs.Lexeme.{Lexeme, LName, LNumber, LSized, LOutOfRange, LSymbol}
use Rattle.design_rules.specs.FormedSyntax.{is_name}
use Rattle.verilog_expression.specs.declared.fault.Code.{Code}
use Rattle.verilog_expression.specs.declared.fault.Code.TheVariants as code
use Rattle.verilog_expression.specs.declared.entry.Entry.{Entry}
use Rattle.verilog_expression.specs.Reads.{Read, Reading, ◌>>=◌, fault, kept_if, found}
use Rattle.verilog_expression.specs.Lexemes.{same_lexeme, lexeme_at, symbol_at, behind, number_at, constant_at, op_at}
use Rattle.verilog_expression.specs.Expressions.{Resolve, entry_at}
use Rattle.verilog_read.proofs.VerilogFaults.Local.{Local, raised, loose, by_heads, gives_local, fails_local, as_local}

-- a fault at a lexeme itself
pub own_fault : {A : Type 0} (t : Lexeme) (c : Code) (j : ℕ) → Local j 1 (λ ts. let x : Read A = fault c (t ∷ ts) in x)
own_fault t c j = fails_local (t ∷ []) c j 1 (omega arith)

-- what goes on where a rule holds, and else is a fault at the lexeme in front
pub kept_tail : {B : Type 0} (t : Lexeme) (b : Bool) (c : Code) (g : List Lexeme → Read B) → Local 0 0 g → Local 0 1 (λ ts. kept_if b ts c (t ∷ ts) >>= g)
kept_tail t true c g G = raised 0 1 G
kept_tail t false c g G = own_fault t c 0

pub kept_value : {A : Type 0} (t : Lexeme) (b : Bool) (v : A) (c : Code) → Local 0 1 (λ ts. kept_if {A = A × List Lexeme} b (v, ts) c (t ∷ ts))
kept_value t true v c = raised 0 1 (gives_local v)
kept_value t false v c = own_fault t c 0

pub lexeme_local : {B : Type 0} (l : Lexeme) (g : List Lexeme → Read B) → Local 0 0 g → Local 0 0 (λ ts. lexeme_at l ts >>= g)
unfolding lexeme_at
lexeme_local l g G = by_heads (λ ts. lexeme_at l ts >>= g) (omega arith) (λ t. loose (kept_tail t (same_lexeme l t) code.Syntax g G))

pub symbol_local : {B : Type 0} (s : Symbol) (g : List Lexeme → Read B) → Local 0 0 g → Local 0 0 (λ ts. symbol_at s ts >>= g)
symbol_local s g G = lexeme_local (LSymbol s) g G

pub bind_assoc : {A B C : Type 0} (x : Reading A) (f : A → Reading B) (g : B → Reading C) → (x >>= λ y. f y >>= g) ≡ ((x >>= f) >>= g)
bind_assoc (Ok x) f g = refl
bind_assoc (Err e) f g = refl

pub behind_local : {B : Type 0} (ls : List Lexeme) (g : List Lexeme → Read B) → Local 0 0 g → Local 0 0 (λ ts. behind ls ts >>= g)
unfolding behind
behind_local [] g G = G
behind_local (l ∷ ls) g G =
    as_local (λ ts. lexeme_at l ts >>= λ r. (behind ls r >>= g)) (λ ts. behind (l ∷ ls) ts >>= g) (λ ts. bind_assoc (lexeme_at l ts) (behind ls) g)
    (lexeme_local l (λ r. behind ls r >>= g) (behind_local ls g G))

-- a symbol that ends a phrase, and a rule of what stands before it
closed_head : {A : Type 0} (t : Lexeme) (o b : Bool) (v : A) (c : Code) → Local 0 1 (λ ts. kept_if o ts code.Syntax (t ∷ ts) >>= λ r. kept_if {A = A × List Lexeme} b (v, r) c (t ∷ ts))
closed_head t true true v c = raised 0 1 (gives_local v)
closed_head t true false v c = own_fault t c 0
closed_head t false b v c = own_fault t code.Syntax 0

pub closed_local : {A : Type 0} (s : Symbol) (b : Bool) (v : A) (c : Code) → Local 0 0 (λ ts. symbol_at s ts >>= λ r. kept_if {A = A × List Lexeme} b (v, r) c ts)
unfolding lexeme_at
closed_local {A = A} s b v c = by_heads (λ ts. symbol_at s ts >>= λ r. kept_if {A = A × List Lexeme} b (v, r) c ts) (omega arith) (λ t. loose (closed_head t (same_lexeme (LSymbol s) t) b v c))

-- ---- numbers, names, constants and operators
number_head : (t : Lexeme) → Local 1 1 (λ ts. number_at (t ∷ ts))
number_head (LNumber n) = raised 1 1 (gives_local n)
number_head t = own_fault t code.Syntax 1

pub number_local : Local 0 0 number_at
number_local = by_heads number_at (omega arith) number_head

constant_head : (t : Lexeme) → Local 1 1 (λ ts. constant_at (t ∷ ts))
constant_head (LSized w v) = loose (kept_value (LSized w v) (word_fits (word w v)) (word w v) code.Width)
constant_head LOutOfRange = own_fault LOutOfRange code.Width 1
constant_head t = own_fault t code.Syntax 1

pub constant_local : Local 0 0 constant_at
constant_local = by_heads constant_at (omega arith) constant_head

op_symbol_head : (s : Symbol) → Local 1 1 (λ ts. op_at (LSymbol s ∷ ts))
op_symbol_head symbol.Plus = raised 1 1 (gives_local op.Add)
op_symbol_head symbol.Minus = raised 1 1 (gives_local op.Sub)
op_symbol_head symbol.Star = raised 1 1 (gives_local op.Mul)
op_symbol_head symbol.And = raised 1 1 (gives_local op.And)
op_symbol_head symbol.Or = raised 1 1 (gives_local op.Or)
op_symbol_head symbol.Xor = raised 1 1 (gives_local op.Xor)
op_symbol_head symbol.ShiftLeft = raised 1 1 (gives_local op.ShiftLeft)
op_symbol_head symbol.ShiftRight = raised 1 1 (gives_local op.ShiftRight)
op_symbol_head symbol.Equal = raised 1 1 (gives_local op.Equal)
op_symbol_head symbol.NotEqual = raised 1 1 (gives_local op.NotEqual)
op_symbol_head symbol.Less = raised 1 1 (gives_local op.Less)
op_symbol_head symbol.LessEqual = raised 1 1 (gives_local op.LessEqual)
op_symbol_head symbol.Greater = raised 1 1 (gives_local op.Greater)
op_symbol_head symbol.GreaterEqual = raised 1 1 (gives_local op.GreaterEqual)
op_symbol_head s = own_fault (LSymbol s) code.Syntax 1

op_head : (t : Lexeme) → Local 1 1 (λ ts. op_at (t ∷ ts))
op_head (LSymbol s) = op_symbol_head s
op_head t = own_fault t code.Syntax 1

pub op_local : Local 0 0 op_at
op_local = by_heads op_at (omega arith) op_head

-- ---- what a name stands for
-- after a name that is one, where what it stands for is told by the lexemes from the name on
entry_found : {A : Type 0} (s : List ℕ) (o : Option Entry) (g : List Lexeme → Entry → List Lexeme → Read A) → ((e : Entry) → Local 0 0 (λ ts. g (LName s ∷ ts) e ts))
    → Local 0 0 (λ ts. (found o code.Unknown (LName s ∷ ts) >>= λ e. let x : Read Entry = Ok (e, ts) in x) >>= λ e. g (LName s ∷ ts) e.0 e.1)
entry_found s (Some e) g G = G e
entry_found s None g G = fails_local (LName s ∷ []) code.Unknown 0 0 (omega arith)

pub proper_entry : {A : Type 0} (names : Resolve) (s : List ℕ) (g : List Lexeme → Entry → List Lexeme → Read A) → is_name s ≡ true
    → ((e : Entry) → Local 0 0 (λ ts. g (LName s ∷ ts) e ts)) → Local 0 0 (λ ts. entry_at names (LName s ∷ ts) >>= λ e. g (LName s ∷ ts) e.0 e.1)
unfolding entry_at
proper_entry names s g h G = rw h (entry_found s (names s) g G)

pub improper_entry : (names : Resolve) (s : List ℕ) (ts : List Lexeme) → is_name s ≡ false → entry_at names (LName s ∷ ts) ≡ fault code.Syntax (LName s ∷ ts)
unfolding entry_at
improper_entry names s ts h = rw h refl

pub entry_head : {A : Type 0} (names : Resolve) (s : List ℕ) (g : List Lexeme → Entry → List Lexeme → Read A)
    → ((e : Entry) → Local 0 0 (λ ts. g (LName s ∷ ts) e ts)) → Local 0 1 (λ ts. entry_at names (LName s ∷ ts) >>= λ e. g (LName s ∷ ts) e.0 e.1)
entry_head {A = A} names s g G = by_test (is_name s) refl
  where
    by_test : (b : Bool) → is_name s ≡ b → Local 0 1 (λ ts. entry_at names (LName s ∷ ts) >>= λ e. g (LName s ∷ ts) e.0 e.1)
    by_test true h = raised 0 1 (proper_entry names s g h G)
    by_test false h =
        as_local (λ ts. let x : Read A = fault code.Syntax (LName s ∷ ts) in x) (λ ts. entry_at names (LName s ∷ ts) >>= λ e. g (LName s ∷ ts) e.0 e.1)
        (λ ts. let e = improper_entry names s ts h in rw e refl) (own_fault (LName s) code.Syntax 0)
