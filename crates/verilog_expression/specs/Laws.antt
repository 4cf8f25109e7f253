-- What reading promises: what is read is spelled so and keeps the rules, and what is spelled so and keeps the rules is read.
use Rattle.std.specs.Prelude.{◌≡◌, ℕ, ◌<◌, ◌≤◌, true, Some, List, ◌∷◌, ◌++◌}
use Rattle.std.proofs.Common.{get_or}
use Rattle.net_core.specs.declared.tree.Net.{Net}
use Rattle.net_core.specs.declared.tree.Net.TheVariants as net
use Rattle.net_core.specs.Nets.{Tree, RightTree, StatementTree}
use Rattle.net_core.specs.Width.{Scope, width_of, right_width, statement_typed}
use Rattle.verilog_lex.specs.declared.token.Keyword.TheVariants as keyword
use Rattle.verilog_lex.specs.declared.token.Symbol.TheVariants as symbol
use Rattle.verilog_lex.specs.Lexeme.{Lexeme, LKeyword, LSymbol}
use Rattle.verilog_write.specs.VerilogGrammar.Grammar.{tree_lexemes, right_lexemes, statement_tree_lexemes}
use Rattle.design_rules.specs.FormedSyntax.{is_name, tree_spelled, right_spelled, ends_open, trees_pass, statement_spelled}
use Rattle.design_rules.specs.FormedScope.{Sorts, reads_known, right_known, targets_pass}
use Rattle.verilog_expression.specs.declared.entry.Entry.TheVariants as entry
use Rattle.verilog_expression.specs.Expressions.{Resolve, Sized}
use Rattle.verilog_expression.specs.Rights.{SizedRight}
use Rattle.verilog_expression.specs.Statements.{Free}

-- ---- what names stand for
-- a net of this name, which can be read, of so many bits
pub record IsValueNamed (name : Net → List ℕ) (s : Scope Net) (k : Sorts Net) (text : List ℕ) (n : Net) (w : ℕ) : Type 0 where
  pub named : name n ≡ text
  pub width : s.net n ≡ w
  pub some : 0 < w
  pub known : k.value n ≡ true

-- a memory of this name, with an index and words of so many bits
pub record IsMemoryNamed (name : Net → List ℕ) (s : Scope Net) (k : Sorts Net) (text : List ℕ) (m i w : ℕ) : Type 0 where
  pub named : name (net.Memory m) ≡ text
  pub memory_word : s.memory_word (net.Memory m) ≡ w
  pub index : s.index (net.Memory m) ≡ i
  pub some : 0 < w
  pub some_index : 0 < i
  pub known : k.memory (net.Memory m) ≡ true

-- each value and each memory that a name stands for is there, and has that name and those widths
pub record Knows (names : Resolve) (name : Net → List ℕ) (s : Scope Net) (k : Sorts Net) : Type 0 where
  pub value : (text : List ℕ) (n : Net) (w : ℕ) → names text ≡ Some (entry.Value n w) → IsValueNamed name s k text n w
  pub words : (text : List ℕ) (m i w : ℕ) → names text ≡ Some (entry.Words m i w) → IsMemoryNamed name s k text m i w

-- The name of each value and of each memory that is there stands for it, with its widths. No value and no word has more than
-- 64 bits.
pub record Names (names : Resolve) (name : Net → List ℕ) (s : Scope Net) (k : Sorts Net) : Type 0 where
  pub value : (n : Net) → k.value n ≡ true → names (name n) ≡ Some (entry.Value n (s.net n))
  pub words : (m : ℕ) → k.memory (net.Memory m) ≡ true → names (name (net.Memory m)) ≡ Some (entry.Words m (s.index (net.Memory m)) (s.memory_word (net.Memory m)))
  pub memory : (n : Net) → k.memory n ≡ true → (m : ℕ) × (n ≡ net.Memory m)
  pub proper : (n : Net) → k.value n ≡ true → is_name (name n) ≡ true
  pub memory_proper : (n : Net) → k.memory n ≡ true → is_name (name n) ≡ true
  pub most : (n : Net) → k.value n ≡ true → s.net n ≤ 64
  pub most_memory_word : (n : Net) → k.memory n ≡ true → s.memory_word n ≤ 64

-- the widths of registers and of memories are those of their nets
pub record AreTargetWidths (s : Scope Net) (rs : List ℕ) (ms : List (ℕ × ℕ)) : Type 0 where
  pub register : (r : ℕ) → get_or rs r 0 ≡ s.net (net.Register r)
  pub memory : (m : ℕ) → get_or ms m (0, 0) ≡ (s.index (net.Memory m), s.memory_word (net.Memory m))

-- ---- the rules
-- an expression that is spelled, has a width, and reads what is there
pub record IsTreeKept (s : Scope Net) (k : Sorts Net) (t : Tree Net) : Type 0 where
  pub spelled : tree_spelled t ≡ true
  pub some : 0 < width_of s t
  pub known : reads_known k t ≡ true

pub record IsRightKept (s : Scope Net) (k : Sorts Net) (r : RightTree Net) : Type 0 where
  pub spelled : right_spelled r ≡ true
  pub some : 0 < right_width s r
  pub known : right_known k r ≡ true

-- a statement that is spelled, is well typed, reads and sets what is there, and sets only what is free
pub record IsStatementKept (s : Scope Net) (k : Sorts Net) (free : Free) (rs : List ℕ) (ms : List (ℕ × ℕ)) (a : StatementTree Net) : Type 0 where
  pub spelled : statement_spelled a ≡ true
  pub typed : statement_typed s rs ms a ≡ true
  pub known : trees_pass (reads_known k) a ≡ true
  pub known_targets : targets_pass (λ r. k.value (net.Register r)) (λ m. k.memory (net.Memory m)) a ≡ true
  pub free_targets : targets_pass (λ r. free (net.Register r)) (λ m. free (net.Memory m)) a ≡ true

-- ---- what is read
-- the lexemes of a statement, where registers and memories have the names of their nets
abbrev pub statement_lexemes : (Net → List ℕ) → StatementTree Net → List Lexeme
statement_lexemes name a = statement_tree_lexemes name (λ r. name (net.Register r)) (λ m. name (net.Memory m)) a

-- the lexemes begin with those of an expression that keeps the rules, and the others follow
pub record IsTreeFound (name : Net → List ℕ) (s : Scope Net) (k : Sorts Net) (ts : List Lexeme) (x : Sized × List Lexeme) : Type 0 where
  pub text : ts ≡ tree_lexemes name x.0.tree ++ x.1
  pub width : width_of s x.0.tree ≡ x.0.width
  pub keeps : IsTreeKept s k x.0.tree

pub record IsRightFound (name : Net → List ℕ) (s : Scope Net) (k : Sorts Net) (ts : List Lexeme) (x : SizedRight × List Lexeme) : Type 0 where
  pub text : ts ≡ right_lexemes name x.0.right ++ x.1
  pub width : right_width s x.0.right ≡ x.0.width
  pub keeps : IsRightKept s k x.0.right

pub record IsStatementFound (name : Net → List ℕ) (s : Scope Net) (k : Sorts Net) (free : Free) (rs : List ℕ) (ms : List (ℕ × ℕ)) (ts : List Lexeme) (x : StatementTree Net × List Lexeme) : Type 0 where
  pub text : ts ≡ statement_lexemes name x.0 ++ x.1
  pub keeps : IsStatementKept s k free rs ms x.0

-- ---- what may follow
-- an expression: no bracket
abbrev pub IsBehindTree : List Lexeme → Type 0
IsBehindTree (LSymbol symbol.OpenBracket ∷ ts) = ⊥
IsBehindTree ts = Unit {0}

-- the right side of a wire: a semicolon
abbrev pub IsBehindRight : List Lexeme → Type 0
IsBehindRight (LSymbol symbol.Semicolon ∷ ts) = Unit {0}
IsBehindRight ts = ⊥

-- a statement that ends with an `if` without `else`: no `else`
abbrev pub IsNoElse : List Lexeme → Type 0
IsNoElse (LKeyword keyword.Else ∷ ts) = ⊥
IsNoElse ts = Unit {0}

abbrev pub IsBehindStatement : StatementTree Net → List Lexeme → Type 0
IsBehindStatement a ts = ends_open a ≡ true → IsNoElse ts
