-- Reading from left to right: a value and the lexemes after it, or the first fault.
use Rattle.std.specs.Prelude.{Bool, true, false, Option, Some, None, Result, Ok, Err, List, length}
use Rattle.verilog_lex.specs.Lexeme.{Lexeme}
use Rattle.verilog_expression.specs.declared.fault.Code.{Code}
use Rattle.verilog_expression.specs.declared.fault.Fault.{Fault}

-- a value, or the first fault
abbrev pub Reading : Type 0 → Type 0
Reading A = Result A Fault

-- a value and the lexemes after it, or the first fault
abbrev pub Read : Type 0 → Type 0
Read A = Reading (A × List Lexeme)

infixl 10 ◌>>=◌
abbrev pub ◌>>=◌ : {A B : Type 0} → Reading A → (A → Reading B) → Reading B
(Ok x) >>= f = f x
(Err e) >>= f = Err e

-- a fault at the first of these lexemes, or at the end of the text where there is none
abbrev pub fault : {A : Type 0} → Code → List Lexeme → Reading A
fault c ts = Err (record { code = c; left = length ts })

-- a value that is kept where a rule holds, and else a fault
abbrev pub kept_if : {A : Type 0} → Bool → A → Code → List Lexeme → Reading A
kept_if true x c ts = Ok x
kept_if false x c ts = fault c ts

-- what was found, and else a fault
abbrev pub found : {A : Type 0} → Option A → Code → List Lexeme → Reading A
found (Some x) c ts = Ok x
found None c ts = fault c ts
