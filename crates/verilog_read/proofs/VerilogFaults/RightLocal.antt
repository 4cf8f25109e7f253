-- The right sides of wires look no further than what they take, and than their faults depend on.
use Rattle.std.proofs.Common.{◌≡◌, ℕ, ◌==◌, Bool, true, false, Option, Some, None, Ok, List, [], ◌∷◌, refl, sym, ◌∙◌, arith}
use Rattle.net_core.specs.declared.tree.Net.{Net}
use Rattle.verilog_lex.specs.declared.token.Symbol.TheVariants as symbol
use Rattle.verilog_lex.specs.Lexeme.{Lexeme, LName, LSymbol}
use Rattle.design_rules.specs.FormedSyntax.{is_name}
use Rattle.verilog_expression.specs.declared.fault.Code.TheVariants as code
use Rattle.verilog_expression.specs.declared.entry.Entry.{Entry}
use Rattle.verilog_expression.specs.declared.entry.Entry.TheVariants as entry
use Rattle.verilog_expression.specs.Reads.{Read, ◌>>=◌, fault, kept_if}
use Rattle.verilog_expression.specs.Expressions.{Resolve, entry_at, whole_expr_at}
use Rattle.verilog_expression.specs.Rights.{SizedRight, value_at, division, division_at, plain_at, right_at}
use Rattle.verilog_read.proofs.VerilogFaults.Local.{Local, raised, loose, from_head, by_heads, gives_local, fails_local, bind_local, as_local}
use Rattle.verilog_read.proofs.VerilogFaults.LexemeLocal.{own_fault, kept_value, improper_entry}
use Rattle.verilog_read.proofs.VerilogFaults.ExpressionLocal.{whole_expr_local, proper_expr, improper_expr}

-- what a name in front is: the name of a value, a name of nothing that can be read, or no name
data IsValueAt (names : Resolve) (s : List ℕ) : Type 0 where
  Stands : (v : Net × ℕ) → ((ts : List Lexeme) → value_at names (LName s ∷ ts) ≡ Ok (v, ts)) → IsValueAt names s
  IsUnknown : ((ts : List Lexeme) → value_at names (LName s ∷ ts) ≡ fault code.Unknown (LName s ∷ ts)) → IsValueAt names s
  IsImproper : is_name s ≡ false → ((ts : List Lexeme) → value_at names (LName s ∷ ts) ≡ fault code.Syntax (LName s ∷ ts)) → IsValueAt names s

value_is : (names : Resolve) (s : List ℕ) → IsValueAt names s
unfolding value_at entry_at
value_is names s = by_name (is_name s) refl
  where
    by_entry : (e : Entry) → is_name s ≡ true → names s ≡ Some e → IsValueAt names s
    by_entry (entry.Value n w) h k = Stands (n, w) (λ ts. rw (h, k) refl)
    by_entry e h k = IsUnknown (λ ts. rw (h, k) refl)

    by_option : (o : Option Entry) → is_name s ≡ true → names s ≡ o → IsValueAt names s
    by_option (Some e) h k = by_entry e h k
    by_option None h k = IsUnknown (λ ts. rw (h, k) refl)

    by_name : (b : Bool) → is_name s ≡ b → IsValueAt names s
    by_name true h = by_option (names s) h refl
    by_name false h = IsImproper h (λ ts. rw h refl)

-- after the operator: a value of the same width
abbrev divisor_at : Resolve → ℕ → (Net × ℕ → SizedRight) → List Lexeme → Read SizedRight
divisor_at names w g ts = value_at names ts >>= λ b. kept_if {A = SizedRight × List Lexeme} (w == b.0.1) (g b.0, b.1) code.Width ts

divisor_name : (names : Resolve) (w : ℕ) (g : Net × ℕ → SizedRight) (s : List ℕ) → IsValueAt names s → Local 1 1 (λ ts. divisor_at names w g (LName s ∷ ts))
divisor_name names w g s (Stands v e) =
    as_local (λ ts. kept_if {A = SizedRight × List Lexeme} (w == v.1) (g v, ts) code.Width (LName s ∷ ts)) (λ ts. divisor_at names w g (LName s ∷ ts)) (λ ts. rw (e ts) refl)
    (loose (kept_value (LName s) (w == v.1) (g v) code.Width))
divisor_name names w g s (IsUnknown e) =
    as_local (λ ts. let x : Read SizedRight = fault code.Unknown (LName s ∷ ts) in x) (λ ts. divisor_at names w g (LName s ∷ ts)) (λ ts. rw (e ts) refl) (own_fault (LName s) code.Unknown 1)
divisor_name names w g s (IsImproper h e) =
    as_local (λ ts. let x : Read SizedRight = fault code.Syntax (LName s ∷ ts) in x) (λ ts. divisor_at names w g (LName s ∷ ts)) (λ ts. rw (e ts) refl) (own_fault (LName s) code.Syntax 1)

divisor_head : (names : Resolve) (w : ℕ) (g : Net × ℕ → SizedRight) (t : Lexeme) → Local 1 1 (λ ts. divisor_at names w g (t ∷ ts))
unfolding value_at entry_at
divisor_head names w g (LName s) = divisor_name names w g s (value_is names s)
divisor_head names w g t = own_fault t code.Syntax 1

divisor_local : (names : Resolve) (w : ℕ) (g : Net × ℕ → SizedRight) → Local 0 0 (divisor_at names w g)
unfolding value_at entry_at
divisor_local names w g = by_heads (divisor_at names w g) (omega arith) (divisor_head names w g)

-- a division whose first name is one
division_by : (names : Resolve) (quotient : Bool) (s : List ℕ) (y : Lexeme) → is_name s ≡ true → IsValueAt names s → Local 0 0 (λ ts. division_at names quotient (LName s ∷ y ∷ ts) ts)
unfolding division_at
division_by names quotient s y h (Stands v e) =
    as_local (divisor_at names v.1 (λ b. record { right = division quotient v.0 b.0; width = v.1 })) (λ ts. division_at names quotient (LName s ∷ y ∷ ts) ts) (λ ts. rw (e (y ∷ ts)) refl)
    (divisor_local names v.1 (λ b. record { right = division quotient v.0 b.0; width = v.1 }))
division_by names quotient s y h (IsUnknown e) =
    as_local (λ ts. let x : Read SizedRight = fault code.Unknown (LName s ∷ y ∷ ts) in x) (λ ts. division_at names quotient (LName s ∷ y ∷ ts) ts) (λ ts. rw (e (y ∷ ts)) refl)
    (fails_local (LName s ∷ y ∷ []) code.Unknown 0 0 (omega arith))
division_by names quotient s y h (IsImproper k e) = let q : true ≡ false = sym h ∙ k in absurd cc

division_local : (names : Resolve) (quotient : Bool) (s : List ℕ) (y : Lexeme) → is_name s ≡ true → Local 0 0 (λ ts. division_at names quotient (LName s ∷ y ∷ ts) ts)
division_local names quotient s y h = division_by names quotient s y h (value_is names s)

-- ---- an expression
plain_from : (names : Resolve) (f : List Lexeme → List Lexeme) → Local 0 0 (λ ts. whole_expr_at names (f ts)) → Local 0 0 (λ ts. plain_at names (f ts))
unfolding plain_at
plain_from names f E = bind_local (λ ts. whole_expr_at names (f ts)) _ E (λ e. gives_local _)

plain_local : (names : Resolve) → Local 0 0 (plain_at names)
plain_local names = plain_from names (λ ts. ts) (whole_expr_local names)

plain_name : (names : Resolve) (s : List ℕ) → is_name s ≡ true → Local 0 0 (λ ts. plain_at names (LName s ∷ ts))
plain_name names s h = plain_from names (λ ts. LName s ∷ ts) (proper_expr names s h)

improper_plain : (names : Resolve) (s : List ℕ) (ts : List Lexeme) → is_name s ≡ false → plain_at names (LName s ∷ ts) ≡ fault code.Syntax (LName s ∷ ts)
unfolding plain_at
improper_plain names s ts h = rw (improper_expr names s ts h) refl

improper_division : (names : Resolve) (quotient : Bool) (s : List ℕ) (ts us : List Lexeme) → is_name s ≡ false → division_at names quotient (LName s ∷ ts) us ≡ fault code.Syntax (LName s ∷ ts)
unfolding division_at value_at
improper_division names quotient s ts us h = rw (improper_entry names s ts h) refl

improper_right : (names : Resolve) (s : List ℕ) (ts : List Lexeme) → is_name s ≡ false → (let x : Read SizedRight = fault code.Syntax (LName s ∷ ts) in x) ≡ right_at names (LName s ∷ ts)
unfolding right_at
improper_right names s (LSymbol symbol.Slash ∷ ts) h = sym (improper_division names true s (LSymbol symbol.Slash ∷ ts) ts h)
improper_right names s (LSymbol symbol.Percent ∷ ts) h = sym (improper_division names false s (LSymbol symbol.Percent ∷ ts) ts h)
improper_right names s ts h = sym (improper_plain names s ts h)

-- ---- a right side
right_name_head : (names : Resolve) (s : List ℕ) → is_name s ≡ true → (t : Lexeme) → Local 1 1 (λ ts. right_at names (LName s ∷ t ∷ ts))
unfolding right_at
right_name_head names s h (LSymbol symbol.Slash) = raised 1 1 (division_local names true s (LSymbol symbol.Slash) h)
right_name_head names s h (LSymbol symbol.Percent) = raised 1 1 (division_local names false s (LSymbol symbol.Percent) h)
right_name_head names s h t = from_head (plain_name names s h) t

right_name : (names : Resolve) (s : List ℕ) → is_name s ≡ true → Local 0 0 (λ ts. right_at names (LName s ∷ ts))
unfolding right_at
right_name names s h = by_heads (λ ts. right_at names (LName s ∷ ts)) ((plain_name names s h).bounded []) (right_name_head names s h)

right_head : (names : Resolve) (t : Lexeme) → Local 1 1 (λ ts. right_at names (t ∷ ts))
unfolding right_at
right_head names (LName s) = by_name (is_name s) refl
  where
    by_name : (b : Bool) → is_name s ≡ b → Local 1 1 (λ ts. right_at names (LName s ∷ ts))
    by_name true h = raised 1 1 (right_name names s h)
    by_name false h = as_local (λ ts. let x : Read SizedRight = fault code.Syntax (LName s ∷ ts) in x) (λ ts. right_at names (LName s ∷ ts)) (λ ts. improper_right names s ts h) (own_fault (LName s) code.Syntax 1)
right_head names t = from_head (plain_local names) t

pub right_local : (names : Resolve) → Local 0 0 (right_at names)
unfolding right_at
right_local names = by_heads (right_at names) ((plain_local names).bounded []) (right_head names)
