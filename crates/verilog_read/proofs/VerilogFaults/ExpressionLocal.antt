-- Expressions look no further than what they take, and than their faults depend on.
use Rattle.std.specs.Prelude.{if◌then◌else◌}
use Rattle.std.proofs.Common.{◌≡◌, ◌≢◌, ℕ, zero, suc, ◌+◌, ◌≤◌, Bool, true, false, Ok, List, [], ◌∷◌, length, refl, sym, ◌∙◌, ap, arith}
use Rattle.net_core.specs.declared.tree.Net.{Net}
use Rattle.net_core.specs.declared.tree.Word.{Word}
use Rattle.net_core.specs.declared.tree.UnaryOp.{UnaryOp}
use Rattle.net_core.specs.declared.tree.UnaryOp.TheVariants as unary_op
use Rattle.net_core.specs.Nets.{TConst, TRead, TBit, TBinary, TLast, TMore}
use Rattle.net_core.specs.Width.{part_select_width, op_width, word_fits}
use Rattle.net_core.specs.Value.{word}
use Rattle.verilog_lex.specs.declared.token.Symbol.{Symbol}
use Rattle.verilog_lex.specs.declared.token.Symbol.TheVariants as symbol
use Rattle.verilog_lex.specs.Lexeme.{Lexeme, LName, LNumber, LSized, LOutOfRange, LSymbol}
use Rattle.design_rules.specs.FormedSyntax.{is_name}
use Rattle.verilog_expression.specs.declared.fault.Code.TheVariants as code
use Rattle.verilog_expression.specs.declared.entry.Entry.{Entry}
use Rattle.verilog_expression.specs.declared.entry.Entry.TheVariants as entry
use Rattle.verilog_expression.specs.Reads.{Read, ◌>>=◌, fault, kept_if}
use Rattle.verilog_expression.specs.Lexemes.{symbol_at, number_at, op_at, begins_expression}
use Rattle.verilog_expression.specs.Expressions.{Resolve, Sized, SizedParts, sized, part_select_at, select_at, memory_word_at, in_value, in_words, named_at, second_at, paren_at, more_at, parts_at, concatenation_at, unary_at, symbol_first, constant_expr_at, first_at, expr_at, whole_expr_at}
use Rattle.verilog_read.proofs.VerilogFaults.Local.{Within, Local, IsStrict, raised, loose, from_head, by_heads, by_strict_heads, by_turns, bind_same, gives_local, fails_local, bind_local}
use Rattle.verilog_read.proofs.VerilogFaults.LexemeLocal.{own_fault, symbol_local, closed_local, number_local, op_local, entry_head, proper_entry, improper_entry}

-- ---- bits of a vector
bit_local : (n : Net) (w hi : ℕ) → Local 0 0 (λ ts. symbol_at symbol.CloseBracket ts >>= λ r. sized (TBit n hi) (part_select_width w hi hi) r ts)
bit_local n w hi = closed_local symbol.CloseBracket _ _ code.Width

part_select_head : (n : Net) (w hi : ℕ) (t : Lexeme) → Local 1 1 (λ ts. part_select_at n w hi (t ∷ ts))
unfolding part_select_at
part_select_head n w hi (LSymbol symbol.Colon) = raised 1 1 (bind_local number_at _ number_local (λ lo. closed_local symbol.CloseBracket _ _ code.Width))
part_select_head n w hi t = from_head (bit_local n w hi) t

part_select_local : (n : Net) (w hi : ℕ) → Local 0 0 (part_select_at n w hi)
unfolding part_select_at
part_select_local n w hi = by_heads (part_select_at n w hi) ((bit_local n w hi).bounded []) (part_select_head n w hi)

select_local : (n : Net) (w : ℕ) → Local 0 0 (select_at n w)
unfolding select_at
select_local n w = bind_local number_at _ number_local (part_select_local n w)

-- what is no number in the brackets after the name of a value
no_number : (s : List ℕ) (t : Lexeme) (b : Bool) → Local 1 1 (λ ts. let x : Read Sized = (if b then fault code.Unknown (LName s ∷ LSymbol symbol.OpenBracket ∷ t ∷ ts) else fault code.Syntax (t ∷ ts)) in x)
no_number s t true = fails_local (LName s ∷ LSymbol symbol.OpenBracket ∷ t ∷ []) code.Unknown 1 1 (omega arith)
no_number s t false = own_fault t code.Syntax 1

in_value_head : (s : List ℕ) (n : Net) (w : ℕ) (t : Lexeme) → Local 1 1 (λ ts. in_value (LName s ∷ LSymbol symbol.OpenBracket ∷ t ∷ ts) n w (t ∷ ts))
in_value_head s n w (LNumber k) = from_head (select_local n w) (LNumber k)
in_value_head s n w t = no_number s t (begins_expression (t ∷ []))

in_value_local : (s : List ℕ) (n : Net) (w : ℕ) → Local 0 0 (λ ts. in_value (LName s ∷ LSymbol symbol.OpenBracket ∷ ts) n w ts)
in_value_local s n w = by_heads (λ ts. in_value (LName s ∷ LSymbol symbol.OpenBracket ∷ ts) n w ts) (omega arith) (in_value_head s n w)

constant_expr_head : (w v : ℕ) → Local 0 1 (λ ts. constant_expr_at (LSized w v ∷ ts))
unfolding constant_expr_at
constant_expr_head w v = by_test (word_fits (word w v))
  where
    by_test : (b : Bool) → Local 0 1 (λ ts. kept_if {A = Word × List Lexeme} b (word w v, ts) code.Width (LSized w v ∷ ts) >>= λ c. let x : Read Sized = Ok (record { tree = TConst c.0; width = c.0.width }, c.1) in x)
    by_test true = raised 0 1 (gives_local _)
    by_test false = own_fault (LSized w v) code.Width 0

out_of_range : Local 0 1 (λ ts. constant_expr_at (LOutOfRange ∷ ts))
unfolding constant_expr_at
out_of_range = own_fault LOutOfRange code.Width 0

unary_local : (any : Bool) (p : UnaryOp) (operand : List Lexeme → Read Sized) → Local 0 0 operand → (t : Lexeme) → Local 0 1 (λ ts. unary_at any p operand (t ∷ ts) ts)
unfolding unary_at
unary_local false p operand O t = own_fault t code.Syntax 0
unary_local true p operand O t = raised 0 1 (bind_local operand _ O (λ a. gives_local _))

module _ (expr : List Lexeme → Read Sized) (E : Local 0 0 expr) where
  memory_word_local : (m index w : ℕ) → Local 0 0 (memory_word_at expr m index w)
  unfolding memory_word_at
  memory_word_local m index w = bind_local expr _ E (λ i. closed_local symbol.CloseBracket _ _ code.Width)

  in_words_head : (s : List ℕ) (m index w : ℕ) (t : Lexeme) → Local 1 1 (λ ts. in_words expr (LName s ∷ LSymbol symbol.OpenBracket ∷ t ∷ ts) m index w (t ∷ ts))
  in_words_head s m index w (LNumber k) = fails_local (LName s ∷ LSymbol symbol.OpenBracket ∷ LNumber k ∷ []) code.Unknown 1 1 (omega arith)
  in_words_head s m index w t = from_head (memory_word_local m index w) t

  in_words_local : (s : List ℕ) (m index w : ℕ) → Local 0 0 (λ ts. in_words expr (LName s ∷ LSymbol symbol.OpenBracket ∷ ts) m index w ts)
  in_words_local s m index w = by_heads (λ ts. in_words expr (LName s ∷ LSymbol symbol.OpenBracket ∷ ts) m index w ts) ((memory_word_local m index w).bounded []) (in_words_head s m index w)

  named_value_head : (s : List ℕ) (n : Net) (w : ℕ) (t : Lexeme) → Local 1 1 (λ ts. named_at expr (LName s ∷ t ∷ ts) (entry.Value n w) (t ∷ ts))
  unfolding named_at
  named_value_head s n w (LSymbol symbol.OpenBracket) = raised 1 1 (in_value_local s n w)
  named_value_head s n w t = from_head (gives_local (record { tree = TRead n; width = w })) t

  named_words_head : (s : List ℕ) (m index w : ℕ) (t : Lexeme) → Local 1 1 (λ ts. named_at expr (LName s ∷ t ∷ ts) (entry.Words m index w) (t ∷ ts))
  unfolding named_at
  named_words_head s m index w (LSymbol symbol.OpenBracket) = raised 1 1 (in_words_local s m index w)
  named_words_head s m index w t = fails_local (LName s ∷ t ∷ []) code.Unknown 1 1 (omega arith)

  named_local : (s : List ℕ) (e : Entry) → Local 0 0 (λ ts. named_at expr (LName s ∷ ts) e ts)
  unfolding named_at
  named_local s (entry.Value n w) = by_heads (λ ts. named_at expr (LName s ∷ ts) (entry.Value n w) ts) (omega arith) (named_value_head s n w)
  named_local s (entry.Words m index w) = by_heads (λ ts. named_at expr (LName s ∷ ts) (entry.Words m index w) ts) (omega arith) (named_words_head s m index w)
  named_local s e = fails_local (LName s ∷ []) code.Unknown 0 0 (omega arith)

  binary_local : (a : Sized) → Local 0 0 (λ ts. op_at ts >>= λ o. (expr o.1 >>= λ b. (symbol_at symbol.CloseParenthesis b.1 >>= λ r. sized (TBinary o.0 a.tree b.0.tree) (op_width o.0 a.width b.0.width) r b.1)))
  binary_local a = bind_local op_at _ op_local (λ o. bind_local expr _ E (λ b. closed_local symbol.CloseParenthesis _ _ code.Width))

  second_head : (a : Sized) (t : Lexeme) → Local 1 1 (λ ts. second_at expr a (t ∷ ts))
  unfolding second_at
  second_head a (LSymbol symbol.Question) = raised 1 1 (bind_local expr _ E (λ b. symbol_local symbol.Colon _ (bind_local expr _ E (λ c. closed_local symbol.CloseParenthesis _ _ code.Width))))
  second_head a t = from_head (binary_local a) t

  second_local : (a : Sized) → Local 0 0 (second_at expr a)
  unfolding second_at
  second_local a = by_heads (second_at expr a) ((binary_local a).bounded []) (second_head a)

  paren_local : Local 0 0 (paren_at expr)
  unfolding paren_at
  paren_local = bind_local expr _ E second_local

  -- ---- the parts of a concatenation
  more_head : (parts : List Lexeme → Read SizedParts) → Local 0 0 parts → (a : Sized) (t : Lexeme) → Local 1 1 (λ ts. more_at parts a (t ∷ ts))
  unfolding more_at
  more_head parts P a (LSymbol symbol.Comma) = raised 1 1 (bind_local parts _ P (λ ps. gives_local _))
  more_head parts P a t = from_head (gives_local (record { parts = TLast a.tree; width = a.width })) t

  more_local : (parts : List Lexeme → Read SizedParts) → Local 0 0 parts → (a : Sized) → Local 0 0 (more_at parts a)
  unfolding more_at
  more_local parts P a = by_heads (more_at parts a) (omega arith) (more_head parts P a)

  parts_local : (n : ℕ) → Local 0 0 (parts_at expr n)
  unfolding parts_at
  parts_local zero = fails_local [] code.Syntax 0 0 (omega arith)
  parts_local (suc n) = bind_local expr _ E (more_local (parts_at expr n) (parts_local n))

  module _ (none : expr [] ≡ fault code.Syntax []) (strict : IsStrict expr) where
    more_same : (f g : List Lexeme → Read SizedParts) (a : Sized) (l : List Lexeme) → ((k : List Lexeme) → length k ≤ length l → f k ≡ g k) → more_at f a l ≡ more_at g a l
    unfolding more_at
    more_same f g a (LSymbol symbol.Comma ∷ l) h = ap (λ (x : Read SizedParts). x >>= λ ps. let y : Read SizedParts = Ok (record { parts = TMore a.tree ps.0.parts; width = a.width + ps.0.width }, ps.1) in y) (h l (omega arith))
    more_same f g a l h = refl

    -- more turns than lexemes change nothing
    parts_same : (n m : ℕ) (ts : List Lexeme) → length ts ≤ n → length ts ≤ m → parts_at expr n ts ≡ parts_at expr m ts
    unfolding parts_at
    parts_same zero zero ts h k = refl
    parts_same zero (suc m) [] h k = rw none refl
    parts_same zero (suc m) (t ∷ ts) h k = absurd (omega arith)
    parts_same (suc n) zero [] h k = rw none refl
    parts_same (suc n) zero (t ∷ ts) h k = absurd (omega arith)
    parts_same (suc n) (suc m) ts h k =
        bind_same (expr ts) (λ a. more_at (parts_at expr n) a.0 a.1) (λ a. more_at (parts_at expr m) a.0 a.1)
        (λ a l e. let s : suc (length l) ≤ length ts = strict ts a l e in more_same (parts_at expr n) (parts_at expr m) a l (λ j q. parts_same n m j (omega arith) (omega arith)))

    concatenation_local : Local 0 0 (concatenation_at expr)
    unfolding concatenation_at
    concatenation_local = bind_local (λ ts. parts_at expr (length ts) ts) _ (by_turns (parts_at expr) parts_local parts_same) (λ ps. closed_local symbol.CloseBrace _ _ code.Width)

    symbol_first_local : (any : Bool) (operand : List Lexeme → Read Sized) → Local 0 0 operand → (y : Symbol) → Local 0 1 (λ ts. symbol_first any operand expr y (LSymbol y ∷ ts) ts)
    unfolding symbol_first
    symbol_first_local any operand O symbol.Not = unary_local any unary_op.Not operand O (LSymbol symbol.Not)
    symbol_first_local any operand O symbol.Or = unary_local any unary_op.ReduceOr operand O (LSymbol symbol.Or)
    symbol_first_local any operand O symbol.OpenParenthesis = raised 0 1 paren_local
    symbol_first_local any operand O symbol.OpenBrace = raised 0 1 concatenation_local
    symbol_first_local any operand O y = own_fault (LSymbol y) code.Syntax 0

    first_head : (names : Resolve) (any : Bool) (operand : List Lexeme → Read Sized) → Local 0 0 operand → (t : Lexeme) → Local 0 1 (λ ts. first_at names any operand expr (t ∷ ts))
    unfolding first_at
    first_head names any operand O (LSized w v) = constant_expr_head w v
    first_head names any operand O LOutOfRange = out_of_range
    first_head names any operand O (LName s) = entry_head names s (named_at expr) (named_local s)
    first_head names any operand O (LSymbol y) = symbol_first_local any operand O y
    first_head names any operand O t = own_fault t code.Syntax 0

-- ---- expressions of at most a depth
expr_none : (names : Resolve) (d : ℕ) (any : Bool) → expr_at names d any [] ≡ fault code.Syntax []
unfolding expr_at first_at
expr_none names zero any = refl
expr_none names (suc d) any = refl

none_within : (names : Resolve) (d : ℕ) (any : Bool) → Within 0 0 (expr_at names d any [])
none_within names d any = rw (expr_none names d any) (omega arith)

none_given : (names : Resolve) (d : ℕ) (any : Bool) (v : Sized) (l : List Lexeme) → expr_at names d any [] ≢ Ok (v, l)
none_given names d any v l e = let h = sym (expr_none names d any) ∙ e in absurd cc

expr_head : (names : Resolve) (d : ℕ) (any : Bool) (t : Lexeme) → Local 0 1 (λ ts. expr_at names d any (t ∷ ts))
unfolding expr_at
expr_head names zero any t = own_fault t code.Syntax 0
expr_head names (suc d) any t =
    let E = by_heads (expr_at names d true) (none_within names d true) (λ t. loose (expr_head names d true t)) in
    let O = by_heads (expr_at names d false) (none_within names d false) (λ t. loose (expr_head names d false t)) in
    first_head (expr_at names d true) E (expr_none names d true) (by_strict_heads (expr_at names d true) (none_given names d true) (expr_head names d true)) names any (expr_at names d false) O t

pub expr_local : (names : Resolve) (d : ℕ) (any : Bool) → Local 0 0 (expr_at names d any)
expr_local names d any = by_heads (expr_at names d any) (none_within names d any) (λ t. loose (expr_head names d any t))

pub whole_expr_local : (names : Resolve) → Local 0 0 (whole_expr_at names)
unfolding whole_expr_at
whole_expr_local names = expr_local names 64 true

-- an expression that begins with a name that is one
proper_at : (names : Resolve) (d : ℕ) (any : Bool) (s : List ℕ) → is_name s ≡ true → Local 0 0 (λ ts. expr_at names (suc d) any (LName s ∷ ts))
unfolding expr_at first_at
proper_at names d any s h = proper_entry names s (named_at (expr_at names d true)) h (named_local (expr_at names d true) (expr_local names d true) s)

pub proper_expr : (names : Resolve) (s : List ℕ) → is_name s ≡ true → Local 0 0 (λ ts. whole_expr_at names (LName s ∷ ts))
unfolding whole_expr_at
proper_expr names s h = proper_at names 63 true s h

-- a word in front that is no name
improper_first : (names : Resolve) (any : Bool) (operand expr : List Lexeme → Read Sized) (s : List ℕ) (ts : List Lexeme) → is_name s ≡ false
    → first_at names any operand expr (LName s ∷ ts) ≡ fault code.Syntax (LName s ∷ ts)
unfolding first_at
improper_first names any operand expr s ts h = rw (improper_entry names s ts h) refl

improper_at : (names : Resolve) (d : ℕ) (any : Bool) (s : List ℕ) (ts : List Lexeme) → is_name s ≡ false → expr_at names (suc d) any (LName s ∷ ts) ≡ fault code.Syntax (LName s ∷ ts)
unfolding expr_at
improper_at names d any s ts h = improper_first names any (expr_at names d false) (expr_at names d true) s ts h

pub improper_expr : (names : Resolve) (s : List ℕ) (ts : List Lexeme) → is_name s ≡ false → whole_expr_at names (LName s ∷ ts) ≡ fault code.Syntax (LName s ∷ ts)
unfolding whole_expr_at
improper_expr names s ts h = improper_at names 63 true s ts h
