-- One step of the loops over the parts of a concatenation, over the statements of a block and over the marks of a phrase.
use Rattle.std.proofs.Common.{◌≡◌, ℕ, zero, suc, ◌+◌, ◌-◌, ◌<◌, min, true, false, Some, None, Result, Ok, Err, List, [], ◌∷◌, ◌++◌, map, length, refl, sym, ◌∙◌, ap, subst, arith, ◌≤◌, drop, get_or, drop-cons, add-one}
use Rattle.std.proofs.lemmas.List.{drop_all}
use Rattle.std.specs.Result.{IsErr, IsErrAnd}
use Rattle.net_core.specs.declared.tree.Net.{Net}
use Rattle.net_core.specs.Nets.{Tree, Trees, TLast, TMore, StatementTree, StatementTrees, SEnd, SThen}
use Rattle.net_core.specs.Chains.{parts_before, statements_before}
use Rattle.verilog_lex.specs.Lexeme.{Lexeme, LKeyword, LSymbol}
use Rattle.verilog_lex.specs.declared.token.Symbol.TheVariants as symbol
use Rattle.verilog_lex.specs.declared.token.Keyword.TheVariants as keyword
use Rattle.verilog_expression.specs.declared.fault.Fault.{Fault}
use Rattle.verilog_expression.specs.declared.error.PhraseError.{PhraseError}
use Rattle.verilog_expression.specs.declared.error.PhraseError.TheVariants as error
use Rattle.verilog_expression.specs.declared.fault.Code.TheVariants as code
use Rattle.verilog_expression.specs.Lexemes.{behind, lexeme_at}
use Rattle.verilog_expression.specs.Reads.{Read, Reading, ◌>>=◌}
use Rattle.verilog_expression.specs.Expressions.{Sized, SizedParts, more_at, parts_at}
use Rattle.verilog_expression.specs.Statements.{block_at}
use Rattle.verilog_expression.specs.declared.mark.Mark.{Mark}
use Rattle.verilog_expression.specs.View.{Fails, Gives, mark_lexeme, comma_at, end_at, capped, behind_parts, behind_statements}

-- what fails in a step fails as a whole
pub fails_on : {X Y : Type 0} (e : PhraseError) (reading : Reading X) (whole : Reading Y) → ((f : Fault) → reading ≡ Err f → whole ≡ Err f) → Fails e reading → Fails e whole
fails_on (error.Fault f) reading whole g h = g f h
fails_on error.NoMemory reading whole g h = tt

-- an error that a step returned is the whole's
pub gives_error : {X Y : Type 0} (view : X → Y) (r : Result X PhraseError) (P : PhraseError → Type 0) (e : PhraseError) (whole : Reading Y) → IsErr r × IsErrAnd r P → ((e' : PhraseError) → P e' → e' ≡ e) → Fails e whole → Gives view r whole
gives_error view (Ok x) P e whole h q f = let k : false ≡ true = h.0 in absurd cc
gives_error view (Err e') P e whole h q f = subst (λ (x : PhraseError). Fails x whole) (sym (q e' h.1)) f

-- a fault that ends a function
pub gives_fault : {X Y : Type 0} (view : X → Y) (r : Result X PhraseError) (e : PhraseError) (whole : Reading Y) → r ≡ Err e → Fails e whole → Gives view r whole
gives_fault {X = X} view r e whole h f = subst (λ (x : Result X PhraseError). Gives view x whole) (sym h) f

pub map_along : {A B : Type 0} (f : A → B) (x : A) (l : List A) → map f (l ++ x ∷ []) ≡ map f l ++ f x ∷ []
map_along f x [] = refl
map_along {B = B} f x (y ∷ l) = ap (λ (k : List B). f y ∷ k) (map_along f x l)

pub map_one_more : {A B : Type 0} (f : A → B) (all xs : List A) (x : A) → all ≡ xs ++ x ∷ [] → map f xs ++ f x ∷ [] ≡ map f all
map_one_more {A = A} f all xs x e = sym (ap (λ (l : List A). map f l) e ∙ map_along f x xs)

parts_one_before : (prefix : List (Tree Net)) (t : Tree Net) (ps : Trees Net) → parts_before (prefix ++ t ∷ []) ps ≡ parts_before prefix (TMore t ps)
parts_one_before [] t ps = refl
parts_one_before (x ∷ prefix) t ps = ap (λ q. TMore x q) (parts_one_before prefix t ps)

-- ---- what stands after a part
concatenation_with : Sized → SizedParts × List Lexeme → Read SizedParts
concatenation_with a ps = Ok (record { parts = TMore a.tree ps.0.parts; width = a.width + ps.0.width }, ps.1)

more_follow : (parts : List Lexeme → Read SizedParts) (a : Sized) (ts r : List Lexeme) → comma_at ts ≡ Some r → more_at parts a ts ≡ (parts r >>= concatenation_with a)
unfolding more_at concatenation_with
more_follow parts a (LSymbol symbol.Comma ∷ ts) r h = let e : ts ≡ r = cc in rw e refl
more_follow parts a ts r h = absurd cc

none_follow : (parts : List Lexeme → Read SizedParts) (a : Sized) (ts : List Lexeme) → comma_at ts ≡ None → more_at parts a ts ≡ Ok (record { parts = TLast a.tree; width = a.width }, ts)
unfolding more_at
none_follow parts a (LSymbol symbol.Comma ∷ ts) h = absurd cc
none_follow parts a ts h = refl

one_step : (expr : List Lexeme → Read Sized) (n : ℕ) (ts : List Lexeme) → 0 < n → parts_at expr n ts ≡ (expr ts >>= λ a. more_at (parts_at expr (n - 1)) a.0 a.1)
unfolding parts_at
one_step expr zero ts h = absurd (omega arith)
one_step expr (suc n) ts h = let e : suc n - 1 ≡ n = omega arith in rw e refl

-- the same where the part is known
known_step : (expr : List Lexeme → Read Sized) (n : ℕ) (ts r : List Lexeme) (a : Sized) → 0 < n → expr ts ≡ Ok (a, r) → parts_at expr n ts ≡ more_at (parts_at expr (n - 1)) a r
known_step expr n ts r a h e = one_step expr n ts h ∙ rw e refl

pub part_fails : (expr : List Lexeme → Read Sized) (n : ℕ) (ts : List Lexeme) (prefix : List (Tree Net)) (s : ℕ) (f : Fault) → 0 < n → expr ts ≡ Err f → capped (behind_parts prefix s (parts_at expr n ts)) ≡ Err f
part_fails expr n ts prefix s f h e = rw (one_step expr n ts h, e) refl

pub last_part : (expr : List Lexeme → Read Sized) (n : ℕ) (ts r : List Lexeme) (a : Sized) (prefix : List (Tree Net)) (s s' : ℕ) (list : Trees Net) → 0 < n → expr ts ≡ Ok (a, r) → comma_at r ≡ None → s' ≡ min (s + a.width) 255 → list ≡ parts_before prefix (TLast a.tree) → capped (behind_parts prefix s (parts_at expr n ts)) ≡ Ok (record { parts = list; width = s' }, r)
last_part expr n ts r a prefix s s' list h e k p q = rw (known_step expr n ts r a h e, none_follow (parts_at expr (n - 1)) a r k, p, q) refl

behind_more : (prefix : List (Tree Net)) (a : Sized) (s s' : ℕ) (reading : Read SizedParts) → s' ≡ min (s + a.width) 255 → capped (behind_parts prefix s (reading >>= concatenation_with a)) ≡ capped (behind_parts (prefix ++ a.tree ∷ []) s' reading)
unfolding concatenation_with
behind_more prefix a s s' (Ok x) p =
    let e : min (s + (a.width + x.0.width)) 255 ≡ min (s' + x.0.width) 255 = omega arith in
    rw (e, parts_one_before prefix a.tree x.0.parts) refl
behind_more prefix a s s' (Err f) p = refl

pub next_part : (expr : List Lexeme → Read Sized) (n : ℕ) (ts r r' : List Lexeme) (a : Sized) (prefix : List (Tree Net)) (s s' : ℕ) → 0 < n → expr ts ≡ Ok (a, r) → comma_at r ≡ Some r' → s' ≡ min (s + a.width) 255 → capped (behind_parts prefix s (parts_at expr n ts)) ≡ capped (behind_parts (prefix ++ a.tree ∷ []) s' (parts_at expr (n - 1) r'))
next_part expr n ts r r' a prefix s s' h e k p =
    rw (known_step expr n ts r a h e, more_follow (parts_at expr (n - 1)) a r r' k) (behind_more prefix a s s' (parts_at expr (n - 1) r') p)

pub no_step : (expr : List Lexeme → Read Sized) (n : ℕ) (ts : List Lexeme) (prefix : List (Tree Net)) (s : ℕ) → n ≡ 0 → capped (behind_parts prefix s (parts_at expr n ts)) ≡ Err (record { code = code.Syntax; left = length ts })
unfolding parts_at
no_step expr n ts prefix s h = rw h refl

-- ---- the same of statements
statements_one_before : (prefix : List (StatementTree Net)) (a : StatementTree Net) (more : StatementTrees Net) → statements_before (prefix ++ a ∷ []) more ≡ statements_before prefix (SThen a more)
statements_one_before [] a more = refl
statements_one_before (x ∷ prefix) a more = ap (λ q. SThen x q) (statements_one_before prefix a more)

then_with : StatementTree Net → StatementTrees Net × List Lexeme → Read (StatementTrees Net)
then_with a more = Ok (SThen a more.0, more.1)

end_step : (statement : List Lexeme → Read (StatementTree Net)) (n : ℕ) (ts r : List Lexeme) → 0 < n → end_at ts ≡ Some r → block_at statement n ts ≡ Ok (SEnd, r)
unfolding block_at
end_step statement zero ts r h e = absurd (omega arith)
end_step statement (suc n) (LKeyword keyword.End ∷ ts) r h e = let k : ts ≡ r = cc in rw k refl
end_step statement (suc n) ts r h e = absurd cc

statement_step : (statement : List Lexeme → Read (StatementTree Net)) (n : ℕ) (ts : List Lexeme) → end_at ts ≡ None → block_at statement (suc n) ts ≡ (statement ts >>= λ a. block_at statement n a.1 >>= then_with a.0)
unfolding block_at then_with
statement_step statement n (LKeyword keyword.End ∷ ts) e = absurd cc
statement_step statement n ts e = refl

less_step : (statement : List Lexeme → Read (StatementTree Net)) (n : ℕ) (ts : List Lexeme) → 0 < n → end_at ts ≡ None → block_at statement n ts ≡ (statement ts >>= λ a. block_at statement (n - 1) a.1 >>= then_with a.0)
less_step statement zero ts h e = absurd (omega arith)
less_step statement (suc n) ts h e = let k : suc n - 1 ≡ n = omega arith in rw k (statement_step statement n ts e)

pub block_ends : (statement : List Lexeme → Read (StatementTree Net)) (n : ℕ) (ts r : List Lexeme) (prefix : List (StatementTree Net)) → 0 < n → end_at ts ≡ Some r → behind_statements prefix (block_at statement n ts) ≡ Ok (statements_before prefix SEnd, r)
block_ends statement n ts r prefix h e = rw (end_step statement n ts r h e) refl

pub statement_fails : (statement : List Lexeme → Read (StatementTree Net)) (n : ℕ) (ts : List Lexeme) (prefix : List (StatementTree Net)) (f : Fault) → 0 < n → end_at ts ≡ None → statement ts ≡ Err f → behind_statements prefix (block_at statement n ts) ≡ Err f
statement_fails statement n ts prefix f h e k = rw (less_step statement n ts h e, k) refl

behind_then : (prefix : List (StatementTree Net)) (a : StatementTree Net) (reading : Read (StatementTrees Net)) → behind_statements prefix (reading >>= then_with a) ≡ behind_statements (prefix ++ a ∷ []) reading
unfolding then_with
behind_then prefix a (Ok x) = rw (statements_one_before prefix a x.0) refl
behind_then prefix a (Err f) = refl

pub next_statement : (statement : List Lexeme → Read (StatementTree Net)) (n : ℕ) (ts r : List Lexeme) (a : StatementTree Net) (prefix : List (StatementTree Net)) → 0 < n → end_at ts ≡ None → statement ts ≡ Ok (a, r) → behind_statements prefix (block_at statement n ts) ≡ behind_statements (prefix ++ a ∷ []) (block_at statement (n - 1) r)
next_statement statement n ts r a prefix h e k = rw (less_step statement n ts h e, k) (behind_then prefix a (block_at statement (n - 1) r))

pub no_statement_step : (statement : List Lexeme → Read (StatementTree Net)) (n : ℕ) (ts : List Lexeme) (prefix : List (StatementTree Net)) → n ≡ 0 → behind_statements prefix (block_at statement n ts) ≡ Err (record { code = code.Syntax; left = length ts })
unfolding block_at
no_statement_step statement n ts prefix h = rw h refl

-- ---- the same of the lexemes of a phrase
lexeme_step : (ms : List Mark) (i : ℕ) (d : Mark) (ts : List Lexeme) → i < length ms → behind (map mark_lexeme (drop i ms)) ts ≡ (lexeme_at (mark_lexeme (get_or ms i d)) ts >>= λ r. behind (map mark_lexeme (drop (i + 1) ms)) r)
unfolding behind
lexeme_step ms i d ts h = rw (add-one, drop-cons ms i d h) refl

pub lexeme_passes : (ms : List Mark) (i : ℕ) (d : Mark) (ts r : List Lexeme) → i < length ms → lexeme_at (mark_lexeme (get_or ms i d)) ts ≡ Ok r → behind (map mark_lexeme (drop i ms)) ts ≡ behind (map mark_lexeme (drop (i + 1) ms)) r
lexeme_passes ms i d ts r h e = lexeme_step ms i d ts h ∙ rw e refl

pub lexeme_fails : (ms : List Mark) (i : ℕ) (d : Mark) (ts : List Lexeme) (f : Fault) → i < length ms → lexeme_at (mark_lexeme (get_or ms i d)) ts ≡ Err f → behind (map mark_lexeme (drop i ms)) ts ≡ Err f
lexeme_fails ms i d ts f h e = lexeme_step ms i d ts h ∙ rw e refl

pub no_lexeme : (ms : List Mark) (i : ℕ) (ts : List Lexeme) → length ms ≤ i → behind (map mark_lexeme (drop i ms)) ts ≡ Ok ts
unfolding behind
no_lexeme ms i ts h = rw (drop_all i ms h) refl
