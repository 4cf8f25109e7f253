-- What is spelled as an expression and keeps the rules is read as it.
use Rattle.std.specs.Prelude.{nat_lt, nat_le}
use Rattle.std.proofs.Common.{◌≡◌, ℕ, zero, suc, ◌+◌, ◌<◌, ◌≤◌, Bool, true, false, not, ◌&&◌, Ok, List, [], ◌∷◌, ◌++◌, length, refl, sym, ap, ◌∙◌, subst, append_assoc, length-append, arith}
use Rattle.std.proofs.lemmas.Bool.{and_parts, lt-ltb, leb-true}
use Rattle.net_core.specs.declared.tree.Net.{Net}
use Rattle.net_core.specs.declared.tree.Net.TheVariants as net
use Rattle.net_core.specs.declared.tree.Op.{Op}
use Rattle.net_core.specs.declared.tree.Op.TheVariants as op
use Rattle.net_core.specs.declared.tree.UnaryOp.{UnaryOp}
use Rattle.net_core.specs.declared.tree.UnaryOp.TheVariants as unary_op
use Rattle.net_core.specs.declared.tree.Word.{Word}
use Rattle.net_core.specs.Nets.{Tree, TConst, TRead, TBit, TPartSelect, TMemoryWord, TUnary, TBinary, TConditional, TConcatenation, Trees, TLast, TMore}
use Rattle.net_core.specs.Width.{Scope, const_width, part_select_width, memory_word_width, unary_width, op_width, conditional_width, width_of, parts_width}
use Rattle.net_core.proofs.WidthLaws.{memory_word_parts, unary_parts, op_parts, conditional_some}
use Rattle.verilog_lex.specs.declared.token.Symbol.TheVariants as symbol
use Rattle.verilog_lex.specs.Lexeme.{Lexeme, LName, LNumber, LSymbol}
use Rattle.verilog_write.specs.VerilogGrammar.Grammar.{constant, op_symbol, unary_symbol, tree_lexemes, parts_lexemes}
use Rattle.design_rules.specs.FormedSyntax.{depth, parts_depth, is_prefixed, prefixes_apart, parts_apart}
use Rattle.design_rules.specs.FormedScope.{Sorts, reads_known, parts_known}
use Rattle.verilog_expression.specs.declared.fault.Code.TheVariants as code
use Rattle.verilog_expression.specs.declared.entry.Entry.TheVariants as entry
use Rattle.verilog_expression.specs.Reads.{Read, ◌>>=◌}
use Rattle.verilog_expression.specs.Lexemes.{lexeme_at, symbol_at, op_at, begins_number}
use Rattle.verilog_expression.specs.Expressions.{Resolve, Sized, SizedParts, sized, part_select_at, select_at, memory_word_at, named_at, second_at, paren_at, more_at, parts_at, concatenation_at, unary_at, symbol_first, constant_expr_at, first_at, expr_at, whole_expr_at}
use Rattle.verilog_expression.specs.Laws.{Names, IsTreeKept, IsBehindTree}
use Rattle.verilog_expression.proofs.LexemeLaws.{kept_again, constant_again, op_again, entry_again}
use Rattle.verilog_expression.proofs.Widths.{const_some, concatenation_some, whole_most, parts_most}

-- an expression of a width, and what stands after it
abbrev pub read : Tree Net → ℕ → List Lexeme → Read Sized
read t w rest = Ok (record { tree = t; width = w }, rest)

sized_again : (t : Tree Net) (w : ℕ) (rest ends : List Lexeme) → 0 < w → sized t w rest ends ≡ read t w rest
sized_again t w rest ends h = kept_again (nat_lt 0 w) (record { tree = t; width = w }, rest) code.Width ends (lt-ltb 0 w h)

-- ---- one step, from what reads the expressions in it
behind_operator : (o : Op) (ts : List Lexeme) → IsBehindTree (LSymbol (op_symbol o) ∷ ts)
behind_operator op.Add ts = tt
behind_operator op.Sub ts = tt
behind_operator op.Mul ts = tt
behind_operator op.And ts = tt
behind_operator op.Or ts = tt
behind_operator op.Xor ts = tt
behind_operator op.ShiftLeft ts = tt
behind_operator op.ShiftRight ts = tt
behind_operator op.Equal ts = tt
behind_operator op.NotEqual ts = tt
behind_operator op.Less ts = tt
behind_operator op.LessEqual ts = tt
behind_operator op.Greater ts = tt
behind_operator op.GreaterEqual ts = tt

no_number : (name : Net → List ℕ) (t : Tree Net) (rest : List Lexeme) → begins_number (tree_lexemes name t ++ rest) ≡ false
no_number name (TConst w) rest = refl
no_number name (TRead n) rest = refl
no_number name (TBit n i) rest = refl
no_number name (TPartSelect n hi lo) rest = refl
no_number name (TMemoryWord m i) rest = refl
no_number name (TUnary p a) rest = refl
no_number name (TBinary o a b) rest = refl
no_number name (TConditional c a b) rest = refl
no_number name (TConcatenation ps) rest = refl

constant_expr_again : (w : Word) (rest : List Lexeme) → 0 < const_width w → constant_expr_at (constant w ∷ rest) ≡ read (TConst w) (const_width w) rest
unfolding constant_expr_at
constant_expr_again w rest h =
    let t = const_some w h in
    rw (constant_again w rest t.0, t.1) refl

module _ (expr : List Lexeme → Read Sized) where
  read_again : (own : List Lexeme) (n : Net) (w : ℕ) (rest : List Lexeme) → IsBehindTree rest → named_at expr own (entry.Value n w) rest ≡ read (TRead n) w rest
  unfolding named_at
  read_again own n w (LSymbol symbol.OpenBracket ∷ ts) h = absurd h
  read_again own n w ts h = refl

  bit_again : (own : List Lexeme) (n : Net) (w i : ℕ) (rest : List Lexeme) → 0 < part_select_width w i i → named_at expr own (entry.Value n w) (LSymbol symbol.OpenBracket ∷ LNumber i ∷ LSymbol symbol.CloseBracket ∷ rest) ≡ read (TBit n i) (part_select_width w i i) rest
  unfolding named_at select_at part_select_at lexeme_at
  bit_again own n w i rest h = sized_again (TBit n i) (part_select_width w i i) rest _ h

  part_select_again : (own : List Lexeme) (n : Net) (w hi lo : ℕ) (rest : List Lexeme) → 0 < part_select_width w hi lo → named_at expr own (entry.Value n w) (LSymbol symbol.OpenBracket ∷ LNumber hi ∷ LSymbol symbol.Colon ∷ LNumber lo ∷ LSymbol symbol.CloseBracket ∷ rest) ≡ read (TPartSelect n hi lo) (part_select_width w hi lo) rest
  unfolding named_at select_at part_select_at lexeme_at
  part_select_again own n w hi lo rest h = sized_again (TPartSelect n hi lo) (part_select_width w hi lo) rest _ h

  memory_word_again : (own : List Lexeme) (m index w : ℕ) (i : Tree Net) (wi : ℕ) (us rest : List Lexeme) → begins_number us ≡ false → expr us ≡ read i wi (LSymbol symbol.CloseBracket ∷ rest) → 0 < memory_word_width wi index w → named_at expr own (entry.Words m index w) (LSymbol symbol.OpenBracket ∷ us) ≡ read (TMemoryWord (net.Memory m) i) (memory_word_width wi index w) rest
  unfolding named_at memory_word_at lexeme_at
  memory_word_again own m index w i wi us rest b e h = rw (b, e) (sized_again (TMemoryWord (net.Memory m) i) (memory_word_width wi index w) rest _ h)

  second_two : (a : Sized) (o : Op) (ts : List Lexeme) → second_at expr a (LSymbol (op_symbol o) ∷ ts) ≡ (op_at (LSymbol (op_symbol o) ∷ ts) >>= λ o. expr o.1 >>= λ b. symbol_at symbol.CloseParenthesis b.1 >>= λ r. sized (TBinary o.0 a.tree b.0.tree) (op_width o.0 a.width b.0.width) r b.1)
  unfolding second_at
  second_two a op.Add ts = refl
  second_two a op.Sub ts = refl
  second_two a op.Mul ts = refl
  second_two a op.And ts = refl
  second_two a op.Or ts = refl
  second_two a op.Xor ts = refl
  second_two a op.ShiftLeft ts = refl
  second_two a op.ShiftRight ts = refl
  second_two a op.Equal ts = refl
  second_two a op.NotEqual ts = refl
  second_two a op.Less ts = refl
  second_two a op.LessEqual ts = refl
  second_two a op.Greater ts = refl
  second_two a op.GreaterEqual ts = refl

  binary_again : (o : Op) (a b : Tree Net) (wa wb : ℕ) (us vs rest : List Lexeme) → expr us ≡ read a wa (LSymbol (op_symbol o) ∷ vs) → expr vs ≡ read b wb (LSymbol symbol.CloseParenthesis ∷ rest) → 0 < op_width o wa wb → paren_at expr us ≡ read (TBinary o a b) (op_width o wa wb) rest
  unfolding paren_at lexeme_at
  binary_again o a b wa wb us vs rest e f h = rw e (second_two (record { tree = a; width = wa }) o vs ∙ rw (op_again o vs, f) (sized_again (TBinary o a b) (op_width o wa wb) rest _ h))

  conditional_again : (c a b : Tree Net) (wc wa wb : ℕ) (us vs zs rest : List Lexeme) → expr us ≡ read c wc (LSymbol symbol.Question ∷ vs) → expr vs ≡ read a wa (LSymbol symbol.Colon ∷ zs) → expr zs ≡ read b wb (LSymbol symbol.CloseParenthesis ∷ rest) → 0 < conditional_width wc wa wb → paren_at expr us ≡ read (TConditional c a b) (conditional_width wc wa wb) rest
  unfolding paren_at second_at lexeme_at
  conditional_again c a b wc wa wb us vs zs rest e f g h = rw (e, f, g) (sized_again (TConditional c a b) (conditional_width wc wa wb) rest _ h)

  concatenation_again : (ps : Trees Net) (w : ℕ) (us rest : List Lexeme) → parts_at expr (length us) us ≡ Ok (record { parts = ps; width = w }, LSymbol symbol.CloseBrace ∷ rest) → 0 < w → w ≤ 64 → concatenation_at expr us ≡ read (TConcatenation ps) w rest
  unfolding concatenation_at lexeme_at
  concatenation_again ps w us rest e h l = rw (e, whole_most w l) (sized_again (TConcatenation ps) w rest _ h)

  last_again : (n : ℕ) (a : Tree Net) (w : ℕ) (us rest : List Lexeme) → expr us ≡ read a w (LSymbol symbol.CloseBrace ∷ rest) → parts_at expr (suc n) us ≡ Ok (record { parts = TLast a; width = w }, LSymbol symbol.CloseBrace ∷ rest)
  unfolding parts_at more_at
  last_again n a w us rest e = rw e refl

  more_again : (n : ℕ) (a : Tree Net) (ps : Trees Net) (w v : ℕ) (us vs rest : List Lexeme) → expr us ≡ read a w (LSymbol symbol.Comma ∷ vs) → parts_at expr n vs ≡ Ok (record { parts = ps; width = v }, rest) → parts_at expr (suc n) us ≡ Ok (record { parts = TMore a ps; width = w + v }, rest)
  unfolding parts_at more_at
  more_again n a ps w v us vs rest e f = rw (e, f) refl

-- ---- lengths and depths
some_lexemes : (name : Net → List ℕ) (t : Tree Net) → 0 < length (tree_lexemes name t)
some_lexemes name (TConst w) = omega arith
some_lexemes name (TRead n) = omega arith
some_lexemes name (TBit n i) = omega arith
some_lexemes name (TPartSelect n hi lo) = omega arith
some_lexemes name (TMemoryWord m i) = omega arith
some_lexemes name (TUnary p a) = omega arith
some_lexemes name (TBinary o a b) = omega arith
some_lexemes name (TConditional c a b) = omega arith
some_lexemes name (TConcatenation ps) = omega arith

some_part : (name : Net → List ℕ) (ps : Trees Net) → 0 < length (parts_lexemes name ps)
some_part name (TLast a) = some_lexemes name a
some_part name (TMore a ps) = let h : 0 < length (tree_lexemes name a) = some_lexemes name a in omega (arith, length-append (tree_lexemes name a) (LSymbol symbol.Comma ∷ parts_lexemes name ps))

fewer_parts : (y : Lexeme) (a b : List Lexeme) (n : ℕ) → length (a ++ y ∷ b) ≤ suc n → length b ≤ n
fewer_parts y a b n h = omega (arith, length-append a (y ∷ b))

some_depth : (t : Tree Net) → 0 < depth t
some_depth (TConst w) = omega arith
some_depth (TRead n) = omega arith
some_depth (TBit n i) = omega arith
some_depth (TPartSelect n hi lo) = omega arith
some_depth (TMemoryWord m i) = omega arith
some_depth (TUnary p a) = omega arith
some_depth (TBinary o a b) = omega arith
some_depth (TConditional c a b) = omega arith
some_depth (TConcatenation ps) = omega arith

-- a prefix operator stands in front only where one may
abbrev IsAllowed : Bool → Tree Net → Type 0
IsAllowed any t = is_prefixed t ≡ true → any ≡ true

not_allowed : (b : Bool) → not b ≡ true → b ≡ true → false ≡ true
not_allowed true h k = h
not_allowed false h k = k

-- ---- whole expressions
module _ (names : Resolve) (name : Net → List ℕ) (s : Scope Net) (k : Sorts Net) (named : Names names name s k) where
  -- after a name that stands for a value
  value_first : (d : ℕ) (any : Bool) (n : Net) (ts : List Lexeme) → k.value n ≡ true → expr_at names (suc d) any (LName (name n) ∷ ts) ≡ named_at (expr_at names d true) (LName (name n) ∷ ts) (entry.Value n (s.net n)) ts
  unfolding expr_at first_at
  value_first d any n ts h = rw (entry_again names (name n) (entry.Value n (s.net n)) ts (named.proper n h) (named.value n h)) refl

  words_first : (d : ℕ) (any : Bool) (m : ℕ) (ts : List Lexeme) → k.memory (net.Memory m) ≡ true → expr_at names (suc d) any (LName (name (net.Memory m)) ∷ ts) ≡ named_at (expr_at names d true) (LName (name (net.Memory m)) ∷ ts) (entry.Words m (s.index (net.Memory m)) (s.memory_word (net.Memory m))) ts
  unfolding expr_at first_at
  words_first d any m ts h = rw (entry_again names (name (net.Memory m)) (entry.Words m (s.index (net.Memory m)) (s.memory_word (net.Memory m))) ts (named.memory_proper (net.Memory m) h) (named.words m h)) refl

  unary_again : (p : UnaryOp) (any : Bool) (d : ℕ) (a : Tree Net) (w : ℕ) (us rest : List Lexeme) → any ≡ true → expr_at names d false us ≡ read a w rest → expr_at names (suc d) any (LSymbol (unary_symbol p) ∷ us) ≡ read (TUnary p a) (unary_width p w) rest
  unfolding expr_at first_at symbol_first unary_at
  unary_again unary_op.Not any d a w us rest h e = rw (h, e) refl
  unary_again unary_op.ReduceOr any d a w us rest h e = rw (h, e) refl

  -- in brackets after the name of a memory
  IsCellRead : ℕ → Bool → Tree Net → List Lexeme → Net → Type 0
  IsCellRead d any i rest n = k.memory n ≡ true → 0 < memory_word_width (width_of s i) (s.index n) (s.memory_word n) → expr_at names (suc d) any (LName (name n) ∷ LSymbol symbol.OpenBracket ∷ (tree_lexemes name i ++ LSymbol symbol.CloseBracket ∷ rest)) ≡ read (TMemoryWord n i) (memory_word_width (width_of s i) (s.index n) (s.memory_word n)) rest

  memory_again : (d : ℕ) (any : Bool) (m : ℕ) (i : Tree Net) (rest : List Lexeme) → expr_at names d true (tree_lexemes name i ++ LSymbol symbol.CloseBracket ∷ rest) ≡ read i (width_of s i) (LSymbol symbol.CloseBracket ∷ rest) → IsCellRead d any i rest (net.Memory m)
  unfolding IsCellRead
  memory_again d any m i rest e known some =
      let us = tree_lexemes name i ++ LSymbol symbol.CloseBracket ∷ rest in
      words_first d any m (LSymbol symbol.OpenBracket ∷ us) known
      ∙ memory_word_again (expr_at names d true) _ m (s.index (net.Memory m)) (s.memory_word (net.Memory m)) i (width_of s i) us rest (no_number name i (LSymbol symbol.CloseBracket ∷ rest)) e some

  words_again : (d : ℕ) (any : Bool) (n : Net) (i : Tree Net) (rest : List Lexeme) → expr_at names d true (tree_lexemes name i ++ LSymbol symbol.CloseBracket ∷ rest) ≡ read i (width_of s i) (LSymbol symbol.CloseBracket ∷ rest) → k.memory n ≡ true → 0 < memory_word_width (width_of s i) (s.index n) (s.memory_word n) → expr_at names (suc d) any (LName (name n) ∷ LSymbol symbol.OpenBracket ∷ (tree_lexemes name i ++ LSymbol symbol.CloseBracket ∷ rest)) ≡ read (TMemoryWord n i) (memory_word_width (width_of s i) (s.index n) (s.memory_word n)) rest
  unfolding IsCellRead
  words_again d any n i rest e known some =
      let m = named.memory n known in
      subst (IsCellRead d any i rest) (sym m.1) (memory_again d any m.0 i rest e) known some

  mutual
    unfolding expr_at first_at symbol_first

    tree_again : (t : Tree Net) (d : ℕ) (any : Bool) (rest : List Lexeme) → depth t ≤ d → prefixes_apart t ≡ true → IsAllowed any t → 0 < width_of s t → reads_known k t ≡ true → IsBehindTree rest → expr_at names d any (tree_lexemes name t ++ rest) ≡ read t (width_of s t) rest
    tree_again t zero any rest h p f w r b = absurd (omega (arith, some_depth t))
    tree_again (TConst c) (suc d) any rest h p f w r b = constant_expr_again c rest w
    tree_again (TRead n) (suc d) any rest h p f w r b = value_first d any n rest r ∙ read_again (expr_at names d true) _ n (s.net n) rest b
    tree_again (TBit n i) (suc d) any rest h p f w r b = value_first d any n _ r ∙ bit_again (expr_at names d true) _ n (s.net n) i rest w
    tree_again (TPartSelect n hi lo) (suc d) any rest h p f w r b = value_first d any n _ r ∙ part_select_again (expr_at names d true) _ n (s.net n) hi lo rest w
    tree_again (TMemoryWord m i) (suc d) any rest h p f w r b =
        let q = and_parts (k.memory m) (reads_known k i) r in
        let o = (memory_word_parts (width_of s i) (s.index m) (s.memory_word m) w).some in
        ap (λ ts. expr_at names (suc d) any (LName (name m) ∷ LSymbol symbol.OpenBracket ∷ ts)) (append_assoc (tree_lexemes name i) (LSymbol symbol.CloseBracket ∷ []) rest)
        ∙ words_again d any m i rest (tree_again i d true (LSymbol symbol.CloseBracket ∷ rest) (omega arith) p (λ u. refl) o q.1 tt) q.0 w
    tree_again (TUnary o a) (suc d) any rest h p f w r b =
        let q = and_parts (not (is_prefixed a)) (prefixes_apart a) p in
        unary_again o any d a (width_of s a) (tree_lexemes name a ++ rest) rest (f refl) (tree_again a d false rest (omega arith) q.1 (not_allowed (is_prefixed a) q.0) (unary_parts o (width_of s a) w) r b)
    tree_again (TBinary o a b) (suc d) any rest h p f w r e =
        let q = and_parts (prefixes_apart a) (prefixes_apart b) p in
        let g = and_parts (reads_known k a) (reads_known k b) r in
        let i = op_parts o (width_of s a) (width_of s b) w in
        let last = LSymbol symbol.CloseParenthesis ∷ [] in
        let behind = LSymbol symbol.CloseParenthesis ∷ rest in
        ap (λ ts. paren_at (expr_at names d true) ts) (append_assoc (tree_lexemes name a) (LSymbol (op_symbol o) ∷ (tree_lexemes name b ++ last)) rest ∙ ap (λ ts. tree_lexemes name a ++ LSymbol (op_symbol o) ∷ ts) (append_assoc (tree_lexemes name b) last rest))
        ∙ binary_again (expr_at names d true) o a b (width_of s a) (width_of s b) _ (tree_lexemes name b ++ behind) rest
        (tree_again a d true (LSymbol (op_symbol o) ∷ (tree_lexemes name b ++ behind)) (omega arith) q.0 (λ u. refl) i.left g.0 (behind_operator o _))
        (tree_again b d true behind (omega arith) q.1 (λ u. refl) i.right g.1 tt) w
    tree_again (TConditional c a b) (suc d) any rest h p f w r e =
        let q = and_parts (prefixes_apart c) (prefixes_apart a && prefixes_apart b) p in
        let v = and_parts (prefixes_apart a) (prefixes_apart b) q.1 in
        let g = and_parts (reads_known k c) (reads_known k a && reads_known k b) r in
        let l = and_parts (reads_known k a) (reads_known k b) g.1 in
        let i = conditional_some (width_of s c) (width_of s a) (width_of s b) w in
        let last = LSymbol symbol.CloseParenthesis ∷ [] in
        let behind = LSymbol symbol.CloseParenthesis ∷ rest in
        let second = tree_lexemes name b ++ behind in
        let first = tree_lexemes name a ++ LSymbol symbol.Colon ∷ second in
        ap (λ ts. paren_at (expr_at names d true) ts) (append_assoc (tree_lexemes name c) (LSymbol symbol.Question ∷ (tree_lexemes name a ++ LSymbol symbol.Colon ∷ (tree_lexemes name b ++ last))) rest
        ∙ ap (λ ts. tree_lexemes name c ++ LSymbol symbol.Question ∷ ts) (append_assoc (tree_lexemes name a) (LSymbol symbol.Colon ∷ (tree_lexemes name b ++ last)) rest ∙ ap (λ ts. tree_lexemes name a ++ LSymbol symbol.Colon ∷ ts) (append_assoc (tree_lexemes name b) last rest)))
        ∙ conditional_again (expr_at names d true) c a b (width_of s c) (width_of s a) (width_of s b) _ first second rest
        (tree_again c d true (LSymbol symbol.Question ∷ first) (omega arith) q.0 (λ u. refl) i.0 g.0 tt)
        (tree_again a d true (LSymbol symbol.Colon ∷ second) (omega arith) v.0 (λ u. refl) i.1 l.0 tt)
        (tree_again b d true behind (omega arith) v.1 (λ u. refl) i.2 l.1 tt) w
    tree_again (TConcatenation ps) (suc d) any rest h p f w r b =
        let behind = LSymbol symbol.CloseBrace ∷ rest in
        ap (λ ts. concatenation_at (expr_at names d true) ts) (append_assoc (parts_lexemes name ps) (LSymbol symbol.CloseBrace ∷ []) rest)
        ∙ concatenation_again (expr_at names d true) ps (parts_width s ps) (parts_lexemes name ps ++ behind) rest
        (parts_again ps d (length (parts_lexemes name ps ++ behind)) rest (omega arith) p w r (omega (arith, length-append (parts_lexemes name ps) behind))) w (parts_most s k named.most named.most_memory_word ps r)

    parts_again : (ps : Trees Net) (d n : ℕ) (rest : List Lexeme) → parts_depth ps ≤ d → parts_apart ps ≡ true → 0 < parts_width s ps → parts_known k ps ≡ true → length (parts_lexemes name ps) ≤ n → parts_at (expr_at names d true) n (parts_lexemes name ps ++ LSymbol symbol.CloseBrace ∷ rest) ≡ Ok (record { parts = ps; width = parts_width s ps }, LSymbol symbol.CloseBrace ∷ rest)
    parts_again ps d zero rest h p w r m = absurd (omega (arith, some_part name ps))
    parts_again (TLast a) d (suc n) rest h p w r m = last_again (expr_at names d true) n a (width_of s a) _ rest (tree_again a d true (LSymbol symbol.CloseBrace ∷ rest) h p (λ u. refl) w r tt)
    parts_again (TMore a ps) d (suc n) rest h p w r m =
        let q = and_parts (prefixes_apart a) (parts_apart ps) p in
        let g = and_parts (reads_known k a) (parts_known k ps) r in
        let i = concatenation_some (width_of s a) (parts_width s ps) w in
        let behind = LSymbol symbol.CloseBrace ∷ rest in
        let others = parts_lexemes name ps ++ behind in
        let fewer = fewer_parts (LSymbol symbol.Comma) (tree_lexemes name a) (parts_lexemes name ps) n m in
        ap (λ ts. parts_at (expr_at names d true) (suc n) ts) (append_assoc (tree_lexemes name a) (LSymbol symbol.Comma ∷ parts_lexemes name ps) behind)
        ∙ more_again (expr_at names d true) n a ps (width_of s a) (parts_width s ps) _ others behind
        (tree_again a d true (LSymbol symbol.Comma ∷ others) (omega arith) q.0 (λ u. refl) i.0 g.0 tt)
        (parts_again ps d n rest (omega arith) q.1 i.1 g.1 fewer)
        ∙ ap (λ (v : ℕ). let x : Read SizedParts = Ok (record { parts = TMore a ps; width = v }, behind) in x) (sym i.2)

  tree_read : (t : Tree Net) (rest : List Lexeme) → IsTreeKept s k t → IsBehindTree rest → expr_at names 64 true (tree_lexemes name t ++ rest) ≡ read t (width_of s t) rest
  tree_read t rest kept b =
      let p = and_parts (nat_le (depth t) 64) (prefixes_apart t) kept.spelled in
      tree_again t 64 true rest (leb-true (depth t) 64 p.0) p.1 (λ u. refl) kept.some kept.known b

  -- what is spelled as an expression and keeps the rules is read as it
  pub whole_again : (t : Tree Net) (rest : List Lexeme) → IsTreeKept s k t → IsBehindTree rest → whole_expr_at names (tree_lexemes name t ++ rest) ≡ Ok (record { tree = t; width = width_of s t }, rest)
  unfolding whole_expr_at
  whole_again t rest kept b = tree_read t rest kept b
