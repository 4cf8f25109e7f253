-- Each declaration is read where it is spelled, after a design so far.
use Rattle.std.proofs.Common.{◌≡◌, ℕ, ◌-◌, ◌^◌, ◌<◌, ◌≤◌, Bool, true, false, Some, Ok, List, [], ◌∷◌, ◌++◌, refl, append_assoc}
use Rattle.std.specs.Prelude.{map, if◌then◌else◌}
use Rattle.std.specs.Str.{bytes_eq}
use Rattle.std.specs.List.{list_any, list_all}
use Rattle.std.proofs.lemmas.Bool.{and_parts, eq-eqb}
use Rattle.net_core.specs.declared.tree.Word.{Word}
use Rattle.net_core.specs.declared.design.Port.{Port}
use Rattle.net_core.specs.declared.design.Declared.TheVariants as declared
use Rattle.net_core.specs.Nets.{Netlist}
use Rattle.net_core.specs.Width.{word_fits}
use Rattle.verilog_lex.specs.declared.token.Keyword.TheVariants as keyword
use Rattle.verilog_lex.specs.declared.token.Symbol.TheVariants as symbol
use Rattle.verilog_lex.specs.Lexeme.{Lexeme, LName, LKeyword, LNumber, LSymbol}
use Rattle.verilog_expression.specs.verilog_write.VerilogGrammar.Grammar.{constant, range_lexemes, port_lexemes, declared_lexemes}
use Rattle.design_rules.specs.FormedSyntax.{is_name}
use Rattle.verilog_expression.specs.declared.entry.Entry.TheVariants as entry
use Rattle.verilog_expression.proofs.LexemeLaws.{is_word, same_again, lexeme_again, symbol_again, behind_again, constant_again}
use Rattle.verilog_read.specs.Entries.{entry_in}
use Rattle.verilog_read.specs.Header.{with_port, direction_at, port_at}
use Rattle.verilog_read.specs.Declarations.{with_declared, integer_item_at, register_at, Part, This, Same, Bound, part_at, all_parts_at, loop_parts, integer_at, fill_at, memory_at, stored_at, reg_item_at}
use Rattle.verilog_read.specs.Items.{item_at}
use Rattle.verilog_read.proofs.CompleteWords.{range_again, fresh_again, ends_again, index_again}

-- a name of the grammar that nothing so far has
pub record IsNew (a : Netlist) (s : List ℕ) : Type 0 where
  pub proper : is_name s ≡ true
  pub new : list_any (bytes_eq s) a.names ≡ false

-- ---- ports
direction_again : (o : Bool) (ts : List Lexeme) → direction_at (LKeyword (if o then keyword.Output else keyword.Input) ∷ ts) ≡ Ok (o, ts)
direction_again true ts = refl
direction_again false ts = refl

pub port_again : (a : Netlist) (s : List ℕ) (p : Port) (ts : List Lexeme) → IsNew a s → 0 < p.width → p.width ≤ 64 → port_at a (port_lexemes s p ++ ts) ≡ Ok (with_port s p a, ts)
unfolding port_at
port_again a s p ts h l m =
    let wire = LKeyword keyword.Wire in
    rw (direction_again p.output (wire ∷ ((range_lexemes p.width ++ LName s ∷ []) ++ ts)), lexeme_again wire ((range_lexemes p.width ++ LName s ∷ []) ++ ts) refl, append_assoc (range_lexemes p.width) (LName s ∷ []) ts, range_again p.width s ts l m, fresh_again a s ts h.proper h.new) refl

-- ---- integers and registers
pub integer_again : (a : Netlist) (integer : ℕ → List ℕ) (s : List ℕ) (ts : List Lexeme) → IsNew a s → item_at a (declared_lexemes integer s declared.Integer ++ ts) ≡ Ok (with_declared s declared.Integer a, ts)
unfolding item_at integer_item_at
integer_again a integer s ts h = rw (fresh_again a s (LSymbol symbol.Semicolon ∷ ts) h.proper h.new, symbol_again symbol.Semicolon ts) refl

pub register_again : (a : Netlist) (integer : ℕ → List ℕ) (s : List ℕ) (w : Word) (ts : List Lexeme) → IsNew a s → 0 < w.width → w.width ≤ 64 → word_fits w ≡ true → item_at a (declared_lexemes integer s (declared.Register w) ++ ts) ≡ Ok (with_declared s (declared.Register w) a, ts)
unfolding item_at reg_item_at stored_at register_at
register_again a integer s w ts h l m f =
    let us = LSymbol symbol.Assign ∷ constant w ∷ LSymbol symbol.Semicolon ∷ [] in
    rw (append_assoc (range_lexemes w.width) (LName s ∷ us) ts, range_again w.width s (us ++ ts) l m, fresh_again a s (us ++ ts) h.proper h.new, constant_again w (LSymbol symbol.Semicolon ∷ ts) f, ends_again w.width w.width ts refl) refl

-- ---- the loop that fills a memory
abbrev part_lexeme : Part → Lexeme
part_lexeme (This l) = l
part_lexeme (Same s) = LName s
part_lexeme (Bound n) = LNumber n

abbrev part_holds : Part → Bool
part_holds (This l) = is_word l
part_holds (Same s) = is_name s
part_holds (Bound n) = true

part_again : (p : Part) (ts : List Lexeme) → part_holds p ≡ true → part_at p (part_lexeme p ∷ ts) ≡ Ok ts
unfolding part_at
part_again (This l) ts h = lexeme_again l ts h
part_again (Same s) ts h = rw (h, same_again (LName s) refl) refl
part_again (Bound n) ts h = rw (eq-eqb n n refl) refl

parts_again : (ps : List Part) (ts : List Lexeme) → list_all part_holds ps ≡ true → all_parts_at ps (map part_lexeme ps ++ ts) ≡ Ok ts
unfolding all_parts_at
parts_again [] ts h = refl
parts_again (p ∷ ps) ts h =
    let t = and_parts (part_holds p) (list_all part_holds ps) h in
    rw (part_again p (map part_lexeme ps ++ ts) t.0) (parts_again ps ts t.1)

loop_again : (s i : List ℕ) (words : ℕ) (ts : List Lexeme) → is_name s ≡ true → is_name i ≡ true → all_parts_at (loop_parts s i words) (map part_lexeme (loop_parts s i words) ++ ts) ≡ Ok ts
loop_again s i words ts h j = parts_again (loop_parts s i words) ts (rw (h, j) refl)

number_again : (a : Netlist) (i : List ℕ) (k : ℕ) (ts : List Lexeme) → is_name i ≡ true → entry_in a i ≡ Some (entry.Integer k) → integer_at a (LName i ∷ ts) ≡ Ok ((i, k), ts)
unfolding integer_at
number_again a i k ts h e = rw (h, e) refl

-- the integer of a loop is one that stands before
pub record IsInteger (a : Netlist) (i : List ℕ) (k : ℕ) : Type 0 where
  pub proper : is_name i ≡ true
  pub stands : entry_in a i ≡ Some (entry.Integer k)

fill_again : (a : Netlist) (s i : List ℕ) (index k : ℕ) (w : Word) (ts : List Lexeme) → is_name s ≡ true → IsInteger a i k → word_fits w ≡ true
    → fill_at a w.width s index (LSymbol symbol.Semicolon ∷ LKeyword keyword.Initial ∷ LKeyword keyword.For ∷ LSymbol symbol.OpenParenthesis ∷ LName i ∷ (map part_lexeme (loop_parts s i (2 ^ index)) ++ constant w ∷ LSymbol symbol.Semicolon ∷ ts)) ≡ Ok (with_declared s (declared.Memory index w k) a, ts)
unfolding fill_at
fill_again a s i index k w ts h j f =
    let last = constant w ∷ LSymbol symbol.Semicolon ∷ ts in
    let loop = map part_lexeme (loop_parts s i (2 ^ index)) ++ last in
    rw (
      behind_again (LSymbol symbol.Semicolon ∷ LKeyword keyword.Initial ∷ LKeyword keyword.For ∷ LSymbol symbol.OpenParenthesis ∷ []) (LName i ∷ loop) refl,
      number_again a i k loop j.proper j.stands,
      loop_again s i (2 ^ index) last h j.proper,
      constant_again w (LSymbol symbol.Semicolon ∷ ts) f,
      ends_again w.width w.width ts refl,
    ) refl

pub memory_again : (a : Netlist) (integer : ℕ → List ℕ) (s : List ℕ) (index k : ℕ) (w : Word) (ts : List Lexeme) → IsNew a s → 0 < w.width → w.width ≤ 64 → word_fits w ≡ true → 1 ≤ index → index ≤ 16 → IsInteger a (integer k) k
    → item_at a (declared_lexemes integer s (declared.Memory index w k) ++ ts) ≡ Ok (with_declared s (declared.Memory index w k) a, ts)
unfolding item_at reg_item_at stored_at memory_at
memory_again a integer s index k w ts h l m f p q j =
    let us = LSymbol symbol.Semicolon ∷ LKeyword keyword.Initial ∷ LKeyword keyword.For ∷ LSymbol symbol.OpenParenthesis ∷ LName (integer k) ∷ (map part_lexeme (loop_parts s (integer k) (2 ^ index)) ++ constant w ∷ LSymbol symbol.Semicolon ∷ []) in
    let vs = LNumber (2 ^ index - 1) ∷ LSymbol symbol.CloseBracket ∷ us in
    let zs = LSymbol symbol.OpenBracket ∷ LNumber 0 ∷ LSymbol symbol.Colon ∷ vs in
    rw (
      append_assoc (range_lexemes w.width) (LName s ∷ zs) ts,
      range_again w.width s (zs ++ ts) l m,
      fresh_again a s (zs ++ ts) h.proper h.new,
      behind_again (LNumber 0 ∷ LSymbol symbol.Colon ∷ []) (vs ++ ts) refl,
      symbol_again symbol.CloseBracket (us ++ ts),
      index_again index p q,
    )
    (fill_again a s (integer k) index k w ts h.proper j f)
