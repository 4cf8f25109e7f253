-- Names of the subset are ASCII.
use Rattle.std.proofs.Common.{◌≡◌, sym, ap, refl, subst, arith, ℕ, zero, suc, ◌<◌, Bool, true, false, ◌&&◌, ◌||◌, List, [], ◌∷◌, codes, Ok}
use Rattle.std.specs.Cmp.Lexicographic.{bytes_decides}
use Rattle.std.specs.List.{list_all}
use Rattle.std.specs.Str.{IsAscii, IsUtf8, bytes_eq}
use Rattle.std.proofs.lemmas.Str.{IsUtf8-from_ascii}
use Rattle.verilog_lex.specs.Lexeme.{Lexeme, LName, LKeyword, LNumber, LSized, LOutOfRange, LSymbol}
use Rattle.verilog_expression.specs.declared.fault.Code.TheVariants as code
use Rattle.verilog_expression.specs.Lexemes.{name_at}
use Rattle.verilog_expression.specs.Reads.{Read, kept_if}
use Rattle.design_rules.specs.FormedSyntax.{begins_name, continues_name, is_identifier, is_unreserved, is_name}

small : (c : ℕ) → continues_name c ≡ true → c < 128
small c h = grind arith

all_small : (bs : List ℕ) → list_all continues_name bs ≡ true → IsAscii bs
all_small [] h i = omega arith
all_small (b ∷ bs) h zero = small b (first (continues_name b) (list_all continues_name bs) h)
  where
    first : (x y : Bool) → (x && y) ≡ true → x ≡ true
    first true y e = refl
    first false y e = absurd cc
all_small (b ∷ bs) h (suc i) = all_small bs (second (continues_name b) (list_all continues_name bs) h) i
  where
    second : (x y : Bool) → (x && y) ≡ true → y ≡ true
    second true y e = e
    second false y e = absurd cc

by_letters : (bs : List ℕ) → is_identifier bs ≡ true → IsAscii bs
by_letters [] h = absurd cc
by_letters (b ∷ bs) h = all_small (b ∷ bs) (letters (begins_name b) (continues_name b) (list_all continues_name bs) (λ e. grind (arith, e)) h)
  where
    letters : (x y z : Bool) → (x ≡ true → y ≡ true) → (x && z) ≡ true → (y && z) ≡ true
    letters true y z f e = rw (f refl) e
    letters false y z f e = absurd cc

by_word : (bs word : List ℕ) → bytes_eq bs word ≡ true → IsAscii word → IsAscii bs
by_word bs word e h = subst IsAscii (sym ((bytes_decides bs word).0 e)) h

is_small : (bs : List ℕ) → is_name bs ≡ true → IsAscii bs
is_small bs h = by_clk (bytes_eq bs (codes "clk")) refl h
  where
    by_rest : (b : Bool) → is_identifier bs ≡ b → (b && is_unreserved bs) ≡ true → IsAscii bs
    by_rest true e k = by_letters bs e
    by_rest false e k = absurd cc

    by_ehdl : (b : Bool) → bytes_eq bs (codes "ehdl") ≡ b → (b || (is_identifier bs && is_unreserved bs)) ≡ true → IsAscii bs
    by_ehdl true e k = by_word bs (codes "ehdl") e (all_small (codes "ehdl") refl)
    by_ehdl false e k = by_rest (is_identifier bs) refl k

    by_clk : (a : Bool) → bytes_eq bs (codes "clk") ≡ a → ((a || bytes_eq bs (codes "ehdl")) || (is_identifier bs && is_unreserved bs)) ≡ true → IsAscii bs
    by_clk true e k = by_word bs (codes "clk") e (all_small (codes "clk") refl)
    by_clk false e k = by_ehdl (bytes_eq bs (codes "ehdl")) refl k

-- so they are text
pub is_text : (bs : List ℕ) → is_name bs ≡ true → IsUtf8 bs
is_text bs h = IsUtf8-from_ascii bs (is_small bs h)

same_ok : (a b : List ℕ × List Lexeme) → let x : Read (List ℕ) = Ok a in let y : Read (List ℕ) = Ok b in x ≡ y → a ≡ b
same_ok a b e = cc

-- what is read as a name is one
pub read_name : (ts r : List Lexeme) (s : List ℕ) → name_at ts ≡ Ok (s, r) → is_name s ≡ true
read_name [] r s e = absurd cc
read_name (LName w ∷ ts) r s e = by_test (is_name w) refl e
  where
    by_test : (b : Bool) → is_name w ≡ b → kept_if {A = List ℕ × List Lexeme} b (w, ts) code.Syntax (LName w ∷ ts) ≡ Ok (s, r) → is_name s ≡ true
    by_test true k f = subst (λ (x : List ℕ). is_name x ≡ true) (ap (λ (p : List ℕ × List Lexeme). p.0) (same_ok (w, ts) (s, r) f)) k
    by_test false k f = absurd cc
read_name (LKeyword k ∷ ts) r s e = absurd cc
read_name (LNumber n ∷ ts) r s e = absurd cc
read_name (LSized w v ∷ ts) r s e = absurd cc
read_name (LOutOfRange ∷ ts) r s e = absurd cc
read_name (LSymbol k ∷ ts) r s e = absurd cc
