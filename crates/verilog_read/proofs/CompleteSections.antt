-- Items of a section are read where they are spelled, one after another, up to what follows the section.
use Rattle.std.proofs.Common.{◌≡◌, ℕ, zero, suc, ◌+◌, ◌<◌, ◌≤◌, Some, Ok, List, [], ◌∷◌, ◌++◌, length, drop, get_or, refl, sym, ap, ◌∙◌, subst, append_assoc, length-append, arith}
use Rattle.std.proofs.lemmas.Bool.{le-leb}
use Rattle.net_core.specs.Nets.{Netlist}
use Rattle.verilog_lex.specs.declared.token.Keyword.TheVariants as keyword
use Rattle.verilog_lex.specs.Lexeme.{Lexeme, LKeyword}
use Rattle.verilog_read.specs.declared.section.Section.{Section}
use Rattle.verilog_read.specs.Items.{item_at, rank, section_of, item_in, items_at}
use Rattle.verilog_read.proofs.CompletePrefixes.{left_in}

-- ---- one item
item_again : (now s : Section) (a b : Netlist) (ts us : List Lexeme) → section_of ts ≡ Some s → rank now ≤ rank s → item_at a ts ≡ Ok (b, us) → item_in now a ts ≡ Ok ((s, b), us)
unfolding item_in
item_again now s a b ts us h l e = rw (h, le-leb (rank now) (rank s) l, e) refl

-- no section begins with `endmodule`
items_more : (n : ℕ) (now s : Section) (a b : Netlist) (ts us : List Lexeme) → section_of ts ≡ Some s → item_in now a ts ≡ Ok ((s, b), us) → items_at (suc n) now a ts ≡ items_at n s b us
unfolding items_at
items_more n now s a b (LKeyword keyword.Endmodule ∷ ts) us h e = absurd cc
items_more n now s a b ts us h e = rw e refl

-- ---- from a section on
-- After an item of this section or of an earlier one the design is read to its end.
abbrev pub Ends : ℕ → Netlist → List Lexeme → Netlist → Type 0
Ends most a ts b = (n : ℕ) (now : Section) → length ts ≤ n → rank now ≤ most → items_at n now a ts ≡ Ok (b, [])

last_read : (n : ℕ) (now : Section) (a : Netlist) → length (LKeyword keyword.Endmodule ∷ []) ≤ n → items_at n now a (LKeyword keyword.Endmodule ∷ []) ≡ Ok (a, [])
unfolding items_at
last_read zero now a l = absurd (omega arith)
last_read (suc n) now a l = refl

pub last_again : (most : ℕ) (a : Netlist) → Ends most a (LKeyword keyword.Endmodule ∷ []) a
last_again most a n now l r = last_read n now a l

-- the lexemes of items, by their number
abbrev pub all_of : {X : Type 0} → (ℕ → X → List Lexeme) → ℕ → List X → List Lexeme
all_of one k [] = []
all_of one k (x ∷ xs) = one k x ++ all_of one (suc k) xs

-- A section is read item by item, where each item is: `IsBehind` says what may follow one.
module _ (X : Type 0) (s : Section) (prefix : ℕ → Netlist) (one : ℕ → X → List Lexeme) (xs : List X) (IsBehind : List Lexeme → Type 0) (whole : Netlist)
    (some : (k : ℕ) (x : X) → 0 < length (one k x))
    (starts : (k : ℕ) (x : X) (us : List Lexeme) → (section_of (one k x ++ us) ≡ Some s) × IsBehind (one k x ++ us))
    (again : (k : ℕ) (x : X) (us : List Lexeme) → k < length xs → x ≡ get_or xs k x → IsBehind us → item_at (prefix k) (one k x ++ us) ≡ Ok (prefix (suc k), us))
    (ts : List Lexeme) (next : IsBehind ts) (ends : Ends (rank s) (prefix (length xs)) ts whole) where
  follows : (k : ℕ) (rest : List X) → IsBehind (all_of one k rest ++ ts)
  follows k [] = next
  follows k (x ∷ rest) = subst IsBehind (sym (append_assoc (one k x) (all_of one (suc k) rest) ts)) (starts k x (all_of one (suc k) rest ++ ts)).1

  items_from : (rest : List X) (k : ℕ) → drop k xs ≡ rest → k + length rest ≡ length xs → (n : ℕ) (now : Section) → length (all_of one k rest ++ ts) ≤ n → rank now ≤ rank s → items_at n now (prefix k) (all_of one k rest ++ ts) ≡ Ok (whole, [])
  items_from [] k e m n now l r = let f : k ≡ length xs = omega (arith, m) in ap (λ j. items_at n now (prefix j) ts) f ∙ ends n now l r
  items_from (x ∷ rest) k e m zero now l r = absurd (omega (arith, some k x, length-append (one k x ++ all_of one (suc k) rest) ts, length-append (one k x) (all_of one (suc k) rest)))
  items_from (x ∷ rest) k e m (suc n) now l r =
      let f = left_in xs k x rest e in
      let us = all_of one (suc k) rest ++ ts in
      let fewer : length us ≤ n = omega (arith, some k x, length-append (one k x ++ all_of one (suc k) rest) ts, length-append (one k x) (all_of one (suc k) rest), length-append (all_of one (suc k) rest) ts) in
      let b = (starts k x us).0 in
      ap (λ vs. items_at (suc n) now (prefix k) vs) (append_assoc (one k x) (all_of one (suc k) rest) ts)
      ∙ items_more n now s (prefix k) (prefix (suc k)) (one k x ++ us) us b (item_again now s (prefix k) (prefix (suc k)) (one k x ++ us) us b r (again k x us f.0 f.1 (follows (suc k) rest)))
      ∙ items_from rest (suc k) f.2 (omega arith) n s fewer (omega arith)

  pub section_again : Ends (rank s) (prefix 0) (all_of one 0 xs ++ ts) whole
  section_again n now l r = items_from xs 0 refl (omega arith) n now l r

-- an item of an earlier section may stand before
pub ends_earlier : (most least : ℕ) (a : Netlist) (ts : List Lexeme) (b : Netlist) → least ≤ most → Ends most a ts b → Ends least a ts b
ends_earlier most least a ts b l h n now m r = h n now m (omega arith)
