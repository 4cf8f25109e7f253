-- Tokens and separators that lead from one place of a text to another.
use Rattle.std.proofs.Common.{◌≡◌, ℕ, zero, suc, ◌+◌, ◌-◌, ◌<◌, ◌≤◌, List, [], ◌∷◌, ◌++◌, length, drop, Ok, Err, refl, sym, ap, subst, ◌∙◌, arith, append_assoc, append-nil, length-drop, drop-drop}
use Rattle.std.proofs.Math.Seq.{drop-length}
use Rattle.verilog_lex.specs.Element.{element_in, IsWithin}
use Rattle.verilog_lex.specs.Tokens.{Leads, IsStuck, AreSpans, Read, token, with_prefix, lex, lex_element, tokens_in}
use Rattle.verilog_lex.specs.Tokens.Leads.{here, separator, next}
use Rattle.verilog_lex.specs.declared.element.LexicalElement.{LexicalElement}
use Rattle.verilog_lex.specs.declared.element.LexicalElement.TheVariants as element
use Rattle.verilog_lex.specs.declared.token.TokenKind.{TokenKind}
use Rattle.verilog_lex.specs.declared.token.Token.{Token}
use Rattle.verilog_lex.proofs.Elements.{element_within}

-- a separator more, and a token more, at the end
pub Leads-separator : (text : List ℕ) (at : ℕ) (ts : List Token) (to n : ℕ) → Leads text at ts to → element_in (drop to text) ≡ element.Separator n → Leads text at ts (to + n)
Leads-separator text at ts to n (here p) e = separator p n [] (p + n) e (here (p + n))
Leads-separator text at ts to n (separator p m us q f h) e = separator p m us (q + n) f (Leads-separator text (p + m) us q n h e)
Leads-separator text at ts to n (next p m k us q f h) e = next p m k us (q + n) f (Leads-separator text (p + m) us q n h e)

pub Leads-token : (text : List ℕ) (at : ℕ) (ts : List Token) (to n : ℕ) (k : TokenKind) → Leads text at ts to → element_in (drop to text) ≡ element.Token k n → Leads text at (ts ++ token k to (to + n) ∷ []) (to + n)
Leads-token text at ts to n k (here p) e = next p n k [] (p + n) e (here (p + n))
Leads-token text at ts to n k (separator p m us q f h) e = separator p m (us ++ token k q (q + n) ∷ []) (q + n) f (Leads-token text (p + m) us q n k h e)
Leads-token text at ts to n k (next p m j us q f h) e = next p m j (us ++ token k q (q + n) ∷ []) (q + n) f (Leads-token text (p + m) us q n k h e)

-- a place that begins with an element is before the end, and the element ends at most there
pub separator_ends : (text : List ℕ) (at n : ℕ) → element_in (drop at text) ≡ element.Separator n → (0 < n) × (at + n ≤ length text)
separator_ends text at n e =
    let P : LexicalElement → Type 0 = λ p. IsWithin p (length (drop at text)) in
    let w : (0 < n) × (n ≤ length (drop at text)) = subst P e (element_within (drop at text)) in
    let l : length (drop at text) ≡ length text - at = length-drop at text in (w.0, omega arith)

pub token_ends : (text : List ℕ) (at n : ℕ) (k : TokenKind) → element_in (drop at text) ≡ element.Token k n → (0 < n) × (at + n ≤ length text)
token_ends text at n k e =
    let P : LexicalElement → Type 0 = λ p. IsWithin p (length (drop at text)) in
    let w : (0 < n) × (n ≤ length (drop at text)) = subst P e (element_within (drop at text)) in
    let l : length (drop at text) ≡ length text - at = length-drop at text in (w.0, omega arith)

sooner : (p q : ℕ) (ts : List Token) (to : ℕ) → p ≤ q → AreSpans q ts to → AreSpans p ts to
sooner p q [] to h k = omega arith
sooner p q (t ∷ ts) to h k = (omega arith, k.1, k.2)

-- the tokens lie between the places, in order
pub AreSpans-leads : (text : List ℕ) (at : ℕ) (ts : List Token) (to : ℕ) → Leads text at ts to → AreSpans at ts to
AreSpans-leads text at ts to (here p) = omega arith
AreSpans-leads text at ts to (separator p n us q e h) = sooner p (p + n) us q (omega arith) (AreSpans-leads text (p + n) us q h)
AreSpans-leads text at ts to (next p n k us q e h) =
    let w = token_ends text p n k e in (omega arith, omega arith, AreSpans-leads text (p + n) us q h)

lex_separator : (most at n : ℕ) (text : List ℕ) → element_in text ≡ element.Separator n → lex (suc most) at text ≡ lex most (at + n) (drop n text)
lex_separator most at n [] e = absurd cc
lex_separator most at n (c ∷ text) e = ap (lex_element (lex most) at (c ∷ text)) e

lex_token : (most at n : ℕ) (k : TokenKind) (text : List ℕ) → element_in text ≡ element.Token k n → lex (suc most) at text ≡ with_prefix (token k at (at + n) ∷ []) (lex most (at + n) (drop n text))
lex_token most at n k [] e = absurd cc
lex_token most at n k (c ∷ text) e = ap (lex_element (lex most) at (c ∷ text)) e

lex_nothing : (most at : ℕ) (text : List ℕ) → 0 < length text → element_in text ≡ element.Nothing → lex (suc most) at text ≡ Err at
lex_nothing most at [] h e = absurd (omega arith)
lex_nothing most at (c ∷ text) h e = ap (lex_element (lex most) at (c ∷ text)) e

lex_end : (most at : ℕ) → lex most at [] ≡ Ok []
lex_end zero at = refl
lex_end (suc most) at = refl

prefix_twice : (fs gs : List Token) (r : Read) → with_prefix fs (with_prefix gs r) ≡ with_prefix (fs ++ gs) r
prefix_twice fs gs (Ok ts) = ap (λ (us : List Token). let r : Read = Ok us in r) (sym (append_assoc fs gs ts))
prefix_twice fs gs (Err at) = refl

no_prefix : (r : Read) → with_prefix [] r ≡ r
no_prefix (Ok ts) = refl
no_prefix (Err at) = refl

-- what reading has left after tokens and separators: the place, with enough steps
record Left (text : List ℕ) (most at : ℕ) (ts : List Token) (to : ℕ) : Type 0 where
  turns : ℕ
  enough : length text ≤ turns + to
  within : to ≤ length text
  reads : lex most at (drop at text) ≡ with_prefix ts (lex turns to (drop to text))

left_of : (text : List ℕ) (most at : ℕ) (ts : List Token) (to : ℕ) → Leads text at ts to → at ≤ length text → length text ≤ most + at → Left text most at ts to
left_of text most at ts to (here p) h k = record { turns = most; enough = k; within = h; reads = sym (no_prefix (lex most p (drop p text))) }
left_of text zero at ts to (separator p n us q e l) h k = let w = separator_ends text p n e in absurd (omega arith)
left_of text zero at ts to (next p n kind us q e l) h k = let w = token_ends text p n kind e in absurd (omega arith)
left_of text (suc most) at ts to (separator p n us q e l) h k =
    let w = separator_ends text p n e in
    let r = left_of text most (p + n) us q l w.1 (omega arith) in
    record {
      turns = r.turns;
      enough = r.enough;
      within = r.within;
      reads =
          lex_separator most p n (drop p text) e ∙ ap (lex most (p + n)) (drop-drop n p text) ∙ r.reads;
    }
left_of text (suc most) at ts to (next p n kind us q e l) h k =
    let w = token_ends text p n kind e in
    let r = left_of text most (p + n) us q l w.1 (omega arith) in
    record {
      turns = r.turns;
      enough = r.enough;
      within = r.within;
      reads =
          lex_token most p n kind (drop p text) e ∙ ap (λ rest. with_prefix (token kind p (p + n) ∷ []) (lex most (p + n) rest)) (drop-drop n p text)
          ∙ ap (with_prefix (token kind p (p + n) ∷ [])) r.reads ∙ prefix_twice (token kind p (p + n) ∷ []) us (lex r.turns q (drop q text));
    }

-- tokens that lead to the end are those that are read
pub tokens_in-leads : (text : List ℕ) (ts : List Token) → Leads text 0 ts (length text) → tokens_in text ≡ Ok ts
unfolding tokens_in
tokens_in-leads text ts l =
    let r = left_of text (length text) 0 ts (length text) l (omega arith) (omega arith) in
    r.reads ∙ ap (λ rest. with_prefix ts (lex r.turns (length text) rest)) (drop-length text) ∙ ap (with_prefix ts) (lex_end r.turns (length text))
    ∙ ap (λ (us : List Token). let r : Read = Ok us in r) (append-nil ts)

stuck_now : (turns at : ℕ) (text : List ℕ) → 0 < turns → 0 < length text → element_in text ≡ element.Nothing → lex turns at text ≡ Err at
stuck_now zero at text t h e = absurd (omega arith)
stuck_now (suc turns) at text t h e = lex_nothing turns at text h e

stuck_from : (text : List ℕ) (at : ℕ) (ts : List Token) → Left text (length text) 0 ts at → at < length text → element_in (drop at text) ≡ element.Nothing → lex (length text) 0 text ≡ Err at
stuck_from text at ts l h e =
    let some : 0 < length (drop at text) = omega (arith, length-drop at text) in
    let turn : 0 < l.turns = omega (arith, l.enough) in
    l.reads ∙ ap (with_prefix ts) (stuck_now l.turns at (drop at text) turn some e)

-- tokens that lead to where nothing begins are read up to there
pub tokens_in-stuck : (text : List ℕ) (at : ℕ) → IsStuck text at → tokens_in text ≡ Err at
unfolding tokens_in
tokens_in-stuck text at s =
    stuck_from text at s.0 (left_of text (length text) 0 s.0 at s.1 (omega arith) (omega arith)) s.2 s.3
