-- A lexical element is the longest prefix of a text that has a form.
use Rattle.std.proofs.Common.{◌≡◌, ℕ, suc, ◌+◌, ◌-◌, ◌<◌, ◌≤◌, ◌==◌, ◌&&◌, Bool, true, false, List, [], ◌∷◌, ◌++◌, length, take, drop, Option, Some, None, refl, sym, ap, subst, ◌∙◌, arith, nat_le, nat_eq, append_assoc, length-append, if◌then◌else◌}
use Rattle.std.proofs.Math.Seq.{drop-append_seam, take-append_seam, take-append-add}
use Rattle.std.proofs.lemmas.List.{take-append-drop, length-take-le}
use Rattle.std.proofs.lemmas.List.Folds.{length-prefix_len}
use Rattle.std.proofs.lemmas.Bool.Decides.{nat_tests}
use Rattle.std.proofs.lemmas.List.Sums.{prefix_len-le-length}
use Rattle.std.specs.Cmp.Lexicographic.{same_text}
use Rattle.std.specs.Str.Parse.{digits_value}
use Rattle.std.specs.List.{prefix_len, list_all, find, starts_with}
use Rattle.std.proofs.lemmas.Bool.{and_from, and_left, and_parts, cond-false, cond-true, cond_both, or_right, eqb-true}
use Rattle.verilog_lex.specs.Bytes.{is_space, is_comment_byte, is_digit, begins_word, is_word_byte, begins_with, is_digit_of}
use Rattle.verilog_lex.specs.Words.{symbol_text, symbols as all_symbols}
use Rattle.verilog_lex.specs.Number.{has_leading_zero, radix_of, some_digits, digits_after, constant_in, sized_kind}
use Rattle.verilog_lex.specs.Element.{element_in, word_in, word_kind, number_in, number_element, sized_or_plain, symbol_at, symbol_or_nothing}
use Rattle.verilog_lex.specs.Forms.{IsRun, IsSeparator, IsForm, IsLongest, IsRefused, HasKind, IsLongestElement}
use Rattle.verilog_lex.specs.Forms.IsSeparator.{space, comment}
use Rattle.verilog_lex.specs.Forms.IsRefused.{above, zero_first}
use Rattle.verilog_lex.specs.Forms.IsForm.{separator, word, number, constant, symbol}
use Rattle.verilog_lex.specs.Forms.HasKind.{number as number_kind, constant as sized_as, symbol as symbol_kind}
use Rattle.verilog_lex.specs.declared.token.Symbol.{Symbol}
use Rattle.verilog_lex.specs.declared.token.Symbol.TheVariants as symbols
use Rattle.verilog_lex.specs.declared.token.TokenKind.{TokenKind}
use Rattle.verilog_lex.specs.declared.token.TokenKind.TheVariants as kind
use Rattle.verilog_lex.specs.declared.element.LexicalElement.{LexicalElement}
use Rattle.verilog_lex.specs.declared.element.LexicalElement.TheVariants.{Separator, Token, Nothing}
use Rattle.verilog_lex.proofs.KindLemmas.{kind_form, kind_not_refused, word_has_kind}
use Rattle.verilog_lex.proofs.Elements.{symbol_positive, comment_within, constant_within, longer}
use Rattle.verilog_lex.proofs.ByteRuns.{find_passes, prefix_of, prefix_len-whole, word_no_space, word_no_slash, word_no_digit, digit_no_space, digit_no_slash}

-- how many bytes the longest prefix with a form has, whether or not it is refused
abbrev tail_reach : Option (ℕ × ℕ) → ℕ
tail_reach None = 0
tail_reach (Some c) = 2 + c.1

abbrev number_reach : List ℕ → ℕ
number_reach text = prefix_len is_digit text + tail_reach (constant_in (drop (prefix_len is_digit text) text))

abbrev symbol_reach : Option Symbol → ℕ
symbol_reach None = 0
symbol_reach (Some s) = length (symbol_text s)

abbrev reach : List ℕ → ℕ
reach [] = 0
reach (c ∷ rest) =
    if is_space c then 1
    else (if (c == 47) && begins_with 47 rest then 2 + prefix_len is_comment_byte (drop 1 rest)
    else (if is_digit c then number_reach (c ∷ rest)
    else (if begins_word c then prefix_len is_word_byte (c ∷ rest)
    else symbol_reach (symbol_at (c ∷ rest)))))

reach-letter : (c : ℕ) (rest : List ℕ) → begins_word c ≡ true → reach (c ∷ rest) ≡ prefix_len is_word_byte (c ∷ rest)
reach-letter c rest e =
    cond-false (is_space c) _ _ (word_no_space c e)
    ∙ cond-false ((c == 47) && begins_with 47 rest) _ _ (and_left (c == 47) (begins_with 47 rest) (word_no_slash c e))
    ∙ cond-false (is_digit c) _ _ (word_no_digit c e)
    ∙ cond-true (begins_word c) _ _ e

reach-digit : (c : ℕ) (rest : List ℕ) → is_digit c ≡ true → reach (c ∷ rest) ≡ number_reach (c ∷ rest)
reach-digit c rest e =
    cond-false (is_space c) _ _ (digit_no_space c e)
    ∙ cond-false ((c == 47) && begins_with 47 rest) _ _ (and_left (c == 47) (begins_with 47 rest) (digit_no_slash c e))
    ∙ cond-true (is_digit c) _ _ e

-- a run is within the run of a longer text
run_reach : (p : ℕ → Bool) (run rest : List ℕ) → list_all p run ≡ true → length run ≤ prefix_len p (run ++ rest)
run_reach p [] rest e = omega arith
run_reach p (c ∷ run) rest e =
    let more : length run ≤ prefix_len p (run ++ rest) = run_reach p run rest (and_parts (p c) (list_all p run) e).1 in
    let one : prefix_len p ((c ∷ run) ++ rest) ≡ 1 + prefix_len p (run ++ rest) = cond-true (p c) (1 + prefix_len p (run ++ rest)) 0 (and_parts (p c) (list_all p run) e).0 in
    omega arith

digits_reach : (digits rest : List ℕ) → IsRun is_digit digits → reach (digits ++ rest) ≡ number_reach (digits ++ rest)
digits_reach [] rest r = absurd (omega (arith, r.some))
digits_reach (c ∷ digits) rest r = reach-digit c (digits ++ rest) (and_parts _ _ r.all).0

word_run : (c : ℕ) (bytes : List ℕ) → begins_word c ≡ true → list_all is_word_byte bytes ≡ true → list_all is_word_byte (c ∷ bytes) ≡ true
word_run c bytes b e = and_from (is_word_byte c) (list_all is_word_byte bytes) (or_right (is_digit c) (begins_word c) b) e

some_tail : (radix n : ℕ) → 0 < n → tail_reach (some_digits radix n) ≡ 2 + n
some_tail radix n h = ap tail_reach (cond-false (n == 0) None (Some (radix, n)) (grind (arith, nat_tests)))

-- what follows a size reaches as far as its digits
tail_of : (base radix : ℕ) (digits rest : List ℕ) → radix_of base ≡ Some radix → IsRun (is_digit_of radix) digits → 2 + length digits ≤ tail_reach (constant_in (39 ∷ base ∷ (digits ++ rest)))
tail_of base radix digits rest e r =
    let n = prefix_len (is_digit_of radix) (digits ++ rest) in
    let more : length digits ≤ n = run_reach (is_digit_of radix) digits rest r.all in
    let some : 0 < n = omega (arith, r.some) in
    let here : tail_reach (constant_in (39 ∷ base ∷ (digits ++ rest))) ≡ 2 + n =
    ap (λ o. tail_reach (digits_after o (digits ++ rest))) e ∙ some_tail radix n some in
    omega arith

number_whole : (size after : List ℕ) (n : ℕ) → n ≡ length size → n + tail_reach (constant_in (drop n (size ++ after))) ≡ length size + tail_reach (constant_in after)
number_whole size after n e =
    ap (λ m. m + tail_reach (constant_in (drop m (size ++ after)))) e ∙ ap (λ rest. length size + tail_reach (constant_in rest)) (drop-append_seam size after)

constant_reach : (size : List ℕ) (base radix : ℕ) (digits rest : List ℕ) → IsRun is_digit size → radix_of base ≡ Some radix → IsRun (is_digit_of radix) digits → length size + (2 + length digits) ≤ reach (size ++ (39 ∷ base ∷ (digits ++ rest)))
constant_reach size base radix digits rest r e s =
    let after : List ℕ = 39 ∷ base ∷ (digits ++ rest) in
    let tail : 2 + length digits ≤ tail_reach (constant_in after) = tail_of base radix digits rest e s in
    let whole : reach (size ++ after) ≡ length size + tail_reach (constant_in after) =
    digits_reach size after r ∙ number_whole size after (prefix_len is_digit (size ++ after)) (prefix_len-whole is_digit size after r.all refl) in
    omega (arith, tail, whole)

-- a search that one element passes finds one
finds : {X : Type 0} (P : Option X → Type 0) (test : X → Bool) (xs ys : List X) (x : X) → test x ≡ true → ((y : X) → P (Some y)) → P (find test (xs ++ x ∷ ys))
finds P test [] ys x e h = subst P (sym (cond-true (test x) (Some x) (find test ys) e)) (h x)
finds P test (z ∷ xs) ys x e h = cond_both (test z) (Some z) (find test (xs ++ x ∷ ys)) P (λ _. h z) (λ _. finds P test xs ys x e h)

-- a symbol of one byte is within reach, though a longer one may stand there
one_byte : (c : ℕ) (rest : List ℕ) (before after : List Symbol) (s : Symbol) → starts_with nat_eq (c ∷ rest) (symbol_text s) ≡ true → 1 ≤ symbol_reach (find (λ s. starts_with nat_eq (c ∷ rest) (symbol_text s)) (before ++ s ∷ after))
one_byte c rest before after s e = finds (λ o. 1 ≤ symbol_reach o) (λ s. starts_with nat_eq (c ∷ rest) (symbol_text s)) before after s e symbol_positive

symbol_within_reach : (s : Symbol) (rest : List ℕ) → length (symbol_text s) ≤ reach (symbol_text s ++ rest)
symbol_within_reach symbols.Assign rest = one_byte 61 rest (take 17 all_symbols) (drop 18 all_symbols) symbols.Assign refl
symbol_within_reach symbols.Less rest = one_byte 60 rest (take 18 all_symbols) (drop 19 all_symbols) symbols.Less refl
symbol_within_reach symbols.Greater rest = one_byte 62 rest (take 19 all_symbols) (drop 20 all_symbols) symbols.Greater refl
symbol_within_reach symbols.Slash rest =
    cond_both (begins_with 47 rest) (2 + prefix_len is_comment_byte (drop 1 rest)) (symbol_reach (symbol_at (47 ∷ rest))) (λ n. 1 ≤ n)
    (λ _. omega arith) (λ _. one_byte 47 rest (take 23 all_symbols) (drop 24 all_symbols) symbols.Slash refl)
symbol_within_reach s rest = omega arith

-- each form is within the reach of a text that begins with it
within_reach : (bytes rest : List ℕ) → IsForm bytes → length bytes ≤ reach (bytes ++ rest)
within_reach bytes rest (separator bs (space c e)) = let one : reach (c ∷ rest) ≡ 1 = cond-true {A = ℕ} (is_space c) _ _ e in omega (arith, one)
within_reach bytes rest (separator ds (comment bs e)) = let more : length bs ≤ prefix_len is_comment_byte (bs ++ rest) = run_reach is_comment_byte bs rest e in omega arith
within_reach bytes rest (word c bs b e) =
    let more : length (c ∷ bs) ≤ prefix_len is_word_byte ((c ∷ bs) ++ rest) = run_reach is_word_byte (c ∷ bs) rest (word_run c bs b e) in
    omega (arith, reach-letter c (bs ++ rest) b)
within_reach bytes rest (number ds r) =
    let more : length ds ≤ prefix_len is_digit (ds ++ rest) = run_reach is_digit ds rest r.all in
    omega (arith, digits_reach ds rest r)
within_reach bytes rest (constant size base radix ds r e s) =
    let here = constant_reach size base radix ds rest r e s in
    let same : reach ((size ++ (39 ∷ base ∷ ds)) ++ rest) ≡ reach (size ++ (39 ∷ base ∷ (ds ++ rest))) = ap reach (append_assoc size (39 ∷ base ∷ ds) rest) in
    omega (arith, here, same, length-append size (39 ∷ base ∷ ds))
within_reach bytes rest (symbol s) = symbol_within_reach s rest

prefix_reach : (text : List ℕ) (n : ℕ) → n ≤ length text → IsForm (take n text) → n ≤ reach text
prefix_reach text n h f =
    let bound : length (take n text) ≤ reach (take n text ++ drop n text) = within_reach (take n text) (drop n text) f in
    let whole : reach (take n text ++ drop n text) ≡ reach text = ap reach (take-append-drop n text) in
    omega (arith, bound, whole, length-take-le n text h)

-- a prefix with a form that is as long as the reach is the longest
longest_at : (text : List ℕ) (n : ℕ) → reach text ≡ n → n ≤ length text → IsForm (take n text) → IsLongest text n
longest_at text n e within form = record {
  within = within;
  form = form;
  no_more = λ m h f. omega (arith, prefix_reach text m h f, e);
}

separator_at : (text : List ℕ) (n : ℕ) → reach text ≡ n → n ≤ length text → IsSeparator (take n text) → IsLongestElement text (Separator n)
separator_at text n e within s = (longest_at text n e within (separator (take n text) s), s)

token_at : (text : List ℕ) (k : TokenKind) (n : ℕ) → reach text ≡ n → n ≤ length text → HasKind (take n text) k → IsLongestElement text (Token k n)
token_at text k n e within h = record {
  longest = longest_at text n e within (kind_form (take n text) k h);
  has_kind = h;
  no_refusal = kind_not_refused (take n text) k h;
}

-- a run is one
run_all : (p : ℕ → Bool) (text : List ℕ) → list_all p (take (prefix_len p text) text) ≡ true
run_all p [] = refl
run_all p (c ∷ text) =
    cond_both (p c) (1 + prefix_len p text) 0 (λ n. list_all p (take n (c ∷ text)) ≡ true)
    (λ e.
    let more : 1 + prefix_len p text ≡ suc (prefix_len p text) = omega arith in
    ap (λ n. list_all p (take n (c ∷ text))) more ∙ and_from (p c) (list_all p (take (prefix_len p text) text)) e (run_all p text)) (λ _. refl)

run_of : (p : ℕ → Bool) (c : ℕ) (rest : List ℕ) → p c ≡ true → IsRun p (take (prefix_len p (c ∷ rest)) (c ∷ rest))
run_of p c rest e =
    let count : length (take (prefix_len p (c ∷ rest)) (c ∷ rest)) ≡ prefix_len p (c ∷ rest) = length-prefix_len p (c ∷ rest) in
    let some = prefix_of p c rest e in
    record { some = omega (arith, count, some); all = run_all p (c ∷ rest) }

form_some : (bytes : List ℕ) → IsForm bytes → 0 < length bytes
form_some bytes (separator bs (space c e)) = omega arith
form_some bytes (separator ds (comment bs e)) = omega arith
form_some bytes (word c bs b e) = omega arith
form_some bytes (number ds r) = r.some
form_some bytes (constant size base radix ds r e s) = omega (arith, r.some, length-append size (39 ∷ base ∷ ds))
form_some bytes (symbol s) = symbol_positive s

-- where nothing is in reach there is no longest form
none_longest : (text : List ℕ) (n : ℕ) → reach text ≡ 0 → IsLongest text n → IsRefused (take n text)
none_longest text n e l =
    let none : n ≡ 0 = omega (arith, prefix_reach text n l.within l.form, e) in
    absurd (omega (arith, form_some (take n text) l.form, ap (λ m. length (take m text)) none))

comment_form : (c d : ℕ) (rest : List ℕ) → c ≡ 47 → d ≡ 47 → IsSeparator (take (2 + prefix_len is_comment_byte rest) (c ∷ d ∷ rest))
comment_form c d rest e f =
    let k = prefix_len is_comment_byte rest in
    let two : suc (suc k) ≡ 2 + k = omega arith in
    let P : ℕ → Type 0 = λ n. IsSeparator (take n (c ∷ d ∷ rest)) in
    let Q : ℕ → Type 0 = λ x. IsSeparator (x ∷ d ∷ take k rest) in
    let R : ℕ → Type 0 = λ x. IsSeparator (47 ∷ x ∷ take k rest) in
    subst P two (subst Q (sym e) (subst R (sym f) (comment (take k rest) (run_all is_comment_byte rest))))

comment_longest : (c : ℕ) (rest : List ℕ) → is_space c ≡ false → (c == 47) && begins_with 47 rest ≡ true → IsLongestElement (c ∷ rest) (Separator (2 + prefix_len is_comment_byte (drop 1 rest)))
comment_longest c [] a e = absurd (let f : false ≡ true = (and_parts (c == 47) false e).1 in cc)
comment_longest c (d ∷ rest) a e =
    separator_at (c ∷ d ∷ rest) (2 + prefix_len is_comment_byte rest)
    (cond-false {A = ℕ} (is_space c) _ _ a ∙ cond-true {A = ℕ} ((c == 47) && begins_with 47 (d ∷ rest)) _ _ e)
    (comment_within (d ∷ rest) (and_parts (c == 47) (d == 47) e).1)
    (comment_form c d rest (eqb-true c 47 (and_parts (c == 47) (d == 47) e).0) (eqb-true d 47 (and_parts (c == 47) (d == 47) e).1))

word_longest : (c : ℕ) (rest : List ℕ) → begins_word c ≡ true → IsLongestElement (c ∷ rest) (word_in (c ∷ rest))
word_longest c rest e =
    let k = prefix_len is_word_byte rest in
    let first : prefix_len is_word_byte (c ∷ rest) ≡ 1 + k = cond-true {A = ℕ} (is_word_byte c) _ _ (or_right (is_digit c) (begins_word c) e) in
    let whole : suc k ≡ prefix_len is_word_byte (c ∷ rest) = omega (arith, first) in
    let P : ℕ → Type 0 = λ n. HasKind (take n (c ∷ rest)) (word_kind (take n (c ∷ rest))) in
    token_at (c ∷ rest) (word_kind (take (prefix_len is_word_byte (c ∷ rest)) (c ∷ rest))) (prefix_len is_word_byte (c ∷ rest)) (reach-letter c rest e)
    (prefix_len-le-length is_word_byte (c ∷ rest)) (subst P whole (word_has_kind c (take k rest) e (run_all is_word_byte rest)))

-- a size and what of a constant follows it
abbrev HasSize : List ℕ → List ℕ → ℕ × ℕ → Type 0
HasSize size after c = HasKind (size ++ take (2 + c.1) after) (sized_kind (digits_value 10 size) (digits_value c.0 (take c.1 (drop 2 after))))

some_kind : (size rest : List ℕ) (q base radix k : ℕ) → IsRun is_digit size → has_leading_zero size ≡ false → q ≡ 39 → radix_of base ≡ Some radix → k ≡ prefix_len (is_digit_of radix) rest → 0 < k → HasSize size (q ∷ base ∷ rest) (radix, k)
some_kind size rest q base radix k run z e f h some =
    let two : suc (suc k) ≡ 2 + k = omega arith in
    let count : length (take k rest) ≡ k = ap (λ n. length (take n rest)) h ∙ length-prefix_len (is_digit_of radix) rest ∙ sym h in
    let digits : IsRun (is_digit_of radix) (take k rest) = record {
      some = omega (arith, count, some);
      all = ap (λ n. list_all (is_digit_of radix) (take n rest)) h ∙ run_all (is_digit_of radix) rest;
    } in
    let made = sized_kind (digits_value 10 size) (digits_value radix (take k rest)) in
    let P : ℕ → Type 0 = λ n. HasKind (size ++ take n (q ∷ base ∷ rest)) made in
    let Q : ℕ → Type 0 = λ x. HasKind (size ++ (x ∷ base ∷ take k rest)) made in
    subst P two (subst Q (sym e) (sized_as size base radix (take k rest) run z f digits))

digits_kind : (size rest : List ℕ) (q base : ℕ) (o : Option ℕ) (c : ℕ × ℕ) → IsRun is_digit size → has_leading_zero size ≡ false → q ≡ 39 → radix_of base ≡ o → digits_after o rest ≡ Some c → HasSize size (q ∷ base ∷ rest) c
digits_kind size rest q base None c run z e f = λ g. absurd cc
digits_kind size rest q base (Some radix) c run z e f =
    let k = prefix_len (is_digit_of radix) rest in
    let P : Option (ℕ × ℕ) → Type 0 = λ o. o ≡ Some c → HasSize size (q ∷ base ∷ rest) c in
    cond_both (k == 0) None (Some (radix, k)) P (λ _ g. absurd cc) (λ n g.
    let same : (radix, k) ≡ c = cc in
    subst (HasSize size (q ∷ base ∷ rest)) same (some_kind size rest q base radix k run z e f refl (grind (arith, nat_tests))))

constant_kind : (size after : List ℕ) (c : ℕ × ℕ) → IsRun is_digit size → has_leading_zero size ≡ false → constant_in after ≡ Some c → HasSize size after c
constant_kind size [] c run z = λ e. absurd cc
constant_kind size (q ∷ []) c run z = λ e. absurd cc
constant_kind size (q ∷ base ∷ rest) c run z =
    let P : Option (ℕ × ℕ) → Type 0 = λ o. o ≡ Some c → HasSize size (q ∷ base ∷ rest) c in
    cond_both (q == 39) (digits_after (radix_of base) rest) None P (λ t e. digits_kind size rest q base (radix_of base) c run z (eqb-true q 39 t) refl e) (λ _ e. absurd cc)

-- the size itself has a form
size_form : (size after : List ℕ) → IsRun is_digit size → IsForm (take (length size) (size ++ after))
size_form size after run = subst IsForm (sym (take-append_seam size after)) (number size run)

size_first : (size after : List ℕ) (n : ℕ) → IsRun is_digit size → IsLongest (size ++ after) n → length size ≤ n
size_first size after n run l =
    l.no_more (length size) (omega (arith, length-append size after)) (size_form size after run)

zero_refused : (size after : List ℕ) (n : ℕ) → IsRun is_digit size → has_leading_zero size ≡ true → length size ≤ n → IsRefused (take n (size ++ after))
zero_refused size after n run z h =
    let sum : length size + (n - length size) ≡ n = omega arith in
    let P : ℕ → Type 0 = λ m. IsRefused (take m (size ++ after)) in
    subst P sum (subst IsRefused (sym (take-append-add size after (n - length size))) (zero_first size (take (n - length size) after) run z))

above_refused : (size after : List ℕ) (n : ℕ) → IsRun is_digit size → 65536 < digits_value 10 size → n ≡ length size → IsRefused (take n (size ++ after))
above_refused size after n run h e =
    subst IsRefused (sym (ap (λ m. take m (size ++ after)) e ∙ take-append_seam size after)) (above size run h)

sized_longest : (size after : List ℕ) (o : Option (ℕ × ℕ)) → IsRun is_digit size → has_leading_zero size ≡ false → reach (size ++ after) ≡ length size + tail_reach o → constant_in after ≡ o → IsLongestElement (size ++ after) (sized_or_plain size after o)
sized_longest size after None run z e f =
    let P : LexicalElement → Type 0 = λ p. IsLongestElement (size ++ after) p in
    let whole : reach (size ++ after) ≡ length size = omega (arith, e) in
    cond_both (nat_le (digits_value 10 size) 65536) _ _ P
    (λ b. token_at (size ++ after) (kind.Number (digits_value 10 size)) (length size) whole (omega (arith, length-append size after))
    (subst (λ bytes. HasKind bytes (kind.Number (digits_value 10 size))) (sym (take-append_seam size after)) (number_kind size run z (grind (arith, nat_tests)))))
    (λ b n l.
    let most : n ≤ length size = omega (arith, prefix_reach (size ++ after) n l.within l.form, whole) in
    let same : n ≡ length size = omega (arith, most, size_first size after n run l) in
    above_refused size after n run (grind (arith, nat_tests)) same)
sized_longest size after (Some c) run z e f =
    let within : 2 + c.1 ≤ length after = constant_within after c f in
    let whole : reach (size ++ after) ≡ length size + 2 + c.1 = omega (arith, e) in
    let sum : length size + (2 + c.1) ≡ length size + 2 + c.1 = omega arith in
    let k = sized_kind (digits_value 10 size) (digits_value c.0 (take c.1 (drop 2 after))) in
    let P : ℕ → Type 0 = λ n. HasKind (take n (size ++ after)) k in
    let Q : List ℕ → Type 0 = λ bytes. HasKind bytes k in
    token_at (size ++ after) k (length size + 2 + c.1) whole (omega (arith, within, length-append size after))
    (subst P sum (subst Q (sym (take-append-add size after (2 + c.1))) (constant_kind size after c run z f)))

number_parts : (size after : List ℕ) → IsRun is_digit size → reach (size ++ after) ≡ length size + tail_reach (constant_in after) → IsLongestElement (size ++ after) (number_element size after)
number_parts size after run e =
    let P : LexicalElement → Type 0 = λ p. IsLongestElement (size ++ after) p in
    cond_both (has_leading_zero size) Nothing (sized_or_plain size after (constant_in after)) P
    (λ z n l. zero_refused size after n run z (size_first size after n run l)) (λ z. sized_longest size after (constant_in after) run z e refl)

number_longest : (c : ℕ) (rest : List ℕ) → is_digit c ≡ true → IsLongestElement (c ∷ rest) (number_in (c ∷ rest))
number_longest c rest e =
    let text : List ℕ = c ∷ rest in
    let n = prefix_len is_digit text in
    let count : n ≡ length (take n text) = sym (length-prefix_len is_digit text) in
    let P : List ℕ → Type 0 = λ t. IsLongestElement t (number_element (take n text) (drop n text)) in
    let far : reach (take n text ++ drop n text) ≡ length (take n text) + tail_reach (constant_in (drop n text)) =
    ap reach (take-append-drop n text) ∙ reach-digit c rest e ∙ ap (λ m. m + tail_reach (constant_in (drop n text))) count in
    subst P (take-append-drop n text) (number_parts (take n text) (drop n text) (run_of is_digit c rest e) far)

symbol_longest : (text : List ℕ) (o : Option Symbol) → reach text ≡ symbol_reach o → symbol_at text ≡ o → IsLongestElement text (symbol_or_nothing o)
symbol_longest text None e f = λ n l. none_longest text n e l
symbol_longest text (Some s) e f =
    let starts = find_passes (λ s. starts_with nat_eq text (symbol_text s)) all_symbols s f in
    let P : List ℕ → Type 0 = λ bytes. HasKind bytes (kind.Symbol s) in
    token_at text (kind.Symbol s) (length (symbol_text s)) e (longer text (symbol_text s) starts)
    (subst P (same_text (symbol_text s) (take (length (symbol_text s)) text) (sym starts)) (symbol_kind s))

pub element_longest : (text : List ℕ) → IsLongestElement text (element_in text)
element_longest [] = λ n l. none_longest [] n refl l
element_longest (c ∷ rest) =
    let P : LexicalElement → Type 0 = λ p. IsLongestElement (c ∷ rest) p in
    cond_both (is_space c) _ _ P (λ e. separator_at (c ∷ rest) 1 (cond-true {A = ℕ} (is_space c) _ _ e) (omega arith) (space c e)) (λ a.
    cond_both ((c == 47) && begins_with 47 rest) _ _ P (λ e. comment_longest c rest a e) (λ b.
    cond_both (is_digit c) _ _ P (λ d. number_longest c rest d) (λ d.
    cond_both (begins_word c) _ _ P (λ w. word_longest c rest w) (λ w.
    symbol_longest (c ∷ rest) (symbol_at (c ∷ rest))
    (cond-false {A = ℕ} (is_space c) _ _ a ∙ cond-false {A = ℕ} ((c == 47) && begins_with 47 rest) _ _ b ∙ cond-false {A = ℕ} (is_digit c) _ _ d ∙ cond-false {A = ℕ} (begins_word c) _ _ w)
    refl))))
