-- What is found, runs of bytes, and which kinds of bytes exclude each other.
use Rattle.std.proofs.Common.{◌≡◌, ℕ, ◌+◌, ◌<◌, ◌==◌, Bool, true, false, not, List, [], ◌∷◌, ◌++◌, length, Option, Some, refl, ◌∙◌, arith}
use Rattle.std.proofs.lemmas.Bool.{and_parts, cond-false, cond-true, cond_both, not-true}
use Rattle.std.proofs.lemmas.Bool.Decides.{nat_tests}
use Rattle.std.specs.List.{prefix_len, list_all, find}
use Rattle.verilog_lex.specs.Bytes.{is_space, is_digit, begins_word}

-- what is found passes the test
pub find_passes : {X : Type 0} (test : X → Bool) (xs : List X) (x : X) → find test xs ≡ Some x → test x ≡ true
find_passes test [] x = λ e. absurd cc
find_passes {X} test (y ∷ xs) x =
    let P : Option X → Type 0 = λ o. o ≡ Some x → test x ≡ true in
    cond_both (test y) (Some y) (find test xs) P (λ t e. let same : y ≡ x = cc in rw (← same) t) (λ _ e. find_passes test xs x e)

-- at least one digit is in front where the first byte is one
pub prefix_of : (p : ℕ → Bool) (c : ℕ) (rest : List ℕ) → p c ≡ true → 0 < prefix_len p (c ∷ rest)
prefix_of p c rest e = rw e (omega arith)

-- the first byte of a text does not pass a test
abbrev pub stops : (ℕ → Bool) → List ℕ → Bool
stops p [] = true
stops p (c ∷ rest) = not (p c)

-- a run that the rest does not go on with is the longest
pub prefix_len-whole : (p : ℕ → Bool) (run rest : List ℕ) → list_all p run ≡ true → stops p rest ≡ true → prefix_len p (run ++ rest) ≡ length run
prefix_len-whole p [] [] e h = refl
prefix_len-whole p [] (c ∷ rest) e h = cond-false (p c) (1 + prefix_len p rest) 0 (not-true (p c) h)
prefix_len-whole p (c ∷ run) rest e h =
    let more : prefix_len p (run ++ rest) ≡ length run = prefix_len-whole p run rest (and_parts (p c) (list_all p run) e).1 h in
    cond-true (p c) (1 + prefix_len p (run ++ rest)) 0 (and_parts (p c) (list_all p run) e).0 ∙ omega arith

pub word_no_space : (c : ℕ) → begins_word c ≡ true → is_space c ≡ false
word_no_space c e = grind (arith, nat_tests)

pub word_no_slash : (c : ℕ) → begins_word c ≡ true → (c == 47) ≡ false
word_no_slash c e = grind (arith, nat_tests)

pub word_no_digit : (c : ℕ) → begins_word c ≡ true → is_digit c ≡ false
word_no_digit c e = grind (arith, nat_tests)

pub digit_no_space : (c : ℕ) → is_digit c ≡ true → is_space c ≡ false
digit_no_space c e = grind (arith, nat_tests)

pub digit_no_slash : (c : ℕ) → is_digit c ≡ true → (c == 47) ≡ false
digit_no_slash c e = grind (arith, nat_tests)
