-- Lists of texts.
use Rattle.std.proofs.Common.{◌≡◌, ◌≢◌, sym, ap, refl, ℕ, suc, ◌+◌, Bool, true, false, not, ◌==◌, true≢false, List, [], ◌∷◌, Contains, arith, Some, None}
use Rattle.std.specs.Str.{bytes_eq}
use Rattle.std.specs.List.{before_first, list_all, prefix_len}
use Rattle.std.proofs.lemmas.Slice.Eq.{bytes_eq-Decides}
use Rattle.std.proofs.lemmas.Bool.{false_from_ne_true, not-true, or_parts}
use Rattle.std.proofs.lemmas.List.Elements.{All-contains}
use Rattle.std.proofs.lemmas.List.Sums.{AllPass-from_list_all}
use Rattle.clap.specs.Lexer.{has_byte, long_of, name_and_value}

pub same_text : (text : List ℕ) → bytes_eq text text ≡ true
same_text text = (bytes_eq-Decides text text).1 refl

pub other_text : (a b : List ℕ) → a ≢ b → bytes_eq a b ≡ false
other_text a b differ = false_from_ne_true (bytes_eq a b) (λ e. differ ((bytes_eq-Decides a b).0 e))

pub passes_at : {X : Type 0} (test : X → Bool) (xs : List X) (x : X) → list_all test xs ≡ true → Contains xs x → test x ≡ true
passes_at test xs x all there = All-contains (λ y. test y ≡ true) xs x (AllPass-from_list_all test xs all) there

-- ---- the name of an option

-- a text that stands after two dashes as the whole name: it is not empty, and has no `=` (61)
abbrev pub is_long : List ℕ → Bool
is_long [] = false
is_long (x ∷ xs) = not (has_byte 61 (x ∷ xs))

no_cut : (text : List ℕ) → has_byte 61 text ≡ false → before_first (λ b. b == 61) text ≡ text
no_cut [] none = refl
no_cut (x ∷ xs) none =
    let parts = or_parts (x == 61) (has_byte 61 xs) none in
    let one : 1 + prefix_len (λ b. not (b == 61)) xs ≡ suc (prefix_len (λ b. not (b == 61)) xs) = omega arith in
    rw (parts.0, one) (ap (λ t. x ∷ t) (no_cut xs parts.1))

pub read_long : (name : List ℕ) → is_long name ≡ true → long_of (45 ∷ 45 ∷ name) ≡ Some (name, None)
read_long [] long = absurd (true≢false (sym long))
read_long (x ∷ xs) long =
    let none = not-true _ long in
    let cut : name_and_value (x ∷ xs) ≡ (x ∷ xs, None) = rw (no_cut (x ∷ xs) none, none) refl in
    ap Some cut

pub no_end : (name : List ℕ) → is_long name ≡ true → bytes_eq (45 ∷ 45 ∷ name) (45 ∷ 45 ∷ []) ≡ false
no_end [] long = absurd (true≢false (sym long))
no_end (x ∷ xs) long = refl
