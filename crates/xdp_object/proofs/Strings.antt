-- A string of a table: the bytes up to the first zero byte, which they have none of.
use Rattle.std.proofs.Common.{◌≡◌, ◌≢◌, ◌∙◌, ℕ, suc, ◌+◌, ◌<◌, ◌==◌, ◌&&◌, nat_eq, Bool, true, false, not, cond, ltb, Option, Some, None, List, [], ◌∷◌, ◌++◌, length, get_or, take, drop, All, codes, refl, sym, ap, subst, arith}
use Rattle.std.proofs.lemmas.Bool.{eqb-true, lt-ltb}
use Rattle.std.proofs.lemmas.Bool.Decides.{nat_tests}
use Rattle.std.proofs.lemmas.List.{append_cancel_left, get_or-take, length-append, length-take, take_at, take-append-drop}
use Rattle.std.proofs.lemmas.List.Elements.{All-cons, All-head, All-nil, All-tail}
use Rattle.std.proofs.lemmas.List.Quantifiers.{position-Some}
use Rattle.std.proofs.lemmas.Slice.Eq.{bytes_eq-Decides}
use Rattle.std.proofs.Math.Seq.{drop-cons}
use Rattle.std.specs.List.{IsAnyAnswer, position, position_or_len, starts_with}
use Rattle.std.specs.Option.{IsSome, option_map, option_map_or}
use Rattle.std.specs.Str.{bytes_eq}
use Rattle.elf_view.specs.File.{string_at}

-- no byte is zero
abbrev pub Letters : List ℕ → Type 0
Letters s = All (λ b. b ≢ 0) s

is_other : (x : ℕ) → x ≢ 0 → (x == 0) ≡ false
is_other x h = grind (arith, nat_tests)

is_zero : (x : ℕ) → x ≡ 0 → (x == 0) ≡ true
is_zero x e = grind (arith, nat_tests)

zero_after : (s rest : List ℕ) → Letters s → position_or_len (λ b. b == 0) (s ++ (0 ∷ rest)) ≡ length s
zero_after [] rest h = refl
zero_after (x ∷ s) rest h =
    ap (λ t. cond (not t) (1 + position_or_len (λ b. b == 0) (s ++ (0 ∷ rest))) 0) (is_other x (All-head (λ b. b ≢ 0) x s h))
    ∙ omega (arith, zero_after s rest (All-tail (λ b. b ≢ 0) x s h))

-- a string that a zero byte ends is read
pub string_there : (table s rest : List ℕ) (at : ℕ) → Letters s → drop at table ≡ s ++ (0 ∷ rest) → string_at table at ≡ Some s
unfolding string_at
string_there table s rest at h e =
    let inside : ltb (length s) (length (s ++ (0 ∷ rest))) ≡ true = lt-ltb (length s) (length (s ++ (0 ∷ rest))) (omega (arith, length-append s (0 ∷ rest))) in
    ap (λ ys. option_map (λ n. take n ys) (position (λ b. b == 0) ys)) e
    ∙ ap (λ k. option_map (λ n. take n (s ++ (0 ∷ rest))) (cond (ltb k (length (s ++ (0 ∷ rest)))) (Some k) None)) (zero_after s rest h)
    ∙ ap (λ b. option_map (λ n. take n (s ++ (0 ∷ rest))) (cond b (Some (length s)) None)) inside
    ∙ ap Some (take_at s (0 ∷ rest) (length s) refl)

-- and what is read is one that a zero byte ends
pub record Ends (bytes s : List ℕ) : Type 0 where
  pub rest : List ℕ
  pub letters : Letters s
  pub whole : bytes ≡ s ++ (0 ∷ rest)

ends_at : (ys : List ℕ) (n : ℕ) → position (λ b. b == 0) ys ≡ Some n → Ends ys (take n ys)
ends_at ys n e =
    let found = position-Some (λ b. b == 0) ys n 0 e in
    let here : get_or ys n 0 ≡ 0 = eqb-true (get_or ys n 0) 0 found.1 in
    record {
      rest = drop (suc n) ys;
      letters = λ k d below zero'.
          let small : k < n = omega (arith, length-take n ys) in
          let other = (position-Some (λ b. b == 0) ys n d e).2 k small in
          let yes : (get_or ys k d == 0) ≡ true = is_zero (get_or ys k d) (sym (get_or-take n ys k d small) ∙ zero') in
          absurd (cc (other, yes));
      whole = sym (take-append-drop n ys) ∙ ap (λ xs. take n ys ++ xs) (drop-cons ys n 0 found.0 ∙ ap (λ b. b ∷ drop (suc n) ys) here);
    }

pub string_ends : (table s : List ℕ) (at : ℕ) → string_at table at ≡ Some s → Ends (drop at table) s
unfolding string_at
string_ends table s at e = by_place (position (λ b. b == 0) (drop at table)) refl e
  where
    by_place : (o : Option ℕ) → position (λ b. b == 0) (drop at table) ≡ o → option_map (λ n. take n (drop at table)) o ≡ Some s → Ends (drop at table) s
    by_place None f g = absurd (cc)
    by_place (Some n) f g = let same : take n (drop at table) ≡ s = cc in subst (λ (t : List ℕ). Ends (drop at table) t) same (ends_at (drop at table) n f)

-- ---- the test of a whole string

pub named : (o : Option (List ℕ)) (text : List ℕ) → o ≡ Some text → option_map_or (λ s. bytes_eq s text) o false ≡ true
named o text e = ap (λ p. option_map_or (λ s. bytes_eq s text) p false) e ∙ (bytes_eq-Decides text text).1 refl

pub not_named : (o : Option (List ℕ)) (text : List ℕ) → ¬ (o ≡ Some text) → option_map_or (λ s. bytes_eq s text) o false ≡ false
not_named None text never = refl
not_named (Some s) text never = by_test (bytes_eq s text) refl
  where
    by_test : (b : Bool) → bytes_eq s text ≡ b → b ≡ false
    by_test true e = absurd (never (ap Some ((bytes_eq-Decides s text).0 e)))
    by_test false e = refl

-- another text stands there, or no zero byte stands after it
pub other_text : (table text : List ℕ) (at : ℕ) → ((rest : List ℕ) → drop at table ≢ text ++ rest) → ¬ (string_at table at ≡ Some text)
other_text table text at never e = let h = string_ends table text at e in never (0 ∷ h.rest) h.whole

pub longer_text : (table text behind : List ℕ) (at : ℕ) → drop at table ≡ text ++ behind → ((rest : List ℕ) → behind ≢ 0 ∷ rest)
    → ¬ (string_at table at ≡ Some text)
longer_text table text behind at e never f =
    let h = string_ends table text at f in never h.rest (append_cancel_left text behind (0 ∷ h.rest) (sym e ∙ h.whole))

pub no_letter : (table text : List ℕ) (at k : ℕ) → k < length text → (get_or text k 0 == 0) ≡ true → ¬ (string_at table at ≡ Some text)
no_letter table text at k below zero' e = (string_ends table text at e).letters k 0 below (eqb-true (get_or text k 0) 0 zero')

-- the text stands there, and a zero byte after it: it is the string, unless it holds a zero byte itself
pub whole_text : (table text behind : List ℕ) (at : ℕ) (r : Bool) → drop at table ≡ text ++ behind → (rest : List ℕ) × (behind ≡ 0 ∷ rest)
    → IsAnyAnswer (λ y b. (y == 0) ≡ b) text r → not r ≡ option_map_or (λ s. bytes_eq s text) (string_at table at) false
whole_text table text behind at true e (rest, z) (k, below, here) =
    sym (not_named (string_at table at) text (no_letter table text at k below (here 0)))
whole_text table text behind at false e (rest, z) none =
    sym (named (string_at table at) text (string_there table text rest at letters (e ∙ ap (λ b. text ++ b) z)))
  where
    letters : Letters text
    letters k d below zero' = absurd (cc (none k d (omega arith) below, is_zero (get_or text k d) zero'))

-- ---- the test of its first bytes

pub xdp_letters : Letters (codes "xdp")
xdp_letters =
    All-cons (λ b. b ≢ 0) 120 (100 ∷ 112 ∷ []) (λ e. absurd (omega arith))
    (All-cons (λ b. b ≢ 0) 100 (112 ∷ []) (λ e. absurd (omega arith))
    (All-cons (λ b. b ≢ 0) 112 [] (λ e. absurd (omega arith)) (All-nil (λ b. b ≢ 0))))

same_front : (needle s rest : List ℕ) → Letters needle → starts_with nat_eq (s ++ (0 ∷ rest)) needle ≡ starts_with nat_eq s needle
same_front [] s rest h = refl
same_front (x ∷ needle) [] rest h = ap (λ b. b && starts_with nat_eq rest needle) (is_other x (All-head (λ b. b ≢ 0) x needle h))
same_front (x ∷ needle) (y ∷ s) rest h = ap (λ b. (x == y) && b) (same_front needle s rest (All-tail (λ b. b ≢ 0) x needle h))

pub front_read : (table needle : List ℕ) (at : ℕ) → Letters needle → IsSome (string_at table at)
    → starts_with nat_eq (drop at table) needle ≡ option_map_or (λ s. starts_with nat_eq s needle) (string_at table at) false
front_read table needle at h some = by_string (string_at table at) refl some
  where
    by_string : (o : Option (List ℕ)) → string_at table at ≡ o → IsSome o → starts_with nat_eq (drop at table) needle ≡ option_map_or (λ s. starts_with nat_eq s needle) o false
    by_string None e none = absurd (cc)
    by_string (Some s) e there =
        let ends = string_ends table s at e in
        ap (λ ys. starts_with nat_eq ys needle) ends.whole ∙ same_front needle s ends.rest h
