-- The searches of a file: the first of several, and where the strings of a table end.
use Rattle.std.proofs.Common.{◌≡◌, ◌≢◌, ℕ, ◌+◌, ◌-◌, ◌<◌, ◌≤◌, Bool, true, false, ltb, cond, Some, None, ◌==◌, List, length, get_or, take, drop, refl, sym, ap, ◌∙◌, arith, inl, inr}
use Rattle.std.proofs.lemmas.Bool.{cases_lt, false≢true}
use Rattle.std.proofs.lemmas.Bool.Decides.{nat_tests}
use Rattle.std.proofs.lemmas.List.{get_or-drop, length-drop}
use Rattle.std.proofs.lemmas.List.Sums.{fails_before_first, position_or_len_is}
use Rattle.std.specs.List.{position_or_len}
use Rattle.std.specs.Option.{is_some, option_map}
use Rattle.elf_view.specs.File.{section_at, string_at, symtab_at}

abbrev pub is_zero : ℕ → Bool
is_zero b = b == 0

is_some-cond : (f : ℕ → List ℕ) (b : Bool) (x : ℕ) → is_some (option_map f (cond b (Some x) None)) ≡ b
is_some-cond f true x = refl
is_some-cond f false x = refl

-- a string begins at a place where a zero byte stands from there on
pub is_some-position : (table : List ℕ) (at : ℕ)
    → is_some (string_at table at) ≡ ltb (position_or_len is_zero (drop at table)) (length (drop at table))
unfolding string_at
is_some-position table at =
    is_some-cond (λ n. take n (drop at table)) (ltb (position_or_len is_zero (drop at table)) (length (drop at table)))
    (position_or_len is_zero (drop at table))

-- where there is one, the search finds one
pub found : (ys : List ℕ) (k : ℕ) → k < length ys → get_or ys k 0 ≡ 0 → position_or_len is_zero ys < length ys
found ys k inside zero = elim (cases_lt (position_or_len is_zero ys) (length ys)) [
  | inl before ↦ before
  | inr behind ↦
      let fails = fails_before_first is_zero ys k 0 (omega arith) in
      absurd (false≢true (sym fails ∙ ap is_zero zero))
]

is_zero-other : (b : ℕ) → b ≢ 0 → is_zero b ≡ false
is_zero-other b h = grind (arith, nat_tests)

-- where there is none, it ends after the last byte
not_found : (ys : List ℕ) → ((k : ℕ) → k < length ys → get_or ys k 0 ≢ 0) → position_or_len is_zero ys ≡ length ys
not_found ys none =
    position_or_len_is is_zero ys (length ys) 0 (omega arith) (λ k h. is_zero-other (get_or ys k 0) (none k h))
    (λ h. absurd (omega arith))

pub ltb-both : (a b c d : ℕ) → a < b → c < d → ltb a b ≡ ltb c d
ltb-both a b c d h k = grind (arith, nat_tests)

ltb-neither : (a b c d : ℕ) → b ≤ a → d ≤ c → ltb a b ≡ ltb c d
ltb-neither a b c d h k = grind (arith, nat_tests)

-- the strings of a table end whose last zero byte is in front of `end`
pub is_some-string_at : (table : List ℕ) (end at : ℕ) → end ≤ length table
    → ((k : ℕ) → end ≤ k → k < length table → get_or table k 0 ≢ 0)
    → (0 < end → get_or table (end - 1) 0 ≡ 0)
    → is_some (string_at table at) ≡ ltb at end
is_some-string_at table end at fits behind last = is_some-position table at ∙ elim (cases_lt at end) [
  | inl below ↦
      let k : ℕ = end - 1 - at in
      let size = length-drop at table in
      let place : at + k ≡ end - 1 = omega arith in
      let zero = get_or-drop at table k 0 ∙ ap (λ i. get_or table i 0) place ∙ last (omega arith) in
      ltb-both _ _ _ _ (found (drop at table) k (omega arith) zero) below
  | inr past ↦
      let size = length-drop at table in
      let none : (k : ℕ) → k < length (drop at table) → get_or (drop at table) k 0 ≢ 0 =
      λ k h e. behind (at + k) (omega arith) (omega arith) (sym (get_or-drop at table k 0) ∙ e) in
      ltb-neither _ _ _ _ (omega (arith, not_found (drop at table) none)) past
]

-- a section of another type is no symbol table
pub symtab_at-other : (bytes : List ℕ) (i : ℕ) → (section_at bytes i).kind ≢ 2 → symtab_at bytes i ≡ None
symtab_at-other bytes i other = other_than ((section_at bytes i).kind) i other
  where
    other_than : (kind i : ℕ) → kind ≢ 2 → cond (kind == 2) (Some i) None ≡ None
    other_than kind i h = grind (arith, nat_tests)
