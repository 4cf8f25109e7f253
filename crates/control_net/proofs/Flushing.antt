-- Which places keep their packets, and the number of the oldest packet that is sent back.
use Rattle.std.specs.Prelude.{◌≡◌, ℕ, zero, suc, ◌+◌, ◌<◌, ◌≤◌, nat_le, Bool, true, false, ◌&&◌, ◌||◌, cond, List, [], ◌∷◌, length, drop}
use Rattle.std.proofs.Common.{get_or, not, refl, sym, ap, ◌∙◌, arith}
use Rattle.std.proofs.lemmas.Bool.{false≢true, leb-true, lt-leb, and_parts, and_left, and_right, or_parts, or_from, not-true, not_from_true}
use Rattle.block_core.proofs.list_laws_laws.BoolLaws.{by_test}
use Rattle.net_core.specs.Value.{number_of}
use Rattle.control_net.specs.declared.ring_net.shape.ControlShape.{ControlShape}
use Rattle.control_net.specs.RingNet.Control.{packets}
use Rattle.control_net.specs.Control.{returns, some_returns, flushed, oldest}

pub and_true : (h : Bool) → h && true ≡ h
and_true true = refl
and_true false = refl

-- some of two does, and the second does not
first_does : (a b : Bool) → a || b ≡ true → b ≡ false → a ≡ true
first_does true b e f = refl
first_does false b e f = absurd (false≢true (sym f ∙ e))

number_most : (h : Bool) → number_of h ≤ 1
number_most true = omega arith
number_most false = omega arith

less_kept : (h b : Bool) → number_of (h && b) ≤ number_of h
less_kept true b = number_most b
less_kept false b = omega arith

module _ (c : ControlShape) (reload : ℕ → Bool) where
  -- ---- who sends back
  -- no place past the commit place
  pub past : (hs : List Bool) (k : ℕ) → c.commit < k → some_returns c reload k hs ≡ false
  past [] k l = refl
  past (h ∷ hs) k l = or_from (returns c reload k h) (some_returns c reload (suc k) hs) (and_left (nat_le k c.commit) (h && reload k) (lt-leb k c.commit l)) (past hs (suc k) (omega (arith, l)))

  none_at : (k : ℕ) → returns c reload k false ≡ false
  none_at k = and_right (nat_le k c.commit) (false && reload k) refl

  -- a place or an older one does where it does, or the next older one or an older one
  pub by_next : (hs : List Bool) (k j : ℕ) → some_returns c reload j (drop k hs) ≡ (returns c reload j (get_or hs k false) || some_returns c reload (suc j) (drop (suc k) hs))
  by_next [] zero j = sym (or_from (returns c reload j false) false (none_at j) refl)
  by_next [] (suc k) j = sym (or_from (returns c reload j false) false (none_at j) refl)
  by_next (h ∷ hs) zero j = refl
  by_next (h ∷ hs) (suc k) j = by_next hs k j

  -- ---- what is kept
  pub flushed_length : (hs : List Bool) (k : ℕ) → length (flushed c reload k hs) ≡ length hs
  flushed_length [] k = refl
  flushed_length (h ∷ hs) k = ap suc (flushed_length hs (suc k))

  pub kept_at : (hs : List Bool) (k j : ℕ) → get_or (flushed c reload j hs) k false ≡ (get_or hs k false && not (some_returns c reload (j + k) (drop k hs)))
  kept_at [] k j = refl
  kept_at (h ∷ hs) zero j = let e : j ≡ j + 0 = omega arith in ap (λ n. h && not (some_returns c reload n (h ∷ hs))) e
  kept_at (h ∷ hs) (suc k) j = let e : suc j + k ≡ j + suc k = omega arith in kept_at hs k (suc j) ∙ ap (λ n. get_or hs k false && not (some_returns c reload n (drop k hs))) e

  -- past the commit place all is kept
  pub kept_past : (hs : List Bool) (k : ℕ) → c.commit < k → get_or (flushed c reload 0 hs) k false ≡ get_or hs k false
  kept_past hs k l = let z : 0 + k ≡ k = omega arith in kept_at hs k 0 ∙ ap (λ n. get_or hs k false && not (some_returns c reload n (drop k hs))) z ∙ ap (λ b. get_or hs k false && not b) (past (drop k hs) k l) ∙ and_true (get_or hs k false)

  -- where none is sent back
  pub all_kept : (hs : List Bool) (k : ℕ) → some_returns c reload k hs ≡ false → flushed c reload k hs ≡ hs
  all_kept [] k e = refl
  all_kept (h ∷ hs) k e =
      let rest = all_kept hs (suc k) (or_parts (returns c reload k h) (some_returns c reload (suc k) hs) e).1 in
      let here : (h && not (some_returns c reload k (h ∷ hs))) ≡ h = ap (λ b. h && not b) e ∙ and_true h in
      λ j. here j ∷ rest j

  pub held_before : (hs : List Bool) (k j : ℕ) → get_or (flushed c reload k hs) j false ≡ true → get_or hs j false ≡ true
  held_before hs k j e = (and_parts (get_or hs j false) (not (some_returns c reload (k + j) (drop j hs))) (sym (kept_at hs j k) ∙ e)).0

  -- After a packet that is kept all are.
  pub older_kept : (hs : List Bool) (k j : ℕ) → get_or (flushed c reload k hs) j false ≡ true → drop (suc j) (flushed c reload k hs) ≡ drop (suc j) hs
  older_kept [] k j e = absurd (false≢true e)
  older_kept (h ∷ hs) k zero e =
      let none = not-true (some_returns c reload k (h ∷ hs)) (and_parts h (not (some_returns c reload k (h ∷ hs))) e).1 in
      all_kept hs (suc k) (or_parts (returns c reload k h) (some_returns c reload (suc k) hs) none).1
  older_kept (h ∷ hs) k (suc j) e = older_kept hs (suc k) j e

  pub fewer_kept : (hs : List Bool) (k : ℕ) → packets (flushed c reload k hs) ≤ packets hs
  fewer_kept [] k = omega arith
  fewer_kept (h ∷ hs) k = let i = fewer_kept hs (suc k) in let l = less_kept h (not (some_returns c reload k (h ∷ hs))) in omega (arith, i, l)

  -- ---- numbers
  -- The oldest packet that is sent back has the number of those that are kept before it.
  pub oldest_is : (a : ℕ) (hs : List Bool) (ns : List ℕ) (k : ℕ) → k + length ns ≡ suc c.commit → ((j : ℕ) → k + j ≤ c.commit → get_or hs j false ≡ true → get_or ns j 0 ≡ a + packets (drop (suc j) hs))
      → some_returns c reload k hs ≡ true → oldest c reload k hs ns ≡ a + packets (flushed c reload k hs)
  oldest_is a [] ns k l n e = absurd (false≢true e)
  oldest_is a (h ∷ hs) [] k l n e = absurd (false≢true (sym (past (h ∷ hs) k (omega (arith, l))) ∙ e))
  oldest_is a (h ∷ hs) (m ∷ ns) k l n e =
      let none : number_of (h && not (some_returns c reload k (h ∷ hs))) ≡ 0 = ap number_of (and_right h (not (some_returns c reload k (h ∷ hs))) (not_from_true (some_returns c reload k (h ∷ hs)) e)) in
      let further : (j : ℕ) → suc k + j ≤ c.commit → get_or hs j false ≡ true → get_or ns j 0 ≡ a + packets (drop (suc j) hs) = λ j q f. n (suc j) (omega (arith, q)) f in
      by_test (λ b. cond b (oldest c reload (suc k) hs ns) m ≡ a + packets (flushed c reload k (h ∷ hs))) (some_returns c reload (suc k) hs)
      (λ f. let i = oldest_is a hs ns (suc k) (omega (arith, l)) further f in omega (arith, i, none))
      (λ f.
      let does = and_parts (nat_le k c.commit) (h && reload k) (first_does (returns c reload k h) (some_returns c reload (suc k) hs) e f) in
      let low = leb-true k c.commit does.0 in
      let own : m ≡ a + packets hs = n 0 (omega (arith, low)) (and_parts h (reload k) does.1).0 in
      let same : packets (flushed c reload (suc k) hs) ≡ packets hs = ap packets (all_kept hs (suc k) f) in
      omega (arith, own, same, none))
