-- Values of nets, each of which has a right side that depends on earlier nets alone: every order of events ends, and in the
-- same values.
use Rattle.std.specs.Prelude.{◌==◌, not, if◌then◌else◌}
use Rattle.std.proofs.Common.{◌≡◌, ℕ, zero, suc, ◌+◌, ◌^◌, ◌<◌, ◌≤◌, Bool, true, false, List, [], ◌∷◌, length, get_or, refl, sym, ap, ◌∙◌, subst, arith, inl, inr}
use Rattle.std.specs.Prelude.{slice_set, All}
use Rattle.std.proofs.lemmas.Bool.{and_parts, and_from, eq-eqb, eqb-true, not-false, cases_lt, cond-true, cond-false}
use Rattle.std.proofs.lemmas.List.{get_or-set_same, get_or-set_other, length-set, ext_get_or}
use Rattle.std.proofs.Math.Nat.{two-pow-succ}
use Rattle.net_core.specs.declared.tree.Word.{Word}
use Rattle.net_core.specs.Value.{nothing, number_of}
use Rattle.net_core.proofs.WordLaws.{word_same}
use Rattle.event_sim.specs.Events.{same_word}

-- ---- words
same_itself : (a : Word) → same_word a a ≡ true
same_itself a = and_from (a.width == a.width) (a.value == a.value) (eq-eqb a.width a.width refl) (eq-eqb a.value a.value refl)

pub same_true : (a b : Word) → same_word a b ≡ true → a ≡ b
same_true a b h =
    let p = and_parts (a.width == b.width) (a.value == b.value) h in
    word_same a.width b.width a.value b.value (eqb-true a.width b.width p.0) (eqb-true a.value b.value p.1)

pub same_false : (a b : Word) → a ≡ b → not (same_word a b) ≡ false
same_false a b e = subst (λ x. not (same_word a x) ≡ false) e (ap not (same_itself a))

-- ---- numbers
one_small : 0 < 2 ^ 0
one_small = omega arith

more_small : (b : Bool) (n w : ℕ) → w < 2 ^ n → (if b then 2 ^ n else 0) + w < 2 ^ suc n
more_small true n w h = omega (arith, two-pow-succ n, h)
more_small false n w h = omega (arith, two-pow-succ n, h)

falls_here : (a b : Bool) (p u w : ℕ) → a ≡ false → b ≡ true → u < p → (if a then p else 0) + u < (if b then p else 0) + w
falls_here true b p u w e f h = absurd cc
falls_here false true p u w e f h = omega arith
falls_here false false p u w e f h = absurd cc

falls_later : (a b : Bool) (p u w : ℕ) → a ≡ b → u < w → (if a then p else 0) + u < (if b then p else 0) + w
falls_later a b p u w e h = subst (λ c. (if a then p else 0) + u < (if c then p else 0) + w) e (omega arith)

-- the value that the right side of a net has where nets store these words, which depends on earlier nets alone
pub record IsLocal (f : ℕ → List Word → Word) : Type 0 where
  pub same : (n : ℕ) (us ws : List Word) → ((k : ℕ) → k < n → get_or us k nothing ≡ get_or ws k nothing) → f n us ≡ f n ws

module _ (f : ℕ → List Word → Word) where
  abbrev pub active : List Word → ℕ → Bool
  active ws n = not (same_word (get_or ws n nothing) (f n ws))

  abbrev pub fire : List Word → ℕ → List Word
  fire ws n = slice_set ws n (f n ws)

  -- the active nets from one on as the digits of a binary number, an earlier net for a higher digit
  abbrev weight : List Word → ℕ → ℕ → ℕ
  weight ws n zero = 0
  weight ws n (suc left) = (if active ws n then 2 ^ left else 0) + weight ws (suc n) left

  -- events of these nets, one after another
  abbrev pub Happens : List Word → List ℕ → List Word → Type 0
  Happens us [] ws = us ≡ ws
  Happens us (n ∷ ns) ws = (n < length us) × (active us n ≡ true) × Happens (fire us n) ns ws

  abbrev pub Quiets : List Word → ℕ → Type 0
  Quiets ws n = (k : ℕ) → k < n → active ws k ≡ false

  abbrev pub pass : List Word → ℕ → List Word
  pass ws n = if active ws n then fire ws n else ws

  abbrev pub passes : List Word → List ℕ → List Word
  passes ws [] = ws
  passes ws (n ∷ ns) = passes (pass ws n) ns

  -- how many of these nets fire when they have their turn
  abbrev pub turns : List Word → List ℕ → ℕ
  turns ws [] = 0
  turns ws (n ∷ ns) = number_of (active ws n) + turns (pass ws n) ns

  module _ (local : IsLocal f) where
    pub inactive_is : (ws : List Word) (n : ℕ) → active ws n ≡ false → get_or ws n nothing ≡ f n ws
    inactive_is ws n h = same_true _ _ (not-false _ h)

    pub is_inactive : (ws : List Word) (n : ℕ) → get_or ws n nothing ≡ f n ws → active ws n ≡ false
    is_inactive ws n e = same_false _ _ e

    -- ---- one event
    before_kept : (ws : List Word) (n k : ℕ) → k < n → get_or (fire ws n) k nothing ≡ get_or ws k nothing
    before_kept ws n k l = get_or-set_other ws n k (f n ws) nothing (λ e. absurd (omega (arith, e, l)))

    right_kept : (ws : List Word) (n k : ℕ) → k ≤ n → f k (fire ws n) ≡ f k ws
    right_kept ws n k l = local.same k (fire ws n) ws (λ j m. before_kept ws n j (omega arith))

    -- an event changes nothing for the nets before
    pub active_before : (ws : List Word) (n k : ℕ) → k < n → active (fire ws n) k ≡ active ws k
    active_before ws n k l =
        ap (λ x. not (same_word x (f k (fire ws n)))) (before_kept ws n k l) ∙ ap (λ x. not (same_word (get_or ws k nothing) x)) (right_kept ws n k (omega arith))

    -- and the net itself is no longer active
    pub inactive_after : (ws : List Word) (n : ℕ) → n < length ws → active (fire ws n) n ≡ false
    inactive_after ws n l = is_inactive (fire ws n) n (get_or-set_same ws n (f n ws) nothing l ∙ sym (right_kept ws n n (omega arith)))

    -- ---- how many events there can be
    weight_small : (ws : List Word) (n left : ℕ) → weight ws n left < 2 ^ left
    weight_small ws n zero = one_small
    weight_small ws n (suc left) = more_small (active ws n) left (weight ws (suc n) left) (weight_small ws (suc n) left)

    weight_falls : (ws : List Word) (n : ℕ) → n < length ws → active ws n ≡ true → (k left : ℕ) → k ≤ n → n < k + left → weight (fire ws n) k left < weight ws k left
    weight_falls ws n l on k zero low high = absurd (omega arith)
    weight_falls ws n l on k (suc left) low high = elim (cases_lt k n) [
      | inl before ↦ falls_later (active (fire ws n) k) (active ws k) (2 ^ left) (weight (fire ws n) (suc k) left) (weight ws (suc k) left) (active_before ws n k before) (weight_falls ws n l on (suc k) left (omega arith) (omega arith))
      | inr from ↦
          let e : n ≡ k = omega arith in
          falls_here (active (fire ws n) k) (active ws k) (2 ^ left) (weight (fire ws n) (suc k) left) (weight ws (suc k) left)
          (subst (λ j. active (fire ws n) j ≡ false) e (inactive_after ws n l)) (subst (λ j. active ws j ≡ true) e on) (weight_small (fire ws n) (suc k) left)
    ]

    pub happens_length : (ns : List ℕ) (us ws : List Word) → Happens us ns ws → length ws ≡ length us
    happens_length [] us ws h = ap length (sym h)
    happens_length (n ∷ ns) us ws h = happens_length ns (fire us n) ws h.2 ∙ length-set us n (f n us)

    spent : (ns : List ℕ) (us ws : List Word) (all : ℕ) → length us ≡ all → Happens us ns ws → length ns + weight ws 0 all ≤ weight us 0 all
    spent [] us ws all count h = let e = ap (λ l. weight l 0 all) h in omega arith
    spent (n ∷ ns) us ws all count h =
        let rest = spent ns (fire us n) ws all (length-set us n (f n us) ∙ count) h.2 in
        let inside = h.0 in
        let falls = weight_falls us n h.0 h.1 0 all (omega arith) (omega arith) in
        omega (arith, rest, falls)

    pub few : (ns : List ℕ) (us ws : List Word) → Happens us ns ws → length ns < 2 ^ length us
    few ns us ws h =
        let all = spent ns us ws (length us) refl h in
        let small = weight_small us 0 (length us) in
        omega (arith, all, small)

    pub pass_length : (ws : List Word) (n : ℕ) → length (pass ws n) ≡ length ws
    pass_length ws n = by_test (active ws n)
      where
        by_test : (b : Bool) → length (if b then fire ws n else ws) ≡ length ws
        by_test true = length-set ws n (f n ws)
        by_test false = refl

    -- as many of these nets as fire when they have their turn
    turns_spent : (ns : List ℕ) (ws : List Word) (all : ℕ) → length ws ≡ all → All (λ n. n < all) ns → turns ws ns + weight (passes ws ns) 0 all ≤ weight ws 0 all
    turns_spent [] ws all count inside = omega arith
    turns_spent (n ∷ ns) ws all count inside =
        by_test (active ws n) refl (turns_spent ns (pass ws n) all (pass_length ws n ∙ count) (λ k d l. inside (suc k) d (omega arith)))
      where
        by_test : (b : Bool) → active ws n ≡ b → turns (pass ws n) ns + weight (passes (pass ws n) ns) 0 all ≤ weight (pass ws n) 0 all → number_of (active ws n) + turns (pass ws n) ns + weight (passes (pass ws n) ns) 0 all ≤ weight ws 0 all
        by_test true e rest =
            let here = inside 0 0 (omega arith) in
            let is : pass ws n ≡ fire ws n = cond-true (active ws n) (fire ws n) ws e in
            let one : number_of (active ws n) ≡ 1 = ap number_of e in
            let same : weight (pass ws n) 0 all ≡ weight (fire ws n) 0 all = ap (λ l. weight l 0 all) is in
            let falls = weight_falls ws n (omega (arith, here, count)) e 0 all (omega arith) (omega (arith, here)) in
            omega (arith, rest, one, same, falls)
        by_test false e rest =
            let is : pass ws n ≡ ws = cond-false (active ws n) (fire ws n) ws e in
            let none : number_of (active ws n) ≡ 0 = ap number_of e in
            let same : weight (pass ws n) 0 all ≡ weight ws 0 all = ap (λ l. weight l 0 all) is in
            omega (arith, rest, none, same)

    pub turns_few : (ns : List ℕ) (ws : List Word) → All (λ n. n < length ws) ns → turns ws ns < 2 ^ length ws
    turns_few ns ws inside =
        let all = turns_spent ns ws (length ws) refl inside in
        let small = weight_small ws 0 (length ws) in
        omega (arith, all, small)

    -- ---- where they end
    agree : (us ws : List Word) (all : ℕ) → Quiets us all → Quiets ws all → (n : ℕ) → n ≤ all → (k : ℕ) → k < n → get_or us k nothing ≡ get_or ws k nothing
    agree us ws all p q zero le k l = absurd (omega arith)
    agree us ws all p q (suc n) le k l = elim (cases_lt k n) [
      | inl before ↦ agree us ws all p q n (omega arith) k before
      | inr from ↦
          let e : n ≡ k = omega arith in
          subst (λ j. get_or us j nothing ≡ get_or ws j nothing) e
          (inactive_is us n (p n (omega arith)) ∙ local.same n us ws (agree us ws all p q n (omega arith)) ∙ sym (inactive_is ws n (q n (omega arith))))
    ]

    -- values at which no net is active are the only ones
    pub one_end : (us ws : List Word) → length us ≡ length ws → Quiets us (length us) → Quiets ws (length us) → us ≡ ws
    one_end us ws count p q = ext_get_or nothing us ws count (λ k l. agree us ws (length us) p q (length us) (omega arith) k l)

    -- ---- sweeps
    -- nets that are not active stay so where none before them is
    pass_keeps : (ws : List Word) (n k : ℕ) → Quiets ws k → Quiets (pass ws n) k
    pass_keeps ws n k h = by_test (active ws n) refl
      where
        by_test : (b : Bool) → active ws n ≡ b → Quiets (if b then fire ws n else ws) k
        by_test false e = h
        by_test true e = λ j l. elim (cases_lt n k) [
          | inl before ↦ let off = h n before in absurd (cc (e, off))
          | inr from ↦ active_before ws n j (omega arith) ∙ h j l
        ]

    pass_gains : (ws : List Word) (n : ℕ) → n < length ws → Quiets ws n → Quiets (pass ws n) (suc n)
    pass_gains ws n inside h = by_test (active ws n) refl
      where
        last : (us : List Word) → Quiets us n → active us n ≡ false → Quiets us (suc n)
        last us before here k l = elim (cases_lt k n) [
          | inl lower ↦ before k lower
          | inr from ↦ let e : n ≡ k = omega arith in subst (λ j. active us j ≡ false) e here
        ]

        by_test : (b : Bool) → active ws n ≡ b → Quiets (if b then fire ws n else ws) (suc n)
        by_test false e = last ws h e
        by_test true e = last (fire ws n) (λ j l. active_before ws n j l ∙ h j l) (inactive_after ws n inside)

    passes_keep : (ns : List ℕ) (ws : List Word) (k : ℕ) → Quiets ws k → Quiets (passes ws ns) k
    passes_keep [] ws k h = h
    passes_keep (n ∷ ns) ws k h = passes_keep ns (pass ws n) k (pass_keeps ws n k h)

    -- a sweep in which the first net that may be active has its turn leaves one more that is not
    pub passes_gain : (ns : List ℕ) (ws : List Word) (n i : ℕ) → i < length ns → get_or ns i n ≡ n → n < length ws → Quiets ws n → Quiets (passes ws ns) (suc n)
    passes_gain [] ws n i l at inside h = absurd (omega arith)
    passes_gain (m ∷ ns) ws n zero l at inside h = passes_keep ns (pass ws m) (suc n) (subst (λ k. Quiets (pass ws k) (suc n)) (sym at) (pass_gains ws n inside h))
    passes_gain (m ∷ ns) ws n (suc i) l at inside h = passes_gain ns (pass ws m) n i (omega arith) at (omega (arith, inside, pass_length ws m)) (pass_keeps ws m n h)

    -- where none fires nothing changes, and each of them is not active
    idle_first : (n : ℕ) (ns : List ℕ) (ws : List Word) → turns ws (n ∷ ns) ≡ 0 → (active ws n ≡ false) × (pass ws n ≡ ws) × (turns ws ns ≡ 0)
    idle_first n ns ws h = by_test (active ws n) refl
      where
        by_test : (b : Bool) → active ws n ≡ b → (active ws n ≡ false) × (pass ws n ≡ ws) × (turns ws ns ≡ 0)
        by_test true e = let one : number_of (active ws n) ≡ 1 = ap number_of e in absurd (omega arith)
        by_test false e =
            let same : pass ws n ≡ ws = cond-false (active ws n) (fire ws n) ws e in
            let later : turns (pass ws n) ns ≡ 0 = omega arith in
            (e, same, sym (ap (λ l. turns l ns) same) ∙ later)

    pub none_fires : (ns : List ℕ) (ws : List Word) → turns ws ns ≡ 0 → passes ws ns ≡ ws
    none_fires [] ws h = refl
    none_fires (n ∷ ns) ws h = let f = idle_first n ns ws h in ap (λ l. passes l ns) f.1 ∙ none_fires ns ws f.2

    pub none_active : (ns : List ℕ) (ws : List Word) (n i : ℕ) → turns ws ns ≡ 0 → i < length ns → get_or ns i n ≡ n → active ws n ≡ false
    none_active [] ws n i h l at = absurd (omega arith)
    none_active (m ∷ ns) ws n zero h l at = subst (λ k. active ws k ≡ false) at (idle_first m ns ws h).0
    none_active (m ∷ ns) ws n (suc i) h l at = none_active ns ws n i (idle_first m ns ws h).2 (omega arith) at
