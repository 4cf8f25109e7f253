-- What is kept of frames becomes more.
use Rattle.std.specs.Prelude.{Contains, ◌==◌, ◌/◌}
use Rattle.std.proofs.Common.{◌≡◌, ◌∙◌, ◌⊎◌, inl, inr, ℕ, ◌+◌, ◌<◌, ◌≤◌, Bool, true, false, Some, All, List, [], length, get_or, refl, sym, ap, subst, arith}
use Rattle.std.proofs.lemmas.Bool.{eqb-true, eqb-false}
use Rattle.std.proofs.lemmas.List.Elements.{Contains-get_or, All-contains, recursion_from_All}
use Rattle.hazard_core.specs.cell_core.declared.operator.Operator.{Operator}
use Rattle.hazard_core.specs.cell_core.declared.operator.Operator.TheVariants.{Byte}
use Rattle.hazard_core.specs.cell_core.Cells.{CellView, cell_at}
use Rattle.frame_net.specs.declared.held.Kept.{Kept}
use Rattle.frame_net.specs.declared.held.Kept.TheVariants.{Word}
use Rattle.frame_net.specs.declared.held.Kept.TheVariants as kept
use Rattle.frame_net.specs.Gather.{IsKept}
use Rattle.hazard_core.specs.cell_core.Formed.{IsInRange}
use Rattle.pipe_parts.specs.PipeDraft.Sources.{kept_for, IsTakenBy, AreKeptFor}
use Rattle.pipe_parts.specs.PipeDraft.Keeping.{KeepsMore}

module _ (cells : List CellView) (listed : List ℕ) where
  pub keeps_none : (A : Kept → Type 0) (most : ℕ) (old : List Kept) → ((x : Kept) → A x → ¬ IsTakenBy cells listed x) → KeepsMore cells listed A most old old
  keeps_none A most old never = record { count = omega arith; stays = λ x c. c; met = λ x s t. absurd (never x s t); some = λ x c. inl c }

  pub keeps_both : (A B : Kept → Type 0) (m n : ℕ) (old mid new : List Kept) → KeepsMore cells listed A m old mid → KeepsMore cells listed B n mid new → KeepsMore cells listed (λ x. A x ⊎ B x) (m + n) old new
  keeps_both A B m n old mid new f g = record {
    count = omega (arith, f.count, g.count);
    stays = λ x c. g.stays x (f.stays x c);
    met = λ x s t. by_some x s t;
    some = λ x c. by_old x (g.some x c);
  }
    where
      by_some : (x : Kept) → A x ⊎ B x → IsTakenBy cells listed x → Contains new x
      by_some x (inl a) t = g.stays x (f.met x a t)
      by_some x (inr b) t = g.met x b t

      by_mid : (x : Kept) → Contains old x ⊎ (A x × IsTakenBy cells listed x) → Contains old x ⊎ ((A x ⊎ B x) × IsTakenBy cells listed x)
      by_mid x (inl c) = inl c
      by_mid x (inr h) = inr (inl h.0, h.1)

      by_old : (x : Kept) → Contains mid x ⊎ (B x × IsTakenBy cells listed x) → Contains old x ⊎ ((A x ⊎ B x) × IsTakenBy cells listed x)
      by_old x (inl c) = by_mid x (f.some x c)
      by_old x (inr h) = inr (inr h.0, h.1)

  pub keeps_as : (A B : Kept → Type 0) (m n : ℕ) (old new : List Kept) → ((x : Kept) → A x → B x) → ((x : Kept) → B x → A x) → m ≤ n → KeepsMore cells listed A m old new → KeepsMore cells listed B n old new
  keeps_as A B m n old new to from le h = record {
    count = omega (arith, h.count);
    stays = h.stays;
    met = λ x b t. h.met x (from x b) t;
    some = λ x c. by_case x (h.some x c);
  }
    where
      by_case : (x : Kept) → Contains old x ⊎ (A x × IsTakenBy cells listed x) → Contains old x ⊎ (B x × IsTakenBy cells listed x)
      by_case x (inl c) = inl c
      by_case x (inr h) = inr (to x h.0, h.1)

  -- ---- word after word
  abbrev pub Words : ℕ → Kept → Type 0
  Words n x = (j : ℕ) × (j < n) × (x ≡ Word j)

  pub no_words : (old : List Kept) → KeepsMore cells listed (Words 0) 0 old old
  no_words old = keeps_none (Words 0) 0 old (λ x s t. none s.0 s.1)
    where
      none : (j : ℕ) → j < 0 → ⊥
      none j l = omega arith

  pub words_more : (n : ℕ) (old mid new : List Kept) → KeepsMore cells listed (Words n) n old mid → KeepsMore cells listed (λ x. x ≡ Word n) 1 mid new → KeepsMore cells listed (Words (n + 1)) (n + 1) old new
  words_more n old mid new f g = keeps_as (λ x. Words n x ⊎ (x ≡ Word n)) (Words (n + 1)) (n + 1) (n + 1) old new to from (omega arith) (keeps_both (Words n) (λ x. x ≡ Word n) n 1 old mid new f g)
    where
      to : (x : Kept) → Words n x ⊎ (x ≡ Word n) → Words (n + 1) x
      to x (inl (j, l, e)) = (j, omega arith, e)
      to x (inr e) = (n, omega arith, e)

      last : (x : Kept) (j : ℕ) → j < n + 1 → x ≡ Word j → (t : Bool) → (j == n) ≡ t → Words n x ⊎ (x ≡ Word n)
      last x j l e true s = inr (e ∙ ap Word (eqb-true j n s))
      last x j l e false s = inl (j, omega (arith, l, eqb-false j n s), e)

      from : (x : Kept) → Words (n + 1) x → Words n x ⊎ (x ≡ Word n)
      from x (j, l, e) = last x j l e (j == n) refl

  -- ---- all of it
  word_small : (op : Operator) (j : ℕ) → IsInRange op → kept_for op ≡ Some (Word j) → j < 32
  word_small (Byte i) j w e = let s : i / 8 ≡ j = cc in omega (arith, s, w)
  word_small op j w e = cc

  abbrev pub AnyKept : Kept → Type 0
  AnyKept x = (Words 32 x ⊎ (x ≡ kept.Ifindex)) ⊎ (x ≡ kept.Time)

  pub all_more : (words more all : List Kept) → KeepsMore cells listed (Words 32) 32 [] words → KeepsMore cells listed (λ x. x ≡ kept.Ifindex) 1 words more → KeepsMore cells listed (λ x. x ≡ kept.Time) 1 more all → KeepsMore cells listed AnyKept 34 [] all
  all_more words more all f g h =
      keeps_both (λ x. Words 32 x ⊎ (x ≡ kept.Ifindex)) (λ x. x ≡ kept.Time) 33 1 [] more all (keeps_both (Words 32) (λ x. x ≡ kept.Ifindex) 32 1 [] words more f g) h

  module _ (range : (k : ℕ) → k < length cells → IsInRange (cell_at cells k).op) (within : All (λ k. k < length cells) listed) (all : List Kept) (more : KeepsMore cells listed AnyKept 34 [] all) where
    taken : (what : Kept) → IsTakenBy cells listed what → Contains all what
    taken (Word j) (k, c, e) = more.met (Word j) (inl (inl (j, word_small (cell_at cells k).op j (range k (All-contains (λ i. i < length cells) listed k within c)) e, refl))) (k, c, e)
    taken kept.Ifindex t = more.met kept.Ifindex (inl (inr refl)) t
    taken kept.Time t = more.met kept.Time (inr refl) t

    kinds : (x : Kept) → AnyKept x → IsKept x
    kinds x (inl (inl (j, l, e))) = subst IsKept (sym e) (omega (arith, l))
    kinds x (inl (inr e)) = subst IsKept (sym e) tt
    kinds x (inr e) = subst IsKept (sym e) tt

    none : (x : Kept) → Contains {X = Kept} [] x → ⊥
    none x (i, lt, e) = omega (arith, lt)

    only : (x : Kept) → Contains [] x ⊎ (AnyKept x × IsTakenBy cells listed x) → AnyKept x × IsTakenBy cells listed x
    only x (inl c) = absurd (none x c)
    only x (inr h) = h

    pub are_kept : AreKeptFor cells listed all
    are_kept = record {
      few = omega (arith, more.count);
      words = recursion_from_All IsKept all (λ i e lt. kinds (get_or all i e) (only (get_or all i e) (more.some (get_or all i e) (Contains-get_or all i e lt))).0);
      taken = taken;
      only = λ x c. (only x (more.some x c)).1;
    }
