-- Lists of which some elements are kept, and the new numbers of these.
use Rattle.std.specs.Prelude.{◌≡◌, ℕ, zero, suc, ◌+◌, ◌<◌, ◌≤◌, Bool, true, false, cond, ◌^◌, List, [], ◌∷◌, ◌++◌, length, drop, replicate, slice_set, count_by}
use Rattle.std.proofs.Common.{get_or, refl, sym, ap, ◌∙◌, arith, subst, append_assoc}
use Rattle.std.proofs.lemmas.List.{append-nil}
use Rattle.std.proofs.lemmas.List.Recursion.{is_count_by}
use Rattle.net_core.specs.declared.tree.Word.{Word}
use Rattle.net_core.specs.declared.design.Declared.{Declared}
use Rattle.net_core.specs.declared.design.Declared.TheVariants as declared
use Rattle.net_core.specs.Names.{is_register}
use Rattle.net_core.specs.Clock.{first_words, first_memories}
use Rattle.net_core.proofs.DeclaredLaws.{words_append, memories_append}
use Rattle.net_optimize.specs.Renumber.{dropped, numbers, kept}

length_kept : {A : Type 0} (ks : List Bool) (xs : List A) → length (kept ks xs) ≤ length ks
length_kept [] xs = omega arith
length_kept (k ∷ ks) [] = omega arith
length_kept (true ∷ ks) (x ∷ xs) = let l = length_kept ks xs in omega arith
length_kept (false ∷ ks) (x ∷ xs) = let l = length_kept ks xs in omega arith

pub length_kept_same : {A B : Type 0} (ks : List Bool) (xs : List A) (ys : List B) → length ks ≡ length xs → length ks ≡ length ys → length (kept ks xs) ≡ length (kept ks ys)
length_kept_same [] xs ys l m = refl
length_kept_same (k ∷ ks) [] ys l m = absurd (omega arith)
length_kept_same (k ∷ ks) (x ∷ xs) [] l m = absurd (omega arith)
length_kept_same (true ∷ ks) (x ∷ xs) (y ∷ ys) l m = let h = length_kept_same ks xs ys (omega arith) (omega arith) in omega arith
length_kept_same (false ∷ ks) (x ∷ xs) (y ∷ ys) l m = length_kept_same ks xs ys (omega arith) (omega arith)

-- the place of an element among those that are kept
pub record Place {A : Type 0} (kept_ones all : List A) (d : A) (at number i : ℕ) : Type 0 where
  pub place : ℕ
  pub is : number ≡ at + place
  pub same : get_or kept_ones place d ≡ get_or all i d

-- what has a number that some element has is kept
pub placed : {A : Type 0} (ks : List Bool) (xs : List A) (d : A) (at i : ℕ) → length ks ≡ length xs → at + length ks ≤ dropped → get_or (numbers at ks) i dropped < at + length (kept ks xs)
    → Place (kept ks xs) xs d at (get_or (numbers at ks) i dropped) i
placed [] xs d at i l few h = absurd (omega arith)
placed (k ∷ ks) [] d at i l few h = absurd (omega arith)
placed (true ∷ ks) (x ∷ xs) d at zero l few h = record { place = 0; is = omega arith; same = refl }
placed (true ∷ ks) (x ∷ xs) d at (suc i) l few h =
    let p = placed ks xs d (suc at) i (omega arith) (omega arith) (omega arith) in record { place = suc p.place; is = omega (arith, p.is); same = p.same }
placed (false ∷ ks) (x ∷ xs) d at zero l few h = absurd (omega (arith, length_kept ks xs))
placed (false ∷ ks) (x ∷ xs) d at (suc i) l few h =
    let p = placed ks xs d at i (omega arith) (omega arith) h in record { place = p.place; is = p.is; same = p.same }

-- ---- an element is set
pub set_dropped : {A : Type 0} (ks : List Bool) (xs : List A) (at i : ℕ) (x : A) → at + length ks ≤ dropped → get_or (numbers at ks) i dropped ≡ dropped → kept ks (slice_set xs i x) ≡ kept ks xs
set_dropped [] xs at i x few h = refl
set_dropped (k ∷ ks) [] at i x few h = refl
set_dropped (true ∷ ks) (y ∷ xs) at zero x few h = absurd (omega arith)
set_dropped (true ∷ ks) (y ∷ xs) at (suc i) x few h = ap (λ l. y ∷ l) (set_dropped ks xs (suc at) i x (omega arith) h)
set_dropped (false ∷ ks) (y ∷ xs) at zero x few h = refl
set_dropped (false ∷ ks) (y ∷ xs) at (suc i) x few h = set_dropped ks xs at i x (omega arith) h

numbers_from : (ks : List Bool) (at i : ℕ) → at + length ks ≤ dropped → at ≤ get_or (numbers at ks) i dropped
numbers_from [] at i few = omega arith
numbers_from (true ∷ ks) at zero few = omega arith
numbers_from (true ∷ ks) at (suc i) few = let h = numbers_from ks (suc at) i (omega arith) in omega arith
numbers_from (false ∷ ks) at zero few = omega arith
numbers_from (false ∷ ks) at (suc i) few = numbers_from ks at i (omega arith)

pub numbers_most : (ks : List Bool) (at i : ℕ) → at + length ks ≤ dropped → get_or (numbers at ks) i dropped ≤ dropped
numbers_most [] at i few = omega arith
numbers_most (true ∷ ks) at zero few = omega arith
numbers_most (true ∷ ks) at (suc i) few = numbers_most ks (suc at) i (omega arith)
numbers_most (false ∷ ks) at zero few = omega arith
numbers_most (false ∷ ks) at (suc i) few = numbers_most ks at i (omega arith)

pub set_numbered : {A : Type 0} (ks : List Bool) (xs : List A) (at i n : ℕ) (x : A) → at + length ks ≤ dropped → at + n < dropped → get_or (numbers at ks) i dropped ≡ at + n
    → slice_set (kept ks xs) n x ≡ kept ks (slice_set xs i x)
set_numbered [] xs at i n x few small h = refl
set_numbered (k ∷ ks) [] at i n x few small h = refl
set_numbered (true ∷ ks) (y ∷ xs) at zero zero x few small h = refl
set_numbered (true ∷ ks) (y ∷ xs) at zero (suc n) x few small h = absurd (omega arith)
set_numbered (true ∷ ks) (y ∷ xs) at (suc i) zero x few small h = absurd (omega (arith, numbers_from ks (suc at) i (omega arith)))
set_numbered (true ∷ ks) (y ∷ xs) at (suc i) (suc n) x few small h = ap (λ l. y ∷ l) (set_numbered ks xs (suc at) i n x (omega arith) (omega arith) (omega (arith, h)))
set_numbered (false ∷ ks) (y ∷ xs) at zero n x few small h = absurd (omega arith)
set_numbered (false ∷ ks) (y ∷ xs) at (suc i) n x few small h = set_numbered ks xs at i n x (omega arith) small h

-- ---- one element more in a loop
kept_first : {A : Type 0} (n : ℕ) (ks : List Bool) (x : A) (xs : List A) → get_or ks n false ≡ true → kept (drop n ks) (x ∷ xs) ≡ x ∷ kept (drop (suc n) ks) xs
kept_first n [] x xs h = absurd (cc)
kept_first zero (true ∷ ks) x xs h = refl
kept_first zero (false ∷ ks) x xs h = absurd (cc)
kept_first (suc n) (k ∷ ks) x xs h = kept_first n ks x xs h

dropped_first : {A : Type 0} (n : ℕ) (ks : List Bool) (x : A) (xs : List A) → get_or ks n false ≡ false → kept (drop n ks) (x ∷ xs) ≡ kept (drop (suc n) ks) xs
dropped_first zero [] x xs h = refl
dropped_first (suc n) [] x xs h = refl
dropped_first zero (true ∷ ks) x xs h = absurd (cc)
dropped_first zero (false ∷ ks) x xs h = refl
dropped_first (suc n) (k ∷ ks) x xs h = dropped_first n ks x xs h

pub kept_next : {A : Type 0} (n : ℕ) (ks : List Bool) (x : A) (xs : List A) → get_or ks n false ≡ true → kept (drop n ks) (x ∷ xs) ≡ x ∷ kept (drop (n + 1) ks) xs
kept_next n ks x xs h = let e : suc n ≡ n + 1 = omega arith in kept_first n ks x xs h ∙ ap (λ m. x ∷ kept (drop m ks) xs) e

pub dropped_next : {A : Type 0} (n : ℕ) (ks : List Bool) (x : A) (xs : List A) → get_or ks n false ≡ false → kept (drop n ks) (x ∷ xs) ≡ kept (drop (n + 1) ks) xs
dropped_next n ks x xs h = let e : suc n ≡ n + 1 = omega arith in dropped_first n ks x xs h ∙ ap (λ m. kept (drop m ks) xs) e

pub kept_none : {A : Type 0} (ks : List Bool) → kept {A = A} ks [] ≡ []
kept_none [] = refl
kept_none (k ∷ ks) = refl

-- ---- what is declared
one_counted : (d : Declared) (ds : List Declared) → length (first_words (d ∷ ds)) ≡ cond (is_register d) (1 + length (first_words ds)) (length (first_words ds))
one_counted declared.Integer ds = refl
one_counted (declared.Register w) ds = omega arith
one_counted (declared.Memory i w n) ds = refl

pub registers_counted : (ds : List Declared) → count_by is_register ds ≡ length (first_words ds)
registers_counted ds = sym (is_count_by (λ l. length (first_words l)) is_register refl one_counted ds)

pub words_counted : (ds : List Declared) → length (first_words ds) ≤ length ds
words_counted [] = omega arith
words_counted (declared.Integer ∷ ds) = let h = words_counted ds in omega arith
words_counted (declared.Register w ∷ ds) = let h = words_counted ds in omega arith
words_counted (declared.Memory i w n ∷ ds) = let h = words_counted ds in omega arith

-- what a loop has kept of what is declared, where so many registers were seen and these are left
pub record IsDeclared (keep : List Bool) (all left : List Declared) (register : ℕ) (firsts : List Word) (contents : List (List Word)) : Type 0 where
  pub words : first_words all ++ kept (drop register keep) (first_words left) ≡ firsts
  pub memories : first_memories all ++ first_memories left ≡ contents

module _ (keep : List Bool) (all rest : List Declared) (register : ℕ) (firsts : List Word) (contents : List (List Word)) where
  pub register_kept : (x : Declared) → is_register x ≡ true → get_or keep register false ≡ true → IsDeclared keep all (x ∷ rest) register firsts contents → IsDeclared keep (all ++ x ∷ []) rest (register + 1) firsts contents
  register_kept declared.Integer is k h = absurd (cc)
  register_kept (declared.Register w) is k h = record {
    words = ap (λ l. l ++ kept (drop (register + 1) keep) (first_words rest)) (words_append all (declared.Register w ∷ []))
        ∙ append_assoc (first_words all) (w ∷ []) _ ∙ sym (ap (λ l. first_words all ++ l) (kept_next register keep w (first_words rest) k)) ∙ h.words;
    memories = ap (λ l. l ++ first_memories rest) (memories_append all (declared.Register w ∷ []) ∙ append-nil (first_memories all)) ∙ h.memories;
  }
  register_kept (declared.Memory i w n) is k h = absurd (cc)

  pub register_dropped : (x : Declared) → is_register x ≡ true → get_or keep register false ≡ false → IsDeclared keep all (x ∷ rest) register firsts contents → IsDeclared keep all rest (register + 1) firsts contents
  register_dropped declared.Integer is k h = absurd (cc)
  register_dropped (declared.Register w) is k h = record {
    words = sym (ap (λ l. first_words all ++ l) (dropped_next register keep w (first_words rest) k)) ∙ h.words;
    memories = h.memories;
  }
  register_dropped (declared.Memory i w n) is k h = absurd (cc)

  pub other_kept : (x : Declared) → is_register x ≡ false → IsDeclared keep all (x ∷ rest) register firsts contents → IsDeclared keep (all ++ x ∷ []) rest register firsts contents
  other_kept declared.Integer is h = record {
    words = ap (λ l. l ++ kept (drop register keep) (first_words rest)) (words_append all (declared.Integer ∷ []) ∙ append-nil (first_words all)) ∙ h.words;
    memories = ap (λ l. l ++ first_memories rest) (memories_append all (declared.Integer ∷ []) ∙ append-nil (first_memories all)) ∙ h.memories;
  }
  other_kept (declared.Register w) is h = absurd (cc)
  other_kept (declared.Memory i w n) is h = record {
    words = ap (λ l. l ++ kept (drop register keep) (first_words rest)) (words_append all (declared.Memory i w n ∷ []) ∙ append-nil (first_words all)) ∙ h.words;
    memories = ap (λ l. l ++ first_memories rest) (memories_append all (declared.Memory i w n ∷ []))
        ∙ append_assoc (first_memories all) (replicate (2 ^ i) w ∷ []) (first_memories rest) ∙ h.memories;
  }

pub moved : (keep : List Bool) (all all_too rest : List Declared) (register register_too : ℕ) (firsts : List Word) (contents : List (List Word)) → all_too ≡ all → register_too ≡ register
    → IsDeclared keep all rest register firsts contents → IsDeclared keep all_too rest register_too firsts contents
moved keep all all_too rest register register_too firsts contents a r h = rw (a, r) h

-- where none is left
pub all_declared : (keep : List Bool) (all left : List Declared) (register : ℕ) (firsts : List Word) (contents : List (List Word)) → left ≡ [] → IsDeclared keep all left register firsts contents
    → (first_words all ≡ firsts) × (first_memories all ≡ contents)
all_declared keep all left register firsts contents e h =
    let t : IsDeclared keep all [] register firsts contents = subst (λ l. IsDeclared keep all l register firsts contents) e h in (
      sym (ap (λ l. first_words all ++ l) (kept_none (drop register keep)) ∙ append-nil (first_words all)) ∙ t.words,
      sym (append-nil (first_memories all)) ∙ t.memories,
    )
