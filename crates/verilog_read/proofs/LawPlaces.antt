-- Integers, registers and memories by their number among their like, and by their place among all that is declared.
use Rattle.std.proofs.Common.{◌≡◌, ℕ, zero, suc, ◌<◌, Bool, true, false, List, [], ◌∷◌, ◌++◌, length, get_or, refl, sym, ap, ◌∙◌, subst, arith}
use Rattle.std.specs.Prelude.{if◌then◌else◌, take, count_by}
use Rattle.std.proofs.lemmas.Bool.{cond-true, cond-false}
use Rattle.std.proofs.lemmas.List.Sums.{sum_by-cons}
use Rattle.net_core.specs.declared.design.Declared.{Declared}
use Rattle.net_core.specs.declared.design.Declared.TheVariants as declared
use Rattle.net_core.specs.Names.{is_register, is_memory, place_of}
use Rattle.net_core.specs.Width.{register_widths, memory_widths}
use Rattle.net_core.proofs.NameLaws.{place_here, place_past, place_other}

-- ---- counting
pub count_yes : (p : Declared → Bool) (x : Declared) (xs : List Declared) → p x ≡ true → count_by p (x ∷ xs) ≡ suc (count_by p xs)
count_yes p x xs h = omega (arith, cond-true {A = ℕ} (p x) 1 0 h, sum_by-cons (λ y. if p y then 1 else 0) x xs)

pub count_no : (p : Declared → Bool) (x : Declared) (xs : List Declared) → p x ≡ false → count_by p (x ∷ xs) ≡ count_by p xs
count_no p x xs h = omega (arith, cond-false {A = ℕ} (p x) 1 0 h, sum_by-cons (λ y. if p y then 1 else 0) x xs)

-- ---- from places to numbers
-- What stands at a place and passes has the number of those before it that pass.
pub record IsNumber (p : Declared → Bool) (xs : List Declared) (i k : ℕ) : Type 0 where
  pub place : place_of p xs k ≡ i
  pub below : k < count_by p xs

first_number : (p : Declared → Bool) (x : Declared) (xs : List Declared) → p x ≡ true → IsNumber p (x ∷ xs) 0 0
first_number p x xs h = record { place = place_here p x xs h; below = omega (arith, count_yes p x xs h) }

number_past : (p : Declared → Bool) (x : Declared) (xs prefix : List Declared) (i : ℕ) → IsNumber p xs i (count_by p prefix) → IsNumber p (x ∷ xs) (suc i) (count_by p (x ∷ prefix))
number_past p x xs prefix i n = by_test (p x) refl
  where
    by_test : (b : Bool) → p x ≡ b → IsNumber p (x ∷ xs) (suc i) (count_by p (x ∷ prefix))
    by_test true h = record {
      place = ap (place_of p (x ∷ xs)) (count_yes p x prefix h) ∙ place_past p x xs (count_by p prefix) h ∙ ap (λ (j : ℕ). suc j) n.place;
      below = omega (arith, count_yes p x prefix h, count_yes p x xs h, n.below);
    }
    by_test false h = record {
      place = ap (place_of p (x ∷ xs)) (count_no p x prefix h) ∙ place_other p x xs (count_by p prefix) h ∙ ap (λ (j : ℕ). suc j) n.place;
      below = omega (arith, count_no p x prefix h, count_no p x xs h, n.below);
    }

pub number_at : (p : Declared → Bool) (xs : List Declared) (i : ℕ) (d : Declared) → i < length xs → p (get_or xs i d) ≡ true → IsNumber p xs i (count_by p (take i xs))
number_at p [] i d l h = absurd (omega arith)
number_at p (x ∷ xs) zero d l h = first_number p x xs h
number_at p (x ∷ xs) (suc i) d l h = number_past p x xs (take i xs) i (number_at p xs i d (omega arith) h)

-- ---- from numbers to places
-- The place of a number: what stands there passes, and so many that pass stand before it.
pub record IsPlace (p : Declared → Bool) (xs : List Declared) (d : Declared) (k i : ℕ) : Type 0 where
  pub below : i < length xs
  pub passes : p (get_or xs i d) ≡ true
  pub number : count_by p (take i xs) ≡ k

first_place : (p : Declared → Bool) (x : Declared) (xs : List Declared) (d : Declared) → p x ≡ true → IsPlace p (x ∷ xs) d 0 0
first_place p x xs d h = record { below = omega arith; passes = h; number = refl }

place_yes : (p : Declared → Bool) (x : Declared) (xs : List Declared) (d : Declared) (k i : ℕ) → p x ≡ true → IsPlace p xs d k i → IsPlace p (x ∷ xs) d (suc k) (suc i)
place_yes p x xs d k i h s = record { below = omega (arith, s.below); passes = s.passes; number = count_yes p x (take i xs) h ∙ ap (λ (j : ℕ). suc j) s.number }

place_no : (p : Declared → Bool) (x : Declared) (xs : List Declared) (d : Declared) (k i : ℕ) → p x ≡ false → IsPlace p xs d k i → IsPlace p (x ∷ xs) d k (suc i)
place_no p x xs d k i h s = record { below = omega (arith, s.below); passes = s.passes; number = count_no p x (take i xs) h ∙ s.number }

-- past one that passes or not
place_next : (p : Declared → Bool) (x : Declared) (xs : List Declared) (d : Declared) → ((k : ℕ) → k < count_by p xs → IsPlace p xs d k (place_of p xs k)) → (k : ℕ) → k < count_by p (x ∷ xs) → IsPlace p (x ∷ xs) d k (place_of p (x ∷ xs) k)
place_next p x xs d more k l = by_test (p x) refl k l
  where
    by_test : (b : Bool) → p x ≡ b → (k : ℕ) → k < count_by p (x ∷ xs) → IsPlace p (x ∷ xs) d k (place_of p (x ∷ xs) k)
    by_test true h zero l = subst (IsPlace p (x ∷ xs) d 0) (sym (place_here p x xs h)) (first_place p x xs d h)
    by_test true h (suc k) l = subst (IsPlace p (x ∷ xs) d (suc k)) (sym (place_past p x xs k h)) (place_yes p x xs d k (place_of p xs k) h (more k (omega (arith, count_yes p x xs h))))
    by_test false h k l = subst (IsPlace p (x ∷ xs) d k) (sym (place_other p x xs k h)) (place_no p x xs d k (place_of p xs k) h (more k (omega (arith, count_no p x xs h))))

pub place_at : (p : Declared → Bool) (xs : List Declared) (d : Declared) (k : ℕ) → k < count_by p xs → IsPlace p xs d k (place_of p xs k)
place_at p [] d k l = absurd (omega arith)
place_at p (x ∷ xs) d k l = place_next p x xs d (place_at p xs d) k l

-- the place of a number in front of others
prefix_next : (p : Declared → Bool) (x : Declared) (xs ys : List Declared) → ((k : ℕ) → k < count_by p xs → place_of p (xs ++ ys) k ≡ place_of p xs k) → (k : ℕ) → k < count_by p (x ∷ xs) → place_of p (x ∷ (xs ++ ys)) k ≡ place_of p (x ∷ xs) k
prefix_next p x xs ys more k l = by_test (p x) refl k l
  where
    by_test : (b : Bool) → p x ≡ b → (k : ℕ) → k < count_by p (x ∷ xs) → place_of p (x ∷ (xs ++ ys)) k ≡ place_of p (x ∷ xs) k
    by_test true h zero l = place_here p x (xs ++ ys) h ∙ sym (place_here p x xs h)
    by_test true h (suc k) l = place_past p x (xs ++ ys) k h ∙ ap (λ (j : ℕ). suc j) (more k (omega (arith, count_yes p x xs h))) ∙ sym (place_past p x xs k h)
    by_test false h k l = place_other p x (xs ++ ys) k h ∙ ap (λ (j : ℕ). suc j) (more k (omega (arith, count_no p x xs h))) ∙ sym (place_other p x xs k h)

pub place_prefix : (p : Declared → Bool) (xs ys : List Declared) (k : ℕ) → k < count_by p xs → place_of p (xs ++ ys) k ≡ place_of p xs k
place_prefix p [] ys k l = absurd (omega arith)
place_prefix p (x ∷ xs) ys k l = prefix_next p x xs ys (place_prefix p xs ys) k l

-- ---- widths by number
-- something of each that passes
abbrev gathered : {A : Type 0} → (Declared → Bool) → (Declared → A) → List Declared → List A
gathered p f [] = []
gathered p f (x ∷ xs) = if p x then f x ∷ gathered p f xs else gathered p f xs

gathered_next : {A : Type 0} (p : Declared → Bool) (f : Declared → A) (x : Declared) (xs prefix : List Declared) (z a : A) → get_or (gathered p f xs) (count_by p prefix) z ≡ a → get_or (gathered p f (x ∷ xs)) (count_by p (x ∷ prefix)) z ≡ a
gathered_next {A} p f x xs prefix z a e = by_test (p x) refl
  where
    by_test : (b : Bool) → p x ≡ b → get_or (gathered p f (x ∷ xs)) (count_by p (x ∷ prefix)) z ≡ a
    by_test true t =
        ap (λ (ys : List A). get_or ys (count_by p (x ∷ prefix)) z) (cond-true (p x) (f x ∷ gathered p f xs) (gathered p f xs) t)
        ∙ ap (λ n. get_or (f x ∷ gathered p f xs) n z) (count_yes p x prefix t) ∙ e
    by_test false t =
        ap (λ (ys : List A). get_or ys (count_by p (x ∷ prefix)) z) (cond-false (p x) (f x ∷ gathered p f xs) (gathered p f xs) t)
        ∙ ap (λ n. get_or (gathered p f xs) n z) (count_no p x prefix t) ∙ e

gathered_at : {A : Type 0} (p : Declared → Bool) (f : Declared → A) (xs : List Declared) (i : ℕ) (d : Declared) (z : A) → i < length xs → p (get_or xs i d) ≡ true → get_or (gathered p f xs) (count_by p (take i xs)) z ≡ f (get_or xs i d)
gathered_at p f [] i d z l h = absurd (omega arith)
gathered_at p f (x ∷ xs) zero d z l h = ap (λ ys. get_or ys 0 z) (cond-true (p x) (f x ∷ gathered p f xs) (gathered p f xs) h)
gathered_at p f (x ∷ xs) (suc i) d z l h = gathered_next p f x xs (take i xs) z (f (get_or xs i d)) (gathered_at p f xs i d z (omega arith) h)

-- the bits of a register or of the words of a memory
abbrev pub bits_of : Declared → ℕ
bits_of declared.Integer = 0
bits_of (declared.Register w) = w.width
bits_of (declared.Memory i w n) = w.width

-- the bits of a memory's index
abbrev pub index_bits : Declared → ℕ
index_bits declared.Integer = 0
index_bits (declared.Register w) = 0
index_bits (declared.Memory i w n) = i

registers_gathered : (xs : List Declared) → register_widths xs ≡ gathered is_register bits_of xs
registers_gathered [] = refl
registers_gathered (declared.Integer ∷ xs) = registers_gathered xs
registers_gathered (declared.Register w ∷ xs) = ap (λ ys. w.width ∷ ys) (registers_gathered xs)
registers_gathered (declared.Memory i w n ∷ xs) = registers_gathered xs

memories_gathered : (xs : List Declared) → memory_widths xs ≡ gathered is_memory (λ x. (index_bits x, bits_of x)) xs
memories_gathered [] = refl
memories_gathered (declared.Integer ∷ xs) = memories_gathered xs
memories_gathered (declared.Register w ∷ xs) = memories_gathered xs
memories_gathered (declared.Memory i w n ∷ xs) = ap (λ ys. (i, w.width) ∷ ys) (memories_gathered xs)

pub register_bits : (xs : List Declared) (i : ℕ) (d : Declared) → i < length xs → is_register (get_or xs i d) ≡ true → get_or (register_widths xs) (count_by is_register (take i xs)) 0 ≡ bits_of (get_or xs i d)
register_bits xs i d l h = ap (λ ys. get_or ys (count_by is_register (take i xs)) 0) (registers_gathered xs) ∙ gathered_at is_register bits_of xs i d 0 l h

pub memory_bits : (xs : List Declared) (i : ℕ) (d : Declared) → i < length xs → is_memory (get_or xs i d) ≡ true → get_or (memory_widths xs) (count_by is_memory (take i xs)) (0, 0) ≡ (index_bits (get_or xs i d), bits_of (get_or xs i d))
memory_bits xs i d l h = ap (λ ys. get_or ys (count_by is_memory (take i xs)) (0, 0)) (memories_gathered xs) ∙ gathered_at is_memory (λ x. (index_bits x, bits_of x)) xs i d (0, 0) l h
