-- Lists one after another, and all elements of an iterator.
use Rattle.std.proofs.Common.{◌≡◌, ◌∙◌, ◌⊎◌, inl, inr, ℕ, zero, suc, ◌+◌, ◌*◌, ◌<◌, List, [], ◌∷◌, ◌++◌, length, map as map_list, get_or, append_assoc, append-nil, length-append, refl, sym, ap, subst, arith}
use Rattle.std.proofs.lemmas.List.{map-append, get_or_append_left, get_or-append-add, get_or_push}
use Rattle.std.proofs.lemmas.Bool.{cases_lt}
use Rattle.std.specs.List.{remove}
use Rattle.block_core.specs.Blocks.{Among}
use Rattle.hazard_core.specs.cell_core.Rows.{numbers}
use Rattle.pipe_design.specs.Order.{all_of, pairwise}

-- ---- an iterator that has nothing left has given all
pub all_yielded : {X : Type 0} (xs rest all : List X) → xs ++ rest ≡ all → length rest ≡ 0 → xs ≡ all
all_yielded xs [] all e h = sym (append-nil xs) ∙ e
all_yielded xs (x ∷ more) all e h = absurd (omega (arith, h))

pub left_more : {X : Type 0} (xs : List X) (x : X) (rest less all : List X) → rest ≡ x ∷ less → xs ++ rest ≡ all → (xs ++ x ∷ []) ++ less ≡ all
left_more xs x rest less all e h = append_assoc xs (x ∷ []) less ∙ ap (λ l. xs ++ l) (sym e) ∙ h

-- ---- one list more
all_push : {X : Type 0} (lists : List (List X)) (xs : List X) → all_of (lists ++ xs ∷ []) ≡ all_of lists ++ xs
all_push [] xs = append-nil xs
all_push (ys ∷ more) xs = ap (λ l. ys ++ l) (all_push more xs) ∙ sym (append_assoc ys (all_of more) xs)

pub all_more : {X Y Z : Type 0} (f : X → Y) (g : Z → List Y) (all more : List X) (lists : List Z) (z : Z) → map_list f all ≡ all_of (map_list g lists) → map_list f more ≡ g z → map_list f (all ++ more) ≡ all_of (map_list g (lists ++ z ∷ []))
all_more f g all more lists z e h = map-append f all more ∙ ap (λ l. l ++ map_list f more) e ∙ ap (λ l. all_of (map_list g lists) ++ l) h ∙ sym (all_push (map_list g lists) (g z)) ∙ ap all_of (sym (map-append g lists (z ∷ [])))

-- ---- numbers
pub number_at : (from n k d : ℕ) → k < n → get_or (numbers from n) k d ≡ from + k
number_at from zero k d lt = absurd (omega arith)
number_at from (suc n) zero d lt = omega arith
number_at from (suc n) (suc k) d lt = omega (arith, number_at (suc from) n k d (omega arith))

-- ---- where an element stands
pub among_at : {X : Type 0} (xs : List X) (x : X) → Among x xs → (k : ℕ) × (k < length xs) × ((e : X) → get_or xs k e ≡ x)
among_at [] x h = absurd h
among_at (y ∷ ys) x (inl e) = (0, omega arith, λ d. sym e)
among_at (y ∷ ys) x (inr h) = let c = among_at ys x h in (suc c.0, omega (arith, c.1), c.2)

-- ---- where the elements of one of several lists stand among all
abbrev pub before : {X : Type 0} → List (List X) → ℕ → ℕ
before [] i = 0
before (xs ∷ more) zero = 0
before (xs ∷ more) (suc i) = length xs + before more i

pub in_list : {X : Type 0} (lists : List (List X)) (i j : ℕ) (d : X) → j < length (get_or lists i []) → get_or (all_of lists) (before lists i + j) d ≡ get_or (get_or lists i []) j d
in_list [] i j d lt = absurd (omega (arith, lt))
in_list (xs ∷ more) zero j d lt =
    let e : 0 + j ≡ j = omega arith in
    ap (λ n. get_or (xs ++ all_of more) n d) e ∙ get_or_append_left xs (all_of more) d j lt
in_list (xs ∷ more) (suc i) j d lt =
    let e : (length xs + before more i) + j ≡ length xs + (before more i + j) = omega arith in
    ap (λ n. get_or (xs ++ all_of more) n d) e ∙ get_or-append-add xs (all_of more) (before more i + j) d ∙ in_list more i j d lt

pub all_long : {X : Type 0} (lists : List (List X)) → length (all_of lists) ≡ before lists (length lists)
all_long [] = refl
all_long (xs ∷ more) = omega (arith, length-append xs (all_of more), all_long more)

-- ---- the first element, and the rest
pub first_and_rest : {X : Type 0} (xs : List X) (d : X) → 0 < length xs → xs ≡ get_or xs 0 d ∷ remove xs 0
first_and_rest [] d lt = absurd (omega (arith, lt))
first_and_rest (x ∷ xs) d lt = refl

-- ---- six for each of two and two
module _ {X Y Z : Type 0} (f : X → Y → List Z) (six : (x : X) (y : Y) → length (f x y) ≡ 6) where
  pub six_long : (xs : List X) (ys : List Y) → length ys ≡ length xs → length (pairwise f xs ys) ≡ 6 * length xs
  six_long [] ys e = refl
  six_long (x ∷ xs) [] e = absurd (omega (arith, e))
  six_long (x ∷ xs) (y ∷ ys) e = omega (arith, length-append (f x y) (pairwise f xs ys), six x y, six_long xs ys (omega (arith, e)))

  pub six_at : (xs : List X) (ys : List Y) (m j : ℕ) (x : X) (y : Y) (d : Z) → length ys ≡ length xs → m < length xs → j < 6 → get_or (pairwise f xs ys) (6 * m + j) d ≡ get_or (f (get_or xs m x) (get_or ys m y)) j d
  six_at [] ys m j x y d e lt few = absurd (omega (arith, lt))
  six_at (a ∷ xs) [] m j x y d e lt few = absurd (omega (arith, e))
  six_at (a ∷ xs) (b ∷ ys) zero j x y d e lt few =
      let is : 6 * 0 + j ≡ j = omega arith in
      ap (λ n. get_or (f a b ++ pairwise f xs ys) n d) is ∙ get_or_append_left (f a b) (pairwise f xs ys) d j (omega (arith, six a b, few))
  six_at (a ∷ xs) (b ∷ ys) (suc m) j x y d e lt few =
      let is : 6 * suc m + j ≡ length (f a b) + (6 * m + j) = omega (arith, six a b) in
      ap (λ n. get_or (f a b ++ pairwise f xs ys) n d) is ∙ get_or-append-add (f a b) (pairwise f xs ys) (6 * m + j) d ∙ six_at xs ys m j x y d (omega (arith, e)) (omega (arith, lt)) few

-- ---- one element more at the end

-- of two lists side by side
pub both_more : {X Y : Type 0} (P : ℕ → X → Y → Type 0) (xs : List X) (ys : List Y) (n : ℕ) (x : X) (y : Y) → length xs ≡ n → length ys ≡ n → ((k : ℕ) (a : X) (b : Y) → k < n → P k (get_or xs k a) (get_or ys k b)) → P n x y
    → (k : ℕ) (a : X) (b : Y) → k < n + 1 → P k (get_or (xs ++ x ∷ []) k a) (get_or (ys ++ y ∷ []) k b)
both_more P xs ys n x y count many each last k a b lt = elim (cases_lt k n) [
  | inl l ↦
      subst (λ u. P k u (get_or (ys ++ y ∷ []) k b)) (sym (get_or_append_left xs (x ∷ []) a k (omega (arith, l, count))))
      (subst (P k (get_or xs k a)) (sym (get_or_append_left ys (y ∷ []) b k (omega (arith, l, many)))) (each k a b l))
  | inr g ↦
      let e : k ≡ n = omega (arith, g, lt) in
      let first : get_or (xs ++ x ∷ []) k a ≡ x = get_or_push xs x a k (count ∙ sym e) in
      let second : get_or (ys ++ y ∷ []) k b ≡ y = get_or_push ys y b k (many ∙ sym e) in
      subst (λ u. P k u (get_or (ys ++ y ∷ []) k b)) (sym first) (subst (P k x) (sym second) (subst (λ m. P m x y) (sym e) last))
]

-- ---- elements that are added one by one
pub push_more : {X Y : Type 0} (f : X → Y) (xs more : List X) (x : X) (old ys : List Y) → map_list f xs ≡ old ++ ys → more ≡ xs ++ x ∷ [] → map_list f more ≡ old ++ (ys ++ f x ∷ [])
push_more f xs more x old ys h e = ap (map_list f) e ∙ map-append f xs (x ∷ []) ∙ ap (λ l. l ++ f x ∷ []) h ∙ append_assoc old ys (f x ∷ [])

pub cons_both : {X : Type 0} {x y : X} {xs ys : List X} → x ≡ y → xs ≡ ys → x ∷ xs ≡ y ∷ ys
cons_both {X} {x} {y} {xs} {ys} e f = ap (λ (z : X). z ∷ xs) e ∙ ap (λ (l : List X). y ∷ l) f

pub six_pushed : {X Y : Type 0} (f : X → Y) (b c d e g h i : List X) (t u v x y z : X) → c ≡ b ++ t ∷ [] → d ≡ c ++ u ∷ [] → e ≡ d ++ v ∷ [] → g ≡ e ++ x ∷ [] → h ≡ g ++ y ∷ [] → i ≡ h ++ z ∷ []
    → map_list f i ≡ map_list f b ++ (f t ∷ f u ∷ f v ∷ f x ∷ f y ∷ f z ∷ [])
six_pushed f b c d e g h i t u v x y z p q r s k l =
    let old = map_list f b in
    push_more f h i z old _ (push_more f g h y old _ (push_more f e g x old _ (push_more f d e v old _ (push_more f c d u old _ (push_more f b c t old [] (sym (append-nil old)) p) q) r) s) k) l

-- of what is left of two and two lists one pair less
pub pair_less : {X Y Z : Type 0} (f : X → Y → List Z) (done more all : List Z) (xs less : List X) (ys fewer : List Y) (x : X) (y : Y) → xs ≡ x ∷ less → ys ≡ y ∷ fewer → more ≡ done ++ f x y → done ++ pairwise f xs ys ≡ all
    → more ++ pairwise f less fewer ≡ all
pair_less f done more all xs less ys fewer x y e g h is =
    ap (λ l. l ++ pairwise f less fewer) h ∙ append_assoc done (f x y) (pairwise f less fewer) ∙ ap (λ l. done ++ l) (sym (ap (λ l. pairwise f l ys) e ∙ ap (pairwise f (x ∷ less)) g)) ∙ is

pub none_left : {X Y Z : Type 0} (f : X → Y → List Z) (done all : List Z) (xs : List X) (ys : List Y) → length xs ≡ 0 → done ++ pairwise f xs ys ≡ all → done ≡ all
none_left f done all [] ys e is = sym (append-nil done) ∙ is
none_left f done all (x ∷ xs) ys e is = absurd (omega (arith, e))
