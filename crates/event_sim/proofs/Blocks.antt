-- The always blocks of a well-formed design in any order give the same: each register and each memory is set in one block.
use Rattle.std.specs.Prelude.{slice_set, Contains, All, ◌==◌, if◌then◌else◌}
use Rattle.std.specs.List.{AllByRecursion, list_all, range_with_len}
use Rattle.std.proofs.Common.{◌≡◌, ℕ, zero, suc, ◌+◌, ◌<◌, ◌≤◌, Bool, true, false, not, List, [], ◌∷◌, ◌++◌, length, take, drop, get_or, refl, sym, ap, ◌∙◌, subst, arith, length-append, append_assoc}
use Rattle.std.proofs.lemmas.Bool.{and_parts, and_from, not-true, eqb-false}
use Rattle.std.proofs.lemmas.List.{set_comm, get_or-set_other, set_split, set-get_or, get_or_at, get_or_default, nil_from_length, length_push}
use Rattle.std.proofs.lemmas.List.Elements.{All-from_recursion}
use Rattle.net_core.specs.declared.tree.Word.{Word}
use Rattle.net_core.specs.declared.tree.Net.{Net}
use Rattle.net_core.specs.Nets.{StatementTree, SBlock, SIf, SIfElse, SSet, SStore, StatementTrees, SEnd, SThen, Netlist}
use Rattle.net_core.specs.Value.{Env, value}
use Rattle.net_core.specs.Clock.{Stored, done, all_done, edge, env_of}
use Rattle.design_rules.specs.FormedScope.{targets_pass, all_targets_pass, leaves_register, leaves_memory}
use Rattle.design_rules.specs.Formed.{IsWellFormed}
use Rattle.design_rules.proofs.FormedItemLaws.{block_kept}
use Rattle.event_sim.specs.Orders.{IsOrder, blocks_in, ClocksInAnyOrder}

-- ---- statements that set different things
abbrev with_register : ℕ → Word → Stored → Stored
with_register r x s = record s { registers = slice_set s.registers r x }

abbrev with_word : ℕ → ℕ → Word → Stored → Stored
with_word m i x s = record s { memories = slice_set s.memories m (slice_set (get_or s.memories m []) i x) }

differ : (k r : ℕ) → not (k == r) ≡ true → k ≡ r → ⊥
differ k r h = eqb-false k r (not-true (k == r) h)

-- words stored in two memories
words_apart : (ms : List (List Word)) (m i k j : ℕ) (x y : Word) → (k ≡ m → ⊥)
    → slice_set (slice_set ms m (slice_set (get_or ms m []) i x)) k (slice_set (get_or (slice_set ms m (slice_set (get_or ms m []) i x)) k []) j y)
    ≡ slice_set (slice_set ms k (slice_set (get_or ms k []) j y)) m (slice_set (get_or (slice_set ms k (slice_set (get_or ms k []) j y)) m []) i x)
words_apart ms m i k j x y ne =
    let a = slice_set (get_or ms m []) i x in
    let b = slice_set (get_or ms k []) j y in
    let back : m ≡ k → ⊥ = λ e. ne (sym e) in
    ap (λ l. slice_set (slice_set ms m a) k (slice_set l j y)) (get_or-set_other ms m k a [] ne)
    ∙ set_comm ms m k a b back
    ∙ ap (λ l. slice_set (slice_set ms k b) m (slice_set l i x)) (sym (get_or-set_other ms k m b [] back))

either : (t : Bool) (f : Stored → Stored) (a b c e : Stored) → a ≡ f c → b ≡ f e → (if t then a else b) ≡ f (if t then c else e)
either true f a b c e p q = p
either false f a b c e p q = q

module _ {N : Type 0} (v : Env N) where
  module _ (r : ℕ) (x : Word) where
    mutual
      past_register : (a : StatementTree N) (s : Stored) → leaves_register r a ≡ true → done v a (with_register r x s) ≡ with_register r x (done v a s)
      past_register (SBlock more) s h = all_past_register more s h
      past_register (SIf c a) s h = either ((value v c).value == 0) (with_register r x) (with_register r x s) (done v a (with_register r x s)) s (done v a s) refl (past_register a s h)
      past_register (SIfElse c a b) s h =
          let p = and_parts (leaves_register r a) (leaves_register r b) h in
          either ((value v c).value == 0) (with_register r x) (done v b (with_register r x s)) (done v a (with_register r x s)) (done v b s) (done v a s) (past_register b s p.1) (past_register a s p.0)
      past_register (SSet k e) s h = ap (λ l. record s { registers = l }) (set_comm s.registers r k x (value v e) (λ e. differ k r h (sym e)))
      past_register (SStore m i e) s h = refl

      all_past_register : (more : StatementTrees N) (s : Stored) → all_targets_pass (λ k. not (k == r)) (λ k. true) more ≡ true → all_done v more (with_register r x s) ≡ with_register r x (all_done v more s)
      all_past_register SEnd s h = refl
      all_past_register (SThen a more) s h =
          let p = and_parts (leaves_register r a) (all_targets_pass (λ k. not (k == r)) (λ k. true) more) h in
          ap (all_done v more) (past_register a s p.0) ∙ all_past_register more (done v a s) p.1

  module _ (m i : ℕ) (x : Word) where
    mutual
      past_word : (a : StatementTree N) (s : Stored) → leaves_memory m a ≡ true → done v a (with_word m i x s) ≡ with_word m i x (done v a s)
      past_word (SBlock more) s h = all_past_word more s h
      past_word (SIf c a) s h = either ((value v c).value == 0) (with_word m i x) (with_word m i x s) (done v a (with_word m i x s)) s (done v a s) refl (past_word a s h)
      past_word (SIfElse c a b) s h =
          let p = and_parts (leaves_memory m a) (leaves_memory m b) h in
          either ((value v c).value == 0) (with_word m i x) (done v b (with_word m i x s)) (done v a (with_word m i x s)) (done v b s) (done v a s) (past_word b s p.1) (past_word a s p.0)
      past_word (SSet k e) s h = refl
      past_word (SStore k j e) s h = ap (λ l. record s { memories = l }) (words_apart s.memories m i k (value v j).value x (value v e) (differ k m h))

      all_past_word : (more : StatementTrees N) (s : Stored) → all_targets_pass (λ k. true) (λ k. not (k == m)) more ≡ true → all_done v more (with_word m i x s) ≡ with_word m i x (all_done v more s)
      all_past_word SEnd s h = refl
      all_past_word (SThen a more) s h =
          let p = and_parts (leaves_memory m a) (all_targets_pass (λ k. true) (λ k. not (k == m)) more) h in
          ap (all_done v more) (past_word a s p.0) ∙ all_past_word more (done v a s) p.1

  -- a statement that sets nothing that another sets may be done before or after it
  module _ (b : StatementTree N) where
    mutual
      swaps : (a : StatementTree N) (s : Stored) → targets_pass (λ r. leaves_register r b) (λ m. leaves_memory m b) a ≡ true → done v b (done v a s) ≡ done v a (done v b s)
      swaps (SBlock more) s h = all_swap more s h
      swaps (SIf c a) s h = sym (either ((value v c).value == 0) (done v b) (done v b s) (done v a (done v b s)) s (done v a s) refl (sym (swaps a s h)))
      swaps (SIfElse c a e) s h =
          let p = and_parts (targets_pass (λ r. leaves_register r b) (λ m. leaves_memory m b) a) (targets_pass (λ r. leaves_register r b) (λ m. leaves_memory m b) e) h in
          sym (either ((value v c).value == 0) (done v b) (done v e (done v b s)) (done v a (done v b s)) (done v e s) (done v a s) (sym (swaps e s p.1)) (sym (swaps a s p.0)))
      swaps (SSet r e) s h = past_register r (value v e) b s h
      swaps (SStore m i e) s h = past_word m (value v i).value (value v e) b s h

      all_swap : (more : StatementTrees N) (s : Stored) → all_targets_pass (λ r. leaves_register r b) (λ m. leaves_memory m b) more ≡ true → done v b (all_done v more s) ≡ all_done v more (done v b s)
      all_swap SEnd s h = refl
      all_swap (SThen a more) s h =
          let p = and_parts (targets_pass (λ r. leaves_register r b) (λ m. leaves_memory m b) a) (all_targets_pass (λ r. leaves_register r b) (λ m. leaves_memory m b) more) h in
          all_swap more (done v a s) p.1 ∙ ap (all_done v more) (swaps a s p.0)

-- ---- the rule of targets
-- tests that pass where others do
mutual
  targets_more : {N : Type 0} (r s m n : ℕ → Bool) → ((k : ℕ) → r k ≡ true → s k ≡ true) → ((k : ℕ) → m k ≡ true → n k ≡ true) → (a : StatementTree N) → targets_pass r m a ≡ true → targets_pass s n a ≡ true
  targets_more r s m n p q (SBlock more) h = all_targets_more r s m n p q more h
  targets_more r s m n p q (SIf c a) h = targets_more r s m n p q a h
  targets_more r s m n p q (SIfElse c a b) h =
      let g = and_parts (targets_pass r m a) (targets_pass r m b) h in
      and_from (targets_pass s n a) (targets_pass s n b) (targets_more r s m n p q a g.0) (targets_more r s m n p q b g.1)
  targets_more r s m n p q (SSet k e) h = p k h
  targets_more r s m n p q (SStore k i e) h = q k h

  all_targets_more : {N : Type 0} (r s m n : ℕ → Bool) → ((k : ℕ) → r k ≡ true → s k ≡ true) → ((k : ℕ) → m k ≡ true → n k ≡ true) → (more : StatementTrees N) → all_targets_pass r m more ≡ true → all_targets_pass s n more ≡ true
  all_targets_more r s m n p q SEnd h = refl
  all_targets_more r s m n p q (SThen a more) h =
      let g = and_parts (targets_pass r m a) (all_targets_pass r m more) h in
      and_from (targets_pass s n a) (all_targets_pass s n more) (targets_more r s m n p q a g.0) (all_targets_more r s m n p q more g.1)

all_before : {X : Type 0} (p : X → Bool) (n : ℕ) (xs : List X) (k : ℕ) (d : X) → list_all p (take n xs) ≡ true → k < n → k < length xs → p (get_or xs k d) ≡ true
all_before p n [] k d h l m = absurd (omega arith)
all_before p zero (x ∷ xs) k d h l m = absurd (omega arith)
all_before p (suc n) (x ∷ xs) zero d h l m = (and_parts (p x) (list_all p (take n xs)) h).0
all_before p (suc n) (x ∷ xs) (suc k) d h l m = all_before p n xs k d (and_parts (p x) (list_all p (take n xs)) h).1 (omega arith) (omega arith)

abbrev skip : StatementTree Net
skip = SBlock SEnd

-- a block sets nothing that one before it sets
apart : (d : Netlist) → IsWellFormed d → (i k : ℕ) → i < k → k < length d.always
    → targets_pass (λ r. leaves_register r (get_or d.always i skip)) (λ m. leaves_memory m (get_or d.always i skip)) (get_or d.always k skip) ≡ true
apart d formed i k l inside =
    let there : i < length d.always = omega arith in
    let b = get_or d.always k skip in
    let kept = block_kept d formed k b inside (get_or_default d.always k skip b inside) in
    targets_more (λ r. list_all (leaves_register r) (take k d.always)) (λ r. leaves_register r (get_or d.always i skip)) (λ m. list_all (leaves_memory m) (take k d.always)) (λ m. leaves_memory m (get_or d.always i skip))
    (λ r h. all_before (leaves_register r) k d.always i skip h l there) (λ m h. all_before (leaves_memory m) k d.always i skip h l there) b kept.free

-- ---- numbers in another order
record Split (x : ℕ) (ys : List ℕ) : Type 0 where
  front : List ℕ
  back : List ℕ
  is : ys ≡ front ++ x ∷ back

split : (ys : List ℕ) (x : ℕ) → Contains ys x → Split x ys
split ys x place = record {
  front = take place.0 ys;
  back = drop (suc place.0) ys;
  is = sym (set-get_or ys place.0 x) ∙ ap (slice_set ys place.0) place.2 ∙ set_split ys place.0 x place.1;
}

-- ys are xs in another order: the first of xs stands somewhere in ys, and the others in what is left
abbrev Orders : List ℕ → List ℕ → Type 0
Orders [] ys = ys ≡ []
Orders (x ∷ xs) ys = (s : Split x ys) × Orders xs (s.front ++ s.back)

without : (front back : List ℕ) (x k : ℕ) → (k ≡ x → ⊥) → Contains (front ++ x ∷ back) k → Contains (front ++ back) k
without [] back x k ne (zero, l, at) = absurd (ne (sym at))
without [] back x k ne (suc i, l, at) = (i, omega (arith, l), at)
without (f ∷ front) back x k ne (zero, l, at) = (0, omega arith, at)
without (f ∷ front) back x k ne (suc i, l, at) = let rest = without front back x k ne (i, omega (arith, l), at) in (suc rest.0, omega (arith, rest.1), rest.2)

split_length : (front back : List ℕ) (x left : ℕ) → length (front ++ x ∷ back) ≡ suc left → length (front ++ back) ≡ left
split_length front back x left h = omega (arith, h, length-append front (x ∷ back), length-append front back)

orders : (a left : ℕ) (ys : List ℕ) → length ys ≡ left → ((k : ℕ) → a ≤ k → k < a + left → Contains ys k) → Orders (range_with_len a left) ys
orders a zero ys count each = nil_from_length ys count
orders a (suc left) ys count each =
    let s = split ys a (each a (omega arith) (omega arith)) in
    let places : (k : ℕ) → a + 1 ≤ k → k < a + 1 + left → Contains (s.front ++ s.back) k =
    λ k low high. without s.front s.back a k (λ e. absurd (omega (arith, e, low))) (subst (λ l. Contains l k) s.is (each k (omega (arith, low)) (omega (arith, high)))) in
    (s, orders (a + 1) left (s.front ++ s.back) (split_length s.front s.back a left (ap length (sym s.is) ∙ count)) places)

module _ (Q : ℕ → Type 0) where
  join_every : (front back : List ℕ) (x : ℕ) → Q x → AllByRecursion Q (front ++ back) → AllByRecursion Q (front ++ x ∷ back)
  join_every [] back x q h = (q, h)
  join_every (f ∷ front) back x q h = (h.0, join_every front back x q h.1)

  front_every : (front back : List ℕ) → AllByRecursion Q (front ++ back) → AllByRecursion Q front
  front_every [] back h = tt
  front_every (f ∷ front) back h = (h.0, front_every front back h.1)

  -- what holds of each holds in another order
  orders_every : (xs ys : List ℕ) → Orders xs ys → AllByRecursion Q xs → AllByRecursion Q ys
  orders_every [] ys o h = subst (AllByRecursion Q) (sym o) tt
  orders_every (x ∷ xs) ys (s, rest) h = subst (AllByRecursion Q) (sym s.is) (join_every s.front s.back x h.0 (orders_every xs (s.front ++ s.back) rest h.1))

  range_every : (a n : ℕ) → ((k : ℕ) → a ≤ k → k < a + n → Q k) → AllByRecursion Q (range_with_len a n)
  range_every a zero h = tt
  range_every a (suc n) h = (h a (omega arith) (omega arith), range_every (a + 1) n (λ k low high. h k (omega (arith, low)) (omega (arith, high))))

-- an order names numbers below alone
pub order_below : (n : ℕ) (order : List ℕ) → IsOrder n order → All (λ k. k < n) order
order_below n order is =
    All-from_recursion (λ k. k < n) order
    (orders_every (λ k. k < n) (range_with_len 0 n) order (orders 0 n order is.count (λ k low high. is.each k (omega (arith, high)))) (range_every (λ k. k < n) 0 n (λ k low high. omega (arith, high))))

-- ---- blocks in another order
module _ (v : Env Net) (blocks : List (StatementTree Net)) where
  abbrev one : ℕ → Stored → Stored
  one k s = done v (get_or blocks k skip) s

  abbrev all : List ℕ → Stored → Stored
  all ks s = edge v (blocks_in ks blocks) s

  abbrev Commute : ℕ → ℕ → Type 0
  Commute i k = (s : Stored) → one i (one k s) ≡ one k (one i s)

  abbrev AllCommute : List ℕ → Type 0
  AllCommute [] = Unit {0}
  AllCommute (x ∷ xs) = AllByRecursion (Commute x) xs × AllCommute xs

  first_moved : (x : ℕ) (front back : List ℕ) (s : Stored) → AllByRecursion (Commute x) front → all (front ++ x ∷ back) s ≡ all (front ++ back) (one x s)
  first_moved x [] back s h = refl
  first_moved x (f ∷ front) back s h = first_moved x front back (one f s) h.1 ∙ ap (all (front ++ back)) (h.0 s)

  reordered : (xs ys : List ℕ) (s : Stored) → Orders xs ys → AllCommute xs → all ys s ≡ all xs s
  reordered [] ys s o h = ap (λ l. all l s) o
  reordered (x ∷ xs) ys s (split, rest) h =
      ap (λ l. all l s) split.is
      ∙ first_moved x split.front split.back s (front_every (Commute x) split.front split.back (orders_every (Commute x) xs (split.front ++ split.back) rest h.0))
      ∙ reordered xs (split.front ++ split.back) (one x s) rest h.1

  range_commutes : (a n : ℕ) → ((i k : ℕ) → a ≤ i → i < k → k < a + n → Commute i k) → AllCommute (range_with_len a n)
  range_commutes a zero h = tt
  range_commutes a (suc n) h =
      (range_every (Commute a) (a + 1) n (λ k low high. h a k (omega arith) (omega (arith, low)) (omega (arith, high))), range_commutes (a + 1) n (λ i k low l high. h i k (omega (arith, low)) l (omega (arith, high))))

in_text_order : (front rest : List (StatementTree Net)) (a : ℕ) → a ≡ length front → blocks_in (range_with_len a (length rest)) (front ++ rest) ≡ rest
in_text_order front [] a e = refl
in_text_order front (b ∷ rest) a e =
    let here : get_or (front ++ b ∷ rest) a skip ≡ b = get_or_at front b rest skip a (sym e) in
    let whole : (front ++ b ∷ []) ++ rest ≡ front ++ b ∷ rest = append_assoc front (b ∷ []) rest in
    ap (λ x. x ∷ blocks_in (range_with_len (a + 1) (length rest)) (front ++ b ∷ rest)) here
    ∙ ap (λ l. b ∷ blocks_in (range_with_len (a + 1) (length rest)) l) (sym whole)
    ∙ ap (λ l. b ∷ l) (in_text_order (front ++ b ∷ []) rest (a + 1) (omega (arith, e, length_push front b)))

pub any_order : (d : Netlist) → IsWellFormed d → (ins : List Word) (s : Stored) → ClocksInAnyOrder d ins s
any_order d formed ins s order is =
    let v = env_of d ins s in
    let n = length d.always in
    reordered v d.always (range_with_len 0 n) order s (orders 0 n order is.count (λ k low high. is.each k (omega (arith, high))))
    (range_commutes v d.always 0 n (λ i k low l high t. swaps v (get_or d.always i skip) (get_or d.always k skip) t (apart d formed i k l (omega (arith, high)))))
    ∙ ap (λ l. edge v l s) (in_text_order [] d.always 0 refl)
