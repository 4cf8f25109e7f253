-- Lists of statements and of wires by their numbers.
use Rattle.std.specs.Prelude.{◌≡◌, ◌≢◌, ℕ, zero, suc, ◌+◌, ◌-◌, ◌<◌, ◌≤◌, ◌==◌, nat_le, ◌&&◌, cond, Bool, true, false, List, [], ◌∷◌, ◌++◌, length, map, replicate, slice_set}
use Rattle.std.specs.List.{list_all, range_with_len}
use Rattle.std.proofs.Common.{get_or, refl, sym, subst, ap, ◌∙◌, arith, append_assoc, length-append, ◌⊎◌, inl, inr}
use Rattle.std.proofs.lemmas.Bool.{and_from, cases_lt, ne_eqb}
use Rattle.std.proofs.lemmas.List.{set_at}
use Rattle.net_core.specs.declared.tree.Word.{Word}
use Rattle.net_core.specs.Nets.{Tree, StatementTree, SSet, SEnd, StatementTrees}
use Rattle.net_core.specs.Chains.{statements_before}
use Rattle.net_core.specs.Value.{nothing, Env, value, right_value}
use Rattle.net_core.specs.Clock.{Stored, all_done}
use Rattle.net_core.specs.Width.{Scope, right_width, same, statement_typed, statements_typed}
use Rattle.block_core.specs.design_rules.FormedSyntax.{tree_spelled, statement_depth, statements_depth, elses_placed, all_placed, trees_pass, all_trees_pass}
use Rattle.net_core.specs.ProductRules.Products.{statement_flat, statements_flat}
use Rattle.block_core.specs.declared.name.Name.{Name}
use Rattle.block_core.specs.declared.name.Name.TheVariants as name
use Rattle.block_core.specs.Blocks.{BlockWireTree, Whole}
use Rattle.block_core.specs.Parts.{Solve, Goes, Within, AllWithin}
use Rattle.block_core.specs.Order.{RightReads, IsBefore, InOrder}
use Rattle.block_core.specs.Formed.{block_wire_width, block_wires_typed, StatementReads, StatementsRead}
use Rattle.control_net.specs.Trees.{before}

-- where the loop ends
pub ended : {X : Type 0} (f : ℕ → X) (xs : List X) (i n : ℕ) → xs ≡ map f (range_with_len 0 i) → i ≡ suc n → xs ≡ map f (range_with_len 0 (suc n))
ended f xs i n h e = h ∙ ap (λ m. map f (range_with_len 0 m)) e

-- no number after another is 0
pub not_zero : (k : ℕ) → (suc k == 0) ≡ false
not_zero k = let o : suc k ≢ 0 = omega arith in ne_eqb (suc k) 0 o

-- place 0 or another
pub before_next : {N : Type 0} (e : Tree N) (g : ℕ → Tree N) (k : ℕ) → before e g (suc k) ≡ g k
before_next e g k = let z : suc k - 1 ≡ k = omega arith in ap (λ t. cond t e (g (suc k - 1))) (not_zero k) ∙ ap g z

pub by_before : {N : Type 0} (q : Tree N → Type 0) (e : Tree N) (g : ℕ → Tree N) (k : ℕ) → q e → ((j : ℕ) → j < k → q (g j)) → q (before e g k)
by_before q e g zero h f = h
by_before q e g (suc k) h f = subst q (sym (before_next e g k)) (f k (omega arith))

-- the first of such a list, and the others
pub first_and_rest : {X : Type 0} (f : ℕ → X) (a n : ℕ) → map f (range_with_len a (suc n)) ≡ f a ∷ map f (range_with_len (suc a) n)
first_and_rest f a n = let e : a + 1 ≡ suc a = omega arith in ap (λ m. f a ∷ map f (range_with_len m n)) e

-- ---- statements
module _ {N : Type 0} (f : ℕ → StatementTree N) where
  abbrev pub listed : ℕ → ℕ → StatementTrees N
  listed a n = statements_before (map f (range_with_len a n)) SEnd

  pub all_typed : (s : Scope N) (rs : List ℕ) (ms : List (ℕ × ℕ)) (a n : ℕ) → ((i : ℕ) → i < a + n → statement_typed s rs ms (f i) ≡ true) → statements_typed s rs ms (listed a n) ≡ true
  all_typed s rs ms a zero h = refl
  all_typed s rs ms a (suc n) h = and_from _ _ (h a (omega arith)) (all_typed s rs ms (a + 1) n (λ i l. h i (omega (arith, l))))

  pub all_deep : (m a n : ℕ) → ((i : ℕ) → statement_depth (f i) ≤ m) → statements_depth (listed a n) ≤ m
  all_deep m a zero h = omega arith
  all_deep m a (suc n) h = let first = h a in let rest = all_deep m (a + 1) n h in omega (arith, first, rest)

  pub all_elses : (a n : ℕ) → ((i : ℕ) → elses_placed (f i) ≡ true) → all_placed (listed a n) ≡ true
  all_elses a zero h = refl
  all_elses a (suc n) h = and_from _ _ (h a) (all_elses (a + 1) n h)

  pub all_pass : (a n : ℕ) → ((i : ℕ) → trees_pass tree_spelled (f i) ≡ true) → all_trees_pass tree_spelled (listed a n) ≡ true
  all_pass a zero h = refl
  all_pass a (suc n) h = and_from _ _ (h a) (all_pass (a + 1) n h)

  pub all_flat : (made : N → Bool) (a n : ℕ) → ((i : ℕ) → statement_flat made (f i) ≡ true) → statements_flat made (listed a n) ≡ true
  all_flat made a zero h = refl
  all_flat made a (suc n) h = and_from _ _ (h a) (all_flat made (a + 1) n h)

  pub all_read : (q : N → Type 0) (a n : ℕ) → ((i : ℕ) → i < a + n → StatementReads q (f i)) → StatementsRead q (listed a n)
  all_read q a zero h = tt
  all_read q a (suc n) h = (h a (omega arith), all_read q (a + 1) n (λ i l. h i (omega (arith, l))))

  pub all_within : (r m a n : ℕ) → ((i : ℕ) → i < a + n → Within r m (f i)) → AllWithin r m (listed a n)
  all_within r m a zero h = tt
  all_within r m a (suc n) h = (h a (omega arith), all_within r m (a + 1) n (λ i l. h i (omega (arith, l))))

-- ---- registers that are set one after another
abbrev pub words : List Word → Stored
words ws = record { registers = ws; memories = [] }

module _ {N : Type 0} (v : Env N) (base : ℕ) (e : ℕ → Tree N) where
  abbrev set : ℕ → StatementTree N
  set k = SSet (base + k) (e k)

  pub all_set : (old new front back : List Word) (a : ℕ) → length front ≡ base + a → length old ≡ length new → ((j : ℕ) → j < length new → value v (e (a + j)) ≡ get_or new j nothing)
      → all_done v (listed set a (length new)) (words (front ++ (old ++ back))) ≡ words (front ++ (new ++ back))
  all_set [] [] front back a l m h = refl
  all_set [] (n ∷ new) front back a l m h = absurd (omega (arith, m))
  all_set (o ∷ old) [] front back a l m h = absurd (omega (arith, m))
  all_set (o ∷ old) (n ∷ new) front back a l m h =
      let z : a + 0 ≡ a = omega arith in
      let first : value v (e a) ≡ n = subst (λ k. value v (e k) ≡ n) z (h 0 (omega arith)) in
      let rest : (j : ℕ) → j < length new → value v (e (suc a + j)) ≡ get_or new j nothing = λ j q. let k : a + suc j ≡ suc a + j = omega arith in subst (λ k. value v (e k) ≡ get_or new j nothing) k (h (suc j) (omega (arith, q))) in
      let more = listed set (suc a) (length new) in
      ap (λ xs. all_done v (statements_before xs SEnd) (words (front ++ (o ∷ (old ++ back))))) (first_and_rest set a (length new))
      ∙ ap (λ (y : Word). all_done v more (words (slice_set (front ++ (o ∷ (old ++ back))) (base + a) y))) first
      ∙ ap (λ ws. all_done v more (words ws)) (set_at front o (old ++ back) n (base + a) l ∙ sym (append_assoc front (n ∷ []) (old ++ back)))
      ∙ all_set old new (front ++ n ∷ []) back (suc a) (omega (arith, length-append front (n ∷ []), l)) (omega (arith, m)) rest
      ∙ ap words (append_assoc front (n ∷ []) (new ++ back))

-- ---- wires
module _ {P : Type 0} (f : ℕ → BlockWireTree (Name P)) where
  pub all_widths : (a n : ℕ) → ((i : ℕ) → (f i).width ≡ 1) → map block_wire_width (map f (range_with_len a n)) ≡ replicate n 1
  all_widths a zero h = refl
  all_widths a (suc n) h = λ i. h a i ∷ all_widths (a + 1) n h i

  pub all_wires : (p : BlockWireTree (Name P) → Bool) (a n : ℕ) → ((i : ℕ) → p (f i) ≡ true) → list_all p (map f (range_with_len a n)) ≡ true
  all_wires p a zero h = refl
  all_wires p a (suc n) h = and_from _ _ (h a) (all_wires p (a + 1) n h)

  pub wires_typed : (s : Scope (Name P)) (a n : ℕ) → ((i : ℕ) → i < a + n → (same (f i).width (right_width s (f i).right) && nat_le (f i).width 64) ≡ true) → block_wires_typed s (map f (range_with_len a n)) ≡ true
  wires_typed s a zero h = refl
  wires_typed s a (suc n) h = and_from _ _ (h a (omega arith)) (wires_typed s (a + 1) n (λ i l. h i (omega (arith, l))))

  pub all_go : (v : Env (Name P)) (a n : ℕ) → ((i : ℕ) → Goes v (f i ∷ [])) → Goes v (map f (range_with_len a n))
  all_go v a zero h = tt
  all_go v a (suc n) h = ((h a).0, all_go v (a + 1) n h)

  pub all_in_order : (d : Whole P) (before : List P) (part : P) (at a n : ℕ) → at ≡ a → ((i : ℕ) → i < a + n → RightReads (IsBefore d before part i) (f i).right) → InOrder d before part at (map f (range_with_len a n))
  all_in_order d before part at a zero e h = tt
  all_in_order d before part at a (suc n) e h =
      (subst (λ k. RightReads (IsBefore d before part k) (f a).right) (sym e) (h a (omega arith)), all_in_order d before part (suc at) (a + 1) n (omega (arith, e)) (λ i l. h i (omega (arith, l))))

  pub solved_at : (v : Env (Name P)) (part : P) (at a n i : ℕ) → at ≡ a → Solve v part at (map f (range_with_len a n)) → a ≤ i → i < a + n → v.net (name.Wire part i) ≡ right_value v (f i).right
  solved_at v part at a zero i e h l m = absurd (omega arith)
  solved_at v part at a (suc n) i e h l m = by_order (λ less. solved_at v part (suc at) (a + 1) n i (omega arith) h.1 (omega arith) (omega arith)) (cases_lt a i)
    where
      by_order : (a < i → v.net (name.Wire part i) ≡ right_value v (f i).right) → (a < i) ⊎ (i ≤ a) → v.net (name.Wire part i) ≡ right_value v (f i).right
      by_order later (inl less) = later less
      by_order later (inr over) =
          let s : i ≡ at = omega arith in
          let z : a ≡ i = omega arith in
          ap (λ k. v.net (name.Wire part k)) s ∙ h.0 ∙ ap (λ k. right_value v (f k).right) z
