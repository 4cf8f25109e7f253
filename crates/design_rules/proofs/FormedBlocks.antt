-- The always blocks before one, as the view lists them.
use Rattle.std.specs.Prelude.{◌≡◌, ℕ, Bool, ◌&&◌, List, [], ◌∷◌, map, take}
use Rattle.std.specs.List.{list_all}
use Rattle.std.proofs.Common.{refl, ap, ◌∙◌}
use Rattle.std.proofs.lemmas.List.{take-map}
use Rattle.net_core.specs.declared.tree.Net.{Net}
use Rattle.net_core.specs.declared.tree.Stmt.{Stmt}
use Rattle.net_core.specs.Nets.{StatementTree, SBlock, SIf, SIfElse, SSet, SStore, StatementTrees, SEnd, SThen}
use Rattle.net_core.specs.View.{statement_of}
use Rattle.design_rules.specs.FormedScope.{targets_pass, all_targets_pass, leaves_register, leaves_memory}
use Rattle.design_rules.specs.Formed.{targets_free}

pub list_all_map : {A B : Type 0} (p : B → Bool) (f : A → B) (xs : List A) → list_all p (map f xs) ≡ list_all (λ x. p (f x)) xs
list_all_map p f [] = refl
list_all_map p f (x ∷ xs) = ap (λ b. p (f x) && b) (list_all_map p f xs)

-- tests that agree on each target
mutual
  pub targets_same : {N : Type 0} (r s m n : ℕ → Bool) → ((k : ℕ) → r k ≡ s k) → ((k : ℕ) → m k ≡ n k) → (a : StatementTree N) → targets_pass r m a ≡ targets_pass s n a
  targets_same r s m n p q (SBlock more) = all_targets_same r s m n p q more
  targets_same r s m n p q (SIf c a) = targets_same r s m n p q a
  targets_same r s m n p q (SIfElse c a b) = ap (λ x. x && targets_pass r m b) (targets_same r s m n p q a) ∙ ap (λ x. targets_pass s n a && x) (targets_same r s m n p q b)
  targets_same r s m n p q (SSet k e) = p k
  targets_same r s m n p q (SStore k i e) = q k

  pub all_targets_same : {N : Type 0} (r s m n : ℕ → Bool) → ((k : ℕ) → r k ≡ s k) → ((k : ℕ) → m k ≡ n k) → (more : StatementTrees N) → all_targets_pass r m more ≡ all_targets_pass s n more
  all_targets_same r s m n p q SEnd = refl
  all_targets_same r s m n p q (SThen a more) = ap (λ x. x && all_targets_pass r m more) (targets_same r s m n p q a) ∙ ap (λ x. targets_pass s n a && x) (all_targets_same r s m n p q more)

pub targets_free_before : (blocks : List (Stmt Net)) (k : ℕ) (a : StatementTree Net)
    → targets_free (take k (map statement_of blocks)) a
    ≡ targets_pass (λ r. list_all (λ b. leaves_register r (statement_of b)) (take k blocks)) (λ m. list_all (λ b. leaves_memory m (statement_of b)) (take k blocks)) a
targets_free_before blocks k a =
    ap (λ l. targets_free l a) (take-map statement_of k blocks)
    ∙ targets_same _ _ _ _ (λ r. list_all_map (leaves_register r) statement_of (take k blocks)) (λ m. list_all_map (leaves_memory m) statement_of (take k blocks)) a
