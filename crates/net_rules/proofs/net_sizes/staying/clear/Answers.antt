use Rattle.std.specs.Prelude.{ℕ, ◌<◌, List, length, slice_set}
use Rattle.std.proofs.Common.{get_or, subst, sym, ap, ◌∙◌, arith, inl, inr, get_or-set_same, get_or-set_other}
use Rattle.std.proofs.lemmas.Bool.{cases_eq}
use Rattle.net_core.specs.declared.tree.Word.{Word}
use Rattle.net_rules.specs.NetSizes.Fitting.{Fits}
use Rattle.net_rules.proofs.net_sizes.staying.clear.Goals as goal
use Rattle.net_rules.proofs.net_sizes.staying.clear.Goals.{then-unwrap_or, else-unwrap_or}

-- the size of a register is forgotten
cleared_fits : (xs : List ℕ) (j k : ℕ) (w : Word) → j < length xs → Fits (get_or xs k 0) w → Fits (get_or (slice_set xs j 0) k 0) w
cleared_fits xs j k w l f = elim (cases_eq k j) [
  | inl here ↦ subst (λ n. Fits n w) (sym (ap (λ n. get_or (slice_set xs j 0) n 0) here ∙ get_or-set_same xs j 0 0 l)) (λ some. absurd (omega arith))
  | inr other ↦ subst (λ n. Fits n w) (sym (get_or-set_other xs j k 0 0 other)) f
]

pub loop-k-preserved : goal.loop-k-preserved
loop-k-preserved c = elim c.if-unwrap_or.branch [
  | then-unwrap_or w ↦ λ k x f. subst (λ xs. Fits (get_or xs k 0) x) (sym w.sizes-is) (cleared_fits c.loop-k.sizes c.loop-k.k k x (omega arith) (c.loop-k.invariant k x f))
  | else-unwrap_or w ↦ λ k x f. subst (λ xs. Fits (get_or xs k 0) x) (sym w.sizes-is) (c.loop-k.invariant k x f)
]
