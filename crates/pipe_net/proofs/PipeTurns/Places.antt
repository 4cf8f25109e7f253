-- The parts of the host, of actions and of maps are among the parts of the pipeline.
use Rattle.std.specs.Prelude.{◌≡◌, ℕ, zero, suc, ◌+◌, ◌<◌, ◌≤◌, length, map}
use Rattle.std.proofs.Common.{sym, ap, subst, arith, inl, inr}
use Rattle.std.proofs.lemmas.Bool.{cases_eq}
use Rattle.block_core.specs.Blocks.{Whole, Among}
use Rattle.hazard_core.specs.cell_core.Rows.{numbers}
use Rattle.pipe_net.specs.declared.parts.Part.{Part}
use Rattle.pipe_net.specs.Parts as part
use Rattle.pipe_net.specs.Parts.{parts_of, part_count}
use Rattle.pipe_net.specs.Layout.{Layout, IsSized, last_of, commit_of}

among : (from n k : ℕ) → from ≤ k → k < from + n → Among (part.part k) (map part.part (numbers from n))
among from zero k h lt = absurd (omega arith)
among from (suc n) k h lt = elim (cases_eq k from) [
  | inl e ↦ inl (ap part.part e)
  | inr o ↦ inr (among (suc from) n k (omega arith) (omega arith))
]

-- packets commit at one of the places
pub commits_within : (l : Layout) → IsSized l → commit_of l ≤ last_of l
commits_within l sized = let w = l.shape.within in let c = sized.commits in let t = sized.stages in omega (arith, w, c, t)

module _ (l : Layout) (d : Whole Part) (sized : IsSized l) (listed : d.parts ≡ parts_of l.sizes) where
  has : (k : ℕ) → k < part_count l.sizes → Among (part.part k) d.parts
  has k lt = subst (Among (part.part k)) (sym listed) (among 0 (part_count l.sizes) k (omega arith) (omega (arith, lt)))

  pub has_control : Among (part.control l.sizes) d.parts
  has_control = has _ (omega arith)

  pub has_gather : Among (part.gather l.sizes) d.parts
  has_gather = has _ (omega arith)

  pub has_host : Among (part.host l.sizes) d.parts
  has_host = has _ (omega arith)

  pub has_action : Among (part.action l.sizes) d.parts
  has_action = has _ (omega arith)

  pub has_commits : Among (part.commits l.sizes) d.parts
  has_commits = has _ (omega arith)

  module _ (m : ℕ) (lt : m < length l.decls) where
    pub has_slots : Among (part.slots l.sizes m) d.parts
    has_slots = let n = sized.maps in has _ (omega (arith, lt, n))

    pub has_targets : Among (part.targets l.sizes m) d.parts
    has_targets = let n = sized.maps in has _ (omega (arith, lt, n))

    pub has_own : Among (part.own l.sizes m) d.parts
    has_own = let n = sized.maps in has _ (omega (arith, lt, n))
