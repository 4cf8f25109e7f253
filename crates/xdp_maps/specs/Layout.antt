-- How a map's contents lie in memory. No caller's clause cites this.
use Rattle.std.specs.Prelude.{ℕ, ◌≡◌, ◌<◌, ◌≤◌, List, length, slice_index_or, IsTrue}
use Rattle.std.specs.declared.cmp.Ordering.{Ordering}
use Rattle.std.specs.declared.cmp.Ordering.TheVariants.{Less, Greater}
use Rattle.std.specs.FinMap as map

-- the keys rise
abbrev pub IsRising : {K X : Type 0} → (K → K → Ordering) → List (K × X) → Type 0
IsRising order es = IsTrue (map.is_sorted order es)

-- the pair at place i has the key
pub record IsAt {K X : Type 0} (es : List (K × X)) (key : K) (i : ℕ) : Type 0 where
  pub in_range : i < length es
  pub has_key : (d : K × X) → key ≡ (slice_index_or es i d).0

-- the key would go to place i: lower keys before it, and greater ones from it on
pub record IsGapFor {K X : Type 0} (order : K → K → Ordering) (es : List (K × X)) (key : K) (i : ℕ) : Type 0 where
  pub in_range : i ≤ length es
  pub lower_before : (k : ℕ) (d : K × X) → k < i → order (slice_index_or es k d).0 key ≡ Less
  pub greater_after : (k : ℕ) (d : K × X) → i ≤ k → k < length es → order (slice_index_or es k d).0 key ≡ Greater
