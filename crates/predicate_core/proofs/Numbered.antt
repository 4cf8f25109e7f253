-- Edges by their numbers.
use Rattle.std.proofs.Common.{◌≡◌, ℕ, ◌<◌, List, [], length, get_or, sym, ◌∙◌, ap, arith}
use Rattle.std.specs.Prelude.{slice_index}
use Rattle.std.proofs.lemmas.List.{length-map, get_or-map, get_or_default}
use Rattle.operator_cells.specs.declared.held_cells.way.Way.{Way}
use Rattle.edge_cells.specs.Joining.{LeadTo}
use Rattle.kind_core.specs.declared.kind.Offsets.TheVariants.{Fixed}
use Rattle.predicate_core.specs.Progress.{targets, AreNumbers}

-- the first n of these edges
pub record AreAt (ways : List Way) (numbers : List ℕ) (n : ℕ) (here : List Way) : Type 0 where
  pub count : length here ≡ n
  pub each : (i : ℕ) (d : Way) → i < n → get_or here i d ≡ get_or ways (get_or numbers i 0) d

pub target_at : (ways : List Way) (i : ℕ) (d : Way) → i < length ways → slice_index (targets ways) i ≡ (get_or ways i d).to
target_at ways i d l = get_or-map (λ (e : Way). e.to) ways i d 0 l

pub count_targets : (ways : List Way) → length (targets ways) ≡ length ways
count_targets ways = length-map ways (λ (e : Way). e.to)

-- the edges of these numbers are all that lead to a node
pub lead_at : (n : ℕ) (ways : List Way) (numbers : List ℕ) (k : ℕ) (here : List Way) → k ≡ length numbers → AreAt ways numbers k here → AreNumbers n (targets ways) numbers → LeadTo n ways here
lead_at n ways numbers k here all at are = record {
  to = λ i d l. let x = are.each i 0 (omega (arith, l, all, at.count)) in
      ap (λ (e : Way). e.to) (at.each i d (omega (arith, l, at.count))) ∙ sym (target_at ways (get_or numbers i 0) d (omega (arith, x.0, count_targets ways))) ∙ x.1;
  among = λ e c. let x = are.each c.0 0 (omega (arith, c.1, all, at.count)) in
      (get_or numbers c.0 0, omega (arith, x.0, count_targets ways), sym (at.each c.0 e (omega (arith, c.1, at.count))) ∙ c.2);
  all = λ e c is. let x = are.all c.0 (omega (arith, c.1, count_targets ways)) (target_at ways c.0 e c.1 ∙ ap (λ (y : Way). y.to) c.2 ∙ is) in
      (x.0, omega (arith, x.1, all, at.count), at.each x.0 e (omega (arith, x.1, all)) ∙ ap (λ (j : ℕ). get_or ways j e) (get_or_default numbers x.0 0 c.0 x.1 ∙ x.2) ∙ c.2);
}

-- what stands for an edge past the last
abbrev pub no_way : Way
no_way = record { to = 0; bit = 0; kinds = record { registers = []; slots = []; checked = 0; offsets = Fixed }; held = record { registers = []; slots = []; window = []; target = 0 } }
