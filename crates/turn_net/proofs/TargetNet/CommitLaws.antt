-- The map of the site that commits, by the records that commit.
use Rattle.std.specs.Prelude.{slice_index, if◌then◌else◌, Option, None, Some}
use Rattle.std.proofs.Common.{◌≡◌, ◌∙◌, ℕ, zero, suc, ◌==◌, ◌<◌, Bool, true, false, ◌&&◌, ◌||◌, List, [], ◌∷◌, length, get_or, refl, sym, ap, arith, find}
use Rattle.std.proofs.lemmas.Bool.{eqb-true, eqb-false, eq-eqb}
use Rattle.net_core.specs.Value.{word, bit as bit_word, Env}
use Rattle.hazard_core.specs.cell_core.Cells.{bit, on}
use Rattle.hazard_core.specs.cell_core.Sites.{ProgramView, site_at}
use Rattle.cell_nets.specs.declared.operand.Operand.{Operand}
use Rattle.cell_nets.specs.declared.operand.Operand.TheVariants.{Known}
use Rattle.cell_nets.specs.Operands.{number_in}
use Rattle.cell_nets.proofs.StepNets.StepLaws.{on_bit}
use Rattle.turn_net.specs.declared.nets.RecordNets.{RecordNets}
use Rattle.turn_net.specs.Actions.{is_at}
use Rattle.turn_net.specs.Nets.{sites_of}
use Rattle.turn_net.specs.Steps.{ShowsChosen}
use Rattle.turn_net.specs.TargetNet.Commits.{any_on, IsRecord, AreMaps, commits_on}

pub bit_as_word : (b : Bool) → word 1 (bit b) ≡ bit_word b
bit_as_word true = refl
bit_as_word false = refl

-- ---- the site that commits is one of the records
later_record : {N : Type 0} (r : RecordNets N) (rs : List (RecordNets N)) (o : Option ℕ) → IsRecord rs o → IsRecord (r ∷ rs) o
later_record r rs None h = tt
later_record r rs (Some j) (k, lt, e) = (suc k, omega (arith, lt), e)

pub first_record : {N : Type 0} (q : ℕ → Bool) (rs : List (RecordNets N)) → IsRecord rs (find q (sites_of rs))
first_record q [] = tt
first_record q (r ∷ rs) = by_test (first_record q rs) (q r.number)
  where
    by_test : IsRecord rs (find q (sites_of rs)) → (b : Bool) → IsRecord (r ∷ rs) (if b then Some r.number else find q (sites_of rs))
    by_test later true = (0, omega arith, λ d. refl)
    by_test later false = later_record r rs (find q (sites_of rs)) later

-- ---- and its map is theirs
module _ {N : Type 0} (v : Env N) (p : ProgramView) (maps : List ℕ) (rs : List (RecordNets N)) (chosen : List (Operand N)) (are : AreMaps p maps rs) (m : ℕ) where
  -- none of them is on the map
  none_on : (n : ℕ) → ((k : ℕ) → k < n → ((slice_index maps k == m) && on (number_in v (get_or chosen k (Known 0)))) ≡ false) → any_on v maps chosen m n ≡ false
  none_on zero h = refl
  none_on (suc n) h = ap (λ b. b || any_on v maps chosen m n) (h n (omega arith)) ∙ none_on n (λ k lt. h k (omega (arith, lt)))

  or_true : (b : Bool) → (b || true) ≡ true
  or_true true = refl
  or_true false = refl

  -- one of them is
  some_on : (n k : ℕ) → k < n → ((slice_index maps k == m) && on (number_in v (get_or chosen k (Known 0)))) ≡ true → any_on v maps chosen m n ≡ true
  some_on zero k lt h = absurd (omega (arith, lt))
  some_on (suc n) k lt h = by_test (λ less. some_on n k less h) (k == n) refl
    where
      by_test : (k < n → any_on v maps chosen m n ≡ true) → (b : Bool) → (k == n) ≡ b → any_on v maps chosen m (suc n) ≡ true
      by_test before true e = let same : n ≡ k = sym (eqb-true k n e) in ap (λ j. ((slice_index maps j == m) && on (number_in v (get_or chosen j (Known 0)))) || any_on v maps chosen m n) same ∙ ap (λ b. b || any_on v maps chosen m n) h
      by_test before false e =
          let less : k < n = omega (arith, lt, eqb-false k n e) in
          ap (λ b. ((slice_index maps n == m) && on (number_in v (get_or chosen n (Known 0)))) || b) (before less) ∙ or_true ((slice_index maps n == m) && on (number_in v (get_or chosen n (Known 0))))

  record_at : (xs : List (RecordNets N)) (k : ℕ) → k < length xs → RecordNets N
  record_at [] k lt = absurd (omega (arith, lt))
  record_at (x ∷ xs) zero lt = x
  record_at (x ∷ xs) (suc k) lt = record_at xs k (omega (arith, lt))

  module _ (site : Option ℕ) (shown : ShowsChosen v site rs chosen) where
    on_is : (k : ℕ) (d : RecordNets N) → k < length rs → ((slice_index maps k == m) && on (number_in v (get_or chosen k (Known 0)))) ≡ (((site_at p.sites (get_or rs k d).number).map == m) && is_at site (get_or rs k d).number)
    on_is k d lt = ap (λ j. (j == m) && on (number_in v (get_or chosen k (Known 0)))) (are.each k d lt) ∙ ap (λ b. ((site_at p.sites (get_or rs k d).number).map == m) && b) (ap on (shown k (Known 0) d lt) ∙ on_bit (is_at site (get_or rs k d).number))

  and_false : (b : Bool) → (b && false) ≡ false
  and_false true = refl
  and_false false = refl

  pub any_is : (site : Option ℕ) → IsRecord rs site → ShowsChosen v site rs chosen → any_on v maps chosen m (length rs) ≡ commits_on p site m
  any_is None record_of shown = none_on (length rs) (λ k lt. on_is None shown k (record_at rs k lt) lt ∙ and_false ((site_at p.sites (get_or rs k (record_at rs k lt)).number).map == m))
  any_is (Some j) (k, lt, e) shown = by_test ((site_at p.sites j).map == m) refl
    where
      here : (d : RecordNets N) → ((site_at p.sites (get_or rs k d).number).map == m) && is_at (Some j) (get_or rs k d).number ≡ ((site_at p.sites j).map == m)
      here d = ap (λ i. ((site_at p.sites i).map == m) && (j == i)) (e d) ∙ ap (λ b. ((site_at p.sites j).map == m) && b) (eq-eqb j j refl) ∙ and_true ((site_at p.sites j).map == m)
        where
          and_true : (b : Bool) → (b && true) ≡ b
          and_true true = refl
          and_true false = refl

      by_test : (b : Bool) → ((site_at p.sites j).map == m) ≡ b → any_on v maps chosen m (length rs) ≡ ((site_at p.sites j).map == m)
      by_test true off = some_on (length rs) k lt (on_is (Some j) shown k (record_at rs k lt) lt ∙ here (record_at rs k lt) ∙ off) ∙ sym off
      by_test false off = none_on (length rs) (λ i l. on_is (Some j) shown i (record_at rs i l) l ∙ other (get_or rs i (record_at rs i l)).number (j == (get_or rs i (record_at rs i l)).number) refl) ∙ sym off
        where
          other : (i : ℕ) (b : Bool) → (j == i) ≡ b → (((site_at p.sites i).map == m) && (j == i)) ≡ false
          other i true at = ap (λ b. ((site_at p.sites i).map == m) && b) at ∙ ap (λ n. ((site_at p.sites n).map == m) && true) (sym (eqb-true j i at)) ∙ ap (λ b. b && true) off
          other i false at = ap (λ b. ((site_at p.sites i).map == m) && b) at ∙ and_false ((site_at p.sites i).map == m)
