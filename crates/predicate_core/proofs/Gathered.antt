-- The cells that stand for the writes of maps, one map after another, and after a node.
use Rattle.std.proofs.Common.{◌≡◌, ◌∙◌, ℕ, suc, ◌+◌, ◌<◌, ◌≤◌, ◌⊎◌, inl, inr, List, [], ◌∷◌, ◌++◌, length, get_or, map, refl, sym, ap, arith, subst, take}
use Rattle.std.specs.Prelude.{slice_index, slice_set, All}
use Rattle.std.proofs.Math.ListN.{get_or-append}
use Rattle.std.proofs.Math.Seq.{get_or-append_seam, take-suc}
use Rattle.std.proofs.lemmas.Bool.{cases_lt}
use Rattle.std.proofs.lemmas.List.{set-get_or, get_or_default, map-append, length-map, get_or-map}
use Rattle.std.proofs.lemmas.List.Elements.{All-nil, All-cons, All-weaker}
use Rattle.cell_core.specs.Cells.{CellView, cell_at}
use Rattle.cell_core.specs.Sites.{SiteView, site_at}
use Rattle.cell_core.specs.Rows.{AreRows, greatest}
use Rattle.operator_cells.specs.declared.joining.Arm.{Arm}
use Rattle.operator_cells.specs.Joining.{flat}
use Rattle.operator_cells.specs.declared.held_cells.way.Way.{Way}
use Rattle.operator_cells.specs.HeldCells.Reading.{AreRanks}
use Rattle.predicate_core.specs.StepCells.Waiting.{waiting_for, WaitsFor, WaitsBehind, Gathers}
use Rattle.predicate_core.proofs.LaterReads.{ranks_before}
use Rattle.predicate_core.specs.Progress.{targets, AreNumbers}
use Rattle.predicate_core.specs.Reading.{PendingMeets}
use Rattle.predicate_core.specs.Gathering.{arm_of, arms_of, GathersTo, PassesTo}

-- no cell is higher than the highest
flat_most : (rank : ℕ → ℕ) (arms : List Arm) → All (λ a. rank a.cell ≤ greatest rank (flat arms)) arms
flat_most rank [] = All-nil (λ a. rank a.cell ≤ greatest rank (flat []))
flat_most rank (a ∷ more) = All-cons (λ b. rank b.cell ≤ greatest rank (flat (a ∷ more))) a more (omega arith)
    (All-weaker (λ b. rank b.cell ≤ greatest rank (flat more)) (λ b. rank b.cell ≤ greatest rank (flat (a ∷ more))) (λ b h. omega (arith, h)) more (flat_most rank more))

module _ (a b c : List CellView) (ways : List Way) (pending : List (List ℕ)) (numbers : List ℕ) (n : ℕ) (all more : List ℕ) (arms : List Arm) (x : ℕ)
    (g : GathersTo a b ways pending numbers n all) (are : (e : Way) → arms ≡ arms_of ways pending numbers n e) (new : Gathers b c arms x) (is : more ≡ all ++ x ∷ []) (count : length all ≡ n) where
  old_at : (q : ℕ) → q < n → slice_index more q ≡ slice_index all q
  old_at q l = ap (λ (xs : List ℕ). get_or xs q 0) is ∙ get_or-append all (x ∷ []) 0 q (omega (arith, l, count))

  new_at : slice_index more n ≡ x
  new_at = ap (λ (xs : List ℕ). get_or xs n 0) is ∙ ap (λ (j : ℕ). get_or (all ++ x ∷ []) j 0) (sym count) ∙ get_or-append_seam all x [] 0

  pub gathers_more : GathersTo a c ways pending numbers (n + 1) more
  gathers_more = record { rows = λ row rows. g.rows row (new.rises.grows.rows row rows); stays = λ q e d l all. stay q e d all l (cases_lt q n); result = λ row q e rows l. results row q e rows l (cases_lt q n); above = λ rank q e ranks l. highest rank q e ranks l (cases_lt q n); cells = λ row last e rows h k low high. cells_in row last e rows h k low high (cases_lt k (length b)) }
    where
      stay : (q : ℕ) (e : Way) (d : ℕ) → All (λ y. y.cell ≡ d) (arms_of ways pending numbers q e) → q < n + 1 → (q < n) ⊎ (n ≤ q) → slice_index more q ≡ d
      stay q e d one l (inl m) = old_at q m ∙ g.stays q e d m one
      stay q e d one l (inr m) =
          let here : q ≡ n = omega (arith, l, m) in
          ap (slice_index more) here ∙ new_at ∙ (new.stays d (subst (All (λ y. y.cell ≡ d)) (sym (are e)) (subst (λ (j : ℕ). All (λ y. y.cell ≡ d) (arms_of ways pending numbers j e)) here one))).0

      results : (row : ℕ → ℕ) (q : ℕ) (e : Way) → AreRows c row → q < n + 1 → (q < n) ⊎ (n ≤ q) → row (slice_index more q) ≤ greatest row (flat (arms_of ways pending numbers q e))
      results row q e rows l (inl m) = subst (λ (j : ℕ). row j ≤ greatest row (flat (arms_of ways pending numbers q e))) (sym (old_at q m)) (g.result row q e (new.rises.grows.rows row rows) m)
      results row q e rows l (inr m) =
          let here : n ≡ q = omega (arith, l, m) in
          subst (λ (j : ℕ). row (slice_index more j) ≤ greatest row (flat (arms_of ways pending numbers j e))) here
          (subst (λ (j : ℕ). row j ≤ greatest row (flat (arms_of ways pending numbers n e))) (sym new_at) (subst (λ (ys : List Arm). row x ≤ greatest row (flat ys)) (are e) (new.rises.result row rows)))

      no_lower : (rank : ℕ → ℕ) → AreRanks c rank → All (λ y. y.cell ≡ x) arms ⊎ (cell_at c x ≡ waiting_for (flat arms)) → All (λ y. rank y.cell ≤ rank x) arms
      no_lower rank ranks (inl same) = All-weaker (λ y. y.cell ≡ x) (λ y. rank y.cell ≤ rank x) (λ y e. omega (arith, ap rank e)) arms same
      no_lower rank ranks (inr is) =
          let most = ranks.each x new.there in
          let ins = ap (λ (y : CellView). greatest rank y.ins) is in
          All-weaker (λ y. rank y.cell ≤ greatest rank (flat arms)) (λ y. rank y.cell ≤ rank x) (λ y h. omega (arith, h, most, ins)) arms (flat_most rank arms)

      highest : (rank : ℕ → ℕ) (q : ℕ) (e : Way) → AreRanks c rank → q < n + 1 → (q < n) ⊎ (n ≤ q) → All (λ y. rank y.cell ≤ rank (slice_index more q)) (arms_of ways pending numbers q e)
      highest rank q e ranks l (inl m) = subst (λ (j : ℕ). All (λ y. rank y.cell ≤ rank j) (arms_of ways pending numbers q e)) (sym (old_at q m)) (g.above rank q e (ranks_before (λ k j. ⊥) b c new.grows rank ranks) m)
      highest rank q e ranks l (inr m) =
          let here : n ≡ q = omega (arith, l, m) in
          subst (λ (j : ℕ). All (λ y. rank y.cell ≤ rank (slice_index more j)) (arms_of ways pending numbers j e)) here
          (subst (λ (j : ℕ). All (λ y. rank y.cell ≤ rank j) (arms_of ways pending numbers n e)) (sym new_at) (subst (All (λ y. rank y.cell ≤ rank x)) (are e) (no_lower rank ranks new.is)))

      gap : (last : ℕ) (row : ℕ → ℕ) (e : Way) → AreRows c row → ((d : ℕ) × All (λ y. y.cell ≡ d) (arms_of ways pending numbers n e)) ⊎ (greatest row (flat (arms_of ways pending numbers n e)) ≤ last)
          → (k : ℕ) → length b ≤ k → k < length c → row k ≤ last
      gap last row e rows (inl one) k low high =
          absurd (let same = ap length (new.stays one.0 (subst (All (λ y. y.cell ≡ one.0)) (sym (are e)) one.1)).1 in omega (arith, low, high, same))
      gap last row e rows (inr most) k low high =
          let r = new.rises.grows.each row rows k low high in
          let s = ap (λ (ys : List Arm). greatest row (flat ys)) (are e) in omega (arith, r, s, most)

      cells_in : (row : ℕ → ℕ) (last : ℕ) (e : Way) → AreRows c row
          → ((q : ℕ) → q < n + 1 → ((d : ℕ) × All (λ y. y.cell ≡ d) (arms_of ways pending numbers q e)) ⊎ (greatest row (flat (arms_of ways pending numbers q e)) ≤ last))
          → (k : ℕ) → length a ≤ k → k < length c → (k < length b) ⊎ (length b ≤ k) → row k ≤ last
      cells_in row last e rows h k low high (inl m) = g.cells row last e (new.rises.grows.rows row rows) (λ q l. h q (omega (arith, l))) k low m
      cells_in row last e rows h k low high (inr m) = gap last row e rows (h n (omega arith)) k m high

-- what each edge that leads to a node brings is no higher
pub pending_meets : (k : ℕ) (cells cells2 : List CellView) (ways : List Way) (beside : List (List ℕ)) (numbers : List ℕ) (maps : ℕ) (pending : List ℕ) → GathersTo cells cells2 ways beside numbers maps pending → length pending ≡ maps
    → AreNumbers k (targets ways) numbers → PendingMeets k cells2 ways beside pending
pending_meets k cells cells2 ways beside numbers maps pending g count are rank n d q ranks l to below =
    let one : ℕ → Arm = λ i. arm_of ways beside q i d in
    let c = are.all n (omega (arith, l, length-map ways (λ (e : Way). e.to))) (get_or-map (λ (e : Way). e.to) ways n d 0 l ∙ to) in
    let h = g.above rank q d ranks (omega (arith, below, count)) c.0 (one n) (omega (arith, c.1, length-map numbers one)) in
    omega (arith, h, ap (λ (a : Arm). rank a.cell) (get_or-map one numbers c.0 n (one n) c.1 ∙ ap one c.2))

-- ---- after a node
pub passes_none : (a : List CellView) (sites : List SiteView) (number first : ℕ) (pending : List ℕ) → length sites ≤ number → PassesTo a a sites number first pending pending
passes_none a sites number first pending h = record {
  none = λ l. (refl, refl);
  stays = λ l r. (refl, refl);
  waits = λ l r. absurd (omega (arith, h, l));
}

pub passes_some : (a b : List CellView) (sites : List SiteView) (number first map c before : ℕ) (pending pending2 : List ℕ) → number < length sites → (site_at sites number).map ≡ map → before ≡ slice_index pending map
    → pending2 ≡ slice_set pending map c → WaitsBehind a b sites number first before c → PassesTo a b sites number first pending pending2
passes_some a b sites number first map c before pending pending2 there map_is before_is is w = record {
  none = λ l. absurd (omega (arith, there, l));
  stays = λ l r. let s = w.stays r in (is ∙ ap (slice_set pending map) (s.0 ∙ before_is) ∙ set-get_or pending map 0, s.1);
  waits = λ l r. (
    c,
    is ∙ ap (λ (m : ℕ). slice_set pending m c) (sym map_is),
    subst (λ (m : ℕ). WaitsFor a b (site_at sites number) number first (slice_index pending m) c) (sym map_is)
        (subst (λ (n : ℕ). WaitsFor a b (site_at sites number) number first n c) before_is (w.waits r)),
  );
}

-- ---- the arms of a map, one edge after another
pub arms_pushed : (ways : List Way) (pending : List (List ℕ)) (numbers : List ℕ) (q n : ℕ) (arms new : List Arm) (w : Way) (f : ℕ) (row : List ℕ) (d : Way) → n < length numbers → get_or numbers n f < length ways
    → new ≡ arms ++ record { bit = (get_or ways (get_or numbers n f) w).bit; cell = get_or row q 0 } ∷ [] → row ≡ get_or pending (get_or numbers n f) [] → arms ≡ arms_of ways pending (take n numbers) q d
    → new ≡ arms_of ways pending (take (n + 1) numbers) q d
arms_pushed ways pending numbers q n arms new w f row d l inside is row_is before =
    let one : ℕ → Arm = λ i. arm_of ways pending q i d in
    let next : suc n ≡ n + 1 = omega arith in
    is ∙ ap (λ (xs : List Arm). xs ++ record { bit = (get_or ways (get_or numbers n f) w).bit; cell = get_or row q 0 } ∷ []) before
    ∙ ap (λ (e : Way). arms_of ways pending (take n numbers) q d ++ record { bit = e.bit; cell = get_or row q 0 } ∷ []) (get_or_default ways (get_or numbers n f) w d inside)
    ∙ ap (λ (r : List ℕ). arms_of ways pending (take n numbers) q d ++ record { bit = (get_or ways (get_or numbers n f) d).bit; cell = get_or r q 0 } ∷ []) row_is
    ∙ sym (map-append one (take n numbers) (get_or numbers n f ∷ [])) ∙ ap (map one) (sym (take-suc numbers n f l)) ∙ ap (λ (k : ℕ). arms_of ways pending (take k numbers) q d) next
