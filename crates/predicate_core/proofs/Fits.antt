-- Where edges meet at a node: what is held there fits the rows of its origins.
use Rattle.std.proofs.Common.{◌≡◌, ◌∙◌, ℕ, ◌+◌, ◌<◌, ◌≤◌, ◌&&◌, ◌⊎◌, inl, inr, not, Bool, true, false, if◌then◌else◌, Option, Some, None, List, [], length, get_or, refl, sym, ap, arith, subst, max}
use Rattle.std.specs.Prelude.{slice_index, All, Contains}
use Rattle.std.proofs.lemmas.Bool.{cases_lt}
use Rattle.std.proofs.lemmas.List.{length-map, get_or-map}
use Rattle.std.proofs.lemmas.List.Elements.{All-contains}
use Rattle.xdp_machine.specs.Program.{XdpProgram}
use Rattle.kind_core.specs.declared.kind.Kinds.{Kinds}
use Rattle.unfold_core.specs.declared.unfolding.Unfolded.{Unfolded}
use Rattle.cell_core.specs.Cells.{CellView}
use Rattle.cell_core.specs.Rows.{AreRows, greatest, numbers}
use Rattle.operator_cells.specs.declared.joining.Arm.{Arm}
use Rattle.operator_cells.specs.Joining.{flat}
use Rattle.operator_cells.specs.Making.{seen}
use Rattle.operator_cells.specs.row_rules.declared.place_rows.origin.Origin.{Origin}
use Rattle.operator_cells.specs.row_rules.PlaceRows.Locations.{first_pending, location_count}
use Rattle.operator_cells.specs.row_rules.PlaceRows.Spans.{pending_place}
use Rattle.operator_cells.specs.row_rules.PlaceRows.Origins.{is_open, has_data, row_of, row_at, every_row, by_place, origin_at_start}
use Rattle.operator_cells.proofs.row_rules_laws.PlaceRows.PlaceLaws.{place_at, greatest_within, greatest_above}
use Rattle.operator_cells.specs.row_rules.NodeRows.Joining.{brings, edge_row, all_bring, new_origin, met, first_brings, origin_at}
use Rattle.operator_cells.specs.declared.held_cells.machine_cells.RegisterCells.{RegisterCells}
use Rattle.operator_cells.specs.declared.held_cells.way.Way.{Way}
use Rattle.operator_cells.specs.HeldCells.Paths.{EdgeView}
use Rattle.operator_cells.specs.HeldCells.RegisterCells.{PointerView, pointed}
use Rattle.operator_cells.specs.HeldCells.Rows.{kind_at, number_at, held_row, bits_row, brought_row, hold_one, chosen_row, met_row, choosing_row, JoinsTo}
use Rattle.predicate_core.specs.ProgramGraph.Graphs.{node_view, edge_view, graph_of}
use Rattle.predicate_core.specs.ProgramGraph.Sound.{IsSoundGraph, GraphsAreSound}
use Rattle.predicate_core.specs.declared.making.Progress.{Progress}
use Rattle.predicate_core.specs.Feeding.{SoundGraphsFeed}
use Rattle.predicate_core.specs.Gathering.{arm_of, arms_of, GathersTo}
use Rattle.predicate_core.specs.Progress.{entries_of, pending_of, targets, AreNumbers}
use Rattle.predicate_core.specs.Stages.{behind_start, arrivals_at, kinds_of, origins_met, AreNamed, StandWithin, FitSoFar, ComesWithin}
use Rattle.predicate_core.specs.Fitting.{ArrivalsFit}
use Rattle.predicate_core.proofs.Bringing.{RowBrought, met_is, bring_each, old_row, new_row, flat_low}
use Rattle.predicate_core.proofs.Arrivals.{along, closed, has_open, has_pending, cell_row, cell_name}
use Rattle.predicate_core.proofs.PlaceFits.{PlaceFits, CellFits, origin_is, later_origins, later_bits, later_place, start_of, start_row, first_origins, first_bits, first_place}
use Rattle.predicate_core.proofs.Numbered.{target_at, count_targets, no_way}

-- the arms of these edges
arms_all : (P : Arm → Type 0) (ways : List Way) (pending : List (List ℕ)) (numbers : List ℕ) (q : ℕ) → All (λ i. P (arm_of ways pending q i no_way)) numbers → All P (arms_of ways pending numbers q no_way)
arms_all P ways pending numbers q h j d l =
    let m : j < length numbers = omega (arith, l, length-map numbers (λ i. arm_of ways pending q i no_way)) in
    subst P (sym (get_or-map (λ i. arm_of ways pending q i no_way) numbers j 0 d m)) (h j 0 m)

module _ (p : XdpProgram) (u : Unfolded) (k : ℕ) (t : Progress) (fit : FitSoFar p u k t) (numbers : List ℕ) (are : AreNumbers k (targets t.made.ways.items) numbers)
    (waits : All (λ beside. length beside ≡ length p.decls) (pending_of t)) (count : length (pending_of t) ≡ length t.made.ways.items) (few : length p.decls ≤ 16) where
  ways : List Way
  ways = t.made.ways.items

  -- an edge of these, with what stands beside it
  each_number : (i d : ℕ) → i < length numbers → (get_or numbers i d < length t.made.ways.items) × ((get_or t.made.ways.items (get_or numbers i d) no_way).to ≡ k) × (length (get_or (pending_of t) (get_or numbers i d) []) ≡ length p.decls)
  each_number i d l =
      let x = are.each i d l in
      let m : get_or numbers i d < length t.made.ways.items = omega (arith, x.0, count_targets t.made.ways.items) in
      (m, sym (target_at t.made.ways.items (get_or numbers i d) no_way m) ∙ x.1, waits (get_or numbers i d) [] (omega (arith, m, count)))

  module _ (q : ℕ) (l : q < length p.decls) where
    module _ (later : 0 < k) (origins : origins_met p u k ≡ by_place (origin_at (arrivals_at p u k) (k + 1) (kinds_of u k))) where
      later_rows : (row : ℕ → ℕ) → AreRows (seen t.made.cells.items) row → All (λ a. RowBrought (arrivals_at p u k) (pending_place q) (row a.bit) (row a.cell)) (arms_of t.made.ways.items (pending_of t) numbers q no_way)
      later_rows row rows = arms_all (λ a. RowBrought (arrivals_at p u k) (pending_place q) (row a.bit) (row a.cell)) t.made.ways.items (pending_of t) numbers q (λ i d m.
          let n = each_number i d m in let b = fit.ways (get_or numbers i d) no_way n.0 in
          let a = along p u k (get_or t.made.ways.items (get_or numbers i d) no_way) b.behind later n.1 b.stands in
          cell_row p u k (get_or t.made.ways.items (get_or numbers i d) no_way) b.behind (get_or (pending_of t) (get_or numbers i d) []) a row (pointed t.made.pointers.items) q
          (slice_index (get_or (pending_of t) (get_or numbers i d) []) q) ((b.within row rows).pending q (omega (arith, l, n.2))) (b.within row rows))

      later_names : (o : Origin) → all_bring (arrivals_at p u k) (pending_place q) o ≡ true → All (λ a. (o.maker ≤ k) × (a.cell ≡ fit.named o.maker (pending_place q))) (arms_of t.made.ways.items (pending_of t) numbers q no_way)
      later_names o all = arms_all (λ a. (o.maker ≤ k) × (a.cell ≡ fit.named o.maker (pending_place q))) t.made.ways.items (pending_of t) numbers q (λ i d m.
          let n = each_number i d m in let b = fit.ways (get_or numbers i d) no_way n.0 in
          let a = along p u k (get_or t.made.ways.items (get_or numbers i d) no_way) b.behind later n.1 b.stands in
          cell_name p u k (get_or t.made.ways.items (get_or numbers i d) no_way) b.behind (get_or (pending_of t) (get_or numbers i d) []) a fit.named q
          (slice_index (get_or (pending_of t) (get_or numbers i d) []) q) o (b.names.pending q o (omega (arith, l, n.2)))
          (All-contains (λ x. brings x (pending_place q) ≡ Some o) (arrivals_at p u k) a.arrival (bring_each (arrivals_at p u k) (pending_place q) o all) a.among))

      later_cell : 1 ≤ length numbers → CellFits fit.named k q (arms_of t.made.ways.items (pending_of t) numbers q no_way) (seen t.made.cells.items) (get_or (origins_met p u k) (pending_place q) None)
      later_cell some = record { name = λ o f. named_by o m.2 (origin_is (arrivals_at p u k) (k + 1) (pending_place q) _ m.0 m.1 at o f); rows = λ row rows. row_by row rows m.2 (ap row_of (at ∙ m.1)) }
        where
          m : (o : Origin) × (met (arrivals_at p u k) (k + 1) (pending_place q) (first_brings (arrivals_at p u k) (pending_place q)) ≡ Some o) × ((all_bring (arrivals_at p u k) (pending_place q) o ≡ true) ⊎ (o ≡ new_origin (arrivals_at p u k) (k + 1) (pending_place q)))
          m = met_is (arrivals_at p u k) (k + 1) (pending_place q) (first_brings (arrivals_at p u k) (pending_place q))

          data_there : (b : Bool) (x : Option Origin) → b ≡ true → (if b then x else None) ≡ x
          data_there true x h = refl
          data_there false x h = cc

          at : get_or (origins_met p u k) (pending_place q) None ≡ met (arrivals_at p u k) (k + 1) (pending_place q) (first_brings (arrivals_at p u k) (pending_place q))
          at = ap (λ (os : List (Option Origin)). get_or os (pending_place q) None) origins ∙ place_at (origin_at (arrivals_at p u k) (k + 1) (kinds_of u k)) (pending_place q) (omega (arith, l, few))
              ∙ data_there (has_data (kinds_of u k) (pending_place q)) _ (has_pending (kinds_of u k) q)

          named_by : (o : Origin) → ((all_bring (arrivals_at p u k) (pending_place q) m.0 ≡ true) ⊎ (m.0 ≡ new_origin (arrivals_at p u k) (k + 1) (pending_place q))) → o ≡ m.0
              → (o.maker ≡ k + 1) ⊎ ((o.maker ≤ k) × All (λ a. a.cell ≡ fit.named o.maker (pending_place q)) (arms_of t.made.ways.items (pending_of t) numbers q no_way))
          named_by o (inl all) is =
              let names = later_names o (subst (λ (x : Origin). all_bring (arrivals_at p u k) (pending_place q) x ≡ true) (sym is) all) in
              inr ((names 0 (record { bit = 0; cell = 0 }) (omega (arith, some, length-map numbers (λ i. arm_of t.made.ways.items (pending_of t) q i no_way)))).0, λ i d n. (names i d n).1)
          named_by o (inr new) is = inl (ap (λ (x : Origin). x.maker) (is ∙ new))

          row_by : (row : ℕ → ℕ) → AreRows (seen t.made.cells.items) row → ((all_bring (arrivals_at p u k) (pending_place q) m.0 ≡ true) ⊎ (m.0 ≡ new_origin (arrivals_at p u k) (k + 1) (pending_place q)))
              → row_of (get_or (origins_met p u k) (pending_place q) None) ≡ m.0.row
              → ((d : ℕ) × All (λ a. a.cell ≡ d) (arms_of t.made.ways.items (pending_of t) numbers q no_way) × All (λ a. row a.cell ≤ row_of (get_or (origins_met p u k) (pending_place q) None)) (arms_of t.made.ways.items (pending_of t) numbers q no_way))
              ⊎ (greatest row (flat (arms_of t.made.ways.items (pending_of t) numbers q no_way)) ≤ row_of (get_or (origins_met p u k) (pending_place q) None))
          row_by row rows (inl all) is = inl (
            fit.named m.0.maker (pending_place q),
            λ i d n. (later_names m.0 all i d n).1,
            λ i d n. let low = old_row (arrivals_at p u k) (pending_place q) _ _ m.0 all (later_rows row rows i d n) in omega (arith, low, is),
          )
          row_by row rows (inr new) is =
              let low = flat_low row [] (new_origin (arrivals_at p u k) (k + 1) (pending_place q)).row (arms_of t.made.ways.items (pending_of t) numbers q no_way) (λ i d n. new_row (arrivals_at p u k) (k + 1) (pending_place q) _ _ (later_rows row rows i d n)) in
              inr (let same = ap (λ (x : Origin). x.row) new in omega (arith, low, is, same))

    module _ (first : k ≡ 0) (origins : origins_met p u k ≡ by_place origin_at_start) where
      at_start : get_or (by_place origin_at_start) (pending_place q) None ≡ origin_at_start (pending_place q)
      at_start = place_at origin_at_start (pending_place q) (omega (arith, l, few))

      start_names : (i d : ℕ) → i < length numbers → AreNamed fit.named k (get_or t.made.ways.items (get_or numbers i d) no_way) (get_or (pending_of t) (get_or numbers i d) []) behind_start
      start_names i d m = let n = each_number i d m in let b = fit.ways (get_or numbers i d) no_way n.0 in
          subst (AreNamed fit.named k (get_or t.made.ways.items (get_or numbers i d) no_way) (get_or (pending_of t) (get_or numbers i d) [])) (start_of p u k first (get_or t.made.ways.items (get_or numbers i d) no_way) b.behind b.stands) b.names

      start_within : (row : ℕ → ℕ) → AreRows (seen t.made.cells.items) row → (i d : ℕ) → i < length numbers
          → StandWithin row (pointed t.made.pointers.items) (get_or t.made.ways.items (get_or numbers i d) no_way) (get_or (pending_of t) (get_or numbers i d) []) behind_start
      start_within row rows i d m = let n = each_number i d m in let b = fit.ways (get_or numbers i d) no_way n.0 in
          subst (StandWithin row (pointed t.made.pointers.items) (get_or t.made.ways.items (get_or numbers i d) no_way) (get_or (pending_of t) (get_or numbers i d) [])) (start_of p u k first (get_or t.made.ways.items (get_or numbers i d) no_way) b.behind b.stands) (b.within row rows)

      first_cell : 1 ≤ length numbers → CellFits fit.named k q (arms_of t.made.ways.items (pending_of t) numbers q no_way) (seen t.made.cells.items) (get_or (origins_met p u k) (pending_place q) None)
      first_cell some = record { name = name; rows = λ row rows. inr (omega (arith, low row rows)) }
        where
          low : (row : ℕ → ℕ) → AreRows (seen t.made.cells.items) row → greatest row (flat (arms_of t.made.ways.items (pending_of t) numbers q no_way)) ≤ 0
          low row rows = flat_low row [] 0 (arms_of t.made.ways.items (pending_of t) numbers q no_way) (arms_all (λ a. (row a.bit ≤ 0) × (row a.cell ≤ 0)) t.made.ways.items (pending_of t) numbers q (λ i d m.
              let s = start_within row rows i d m in let n = each_number i d m in let z = ap row_of at_start in let y = s.pending q (omega (arith, l, n.2)) in
              (s.bit, omega (arith, y, z, start_row (pending_place q)))))

          name : (o : Origin) → get_or (origins_met p u k) (pending_place q) None ≡ Some o → (o.maker ≡ k + 1) ⊎ ((o.maker ≤ k) × All (λ a. a.cell ≡ fit.named o.maker (pending_place q)) (arms_of t.made.ways.items (pending_of t) numbers q no_way))
          name o h =
              let is : get_or (by_place origin_at_start) (pending_place q) None ≡ Some o = ap (λ (os : List (Option Origin)). get_or os (pending_place q) None) (sym origins) ∙ h in
              let x = (start_names 0 0 (omega (arith, some))).pending q o (let n = each_number 0 0 (omega (arith, some)) in omega (arith, l, n.2)) is in
              inr (
                x.0,
                arms_all (λ a. a.cell ≡ fit.named o.maker (pending_place q)) t.made.ways.items (pending_of t) numbers q (λ i d m.
                    ((start_names i d m).pending q o (let n = each_number i d m in omega (arith, l, n.2)) is).1),
              )

-- ---- rows
pub met_low : (row : ℕ → ℕ) (ps : List PointerView) (here : List Way) (place n : ℕ) → ((hold_one here place ≡ true) × (brought_row row ps here place ≤ n)) ⊎ (chosen_row row ps here place ≤ n) → met_row row ps here place ≤ n
met_low row ps here place n (inl x) = rw x.0 x.1
met_low row ps here place n (inr x) = by (hold_one here place)
  where
    by : (b : Bool) → (if b then brought_row row ps here place else chosen_row row ps here place) ≤ n
    by true = omega (arith, x)
    by false = x

pub choosing_low : (row : ℕ → ℕ) (ps : List PointerView) (here : List Way) (kinds : Kinds) (place n : ℕ)
    → (is_open (kind_at kinds place) ≡ true → ((hold_one here place ≡ true) × (brought_row row ps here place ≤ n)) ⊎ (chosen_row row ps here place ≤ n)) → choosing_row row ps here kinds place ≤ n
choosing_low row ps here kinds place n h = by (is_open (kind_at kinds place)) refl (hold_one here place) refl
  where
    new : hold_one here place ≡ false → ((hold_one here place ≡ true) × (brought_row row ps here place ≤ n)) ⊎ (chosen_row row ps here place ≤ n) → chosen_row row ps here place ≤ n
    new f (inl x) = absurd (let z = x.0 in cc)
    new f (inr x) = x

    by : (a : Bool) → is_open (kind_at kinds place) ≡ a → (b : Bool) → hold_one here place ≡ b → (if a && not b then chosen_row row ps here place else 0) ≤ n
    by true e true f = omega arith
    by true e false f = new f (h e)
    by false e b f = omega arith

pub row_every : (os : List (Option Origin)) (i : ℕ) → i < location_count → row_at os i ≤ every_row os
unfolding every_row
row_every os i l = greatest_above (row_at os) 0 location_count i (omega arith) (omega (arith, l))

below_last : (i : ℕ) → i < 0 + first_pending → i < first_pending
below_last i l = omega (arith, l)

wider : (i : ℕ) → i < first_pending → i < location_count
wider i l = omega (arith, l)

trans_le : {a b c : ℕ} → a ≤ b → b ≤ c → a ≤ c
trans_le x y = omega (arith, x, y)

both_low : {a b c d e : ℕ} → a ≤ max b c → b ≤ d → c ≤ e → a ≤ max d e
both_low x y z = omega (arith, x, y, z)

last_low : {a c : ℕ} (b : ℕ) → a ≤ c → a ≤ max b c
last_low b x = omega (arith, x)

-- ---- all of it
module _ (p : XdpProgram) (u : Unfolded) (k : ℕ) (t : Progress) (cells cells2 : List CellView) (ps : List PointerView) (here : List Way) (guard : ℕ) (h : RegisterCells) (waiting : List ℕ) (numbers' : List ℕ)
    (joins : JoinsTo (seen t.made.cells.items) cells (pointed t.made.pointers.items) ps here (kinds_of u k) guard h)
    (gathers : GathersTo cells cells2 t.made.ways.items (pending_of t) numbers' (length p.decls) waiting) (count : length waiting ≡ length p.decls) (few : length p.decls ≤ 16)
    (fit : FitSoFar p u k t) (some : 1 ≤ length here) (some_numbers : 1 ≤ length numbers')
    (bits : (row : ℕ → ℕ) → AreRows (seen t.made.cells.items) row → bits_row row here ≤ edge_row (arrivals_at p u k))
    (places : (place : ℕ) → place < first_pending → PlaceFits fit.named k place here (seen t.made.cells.items) (pointed t.made.pointers.items) (get_or (origins_met p u k) place None) (has_data (kinds_of u k) place))
    (waits : (q : ℕ) → q < length p.decls → CellFits fit.named k q (arms_of t.made.ways.items (pending_of t) numbers' q no_way) (seen t.made.cells.items) (get_or (origins_met p u k) (pending_place q) None)) where
  held_low : (row : ℕ → ℕ) → AreRows cells row → (place : ℕ) → place < first_pending → held_row row ps h (kinds_of u k) place ≤ row_at (origins_met p u k) place
  held_low row rows place l = by (has_data (kinds_of u k) place) refl
    where
      by : (b : Bool) → has_data (kinds_of u k) place ≡ b → held_row row ps h (kinds_of u k) place ≤ row_at (origins_met p u k) place
      by true e =
          let m = met_low row (pointed t.made.pointers.items) here place (row_at (origins_met p u k) place) ((places place l).rows row (joins.grows.rows row rows) e) in
          let x = joins.held row rows place l in omega (arith, m, x)
      by false e = omega (arith, closed row ps (kind_at (kinds_of u k) place) (number_at h place) (sym (has_open (kinds_of u k) place l) ∙ e))

  arm_there : (q : ℕ) → 0 < length (arms_of t.made.ways.items (pending_of t) numbers' q no_way)
  arm_there q = omega (arith, some_numbers, length-map numbers' (λ i. arm_of t.made.ways.items (pending_of t) q i no_way))

  waiting_low : (row : ℕ → ℕ) → AreRows cells2 row → (q : ℕ) → q < length p.decls → row (slice_index waiting q) ≤ row_at (origins_met p u k) (pending_place q)
  waiting_low row rows q l = by ((waits q l).rows row (joins.grows.rows row (gathers.rows row rows)))
    where
      by : ((d : ℕ) × All (λ a. a.cell ≡ d) (arms_of t.made.ways.items (pending_of t) numbers' q no_way) × All (λ a. row a.cell ≤ row_of (get_or (origins_met p u k) (pending_place q) None)) (arms_of t.made.ways.items (pending_of t) numbers' q no_way))
          ⊎ (greatest row (flat (arms_of t.made.ways.items (pending_of t) numbers' q no_way)) ≤ row_of (get_or (origins_met p u k) (pending_place q) None))
          → row (slice_index waiting q) ≤ row_at (origins_met p u k) (pending_place q)
      by (inl x) =
          let a : Arm = record { bit = 0; cell = 0 } in
          let e = ap row (gathers.stays q no_way x.0 l x.1 ∙ sym (x.1 0 a (arm_there q))) in
          let low = x.2 0 a (arm_there q) in omega (arith, e, low)
      by (inr x) = let r = gathers.result row q no_way rows l in omega (arith, r, x)

  new_low : (row : ℕ → ℕ) → AreRows cells2 row → (c : ℕ) → length (seen t.made.cells.items) ≤ c → c < length cells2 → row c ≤ max (edge_row (arrivals_at p u k)) (every_row (origins_met p u k))
  new_low row rows c low high = by (cases_lt c (length cells))
    where
      each : (place : ℕ) → place < first_pending → choosing_row row (pointed t.made.pointers.items) here (kinds_of u k) place ≤ every_row (origins_met p u k)
      each place l =
          let x = choosing_low row (pointed t.made.pointers.items) here (kinds_of u k) place (row_at (origins_met p u k) place)
          (λ e. (places place l).rows row (joins.grows.rows row (gathers.rows row rows)) (has_open (kinds_of u k) place l ∙ e)) in
          trans_le x (row_every (origins_met p u k) place (wider place l))

      fits : (q : ℕ) → q < length p.decls → ((d : ℕ) × All (λ a. a.cell ≡ d) (arms_of t.made.ways.items (pending_of t) numbers' q no_way) × All (λ a. row a.cell ≤ row_of (get_or (origins_met p u k) (pending_place q) None)) (arms_of t.made.ways.items (pending_of t) numbers' q no_way))
          ⊎ (greatest row (flat (arms_of t.made.ways.items (pending_of t) numbers' q no_way)) ≤ row_of (get_or (origins_met p u k) (pending_place q) None))
          → ((d : ℕ) × All (λ a. a.cell ≡ d) (arms_of t.made.ways.items (pending_of t) numbers' q no_way)) ⊎ (greatest row (flat (arms_of t.made.ways.items (pending_of t) numbers' q no_way)) ≤ every_row (origins_met p u k))
      fits q l (inl x) = inl (x.0, x.1)
      fits q l (inr x) = inr (trans_le x (row_every (origins_met p u k) (pending_place q) (omega (arith, l, few))))

      by : (c < length cells) ⊎ (length cells ≤ c) → row c ≤ max (edge_row (arrivals_at p u k)) (every_row (origins_met p u k))
      by (inl m) =
          let x = joins.grows.each row (gathers.rows row rows) c low m in
          let b = bits row (joins.grows.rows row (gathers.rows row rows)) in
          let g = greatest_within (choosing_row row (pointed t.made.pointers.items) here (kinds_of u k)) (every_row (origins_met p u k)) 0 first_pending (λ i from to. each i (below_last i to)) in
          both_low x b g
      by (inr m) =
          last_low (edge_row (arrivals_at p u k)) (gathers.cells row (every_row (origins_met p u k)) no_way rows (λ q l. fits q l ((waits q l).rows row (joins.grows.rows row (gathers.rows row rows)))) c m high)

  pub comes_within : ComesWithin p u fit.named k (seen t.made.cells.items) cells2 ps guard h waiting
  comes_within = record {
    held = λ place o l e. held_name place o l ((places place l).name o e);
    pending = λ q o l e. let m : q < length p.decls = omega (arith, l, count) in pending_name q o m ((waits q m).name o e);
    rows = λ row rows. joins.grows.rows row (gathers.rows row rows);
    cells = new_low;
    guard_row = λ row rows. let r = gathers.rows row rows in let x = joins.guard_row row r in let b = bits row (joins.grows.rows row r) in omega (arith, x, b);
    before = λ row rows. record {
      held = held_low row (gathers.rows row rows);
      count = omega (arith, count);
      pending = λ q l. waiting_low row rows q (omega (arith, l, count));
    };
  }
    where
      held_name : (place : ℕ) (o : Origin) → place < first_pending → (o.maker ≡ k + 1) ⊎ ((o.maker ≤ k) × (hold_one here place ≡ true) × All (λ e. number_at e.held place ≡ fit.named o.maker place) here)
          → (o.maker ≡ k + 1) ⊎ ((o.maker ≤ k) × (number_at h place ≡ fit.named o.maker place))
      held_name place o l (inl e) = inl e
      held_name place o l (inr x) = inr (x.0, joins.same place l x.1 0 no_way (omega (arith, some)) ∙ x.2 0 no_way (omega (arith, some)))

      pending_name : (q : ℕ) (o : Origin) → q < length p.decls → (o.maker ≡ k + 1) ⊎ ((o.maker ≤ k) × All (λ a. a.cell ≡ fit.named o.maker (pending_place q)) (arms_of t.made.ways.items (pending_of t) numbers' q no_way))
          → (o.maker ≡ k + 1) ⊎ ((o.maker ≤ k) × (slice_index waiting q ≡ fit.named o.maker (pending_place q)))
      pending_name q o l (inl e) = inl e
      pending_name q o l (inr x) = inr (x.0, gathers.stays q no_way (fit.named o.maker (pending_place q)) l x.1)

edges_up : (p : XdpProgram) (u : Unfolded) → IsSoundGraph (graph_of p u) → All (λ x. x.from < x.to) u.edges.items
edges_up p u sound i d l =
    let y = sound.edges i (edge_view d) (omega (arith, l, length-map u.edges.items edge_view)) in
    let e = get_or-map edge_view u.edges.items i d (edge_view d) l in
    omega (arith, y.0, ap (λ (x : EdgeView). x.from) e, ap (λ (x : EdgeView). x.to) e)

pub arrivals_fit : GraphsAreSound → SoundGraphsFeed → ArrivalsFit
arrivals_fit sounds feed p u k t cells cells2 ps here guard h waiting program unfolded fixed inside ready lead joins grows gathers count fit = by (cases_lt 0 k)
  where
    sound : IsSoundGraph (graph_of p u)
    sound = sounds p u program unfolded fixed

    lies : k < length (graph_of p u).nodes
    lies = omega (arith, inside, length-map u.nodes.items node_view)

    edge : (e : Way) × Contains t.made.ways.items e × (e.to ≡ k)
    edge = ((feed (graph_of p u) sound).here k t.made.ways.items lies ready.fed).0

    some : 1 ≤ length here
    some = let c = lead.all edge.0 edge.1 edge.2 in omega (arith, c.1)

    are : AreNumbers k (targets t.made.ways.items) (get_or (entries_of t) k [])
    are = ready.kept.entered k lies

    some_numbers : 1 ≤ length (get_or (entries_of t) k [])
    some_numbers =
        let c : Contains t.made.ways.items edge.0 = edge.1 in
        let x = are.all c.0 (omega (arith, c.1, count_targets t.made.ways.items)) (target_at t.made.ways.items c.0 edge.0 c.1 ∙ ap (λ (y : Way). y.to) c.2 ∙ edge.2) in
        omega (arith, x.1)

    waits : All (λ beside. length beside ≡ length p.decls) (pending_of t)
    waits i d l = (ready.kept.waiting i d l).0

    beside : length (pending_of t) ≡ length t.made.ways.items
    beside = ready.kept.beside ∙ count_targets t.made.ways.items

    by : (0 < k) ⊎ (k ≤ 0) → ComesWithin p u fit.named k (seen t.made.cells.items) cells2 ps guard h waiting
    by (inl later) = comes_within p u k t cells cells2 ps here guard h waiting (get_or (entries_of t) k []) joins gathers count program.maps fit some some_numbers
        (later_bits p u k t fit later here lead some) (later_place p u k t fit later here lead some)
        (λ q l. later_cell p u k t fit (get_or (entries_of t) k []) are waits beside program.maps q l later (later_origins p u k t fit later here lead some) some_numbers)
    by (inr first) =
        let zero_is : k ≡ 0 = omega (arith, first) in
        comes_within p u k t cells cells2 ps here guard h waiting (get_or (entries_of t) k []) joins gathers count program.maps fit some some_numbers
        (first_bits p u k t fit zero_is (edges_up p u sound) here lead) (first_place p u k t fit zero_is (edges_up p u sound) here lead)
        (λ q l. first_cell p u k t fit (get_or (entries_of t) k []) are waits beside program.maps q l zero_is (first_origins p u k t fit zero_is (edges_up p u sound) here lead) some_numbers)
