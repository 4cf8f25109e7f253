-- Where edges meet, place by place: names and rows against the origins there.
use Rattle.std.proofs.Common.{◌≡◌, ◌∙◌, ℕ, ◌+◌, ◌<◌, ◌≤◌, ◌⊎◌, inl, inr, nat_lt, Bool, true, false, if◌then◌else◌, Option, Some, None, List, [], length, get_or, refl, sym, ap, arith, subst}
use Rattle.std.specs.Prelude.{All, Contains}
use Rattle.std.proofs.lemmas.Bool.{ltb-false}
use Rattle.std.proofs.lemmas.List.Elements.{All-contains, Contains-get_or}
use Rattle.xdp_machine.specs.Program.{XdpProgram}
use Rattle.unfold_core.specs.declared.unfolding.Unfolded.{Unfolded}
use Rattle.cell_core.specs.Cells.{CellView}
use Rattle.cell_core.specs.Rows.{AreRows, greatest}
use Rattle.operator_cells.specs.declared.joining.Arm.{Arm}
use Rattle.operator_cells.specs.Joining.{flat}
use Rattle.operator_cells.specs.Making.{seen}
use Rattle.operator_cells.specs.row_rules.declared.place_rows.origin.Origin.{Origin}
use Rattle.operator_cells.specs.row_rules.PlaceRows.Locations.{first_pending, first_byte}
use Rattle.operator_cells.specs.row_rules.PlaceRows.Spans.{pending_place}
use Rattle.operator_cells.specs.row_rules.PlaceRows.Origins.{has_data, row_of, by_place, origin_at_start}
use Rattle.operator_cells.specs.row_rules.PlaceRows.Reading.{is_known}
use Rattle.operator_cells.proofs.row_rules_laws.PlaceRows.PlaceLaws.{place_at}
use Rattle.operator_cells.specs.row_rules.declared.node_rows.joining.Arrival.{Arrival}
use Rattle.operator_cells.specs.row_rules.declared.node_rows.node.AfterNode.{AfterNode}
use Rattle.operator_cells.specs.row_rules.NodeRows.Joining.{brings, edge_row, all_bring, new_origin, met, first_brings, origin_at, origins_at}
use Rattle.operator_cells.specs.declared.held_cells.way.Way.{Way}
use Rattle.operator_cells.specs.HeldCells.RegisterCells.{PointerView, pointed}
use Rattle.operator_cells.specs.HeldCells.Rows.{kind_at, number_at, held_row, bits_row, brought_row, hold_one, chosen_row}
use Rattle.operator_cells.proofs.HeldCells.RowLaws.{past_slots}
use Rattle.edge_cells.specs.Joining.{LeadTo}
use Rattle.predicate_core.specs.declared.making.Progress.{Progress}
use Rattle.predicate_core.specs.Progress.{pending_of}
use Rattle.predicate_core.specs.Stages.{behind_start, arrivals_at, kinds_of, origins_met, StandsBehind, AreNamed, StandWithin, Brings, FitSoFar}
use Rattle.predicate_core.proofs.Bringing.{RowBrought, met_is, bring_each, old_row, new_row, edge_low, bits_low, brought_low, holds}
use Rattle.predicate_core.proofs.Arrivals.{ComesAlong, along, none_first, some_origins, way_row, way_name}
use Rattle.predicate_core.proofs.Numbered.{no_way}

-- What is held at a place: where the origin is not the node's own all edges hold its number; else it stands in the row of what is chosen.
pub record PlaceFits (named : ℕ → ℕ → ℕ) (k place : ℕ) (here : List Way) (cells : List CellView) (ps : List PointerView) (at : Option Origin) (shows : Bool) : Type 0 where
  pub name : (o : Origin) → at ≡ Some o → (o.maker ≡ k + 1) ⊎ ((o.maker ≤ k) × (hold_one here place ≡ true) × All (λ e. number_at e.held place ≡ named o.maker place) here)
  pub rows : (row : ℕ → ℕ) → AreRows cells row → shows ≡ true → ((hold_one here place ≡ true) × (brought_row row ps here place ≤ row_of at)) ⊎ (chosen_row row ps here place ≤ row_of at)

-- The same of the cells that wait there.
pub record CellFits (named : ℕ → ℕ → ℕ) (k q : ℕ) (arms : List Arm) (cells : List CellView) (at : Option Origin) : Type 0 where
  pub name : (o : Origin) → at ≡ Some o → (o.maker ≡ k + 1) ⊎ ((o.maker ≤ k) × All (λ a. a.cell ≡ named o.maker (pending_place q)) arms)
  pub rows : (row : ℕ → ℕ) → AreRows cells row → ((d : ℕ) × All (λ a. a.cell ≡ d) arms × All (λ a. row a.cell ≤ row_of at) arms) ⊎ (greatest row (flat arms) ≤ row_of at)

some_is : (a b : Origin) → Some a ≡ Some b → a ≡ b
some_is a b e = cc

-- what stands at a place where edges meet
pub origin_is : (es : List Arrival) (maker place : ℕ) (at : Option Origin) (m : Origin) → met es maker place (first_brings es place) ≡ Some m → at ≡ met es maker place (first_brings es place) → (o : Origin) → at ≡ Some o → o ≡ m
origin_is es maker place at m is here o e = some_is o m (sym e ∙ here ∙ is)

chosen_low : (row : ℕ → ℕ) (ps : List PointerView) (here : List Way) (place n : ℕ) → All (λ e. (row e.bit ≤ n) × (held_row row ps e.held e.kinds place ≤ n)) here → chosen_row row ps here place ≤ n
chosen_low row ps here place n h = omega (arith, bits_low row ps n here (λ i d l. (h i d l).0), brought_low row ps n here place (λ i d l. (h i d l).1))

pub start_of : (p : XdpProgram) (u : Unfolded) (k : ℕ) → k ≡ 0 → (e : Way) (b : AfterNode) → StandsBehind p u k e b → b ≡ behind_start
start_of p u k first e b (inl x) = x.1
start_of p u k first e b (inr x) = absurd (omega (arith, first, x.2))

pub start_row : (place : ℕ) → row_of (origin_at_start place) ≡ 0
start_row place = by (nat_lt place first_byte)
  where
    by : (b : Bool) → row_of (if b then None else Some (record { maker = 0; row = 0 })) ≡ 0
    by true = refl
    by false = refl

module _ (p : XdpProgram) (u : Unfolded) (k : ℕ) (t : Progress) (fit : FitSoFar p u k t) where
  -- what an edge so far brings
  pub brought_by : (e : Way) → Contains t.made.ways.items e → (beside : List ℕ) × Brings p u fit.named k (seen t.made.cells.items) (pointed t.made.pointers.items) e beside
  brought_by e c = (get_or (pending_of t) c.0 [], subst (λ (w : Way). Brings p u fit.named k (seen t.made.cells.items) (pointed t.made.pointers.items) w (get_or (pending_of t) c.0 [])) c.2 (fit.ways c.0 e c.1))

  -- ---- at a later node
  module _ (later : 0 < k) (here : List Way) (lead : LeadTo k t.made.ways.items here) (some : 1 ≤ length here) where
    along_each : (i : ℕ) (d : Way) → i < length here → (beside : List ℕ) × (x : Brings p u fit.named k (seen t.made.cells.items) (pointed t.made.pointers.items) (get_or here i d) beside) × ComesAlong p u k (get_or here i d) x.behind
    along_each i d l =
        let x = brought_by (get_or here i d) (lead.among (get_or here i d) (Contains-get_or here i d l)) in
        (x.0, x.1, along p u k (get_or here i d) x.1.behind later (lead.to i d l) x.1.stands)

    rows_brought : (row : ℕ → ℕ) (place : ℕ) → place < first_pending → AreRows (seen t.made.cells.items) row
        → All (λ e. RowBrought (arrivals_at p u k) place (row e.bit) (held_row row (pointed t.made.pointers.items) e.held e.kinds place)) here
    rows_brought row place l rows i d m = let x = along_each i d m in
        way_row p u k (get_or here i d) x.1.behind x.0 x.2 row (pointed t.made.pointers.items) place l (x.1.within row rows)

    names_brought : (place : ℕ) (o : Origin) → place < first_pending → all_bring (arrivals_at p u k) place o ≡ true
        → All (λ e. (is_known (kind_at e.kinds place) ≡ false) × (o.maker ≤ k) × (number_at e.held place ≡ fit.named o.maker place)) here
    names_brought place o l all i d m = let x = along_each i d m in
        way_name p u k (get_or here i d) x.1.behind x.0 x.2 fit.named place o l x.1.names
        (All-contains (λ a. brings a place ≡ Some o) (arrivals_at p u k) x.2.arrival (bring_each (arrivals_at p u k) place o all) x.2.among)

    pub later_bits : (row : ℕ → ℕ) → AreRows (seen t.made.cells.items) row → bits_row row here ≤ edge_row (arrivals_at p u k)
    later_bits row rows = bits_low row [] (edge_row (arrivals_at p u k)) here (λ i d l. edge_low (arrivals_at p u k) 0 _ _ (rows_brought row 0 (omega arith) rows i d l))

    pub later_origins : origins_met p u k ≡ by_place (origin_at (arrivals_at p u k) (k + 1) (kinds_of u k))
    later_origins = let x = along_each 0 no_way (omega (arith, some)) in some_origins (arrivals_at p u k) (k + 1) (kinds_of u k) x.2.arrival x.2.among

    module _ (place : ℕ) (l : place < first_pending) where
      known_origin : (o : Origin) → (o.maker ≡ k + 1) ⊎ (all_bring (arrivals_at p u k) place o ≡ true)
          → (o.maker ≡ k + 1) ⊎ ((o.maker ≤ k) × (hold_one here place ≡ true) × All (λ e. number_at e.held place ≡ fit.named o.maker place) here)
      known_origin o (inl e) = inl e
      known_origin o (inr all) =
          let names = names_brought place o l all in
          inr ((names 0 no_way (omega (arith, some))).1, holds place (fit.named o.maker place) here (λ i d m. ((names i d m).0, (names i d m).2)), λ i d m. (names i d m).2)

      one_kept : (o : Origin) → all_bring (arrivals_at p u k) place o ≡ true → (hold_one here place ≡ true)
      one_kept o all = let names = names_brought place o l all in holds place (fit.named o.maker place) here (λ i d m. ((names i d m).0, (names i d m).2))

      pub later_place : PlaceFits fit.named k place here (seen t.made.cells.items) (pointed t.made.pointers.items) (get_or (origins_met p u k) place None) (has_data (kinds_of u k) place)
      later_place = by (met_is (arrivals_at p u k) (k + 1) place (first_brings (arrivals_at p u k) place)) (has_data (kinds_of u k) place) (ap (λ (os : List (Option Origin)). get_or os place None) later_origins ∙ place_at (origin_at (arrivals_at p u k) (k + 1) (kinds_of u k)) place (omega (arith, l)))
        where
          by : (m : (o : Origin) × (met (arrivals_at p u k) (k + 1) place (first_brings (arrivals_at p u k) place) ≡ Some o) × ((all_bring (arrivals_at p u k) place o ≡ true) ⊎ (o ≡ new_origin (arrivals_at p u k) (k + 1) place)))
              (b : Bool) → get_or (origins_met p u k) place None ≡ (if b then met (arrivals_at p u k) (k + 1) place (first_brings (arrivals_at p u k) place) else None)
              → PlaceFits fit.named k place here (seen t.made.cells.items) (pointed t.made.pointers.items) (get_or (origins_met p u k) place None) b
          by m false e = record { name = λ o f. cc; rows = λ row rows f. cc }
          by m true e = record { name = λ o f. named_by o m.2 (origin_is (arrivals_at p u k) (k + 1) place _ m.0 m.1 e o f); rows = λ row rows f. row_by row rows m.2 (ap row_of (e ∙ m.1)) }
            where
              named_by : (o : Origin) → ((all_bring (arrivals_at p u k) place m.0 ≡ true) ⊎ (m.0 ≡ new_origin (arrivals_at p u k) (k + 1) place)) → o ≡ m.0
                  → (o.maker ≡ k + 1) ⊎ ((o.maker ≤ k) × (hold_one here place ≡ true) × All (λ e. number_at e.held place ≡ fit.named o.maker place) here)
              named_by o (inl all) is = known_origin o (inr (subst (λ (x : Origin). all_bring (arrivals_at p u k) place x ≡ true) (sym is) all))
              named_by o (inr new) is = known_origin o (inl (ap (λ (x : Origin). x.maker) (is ∙ new)))

              row_by : (row : ℕ → ℕ) → AreRows (seen t.made.cells.items) row → ((all_bring (arrivals_at p u k) place m.0 ≡ true) ⊎ (m.0 ≡ new_origin (arrivals_at p u k) (k + 1) place))
                  → row_of (get_or (origins_met p u k) place None) ≡ m.0.row
                  → ((hold_one here place ≡ true) × (brought_row row (pointed t.made.pointers.items) here place ≤ row_of (get_or (origins_met p u k) place None))) ⊎ (chosen_row row (pointed t.made.pointers.items) here place ≤ row_of (get_or (origins_met p u k) place None))
              row_by row rows (inl all) at =
                  let low = brought_low row (pointed t.made.pointers.items) m.0.row here place (λ i d n. old_row (arrivals_at p u k) place _ _ m.0 all (rows_brought row place l rows i d n)) in
                  inl (one_kept m.0 all, omega (arith, low, at))
              row_by row rows (inr new) at =
                  let low = chosen_low row (pointed t.made.pointers.items) here place (new_origin (arrivals_at p u k) (k + 1) place).row (λ i d n. new_row (arrivals_at p u k) (k + 1) place _ _ (rows_brought row place l rows i d n)) in
                  inr (let same = ap (λ (x : Origin). x.row) new in omega (arith, low, at, same))

  -- ---- at the first
  module _ (first : k ≡ 0) (up : All (λ x. x.from < x.to) u.edges.items) (here : List Way) (lead : LeadTo k t.made.ways.items here) where
    starts : (i : ℕ) (d : Way) → i < length here → (beside : List ℕ) × AreNamed fit.named k (get_or here i d) beside behind_start
        × ((row : ℕ → ℕ) → AreRows (seen t.made.cells.items) row → StandWithin row (pointed t.made.pointers.items) (get_or here i d) beside behind_start)
    starts i d l =
        let x = brought_by (get_or here i d) (lead.among (get_or here i d) (Contains-get_or here i d l)) in
        let is = start_of p u k first (get_or here i d) x.1.behind x.1.stands in
        (x.0, subst (AreNamed fit.named k (get_or here i d) x.0) is x.1.names, λ row rows. subst (StandWithin row (pointed t.made.pointers.items) (get_or here i d) x.0) is (x.1.within row rows))

    pub first_arrivals : arrivals_at p u k ≡ []
    first_arrivals = subst (λ (j : ℕ). arrivals_at p u j ≡ []) (sym first) (none_first p u up)

    pub first_origins : origins_met p u k ≡ by_place origin_at_start
    first_origins = ap (λ (es : List Arrival). origins_at es (k + 1) (kinds_of u k)) first_arrivals

    pub first_bits : (row : ℕ → ℕ) → AreRows (seen t.made.cells.items) row → bits_row row here ≤ edge_row (arrivals_at p u k)
    first_bits row rows = let low = bits_low row [] 0 here (λ i d l. ((starts i d l).2 row rows).bit) in omega (arith, low)

    pub first_place : (place : ℕ) → place < first_pending → PlaceFits fit.named k place here (seen t.made.cells.items) (pointed t.made.pointers.items) (get_or (origins_met p u k) place None) (has_data (kinds_of u k) place)
    first_place place l = record { name = name; rows = λ row rows f. inr (omega (arith, low row rows)) }
      where
        at_start : get_or (by_place origin_at_start) place None ≡ origin_at_start place
        at_start = place_at origin_at_start place (omega (arith, l))

        low : (row : ℕ → ℕ) → AreRows (seen t.made.cells.items) row → chosen_row row (pointed t.made.pointers.items) here place ≤ 0
        low row rows = chosen_low row (pointed t.made.pointers.items) here place 0 (λ i d m. let x = (starts i d m).2 row rows in
            (x.bit, let y = x.held place l in let z = ap row_of at_start in omega (arith, y, z, start_row place)))

        unknown : (o : Origin) → origin_at_start place ≡ Some o → (e : Way) → is_known (kind_at e.kinds place) ≡ false
        unknown o h e = by (nat_lt place first_byte) refl h
          where
            by : (b : Bool) → nat_lt place first_byte ≡ b → (if b then None else Some (record { maker = 0; row = 0 })) ≡ Some o → is_known (kind_at e.kinds place) ≡ false
            by true f g = cc
            by false f g = ap is_known (past_slots e.kinds place (ltb-false place first_byte f) l)

        name : (o : Origin) → get_or (origins_met p u k) place None ≡ Some o → (o.maker ≡ k + 1) ⊎ ((o.maker ≤ k) × (hold_one here place ≡ true) × All (λ e. number_at e.held place ≡ fit.named o.maker place) here)
        name o h =
            let is : get_or (by_place origin_at_start) place None ≡ Some o = ap (λ (os : List (Option Origin)). get_or os place None) (sym first_origins) ∙ h in
            let names : All (λ e. number_at e.held place ≡ fit.named o.maker place) here = λ i d m. ((starts i d m).1.held place o l is).1 in
            inr (low_maker o (sym at_start ∙ is), holds place (fit.named o.maker place) here (λ i d m. (unknown o (sym at_start ∙ is) (get_or here i d), names i d m)), names)
          where
            low_maker : (o : Origin) → origin_at_start place ≡ Some o → o.maker ≤ k
            low_maker o e = by (nat_lt place first_byte) e
              where
                by : (b : Bool) → (if b then None else Some (record { maker = 0; row = 0 })) ≡ Some o → o.maker ≤ k
                by true g = cc
                by false g = let same : o.maker ≡ 0 = cc in omega (arith, same)
