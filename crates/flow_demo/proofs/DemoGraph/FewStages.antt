-- A graph of few nodes has few stages: after each node all rows are at most one greater than before it.
use Rattle.std.proofs.Common.{◌≡◌, ℕ, zero, suc, ◌+◌, ◌≤◌, ◌<◌, ◌==◌, inl, inr, if◌then◌else◌, Bool, true, false, is_some, Option, Some, None, List, [], ◌∷◌, ◌++◌, length, get_or, map, max, refl, sym, ap, subst, arith}
use Rattle.std.specs.Prelude.{All, nat_lt}
use Rattle.std.specs.List.{filter, list_any}
use Rattle.std.proofs.lemmas.Bool.{cases_lt}
use Rattle.std.proofs.lemmas.List.{get_or_past}
use Rattle.std.proofs.lemmas.List.Elements.{All-cons, All-nil, All-push}
use Rattle.bpf_isa.specs.declared.operation.Op.{Op}
use Rattle.bpf_isa.specs.declared.operation.Op.TheVariants.{Jump}
use Rattle.bpf_isa.specs.declared.instruction.Insn.{Insn}
use Rattle.xdp_object.specs.xdp_maps.declared.decl.MapDecl.{MapDecl}
use Rattle.xdp_object.specs.xdp_machine.Program.{XdpProgram}
use Rattle.row_rules.specs.kind_core.declared.kind.Kinds.{Kinds}
use Rattle.row_rules.specs.kind_core.Edges.{decided}
use Rattle.row_rules.specs.cell_core.Cells.{bit}
use Rattle.row_rules.specs.unfold_core.declared.edges.Point.{Point}
use Rattle.row_rules.specs.unfold_core.declared.links.Edge.{Edge}
use Rattle.row_rules.specs.declared.place_rows.origin.Origin.{Origin}
use Rattle.row_rules.specs.declared.place_rows.span.Span.{Span}
use Rattle.row_rules.specs.declared.place_rows.recording.Record.{Record}
use Rattle.row_rules.specs.PlaceRows.Locations.{location_count, first_byte}
use Rattle.row_rules.specs.PlaceRows.Spans.{one, pending, pending_place, is_in}
use Rattle.row_rules.specs.PlaceRows.Origins.{has_data, row_of, row_at, every_row, by_place, origin_at_start}
use Rattle.row_rules.specs.PlaceRows.Reading.{right_of, reads_as, is_heavy}
use Rattle.row_rules.specs.PlaceRows.Writing.{writes_as, record_as}
use Rattle.row_rules.proofs.PlaceRows.PlaceLaws.{place_at, count_places, every_low, row_low, span_low, spans_low}
use Rattle.row_rules.specs.declared.node_rows.joining.Arrival.{Arrival}
use Rattle.row_rules.specs.declared.node_rows.node.AfterNode.{AfterNode}
use Rattle.row_rules.specs.declared.node_rows.stages.Stages.{Stages}
use Rattle.row_rules.specs.NodeRows.Joining.{brings, edge_row, brought_row, all_bring, new_origin, met, first_brings, origin_at, origins_at}
use Rattle.row_rules.specs.NodeRows.Passing.{result_row, undecided_row, leaving_row, written, is_some_place, pending_row, noted, origin_behind, origins_behind, behind, IsLow}
use Rattle.row_rules.specs.NodeRows.Rows.{point_at, no_behind, insn_of, known_behind, arrival_of, behind_by, behind_node, rows_of, row_of_node, may_write, with_node, HasStages}
use Rattle.row_rules.proofs.NodeRows.RowsLaws.{SoFar, more, all_counted}
use Rattle.row_rules.proofs.NodeRows.CountLaws.{count_origins}

-- no row exceeds this
abbrev Low : ℕ → AfterNode → Type 0
Low m b = (b.edge ≤ m) × ((i : ℕ) → row_at b.origins.places i ≤ m)

abbrev LowArrival : ℕ → Arrival → Type 0
LowArrival m a = (a.row ≤ m) × ((i : ℕ) → row_at a.origins.places i ≤ m)

weaker : (m : ℕ) (b : AfterNode) → Low m b → Low (suc m) b
weaker m b low = (omega (arith, low.0), λ i. omega (arith, low.1 i))

bit_small : (b : Bool) → bit b ≤ 1
bit_small true = omega arith
bit_small false = omega arith

-- ---- where edges meet
module _ (m : ℕ) where
  brings_low : (a : Arrival) (i : ℕ) → LowArrival m a → row_of (brings a i) ≤ m
  brings_low a i low = by (has_data a.kinds i)
    where
      by : (b : Bool) → row_of (if b then get_or a.origins.places i None else None) ≤ m
      by true = low.1 i
      by false = omega arith

  edges_low : (es : List Arrival) → All (LowArrival m) es → edge_row es ≤ m
  edges_low [] h = omega arith
  edges_low (a ∷ es) h = omega (arith, (h 0 a (omega arith)).0, edges_low es (λ k d l. h (suc k) d (omega (arith, l))))

  brought_low : (es : List Arrival) (i : ℕ) → All (LowArrival m) es → brought_row es i ≤ m
  brought_low [] i h = omega arith
  brought_low (a ∷ es) i h = omega (arith, brings_low a i (h 0 a (omega arith)), brought_low es i (λ k d l. h (suc k) d (omega (arith, l))))

  origin_low : (es : List Arrival) (maker : ℕ) (k : Kinds) (i : ℕ) → All (LowArrival m) es → row_of (origin_at es maker k i) ≤ m
  origin_low es maker k i h = by (has_data k i)
    where
      new : max (edge_row es) (brought_row es i) ≤ m
      new = omega (arith, edges_low es h, brought_low es i h)

      some : (o : Origin) (b : Bool) → o.row ≤ m → row_of (if b then Some o else Some (new_origin es maker i)) ≤ m
      some o true l = l
      some o false l = new

      first : (xs : List Arrival) → All (LowArrival m) xs → row_of (first_brings xs i) ≤ m
      first [] g = omega arith
      first (a ∷ xs) g = brings_low a i (g 0 a (omega arith))

      meets : (o : Option Origin) → row_of o ≤ m → row_of (met es maker i o) ≤ m
      meets None l = new
      meets (Some o) l = some o (all_bring es i o) l

      by : (b : Bool) → row_of (if b then met es maker i (first_brings es i) else None) ≤ m
      by true = meets (first_brings es i) (first es h)
      by false = omega arith

  start_low : (i : ℕ) → row_of (origin_at_start i) ≤ m
  start_low i = by (nat_lt i first_byte)
    where
      by : (b : Bool) → row_of (if b then None else Some (record { maker = 0; row = 0 })) ≤ m
      by true = omega arith
      by false = omega arith

  joined_low : (es : List Arrival) (maker : ℕ) (k : Kinds) → All (LowArrival m) es → every_row (origins_at es maker k) ≤ m
  joined_low [] maker k h = every_low (by_place origin_at_start) m (λ i l. omega (arith, ap row_of (place_at origin_at_start i l), start_low i))
  joined_low (a ∷ es) maker k h = every_low (by_place (origin_at (a ∷ es) maker k)) m (λ i l. omega (arith, ap row_of (place_at (origin_at (a ∷ es) maker k) i l), origin_low (a ∷ es) maker k i h))

-- ---- after an instruction
module _ (m : ℕ) (decls : List MapDecl) (k after : Kinds) (i : Insn) (maker guard : ℕ) (os : List (Option Origin)) (count : length os ≡ location_count) (every : every_row os ≤ m) (edges : guard ≤ m) where
  result_low : result_row decls k after i os ≤ suc m
  result_low = omega (arith, spans_low os m (reads_as decls k i i.op) count every, bit_small (is_heavy k after i i.op))

  undecided_low : (op : Op) (d : Option Bool) → undecided_row os i op guard d ≤ suc m
  undecided_low (Jump w c s) None = omega (arith, edges, span_low os m (one i.dst) count every, span_low os m (right_of i s) count every)
  undecided_low op d = omega (arith, edges)

  leaving_low : leaving_row os k i guard ≤ suc m
  leaving_low = undecided_low i.op (decided k i)

  least_low : (b : Bool) → (if b then max guard (result_row decls k after i os) else guard) ≤ suc m
  least_low true = omega (arith, edges, result_low)
  least_low false = omega (arith, edges)

  written_low : (spans : List Span) (o : Origin) (place : ℕ) → o.row ≤ suc m → row_of (written after spans o os place) ≤ suc m
  written_low spans o place low = by (list_any (is_in place) spans) (has_data after place)
    where
      by : (a b : Bool) → row_of (if a then (if b then Some o else None) else get_or os place None) ≤ suc m
      by true true = low
      by true false = omega arith
      by false b = omega (arith, row_low os m place count every)

  noted_low : (r : Option Record) (least place : ℕ) (o : Option Origin) → least ≤ suc m → row_of o ≤ suc m → row_of (noted os r maker least place o) ≤ suc m
  noted_low None least place o low rest = rest
  noted_low (Some r) least place o low rest = by (place == pending_place r.map)
    where
      by : (b : Bool) → row_of (if b then Some (record { maker = maker; row = pending_row os r least }) else o) ≤ suc m
      by true = omega (arith, low, span_low os m (pending r.map) count every, spans_low os m r.takes count every)
      by false = rest

  place_low : (place : ℕ) → row_of (origin_behind decls k after i maker guard os place) ≤ suc m
  place_low place =
      noted_low (record_as decls k i i.op) _ place _ (least_low (is_some_place (writes_as k i i.op)))
      (written_low (writes_as k i i.op) (record { maker = maker; row = result_row decls k after i os }) place result_low)

  every_behind : every_row (origins_behind decls k after i maker guard os) ≤ suc m
  every_behind = every_low (origins_behind decls k after i maker guard os) (suc m) (λ j l. omega (arith, ap row_of (place_at (origin_behind decls k after i maker guard os) j l), place_low j))

  behind_low : Low (suc m) (behind decls k after i maker guard os) × ((behind decls k after i maker guard os).row ≤ suc m)
  behind_low = (
    (leaving_low, λ j. row_low (origins_behind decls k after i maker guard os) (suc m) j (count_places (origin_behind decls k after i maker guard os)) every_behind),
    omega (arith, leaving_low, every, every_behind),
  )

-- ---- node by node
some_in : (o : Option Insn) → is_some o ≡ true → (i : Insn) × (o ≡ Some i)
some_in (Some i) e = (i, refl)
some_in None e = absurd cc

abbrev no_stages : Stages
no_stages = record { rows = 0; records = 0 }

module _ (p : XdpProgram) (nodes : List Point) (edges : List Edge) where
  passed_low : (m : ℕ) (passed : List AfterNode) → All (Low m) passed → (k : ℕ) → Low m (get_or passed k no_behind)
  passed_low m passed low k = elim (cases_lt k (length passed)) [
    | inl inside ↦ low k no_behind inside
    | inr past ↦ subst (Low m) (sym (get_or_past passed k no_behind past)) (omega arith, λ i. omega arith)
  ]

  arrivals_low : (m : ℕ) (passed : List AfterNode) → All (Low m) passed → (es : List Edge) → All (LowArrival m) (map (arrival_of p nodes passed) es)
  arrivals_low m passed low [] = All-nil (LowArrival m)
  arrivals_low m passed low (e ∷ es) = All-cons (LowArrival m) (arrival_of p nodes passed e) (map (arrival_of p nodes passed) es) (passed_low m passed low e.from) (arrivals_low m passed low es)

  by_low : (m n : ℕ) (at : Point) (es : List Arrival) (o : Option Insn) → All (LowArrival m) es → Low (suc m) (behind_by p at n es o) × ((behind_by p at n es o).row ≤ suc m)
  by_low m n at es (Some i) low =
      behind_low m p.decls at.kinds (known_behind p at n false (Some i)) i (n + 1) (edge_row es) (origins_at es (n + 1) at.kinds) (count_origins es (n + 1) at.kinds) (joined_low m es (n + 1) at.kinds low) (edges_low m es low)
  by_low m n at es None low = ((omega arith, λ i. omega arith), omega arith)

  node_low : (m n : ℕ) (passed : List AfterNode) → All (Low m) passed → Low (suc m) (behind_node p nodes edges passed n) × ((behind_node p nodes edges passed n).row ≤ suc m)
  node_low m n passed low = by_low m n (point_at nodes n) _ (insn_of p (point_at nodes n)) (arrivals_low m passed low (filter (λ e. e.to == n) edges))

  rows_low : (n : ℕ) → All (Low n) (rows_of p nodes edges n)
  rows_low zero = All-nil (Low zero)
  rows_low (suc n) =
      let before = rows_low n in
      All-push (Low (suc n)) (rows_of p nodes edges n) (behind_node p nodes edges (rows_of p nodes edges n) n) (λ k d l. weaker n (get_or (rows_of p nodes edges n) k d) (before k d l)) (node_low n n (rows_of p nodes edges n) before).0

  row_small : (n : ℕ) → row_of_node p nodes edges n ≤ suc n
  row_small n = (node_low n n (rows_of p nodes edges n) (rows_low n)).1

  abbrev Begins : Type 0
  Begins = (k : ℕ) → k < length nodes → is_some (insn_of p (point_at nodes k)) ≡ true

  abbrev Counted : ℕ → Type 0
  Counted n = (passed : List AfterNode) × (s : Stages) × SoFar p nodes edges n passed s

  next_counted : (n : ℕ) → n < length nodes → n < 256 → Begins → Counted n → Counted (n + 1)
  next_counted n inside few begins (passed, s, far) =
      let next : AfterNode = behind_node p nodes edges passed n in
      let insn = some_in (insn_of p (point_at nodes n)) (begins n inside) in
      let row : row_of_node p nodes edges n ≡ next.row = ap (λ (r : List AfterNode). (behind_node p nodes edges r n).row) (sym far.rows) in (
        passed ++ next ∷ [],
        with_node s next.row (may_write p (point_at nodes n) (Some insn.0)),
        more p nodes edges n passed s far next refl (omega (arith, row, row_small n, few)) insn.0 (may_write p (point_at nodes n) (Some insn.0)) inside insn.1 refl,
      )

  counted : (n : ℕ) → n ≤ length nodes → length nodes ≤ 256 → Begins → Counted n
  counted zero within few begins = (
    [],
    no_stages,
    record {
      rows = refl;
      low = All-nil IsLow;
      within = λ k l. absurd (omega (arith, l));
      some = inl refl;
      few = omega arith;
      counted = omega arith;
      records = refl;
    },
  )
  counted (suc n) within few begins =
      let next : n + 1 ≡ suc n = omega arith in
      subst Counted next (next_counted n (omega (arith, within)) (omega (arith, within, few)) begins (counted n (omega (arith, within)) few begins))

  -- a graph of at most 256 nodes, at each of which an instruction begins
  pub few_stages : length nodes ≤ 256 → Begins → (s : Stages) × HasStages p nodes edges s
  few_stages few begins = let all = counted (length nodes) (omega arith) few begins in (all.1, all_counted p nodes edges (length nodes) all.0 all.1 refl all.2)
