-- The rows of a node's own cells, and of what its edges bring, against what stands after it in the graph.
use Rattle.std.proofs.Common.{◌≡◌, ◌∙◌, ℕ, zero, suc, ◌+◌, ◌-◌, ◌<◌, ◌≤◌, ◌==◌, ◌||◌, ◌⊎◌, inl, inr, Bool, true, false, if◌then◌else◌, Option, Some, None, List, [], ◌∷◌, length, get_or, refl, sym, ap, arith, max}
use Rattle.std.specs.Prelude.{slice_index}
use Rattle.std.specs.List.{list_any}
use Rattle.std.proofs.lemmas.Bool.{cases_lt}
use Rattle.std.proofs.lemmas.List.{get_or-map}
use Rattle.xdp_machine.specs.bpf_isa.declared.instruction.Insn.{Insn}
use Rattle.xdp_machine.specs.bpf_isa.Text.{insn_at}
use Rattle.xdp_machine.specs.xdp_maps.declared.decl.MapDecl.{MapDecl}
use Rattle.xdp_machine.specs.Program.{XdpProgram}
use Rattle.kind_core.specs.declared.kind.Kind.{Kind}
use Rattle.kind_core.specs.declared.number.Number.TheVariants.{Known, Between}
use Rattle.kind_core.specs.declared.kind.Kind.TheVariants.{Unset, Num, Packet, Var, End, Stack, Ctx, MapRef, Maybe, Entry, Stale, Mixed}
use Rattle.kind_core.specs.declared.kind.Kinds.{Kinds}
use Rattle.kind_core.specs.Edges.{transferred}
use Rattle.unfold_core.specs.declared.unfolding.Unfolded.{Unfolded}
use Rattle.cell_core.specs.Rows.{greatest, numbers}
use Rattle.operator_cells.specs.row_rules.declared.place_rows.origin.Origin.{Origin}
use Rattle.operator_cells.specs.row_rules.declared.place_rows.span.Span.{Span}
use Rattle.operator_cells.specs.row_rules.declared.place_rows.recording.Record.{Record}
use Rattle.operator_cells.specs.row_rules.PlaceRows.Spans.{pending_place, is_in}
use Rattle.operator_cells.specs.row_rules.PlaceRows.Origins.{has_data, row_of, row_at, every_row}
use Rattle.operator_cells.specs.row_rules.PlaceRows.Writing.{writes_as, record_as, is_open_in, taken_row, made_row}
use Rattle.operator_cells.proofs.row_rules_laws.PlaceRows.PlaceLaws.{place_at, spans_low}
use Rattle.operator_cells.proofs.row_rules_laws.PlaceRows.SpanLaws.{is_inside}
use Rattle.operator_cells.proofs.row_rules_laws.NodeRows.CountLaws.{count_origins}
use Rattle.operator_cells.specs.row_rules.declared.node_rows.node.AfterNode.{AfterNode}
use Rattle.operator_cells.specs.row_rules.NodeRows.Joining.{edge_row}
use Rattle.operator_cells.specs.row_rules.NodeRows.Passing.{result_row, written, is_some_place, pending_row, noted, behind}
use Rattle.operator_cells.specs.row_rules.NodeRows.Rows.{no_point, point_at, insn_of, behind_by}
use Rattle.operator_cells.specs.row_rules.declared.place_rows.location.Location.{Location}
use Rattle.operator_cells.specs.row_rules.declared.place_rows.location.Location.TheVariants as location
use Rattle.operator_cells.specs.row_rules.PlaceRows.Locations.{first_pending, location_count, location_at, IsLocation}
use Rattle.operator_cells.proofs.row_rules_laws.PlaceRows.LocationLaws.{location_there}
use Rattle.operator_cells.specs.declared.held_cells.machine_cells.RegisterCells.{RegisterCells}
use Rattle.operator_cells.specs.HeldCells.RegisterCells.{PointerView, Counts, AreInside}
use Rattle.operator_cells.specs.HeldCells.Paths.{NodeView, no_node, node_at}
use Rattle.operator_cells.specs.HeldCells.Rows.{cells_of_pointer, value_row, held_row, located_row}
use Rattle.edge_cells.specs.Meeting.{Extends}
use Rattle.edge_cells.proofs.ExtendingLaws.{same_pointer}
use Rattle.edge_cells.specs.NodeCells.Ends.{IsNode, is_reference}
use Rattle.predicate_core.specs.ProgramGraph.Graphs.{node_view, graph_of}
use Rattle.predicate_core.specs.Stages.{behind_at, arrivals_at, kinds_of, origins_met}
use Rattle.predicate_core.proofs.Spans.{spans_inside}
use Rattle.predicate_core.proofs.Behind.{noted_other, noted_here, noted_above, written_not, written_in}
use Rattle.predicate_core.proofs.Fits.{row_every}
use Rattle.predicate_core.proofs.Progressing.{insn_legal}

-- ---- what stands after a node
abbrev pub node_after : XdpProgram → Unfolded → ℕ → Insn → Kinds
node_after p u k i = transferred p.decls (kinds_of u k) i k (is_reference (graph_of p u) k) false

abbrev pub node_write : XdpProgram → Unfolded → ℕ → Insn → Option Record
node_write p u k i = record_as p.decls (kinds_of u k) i i.op

abbrev pub node_result : XdpProgram → Unfolded → ℕ → Insn → ℕ
node_result p u k i = result_row p.decls (kinds_of u k) (node_after p u k i) i (origins_met p u k)

abbrev pub node_least : XdpProgram → Unfolded → ℕ → Insn → ℕ
node_least p u k i = if is_some_place (writes_as (kinds_of u k) i i.op) then max (edge_row (arrivals_at p u k)) (node_result p u k i) else edge_row (arrivals_at p u k)

abbrev pub node_own : XdpProgram → Unfolded → ℕ → Insn → Origin
node_own p u k i = record { maker = k + 1; row = node_result p u k i }

abbrev pub node_written : XdpProgram → Unfolded → ℕ → Insn → ℕ → Option Origin
node_written p u k i place = written (node_after p u k i) (writes_as (kinds_of u k) i i.op) (node_own p u k i) (origins_met p u k) place

abbrev pub node_origin : XdpProgram → Unfolded → ℕ → Insn → ℕ → Option Origin
node_origin p u k i place = noted (origins_met p u k) (node_write p u k i) (k + 1) (node_least p u k i) place (node_written p u k i place)

abbrev pub node_behind : XdpProgram → Unfolded → ℕ → Insn → AfterNode
node_behind p u k i = behind p.decls (kinds_of u k) (node_after p u k i) i (k + 1) (edge_row (arrivals_at p u k)) (origins_met p u k)

module _ (p : XdpProgram) (u : Unfolded) (k : ℕ) (i : Insn) (inside : k < length u.nodes.items) (node : IsNode (graph_of p u) k i (kinds_of u k)) where
  node_same : node_at (graph_of p u).nodes k ≡ node_view (point_at u.nodes.items k)
  node_same = get_or-map node_view u.nodes.items k no_point no_node inside

  pub insn_is : insn_of p (point_at u.nodes.items k) ≡ Some i
  insn_is = ap (λ (n : NodeView). insn_at p.insns n.place) (sym node_same) ∙ node.insn

  pub behind_is : behind_at p u k ≡ node_behind p u k i
  behind_is = ap (behind_by p (point_at u.nodes.items k) k (arrivals_at p u k)) insn_is
      ∙ ap (λ (n : NodeView). behind p.decls (kinds_of u k) (transferred p.decls (kinds_of u k) i k (list_any (λ r. r == n.place) p.refs) false) i (k + 1) (edge_row (arrivals_at p u k)) (origins_met p u k)) (sym node_same)

  pub not_written : (place : ℕ) → first_pending ≤ place → list_any (is_in place) (writes_as (kinds_of u k) i i.op) ≡ false
  not_written place far = spans_inside p.decls (kinds_of u k) i (insn_legal (graph_of p u) k i (kinds_of u k) node) node.allowed place far

pub origin_there : (p : XdpProgram) (u : Unfolded) (k : ℕ) (i : Insn) (place : ℕ) → place < location_count → get_or (node_behind p u k i).origins.places place None ≡ node_origin p u k i place
origin_there p u k i place l = place_at (node_origin p u k i) place l

-- ---- which places have data
open_number : (f : ℕ → Bool) (from n : ℕ) → list_any f (numbers from n) ≡ true → (place : ℕ) × (from ≤ place) × (place < from + n) × (f place ≡ true)
open_number f from zero h = cc
open_number f from (suc n) h = by (f from) refl (list_any f (numbers (suc from) n)) refl (λ e. open_number f (suc from) n e) h
  where
    by : (a : Bool) → f from ≡ a → (b : Bool) → list_any f (numbers (suc from) n) ≡ b → (list_any f (numbers (suc from) n) ≡ true → (place : ℕ) × (suc from ≤ place) × (place < suc from + n) × (f place ≡ true))
        → (a || b) ≡ true → (place : ℕ) × (from ≤ place) × (place < from + suc n) × (f place ≡ true)
    by true e b g rest j = (from, omega arith, omega arith, e)
    by false e true g rest j = let x = rest g in (x.0, omega (arith, x.1), omega (arith, x.2), x.3)
    by false e false g rest j = cc

open_place : (k : Kinds) (spans : List Span) → list_any (is_open_in k) spans ≡ true → (place : ℕ) × (list_any (is_in place) spans ≡ true) × (has_data k place ≡ true)
open_place k [] h = cc
open_place k (s ∷ ss) h = by (is_open_in k s) refl (list_any (is_open_in k) ss) refl (λ e. open_place k ss e) h
  where
    later : (place : ℕ) (b : Bool) → list_any (is_in place) ss ≡ true → (b || list_any (is_in place) ss) ≡ true
    later place true e = refl
    later place false e = e

    by : (a : Bool) → is_open_in k s ≡ a → (b : Bool) → list_any (is_open_in k) ss ≡ b → (list_any (is_open_in k) ss ≡ true → (place : ℕ) × (list_any (is_in place) ss ≡ true) × (has_data k place ≡ true))
        → (a || b) ≡ true → (place : ℕ) × (list_any (is_in place) (s ∷ ss) ≡ true) × (has_data k place ≡ true)
    by true e b g rest j =
        let x = open_number (has_data k) s.from (s.end - s.from) e in
        (x.0, rw (is_inside x.0 s x.1 (let l = x.2 in omega (arith, x.1, l))) refl, x.3)
    by false e true g rest j = let x = rest g in (x.0, later x.0 (is_in x.0 s) x.1, x.2)
    by false e false g rest j = cc

-- ---- rows of what a node makes
module _ (p : XdpProgram) (u : Unfolded) (k : ℕ) (i : Insn) (inside : k < length u.nodes.items) (node : IsNode (graph_of p u) k i (kinds_of u k)) where
  os_count : length (origins_met p u k) ≡ location_count
  os_count = count_origins (arrivals_at p u k) (k + 1) (kinds_of u k)

  pub behind_low : (place n : ℕ) → place < location_count → row_of (node_origin p u k i place) ≡ n → n ≤ every_row (node_behind p u k i).origins.places
  behind_low place n l is =
      let a = row_every (node_behind p u k i).origins.places place l in
      let b = ap row_of (origin_there p u k i place l) in omega (arith, a, b, is)

  pub held_is : (place : ℕ) → place < first_pending → node_origin p u k i place ≡ node_written p u k i place
  held_is place l = noted_other (origins_met p u k) (k + 1) (node_least p u k i) place (node_written p u k i place) (node_write p u k i) (λ r e f. absurd (omega (arith, l, f)))

  pub result_low : (place : ℕ) → list_any (is_in place) (writes_as (kinds_of u k) i i.op) ≡ true → has_data (node_after p u k i) place ≡ true → (place < first_pending) × (row_of (node_origin p u k i place) ≡ node_result p u k i)
  result_low place e f = by (cases_lt place first_pending)
    where
      by : (place < first_pending) ⊎ (first_pending ≤ place) → (place < first_pending) × (row_of (node_origin p u k i place) ≡ node_result p u k i)
      by (inl l) = (l, ap row_of (held_is place l ∙ written_in (node_after p u k i) (writes_as (kinds_of u k) i i.op) (node_own p u k i) (origins_met p u k) place e f))
      by (inr l) = absurd (let n = not_written p u k i inside node place l in cc)

  taken_low : (w : Option Record) → taken_row (row_at (origins_met p u k)) w ≤ every_row (origins_met p u k)
  taken_low None = omega arith
  taken_low (Some r) = spans_low (origins_met p u k) (every_row (origins_met p u k)) r.takes os_count (omega arith)

  pub made_low : made_row (row_at (origins_met p u k)) p.decls (kinds_of u k) (node_after p u k i) i ≤ max (every_row (origins_met p u k)) (every_row (node_behind p u k i).origins.places)
  made_low = both (result_part (list_any (is_open_in (node_after p u k i)) (writes_as (kinds_of u k) i i.op)) refl) (taken_low (node_write p u k i))
    where
      both : {a b c d : ℕ} → a ≤ d → b ≤ c → max a b ≤ max c d
      both x y = omega (arith, x, y)

      wide : (n : ℕ) → n < first_pending → n < location_count
      wide n l = omega (arith, l)

      result_part : (b : Bool) → list_any (is_open_in (node_after p u k i)) (writes_as (kinds_of u k) i i.op) ≡ b → (if b then node_result p u k i else 0) ≤ every_row (node_behind p u k i).origins.places
      result_part true e =
          let x = open_place (node_after p u k i) (writes_as (kinds_of u k) i i.op) e in
          let y = result_low x.0 x.1 x.2 in
          behind_low x.0 (node_result p u k i) (wide x.0 y.0) y.1
      result_part false e = omega arith

  -- what is pending
  pub pending_low : (q : ℕ) → q < 16 → row_at (origins_met p u k) (pending_place q) ≤ row_at (node_behind p u k i).origins.places (pending_place q)
  pending_low q l =
      let far : first_pending ≤ first_pending + q = omega arith in
      let low : first_pending + q < location_count = omega (arith, l) in
      let a = noted_above (origins_met p u k) (k + 1) (node_least p u k i) (pending_place q) (node_written p u k i (pending_place q)) (node_write p u k i)
      (written_not (node_after p u k i) (writes_as (kinds_of u k) i i.op) (node_own p u k i) (origins_met p u k) (pending_place q) (not_written p u k i inside node (pending_place q) far)) in
      let b = ap row_of (origin_there p u k i (pending_place q) low) in omega (arith, a, b)

  pub pending_new : (r : Record) → node_write p u k i ≡ Some r → r.map < 16 → row_at (node_behind p u k i).origins.places (pending_place r.map) ≡ pending_row (origins_met p u k) r (node_least p u k i)
  pending_new r e l =
      let low : first_pending + r.map < location_count = omega (arith, l) in
      ap row_of (origin_there p u k i (pending_place r.map) low)
      ∙ noted_here (origins_met p u k) (k + 1) (node_least p u k i) (pending_place r.map) (node_written p u k i (pending_place r.map)) (node_write p u k i) r e refl

  pub edge_least : edge_row (arrivals_at p u k) ≤ node_least p u k i
  edge_least = by (is_some_place (writes_as (kinds_of u k) i i.op))
    where
      by : (b : Bool) → edge_row (arrivals_at p u k) ≤ (if b then max (edge_row (arrivals_at p u k)) (node_result p u k i) else edge_row (arrivals_at p u k))
      by true = omega arith
      by false = omega arith

-- ---- more pointers
value_more : (row : ℕ → ℕ) (decls : List MapDecl) (n : ℕ) (ps qs : List PointerView) (x : Kind) (c : ℕ) → Extends ps qs → Counts decls n ps x c → value_row row qs x c ≡ value_row row ps x c
value_more row decls n ps qs (Num (Between lo hi)) c e h = refl
value_more row decls n ps qs (Num (Known a)) c e h = refl
value_more row decls n ps qs (Maybe q j) c e h = ap (λ (x : PointerView). greatest row (cells_of_pointer x)) (same_pointer ps qs c e h.0)
value_more row decls n ps qs (Entry q o) c e h = ap (λ (x : PointerView). greatest row (cells_of_pointer x)) (same_pointer ps qs c e h.0)
value_more row decls n ps qs (Packet o) c e h = refl
value_more row decls n ps qs (Var b f) c e h = refl
value_more row decls n ps qs End c e h = refl
value_more row decls n ps qs (Stack o) c e h = refl
value_more row decls n ps qs Ctx c e h = refl
value_more row decls n ps qs (MapRef q) c e h = refl
value_more row decls n ps qs Unset c e h = refl
value_more row decls n ps qs Stale c e h = refl
value_more row decls n ps qs Mixed c e h = refl

pub held_more : (row : ℕ → ℕ) (decls : List MapDecl) (n : ℕ) (ps qs : List PointerView) (h : RegisterCells) (k : Kinds) (place : ℕ) → Extends ps qs → AreInside decls n ps h k → held_row row qs h k place ≡ held_row row ps h k place
held_more row decls n ps qs h k place e inside = by (location_at place) (location_there place)
  where
    by : (l : Location) → IsLocation l → located_row row qs h k l ≡ located_row row ps h k l
    by (location.Register r) there = value_more row decls n ps qs (get_or k.registers r Unset) (slice_index h.registers r) e (inside.registers r (let small : r < 11 = there in omega (arith, small)))
    by (location.StackSlot s) there = value_more row decls n ps qs (get_or k.slots s Unset) (slice_index h.slots s) e (inside.slots s (let small : s < 64 = there in omega (arith, small)))
    by (location.PacketByte i) there = refl
    by location.Target there = refl
    by (location.PendingWrites q) there = refl
