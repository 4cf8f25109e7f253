-- What edges bring to a node, as the graph has it.
use Rattle.std.proofs.Common.{◌≡◌, ◌∙◌, ℕ, zero, suc, ◌+◌, ◌<◌, ◌≤◌, ◌==◌, ◌⊎◌, inl, inr, Bool, true, false, if◌then◌else◌, Some, None, List, [], ◌∷◌, length, get_or, refl, sym, ap, arith, subst, map}
use Rattle.std.specs.Prelude.{All, Contains}
use Rattle.std.specs.List.{filter}
use Rattle.std.proofs.Math.ListN.{get_or-append}
use Rattle.std.proofs.Math.Seq.{get_or-append_seam}
use Rattle.std.proofs.lemmas.Bool.{cases_lt, eqb-true, eq-eqb}
use Rattle.std.proofs.lemmas.List.{length-map, get_or-map}
use Rattle.xdp_machine.specs.Program.{XdpProgram}
use Rattle.kind_core.specs.declared.number.Number.TheVariants.{Known, Between}
use Rattle.kind_core.specs.declared.kind.Kind.{Kind}
use Rattle.kind_core.specs.declared.kind.Kind.TheVariants.{Unset, Num, Packet, Var, End, Stack, Ctx, MapRef, Maybe, Entry, Stale, Mixed}
use Rattle.kind_core.specs.declared.kind.Kinds.{Kinds}
use Rattle.unfold_core.specs.declared.edges.Point.{Point}
use Rattle.unfold_core.specs.declared.links.Edge.{Edge}
use Rattle.unfold_core.specs.declared.unfolding.Unfolded.{Unfolded}
use Rattle.operator_cells.specs.row_rules.declared.place_rows.origin.Origin.{Origin}
use Rattle.operator_cells.specs.row_rules.declared.place_rows.origin.Origins.{Origins}
use Rattle.operator_cells.specs.row_rules.PlaceRows.Spans.{pending_place}
use Rattle.operator_cells.specs.row_rules.PlaceRows.Origins.{is_open, has_data, row_of, row_at, by_place, data_by}
use Rattle.operator_cells.specs.row_rules.PlaceRows.Reading.{is_known}
use Rattle.operator_cells.specs.row_rules.declared.node_rows.joining.Arrival.{Arrival}
use Rattle.operator_cells.specs.row_rules.declared.node_rows.node.AfterNode.{AfterNode}
use Rattle.operator_cells.specs.row_rules.NodeRows.Joining.{brings, origin_at, origins_at}
use Rattle.operator_cells.specs.row_rules.NodeRows.Rows.{no_behind, arrival_of, behind_node, rows_of}
use Rattle.operator_cells.specs.row_rules.declared.place_rows.location.Location.{Location}
use Rattle.operator_cells.specs.row_rules.declared.place_rows.location.Location.TheVariants as location
use Rattle.operator_cells.specs.row_rules.PlaceRows.Locations.{first_pending, location_at, IsHeld}
use Rattle.operator_cells.proofs.row_rules_laws.PlaceRows.LocationLaws.{at_number, held_there}
use Rattle.operator_cells.specs.declared.held_cells.way.Way.{Way}
use Rattle.operator_cells.specs.HeldCells.RegisterCells.{PointerView}
use Rattle.operator_cells.specs.HeldCells.Rows.{kind_at, number_at, value_row, held_row, kind_by}
use Rattle.operator_cells.proofs.row_rules_laws.NodeRows.CountLaws.{count_rows}
use Rattle.predicate_core.specs.Stages.{arrivals_at, StandsBehind, AreNamed, StandWithin}
use Rattle.predicate_core.proofs.Bringing.{RowBrought}

-- ---- rows of nodes one after another
pub rows_at : (p : XdpProgram) (nodes : List Point) (edges : List Edge) (k n : ℕ) → n < k → get_or (rows_of p nodes edges k) n no_behind ≡ behind_node p nodes edges (rows_of p nodes edges n) n
rows_at p nodes edges zero n l = absurd (omega (arith, l))
rows_at p nodes edges (suc k) n l = by (cases_lt n k) (λ m. rows_at p nodes edges k n m)
  where
    last : AfterNode
    last = behind_node p nodes edges (rows_of p nodes edges k) k

    by : (n < k) ⊎ (k ≤ n) → (n < k → get_or (rows_of p nodes edges k) n no_behind ≡ behind_node p nodes edges (rows_of p nodes edges n) n)
        → get_or (rows_of p nodes edges (suc k)) n no_behind ≡ behind_node p nodes edges (rows_of p nodes edges n) n
    by (inl m) before = get_or-append (rows_of p nodes edges k) (behind_node p nodes edges (rows_of p nodes edges k) k ∷ []) no_behind n (omega (arith, m, count_rows p nodes edges k)) ∙ before m
    by (inr m) before =
        let same : k ≡ n = omega (arith, m, l) in
        subst (λ (j : ℕ). get_or (rows_of p nodes edges (suc k)) j no_behind ≡ behind_node p nodes edges (rows_of p nodes edges j) j) same
        (ap (λ (j : ℕ). get_or (rows_of p nodes edges (suc k)) j no_behind) (sym (count_rows p nodes edges k)) ∙ get_or-append_seam (rows_of p nodes edges k) (behind_node p nodes edges (rows_of p nodes edges k) k) [] no_behind)

-- ---- edges to a node
kept_at : (f : Edge → Bool) (xs : List Edge) (i : ℕ) (x : Edge) → i < length xs → get_or xs i x ≡ x → f x ≡ true → Contains (filter f xs) x
kept_at f [] i x l e h = absurd (omega (arith, l))
kept_at f (y ∷ xs) zero x l e h = by (f y) (ap f e ∙ h)
  where
    by : (b : Bool) → b ≡ true → Contains (if b then y ∷ filter f xs else filter f xs) x
    by true t = (0, omega arith, e)
    by false t = cc
kept_at f (y ∷ xs) (suc i) x l e h = by (f y) (kept_at f xs i x (omega (arith, l)) e h)
  where
    by : (b : Bool) → Contains (filter f xs) x → Contains (if b then y ∷ filter f xs else filter f xs) x
    by true c = (suc c.0, omega (arith, c.1), c.2)
    by false c = c

arrival_there : (p : XdpProgram) (u : Unfolded) (k : ℕ) (x : Edge) → Contains u.edges.items x → x.to ≡ k
    → Contains (arrivals_at p u k) (arrival_of p u.nodes.items (rows_of p u.nodes.items u.edges.items k) x)
arrival_there p u k x c is =
    let f = kept_at (λ (e : Edge). e.to == k) u.edges.items c.0 x c.1 c.2 (eq-eqb x.to k is) in
    let g : Edge → Arrival = arrival_of p u.nodes.items (rows_of p u.nodes.items u.edges.items k) in
    (f.0, omega (arith, f.1, length-map (filter (λ (e : Edge). e.to == k) u.edges.items) g), get_or-map g (filter (λ (e : Edge). e.to == k) u.edges.items) f.0 x (g x) f.1 ∙ ap g f.2)

none_kept : (xs : List Edge) → All (λ x. x.from < x.to) xs → filter (λ e. e.to == 0) xs ≡ []
none_kept [] up = refl
none_kept (x ∷ xs) up = by (x.to == 0) refl (none_kept xs (λ i d l. up (suc i) d (omega (arith, l))))
  where
    by : (b : Bool) → (x.to == 0) ≡ b → filter (λ e. e.to == 0) xs ≡ [] → (if b then x ∷ filter (λ e. e.to == 0) xs else filter (λ e. e.to == 0) xs) ≡ []
    by true e rest = absurd (let z = eqb-true x.to 0 e in omega (arith, z, up 0 x (omega arith)))
    by false e rest = rest

-- none lead to the first
pub none_first : (p : XdpProgram) (u : Unfolded) → All (λ x. x.from < x.to) u.edges.items → arrivals_at p u 0 ≡ []
none_first p u up = ap (map (arrival_of p u.nodes.items [])) (none_kept u.edges.items up)

pub some_origins : (es : List Arrival) (maker : ℕ) (k : Kinds) (a : Arrival) → Contains es a → origins_at es maker k ≡ by_place (origin_at es maker k)
some_origins [] maker k a c = absurd (omega (arith, c.1))
some_origins (x ∷ es) maker k a c = refl

-- An edge to a later node, among the arrivals there.
pub record ComesAlong (p : XdpProgram) (u : Unfolded) (k : ℕ) (e : Way) (b : AfterNode) : Type 0 where
  pub arrival : Arrival
  pub among : Contains (arrivals_at p u k) arrival
  pub row_is : arrival.row ≡ b.edge
  pub kinds_are : arrival.kinds ≡ e.kinds
  pub origins_are : arrival.origins ≡ b.origins

pub along : (p : XdpProgram) (u : Unfolded) (k : ℕ) (e : Way) (b : AfterNode) → 0 < k → e.to ≡ k → StandsBehind p u k e b → ComesAlong p u k e b
along p u k e b some to (inl x) = absurd (omega (arith, some, to, x.0))
along p u k e b some to (inr x) = record {
  arrival = arrival_of p u.nodes.items (rows_of p u.nodes.items u.edges.items k) x.0;
  among = arrival_there p u k x.0 x.1 (x.3 ∙ to);
  row_is = ap (λ (y : AfterNode). y.edge) is;
  kinds_are = sym x.4;
  origins_are = ap (λ (y : AfterNode). y.origins) is;
}
  where
    is : get_or (rows_of p u.nodes.items u.edges.items k) x.0.from no_behind ≡ b
    is = rows_at p u.nodes.items u.edges.items k x.0.from x.2 ∙ sym x.5

-- ---- kinds
pub closed : (row : ℕ → ℕ) (ps : List PointerView) (x : Kind) (c : ℕ) → is_open x ≡ false → value_row row ps x c ≡ 0
closed row ps (Num (Between lo hi)) c h = cc
closed row ps (Num (Known n)) c h = refl
closed row ps (Maybe q n) c h = cc
closed row ps (Entry q o) c h = cc
closed row ps (Packet o) c h = refl
closed row ps (Var b f) c h = refl
closed row ps End c h = refl
closed row ps (Stack o) c h = refl
closed row ps Ctx c h = refl
closed row ps (MapRef q) c h = refl
closed row ps Unset c h = refl
closed row ps Stale c h = refl
closed row ps Mixed c h = refl

open_known : (x : Kind) → is_open x ≡ true → is_known x ≡ false
open_known (Num (Between lo hi)) h = refl
open_known (Num (Known n)) h = cc
open_known (Maybe q n) h = refl
open_known (Entry q o) h = refl
open_known (Packet o) h = refl
open_known (Var b f) h = refl
open_known End h = refl
open_known (Stack o) h = refl
open_known Ctx h = refl
open_known (MapRef q) h = refl
open_known Unset h = refl
open_known Stale h = refl
open_known Mixed h = refl

pub has_open : (k : Kinds) (place : ℕ) → place < first_pending → has_data k place ≡ is_open (kind_at k place)
has_open k place l = by (location_at place) (held_there place l)
  where
    by : (x : Location) → IsHeld x → data_by k x ≡ is_open (kind_by k x)
    by (location.Register r) there = refl
    by (location.StackSlot s) there = refl
    by (location.PacketByte i) there = refl
    by location.Target there = refl
    by (location.PendingWrites q) there = absurd there

pub has_pending : (k : Kinds) (q : ℕ) → has_data k (pending_place q) ≡ true
has_pending k q = ap (data_by k) (at_number (location.PendingWrites q) tt)

-- ---- one edge
module _ (p : XdpProgram) (u : Unfolded) (k : ℕ) (e : Way) (b : AfterNode) (beside : List ℕ) (a : ComesAlong p u k e b) where
  pub way_row : (row : ℕ → ℕ) (ps : List PointerView) (place : ℕ) → place < first_pending → StandWithin row ps e beside b → RowBrought (arrivals_at p u k) place (row e.bit) (held_row row ps e.held e.kinds place)
  way_row row ps place l s = record { arrival = a.arrival; among = a.among; bit_low = omega (arith, s.bit, a.row_is); row_low = by (has_data a.arrival.kinds place) refl }
    where
      shut : has_data a.arrival.kinds place ≡ false → is_open (kind_at e.kinds place) ≡ false
      shut h = sym (has_open e.kinds place l) ∙ ap (λ (j : Kinds). has_data j place) (sym a.kinds_are) ∙ h

      by : (t : Bool) → has_data a.arrival.kinds place ≡ t → held_row row ps e.held e.kinds place ≤ row_of (if t then get_or a.arrival.origins.places place None else None)
      by true h = let same = ap (λ (o : Origins). row_at o.places place) a.origins_are in let low = s.held place l in omega (arith, low, same)
      by false h = omega (arith, closed row ps (kind_at e.kinds place) (number_at e.held place) (shut h))

  pub way_name : (named : ℕ → ℕ → ℕ) (place : ℕ) (o : Origin) → place < first_pending → AreNamed named k e beside b → brings a.arrival place ≡ Some o
      → (is_known (kind_at e.kinds place) ≡ false) × (o.maker ≤ k) × (number_at e.held place ≡ named o.maker place)
  way_name named place o l names h = by (has_data a.arrival.kinds place) refl h
    where
      by : (t : Bool) → has_data a.arrival.kinds place ≡ t → (if t then get_or a.arrival.origins.places place None else None) ≡ Some o
          → (is_known (kind_at e.kinds place) ≡ false) × (o.maker ≤ k) × (number_at e.held place ≡ named o.maker place)
      by true f g =
          let n = names.held place o l (ap (λ (x : Origins). get_or x.places place None) (sym a.origins_are) ∙ g) in
          (open_known (kind_at e.kinds place) (sym (has_open e.kinds place l) ∙ ap (λ (j : Kinds). has_data j place) (sym a.kinds_are) ∙ f), n.0, n.1)
      by false f g = cc

  brings_pending : (q : ℕ) → brings a.arrival (pending_place q) ≡ get_or b.origins.places (pending_place q) None
  brings_pending q = rw (has_pending a.arrival.kinds q) (ap (λ (x : Origins). get_or x.places (first_pending + q) None) a.origins_are)

  pub cell_row : (row : ℕ → ℕ) (ps : List PointerView) (q c : ℕ) → row c ≤ row_at b.origins.places (pending_place q) → StandWithin row ps e beside b → RowBrought (arrivals_at p u k) (pending_place q) (row e.bit) (row c)
  cell_row row ps q c low s = record { arrival = a.arrival; among = a.among; bit_low = omega (arith, s.bit, a.row_is); row_low = let same = ap row_of (brings_pending q) in omega (arith, low, same) }

  pub cell_name : (named : ℕ → ℕ → ℕ) (q c : ℕ) (o : Origin) → (get_or b.origins.places (pending_place q) None ≡ Some o → (o.maker ≤ k) × (c ≡ named o.maker (pending_place q))) → brings a.arrival (pending_place q) ≡ Some o
      → (o.maker ≤ k) × (c ≡ named o.maker (pending_place q))
  cell_name named q c o name h = name (sym (brings_pending q) ∙ h)
