-- With the edge with which a run begins alone all rows are 0; and what follows once all nodes are done.
use Rattle.std.proofs.Common.{◌≡◌, ◌∙◌, ℕ, zero, suc, ◌+◌, ◌-◌, ◌<◌, ◌≤◌, ◌⊎◌, inl, inr, nat_lt, Bool, true, false, if◌then◌else◌, Some, None, List, [], ◌∷◌, length, get_or, refl, sym, ap, arith, subst}
use Rattle.std.specs.Prelude.{slice_index, count_by}
use Rattle.std.proofs.lemmas.Bool.{cases_lt, lt-ltb, le-ltb}
use Rattle.std.proofs.lemmas.List.{get_or-replicate, take_all}
use Rattle.xdp_machine.specs.Program.{XdpProgram}
use Rattle.kind_core.specs.declared.number.Number.TheVariants.{Known}
use Rattle.kind_core.specs.declared.kind.Kind.TheVariants.{Unset, Num}
use Rattle.kind_core.specs.declared.kind.Kinds.{Kinds}
use Rattle.kind_core.specs.declared.kind.Offsets.TheVariants.{Fixed}
use Rattle.kind_core.specs.Kinds as kinds
use Rattle.kind_core.specs.Kinds.{first_registers}
use Rattle.unfold_core.specs.declared.unfolding.Unfolded.{Unfolded}
use Rattle.cell_core.specs.declared.program.Node.{Node}
use Rattle.cell_core.specs.Cells.{CellView}
use Rattle.cell_core.specs.Rows.{AreRows, node_row, last_row, record_count}
use Rattle.operator_cells.specs.Making.{seen, GrowsWith}
use Rattle.operator_cells.proofs.RisingLaws.{rows_before}
use Rattle.operator_cells.specs.row_rules.declared.place_rows.origin.Origin.{Origin}
use Rattle.operator_cells.specs.row_rules.PlaceRows.Spans.{pending_place}
use Rattle.operator_cells.specs.row_rules.PlaceRows.Origins.{is_open, origin_at_start}
use Rattle.operator_cells.proofs.row_rules_laws.PlaceRows.PlaceLaws.{place_at}
use Rattle.operator_cells.specs.row_rules.declared.node_rows.stages.Stages.{Stages}
use Rattle.operator_cells.specs.row_rules.NodeRows.Rows.{HasStages, insn_of, may_write}
use Rattle.operator_cells.specs.row_rules.declared.place_rows.location.Location.{Location}
use Rattle.operator_cells.specs.row_rules.declared.place_rows.location.Location.TheVariants as location
use Rattle.operator_cells.specs.row_rules.PlaceRows.Locations.{target_number, first_pending, first_byte, location_at, IsLocation}
use Rattle.operator_cells.proofs.row_rules_laws.PlaceRows.LocationLaws.{numbered_as, location_there}
use Rattle.operator_cells.specs.declared.held_cells.way.Way.{Way}
use Rattle.operator_cells.specs.HeldCells.RegisterCells.{PointerView, pointed}
use Rattle.operator_cells.specs.HeldCells.Law.{made_at}
use Rattle.operator_cells.specs.HeldCells.Rows.{kind_at, number_at, held_row, kind_by}
use Rattle.operator_cells.proofs.HeldCells.RowLaws.{byte_row, target_row}
use Rattle.site_cells.specs.Sited.{sited}
use Rattle.predicate_core.specs.declared.making.Progress.{Progress}
use Rattle.predicate_core.specs.Opening.{Opens}
use Rattle.predicate_core.specs.Progress.{pending_of, AreWaiting}
use Rattle.predicate_core.specs.Stages.{behind_start, Brings, FitSoFar}
use Rattle.predicate_core.proofs.Arrivals.{closed}

-- ---- nothing is known by cells at the start
register_closed : (r : ℕ) → is_open (get_or first_registers r Unset) ≡ false
register_closed zero = refl
register_closed (suc zero) = refl
register_closed (suc (suc zero)) = refl
register_closed (suc (suc (suc zero))) = refl
register_closed (suc (suc (suc (suc zero)))) = refl
register_closed (suc (suc (suc (suc (suc zero))))) = refl
register_closed (suc (suc (suc (suc (suc (suc zero)))))) = refl
register_closed (suc (suc (suc (suc (suc (suc (suc zero))))))) = refl
register_closed (suc (suc (suc (suc (suc (suc (suc (suc zero)))))))) = refl
register_closed (suc (suc (suc (suc (suc (suc (suc (suc (suc zero))))))))) = refl
register_closed (suc (suc (suc (suc (suc (suc (suc (suc (suc (suc zero)))))))))) = refl
register_closed (suc (suc (suc (suc (suc (suc (suc (suc (suc (suc (suc r))))))))))) = refl

pub start_closed : (place : ℕ) → place < first_byte → is_open (kind_at (kinds.start Fixed) place) ≡ false
start_closed place l = by (location_at place) refl (location_there place)
  where
    by : (x : Location) → location_at place ≡ x → IsLocation x → is_open (kind_by (kinds.start Fixed) x) ≡ false
    by (location.Register r) e there = register_closed r
    by (location.StackSlot s) e there = rw (get_or-replicate 64 s (Num (Known 0)) Unset there) refl
    by (location.PacketByte i) e there = let same : place ≡ first_byte + i = numbered_as place (location.PacketByte i) e in absurd (omega (arith, same, l))
    by location.Target e there = let same : place ≡ target_number = numbered_as place location.Target e in absurd (omega (arith, same, l))
    by (location.PendingWrites q) e there = let same : place ≡ first_pending + q = numbered_as place (location.PendingWrites q) e in absurd (omega (arith, same, l))

start_maker : (place : ℕ) (o : Origin) → origin_at_start place ≡ Some o → o.maker ≡ 0
start_maker place o e = by (nat_lt place first_byte) e
  where
    by : (b : Bool) → (if b then None else Some (record { maker = 0; row = 0 })) ≡ Some o → o.maker ≡ 0
    by true g = cc
    by false g = cc

name_at : Way → List ℕ → ℕ → ℕ → ℕ
name_at e waiting maker place = if nat_lt place first_pending then number_at e.held place else slice_index waiting (place - first_pending)

module _ (p : XdpProgram) (u : Unfolded) (cells : List CellView) (ps : List PointerView) (e : Way) (waiting : List ℕ) (maps : ℕ) (few : maps ≤ 16) (opens : Opens [] cells e) (waits : AreWaiting maps (length cells) waiting) where
  low : (row : ℕ → ℕ) → AreRows cells row → (c : ℕ) → c < length cells → row c ≤ 0
  low row rows c l = opens.no_row row 0 rows (λ k m. absurd (omega (arith, m))) c l

  held_low : (row : ℕ → ℕ) → AreRows cells row → (place : ℕ) → place < first_pending → held_row row ps e.held e.kinds place ≤ 0
  held_low row rows place l = by (cases_lt place first_byte) (cases_lt place target_number)
    where
      by : (place < first_byte) ⊎ (first_byte ≤ place) → (place < target_number) ⊎ (target_number ≤ place) → held_row row ps e.held e.kinds place ≤ 0
      by (inl m) any = omega (arith, closed row ps (kind_at e.kinds place) (number_at e.held place) (ap (λ (k : Kinds). is_open (kind_at k place)) opens.kinds_are ∙ start_closed place m))
      by (inr m) (inl n) =
          let at : first_byte + (place - first_byte) ≡ place = omega (arith, m) in
          let i : place - first_byte < 256 = omega (arith, m, n) in
          let same = ap (held_row row ps e.held e.kinds) at in
          let is = byte_row row ps e.held e.kinds (place - first_byte) i in
          let x = low row rows (slice_index e.held.window (place - first_byte)) (opens.bytes.there (place - first_byte) i) in omega (arith, same, is, x)
      by (inr m) (inr n) =
          let at : target_number ≡ place = omega (arith, n, l) in
          let same = ap (held_row row ps e.held e.kinds) at in
          let x = low row rows e.held.target opens.target_there in omega (arith, same, target_row row ps e.held e.kinds, x)

  brings_first : Brings p u (name_at e waiting) 0 cells ps e waiting
  unfolding name_at
  brings_first = record {
    behind = behind_start;
    stands = inl (opens.to_first, refl);
    names = record {
      held = λ place o l h. (let z = start_maker place o (sym (place_at origin_at_start place (omega (arith, l))) ∙ h) in omega (arith, z), rw (lt-ltb place first_pending l) refl);
      pending = λ q o l h. (
        let z = start_maker (pending_place q) o (sym (place_at origin_at_start (pending_place q) (omega (arith, l, waits.0, few))) ∙ h) in omega (arith, z),
        let same : first_pending + q - first_pending ≡ q = omega arith in rw (le-ltb (first_pending + q) first_pending (omega arith), same) refl,
      );
    };
    within = λ row rows. record {
      bit = low row rows e.bit opens.bit_there;
      held = λ place l. let x = held_low row rows place l in omega (arith, x);
      pending = λ q l. let x = low row rows (slice_index waiting q) (waits.1 q 0 l) in omega (arith, x);
    };
  }

pub fits_first : (p : XdpProgram) (u : Unfolded) (t : Progress) (e : Way) (waiting : List ℕ) (maps : ℕ) → maps ≤ 16 → Opens [] (seen t.made.cells.items) e → AreWaiting maps (length (seen t.made.cells.items)) waiting
    → t.made.ways.items ≡ e ∷ [] → pending_of t ≡ waiting ∷ [] → sited t.made.sites.items ≡ [] → FitSoFar p u 0 t
fits_first p u t e waiting maps few opens waits ways_are pending_are sites_are = record {
  named = name_at e waiting;
  records = let none = ap record_count sites_are in omega (arith, none);
  nodes = λ row rows j l. absurd (omega (arith, l));
  ways = λ i d l. let first : 0 ≡ i = (let n = ap length ways_are in omega (arith, l, n)) in
      subst (λ (j : ℕ). Brings p u (name_at e waiting) 0 (seen t.made.cells.items) (pointed t.made.pointers.items) (get_or t.made.ways.items j d) (get_or (pending_of t) j [])) first
      (subst (λ (w : Way). Brings p u (name_at e waiting) 0 (seen t.made.cells.items) (pointed t.made.pointers.items) w (get_or (pending_of t) 0 [])) (sym (ap (λ (ws : List Way). get_or ws 0 d) ways_are))
      (subst (λ (r : List ℕ). Brings p u (name_at e waiting) 0 (seen t.made.cells.items) (pointed t.made.pointers.items) e r) (sym (ap (λ (rs : List (List ℕ)). get_or rs 0 []) pending_are))
      (brings_first p u (seen t.made.cells.items) (pointed t.made.pointers.items) e waiting maps few opens waits)));
}

-- ---- all nodes
last_within : (row : ℕ → ℕ) (n : ℕ) (nodes : List Node) → ((j : ℕ) → j < length nodes → node_row row (made_at nodes j) ≤ n) → last_row row nodes ≤ n
last_within row n [] h = omega arith
last_within row n (x ∷ nodes) h =
    let a : node_row row x ≤ n = h 0 (omega arith) in
    let b : last_row row nodes ≤ n = last_within row n nodes (λ j l. h (suc j) (omega (arith, l))) in
    omega (arith, a, b)

pub all_fit : (R : ℕ → ℕ → Type 0) (p : XdpProgram) (u : Unfolded) (t : Progress) (cells : List CellView) (s : Stages) (row : ℕ → ℕ) → FitSoFar p u (length u.nodes.items) t → length t.nodes.items ≡ length u.nodes.items → GrowsWith R (seen t.made.cells.items) cells
    → HasStages p u.nodes.items u.edges.items s → AreRows cells row → last_row row t.nodes.items ≤ s.rows
all_fit R p u t cells s row fit count grows stages rows = last_within row s.rows t.nodes.items (λ j l.
    let m : j < length u.nodes.items = omega (arith, l, count) in
    let a = fit.nodes row (rows_before R (seen t.made.cells.items) cells grows row rows) j m in
    let b = stages.within j m in
    omega (arith, a, b))

-- no more sites may write than nodes
pub all_record : (p : XdpProgram) (u : Unfolded) (t : Progress) (s : Stages) → FitSoFar p u (length u.nodes.items) t → HasStages p u.nodes.items u.edges.items s → record_count (sited t.made.sites.items) ≤ s.records
all_record p u t s fit stages = let all = ap (count_by (λ at. may_write p at (insn_of p at))) (take_all (length u.nodes.items) u.nodes.items (omega arith)) in omega (arith, fit.records, all, stages.records)
