-- What a packet holds is right up to its first marked read: completed on the maps as they are, it is a run, with which it agrees so far.
use Rattle.std.proofs.Common.{◌≡◌, ℕ, zero, suc, ◌<◌, ◌≤◌, inl, inr, Bool, true, false, [], Option, Some, None, length, refl, sym, ap, ◌∙◌, subst, arith, not}
use Rattle.std.specs.Prelude.{nat_lt, ◌^◌, ◌/◌, ◌&&◌, ◌||◌}
use Rattle.std.proofs.lemmas.Bool.{cases_lt}
use Rattle.std.proofs.lemmas.Bool.Decides.{nat_tests}
use Rattle.std.proofs.lemmas.Nat.{pow_pos}
use Rattle.std.proofs.Math.Nat.{mod-lt}
use Rattle.hazard_core.specs.xdp_maps.State.{MapState}
use Rattle.hazard_core.specs.xdp_machine.State.{PacketIn}
use Rattle.hazard_core.specs.cell_core.Cells.{CellView, cell_at, site_in, is_read, bits_from, on}
use Rattle.hazard_core.specs.cell_core.Sites.{SiteView, IsCellRun, site_at}
use Rattle.hazard_core.specs.cell_core.Rows.{RowsRise}
use Rattle.hazard_core.proofs.cell_core_laws.OperatorLaws.{none_of_plain}
use Rattle.hazard_core.specs.Tables.{TableState, maps_of}
use Rattle.hazard_core.specs.Tabled.{AreTables, LoadsTables}
use Rattle.hazard_core.specs.Standing.{TablesStand}
use Rattle.hazard_core.specs.StageValues.{StageValues, stage_value, guard_on}
use Rattle.hazard_core.specs.Rows.{cell_number}
use Rattle.hazard_core.specs.Keeping.{SameCell, ReadsKeep}
use Rattle.hazard_core.specs.Replay.{ReadsInTurn, SeesEarlier}
use Rattle.hazard_core.proofs.HeldLaws.{plain_number}
use Rattle.pipe_core.specs.Machine.{Packet, Build, packet_of}
use Rattle.pipe_core.specs.Computed.{IsAlwaysComputed}
use Rattle.pipe_core.specs.Agreement.{Agrees, excused_as, off_below}
use Rattle.pipe_core.specs.Pipeable.{IsPipelinable}
use Rattle.pipe_core.specs.SeenChanges.{SeenChanges, rest_of, watch, watch_start}
use Rattle.pipe_core.specs.Right.{IsAlwaysRight}
use Rattle.pipe_core.specs.SequentialOrder.{IsSequential, KeepsSequential}
use Rattle.pipe_core.specs.Prefix.{IsUnmarkedBefore, RunsAhead, SequentialRunsAhead, IsAlwaysAhead, WholeWhereUnmarked, HoldsRun, CommittersHoldRuns, GuardsRunAhead}
use Rattle.pipe_core.proofs.Placing.{Settled, settled}
use Rattle.pipe_core.proofs.Agreed.{Known, all_known, each_placed, unmarked}
use Rattle.pipe_core.proofs.Exiting.{cell_run}
use Rattle.pipe_core.proofs.Overlapping.{sequential}
use Rattle.pipe_core.proofs.PrefixMade.{made_before}
use Rattle.pipe_core.proofs.PrefixCompleted.{is_off, completed, IsCompleted, is_completed}

module _ (seen : SeesEarlier) (right : ReadsInTurn) (keep : ReadsKeep) (rise : RowsRise) (b : Build) (t : TableState) (fit : IsPipelinable t.decls b) (tables : AreTables t) (packet : PacketIn) (r : ℕ) (x : Packet) (a : Agrees b t packet r x) where
  -- what the packet holds, completed
  abbrev pub g : StageValues
  g = completed b t packet r x.held (length b.program.cells)

  pub whole : IsCompleted b t packet r x.held g
  whole = is_completed keep rise t.decls b fit t packet r x.held a.values a.pointers

  pub fits : (c : ℕ) → c < length b.program.cells → is_read (cell_at b.program.cells c).op ≡ true → stage_value g c < 2 ^ (cell_at b.program.cells c).width
  fits c l read = by (is_off b g (site_in d.op)) refl
    where
      d : CellView
      d = cell_at b.program.cells c

      by : (off : Bool) → is_off b g (site_in (cell_at b.program.cells c).op) ≡ off → stage_value g c < 2 ^ (cell_at b.program.cells c).width
      by true e = elim (cases_lt (b.plan.row c) r) [
        | inl low ↦ subst (λ n. n < 2 ^ d.width) (whole.kept c l e low).value (a.fit c l low read)
        | inr high ↦ subst (λ n. n < 2 ^ d.width) (sym (whole.none c l e high)) (pow_pos d.width)
      ]
      by false e =
          let n = cell_number b.program b.plan.row (b.plan.row c) t packet g d d.op in
          subst (λ y. y < 2 ^ d.width) (sym (whole.made c l e).value) (mod-lt (n / 2 ^ d.from) (pow_pos d.width))

  -- it is a run on the maps as they are
  pub runs : IsCellRun packet (maps_of t) b.program (stage_value g)
  runs = cell_run seen right b t packet (record { held = g; marks = [] }) fit tables (λ c l low none. whole.made c l (ap (is_off b g) none)) (λ c l low read. fits c l read)
      (λ c j l e on_path. whole.made c l (ap (is_off b g) e ∙ ap not on_path)) packet
      (record {
        count = whole.values;
        each = λ c l low read.
            let d = cell_at b.program.cells c in
            (whole.made c l (ap (is_off b g) (none_of_plain d.op read))).value ∙ ap (λ n. bits_from n d.from d.width) (plain_number b.program b.plan.row (b.plan.row c) t packet g d d.op read);
      })
      (λ c l low read. fits c l read)

  abbrev Before : ℕ → Type 0
  Before c = (d : ℕ) → d < c → b.plan.row d < r → SameCell x.held g d

  -- what is made in both from the same cells before is the same
  both_made : (c : ℕ) → c < length b.program.cells → b.plan.row c < r → excused_as b r x (site_in (cell_at b.program.cells c).op) ≡ false → is_off b g (site_in (cell_at b.program.cells c).op) ≡ false → Before c →
      SameCell x.held g c
  both_made c l low free on_path before =
      let d = cell_at b.program.cells c in
      let m = a.each c l low free in
      let n = whole.made c l on_path in
      let q = made_before keep rise t.decls b fit t packet x.held g c l (λ i up at_most. before i up (omega (arith, at_most, low))) whole.past in
      record { value = m.value ∙ ap (λ y. bits_from y d.from d.width) q.number ∙ sym n.value; pointer = m.pointer ∙ q.pointer ∙ sym n.pointer }

  -- a read whose guard is on in the run is not known as off by the packet
  not_off : (c j : ℕ) → c < length b.program.cells → site_in (cell_at b.program.cells c).op ≡ Some j → Before c → guard_on g (site_at b.program.sites j) ≡ true →
      off_below b.plan.row r x.held (site_at b.program.sites j) ≡ false
  not_off c j l e before on_path = by (nat_lt (b.plan.row (site_at b.program.sites j).guard) r) refl
    where
      s : SiteView
      s = site_at b.program.sites j

      by : (c' : Bool) → nat_lt (b.plan.row (site_at b.program.sites j).guard) r ≡ c' → c' && not (guard_on x.held (site_at b.program.sites j)) ≡ false
      by false f = refl
      by true f =
          let low : b.plan.row s.guard < r = grind (arith, nat_tests) in
          let w = fit.sited.below c j j l e (omega arith) in
          ap (λ (n : ℕ). not (on n)) (before s.guard w.guard low).value ∙ ap not on_path

  same_at : (c : ℕ) → c < length b.program.cells → b.plan.row c < r → IsUnmarkedBefore b (stage_value g) x (suc c) → Before c →
      SameCell x.held g c
  same_at c l low free before = by (site_in (cell_at b.program.cells c).op) refl
    where
      read : (j : ℕ) → site_in (cell_at b.program.cells c).op ≡ Some j → (on_path : Bool) → guard_on g (site_at b.program.sites j) ≡ on_path →
          SameCell x.held g c
      read j e true f =
          both_made c l low
          (ap (excused_as b r x) e ∙ ap (λ m. m || off_below b.plan.row r x.held (site_at b.program.sites j)) (free c j (omega arith) e f) ∙ not_off c j l e before f)
          (ap (is_off b g) e ∙ ap not f) before
      read j e false f = whole.kept c l (ap (is_off b g) e ∙ ap not f) low

      by : (o : Option ℕ) → site_in (cell_at b.program.cells c).op ≡ o → SameCell x.held g c
      by None e = both_made c l low (ap (excused_as b r x) e) (ap (is_off b g) e) before
      by (Some j) e = read j e (guard_on g (site_at b.program.sites j)) refl

  pub same_below : (n c : ℕ) → c < n → c < length b.program.cells → b.plan.row c < r → IsUnmarkedBefore b (stage_value g) x (suc c) →
      SameCell x.held g c
  same_below zero c m l low free = absurd (omega (arith, m))
  same_below (suc n) c m l low free =
      same_at c l low free (λ d up lower. same_below n d (omega (arith, up, m)) (omega (arith, up, l)) lower (λ i j w e f. free i j (omega (arith, w, up)) e f))

  pub runs_ahead : RunsAhead b t packet r x
  runs_ahead = record { v = stage_value g; run = runs; agrees = λ c l low free. (same_below (suc c) c (omega arith) l low free).value }

-- ---- all places

view_decls : (b : Build) (maps : MapState) (w : SeenChanges) → IsSequential b maps w → (k : ℕ) → (w.views k).decls ≡ maps.decls
view_decls b maps w h k = elim (cases_lt k b.plan.commit) [
  | inl below ↦ ap (λ (t : TableState). t.decls) (h.right.agreed.current k below) ∙ h.right.at.decls_are
  | inr past ↦ h.view_decls k past
]

view_tables : (b : Build) (maps : MapState) (w : SeenChanges) → IsSequential b maps w → (k : ℕ) → AreTables (w.views k)
view_tables b maps w h k = elim (cases_lt k b.plan.commit) [
  | inl below ↦ subst AreTables (sym (h.right.agreed.current k below)) h.right.at.tables_are
  | inr past ↦ h.view_tables k past
]

pub sequential_runs_ahead : SeesEarlier → ReadsInTurn → ReadsKeep → RowsRise → SequentialRunsAhead
sequential_runs_ahead seen right keep rise b maps fit w h =
    each_placed (λ k c x. Agrees b (w.views k) (packet_of c) (suc k) x) (λ k c x. RunsAhead b (w.views k) (packet_of c) (suc k) x)
    (λ k c x a. runs_ahead seen right keep rise b (w.views k) (subst (λ ds. IsPipelinable ds b) (sym (view_decls b maps w h k)) fit) (view_tables b maps w h k) (packet_of c) (suc k) x a)
    w.trace.state.frames 0 w.trace.state.places h.right.agreed.agree

pub always_ahead : SequentialRunsAhead → KeepsSequential → IsAlwaysRight → IsAlwaysComputed → LoadsTables → TablesStand → IsAlwaysAhead
always_ahead ahead keeps right computed loads stand b maps fit sound is silent =
    ahead b maps fit (watch b is (watch_start b maps)) (sequential keeps right computed loads stand b maps fit sound is silent)

-- ---- what it says of whole packets and of guards

pub whole_where_unmarked : WholeWhereUnmarked
whole_where_unmarked b t fit packet r x a none c l low = a.agrees c l low (λ d j m e f. none j (fit.sited.known d j (omega (arith, l, m)) e) f)

pub committers_hold_runs : SeesEarlier → ReadsInTurn → ReadsKeep → RowsRise → CommittersHoldRuns
committers_hold_runs seen right keep rise b maps fit w h =
    let s = w.trace.state in
    let rest = rest_of b s in
    each_placed (Settled b rest (Known b w)) (λ k c x. b.plan.commit ≤ k → HoldsRun b (w.views k) (packet_of c) (suc k) x)
    (λ k c x m up.
    let t = w.views k in
    let suits = subst (λ ds. IsPipelinable ds b) (sym (view_decls b maps w h k)) fit in
    let a = runs_ahead seen right keep rise b t suits (view_tables b maps w h k) (packet_of c) (suc k) x m.holds.agrees in
    record { v = a.v; run = a.run; holds = whole_where_unmarked b t suits (packet_of c) (suc k) x a (λ j l on_path. unmarked b fit.rows w rest k c x up m j l) })
    s.frames 0 rest (settled b s (Known b w) (all_known b w h.right.agreed))

pub guards_run_ahead : GuardsRunAhead
guards_run_ahead b t fit packet r x a c j l e free low =
    let w = fit.sited.below c j j l e (omega arith) in
    let m = w.guard in
    ap on (a.agrees (site_at b.program.sites j).guard (omega (arith, m, l)) low (λ d i n s f. free d i (omega (arith, n, m)) s f))
