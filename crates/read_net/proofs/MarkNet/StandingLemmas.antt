-- What registers may say of the marks of the packet at a place.
use Rattle.std.specs.Prelude.{◌==◌, if◌then◌else◌, nat_le, filter, cond, map as map_list}
use Rattle.std.specs.List.{list_any}
use Rattle.std.proofs.Common.{◌≡◌, ◌≢◌, ◌∙◌, ℕ, zero, suc, ◌+◌, ◌≤◌, Bool, true, false, not, ◌&&◌, ◌||◌, List, [], ◌∷◌, length, get_or, refl, sym, ap, arith, get_or-set_other}
use Rattle.std.proofs.lemmas.Bool.Decides.{nat_tests}
use Rattle.std.proofs.lemmas.Bool.{le-leb, eqb-true}
use Rattle.overlay_net.specs.xdp_machine.State.{PacketIn}
use Rattle.overlay_net.specs.cell_core.Cells.{CellView, on, bits_from}
use Rattle.overlay_net.specs.cell_core.Rows.{numbers}
use Rattle.overlay_net.specs.cell_core.Sites.{ProgramView, SiteView, site_at}
use Rattle.pipe_core.proofs.cell_core_laws.NumberLaws.{marked_of}
use Rattle.overlay_net.specs.hazard_core.Tables.{TableState}
use Rattle.overlay_net.specs.hazard_core.StageValues.{StageValues, stage_value, guard_on, with_cell}
use Rattle.overlay_net.specs.hazard_core.Rows.{cell_number, cell_pointer, with_made, made_from, with_row}
use Rattle.overlay_net.specs.hazard_core.Marks.{touches, has_read, known_on, known_off, is_marked}
use Rattle.pipe_core.specs.Machine.{packet_of, marked_at, site_numbers, entered, marked_by, must_reload}
use Rattle.read_net.specs.MarkNet.Standing.{EnteringStands, EntersUnmarked, MarkingStands, MarksReadsAlone, ReloadOfReads}

-- ---- a row changes no cell of another one
module _ (p : ProgramView) (row : ℕ → ℕ) (r : ℕ) (t : TableState) (packet : PacketIn) (c : ℕ) (other : row c ≢ r) where
  made_keeps : (h : StageValues) (k : ℕ) (x : CellView) → stage_value (with_made p row r t packet h k x) c ≡ stage_value h c
  made_keeps h k x = by (row k == r) refl
    where
      new : ℕ
      new = bits_from (cell_number p row r t packet h x x.op) x.from x.width

      by : (q : Bool) → (row k == r) ≡ q → stage_value (if q then with_cell h k new (cell_pointer p row r t h x x.op) else h) c ≡ stage_value h c
      by true e = get_or-set_other h.values k c new 0 (λ (same : c ≡ k). other (ap row same ∙ eqb-true (row k) r e))
      by false e = refl

  all_keep : (k : ℕ) (cs : List CellView) (h : StageValues) → stage_value (made_from p row r t packet k cs h) c ≡ stage_value h c
  all_keep k [] h = refl
  all_keep k (x ∷ cs) h = all_keep (suc k) cs (with_made p row r t packet h k x) ∙ made_keeps h k x

  row_keeps : (h : StageValues) → stage_value (with_row p row r t packet h) c ≡ stage_value h c
  unfolding with_row
  row_keeps h = all_keep 0 p.cells h

-- ---- the marks by their numbers

no_mark_of : (f : ℕ → Bool) (from n j : ℕ) → f (from + j) ≡ false → get_or (map_list f (numbers from n)) j false ≡ false
no_mark_of f from zero j e = refl
no_mark_of f from (suc n) zero e = let z : from ≡ from + 0 = omega arith in ap f z ∙ e
no_mark_of f from (suc n) (suc j) e = let z : suc from + j ≡ from + suc j = omega arith in no_mark_of f (suc from) n j (ap f z ∙ e)

no_mark_from : (f : ℕ → Bool) (n j : ℕ) → f j ≡ false → get_or (map_list f (numbers 0 n)) j false ≡ false
no_mark_from f n j e = let z : 0 + j ≡ j = omega arith in no_mark_of f 0 n j (ap f z ∙ e)

-- ---- moving on
-- a guard that is known as 0 stays so
off_before : (row : ℕ → ℕ) (k : ℕ) (h g : StageValues) (s : SiteView) → (row s.guard ≤ k → stage_value g s.guard ≡ stage_value h s.guard) → known_off row (suc k) g s ≡ false → known_off row k h s ≡ false
off_before row k h g s same e = by (nat_le (row s.guard) k) refl
  where
    by : (c : Bool) → nat_le (row s.guard) k ≡ c → (c && not (guard_on h s)) ≡ false
    by false l = refl
    by true l =
        let m : row s.guard ≤ k = grind (arith, nat_tests) in
        ap (λ n. not (on n)) (sym (same m)) ∙ sym (ap (λ (c : Bool). c && not (guard_on g s)) (le-leb (row s.guard) (suc k) (omega arith))) ∙ e

kept : (m o : Bool) → o ≡ false → m ≡ (m && not o)
kept false o e = refl
kept true false e = refl
kept true true e = cc

pub entering_stands : EnteringStands
unfolding entered
entering_stands b t k c x reg j l stands off =
    let s = site_at b.program.sites j in
    let g = with_row b.program b.plan.row (suc k) t (packet_of c) x.held in
    stands (off_before b.plan.row k x.held g s (λ low. row_keeps b.program b.plan.row (suc k) t (packet_of c) s.guard (λ e. omega (arith, e, low)) x.held) off)
    ∙ kept (marked_at x j) (known_off b.plan.row (suc k) g s) off
    ∙ sym (marked_of (λ j. marked_at x j && not (known_off b.plan.row (suc k) g (site_at b.program.sites j))) (length b.program.sites) j l)

pub enters_unmarked : EntersUnmarked
unfolding entered
enters_unmarked b t k c x j e =
    let g = with_row b.program b.plan.row k t (packet_of c) x.held in
    no_mark_from (λ j. marked_at x j && not (known_off b.plan.row k g (site_at b.program.sites j))) (length b.program.sites) j (ap (λ (m : Bool). m && not (known_off b.plan.row k g (site_at b.program.sites j))) e)

-- ---- a change
joins : (a o r t : Bool) → o ≡ false → r ≡ true → (a || t) ≡ (a || (r && not o && t))
joins a false true t e f = refl
joins a true r t e f = cc
joins a false false t e f = cc

unread : (a o r t : Bool) → r ≡ false → (a || (r && not o && t)) ≡ a
unread true o r t e = refl
unread false o false t e = refl
unread false o true t e = cc

pub marking_stands : MarkingStands
unfolding marked_by
marking_stands b t k e x reg j l read stands off =
    let touch = touches b.program t.decls x.held j e in
    ap (λ (m : Bool). m || touch) (stands off)
    ∙ joins (marked_at x j) (known_off b.plan.row k x.held (site_at b.program.sites j)) (has_read b.program b.plan.row k j) touch off read
    ∙ sym (marked_of (λ j. marked_at x j || is_marked b.program b.plan.row t.decls k x.held e j) (length b.program.sites) j l)

pub marks_reads_alone : MarksReadsAlone
unfolding marked_by
marks_reads_alone b t k e x j l read =
    marked_of (λ j. marked_at x j || is_marked b.program b.plan.row t.decls k x.held e j) (length b.program.sites) j l
    ∙ unread (marked_at x j) (known_off b.plan.row k x.held (site_at b.program.sites j)) (has_read b.program b.plan.row k j) (touches b.program t.decls x.held j e) read

-- ---- which must reload
any_filter : (f q : ℕ → Bool) → ((j : ℕ) → q j ≡ false → f j ≡ false) → (js : List ℕ) → list_any f js ≡ list_any f (filter q js)
any_filter f q h [] = refl
any_filter f q h (j ∷ js) = by (q j) refl (any_filter f q h js)
  where
    by : (c : Bool) → q j ≡ c → list_any f js ≡ list_any f (filter q js) → (f j || list_any f js) ≡ list_any f (cond c (j ∷ filter q js) (filter q js))
    by true e rest = ap (λ (c : Bool). f j || c) rest
    by false e rest = ap (λ (c : Bool). c || list_any f js) (h j e) ∙ rest

pub reload_of_reads : ReloadOfReads
unfolding must_reload
reload_of_reads b k x none =
    any_filter (λ j. marked_at x j && known_on b.plan.row k x.held (site_at b.program.sites j)) (has_read b.program b.plan.row k) (λ j e. ap (λ (m : Bool). m && known_on b.plan.row k x.held (site_at b.program.sites j)) (none j e)) (site_numbers b.program)
