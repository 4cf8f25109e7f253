-- Where no runs conflict no packet must reload: the first marked read on its run's path would read what a packet shortly before it wrote.
use Rattle.std.proofs.Common.{◌≡◌, ℕ, suc, ◌+◌, ◌<◌, ◌≤◌, inl, inr, Bool, true, false, List, [], ◌∷◌, ◌++◌, Option, Some, None, length, get_or, drop, refl, sym, ap, ◌∙◌, subst, arith, not, All}
use Rattle.std.specs.Prelude.{nat_lt, nat_le, ◌==◌, ◌&&◌, ◌||◌, Contains}
use Rattle.std.specs.List.{AllByRecursion, list_any, list_all}
use Rattle.std.specs.Str.{bytes_eq}
use Rattle.std.proofs.lemmas.Bool.{cases_lt, and_parts}
use Rattle.std.proofs.lemmas.Bool.Decides.{nat_tests, Decides-eqb}
use Rattle.std.proofs.lemmas.List.Folds.{list_all-append}
use Rattle.std.proofs.lemmas.List.Sums.{passes_at_first}
use Rattle.std.proofs.lemmas.Slice.Eq.{bytes_eq-Decides}
use Rattle.realization.proofs.list_laws_laws.ListLaws.{all_below}
use Rattle.hazard_core.specs.xdp_maps.Touched.{Resource, Present, Content, Size}
use Rattle.hazard_core.specs.xdp_machine.State.{PacketIn}
use Rattle.hazard_core.specs.xdp_machine.Touched.{Touched}
use Rattle.hazard_core.specs.cell_core.declared.site.Act.{Act}
use Rattle.hazard_core.specs.cell_core.declared.site.Act.TheVariants as act
use Rattle.hazard_core.specs.cell_core.declared.operator.Operator.TheVariants.{Found}
use Rattle.hazard_core.specs.cell_core.Acts.{is_access, asks}
use Rattle.hazard_core.specs.cell_core.Cells.{cell_at, no_cell, site_in, on}
use Rattle.hazard_core.specs.cell_core.Rows.{RowsRise, numbers, taken_by}
use Rattle.hazard_core.specs.cell_core.Sites.{SiteView, site_at, records, touched}
use Rattle.hazard_core.specs.Tables.{TableState, decl_of, maps_of}
use Rattle.hazard_core.specs.Tabled.{AreTables}
use Rattle.hazard_core.specs.declared.pointer.Pointer.TheVariants.{Pending}
use Rattle.hazard_core.specs.StageValues.{is_null, StageValues, stage_value, pointer_in, guard_on, asked_key, access_pointer, is_found_of, found_cell, read_cells, pending}
use Rattle.hazard_core.specs.Overlay.{found_pointer}
use Rattle.hazard_core.specs.Rows.{cell_pointer}
use Rattle.hazard_core.specs.Keeping.{SameCell, AreAlike, ReadsKeep}
use Rattle.hazard_core.specs.Marks.{touches, is_known, known_on, known_off, has_read}
use Rattle.hazard_core.specs.Replay.{HoldsReads, ReadsInTurn, SeesEarlier}
use Rattle.hazard_core.proofs.HeldLaws.{same_trans, found_is}
use Rattle.pipe_core.specs.Machine.{Packet, Build, no_frame, packet_of, marked_at, place_at, inside, must_reload, sends, some_send}
use Rattle.pipe_core.specs.Agreement.{Agrees}
use Rattle.pipe_core.specs.Pipeable.{IsOwn, FitsReads, IsPipelinable}
use Rattle.pipe_core.specs.Prefix.{IsUnmarkedBefore}
use Rattle.pipe_core.specs.SeenChanges.{Seen}
use Rattle.pipe_core.specs.Marked.{touched_then, MarksAre}
use Rattle.pipe_core.specs.Meeting.{site_reads, Meets, TouchesWhatIsRead}
use Rattle.pipe_core.specs.ChangeCauses.{Wrote, ChangeCauses, Waits, so_far, ReadsNothingWritten}
use Rattle.pipe_core.specs.Found.{key_changed, FindsRight}
use Rattle.pipe_core.specs.Unconflicting.{NothingMustReload}
use Rattle.pipe_core.proofs.Holding.{holds_reads}
use Rattle.pipe_core.proofs.Meeting.{sourced_below}
use Rattle.pipe_core.proofs.Prefix.{whole, fits, runs, same_below}
use Rattle.pipe_core.proofs.PrefixCompleted.{is_off, completed}
use Rattle.pipe_core.proofs.PrefixMade.{rows_before, lower, pending_before, looks_before}
use Rattle.pipe_core.proofs.Reading.{First, first_below, some_of, numbered_in, ReadBy, read_by, site_read}
use Rattle.pipe_core.proofs.Touching.{key_same, SizeAlone, touches_too}
use Rattle.pipe_core.proofs.Unread.{placed_there}

no_case : false ≡ true → ⊥
no_case e = cc

-- ---- one packet

module _ (touch : TouchesWhatIsRead) (seen : SeesEarlier) (right : ReadsInTurn) (keep : ReadsKeep) (rise : RowsRise) (b : Build) (t : TableState) (fit : IsPipelinable t.decls b) (tables : AreTables t) (packet : PacketIn) (k : ℕ) (x : Packet) (a : Agrees b t packet (suc k) x) where
  abbrev g : StageValues
  g = completed b t packet (suc k) x.held (length b.program.cells)

  own_cells : IsOwn b t packet g
  own_cells c l low none = (whole seen right keep rise b t fit tables packet (suc k) x a).made c l (ap (is_off b g) none)

  read_fits : FitsReads b g
  read_fits c l low read = fits seen right keep rise b t fit tables packet (suc k) x a c l read

  made : (c j : ℕ) → c < length b.program.cells → site_in (cell_at b.program.cells c).op ≡ Some j → guard_on g (site_at b.program.sites j) ≡ true → pointer_in g c ≡ cell_pointer b.program b.plan.row (b.plan.row c) t g (cell_at b.program.cells c) (cell_at b.program.cells c).op
  made c j l e guard = ((whole seen right keep rise b t fit tables packet (suc k) x a).made c l (ap (is_off b g) e ∙ ap not guard)).pointer

  reads : HoldsReads b.program t g
  reads = holds_reads seen b t packet (record { held = g; marks = [] }) fit own_cells read_fits (λ c j l e guard. (whole seen right keep rise b t fit tables packet (suc k) x a).made c l (ap (is_off b g) e ∙ ap not guard))

  -- whether a cell is a read of a marked site on the run's path
  abbrev bad : Option ℕ → Bool
  bad None = false
  bad (Some j) = guard_on g (site_at b.program.sites j) && marked_at x j

  abbrev IsBad : ℕ → Bool
  IsBad c = bad (site_in (cell_at b.program.cells c).op)

  abbrev NoneBelow : ℕ → Type 0
  NoneBelow n = (c : ℕ) → c < n → bad (site_in (cell_at b.program.cells c).op) ≡ false

  free : (n : ℕ) → NoneBelow n → IsUnmarkedBefore b (stage_value g) x n
  free n none c j l e guard = ap (λ (q : Bool). q && marked_at x j) (sym guard) ∙ ap bad (sym e) ∙ none c l

  same_before : (n : ℕ) → NoneBelow n → (c : ℕ) → c < n → c < length b.program.cells → b.plan.row c ≤ k → SameCell x.held g c
  same_before n none c l inside low =
      same_below seen right keep rise b t fit tables packet (suc k) x a (suc c) c (omega arith) inside (omega (arith, low)) (free (suc c) (λ i m. none i (omega (arith, m, l))))

  -- where there is none the packet's guards are the run's
  none_marked : NoneBelow (length b.program.cells) → (j : ℕ) → ReadBy b k j → marked_at x j ≡ true → known_on b.plan.row k x.held (site_at b.program.sites j) ≡ true → ⊥
  none_marked none j z marked known =
      let s = site_at b.program.sites j in
      let q = and_parts (is_known b.plan.row k s) (guard_on x.held s) known in
      let w = (fit.sited.below z.cell j j z.inside z.is (omega arith)).guard in
      let l = z.inside in
      let same = same_before (length b.program.cells) none s.guard (omega (arith, w, l)) (omega (arith, w, l)) (at_most (b.plan.row s.guard) q.0) in
      let guard : guard_on g s ≡ true = ap on (sym same.value) ∙ q.1 in
      no_case (sym (none z.cell z.inside) ∙ ap bad z.is ∙ ap (λ (c : Bool). c && marked_at x j) guard ∙ marked)
    where
      at_most : (r : ℕ) → nat_le r k ≡ true → r ≤ k
      at_most r e = grind (arith, nat_tests)

  -- the key of an update of the run's own through which site j goes stands before the site's reads
  pending_key : (d j : ℕ) → d < length b.program.cells → site_in (cell_at b.program.cells d).op ≡ Some j → guard_on g (site_at b.program.sites j) ≡ true → is_access (site_at b.program.sites j).act ≡ true →
      (i : ℕ) → access_pointer g (site_at b.program.sites j) ≡ Pending i → All (λ c. c < d) (site_at b.program.sites i).key × AllByRecursion (λ c. b.plan.row c < b.plan.row d) (site_at b.program.sites i).key
  pending_key d j l e guard access i is =
      let p = b.program in
      let s = site_at p.sites i in
      let inside = fit.sited.known d j l e in
      let ac = reads.accesses j inside guard access in
      let before = ac.before in
      let found = reads.found ac.lookup (omega (arith, before, inside)) ac.guard (ap (λ (c : Act). asks c (decl_of t.decls (site_at p.sites ac.lookup).map).kind) ac.looks_up) in
      let source = sourced_below p t g reads (suc ac.lookup) ac.lookup (omega arith) (omega (arith, before, inside)) in
      let own = source.own i (sym found ∙ sym ac.pointer ∙ is) in
      let earlier = own.before in
      let test : ℕ → Bool = λ c. nat_lt (b.plan.row c) (b.plan.row d) in
      let all = fit.sees t packet g refl own_cells read_fits d j i l e (omega (arith, earlier, before)) (own.map ∙ ac.map) (ap records own.updates) own.guard guard in
      let taken = (and_parts (list_all test (taken_by s)) (list_all test (read_cells p.cells i)) (sym (list_all-append test (taken_by s) (read_cells p.cells i)) ∙ all)).0 in
      let behind = (and_parts (test s.guard) (list_all test (s.key ++ s.operands)) taken).1 in
      let keys = (and_parts (list_all test s.key) (list_all test s.operands) (sym (list_all-append test s.key s.operands) ∙ behind)).0 in
      ((fit.sited.below d j i l e (omega (arith, earlier, before))).key, all_below b.plan.row (b.plan.row d) s.key keys)

  -- up to its first marked read the packet finds on the tables what the run finds
  found_same : (d j : ℕ) → d < length b.program.cells → site_in (cell_at b.program.cells d).op ≡ Some j → NoneBelow d → b.plan.row d ≤ k →
      found_pointer b.program t x.held (pending b.program b.plan.row (b.plan.row d) j) j ≡ found_pointer b.program t g (pending b.program b.plan.row (b.plan.row d) j) j
  found_same d j l e none low =
      let p = b.program in
      let r = b.plan.row d in
      let found = keep p (rows_before b.plan.row r d) r j t x.held g alike (looks_before t.decls b fit d j l e r (fit.rows.reads.below d j l e)) in
      subst (λ (before : List ℕ). found_pointer p t x.held before j ≡ found_pointer p t g before j) (pending_before t.decls b fit d j l e r) found.0
    where
      alike : AreAlike b.program (rows_before b.plan.row (b.plan.row d) d) (b.plan.row d) x.held g
      alike i (inl lower_row) = let q = lower b.plan.row (b.plan.row d) d i lower_row in let m = q.0 in let n = q.1 in same_before d none i m (omega (arith, m, l)) (omega (arith, n, low))
      alike i (inr out) = (whole seen right keep rise b t fit tables packet (suc k) x a).past i out

  -- ---- by what it has seen

  module _ (ts : List Touched) (num : ℕ) (saw : List Seen) (change_causes : AllByRecursion (ChangeCauses b ts t num k x) saw) (marks : MarksAre b t.decls saw k x) (finds : FindsRight b t saw k x)
      (unread : (r : Resource) → Contains (touched (stage_value g) (maps_of t) b.program.sites).reads r → Wrote b ts num r → ⊥) where
    met : (se : Seen) → ChangeCauses b ts t num k x se → (rs : List Resource) → ((r : Resource) → Contains rs r → Wrote b ts num r → ⊥) → Meets t se.change rs → ⊥
    met se z rs none (inl (presence, inl has)) = none (Present se.change.map se.change.key) has (z.present presence).0
    met se z rs none (inl (presence, inr has)) = none (Size se.change.map) has (z.present presence).1
    met se z rs none (inr (inl has)) = none (Content se.change.map se.change.key) has z.content
    met se z rs none (inr (inr (key, behind, has))) = none (Content se.change.map key) has (z.slot key behind)

    untouched : (j : ℕ) → j < length b.program.sites → guard_on g (site_at b.program.sites j) ≡ true → (se : Seen) → ChangeCauses b ts t num k x se → touches b.program t.decls g j se.change ≡ true → ⊥
    untouched j l guard se z touched_now =
        met se z (site_reads b.program t g j) (λ r has. unread r (site_read (stage_value g) j b.program.sites (maps_of t) r l guard has)) (touch b.program t g tables fit.fits reads j l guard se.change touched_now)

    module _ (d j : ℕ) (l : d < length b.program.cells) (e : site_in (cell_at b.program.cells d).op ≡ Some j) (none : NoneBelow d) (guard : guard_on g (site_at b.program.sites j) ≡ true) (se : Seen) (z : ChangeCauses b ts t num k x se) (low : b.plan.row d ≤ se.place) where
      abbrev s : SiteView
      s = site_at b.program.sites j

      abbrev f : ℕ
      f = found_cell b.program.cells j

      inside_sites : j < length b.program.sites
      inside_sites = fit.sited.known d j l e

      low_enough : b.plan.row d ≤ k
      low_enough = let m = z.low in omega (arith, m, low)

      same_now : (c : ℕ) → c < d → b.plan.row c < b.plan.row d → SameCell x.held g c
      same_now c up lower_row = same_before d none c up (omega (arith, up, l)) (omega (arith, lower_row, low_enough))

      same_then : (c : ℕ) → c < d → b.plan.row c < b.plan.row d → SameCell se.held g c
      same_then c up lower_row = same_trans se.held x.held g c (z.same c (inl (omega (arith, lower_row, low)))) (same_now c up lower_row)

      own_key : is_access s.act ≡ true → (i : ℕ) → access_pointer g s ≡ Pending i → asked_key t.decls se.held (site_at b.program.sites i) ≡ asked_key t.decls g (site_at b.program.sites i)
      own_key access i is = let q = pending_key d j l e guard access i is in key_same b t d se.held g same_then (site_at b.program.sites i) q.0 q.1

      -- its key was brought or taken away
      changed : list_any (key_changed t.decls x.held s) saw ≡ true → SizeAlone b t d se.held g same_then fit j l e own_key se.change → ⊥
      changed any alone =
          let q = some_of (key_changed t.decls x.held s) (ChangeCauses b ts t num k x) saw any change_causes in
          let other = q.0 in
          let m = and_parts other.change.presence ((s.map == other.change.map) && bytes_eq (asked_key t.decls x.held s) other.change.key) q.1 in
          let n = and_parts (s.map == other.change.map) (bytes_eq (asked_key t.decls x.held s) other.change.key) m.1 in
          let keys : asked_key t.decls x.held s ≡ asked_key t.decls g s = key_same b t d x.held g same_now s (fit.sited.below d j j l e (omega arith)).key (fit.rows.reads.below d j l e).0 in
          untouched j inside_sites guard other q.2 (alone.keyed other.change m.0 ((Decides-eqb s.map other.change.map).0 n.0) (sym keys ∙ (bytes_eq-Decides (asked_key t.decls x.held s) other.change.key).0 n.1))

      -- or the run finds no entry either
      size : SizeAlone b t d se.held g same_then fit j l e own_key se.change → ⊥
      size alone =
          let p = b.program in
          let there : f < length p.cells = fit.found j inside_sites (ap (λ (c : Act). asks c (decl_of t.decls s.map).kind) alone.updates ∙ ap (asks act.Update) alone.hash) in
          let op : (cell_at p.cells f).op ≡ Found j = found_is j (cell_at p.cells f).op (passes_at_first (λ c. is_found_of j c.op) p.cells no_cell there) in
          let is : site_in (cell_at p.cells f).op ≡ Some j = ap site_in op in
          let row : b.plan.row d ≡ b.plan.row f = fit.rows.reads.together d f j l there e is in
          elim (finds j inside_sites alone.updates alone.hash there (omega (arith, row, low_enough))) [
            | inl any ↦ changed any alone
            | inr held ↦
                let found : pointer_in x.held f ≡ pointer_in g f =
                held ∙ subst (λ n. found_pointer p t x.held (pending p b.plan.row n j) j ≡ found_pointer p t g (pending p b.plan.row n j) j) row (found_same d j l e none low_enough)
                ∙ sym (made f j there is guard ∙ ap (cell_pointer p b.plan.row (b.plan.row f) t g (cell_at p.cells f)) op) in
                let null : is_null (pointer_in g f) ≡ true = ap is_null (sym ((z.same f (inl (omega (arith, row, low)))).pointer ∙ found)) ∙ alone.none in
                untouched j inside_sites guard se z (alone.too null)
          ]

      marked_then : touches b.program t.decls se.held j se.change ≡ true → ⊥
      marked_then touched_as_seen = elim (touches_too b t d se.held g same_then fit j l e own_key se.change touched_as_seen) [
        | inl now ↦ untouched j inside_sites guard se z now
        | inr alone ↦ size alone
      ]

    -- what marked a site
    record Marking (j : ℕ) : Type 0 where
      by : Seen
      blames : ChangeCauses b ts t num k x by
      read : has_read b.program b.plan.row by.place j ≡ true
      touched_it : touches b.program t.decls by.held j by.change ≡ true

    marking : (j : ℕ) → j < length b.program.sites → marked_at x j ≡ true → Marking j
    marking j l marked =
        let s = site_at b.program.sites j in
        let any = (and_parts (list_any (touched_then b t.decls j) saw) (not (known_off b.plan.row k x.held s)) (sym (marks j l) ∙ marked)).0 in
        let q = some_of (touched_then b t.decls j) (ChangeCauses b ts t num k x) saw any change_causes in
        let se = q.0 in
        let both = and_parts (has_read b.program b.plan.row se.place j) (touches b.program t.decls se.held j se.change) q.1 in
        record { by = se; blames = q.2; read = both.0; touched_it = both.1 }

    first_marked : (d j : ℕ) → d < length b.program.cells → site_in (cell_at b.program.cells d).op ≡ Some j → NoneBelow d → guard_on g (site_at b.program.sites j) && marked_at x j ≡ true → ⊥
    first_marked d j l e none both =
        let q = and_parts (guard_on g (site_at b.program.sites j)) (marked_at x j) both in
        let m = marking j (fit.sited.known d j l e) q.1 in
        let c = read_by b m.by.place j m.read in
        let row = fit.rows.reads.together d c.cell j l c.inside e c.is in
        let low = c.low in
        marked_then d j l e none q.0 m.by m.blames (omega (arith, row, low)) m.touched_it

    pub never_reloads : (j : ℕ) → j < length b.program.sites → marked_at x j ≡ true → known_on b.plan.row k x.held (site_at b.program.sites j) ≡ true → ⊥
    never_reloads j l marked known = elim (first_below IsBad (length b.program.cells)) [
      | inl f ↦ by f (site_in (cell_at b.program.cells f.at).op) refl
      | inr none ↦
          let m = marking j l marked in
          let c = read_by b m.by.place j m.read in
          let low = c.low in
          let up = m.blames.low in
          none_marked none j (record { cell = c.cell; inside = c.inside; is = c.is; low = omega (arith, low, up) }) marked known
    ]
      where
        by : (f : First IsBad (length b.program.cells)) (o : Option ℕ) → site_in (cell_at b.program.cells f.at).op ≡ o → ⊥
        by f None e = no_case (ap bad (sym e) ∙ f.passes)
        by f (Some i) e = first_marked f.at i f.inside e f.before (ap bad (sym e) ∙ f.passes)

-- ---- all places

none_send : (b : Build) (k : ℕ) (xs : List (Option Packet)) → ((n : ℕ) (x : Packet) → place_at xs n ≡ Some x → sends b (k + n) (Some x) ≡ false) → some_send b k xs ≡ false
none_send b k [] each = refl
none_send b k (x ∷ xs) each = ap (λ (c : Bool). c || some_send b (suc k) xs) (one x refl) ∙ none_send b (suc k) xs (λ n y e. let f : k + suc n ≡ suc k + n = omega arith in subst (λ m. sends b m (Some y) ≡ false) f (each (suc n) y e))
  where
    one : (o : Option Packet) → x ≡ o → sends b k o ≡ false
    one None e = refl
    one (Some y) e = let f : k + 0 ≡ k = omega arith in subst (λ m. sends b m (Some y) ≡ false) f (each 0 y e)

-- a packet of which no marked site is known to be on the path is not sent back
unsent : (b : Build) (n : ℕ) (x : Packet) → (n ≤ b.plan.commit → (j : ℕ) → j < length b.program.sites → marked_at x j ≡ true → known_on b.plan.row n x.held (site_at b.program.sites j) ≡ true → ⊥) → sends b n (Some x) ≡ false
unfolding must_reload
unsent b n x never = by (nat_le n b.plan.commit && list_any (λ j. marked_at x j && known_on b.plan.row n x.held (site_at b.program.sites j)) (numbers 0 (length b.program.sites))) refl
  where
    by : (q : Bool) → nat_le n b.plan.commit && list_any (λ j. marked_at x j && known_on b.plan.row n x.held (site_at b.program.sites j)) (numbers 0 (length b.program.sites)) ≡ q → q ≡ false
    by false e = refl
    by true e =
        let test : ℕ → Bool = λ j. marked_at x j && known_on b.plan.row n x.held (site_at b.program.sites j) in
        let q = and_parts (nat_le n b.plan.commit) (list_any test (numbers 0 (length b.program.sites))) e in
        let low = q.0 in
        let up : n ≤ b.plan.commit = grind (arith, nat_tests) in
        let f = some_of test (λ j. j < 0 + length b.program.sites) (numbers 0 (length b.program.sites)) q.1 (numbered_in 0 (length b.program.sites)) in
        let both = and_parts (marked_at x f.0) (known_on b.plan.row n x.held (site_at b.program.sites f.0)) f.1 in
        let l = f.2 in
        absurd (never up f.0 (omega (arith, l)) both.0 both.1)

module _ (touch : TouchesWhatIsRead) (seen : SeesEarlier) (right : ReadsInTurn) (keep : ReadsKeep) (rise : RowsRise) (unread : ReadsNothingWritten) where
  pub nothing_must_reload : NothingMustReload
  nothing_must_reload b maps fit sound w o h marked change_causes found later apart = none_send b 0 w.trace.state.places each
    where
      suits : IsPipelinable w.trace.state.tables.decls b
      suits = subst (λ ds. IsPipelinable ds b) (sym h.right.at.decls_are) fit

      view : (n : ℕ) → Waits b w.trace.state.done n → w.views n ≡ w.trace.state.tables
      view n (inl below) = h.right.agreed.current n below
      view n (inr (e, none)) = ap w.views e ∙ h.right.agreed.begun none

      waits_not : (n : ℕ) (x : Packet) → place_at w.trace.state.places n ≡ Some x → Waits b w.trace.state.done n → (j : ℕ) → j < length b.program.sites → marked_at x j ≡ true → known_on b.plan.row n x.held (site_at b.program.sites j) ≡ true → ⊥
      waits_not n x at waits =
          let tables = w.trace.state.tables in
          let c = get_or w.trace.state.frames (inside (drop (suc n) w.trace.state.places)) no_frame in
          let e : 0 + n ≡ n = omega arith in
          let placed = placed_there (λ k f y. Agrees b (w.views k) (packet_of f) (suc k) y) w.trace.state.frames 0 n w.trace.state.places x h.right.agreed.agree at in
          let agrees : Agrees b tables (packet_of c) (suc n) x = subst (λ u. Agrees b u (packet_of c) (suc n) x) (view n waits) (subst (λ k. Agrees b (w.views k) (packet_of c) (suc k) x) e placed) in
          let marks : MarksAre b tables.decls (w.seen n) n x = subst (λ k. MarksAre b tables.decls (w.seen k) k x) e (placed_there (λ k f y. MarksAre b tables.decls (w.seen k) k y) w.trace.state.frames 0 n w.trace.state.places x marked at) in
          let finds : Waits b w.trace.state.done n → FindsRight b tables (w.seen n) n x =
          subst (λ k. Waits b w.trace.state.done k → FindsRight b tables (w.seen k) k x) e (placed_there (λ k f y. Waits b w.trace.state.done k → FindsRight b tables (w.seen k) k y) w.trace.state.frames 0 n w.trace.state.places x found at) in
          never_reloads touch seen right keep rise b tables suits h.right.at.tables_are (packet_of c) n x agrees
          (so_far b maps w.trace.left w.views w.trace.state.places w.trace.state.done) (length w.trace.left + inside (drop (suc n) w.trace.state.places)) (w.seen n) (change_causes n x at waits) marks (finds waits)
          (λ r has wrote. unread b maps fit sound w o h later apart n x at waits (stage_value (completed b tables (packet_of c) (suc n) x.held (length b.program.cells))) (runs seen right keep rise b tables suits h.right.at.tables_are (packet_of c) (suc n) x agrees) r has wrote)

      -- a packet that is amid its operations has no mark
      amid_not : (n : ℕ) (x : Packet) → place_at w.trace.state.places n ≡ Some x → n ≡ b.plan.commit → 0 < w.trace.state.done → (j : ℕ) → j < length b.program.sites → marked_at x j ≡ true → ⊥
      amid_not n x at is amid j l marks_it =
          let u = h.right.at.amid amid in
          let same : Some u.packet ≡ Some x = sym u.here ∙ ap (place_at w.trace.state.places) (sym is) ∙ at in
          no_case (sym (u.unmarked j l) ∙ ap (λ (y : Packet). marked_at y j) (packet_is u.packet same) ∙ marks_it)
        where
          packet_is : (y : Packet) → Some y ≡ Some x → y ≡ x
          packet_is y e = cc

      must_not_reload : (n : ℕ) (x : Packet) → place_at w.trace.state.places n ≡ Some x → n ≤ b.plan.commit → (j : ℕ) → j < length b.program.sites → marked_at x j ≡ true → known_on b.plan.row n x.held (site_at b.program.sites j) ≡ true → ⊥
      must_not_reload n x at low j l marks_it known = elim (cases_lt n b.plan.commit) [
        | inl below ↦ waits_not n x at (inl below) j l marks_it known
        | inr up ↦
            let is : n ≡ b.plan.commit = omega (arith, low, up) in
            elim (cases_lt 0 w.trace.state.done) [
              | inl amid ↦ amid_not n x at is amid j l marks_it
              | inr none ↦ waits_not n x at (inr (is, omega (arith, none))) j l marks_it known
            ]
      ]

      each : (n : ℕ) (x : Packet) → place_at w.trace.state.places n ≡ Some x → sends b (0 + n) (Some x) ≡ false
      each n x at = let e : n ≡ 0 + n = omega arith in subst (λ k. sends b k (Some x) ≡ false) e (unsent b n x (must_not_reload n x at))
