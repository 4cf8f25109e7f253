-- A change marks the reads that it touches; the others find what they found.
use Rattle.std.proofs.Common.{◌≡◌, ℕ, zero, suc, ◌+◌, ◌<◌, ◌≤◌, Bool, true, false, List, [], ◌∷◌, Option, Some, None, length, refl, sym, ap, ◌∙◌, subst, arith, not, cond}
use Rattle.std.specs.Prelude.{nat_lt, nat_le, ◌&&◌, ◌||◌, filter, map as map_list}
use Rattle.std.specs.List.{position_or_len, list_any}
use Rattle.std.proofs.lemmas.Bool.{lt-ltb, le-leb, or_parts, or_right}
use Rattle.std.proofs.lemmas.Bool.Decides.{Decides-eqb}
use Rattle.hazard_core.specs.xdp_machine.State.{PacketIn}
use Rattle.hazard_core.specs.xdp_maps.declared.decl.MapKind.TheVariants.{Hash}
use Rattle.hazard_core.specs.cell_core.declared.operator.Operator.{Operator}
use Rattle.hazard_core.specs.cell_core.declared.operator.Operator.TheVariants.{Found, Answer}
use Rattle.hazard_core.specs.cell_core.declared.site.Act.TheVariants as act
use Rattle.hazard_core.specs.cell_core.Cells.{CellView, cell_at, site_in, bits_from, bit}
use Rattle.hazard_core.specs.cell_core.Sites.{ProgramView, site_at}
use Rattle.hazard_core.specs.cell_core.Rows.{numbers}
use Rattle.hazard_core.proofs.cell_core_laws.NumberLaws.{marked_of}
use Rattle.hazard_core.specs.Tables.{TableState, decl_of}
use Rattle.hazard_core.specs.declared.pointer.Pointer.{Pointer}
use Rattle.hazard_core.specs.StageValues.{StageValues, is_null, is_found_of, is_answer_of, found_cell, answer_cell, pointer_in, pending, guard_on}
use Rattle.hazard_core.specs.Overlay.{found_pointer}
use Rattle.hazard_core.specs.Rows.{cell_number, cell_pointer}
use Rattle.hazard_core.specs.Marks.{touches, known_off, has_read, is_marked}
use Rattle.hazard_core.specs.Changes.{with_tables, finds_key, reads, Stays, Unmoved}
use Rattle.hazard_core.proofs.HeldLaws.{answer_is, found_is}
use Rattle.pipe_core.specs.Machine.{Packet, Build, marked_at, marked_by}
use Rattle.pipe_core.specs.Agreement.{ReadsArePlanned, IsMade, excused_as, off_below, MarkingAgrees}
use Rattle.pipe_core.proofs.Agreeing.{le_lt}

record First (test : CellView → Bool) (xs : List CellView) (c : ℕ) : Type 0 where
  at_most : position_or_len test xs ≤ c
  passes : test (cell_at xs (position_or_len test xs)) ≡ true

first_at : (test : CellView → Bool) (xs : List CellView) (c : ℕ) → c < length xs → test (cell_at xs c) ≡ true → First test xs c
first_at test [] c l e = absurd (omega arith)
first_at test (x ∷ xs) zero l e = record { at_most = by (test x) e; passes = at (test x) e }
  where
    n : ℕ
    n = position_or_len test xs

    by : (b : Bool) → b ≡ true → cond (not b) (1 + n) 0 ≤ 0
    by true e = omega arith
    by false e = cc

    at : (b : Bool) → b ≡ true → test (cell_at (x ∷ xs) (cond (not b) (1 + n) 0)) ≡ true
    at true f = e
    at false f = cc
first_at test (x ∷ xs) (suc c) l e = by (test x) refl (first_at test xs c (omega arith) e)
  where
    n : ℕ
    n = position_or_len test xs

    next : (m : ℕ) → suc n ≡ m → test (cell_at xs n) ≡ true → test (cell_at (x ∷ xs) m) ≡ true
    next zero e h = absurd (omega arith)
    next (suc m) e h = subst (λ k. test (cell_at xs k) ≡ true) (omega arith) h

    two : (b : Bool) → test x ≡ b → First test xs c → (cond (not b) (1 + n) 0 ≤ suc c) × (test (cell_at (x ∷ xs) (cond (not b) (1 + n) 0)) ≡ true)
    two true f h = (omega arith, f)
    two false f h = (omega (arith, h.at_most), next (1 + n) (omega arith) h.passes)

    by : (b : Bool) → test x ≡ b → First test xs c → First test (x ∷ xs) (suc c)
    by b f h = let q = two (test x) refl h in record { at_most = q.0; passes = q.1 }

-- where there is one at all
first_in : (test : CellView → Bool) (xs : List CellView) → position_or_len test xs < length xs → test (cell_at xs (position_or_len test xs)) ≡ true
first_in test [] l = absurd (omega arith)
first_in test (x ∷ xs) l = by (test x) refl l (first_in test xs)
  where
    n : ℕ
    n = position_or_len test xs

    next : (m : ℕ) → suc n ≡ m → test (cell_at xs n) ≡ true → test (cell_at (x ∷ xs) m) ≡ true
    next zero e h = absurd (omega arith)
    next (suc m) e h = subst (λ k. test (cell_at xs k) ≡ true) (omega arith) h

    by : (b : Bool) → test x ≡ b → cond (not b) (1 + n) 0 < length (x ∷ xs) → (n < length xs → test (cell_at xs n) ≡ true) → test (cell_at (x ∷ xs) (cond (not b) (1 + n) 0)) ≡ true
    by true e l more = e
    by false e l more = next (1 + n) (omega arith) (more (omega arith))

-- ---- a packet that has a read of a site has read there

any_first : (test keep : ℕ → Bool) (x : ℕ) (xs : List ℕ) → keep x ≡ true → test x ≡ true → list_any test (filter keep (x ∷ xs)) ≡ true
any_first test keep x xs k e = by (keep x) (test x) k e
  where
    by : (c d : Bool) → c ≡ true → d ≡ true → list_any test (cond c (x ∷ filter keep xs) (filter keep xs)) ≡ true
    by c d f g = rw (f, e) refl

any_second : (test keep : ℕ → Bool) (x y : ℕ) → keep y ≡ true → test y ≡ true → list_any test (filter keep (x ∷ y ∷ [])) ≡ true
any_second test keep x y k e = by (keep x) (any_first test keep y [] k e)
  where
    by : (c : Bool) → list_any test (filter keep (y ∷ [])) ≡ true → list_any test (cond c (x ∷ filter keep (y ∷ [])) (filter keep (y ∷ []))) ≡ true
    by true more = or_right (test x) (list_any test (filter keep (y ∷ []))) more
    by false more = more

module _ (b : Build) (plan : ReadsArePlanned b) where
  -- the cell of a read and the first one of its kind
  read_first : (j c k : ℕ) → c < length b.program.cells → b.plan.row c ≤ k → site_in (cell_at b.program.cells c).op ≡ Some j → has_read b.program b.plan.row k j ≡ true
  read_first j c k l lower e = by (cell_at b.program.cells c).op refl e
    where
      cells : List CellView
      cells = b.program.cells

      test : ℕ → Bool
      test d = nat_le (b.plan.row d) k

      keep : ℕ → Bool
      keep d = nat_lt d (length b.program.cells)

      site : (i : ℕ) → Some i ≡ Some j → i ≡ j
      site i e = cc

      by : (op : Operator) → (cell_at b.program.cells c).op ≡ op → site_in op ≡ Some j → list_any test (filter keep (found_cell b.program.cells j ∷ answer_cell b.program.cells j ∷ [])) ≡ true
      by (Found i) is e =
          let o : (cell_at b.program.cells c).op ≡ Found j = is ∙ ap Found (site i e) in
          let f = first_at (λ d. is_found_of j d.op) b.program.cells c l (ap (is_found_of j) o ∙ (Decides-eqb j j).1 refl) in
          let d = found_cell b.program.cells j in
          let m : d < length b.program.cells = omega (arith, f.at_most, l) in
          let s : site_in (cell_at b.program.cells d).op ≡ Some j = ap site_in (found_is j (cell_at b.program.cells d).op f.passes) in
          let r : b.plan.row d ≡ b.plan.row c = plan.together d c j m l s (ap site_in o) in
          any_first test keep d (answer_cell b.program.cells j ∷ []) (lt-ltb d (length b.program.cells) m) (le-leb (b.plan.row d) k (omega (arith, r, lower)))
      by (Answer i) is e =
          let o : (cell_at b.program.cells c).op ≡ Answer j = is ∙ ap Answer (site i e) in
          let f = first_at (λ d. is_answer_of j d.op) b.program.cells c l (ap (is_answer_of j) o ∙ (Decides-eqb j j).1 refl) in
          let d = answer_cell b.program.cells j in
          let m : d < length b.program.cells = omega (arith, f.at_most, l) in
          let s : site_in (cell_at b.program.cells d).op ≡ Some j = ap site_in (answer_is j (cell_at b.program.cells d).op f.passes) in
          let r : b.plan.row d ≡ b.plan.row c = plan.together d c j m l s (ap site_in o) in
          any_second test keep (found_cell b.program.cells j) d (lt-ltb d (length b.program.cells) m) (le-leb (b.plan.row d) k (omega (arith, r, lower)))
      by op is e = cc

-- what is no read does not see the tables
pub record TablesSame (p : ProgramView) (row : ℕ → ℕ) (r : ℕ) (t u : TableState) (packet : PacketIn) (h : StageValues) (c : CellView) (op : Operator) : Type 0 where
  pub number : cell_number p row r u packet h c op ≡ cell_number p row r t packet h c op
  pub pointer : cell_pointer p row r u h c op ≡ cell_pointer p row r t h c op

pub unread : (p : ProgramView) (row : ℕ → ℕ) (r : ℕ) (t u : TableState) (packet : PacketIn) (h : StageValues) (c : CellView) (op : Operator) → site_in op ≡ None → TablesSame p row r t u packet h c op
unread p row r t u packet h c (Found j) e = cc
unread p row r t u packet h c (Answer j) e = cc
unread p row r t u packet h c op e = record { number = refl; pointer = refl }

read_stays : (p : ProgramView) (row : ℕ → ℕ) (r j : ℕ) (t u : TableState) (packet : PacketIn) (h : StageValues) (c : CellView) (op : Operator) → site_in op ≡ Some j → Stays p t u h (pending p row r j) j →
    (op ≡ Found j → finds_key (site_at p.sites j).act ≡ true) → (op ≡ Answer j → reads (site_at p.sites j).act ≡ true) → TablesSame p row r t u packet h c op
read_stays p row r j t u packet h c (Found i) e s f a =
    let same : i ≡ j = cc in
    subst (λ k. TablesSame p row r t u packet h c (Found k)) (sym same) (
    let q = s.found (f (ap Found same)) in
    record { number = ap (λ (x : Pointer). bit (not (is_null x))) q; pointer = q })
read_stays p row r j t u packet h c (Answer i) e s f a =
    let same : i ≡ j = cc in
    subst (λ k. TablesSame p row r t u packet h c (Answer k)) (sym same) (record { number = s.answer (a (ap Answer same)); pointer = refl })
read_stays p row r j t u packet h c op e s f a = cc

made_on : (b : Build) (t u : TableState) (packet : PacketIn) (h : StageValues) (c : ℕ) → TablesSame b.program b.plan.row (b.plan.row c) t u packet h (cell_at b.program.cells c) (cell_at b.program.cells c).op → IsMade b t packet h c → IsMade b u packet h c
made_on b t u packet h c same m =
    let d = cell_at b.program.cells c in
    record { value = m.value ∙ sym (ap (λ n. bits_from n d.from d.width) same.number); pointer = m.pointer ∙ sym same.pointer }

untouched : (a off touch : Bool) → a ≡ true → off ≡ false → a && not off && touch ≡ false → touch ≡ false
untouched true false touch e f g = g
untouched true true touch e f g = cc
untouched false off touch e f g = cc

pub marking : Unmoved → MarkingAgrees
unfolding marked_by
marking unmoved b plan t ts e packet k x updates change a = record {
  values = a.values;
  pointers = a.pointers;
  fit = a.fit;
  each = λ c l lower free. by c l lower (site_in (cell_at b.program.cells c).op) refl free;
}
  where
    p : ProgramView
    p = b.program

    row : ℕ → ℕ
    row = b.plan.row

    h : StageValues
    h = x.held

    y : Packet
    y = record x { marks = map_list (λ j. marked_at x j || is_marked p row t.decls k h e j) (numbers 0 (length p.sites)) }

    -- a read that is not excused after the change
    record_free : (j : ℕ) → j < length p.sites → excused_as b (suc k) y (Some j) ≡ false → has_read p row k j ≡ true → (excused_as b (suc k) x (Some j) ≡ false) × (touches p t.decls h j e ≡ false)
    record_free j l free read =
        let s = site_at p.sites j in
        let m : marked_at y j ≡ marked_at x j || is_marked p row t.decls k h e j = marked_of (λ j. marked_at x j || is_marked p row t.decls k h e j) (length p.sites) j l in
        let q = or_parts (marked_at y j) (off_below row (suc k) h s) free in
        let u = or_parts (marked_at x j) (is_marked p row t.decls k h e j) (sym m ∙ q.0) in
        let off : known_off row k h s ≡ false = ap (λ c. c && not (guard_on h s)) (le_lt (row s.guard) k) ∙ q.1 in
        (ap (λ c. c || off_below row (suc k) h s) u.0 ∙ q.1, untouched (has_read p row k j) (known_off row k h s) (touches p t.decls h j e) read off u.1)

    by : (c : ℕ) → c < length p.cells → row c < suc k → (o : Option ℕ) → site_in (cell_at p.cells c).op ≡ o → excused_as b (suc k) y o ≡ false → IsMade b (with_tables t ts) packet h c
    by c l lower None is free =
        made_on b t (with_tables t ts) packet h c (unread p row (row c) t (with_tables t ts) packet h (cell_at p.cells c) (cell_at p.cells c).op is)
        (a.each c l lower (ap (excused_as b (suc k) x) is))
    by c l lower (Some j) is free =
        let q = record_free j (plan.sites c j l is) free (read_first b plan j c k l (omega arith) is) in
        let before = pending p row (row c) j in
        let stays = unmoved p t ts e h before j change q.1 (λ update hash. found_now c l lower j is q.0 update hash) in
        made_on b t (with_tables t ts) packet h c
        (read_stays p row (row c) j t (with_tables t ts) packet h (cell_at p.cells c) (cell_at p.cells c).op is stays (plan.finds c j l) (plan.answers c j l))
        (a.each c l lower (ap (excused_as b (suc k) x) is ∙ q.0))
      where
        found_now : (c : ℕ) → c < length p.cells → row c < suc k → (j : ℕ) → site_in (cell_at p.cells c).op ≡ Some j → excused_as b (suc k) x (Some j) ≡ false → (site_at p.sites j).act ≡ act.Update → (decl_of t.decls (site_at p.sites j).map).kind ≡ Hash →
            pointer_in h (found_cell p.cells j) ≡ found_pointer p t h (pending p row (row c) j) j
        found_now c l lower j is free update hash =
            let d = found_cell p.cells j in
            let m = updates j (plan.sites c j l is) update hash in
            let o : (cell_at p.cells d).op ≡ Found j = found_there j m in
            let s : site_in (cell_at p.cells d).op ≡ Some j = ap site_in o in
            let r : row d ≡ row c = plan.together d c j m l s is in
            (a.each d m (omega (arith, r, lower)) (ap (excused_as b (suc k) x) s ∙ free)).pointer
            ∙ ap (cell_pointer p row (row d) t h (cell_at p.cells d)) o ∙ ap (λ n. found_pointer p t h (pending p row n j) j) r
          where
            found_there : (j : ℕ) → found_cell p.cells j < length p.cells → (cell_at p.cells (found_cell p.cells j)).op ≡ Found j
            found_there j m = found_is j (cell_at p.cells (found_cell p.cells j)).op (first_in (λ d. is_found_of j d.op) p.cells m)
