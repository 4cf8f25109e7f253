-- The read of one site, put into the tables.
use Rattle.std.specs.Prelude.{Option, ◌&&◌, ◌||◌, nat_lt, not, slice_set}
use Rattle.std.proofs.Common.{◌≡◌, ◌∙◌, ◌⊎◌, inl, inr, ℕ, ◌+◌, ◌<◌, ◌≤◌, ◌==◌, Bool, true, false, Some, All, List, [], ◌∷◌, length, sym, ap, subst, arith}
use Rattle.std.proofs.lemmas.Bool.{and_parts, and_from, eqb-true, eq-eqb, ltb-true, lt-ltb, or_cases, or_parts}
use Rattle.std.proofs.lemmas.List.{length-set}
use Rattle.std.proofs.lemmas.List.Sums.{passes_at_first}
use Rattle.block_core.specs.declared.name.Name.{Name}
use Rattle.block_core.specs.Blocks.{BlockWireTree}
use Rattle.block_core.specs.ProductBlocks.Apart.{is_marked}
use Rattle.block_core.specs.net_core.Value.{Env}
use Rattle.hazard_core.specs.xdp_machine.State.{PacketIn}
use Rattle.hazard_core.specs.xdp_maps.declared.decl.MapDecl.{MapDecl}
use Rattle.hazard_core.specs.cell_core.declared.operator.Operator.{Operator}
use Rattle.hazard_core.specs.cell_core.declared.operator.Operator.TheVariants.{Found, Answer}
use Rattle.hazard_core.specs.cell_core.Cells.{CellView, cell_at, no_cell, site_in, is_read, bit, bits_from}
use Rattle.hazard_core.specs.cell_core.Sites.{ProgramView, site_at}
use Rattle.hazard_core.specs.Tables.{TableState}
use Rattle.hazard_core.specs.StageValues.{StageValues, stage_value, pointer_in, found_cell, answer_cell, is_found_of, is_answer_of, pending, is_null}
use Rattle.hazard_core.specs.Keeping.{LooksBelow, ReadsKeep}
use Rattle.hazard_core.specs.Overlay.{found_pointer, answer_over}
use Rattle.hazard_core.specs.Rows.{cell_number, cell_pointer}
use Rattle.overlay_net.specs.cell_nets.declared.operand.Operand.{Operand}
use Rattle.overlay_net.specs.cell_nets.Apart.{IsClean}
use Rattle.overlay_net.specs.cell_nets.Operands.{number_in, IsOperand, IsAvailable}
use Rattle.overlay_net.specs.cell_nets.Wires.{behind, HasBits}
use Rattle.overlay_net.specs.SiteOperands.Pointers.{pointer_number}
use Rattle.row_net.specs.Table.{Stands, IsIn, IsTable}
use Rattle.row_net.specs.Apart.{KeepApart}
use Rattle.row_net.specs.SitePlace.Pointing.{IsPointers}
use Rattle.row_net.specs.SitePlace.PointerNets.{BothThere}
use Rattle.read_net.specs.declared.sites.ReadNets.{ReadNets}
use Rattle.hazard_core.specs.HeldRows.Made.{IsRowMade}
use Rattle.hazard_core.proofs.cell_core_laws.BitLaws.{bit_bits}
use Rattle.stage_net.specs.declared.row.StageNets.{StageNets}
use Rattle.stage_net.specs.Nets.{decls_of}
use Rattle.stage_net.specs.Staged.{IsStaged, IsReadCell}
use Rattle.stage_net.specs.Rows.{IsReadHere, AllAreThere, ShowsRead, IsSiteRead, AreRead}
use Rattle.stage_net.proofs.PutLemmas.{put_in, of_put, still_in}
use Rattle.stage_net.proofs.RowLemmas.{none_read}

-- ---- the cells that read a site
is_found : (op : Operator) (j : ℕ) → is_found_of j op ≡ true → op ≡ Found j
is_found (Found i) j e = ap Found (eqb-true i j e)
is_found op j e = cc

is_answer : (op : Operator) (j : ℕ) → is_answer_of j op ≡ true → op ≡ Answer j
is_answer (Answer i) j e = ap Answer (eqb-true i j e)
is_answer op j e = cc

-- a cell that reads site j does one of two things
either_read : (op : Operator) (j : ℕ) → site_in op ≡ Some j → (op ≡ Found j) ⊎ (op ≡ Answer j)
either_read (Found i) j e = let s : i ≡ j = cc in inl (ap Found s)
either_read (Answer i) j e = let s : i ≡ j = cc in inr (ap Answer s)
either_read op j e = cc

module _ (p : ProgramView) (row : ℕ → ℕ) (j : ℕ) where
  abbrev pub fc : ℕ
  fc = found_cell p.cells j

  abbrev pub ac : ℕ
  ac = answer_cell p.cells j

  pub found_op : fc < length p.cells → (cell_at p.cells fc).op ≡ Found j
  found_op l = is_found (cell_at p.cells fc).op j (passes_at_first (λ (c : CellView). is_found_of j c.op) p.cells no_cell l)

  pub answer_op : ac < length p.cells → (cell_at p.cells ac).op ≡ Answer j
  answer_op l = is_answer (cell_at p.cells ac).op j (passes_at_first (λ (c : CellView). is_answer_of j c.op) p.cells no_cell l)

  -- one of the two stands in the row
  abbrev pub Hit : ℕ → Type 0
  Hit r = ((fc < length p.cells) × (row fc ≡ r)) ⊎ ((ac < length p.cells) × (row ac ≡ r))

  -- as it is tested
  abbrev tests : ℕ → ℕ → Bool
  tests k r = nat_lt k (length p.cells) && (row k == r)

  stands : (k r : ℕ) → tests k r ≡ true → (k < length p.cells) × (row k ≡ r)
  stands k r e = let x = and_parts (nat_lt k (length p.cells)) (row k == r) e in (ltb-true k (length p.cells) x.0, eqb-true (row k) r x.1)

  stands_not : (k r : ℕ) → tests k r ≡ false → (k < length p.cells) × (row k ≡ r) → ⊥
  stands_not k r e h = let t = and_from (nat_lt k (length p.cells)) (row k == r) (lt-ltb k (length p.cells) h.0) (eq-eqb (row k) r h.1) in let f = sym e ∙ t in cc

  module _ (found answer r : ℕ) (b : Bool) (is_found : found ≡ fc) (is_answer : answer ≡ ac) (is : b ≡ (tests found r || tests answer r)) where
    tested : b ≡ (tests fc r || tests ac r)
    tested = is ∙ ap (λ k. tests k r || tests answer r) is_found ∙ ap (λ k. tests fc r || tests k r) is_answer

    pub hit_of : b ≡ true → Hit r
    hit_of e = by_case (or_cases (tests fc r) (tests ac r) (sym tested ∙ e))
      where
        by_case : (tests fc r ≡ true) ⊎ (tests ac r ≡ true) → Hit r
        by_case (inl h) = inl (stands fc r h)
        by_case (inr h) = inr (stands ac r h)

    pub no_hit : b ≡ false → Hit r → ⊥
    no_hit e (inl h) = stands_not fc r (or_parts (tests fc r) (tests ac r) (sym tested ∙ e)).0 h
    no_hit e (inr h) = stands_not ac r (or_parts (tests fc r) (tests ac r) (sym tested ∙ e)).1 h

  module _ (r bits : ℕ) (decls : List MapDecl) (staged : IsStaged p row decls bits) where
    found_is : fc < length p.cells → IsReadCell p row fc j
    found_is l = staged.reads fc j l (ap site_in (found_op l))

    answer_is : ac < length p.cells → IsReadCell p row ac j
    answer_is l = staged.reads ac j l (ap site_in (answer_op l))

    found_row : Hit r → fc < length p.cells → row fc ≡ r
    found_row (inl h) l = h.1
    found_row (inr h) l = (answer_is h.0).together fc l (ap site_in (found_op l)) ∙ h.1

    answer_row : Hit r → ac < length p.cells → row ac ≡ r
    answer_row (inl h) l = (found_is h.0).together ac l (ap site_in (answer_op l)) ∙ h.1
    answer_row (inr h) l = h.1

    -- a cell that reads the site is one of them
    one_of_two : (c : ℕ) → c < length p.cells → site_in (cell_at p.cells c).op ≡ Some j → (c ≡ fc) ⊎ (c ≡ ac)
    one_of_two c l e = by_case (either_read (cell_at p.cells c).op j e)
      where
        by_case : ((cell_at p.cells c).op ≡ Found j) ⊎ ((cell_at p.cells c).op ≡ Answer j) → (c ≡ fc) ⊎ (c ≡ ac)
        by_case (inl f) = inl ((staged.reads c j l e).found f)
        by_case (inr a) = inr ((staged.reads c j l e).answer a)

    pub hit_by : (c : ℕ) → c < length p.cells → row c ≡ r → site_in (cell_at p.cells c).op ≡ Some j → Hit r
    hit_by c l i e = by_case (one_of_two c l e)
      where
        by_case : (c ≡ fc) ⊎ (c ≡ ac) → Hit r
        by_case (inl s) = inl (subst (λ k. k < length p.cells) s l, subst (λ k. row k ≡ r) s i)
        by_case (inr s) = inr (subst (λ k. k < length p.cells) s l, subst (λ k. row k ≡ r) s i)

-- ---- the step
module _ {P : Type 0} (part : P) (p : ProgramView) (row : ℕ → ℕ) (r : ℕ) (nets : StageNets (Name P)) (staged : IsStaged p row (decls_of nets.maps.now) nets.bits) (keep : ReadsKeep) (slots : List (Operand (Name P))) (j : ℕ) where
  abbrev Wires : Type 0
  Wires = List (BlockWireTree (Name P))

  abbrev Table : Type 0
  Table = List (Option (Operand (Name P)))

  -- no read of the site stands in the row
  pub not_read : (ws : Wires) (table pointers : Table) → IsTable p.cells table → IsPointers p.cells nets.bits pointers → (Hit p row j r → ⊥) → AreRead part p row r nets slots j (j + 1) ws ws table table pointers pointers
  not_read ws table pointers is are none = none_read part p row r nets slots j (j + 1) ws table pointers is are (λ c i l e o over under. none (hit c i l e o over under))
    where
      hit : (c i : ℕ) → c < length p.cells → row c ≡ r → site_in (cell_at p.cells c).op ≡ Some i → j ≤ i → i < j + 1 → Hit p row j r
      hit c i l e o over under = let same : i ≡ j = omega arith in hit_by p row j r nets.bits (decls_of nets.maps.now) staged c l e (o ∙ ap Some same)

  module _ (old new : Wires) (o : ReadNets (Name P)) (x : IsSiteRead part p row r nets slots j (cell_at p.cells (ac p row j)).from (cell_at p.cells (ac p row j)).width old new o) (before pointers : Table) (is : IsTable p.cells before) (are : IsPointers p.cells nets.bits pointers) (hit : Hit p row j r) where
    abbrev f : ℕ
    f = fc p row j

    abbrev a : ℕ
    a = ac p row j

    abbrev mid : Table
    mid = slice_set before f (Some o.there)

    abbrev after : Table
    after = slice_set mid a (Some o.answer)

    abbrev those : Table
    those = slice_set pointers f (Some o.found)

    mid_long : length mid ≡ length p.cells
    mid_long = length-set before f (Some o.there) ∙ is.count

    f_here : f < length p.cells → row f ≡ r
    f_here = found_row p row j r nets.bits (decls_of nets.maps.now) staged hit

    a_here : a < length p.cells → row a ≡ r
    a_here = answer_row p row j r nets.bits (decls_of nets.maps.now) staged hit

    f_is : f < length p.cells → IsReadCell p row f j
    f_is = found_is p row j r nets.bits (decls_of nets.maps.now) staged

    a_is : a < length p.cells → IsReadCell p row a j
    a_is = answer_is p row j r nets.bits (decls_of nets.maps.now) staged

    f_op : f < length p.cells → (cell_at p.cells f).op ≡ Found j
    f_op = found_op p row j

    a_op : a < length p.cells → (cell_at p.cells a).op ≡ Answer j
    a_op = answer_op p row j

    -- of both tables
    cells_both : (Q : ℕ → Operand (Name P) → Type 0) → (f < length p.cells → Q f o.there) → (a < length p.cells → Q a o.answer) → ((k : ℕ) (b : Operand (Name P)) → Stands before k b → Q k b) → (k : ℕ) (b : Operand (Name P)) → Stands after k b → Q k b
    cells_both Q there answer rest =
        of_put mid a o.answer Q (λ l. answer (omega (arith, l, mid_long))) (of_put before f o.there Q (λ l. there (omega (arith, l, is.count))) rest)

    those_both : (Q : ℕ → Operand (Name P) → Type 0) → (f < length p.cells → Q f o.found) → ((k : ℕ) (b : Operand (Name P)) → Stands pointers k b → Q k b) → (k : ℕ) (b : Operand (Name P)) → Stands those k b → Q k b
    those_both Q found rest = of_put pointers f o.found Q (λ l. found (omega (arith, l, are.count))) rest

    in_after : (k : ℕ) → k < length p.cells → (k ≡ f) ⊎ (k ≡ a) → IsIn after k
    in_after k l (inl e) = subst (IsIn after) (sym e) (still_in mid a o.answer f (put_in before f o.there (let m = subst (λ n. n < length p.cells) e l in omega (arith, m, is.count))))
    in_after k l (inr e) = subst (IsIn after) (sym e) (put_in mid a o.answer (let m = subst (λ n. n < length p.cells) e l in omega (arith, m, mid_long)))

    -- ---- the numbers of a packet that takes in the row
    module _ (t : TableState) (packet : PacketIn) (held h : StageValues) (v : Env (Name P)) (shows : ShowsRead v p row r nets slots t held h) (made : IsRowMade p row r t packet h) where
      kept : (c : ℕ) → c < length p.cells → row c ≡ r → LooksBelow row (row c) (site_at p.sites j) → (found_pointer p t held (pending p row r j) j ≡ found_pointer p t h (pending p row r j) j) × (answer_over p t held (pending p row r j) j ≡ answer_over p t h (pending p row r j) j)
      kept c l e below = keep p row r j t held h shows.alike (subst (λ k. LooksBelow row k (site_at p.sites j)) e below)

      found_pointer_is : (l : f < length p.cells) → found_pointer p t held (pending p row r j) j ≡ pointer_in h f
      found_pointer_is l = (kept f l (f_here l) (f_is l).below).0 ∙ sym ((made.each f l (f_here l)).pointer ∙ ap (cell_pointer p row r t h (cell_at p.cells f)) (f_op l))

      found_value_is : (l : f < length p.cells) → bit (not (is_null (found_pointer p t held (pending p row r j) j))) ≡ stage_value h f
      found_value_is l =
          let q = found_pointer p t h (pending p row r j) j in
          let cell = cell_at p.cells f in
          ap (λ x. bit (not (is_null x))) (kept f l (f_here l) (f_is l).below).0
          ∙ sym (bit_bits (not (is_null q)))
          ∙ sym ((made.each f l (f_here l)).value
          ∙ ap (λ op. bits_from (cell_number p row r t packet h cell op) cell.from cell.width) (f_op l)
          ∙ ap (λ n. bits_from (bit (not (is_null q))) n cell.width) ((f_is l).from (f_op l))
          ∙ ap (λ n. bits_from (bit (not (is_null q))) 0 n) ((f_is l).width (f_op l)))

      answer_value_is : (l : a < length p.cells) → bits_from (answer_over p t held (pending p row r j) j) (cell_at p.cells a).from (cell_at p.cells a).width ≡ stage_value h a
      answer_value_is l =
          let cell = cell_at p.cells a in
          ap (λ n. bits_from n cell.from cell.width) (kept a l (a_here l) (a_is l).below).1
          ∙ sym ((made.each a l (a_here l)).value ∙ ap (λ op. bits_from (cell_number p row r t packet h cell op) cell.from cell.width) (a_op l))

    module _ (outside : List (Operand (Name P))) (hand : AllAreThere (behind part outside old) nets slots) (both : BothThere part outside old before pointers) where
      abbrev given : All (IsAvailable (behind part outside new)) (o.found ∷ o.there ∷ o.answer ∷ [])
      given = x.there outside both.wires hand

      both_then : BothThere part outside new after those
      both_then = record {
        wires = x.wires outside both.wires hand;
        cells = cells_both (λ k b. IsAvailable (behind part outside new) b) (λ l. given 1 o.there (omega arith)) (λ l. given 2 o.answer (omega arith)) (λ k b s. x.adds.stays outside b (both.cells k b s));
        pointers = those_both (λ k b. IsAvailable (behind part outside new) b) (λ l. given 0 o.found (omega arith)) (λ k b s. x.adds.stays outside b (both.pointers k b s));
      }

    still_apart : (clean : ℕ → Bool) (marks : List Bool) → ((c : ℕ) → IsReadHere p row r c → clean c ≡ false) → KeepApart part clean marks old before → (next : List Bool) × KeepApart part clean next new after
    still_apart clean marks early keeps =
        let first = x.adds.apart clean marks before keeps in (
          first.0,
          record {
            count = first.1.count;
            wires = first.1.wires;
            stands = λ all g k b is_clean s.
                cells_both (λ n c. clean n ≡ true → IsClean (is_marked all) c) (λ l e. let n = early f (l, f_here l, ap is_read (f_op l)) in let z = sym e ∙ n in cc)
                (λ l e. let n = early a (l, a_here l, ap is_read (a_op l)) in let z = sym e ∙ n in cc) (λ n c st e. first.1.stands all g n c e st) k b s is_clean;
          },
        )

    pub site_is_read : AreRead part p row r nets slots j (j + 1) old new before after pointers those
    site_is_read = record {
      cells_are = record {
        count = length-set mid a (Some o.answer) ∙ mid_long;
        operand = cells_both (λ k b. IsOperand b) (λ l. x.cells.there) (λ l. x.cells.answer) is.operand;
        bits = cells_both (λ k b. HasBits (cell_at p.cells k).width b) (λ l. subst (λ n. HasBits n o.there) (sym ((f_is l).width (f_op l))) x.cells.there_bits) (λ l. x.cells.answer_bits) is.bits;
      };
      pointers_are = record {
        count = length-set pointers f (Some o.found) ∙ are.count;
        operand = those_both (λ k b. IsOperand b) (λ l. x.cells.found) are.operand;
        wide = those_both (λ k b. HasBits nets.bits b) (λ l. x.cells.found_bits) are.wide;
      };
      found = λ c i l e op over under.
          let same : i ≡ j = omega arith in
          let is_f = (staged.reads c j l (ap site_in op ∙ ap Some same)).found (op ∙ ap Found same) in
          subst (IsIn those) (sym is_f) (put_in pointers f o.found (let m = subst (λ n. n < length p.cells) is_f l in omega (arith, m, are.count)));
      read = λ c i l e op over under.
          let same : i ≡ j = omega arith in
          in_after c l (one_of_two p row j r nets.bits (decls_of nets.maps.now) staged c l (op ∙ ap Some same));
      grows = λ k h. still_in mid a o.answer k (still_in before f o.there k h);
      grows_pointers = λ k h. still_in pointers f o.found k h;
      earlier = x.adds.before;
      stays = x.adds.stays;
      there = both_then;
      value = λ outside v t packet held h hand both fit solved shows made cells point.
          let seen = λ (c : ℕ) (l : c < length p.cells) (e : row c ≡ r) (s : site_in (cell_at p.cells c).op ≡ Some j). shows.reads c j l e s in (
            cells_both (λ k b. number_in v b ≡ stage_value h k)
                (λ l. (x.found ((f_is l).finds (f_op l)) outside v t held both.wires hand fit solved (seen f l (f_here l) (ap site_in (f_op l)))).1 ∙ found_value_is t packet held h v shows made l)
                (λ l. x.answer ((a_is l).answers (a_op l)) outside v t held both.wires hand fit solved (seen a l (a_here l) (ap site_in (a_op l))) ∙ answer_value_is t packet held h v shows made l) cells,
            those_both (λ k b. number_in v b ≡ pointer_number (pointer_in h k))
                (λ l. (x.found ((f_is l).finds (f_op l)) outside v t held both.wires hand fit solved (seen f l (f_here l) (ap site_in (f_op l)))).0 ∙ ap pointer_number (found_pointer_is t packet held h v shows made l)) point,
          );
      apart = still_apart;
    }

    -- as the tables are written
    pub site_is_read_as :
        (found answer : ℕ) (first last ends : Table) → found ≡ f → answer ≡ a → first ≡ slice_set before found (Some o.there) → last ≡ slice_set first answer (Some o.answer) → ends ≡ slice_set pointers found (Some o.found)
        → AreRead part p row r nets slots j (j + 1) old new before last pointers ends
    site_is_read_as found answer first last ends is_f is_a one two three =
        let e : last ≡ after = two ∙ ap (λ l. slice_set l answer (Some o.answer)) (one ∙ ap (λ k. slice_set before k (Some o.there)) is_f) ∙ ap (λ k. slice_set mid k (Some o.answer)) is_a in
        let g : ends ≡ those = three ∙ ap (λ k. slice_set pointers k (Some o.found)) is_f in
        subst (λ y. AreRead part p row r nets slots j (j + 1) old new before last pointers y) (sym g) (subst (λ y. AreRead part p row r nets slots j (j + 1) old new before y pointers those) (sym e) site_is_read)
