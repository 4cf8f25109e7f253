-- What the tables after a place show of a packet.
use Rattle.std.specs.Prelude.{◌==◌, Option, Contains, nat_lt}
use Rattle.std.proofs.Common.{◌≡◌, ◌∙◌, ◌⊎◌, inl, inr, ℕ, zero, suc, ◌+◌, ◌^◌, ◌<◌, ◌≤◌, Bool, true, false, ◌||◌, List, [], ◌∷◌, ◌-◌, length, length-append, map as map_list, get_or, refl, sym, ap, subst, arith, slice_index, lit<}
use Rattle.std.proofs.lemmas.Bool.{eqb-true, ltb-true, ltb-false, lt-ltb}
use Rattle.std.proofs.lemmas.List.{length-map, get_or-map, get_or_append_left, get_or-append_right, get_or_past}
use Rattle.std.proofs.lemmas.List.Elements.{All-contains, Contains-get_or, Contains-append_left, Contains-append_right}
use Rattle.std.proofs.lemmas.List.Sums.{passes_at_first}
use Rattle.std.proofs.lemmas.Nat.{pow_pos}
use Rattle.hazard_core.specs.xdp_maps.declared.decl.MapDecl.{MapDecl}
use Rattle.hazard_core.specs.xdp_machine.State.{PacketIn}
use Rattle.block_core.specs.net_core.declared.tree.Word.{Word}
use Rattle.block_core.specs.net_core.Value.{nothing, Env}
use Rattle.block_core.specs.declared.name.Name.{Name}
use Rattle.block_core.specs.declared.name.Name.TheVariants as name
use Rattle.hazard_core.specs.cell_core.declared.operator.Operator.{Operator}
use Rattle.hazard_core.specs.cell_core.declared.operator.Operator.TheVariants.{Constant, Found, Answer}
use Rattle.hazard_core.specs.cell_core.Acts.{pointer_operand}
use Rattle.hazard_core.specs.cell_core.Cells.{CellView, cell_at, no_cell, is_read, number, value, bits_from}
use Rattle.hazard_core.specs.cell_core.Sites.{SiteView, ProgramView, site_at, no_site}
use Rattle.overlay_net.specs.cell_nets.declared.operand.Operand.{Operand}
use Rattle.overlay_net.specs.cell_nets.declared.operand.Operand.TheVariants.{Known}
use Rattle.overlay_net.specs.cell_nets.Operands.{number_in, IsOperand, IsAvailable}
use Rattle.overlay_net.specs.cell_nets.Wires.{HasBits}
use Rattle.hazard_core.specs.declared.pointer.Pointer.{Pointer}
use Rattle.hazard_core.specs.declared.pointer.Pointer.TheVariants.{Null}
use Rattle.hazard_core.specs.StageValues.{StageValues, stage_value, pointer_in, found_cell, answer_cell, is_found_of, is_answer_of}
use Rattle.hazard_core.specs.Keeping.{SameCell, AreAlike}
use Rattle.row_plan.specs.Plan.{Plan}
use Rattle.row_net.specs.Needed.{flag}
use Rattle.row_net.specs.Table.{Stands, IsIn, AreThere, Holds, is_number, is_constant, AreConstants}
use Rattle.row_net.specs.PlaceNet.Place.{words_of, word_in}
use Rattle.overlay_net.specs.SiteOperands.Pointers.{pointer_number}
use Rattle.overlay_net.specs.SiteOperands.Sites.{SiteOperands, ShowsSite}
use Rattle.row_net.specs.SitePlace.Pointing.{IsPointers, HoldsPointers}
use Rattle.row_net.specs.SitePlace.SitePlace.{site_words, pointer_word}
use Rattle.hazard_core.specs.HeldRows.Fits.{FitsRows}
use Rattle.stage_net.specs.declared.site_table.tables.StageTables.{StageTables}
use Rattle.stage_net.specs.SiteTable.Constants.{constant_number, AreEarly, HoldsConstants}
use Rattle.stage_net.specs.SiteTable.Lists.{held_cells, held_pointers}
use Rattle.stage_net.specs.SiteTable.Parts.{IsPart, Taken, Read, AreParts}
use Rattle.stage_net.specs.SiteTable.Pointing.{plain_of}
use Rattle.stage_net.specs.SiteTable.Sites.{HasValue, HasPointer, HasSite, IsSiteOf}
use Rattle.stage_net.specs.SiteTable.Staged.{AreStaged, AreLists}
use Rattle.stage_net.specs.SiteTable.Tables.{AreBehind, ShowsWords, StandBehind, ShowsPacket}

-- ---- pointers of cells that have none
plain_known : {N : Type 0} (points : List Bool) (k : ℕ) (a : Operand N) → Stands (map_list plain_of points) k a → (a ≡ Known 0) × (flag points k ≡ false)
plain_known [] k a s = cc
plain_known (true ∷ points) zero a s = cc
plain_known (false ∷ points) zero a s = let e : a ≡ Known 0 = cc in (e, refl)
plain_known (b ∷ points) (suc k) a s = plain_known points k a s

pub plain_in : {N : Type 0} (points : List Bool) (k : ℕ) → k < length points → flag points k ≡ false → IsIn {N = N} (map_list plain_of points) k
plain_in [] k lt f = absurd (omega arith)
plain_in (true ∷ points) zero lt f = cc
plain_in (false ∷ points) zero lt f = (Known 0, refl)
plain_in (b ∷ points) (suc k) lt f = plain_in points k (omega (arith, lt)) f

pub plain_are : {N : Type 0} (cells : List CellView) (points : List Bool) (bits : ℕ) → length points ≡ length cells → IsPointers {N = N} cells bits (map_list plain_of points)
plain_are {N} cells points bits count = record {
  count = length-map points plain_of ∙ count;
  operand = λ k a s. subst IsOperand (sym (plain_known points k a s).0) (lit< tt);
  wide = λ k a s. subst (HasBits bits) (sym (plain_known points k a s).0) (pow_pos bits);
}

pub plain_there : {N : Type 0} (ins : List (Operand N)) (points : List Bool) → AreThere ins (map_list plain_of points)
plain_there ins points k a s = subst (IsAvailable ins) (sym (plain_known points k a s).0) tt

pub plain_holds : {N : Type 0} (v : Env N) (points : List Bool) (at : ℕ → Pointer) → ((k : ℕ) → flag points k ≡ false → at k ≡ Null) → HoldsPointers v (map_list plain_of points) at
plain_holds v points at none k a s = let e = plain_known points k a s in ap (number_in v) e.0 ∙ ap pointer_number (sym (none k e.1))

-- ---- the words of registers
module _ {P : Type 0} (part : P) (cells : List CellView) (bits : ℕ) (held pointers : List ℕ) (v : Env (Name P)) (val : ℕ → ℕ) (at : ℕ → Pointer) (shows : ShowsWords v part (site_words cells bits val at held pointers)) where
  all_words : length (site_words cells bits val at held pointers) ≡ length held + length pointers
  all_words = simp (length-append, length-map) refl

  pub cell_word : (i : ℕ) → i < length held → (v.net (name.Register part i)).value ≡ val (get_or held i 0)
  cell_word i lt =
      ap (λ (w : Word). w.value)
      (shows i (omega (arith, all_words, lt)) ∙ get_or_append_left (words_of cells val held) (map_list (pointer_word bits at) pointers) nothing i (omega (arith, lt, length-map held (word_in cells val))) ∙ get_or-map (word_in cells val) held i 0 nothing lt)

  pub pointer_word_is : (i : ℕ) → i < length pointers → (v.net (name.Register part (length held + i))).value ≡ pointer_number (at (get_or pointers i 0))
  pointer_word_is i lt =
      let count = length-map held (word_in cells val) in
      let z : length held + i - length held ≡ i = omega arith in
      ap (λ (w : Word). w.value)
      (shows (length held + i) (omega (arith, all_words, lt)) ∙ get_or-append_right (words_of cells val held) (map_list (pointer_word bits at) pointers) (length held) (length held + i) nothing count (omega arith)
      ∙ ap (λ j. get_or (map_list (pointer_word bits at) pointers) j nothing) z ∙ get_or-map (pointer_word bits at) pointers i 0 nothing lt)

  -- the tables after them show what the tables before and the registers do
  module _ (constants plain : List (Option (Operand (Name P)))) (t : StageTables (Name P)) (behind : AreBehind part cells bits held pointers constants plain t) where
    pub cells_hold : Holds v constants val → Holds v t.table.items val
    cells_hold h = behind.table.value v val cell_word h

    pub pointers_hold : HoldsPointers v plain at → HoldsPointers v t.pointers.items at
    pointers_hold h = behind.pointers.value v at pointer_word_is h

-- ---- numbers that are the same for all packets
number_is : (o : Operator) → is_number o ≡ true → (n : ℕ) × (o ≡ Constant n)
number_is (Constant n) h = (n, refl)
number_is o h = cc

no_bits : (n from w : ℕ) → w ≡ 0 → bits_from n from w ≡ 0
no_bits n from w e = let Q : ℕ → Type 0 = λ k. bits_from n from k ≡ 0 in subst Q (sym e) (omega arith)

below_none : (x w : ℕ) → w ≡ 0 → x < 2 ^ w → x ≡ 0
below_none x w e h = let Q : ℕ → Type 0 = λ k. x < 2 ^ k in let g = subst Q e h in omega (arith, g)

any_packet : PacketIn
any_packet = record { frame = []; ifindex = 0; time = 0 }

-- a packet that holds the values of its cells holds numbers
pub value_is_number : (packet : PacketIn) (h : StageValues) (c : CellView) (k n : ℕ) → c.op ≡ Constant n → stage_value h k ≡ value packet (stage_value h) c → stage_value h k ≡ bits_from n c.from c.width
value_is_number packet h c k n e is = is ∙ ap (λ o. bits_from (number packet o (map_list (stage_value h) c.ins)) c.from c.width) e

module _ (p : ProgramView) (decls : List MapDecl) (row : ℕ → ℕ) (points : List Bool) (most r : ℕ) (h : StageValues) (early : AreEarly p row) (fits : FitsRows p decls row points most r h) (some : 0 < r) (holds : HoldsConstants p row r h) where
  -- of a number
  number_held : (k n : ℕ) → k < length p.cells → (cell_at p.cells k).op ≡ Constant n → stage_value h k ≡ bits_from n (cell_at p.cells k).from (cell_at p.cells k).width
  number_held k n lt e = by_row (nat_lt (row k) r) refl
    where
      by_early : (row k < r → ⊥) → (row k ≡ 0) ⊎ (constant_number (cell_at p.cells k) ≡ 0) → stage_value h k ≡ bits_from n (cell_at p.cells k).from (cell_at p.cells k).width
      by_early late (inl z) = absurd (late (omega (arith, z)))
      by_early late (inr z) =
          let far : r ≤ row k = omega (arith, late) in
          let same : constant_number (cell_at p.cells k) ≡ bits_from n (cell_at p.cells k).from (cell_at p.cells k).width = ap (λ o. constant_number (record { op = o; ins = (cell_at p.cells k).ins; width = (cell_at p.cells k).width; from = (cell_at p.cells k).from })) e in
          (fits.later k far).0 ∙ sym z ∙ same

      by_row : (b : Bool) → nat_lt (row k) r ≡ b → stage_value h k ≡ bits_from n (cell_at p.cells k).from (cell_at p.cells k).width
      by_row true t = holds k n lt (ltb-true (row k) r t) e
      by_row false t = by_early (λ l. differ (nat_lt (row k) r) t (lt-ltb (row k) r l)) (early k lt)
        where
          differ : (b : Bool) → b ≡ false → b ≡ true → ⊥
          differ b f g = cc

  pub constants_hold : {N : Type 0} (v : Env N) (constants : List (Option (Operand N))) → AreConstants p.cells constants → Holds v constants (stage_value h)
  constants_hold v constants are k a s = are.value v any_packet (stage_value h) k a s ∙ sym (by_kind ((cell_at p.cells k).width == 0) refl)
    where
      within : k < length p.cells
      within = omega (arith, are.fits.count, inside constants k s)
        where
          inside : (xs : List (Option (Operand _))) (i : ℕ) → Stands xs i a → i < length xs
          inside [] i s = cc
          inside (x ∷ xs) zero s = omega arith
          inside (x ∷ xs) (suc i) s = omega (arith, inside xs i s)

      of_number : is_number (cell_at p.cells k).op ≡ true → stage_value h k ≡ value any_packet (stage_value h) (cell_at p.cells k)
      of_number t =
          let c = number_is (cell_at p.cells k).op t in
          number_held k c.0 within c.1
          ∙ ap (λ o. bits_from (number any_packet o (map_list (stage_value h) (cell_at p.cells k).ins)) (cell_at p.cells k).from (cell_at p.cells k).width) (sym c.1)

      by_kind : (b : Bool) → ((cell_at p.cells k).width == 0) ≡ b → stage_value h k ≡ value any_packet (stage_value h) (cell_at p.cells k)
      by_kind true e =
          let z = eqb-true (cell_at p.cells k).width 0 e in
          below_none (stage_value h k) (cell_at p.cells k).width z (fits.widths k)
          ∙ sym (no_bits (number any_packet (cell_at p.cells k).op (map_list (stage_value h) (cell_at p.cells k).ins)) (cell_at p.cells k).from (cell_at p.cells k).width z)
      by_kind false e = of_number (ap (λ b. b || is_number (cell_at p.cells k).op) (sym e) ∙ are.only k a s)

-- ---- a place
-- the cells of reads
found_read : (o : Operator) (j : ℕ) → is_found_of j o ≡ true → is_read o ≡ true
found_read (Found i) j h = refl
found_read o j h = cc

answer_read : (o : Operator) (j : ℕ) → is_answer_of j o ≡ true → is_read o ≡ true
answer_read (Answer i) j h = refl
answer_read o j h = cc

module _ {P : Type 0} (part : P) (p : ProgramView) (decls : List MapDecl) (plan : Plan) (needed parts points : List Bool) (bits most k : ℕ) (t : StageTables (Name P)) (v : Env (Name P)) (h : StageValues) (stand : StandBehind part p plan needed parts points bits k t)
    (shows : ShowsPacket v part p decls plan needed parts points bits most k h) where
  -- what stands for cells and for pointers has the numbers that the packet holds
  pub table_holds : AreEarly p (slice_index plan.rows) → Holds v t.table.items (stage_value h)
  table_holds early =
      cells_hold part p.cells bits (held_cells p plan needed parts k) (held_pointers p plan needed parts points k) v (stage_value h) (pointer_in h) shows.registers stand.constants (map_list plain_of points) t stand.behind
      (constants_hold p decls (slice_index plan.rows) points most (suc k) h early shows.fits (omega arith) shows.constants v stand.constants stand.are_constants)

  pub pointers_show : HoldsPointers v t.pointers.items (pointer_in h)
  pointers_show =
      pointers_hold part p.cells bits (held_cells p plan needed parts k) (held_pointers p plan needed parts points k) v (stage_value h) (pointer_in h) shows.registers stand.constants (map_list plain_of points) t stand.behind
      (plain_holds v points (pointer_in h) shows.fits.plain)

  -- They have those of a packet, too, that holds the same of these rows and later ones besides, as after the next row.
  module _ (lists : AreLists p plan needed parts points) (g : StageValues) (alike : AreAlike p (slice_index plan.rows) (suc k) h g) (r : ℕ) (fits : FitsRows p decls (slice_index plan.rows) points most r g) where
    held_alike : (c : ℕ) → slice_index plan.rows c ≤ k → SameCell h g c
    held_alike c le = alike c (inl (omega (arith, le)))

    pub next_table_holds : AreEarly p (slice_index plan.rows) → 0 < r → HoldsConstants p (slice_index plan.rows) r g → Holds v t.table.items (stage_value g)
    next_table_holds early some constants =
        stand.behind.table.value v (stage_value g)
        (λ i lt. cell_word part p.cells bits (held_cells p plan needed parts k) (held_pointers p plan needed parts points k) v (stage_value h) (pointer_in h) shows.registers i lt ∙ (held_alike (get_or (held_cells p plan needed parts k) i 0) (lists.held k i 0 lt).row).value)
        (constants_hold p decls (slice_index plan.rows) points most r g early fits some constants v stand.constants stand.are_constants)

    pub next_pointers_show : HoldsPointers v t.pointers.items (pointer_in g)
    next_pointers_show =
        stand.behind.pointers.value v (pointer_in g)
        (λ i lt. pointer_word_is part p.cells bits (held_cells p plan needed parts k) (held_pointers p plan needed parts points k) v (stage_value h) (pointer_in h) shows.registers i lt
        ∙ ap pointer_number (held_alike (get_or (held_pointers p plan needed parts points k) i 0) (lists.pointers_held k i 0 lt).row).pointer) (plain_holds v points (pointer_in g) fits.plain)

  -- up to the place where packets commit the tables have all that sites take and read, but for what is 0
  module _ (placed : AreStaged p plan needed parts points) (are : AreParts p parts) (count : length points ≡ length p.cells) (early : k ≤ plan.commit) where
    past_value : (c : ℕ) → length p.cells ≤ c → stage_value h c ≡ 0
    past_value c le = get_or_past h.values c 0 (omega (arith, shows.fits.values, le))

    past_pointer : (c : ℕ) → length p.cells ≤ c → pointer_in h c ≡ Null
    past_pointer c le = get_or_past h.pointers c Null (omega (arith, shows.fits.pointers, le))

    value_there : (c : ℕ) → (c < length p.cells → IsPart p c) → HasValue t.table.items (stage_value h) c
    value_there c of = by_end (nat_lt c (length p.cells)) refl
      where
        by_list : c < length p.cells → (is_constant (cell_at p.cells c) ≡ true) ⊎ Contains (held_cells p plan needed parts k) c → HasValue t.table.items (stage_value h) c
        by_list lt (inl e) = inl (stand.behind.table.grows c (stand.are_constants.known c lt e))
        by_list lt (inr e) = inl (All-contains (IsIn t.table.items) (held_cells p plan needed parts k) c stand.behind.table.taken e)

        by_row : c < length p.cells → (b : Bool) → nat_lt k (slice_index plan.rows c) ≡ b → HasValue t.table.items (stage_value h) c
        by_row lt true e = let far = ltb-true k (slice_index plan.rows c) e in inr (shows.fits.later c (omega (arith, far))).0
        by_row lt false e = let low = ltb-false k (slice_index plan.rows c) e in by_list lt (placed.sites k c early lt (are.marked c lt (of lt)) (omega (arith, low)))

        by_end : (b : Bool) → nat_lt c (length p.cells) ≡ b → HasValue t.table.items (stage_value h) c
        by_end true e = let lt = ltb-true c (length p.cells) e in by_row lt (nat_lt k (slice_index plan.rows c)) refl
        by_end false e = let low = ltb-false c (length p.cells) e in inr (past_value c (omega (arith, low)))

    pointer_there : (c : ℕ) → (c < length p.cells → IsPart p c) → HasPointer t.pointers.items (pointer_in h) c
    pointer_there c of = by_end (nat_lt c (length p.cells)) refl
      where
        by_list : c < length p.cells → (flag points c ≡ false) ⊎ Contains (held_pointers p plan needed parts points k) c → HasPointer t.pointers.items (pointer_in h) c
        by_list lt (inl e) = inl (stand.behind.pointers.grows c (plain_in points c (omega (arith, count, lt)) e))
        by_list lt (inr e) = inl (All-contains (IsIn t.pointers.items) (held_pointers p plan needed parts points k) c stand.behind.pointers.taken e)

        by_row : c < length p.cells → (b : Bool) → nat_lt k (slice_index plan.rows c) ≡ b → HasPointer t.pointers.items (pointer_in h) c
        by_row lt true e = let far = ltb-true k (slice_index plan.rows c) e in inr (shows.fits.later c (omega (arith, far))).1
        by_row lt false e = let low = ltb-false k (slice_index plan.rows c) e in by_list lt (placed.site_pointers k c early lt (are.marked c lt (of lt)) (omega (arith, low)))

        by_end : (b : Bool) → nat_lt c (length p.cells) ≡ b → HasPointer t.pointers.items (pointer_in h) c
        by_end true e = let lt = ltb-true c (length p.cells) e in by_row lt (nat_lt k (slice_index plan.rows c)) refl
        by_end false e = let low = ltb-false c (length p.cells) e in inr (past_pointer c (omega (arith, low)))

    -- ---- a site
    module _ (j : ℕ) (known : j < length p.sites) where
      abbrev own : SiteView
      own = site_at p.sites j

      there : Contains p.sites own
      there = Contains-get_or p.sites j no_site known

      key_part : (c : ℕ) → Contains own.key c → IsPart p c
      key_part c e = let x = Contains-append_left own.key own.operands c e in Taken own there (suc x.0, omega (arith, x.1), x.2)

      operand_part : (c : ℕ) → Contains own.operands c → IsPart p c
      operand_part c e = let x = Contains-append_right own.key own.operands c e in Taken own there (suc x.0, omega (arith, x.1), x.2)

      pub has_site : HasSite t.table.items t.pointers.items p h j
      has_site = record {
        asked = record {
          key = λ i d lt. value_there (get_or own.key i d) (λ l. key_part (get_or own.key i d) (Contains-get_or own.key i d lt));
          operands = λ i d lt. value_there (get_or own.operands i d) (λ l. operand_part (get_or own.operands i d) (Contains-get_or own.operands i d lt));
          pointer = λ lt. pointer_there (slice_index own.operands (pointer_operand own.act)) (λ l. operand_part (slice_index own.operands (pointer_operand own.act)) (Contains-get_or own.operands (pointer_operand own.act) 0 lt));
        };
        guard = value_there own.guard (λ l. Taken own there (0, omega arith, refl));
        found = pointer_there (found_cell p.cells j) (λ l. Read (found_read (cell_at p.cells (found_cell p.cells j)).op j (passes_at_first (λ (c : CellView). is_found_of j c.op) p.cells no_cell l)));
        answer = value_there (answer_cell p.cells j) (λ l. Read (answer_read (cell_at p.cells (answer_cell p.cells j)).op j (passes_at_first (λ (c : CellView). is_answer_of j c.op) p.cells no_cell l)));
      }

      -- so what stands for a site shows what the packet holds of it
      pub site_shown : AreEarly p (slice_index plan.rows) → (s : SiteOperands (Name P)) → IsSiteOf p t.table.items t.pointers.items j s → ShowsSite v p h j s
      site_shown early s is = is.shown v h (table_holds early) pointers_show has_site
