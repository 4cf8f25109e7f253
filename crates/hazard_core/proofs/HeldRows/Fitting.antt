-- What a packet holds fits, cell by cell.
use Rattle.std.proofs.Common.{◌≡◌, ℕ, zero, suc, ◌+◌, ◌*◌, ◌<◌, ◌≤◌, ◌^◌, inl, Bool, true, false, List, [], ◌∷◌, length, get_or, set, replicate, refl, sym, ap, ◌∙◌, subst, arith, length-set}
use Rattle.std.specs.Prelude.{if◌then◌else◌, nat_lt, ◌==◌, ◌&&◌, slice_index}
use Rattle.std.specs.List.{list_all}
use Rattle.std.proofs.lemmas.Bool.Decides.{nat_tests}
use Rattle.std.proofs.lemmas.Bool.{and_parts}
use Rattle.std.proofs.lemmas.Nat.{mod_below, pow_pos}
use Rattle.std.proofs.lemmas.List.{length-replicate}
use Rattle.xdp_maps.specs.declared.decl.MapDecl.{MapDecl}
use Rattle.cell_core.specs.xdp_machine.State.{PacketIn}
use Rattle.cell_core.specs.declared.operator.Operator.{Operator}
use Rattle.cell_core.specs.declared.operator.Operator.TheVariants.{Found, Wire, Phi}
use Rattle.cell_core.specs.Cells.{CellView, cell_at, no_cell, bits_from, on}
use Rattle.cell_core.specs.Sites.{ProgramView}
use Rattle.hazard_core.specs.Tables.{TableState, table_at}
use Rattle.hazard_core.specs.declared.pointer.Pointer.{Pointer}
use Rattle.hazard_core.specs.declared.pointer.Pointer.TheVariants.{Null, InSlot, Pending}
use Rattle.hazard_core.specs.StageValues.{StageValues, stage_value, pointer_in, with_cell, pending, parts}
use Rattle.hazard_core.specs.Overlay.{found_pointer}
use Rattle.hazard_core.specs.Rows.{phi_pointer, cell_number, cell_pointer, with_made, made_from, with_row}
use Rattle.hazard_core.specs.HeldRows.Pointing.{flag_at, ArePointing}
use Rattle.hazard_core.specs.HeldRows.Fits.{IsMadeBefore, FitsRows, BeginsFit, RowsFit, MoreFit}
use Rattle.hazard_core.proofs.HeldRows.Making.{row_keeps}
use Rattle.hazard_core.proofs.HeldRows.Finding.{Points, raise, either, found_fine}

-- what holds of each element, and of one that is set
set_holds : {X : Type 0} (P : ℕ → X → Type 0) (d : X) (xs : List X) (k : ℕ) (x : X) → P k x → ((c : ℕ) → P c (get_or xs c d)) → (c : ℕ) → P c (get_or (set xs k x) c d)
set_holds P d [] k x h all c = all c
set_holds P d (y ∷ ys) zero x h all zero = h
set_holds P d (y ∷ ys) zero x h all (suc c) = all (suc c)
set_holds P d (y ∷ ys) (suc k) x h all zero = all zero
set_holds P d (y ∷ ys) (suc k) x h all (suc c) = set_holds (λ i. P (suc i)) d ys k x h (λ i. all (suc i)) c

all_same : {X : Type 0} (n : ℕ) (x : X) (c : ℕ) → get_or (replicate n x) c x ≡ x
all_same zero x c = refl
all_same (suc n) x zero = refl
all_same (suc n) x (suc c) = all_same n x c

-- rows below one are below the next
lower_more : (row : ℕ → ℕ) (r : ℕ) (cs : List ℕ) → list_all (λ c. nat_lt (row c) r) cs ≡ true → list_all (λ c. nat_lt (row c) (suc r)) cs ≡ true
lower_more row r [] e = refl
lower_more row r (c ∷ cs) e =
    let q = and_parts (nat_lt (row c) r) (list_all (λ c. nat_lt (row c) r) cs) e in
    ap (λ b. b && list_all (λ c. nat_lt (row c) (suc r)) cs) (one (nat_lt (row c) (suc r)) refl q.0) ∙ lower_more row r cs q.1
  where
    one : (b : Bool) → nat_lt (row c) (suc r) ≡ b → nat_lt (row c) r ≡ true → nat_lt (row c) (suc r) ≡ true
    one true f g = f
    one false f g = let l : row c < r = grind (arith, nat_tests) in let m : suc r ≤ row c = grind (arith, nat_tests) in absurd (omega arith)

-- ---- pointers that a cell may hold

module _ (p : ProgramView) (decls : List MapDecl) (row : ℕ → ℕ) (most r : ℕ) where
  -- of what a packet holds that fits
  points : (flag : Bool) (q : Pointer) → (flag ≡ false → q ≡ Null) → ((n : ℕ) → q ≡ InSlot n → n < most) → ((i : ℕ) → q ≡ Pending i → IsMadeBefore p decls row r i) → Points p decls row most r flag q
  points flag Null plain slots made = tt
  points true (InSlot n) plain slots made = (refl, slots n refl)
  points true (Pending i) plain slots made = (refl, made i refl)
  points false (InSlot n) plain slots made = let e = plain refl in cc
  points false (Pending i) plain slots made = let e = plain refl in cc

  plain_of : (flag : Bool) (q : Pointer) → Points p decls row most r flag q → flag ≡ false → q ≡ Null
  plain_of flag Null h e = refl
  plain_of flag (InSlot n) h e = let f = h.0 in cc
  plain_of flag (Pending i) h e = let f = h.0 in cc

  slot_of : (flag : Bool) (q : Pointer) (n : ℕ) → Points p decls row most r flag q → q ≡ InSlot n → n < most
  slot_of flag q n h e = (subst (λ (x : Pointer). Points p decls row most r flag x) e h).1

  made_of : (flag : Bool) (q : Pointer) (i : ℕ) → Points p decls row most r flag q → q ≡ Pending i → IsMadeBefore p decls row r i
  made_of flag q i h e = (subst (λ (x : Pointer). Points p decls row most r flag x) e h).1

module _ (p : ProgramView) (row : ℕ → ℕ) (flags : List Bool) (most r : ℕ) (t : TableState) (packet : PacketIn) (pointing : ArePointing p.cells flags) (room : (m : ℕ) → length (table_at t m) ≤ most) where
  abbrev Fine : Bool → Pointer → Type 0
  Fine flag q = Points p t.decls row most r flag q

  record Good (h : StageValues) : Type 0 where
    values : length h.values ≡ length p.cells
    pointers : length h.pointers ≡ length p.cells
    points : (c : ℕ) → Fine (flag_at flags c) (pointer_in h c)
    widths : (c : ℕ) → stage_value h c < 2 ^ (cell_at p.cells c).width

  -- a join has a pointer of one of its inputs
  join_fine : (h : StageValues) → Good h → (flag : Bool) (xs : List ℕ) → ((n : ℕ) → 2 * n + 1 < length xs → flag_at flags (slice_index xs (2 * n + 1)) ≡ true → flag ≡ true) → Fine flag (phi_pointer h xs)
  join_fine h good flag [] up = tt
  join_fine h good flag (e ∷ []) up = tt
  join_fine h good flag (e ∷ x ∷ []) up = raise p row flags most r t h (flag_at flags x) flag (pointer_in h x) (up 0 (omega arith)) (good.points x)
  join_fine h good flag (e ∷ x ∷ d ∷ more) up =
      either p row flags most r t h flag (on (stage_value h e)) (pointer_in h x) (phi_pointer h (d ∷ more))
      (raise p row flags most r t h (flag_at flags x) flag (pointer_in h x) (up 0 (omega arith)) (good.points x))
      (join_fine h good flag (d ∷ more) (λ n l f. let s : suc (suc (2 * n + 1)) ≡ 2 * suc n + 1 = omega arith in
      up (suc n) (omega (arith, l)) (subst (λ i. flag_at flags (slice_index (e ∷ x ∷ d ∷ more) i) ≡ true) s f)))

  cell_fine : (h : StageValues) → Good h → (k : ℕ) → k < length p.cells → Fine (flag_at flags k) (cell_pointer p row r t h (cell_at p.cells k) (cell_at p.cells k).op)
  cell_fine h good k l = by (cell_at p.cells k).op refl
    where
      c : CellView
      c = cell_at p.cells k

      by : (op : Operator) → c.op ≡ op → Fine (flag_at flags k) (cell_pointer p row r t h c op)
      by (Found j) e = raise p row flags most r t h true (flag_at flags k) (found_pointer p t h (pending p row r j) j) (λ f. pointing.found k j l e) (found_fine p row flags most r t h good.points room j)
      by Wire e = raise p row flags most r t h (flag_at flags (slice_index c.ins 0)) (flag_at flags k) (pointer_in h (slice_index c.ins 0)) (pointing.wire k l e) (good.points (slice_index c.ins 0))
      by Phi e = join_fine h good (flag_at flags k) c.ins (λ n m f. pointing.phi k n l e m f)
      by op e = tt

  set_good : (h : StageValues) (k n : ℕ) (q : Pointer) (c : CellView) → c ≡ cell_at p.cells k → Fine (flag_at flags k) q → Good h → Good (with_cell h k (bits_from n c.from c.width) q)
  set_good h k n q c e fine good = record {
    values = length-set h.values k (bits_from n c.from c.width) ∙ good.values;
    pointers = length-set h.pointers k q ∙ good.pointers;
    points = set_holds (λ i x. Fine (flag_at flags i) x) Null h.pointers k q fine good.points;
    widths =
        let l : bits_from n c.from c.width < 2 ^ c.width = mod_below _ (2 ^ c.width) (pow_pos c.width) in
        set_holds (λ i x. x < 2 ^ (cell_at p.cells i).width) 0 h.values k (bits_from n c.from c.width) (subst (λ (v : CellView). bits_from n c.from c.width < 2 ^ v.width) e l) good.widths;
  }

  all_good : (k : ℕ) (cs : List CellView) (h : StageValues) → ((i : ℕ) → i < length cs → get_or cs i no_cell ≡ cell_at p.cells (k + i)) → k + length cs ≡ length p.cells → Good h → Good (made_from p row r t packet k cs h)
  all_good k [] h e n good = good
  all_good k (c ∷ cs) h e n good =
      all_good (suc k) cs (with_made p row r t packet h k c) (λ i l. e (suc i) (omega (arith, l)) ∙ ap (cell_at p.cells) (omega arith)) (omega (arith, n)) (by (row k == r))
    where
      is : c ≡ cell_at p.cells k
      is = e 0 (omega arith) ∙ ap (cell_at p.cells) (omega arith)

      by : (b : Bool) → Good (if b then with_cell h k (bits_from (cell_number p row r t packet h c c.op) c.from c.width) (cell_pointer p row r t h c c.op) else h)
      by true =
          set_good h k (cell_number p row r t packet h c c.op) (cell_pointer p row r t h c c.op) c is
          (subst (λ (v : CellView). Fine (flag_at flags k) (cell_pointer p row r t h v v.op)) (sym is) (cell_fine h good k (omega (arith, n)))) good
      by false = good

  row_good : (h : StageValues) → Good h → Good (with_row p row r t packet h)
  unfolding with_row
  row_good h good = all_good 0 p.cells h (λ i l. ap (cell_at p.cells) (omega arith)) (omega arith) good

  row_fits : (h : StageValues) → FitsRows p t.decls row flags most r h → FitsRows p t.decls row flags most (suc r) (with_row p row r t packet h)
  row_fits h f = record {
    values = good.values;
    pointers = good.pointers;
    later = λ c above.
        let same = row_keeps p row r t packet h c (inl (λ e. omega (arith, e, above))) in
        let none = f.later c (omega (arith, above)) in
        (sym same.value ∙ none.0, sym same.pointer ∙ none.1);
    plain = λ c e. plain_of p t.decls row most r (flag_at flags c) (pointer_in g c) (good.points c) e;
    slots = λ c n e. slot_of p t.decls row most r (flag_at flags c) (pointer_in g c) n (good.points c) e;
    pending = λ c i e.
        let m = made_of p t.decls row most r (flag_at flags c) (pointer_in g c) i (good.points c) e in
        record { known = m.known; update = m.update; hash = m.hash; rows = lower_more row r (parts p i) m.rows };
    widths = good.widths;
  }
    where
      g : StageValues
      g = with_row p row r t packet h

      good : Good g
      good = row_good h (record {
        values = f.values;
        pointers = f.pointers;
        points = λ c. points p t.decls row most r (flag_at flags c) (pointer_in h c) (f.plain c) (λ n. f.slots c n) (λ i. f.pending c i);
        widths = f.widths;
      })

pub rows_fit : RowsFit
rows_fit p decls row flags most r t packet h pointing same room f =
    subst (λ (ds : List MapDecl). FitsRows p ds row flags most (suc r) (with_row p row r t packet h)) same
    (row_fits p row flags most r t packet pointing room h (subst (λ (ds : List MapDecl). FitsRows p ds row flags most r h) (sym same) f))

pub begins_fit : BeginsFit
begins_fit p decls row flags most = record {
  values = length-replicate (length p.cells) 0;
  pointers = length-replicate (length p.cells) Null;
  later = λ c above. (all_same (length p.cells) 0 c, null c);
  plain = λ c e. null c;
  slots = λ c n e. let z = null c in cc;
  pending = λ c i e. let z = null c in cc;
  widths = λ c. subst (λ n. n < 2 ^ (cell_at p.cells c).width) (sym (all_same (length p.cells) 0 c)) (pow_pos (cell_at p.cells c).width);
}
  where
    null : (c : ℕ) → get_or (replicate (length p.cells) Null) c Null ≡ Null
    null c = all_same (length p.cells) Null c

pub more_fit : MoreFit
more_fit p decls row flags most more r h l f = record {
  values = f.values;
  pointers = f.pointers;
  later = f.later;
  plain = f.plain;
  slots = λ c n e. let m = f.slots c n e in omega (arith, m, l);
  pending = f.pending;
  widths = f.widths;
}
