-- What a packet holds of the rows below one, completed to a run of all cells with numbers for its pointers.
use Rattle.std.proofs.Common.{◌≡◌, ℕ, zero, suc, ◌+◌, ◌<◌, ◌≤◌, Bool, true, false, None, List, [], ◌∷◌, length, get_or, refl, sym, ap, ◌∙◌, arith}
use Rattle.std.specs.Prelude.{All, slice_index, nat_lt, ◌==◌, ◌^◌, if◌then◌else◌}
use Rattle.std.proofs.lemmas.Bool.{eqb-true, eqb-false, lt-ltb, le-ltb, ltb-true}
use Rattle.std.proofs.lemmas.Nat.{pow_pos}
use Rattle.beat_core.proofs.list_laws_laws.ListLaws.{map_alike}
use Rattle.xdp_object.specs.xdp_machine.State.{PacketIn}
use Rattle.hazard_core.specs.cell_core.declared.operator.Operator.{Operator}
use Rattle.hazard_core.specs.cell_core.declared.operator.Operator.TheVariants.{Wire, Phi}
use Rattle.hazard_core.specs.cell_core.Cells.{CellView, IsRun, cell_at, is_read, site_in, on, number, bits_from}
use Rattle.hazard_core.specs.cell_core.Sites.{ProgramView}
use Rattle.hazard_core.specs.cell_core.Formed.{AreFormed, takes}
use Rattle.hazard_core.specs.cell_core.Rows.{AreRows, RowsRise}
use Rattle.hazard_core.specs.cell_core.CellLaws.{SameReads, HaveValues}
use Rattle.hazard_core.proofs.cell_core_laws.OperatorLaws.{value_of_plain, none_of_plain}
use Rattle.operator_cells.specs.Following.{picked, Goes, IsFollowed}
use Rattle.hazard_core.specs.Tables.{TableState}
use Rattle.hazard_core.specs.declared.pointer.Pointer.{Pointer}
use Rattle.hazard_core.specs.declared.pointer.Pointer.TheVariants.{Null, InSlot, Pending}
use Rattle.hazard_core.specs.StageValues.{StageValues, stage_value, pointer_in}
use Rattle.hazard_core.specs.Rows.{phi_pointer, cell_pointer}
use Rattle.pipe_runs.specs.pipe_core.Machine.{Build}
use Rattle.pipe_runs.specs.pipe_core.Agreement.{IsMade, ReadsFit}
use Rattle.ehdl_build.proofs.ProgramPlan.Operators.{number_of_plain}

-- ---- numbers of pointers

-- each pointer has a number of its own
abbrev pub pointer_code : Pointer → ℕ
pointer_code Null = 0
pointer_code (InSlot n) = suc (n + n)
pointer_code (Pending j) = suc (suc (j + j))

-- none has 0
pub record IsCode (code : Pointer → ℕ) : Type 0 where
  pub none : code Null ≡ 0

pub pointers_same : (x y : Pointer) → pointer_code x ≡ pointer_code y → x ≡ y
pointers_same Null Null e = refl
pointers_same Null (InSlot m) e = absurd (omega (arith, e))
pointers_same Null (Pending i) e = absurd (omega (arith, e))
pointers_same (InSlot n) Null e = absurd (omega (arith, e))
pointers_same (InSlot n) (InSlot m) e = let same : n ≡ m = omega (arith, e) in ap InSlot same
pointers_same (InSlot n) (Pending i) e = absurd (omega (arith, e))
pointers_same (Pending j) Null e = absurd (omega (arith, e))
pointers_same (Pending j) (InSlot m) e = absurd (omega (arith, e))
pointers_same (Pending j) (Pending i) e = let same : j ≡ i = omega (arith, e) in ap Pending same

-- ---- numbers that go with cells, built one after another

-- the number of a cell from those of earlier ones: that which is given, unless it is a copy or a choice
abbrev gone : (ℕ → ℕ) → (ℕ → ℕ) → List ℕ → Operator → ℕ → ℕ
gone v u ins Wire given = u (slice_index ins 0)
gone v u ins Phi given = picked v u ins
gone v u ins op given = given

abbrev gone_at : (ℕ → ℕ) → List CellView → (ℕ → ℕ) → (ℕ → ℕ) → ℕ → ℕ
gone_at v cells given u k = gone v u (cell_at cells k).ins (cell_at cells k).op (given k)

-- the numbers of the first n cells
abbrev built : (ℕ → ℕ) → List CellView → (ℕ → ℕ) → ℕ → ℕ → ℕ
built v cells given zero k = 0
built v cells given (suc n) k = if k == n then gone_at v cells given (built v cells given n) n else built v cells given n k

built_stays : (v : ℕ → ℕ) (cells : List CellView) (given : ℕ → ℕ) (n k : ℕ) → k < n → built v cells given n k ≡ gone_at v cells given (built v cells given k) k
built_stays v cells given zero k below = absurd (omega (arith, below))
built_stays v cells given (suc n) k below = by (k == n) refl (λ h. built_stays v cells given n k h)
  where
    by : (b : Bool) → (k == n) ≡ b → (k < n → built v cells given n k ≡ gone_at v cells given (built v cells given k) k)
        → (if b then gone_at v cells given (built v cells given n) n else built v cells given n k) ≡ gone_at v cells given (built v cells given k) k
    by true t lower = ap (λ (i : ℕ). gone_at v cells given (built v cells given i) i) (sym (eqb-true k n t))
    by false t lower = lower (omega (arith, below, eqb-false k n t))

picked_same : (v u w : ℕ → ℕ) (xs : List ℕ) → All (λ i. u i ≡ w i) xs → picked v u xs ≡ picked v w xs
picked_same v u w [] same = refl
picked_same v u w (e ∷ []) same = refl
picked_same v u w (e ∷ x ∷ []) same = same 1 0 (omega arith)
picked_same v u w (e ∷ x ∷ d ∷ more) same = by (picked_same v u w (d ∷ more) (λ k z l. same (suc (suc k)) z (omega (arith, l)))) (on (v e))
  where
    by : picked v u (d ∷ more) ≡ picked v w (d ∷ more) → (b : Bool) → (if b then u x else picked v u (d ∷ more)) ≡ (if b then w x else picked v w (d ∷ more))
    by rest true = same 1 0 (omega arith)
    by rest false = rest

gone_same : (v u w : ℕ → ℕ) (ins : List ℕ) (op : Operator) (given : ℕ) → takes op ≤ length ins → All (λ i. u i ≡ w i) ins → gone v u ins op given ≡ gone v w ins op given
gone_same v u w ins Wire given enough same = same 0 0 (omega (arith, enough))
gone_same v u w ins Phi given enough same = picked_same v u w ins same
gone_same v u w ins op given enough same = refl

goes_is : (v u : ℕ → ℕ) (ins : List ℕ) (op : Operator) (given n : ℕ) → n ≡ gone v u ins op given → Goes v u ins op n
goes_is v u ins Wire given n e = e
goes_is v u ins Phi given n e = e
goes_is v u ins op given n e = tt

-- ---- those of the pointers that a packet holds

-- a value and a number are those of a cell that is held
record IsHeld (code : Pointer → ℕ) (v u : ℕ → ℕ) (h : StageValues) (c : ℕ) : Type 0 where
  value : v c ≡ stage_value h c
  goes : u c ≡ code (pointer_in h c)

module _ (code : Pointer → ℕ) (is_code : IsCode code) (v u : ℕ → ℕ) (h : StageValues) where
  picked_held : (xs : List ℕ) → All (IsHeld code v u h) xs → picked v u xs ≡ code (phi_pointer h xs)
  picked_held [] held = sym is_code.none
  picked_held (e ∷ []) held = sym is_code.none
  picked_held (e ∷ x ∷ []) held = (held 1 0 (omega arith)).goes
  picked_held (e ∷ x ∷ d ∷ more) held =
      ap (λ n. if on n then u x else picked v u (d ∷ more)) (held 0 0 (omega arith)).value
      ∙ by (picked_held (d ∷ more) (λ k z l. held (suc (suc k)) z (omega (arith, l)))) (on (stage_value h e))
    where
      by : picked v u (d ∷ more) ≡ code (phi_pointer h (d ∷ more)) → (b : Bool) → (if b then u x else picked v u (d ∷ more)) ≡ code (if b then pointer_in h x else phi_pointer h (d ∷ more))
      by rest true = (held 1 0 (omega arith)).goes
      by rest false = rest

  gone_held : (p : ProgramView) (row : ℕ → ℕ) (r : ℕ) (t : TableState) (c : CellView) (op : Operator) (q : Pointer) → takes op ≤ length c.ins → All (IsHeld code v u h) c.ins
      → (site_in op ≡ None → q ≡ cell_pointer p row r t h c op) → gone v u c.ins op (code q) ≡ code q
  gone_held p row r t c Wire q enough held is = (held 0 0 (omega (arith, enough))).goes ∙ ap code (sym (is refl))
  gone_held p row r t c Phi q enough held is = picked_held c.ins held ∙ ap code (sym (is refl))
  gone_held p row r t c op q enough held is = refl

-- what is given of reads goes with them
gone_read : (v u : ℕ → ℕ) (ins : List ℕ) (op : Operator) (given : ℕ) → is_read op ≡ true → gone v u ins op given ≡ given
gone_read v u ins Wire given e = absurd (cc)
gone_read v u ins Phi given e = absurd (cc)
gone_read v u ins op given e = refl

-- ---- the completed run

-- where it is below
abbrev below : ℕ → ℕ → ℕ → ℕ
below r row n = if nat_lt row r then n else 0

below_is : (r row n : ℕ) → row < r → below r row n ≡ n
below_is r row n l = ap (λ (b : Bool). if b then n else 0) (lt-ltb row r l)

not_below : (r row n : ℕ) → r ≤ row → below r row n ≡ 0
not_below r row n l = ap (λ (b : Bool). if b then n else 0) (le-ltb row r l)

pub record IsCompleted (code : Pointer → ℕ) (b : Build) (packet : PacketIn) (h : StageValues) (r : ℕ) : Type 0 where
  pub v : ℕ → ℕ
  pub u : ℕ → ℕ
  pub run : IsRun packet b.program.cells v
  pub followed : IsFollowed b.program.cells v u
  pub value : (c : ℕ) → c < length b.program.cells → b.plan.row c < r → v c ≡ stage_value h c
  pub goes : (c : ℕ) → c < length b.program.cells → b.plan.row c < r → u c ≡ code (pointer_in h c)
  -- later reads have no pointers
  pub later : (c : ℕ) → c < length b.program.cells → is_read (cell_at b.program.cells c).op ≡ true → r ≤ b.plan.row c → u c ≡ 0

module _ (have : HaveValues) (rise : RowsRise) (code : Pointer → ℕ) (is_code : IsCode code) (b : Build) (r : ℕ) (formed : AreFormed b.program.cells) (rows : AreRows b.program.cells b.plan.row)
    (t : TableState) (packet : PacketIn) (h : StageValues)
    (own : (c : ℕ) → c < length b.program.cells → b.plan.row c < r → site_in (cell_at b.program.cells c).op ≡ None → IsMade b t packet h c) (fits : ReadsFit b r h) where
  abbrev cells : List CellView
  cells = b.program.cells

  abbrev ins_at : ℕ → List ℕ
  ins_at k = (cell_at cells k).ins

  abbrev value_given : ℕ → ℕ
  value_given k = below r (b.plan.row k) (stage_value h k)

  abbrev given : ℕ → ℕ
  given k = below r (b.plan.row k) (code (pointer_in h k))

  fit : (k : ℕ) → k < length cells → is_read (cell_at cells k).op ≡ true → (t : Bool) → nat_lt (b.plan.row k) r ≡ t → (if t then stage_value h k else 0) < 2 ^ (cell_at cells k).width
  fit k l e true f = fits k l (ltb-true (b.plan.row k) r f) e
  fit k l e false f = pow_pos (cell_at cells k).width

  values : (v : ℕ → ℕ) × IsRun packet cells v × SameReads cells v value_given
  values = have packet cells value_given formed (λ k l e. fit k l e (nat_lt (b.plan.row k) r) refl)

  abbrev v : ℕ → ℕ
  v = values.0

  abbrev u : ℕ → ℕ
  u k = built v cells given (length cells) k

  -- the inputs of a cell of these rows stand before it, and in these rows too
  record IsEarly (n i : ℕ) : Type 0 where
    before : i < n
    there : i < length cells
    row : b.plan.row i < r

  inputs : (k : ℕ) → k < length cells → b.plan.row k < r → All (IsEarly k) (ins_at k)
  inputs k l low m d lm =
      let before = (formed.each k l).earlier m d lm in
      let up = rise cells b.plan.row rows k l m d lm in
      record { before = before; there = omega (arith, before, l); row = omega (arith, up, low) }

  value_below : (n k : ℕ) → k < n → k < length cells → b.plan.row k < r → v k ≡ stage_value h k
  value_below zero k lt l low = absurd (omega (arith, lt))
  value_below (suc n) k lt l low =
      by (λ m d lm. let e = inputs k l low m d lm in let before = e.before in value_below n (get_or (ins_at k) m d) (omega (arith, before, lt)) e.there e.row) (is_read (cell_at cells k).op) refl
    where
      c : CellView
      c = cell_at cells k

      by : All (λ i. v i ≡ stage_value h i) (ins_at k) → (r : Bool) → is_read (cell_at cells k).op ≡ r → v k ≡ stage_value h k
      by same true e = values.2 k l e ∙ below_is r (b.plan.row k) (stage_value h k) low
      by same false e =
          let none = none_of_plain c.op e in
          value_of_plain (is_read c.op) packet v c (v k) e (values.1.each k l)
          ∙ ap (λ xs. bits_from (number packet c.op xs) c.from c.width) (map_alike v (stage_value h) c.ins same)
          ∙ ap (λ n. bits_from n c.from c.width) (sym (number_of_plain b.program b.plan.row (b.plan.row k) t packet h c c.op none)) ∙ sym (own k l low none).value

  u_is : (k : ℕ) → k < length cells → u k ≡ gone_at v cells given u k
  u_is k l =
      built_stays v cells given (length cells) k l
      ∙ gone_same v (built v cells given k) u (ins_at k) (cell_at cells k).op (given k) (formed.each k l).enough
      (λ m d lm. let e = (formed.each k l).earlier m d lm in built_stays v cells given k (get_or (ins_at k) m d) e ∙ sym (built_stays v cells given (length cells) (get_or (ins_at k) m d) (omega (arith, e, l))))

  goes_below : (n k : ℕ) → k < n → k < length cells → b.plan.row k < r → u k ≡ code (pointer_in h k)
  goes_below zero k lt l low = absurd (omega (arith, lt))
  goes_below (suc n) k lt l low =
      u_is k l
      ∙ ap (gone v u (ins_at k) (cell_at cells k).op) (below_is r (b.plan.row k) (code (pointer_in h k)) low)
      ∙ gone_held code is_code v u h b.program b.plan.row (b.plan.row k) t (cell_at cells k) (cell_at cells k).op (pointer_in h k) (formed.each k l).enough
      (λ m d lm.
      let e = inputs k l low m d lm in
      let before = e.before in
      let i = get_or (ins_at k) m d in
      record { value = value_below n i (omega (arith, before, lt)) e.there e.row; goes = goes_below n i (omega (arith, before, lt)) e.there e.row })
      (λ none. (own k l low none).pointer)

  pub completed : IsCompleted code b packet h r
  completed = record {
    v = v;
    u = u;
    run = values.1;
    followed = record { each = λ k l. goes_is v u (ins_at k) (cell_at cells k).op (given k) (u k) (u_is k l) };
    value = λ c l low. value_below (suc c) c (omega arith) l low;
    goes = λ c l low. goes_below (suc c) c (omega arith) l low;
    later = λ c l e high. u_is c l ∙ gone_read v u (ins_at c) (cell_at cells c).op (given c) e ∙ not_below r (b.plan.row c) (code (pointer_in h c)) high;
  }
