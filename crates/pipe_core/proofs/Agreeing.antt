-- What packets hold of reads.
use Rattle.std.proofs.Common.{◌≡◌, ◌≢◌, ℕ, suc, ◌+◌, ◌<◌, ◌≤◌, ◌⊎◌, inl, inr, Bool, true, false, List, [], ◌∷◌, Option, Some, None, length, get_or, drop, refl, sym, ap, ◌∙◌, subst, arith, not, length-set, get_or-set_other, get_or-set_same}
use Rattle.std.specs.Prelude.{if◌then◌else◌, nat_lt, nat_le, ◌==◌, ◌^◌, ◌/◌, ◌&&◌, ◌||◌, All}
use Rattle.std.proofs.lemmas.Bool.Decides.{nat_tests, Decides-eqb}
use Rattle.std.proofs.lemmas.Bool.{cases_lt, or_parts}
use Rattle.std.proofs.lemmas.Nat.{pow_pos}
use Rattle.std.proofs.Math.Nat.{mod-lt}
use Rattle.realization.proofs.list_laws_laws.ListLaws.{map_alike}
use Rattle.hazard_core.specs.xdp_machine.State.{PacketIn}
use Rattle.hazard_core.specs.cell_core.declared.operator.Operator.{Operator}
use Rattle.hazard_core.specs.cell_core.declared.operator.Operator.TheVariants.{Found, Answer, Wire, Phi}
use Rattle.hazard_core.specs.cell_core.Cells.{CellView, cell_at, no_cell, site_in, number, bits_from, bit, on}
use Rattle.hazard_core.specs.cell_core.Formed.{takes}
use Rattle.hazard_core.specs.cell_core.Sites.{SiteView, site_at}
use Rattle.hazard_core.specs.cell_core.Rows.{RowsRise}
use Rattle.hazard_core.proofs.cell_core_laws.NumberLaws.{marked_of}
use Rattle.hazard_core.specs.Tables.{TableState}
use Rattle.hazard_core.specs.declared.pointer.Pointer.{Pointer}
use Rattle.hazard_core.specs.declared.pointer.Pointer.TheVariants.{Null}
use Rattle.hazard_core.specs.StageValues.{StageValues, is_null, stage_value, with_cell, guard_on}
use Rattle.hazard_core.specs.Rows.{cell_number, cell_pointer, with_made, made_from, with_row}
use Rattle.hazard_core.specs.Marks.{known_off}
use Rattle.hazard_core.specs.Keeping.{SameCell, AreAlike, LooksBelow, ReadsKeep}
use Rattle.hazard_core.proofs.HeldLaws.{phi_same, same_trans}
use Rattle.pipe_core.specs.Machine.{Build, packet_of, marked_at, with_kept_marks, entered}
use Rattle.pipe_core.specs.Agreement.{ReadsArePlanned, ReadsFit, IsMade, excused_as, off_below, EnteringAgrees}
use Rattle.pipe_core.proofs.Computing.{drop_next}

-- ---- a cell is made the same from the same inputs

pub record MadeSame (b : Build) (r : ℕ) (t : TableState) (packet : PacketIn) (h g : StageValues) (c : CellView) (op : Operator) : Type 0 where
  pub number : cell_number b.program b.plan.row r t packet h c op ≡ cell_number b.program b.plan.row r t packet g c op
  pub pointer : cell_pointer b.program b.plan.row r t h c op ≡ cell_pointer b.program b.plan.row r t g c op

pub made_same : (keep : ReadsKeep) (b : Build) (r : ℕ) (t : TableState) (packet : PacketIn) (h g : StageValues) (c : CellView) (op : Operator) → AreAlike b.program b.plan.row r h g →
    All (λ i. SameCell h g i) c.ins → takes op ≤ length c.ins → ((j : ℕ) → site_in op ≡ Some j → LooksBelow b.plan.row r (site_at b.program.sites j)) → MadeSame b r t packet h g c op
made_same keep b r t packet h g c (Found j) alike ins enough below =
    let k = keep b.program b.plan.row r j t h g alike (below j refl) in
    record { number = ap (λ (q : Pointer). bit (not (is_null q))) k.0; pointer = k.0 }
made_same keep b r t packet h g c (Answer j) alike ins enough below = record { number = (keep b.program b.plan.row r j t h g alike (below j refl)).1; pointer = refl }
made_same keep b r t packet h g c Wire alike ins enough below = record {
  number = ap (λ (xs : List ℕ). number packet Wire xs) (map_alike (stage_value h) (stage_value g) c.ins (λ i d l. (ins i d l).value));
  pointer = (ins 0 0 (omega (arith, enough))).pointer;
}
made_same keep b r t packet h g c Phi alike ins enough below = record {
  number = ap (λ (xs : List ℕ). number packet Phi xs) (map_alike (stage_value h) (stage_value g) c.ins (λ i d l. (ins i d l).value));
  pointer = phi_same h g c.ins ins;
}
made_same keep b r t packet h g c op alike ins enough below = record {
  number = ap (λ (xs : List ℕ). number packet op xs) (map_alike (stage_value h) (stage_value g) c.ins (λ i d l. (ins i d l).value));
  pointer = refl;
}

-- a cell that was made stays so where the packet holds the same of it and of its inputs
stays_made : (keep : ReadsKeep) (b : Build) → ReadsArePlanned b → (t : TableState) (packet : PacketIn) (h g : StageValues) (c : ℕ) → c < length b.program.cells → AreAlike b.program b.plan.row (b.plan.row c) h g →
    All (λ i. SameCell h g i) (cell_at b.program.cells c).ins → SameCell h g c → IsMade b t packet h c → IsMade b t packet g c
stays_made keep b plan t packet h g c l alike ins same m =
    let d = cell_at b.program.cells c in
    let q = made_same keep b (b.plan.row c) t packet h g d d.op alike ins (plan.planned.formed.each c l).enough (λ j e. plan.below c j l e) in
    record {
      value = sym same.value ∙ m.value ∙ ap (λ n. bits_from n d.from d.width) q.number;
      pointer = sym same.pointer ∙ m.pointer ∙ q.pointer;
    }

-- setting another cell
pub set_same : (h : StageValues) (k x : ℕ) (p : Pointer) (c : ℕ) → c ≢ k → SameCell h (with_cell h k x p) c
set_same h k x p c other = record { value = sym (get_or-set_other h.values k c x 0 other); pointer = sym (get_or-set_other h.pointers k c p Null other) }

record AllMade (b : Build) (t : TableState) (packet : PacketIn) (r k : ℕ) (h : StageValues) : Type 0 where
  values : length h.values ≡ length b.program.cells
  pointers : length h.pointers ≡ length b.program.cells
  each : (c : ℕ) → c < length b.program.cells → (b.plan.row c ≡ r) × (c < k) → IsMade b t packet h c

made_step : (keep : ReadsKeep) (b : Build) → ReadsArePlanned b → (t : TableState) (packet : PacketIn) (r k x : ℕ) (p : Pointer) (h : StageValues) → k < length b.program.cells → b.plan.row k ≡ r →
    x ≡ bits_from (cell_number b.program b.plan.row r t packet h (cell_at b.program.cells k) (cell_at b.program.cells k).op) (cell_at b.program.cells k).from (cell_at b.program.cells k).width →
    p ≡ cell_pointer b.program b.plan.row r t h (cell_at b.program.cells k) (cell_at b.program.cells k).op →
    AllMade b t packet r k h → AllMade b t packet r (suc k) (with_cell h k x p)
made_step keep b plan t packet r k x p h in_range here is_value is_pointer m = record {
  values = length-set h.values k x ∙ m.values;
  pointers = length-set h.pointers k p ∙ m.pointers;
  each = λ c l there. elim (cases_lt c k) [
    | inl before ↦ stays_made keep b plan t packet h g c l (alike c (there.0)) (λ i d n. set_same h k x p (get_or (cell_at b.program.cells c).ins i d) (λ e. let up = (plan.planned.formed.each c l).earlier i d n in omega (arith, up, e, before)))
        (set_same h k x p c (λ e. omega arith)) (m.each c l (there.0, before))
    | inr after ↦ own c (omega (arith, there.1, after))
  ];
}
  where
    g : StageValues
    g = with_cell h k x p

    alike : (c : ℕ) → b.plan.row c ≡ r → AreAlike b.program b.plan.row (b.plan.row c) h g
    alike c e i (inl lower) = set_same h k x p i (λ q. let s : b.plan.row i ≡ b.plan.row k = ap b.plan.row q in omega (arith, s, here, e, lower))
    alike c e i (inr past) = set_same h k x p i (λ q. omega (arith, q, past, in_range))

    own : (c : ℕ) → c ≡ k → IsMade b t packet g c
    own c e = subst (IsMade b t packet g) (sym e) (
        let d = cell_at b.program.cells k in
        let q = made_same keep b (b.plan.row k) t packet h g d d.op (alike k here)
        (λ i y n. set_same h k x p (get_or d.ins i y) (λ e. let up = (plan.planned.formed.each k in_range).earlier i y n in omega (arith, up, e)))
        (plan.planned.formed.each k in_range).enough (λ j e. plan.below k j in_range e) in
        record {
          value = get_or-set_same h.values k x 0 (omega (arith, in_range, m.values)) ∙ is_value
              ∙ ap (λ r. bits_from (cell_number b.program b.plan.row r t packet h d d.op) d.from d.width) (sym here) ∙ ap (λ n. bits_from n d.from d.width) q.number;
          pointer = get_or-set_same h.pointers k p Null (omega (arith, in_range, m.pointers)) ∙ is_pointer
              ∙ ap (λ r. cell_pointer b.program b.plan.row r t h d d.op) (sym here) ∙ q.pointer;
        })

made_past : (b : Build) (t : TableState) (packet : PacketIn) (r k : ℕ) (h : StageValues) → (b.plan.row k ≡ r → ⊥) → AllMade b t packet r k h → AllMade b t packet r (suc k) h
made_past b t packet r k h apart m = record {
  values = m.values;
  pointers = m.pointers;
  each = λ c l there. elim (cases_lt c k) [
    | inl before ↦ m.each c l (there.0, before)
    | inr after ↦ let e : c ≡ k = omega (arith, there.1, after) in absurd (apart (sym (ap b.plan.row e) ∙ there.0))
  ];
}

row_made : (keep : ReadsKeep) (b : Build) → ReadsArePlanned b → (t : TableState) (packet : PacketIn) (r k : ℕ) (cs : List CellView) (h : StageValues) → drop k b.program.cells ≡ cs → k + length cs ≡ length b.program.cells →
    AllMade b t packet r k h → AllMade b t packet r (length b.program.cells) (made_from b.program b.plan.row r t packet k cs h)
row_made keep b plan t packet r k [] h e n m = subst (λ j. AllMade b t packet r j h) (omega (arith, n)) m
row_made keep b plan t packet r k (c ∷ cs) h e n m =
    let q = drop_next k b.program.cells c cs no_cell e in
    row_made keep b plan t packet r (suc k) cs (with_made b.program b.plan.row r t packet h k c) q.2 (omega (arith, n)) (one (b.plan.row k == r) refl q.0 q.1)
  where
    x : ℕ
    x = bits_from (cell_number b.program b.plan.row r t packet h c c.op) c.from c.width

    p : Pointer
    p = cell_pointer b.program b.plan.row r t h c c.op

    one : (here : Bool) → (b.plan.row k == r) ≡ here → cell_at b.program.cells k ≡ c → k < length b.program.cells → AllMade b t packet r (suc k) (if here then with_cell h k x p else h)
    one true here same l = made_step keep b plan t packet r k x p h l ((Decides-eqb (b.plan.row k) r).0 here)
        (ap (λ (d : CellView). bits_from (cell_number b.program b.plan.row r t packet h d d.op) d.from d.width) (sym same)) (ap (λ (d : CellView). cell_pointer b.program b.plan.row r t h d d.op) (sym same)) m
    one false here same l = made_past b t packet r k h (λ e. no_case (sym here ∙ (Decides-eqb (b.plan.row k) r).1 e)) m
      where
        no_case : false ≡ true → ⊥
        no_case e = cc

pub keeps_other : (b : Build) (r : ℕ) (t : TableState) (packet : PacketIn) (k : ℕ) (cs : List CellView) (h : StageValues) → k + length cs ≡ length b.program.cells → (c : ℕ) → (b.plan.row c ≢ r) ⊎ (length b.program.cells ≤ c) →
    SameCell h (made_from b.program b.plan.row r t packet k cs h) c
keeps_other b r t packet k [] h n c why = record { value = refl; pointer = refl }
keeps_other b r t packet k (d ∷ cs) h n c why =
    same_trans h (with_made b.program b.plan.row r t packet h k d) (made_from b.program b.plan.row r t packet k (d ∷ cs) h) c (one (b.plan.row k == r) refl) (keeps_other b r t packet (suc k) cs (with_made b.program b.plan.row r t packet h k d) (omega (arith, n)) c why)
  where
    x : ℕ
    x = bits_from (cell_number b.program b.plan.row r t packet h d d.op) d.from d.width

    p : Pointer
    p = cell_pointer b.program b.plan.row r t h d d.op

    apart : b.plan.row k ≡ r → (b.plan.row c ≢ r) ⊎ (length b.program.cells ≤ c) → c ≢ k
    apart here (inl other) e = other (ap b.plan.row e ∙ here)
    apart here (inr past) e = omega (arith, n, past, e)

    one : (here : Bool) → (b.plan.row k == r) ≡ here → SameCell h (if here then with_cell h k x p else h) c
    one true here = set_same h k x p c (apart ((Decides-eqb (b.plan.row k) r).0 here) why)
    one false here = record { value = refl; pointer = refl }

-- ---- a packet takes in a row

pub record Rowed (b : Build) (t : TableState) (packet : PacketIn) (r : ℕ) (h g : StageValues) : Type 0 where
  pub values : length g.values ≡ length b.program.cells
  pub pointers : length g.pointers ≡ length b.program.cells
  pub same : (c : ℕ) → (b.plan.row c < r) ⊎ (length b.program.cells ≤ c) → SameCell h g c
  pub made : (c : ℕ) → c < length b.program.cells → b.plan.row c ≡ r → IsMade b t packet g c

pub rowed : (keep : ReadsKeep) (b : Build) → ReadsArePlanned b → (t : TableState) (packet : PacketIn) (r : ℕ) (h : StageValues) → length h.values ≡ length b.program.cells → length h.pointers ≡ length b.program.cells →
    Rowed b t packet r h (with_row b.program b.plan.row r t packet h)
unfolding with_row
rowed keep b plan t packet r h v q =
    let m = row_made keep b plan t packet r 0 b.program.cells h refl (omega arith) (record { values = v; pointers = q; each = λ c l there. absurd (omega (arith, there.1)) }) in
    record {
      values = m.values;
      pointers = m.pointers;
      same = λ c why. keeps_other b r t packet 0 b.program.cells h (omega arith) c (other c why);
      made = λ c l e. m.each c l (e, l);
    }
  where
    other : (c : ℕ) → (b.plan.row c < r) ⊎ (length b.program.cells ≤ c) → (b.plan.row c ≢ r) ⊎ (length b.program.cells ≤ c)
    other c (inl lower) = inl (λ e. omega (arith, e, lower))
    other c (inr past) = inr past

-- what is made in a row fits, and so does what is kept
row_fits : (b : Build) (t : TableState) (packet : PacketIn) (r : ℕ) (h g : StageValues) → Rowed b t packet r h g → ReadsFit b r h → ReadsFit b (suc r) g
row_fits b t packet r h g w fits c l low read =
    let d = cell_at b.program.cells c in
    elim (cases_lt (b.plan.row c) r) [
      | inl before ↦ subst (λ n. n < 2 ^ d.width) (w.same c (inl before)).value (fits c l before read)
      | inr after ↦
          let m = w.made c l (omega (arith, low, after)) in
          let n = cell_number b.program b.plan.row (b.plan.row c) t packet g d d.op in
          subst (λ x. x < 2 ^ d.width) (sym m.value) (mod-lt (n / 2 ^ d.from) (pow_pos d.width))
    ]

pub le_lt : (a k : ℕ) → nat_le a k ≡ nat_lt a (suc k)
le_lt a k = by (nat_le a k) (nat_lt a (suc k)) refl refl
  where
    by : (c d : Bool) → nat_le a k ≡ c → nat_lt a (suc k) ≡ d → c ≡ d
    by true true e f = refl
    by false false e f = refl
    by true false e f = let m : a ≤ k = grind (arith, nat_tests) in let n : suc k ≤ a = grind (arith, nat_tests) in absurd (omega arith)
    by false true e f = let m : k < a = grind (arith, nat_tests) in let n : a < suc k = grind (arith, nat_tests) in absurd (omega arith)

-- a mark that is not kept was none, or its guard is known as 0
excused_before : (row : ℕ → ℕ) (k : ℕ) (h g : StageValues) (s : SiteView) (mark : Bool) → (row s.guard < k → stage_value h s.guard ≡ stage_value g s.guard) →
    (mark && not (known_off row k g s)) || off_below row (suc k) g s ≡ false → mark || off_below row k h s ≡ false
excused_before row k h g s mark same e =
    let q = or_parts (mark && not (known_off row k g s)) (off_below row (suc k) g s) e in
    let off : known_off row k g s ≡ false = ap (λ b. b && not (guard_on g s)) (le_lt (row s.guard) k) ∙ q.1 in
    let none : mark ≡ false = kept mark (known_off row k g s) off q.0 in
    ap (λ b. b || off_below row k h s) none ∙ by (nat_lt (row s.guard) k) refl
  where
    kept : (a b : Bool) → b ≡ false → a && not b ≡ false → a ≡ false
    kept true false e f = cc
    kept true true e f = cc
    kept false b e f = refl

    by : (c : Bool) → nat_lt (row s.guard) k ≡ c → c && not (guard_on h s) ≡ false
    by false f = refl
    by true f =
        let l : row s.guard < k = grind (arith, nat_tests) in
        let m : nat_lt (row s.guard) (suc k) ≡ true = sym (le_lt (row s.guard) k) ∙ at_most (nat_le (row s.guard) k) refl l in
        let q = or_parts (mark && not (known_off row k g s)) (off_below row (suc k) g s) e in
        let u : not (guard_on g s) ≡ false = sym (ap (λ b. b && not (guard_on g s)) m) ∙ q.1 in
        ap (λ (n : ℕ). not (on n)) (same l) ∙ u
      where
        at_most : (c : Bool) → nat_le (row s.guard) k ≡ c → row s.guard < k → nat_le (row s.guard) k ≡ true
        at_most true e l = e
        at_most false e l = let m : k < row s.guard = grind (arith, nat_tests) in absurd (omega arith)

pub entering : (keep : ReadsKeep) (rise : RowsRise) → EnteringAgrees
unfolding entered
entering keep rise b plan t came k x a =
    let packet = packet_of came in
    let w = rowed keep b plan t packet k x.held a.values a.pointers in
    record {
      values = w.values;
      pointers = w.pointers;
      fit = row_fits b t packet k x.held (with_row b.program b.plan.row k t packet x.held) w a.fit;
      each = λ c l lower free. elim (cases_lt (b.plan.row c) k) [
        | inl before ↦
            stays_made keep b plan t packet x.held (with_row b.program b.plan.row k t packet x.held) c l (alike w.same c before)
            (λ i d n. w.same (get_or (cell_at b.program.cells c).ins i d) (inl (let up = rise b.program.cells b.plan.row plan.planned.rows c l i d n in omega (arith, up, before))))
            (w.same c (inl before)) (a.each c l before (free_before w.same c l (site_in (cell_at b.program.cells c).op) refl free))
        | inr after ↦ w.made c l (omega (arith, lower, after))
      ];
    }
  where
    g : StageValues
    g = with_row b.program b.plan.row k t (packet_of came) x.held

    alike : ((c : ℕ) → (b.plan.row c < k) ⊎ (length b.program.cells ≤ c) → SameCell x.held g c) → (c : ℕ) → b.plan.row c < k → AreAlike b.program b.plan.row (b.plan.row c) x.held g
    alike same c lower i (inl l) = same i (inl (omega (arith, l, lower)))
    alike same c lower i (inr past) = same i (inr past)

    free_before : ((c : ℕ) → (b.plan.row c < k) ⊎ (length b.program.cells ≤ c) → SameCell x.held g c) → (c : ℕ) → c < length b.program.cells → (o : Option ℕ) → site_in (cell_at b.program.cells c).op ≡ o →
        excused_as b (suc k) (with_kept_marks b k g x) o ≡ false → excused_as b k x o ≡ false
    free_before same c l None e free = refl
    free_before same c l (Some j) e free =
        let s = site_at b.program.sites j in
        let m : marked_at (with_kept_marks b k g x) j ≡ marked_at x j && not (known_off b.plan.row k g s) = marked_of (λ j. marked_at x j && not (known_off b.plan.row k g (site_at b.program.sites j))) (length b.program.sites) j (plan.sites c j l e) in
        excused_before b.plan.row k x.held g s (marked_at x j) (λ lower. (same s.guard (inl lower)).value) (ap (λ b'. b' || off_below b.plan.row (suc k) g s) (sym m) ∙ free)
