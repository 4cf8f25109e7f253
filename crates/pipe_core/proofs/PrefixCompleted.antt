-- What a packet holds, completed to all cells on some tables: each cell is made, in the order of numbers, but for reads off the path.
use Rattle.std.proofs.Common.{◌≡◌, ◌≢◌, ℕ, zero, suc, ◌<◌, ◌≤◌, inl, inr, Bool, true, false, List, Option, Some, None, length, refl, sym, ap, ◌∙◌, subst, arith, not, length-set, get_or-set_same}
use Rattle.std.specs.Prelude.{if◌then◌else◌, nat_lt}
use Rattle.std.proofs.lemmas.Bool.{cases_lt}
use Rattle.std.proofs.lemmas.Bool.Decides.{nat_tests}
use Rattle.hazard_core.specs.xdp_maps.declared.decl.MapDecl.{MapDecl}
use Rattle.hazard_core.specs.xdp_machine.State.{PacketIn}
use Rattle.hazard_core.specs.cell_core.Cells.{cell_at, site_in, bits_from, on}
use Rattle.hazard_core.specs.cell_core.Sites.{site_at}
use Rattle.hazard_core.specs.cell_core.Rows.{RowsRise}
use Rattle.hazard_core.specs.Tables.{TableState}
use Rattle.hazard_core.specs.declared.pointer.Pointer.{Pointer}
use Rattle.hazard_core.specs.declared.pointer.Pointer.TheVariants.{Null}
use Rattle.hazard_core.specs.StageValues.{StageValues, stage_value, pointer_in, with_cell, guard_on}
use Rattle.hazard_core.specs.Rows.{cell_number, cell_pointer}
use Rattle.hazard_core.specs.Keeping.{SameCell, ReadsKeep}
use Rattle.hazard_core.proofs.HeldLaws.{same_trans}
use Rattle.pipe_core.specs.Machine.{Build}
use Rattle.pipe_core.specs.Agreement.{IsMade}
use Rattle.pipe_core.specs.Pipeable.{IsPipelinable}
use Rattle.pipe_core.proofs.Agreeing.{set_same}
use Rattle.pipe_core.proofs.PrefixMade.{made_before}

-- whether a cell of this site, if it is a read, is one off the path
abbrev pub is_off : Build → StageValues → Option ℕ → Bool
is_off b h None = false
is_off b h (Some j) = not (guard_on h (site_at b.program.sites j))

-- cell k of the completed packet; a read off the path stays what it is in the rows below r
completed_at : Build → TableState → PacketIn → ℕ → StageValues → ℕ → StageValues
completed_at b t packet r h k =
    let c = cell_at b.program.cells k in
    if is_off b h (site_in c.op)
    then if nat_lt (b.plan.row k) r then h else with_cell h k 0 Null
    else with_cell h k (bits_from (cell_number b.program b.plan.row (b.plan.row k) t packet h c c.op) c.from c.width) (cell_pointer b.program b.plan.row (b.plan.row k) t h c c.op)

-- the cells below n completed
pub completed : Build → TableState → PacketIn → ℕ → StageValues → ℕ → StageValues
completed b t packet r h zero = h
completed b t packet r h (suc n) = completed_at b t packet r (completed b t packet r h n) n

same_sym : (h g : StageValues) (c : ℕ) → SameCell h g c → SameCell g h c
same_sym h g c s = record { value = sym s.value; pointer = sym s.pointer }

-- ---- one cell

record MadeFrom (b : Build) (t : TableState) (packet : PacketIn) (h g : StageValues) (k : ℕ) : Type 0 where
  value : stage_value g k
      ≡ bits_from (cell_number b.program b.plan.row (b.plan.row k) t packet h (cell_at b.program.cells k) (cell_at b.program.cells k).op) (cell_at b.program.cells k).from (cell_at b.program.cells k).width
  pointer : pointer_in g k ≡ cell_pointer b.program b.plan.row (b.plan.row k) t h (cell_at b.program.cells k) (cell_at b.program.cells k).op

record Step (b : Build) (t : TableState) (packet : PacketIn) (r k : ℕ) (h g : StageValues) : Type 0 where
  values : length g.values ≡ length h.values
  pointers : length g.pointers ≡ length h.pointers
  others : (c : ℕ) → c ≢ k → SameCell h g c
  made : is_off b h (site_in (cell_at b.program.cells k).op) ≡ false → k < length h.values → k < length h.pointers → MadeFrom b t packet h g k
  kept : is_off b h (site_in (cell_at b.program.cells k).op) ≡ true → b.plan.row k < r → SameCell h g k
  none : is_off b h (site_in (cell_at b.program.cells k).op) ≡ true → r ≤ b.plan.row k → k < length h.values → stage_value g k ≡ 0

step : (b : Build) (t : TableState) (packet : PacketIn) (r k : ℕ) (h : StageValues) → Step b t packet r k h (completed_at b t packet r h k)
unfolding completed_at
step b t packet r k h = by (is_off b h (site_in (cell_at b.program.cells k).op)) refl (nat_lt (b.plan.row k) r) refl
  where
    n : ℕ
    n = bits_from (cell_number b.program b.plan.row (b.plan.row k) t packet h (cell_at b.program.cells k) (cell_at b.program.cells k).op) (cell_at b.program.cells k).from (cell_at b.program.cells k).width

    q : Pointer
    q = cell_pointer b.program b.plan.row (b.plan.row k) t h (cell_at b.program.cells k) (cell_at b.program.cells k).op

    no : {x : Bool} → x ≡ true → x ≡ false → ⊥
    no e f = cc

    by : (off : Bool) → is_off b h (site_in (cell_at b.program.cells k).op) ≡ off → (held : Bool) → nat_lt (b.plan.row k) r ≡ held
        → Step b t packet r k h (if off then (if held then h else with_cell h k 0 Null) else with_cell h k n q)
    by true e true f =
        let low : b.plan.row k < r = grind (arith, nat_tests) in
        record {
          values = refl;
          pointers = refl;
          others = λ c o. record { value = refl; pointer = refl };
          made = λ g l m. absurd (no e g);
          kept = λ g l. record { value = refl; pointer = refl };
          none = λ g l m. absurd (omega (arith, l, low));
        }
    by true e false f =
        let high : r ≤ b.plan.row k = grind (arith, nat_tests) in
        record {
          values = length-set h.values k 0;
          pointers = length-set h.pointers k Null;
          others = λ c o. set_same h k 0 Null c o;
          made = λ g l m. absurd (no e g);
          kept = λ g l. absurd (omega (arith, l, high));
          none = λ g l m. get_or-set_same h.values k 0 0 m;
        }
    by false e held f = record {
      values = length-set h.values k n;
      pointers = length-set h.pointers k q;
      others = λ c o. set_same h k n q c o;
      made = λ g l m. record { value = get_or-set_same h.values k n 0 l; pointer = get_or-set_same h.pointers k q Null m };
      kept = λ g l. absurd (no g e);
      none = λ g l m. absurd (no g e);
    }

-- ---- all cells

-- what a packet held at first, and what it holds with all cells completed
pub record IsCompleted (b : Build) (t : TableState) (packet : PacketIn) (r : ℕ) (h g : StageValues) : Type 0 where
  pub values : length g.values ≡ length b.program.cells
  pub past : (c : ℕ) → length b.program.cells ≤ c → SameCell h g c
  pub made : (c : ℕ) → c < length b.program.cells → is_off b g (site_in (cell_at b.program.cells c).op) ≡ false → IsMade b t packet g c
  pub kept : (c : ℕ) → c < length b.program.cells → is_off b g (site_in (cell_at b.program.cells c).op) ≡ true → b.plan.row c < r → SameCell h g c
  pub none : (c : ℕ) → c < length b.program.cells → is_off b g (site_in (cell_at b.program.cells c).op) ≡ true → r ≤ b.plan.row c → stage_value g c ≡ 0

module _ (keep : ReadsKeep) (rise : RowsRise) (decls : List MapDecl) (b : Build) (fit : IsPipelinable decls b) (t : TableState) (packet : PacketIn) (r : ℕ) (h : StageValues) (values : length h.values ≡ length b.program.cells) (pointers : length h.pointers ≡ length b.program.cells) where
  abbrev to : ℕ → StageValues
  to n = completed b t packet r h n

  step_at : (n : ℕ) → Step b t packet r n (to n) (to (suc n))
  unfolding completed
  step_at n = step b t packet r n (to n)

  lengths : (n : ℕ) → (length (to n).values ≡ length b.program.cells) × (length (to n).pointers ≡ length b.program.cells)
  unfolding completed
  lengths zero = (values, pointers)
  lengths (suc n) = let q = lengths n in let s = step b t packet r n (to n) in (s.values ∙ q.0, s.pointers ∙ q.1)

  -- a cell stays as it was at first up to its step, and after it as that left it
  until : (c n : ℕ) → n ≤ c → SameCell h (to n) c
  unfolding completed
  until c zero l = record { value = refl; pointer = refl }
  until c (suc n) l =
      same_trans h (to n) (to (suc n)) c (until c n (omega (arith, l))) ((step b t packet r n (to n)).others c (λ e. omega (arith, e, l)))

  since : (c n m : ℕ) → c < n → n ≤ m → SameCell (to n) (to m) c
  since c n zero l up = absurd (omega (arith, l, up))
  since c n (suc m) l up = elim (cases_lt m n) [
    | inl here ↦ let e : n ≡ suc m = omega (arith, here, up) in subst (λ i. SameCell (to n) (to i) c) e (record { value = refl; pointer = refl })
    | inr below ↦ same_trans (to n) (to m) (to (suc m)) c (since c n m l below) ((step_at m).others c (λ e. omega (arith, e, l, below)))
  ]

  -- The guard of a read stands before it, so a read is off the path at its step where it is in the end.
  off_same : (c : ℕ) → c < length b.program.cells → (o : Option ℕ) → site_in (cell_at b.program.cells c).op ≡ o → is_off b (to c) o ≡ is_off b (to (length b.program.cells)) o
  off_same c l None e = refl
  off_same c l (Some j) e =
      let w = fit.sited.below c j j l e (omega arith) in
      ap (λ (n : ℕ). not (on n)) (since (site_at b.program.sites j).guard c (length b.program.cells) w.guard (omega (arith, l))).value

  off_then : (c : ℕ) → c < length b.program.cells → (off : Bool) → is_off b (to (length b.program.cells)) (site_in (cell_at b.program.cells c).op) ≡ off →
      is_off b (to c) (site_in (cell_at b.program.cells c).op) ≡ off
  off_then c l off e = off_same c l (site_in (cell_at b.program.cells c).op) refl ∙ e

  pub is_completed : IsCompleted b t packet r h (to (length b.program.cells))
  is_completed = record {
    values = (lengths (length b.program.cells)).0;
    past = λ c l. until c (length b.program.cells) l;
    made = λ c l e.
        let n = length b.program.cells in
        let d = cell_at b.program.cells c in
        let k = lengths c in
        let m = (step_at c).made (off_then c l false e) (omega (arith, l, k.0)) (omega (arith, l, k.1)) in
        let s = since c (suc c) n (omega arith) (omega (arith, l)) in
        let q = made_before keep rise decls b fit t packet (to c) (to n) c l (λ i before low. since i c n before (omega (arith, l)))
        (λ i out. same_trans (to c) h (to n) i (same_sym h (to c) i (until i c (omega (arith, l, out)))) (until i n out)) in
        record { value = sym s.value ∙ m.value ∙ ap (λ x. bits_from x d.from d.width) q.number; pointer = sym s.pointer ∙ m.pointer ∙ q.pointer };
    kept = λ c l e low.
        let n = length b.program.cells in
        same_trans h (to c) (to n) c (until c c (omega arith)) (same_trans (to c) (to (suc c)) (to n) c ((step_at c).kept (off_then c l true e) low) (since c (suc c) n (omega arith) (omega (arith, l))));
    none = λ c l e high.
        let k = lengths c in
        sym (since c (suc c) (length b.program.cells) (omega arith) (omega (arith, l))).value ∙ (step_at c).none (off_then c l true e) high (omega (arith, l, k.0));
  }
