-- One cell more, and more of them.
use Rattle.std.proofs.Common.{◌≡◌, ℕ, ◌+◌, ◌<◌, ◌≤◌, ◌⊎◌, inl, inr, true, false, Some, List, [], ◌∷◌, ◌++◌, length, length-append, refl, sym, ◌∙◌, ap, subst, arith}
use Rattle.std.specs.Prelude.{slice_index, All, Contains}
use Rattle.std.proofs.Math.ListN.{get_or-append}
use Rattle.std.proofs.Math.Seq.{get_or-append_seam}
use Rattle.std.proofs.lemmas.Bool.{cases_lt}
use Rattle.cell_core.specs.xdp_machine.State.{PacketIn}
use Rattle.cell_core.specs.declared.cell.Cell.{Cell}
use Rattle.cell_core.specs.declared.operator.Operator.{Operator}
use Rattle.cell_core.specs.Cells.{CellView, IsRun, no_cell, cell_at, is_read, site_in, value, Solves_as}
use Rattle.cell_core.specs.Formed.{AreFormed, IsFormed, IsSome, takes, divides, AreInputs, IsInRange}
use Rattle.cell_core.specs.View.{cell_of}
use Rattle.operator_cells.specs.Making.{seen, Adds, IsAlone, NumbersAreAlone, GrowsWith, Grows, Makes, operated}
use Rattle.operator_cells.proofs.MakingLaws as law
use Rattle.operator_cells.proofs.SeenLaws.{seen_length}

pub old-cell : (cells : List CellView) (cell : CellView) (k : ℕ) → k < length cells → cell_at (cells ++ cell ∷ []) k ≡ cell_at cells k
old-cell cells cell k h = get_or-append cells (cell ∷ []) no_cell k h

pub new-cell : (cells : List CellView) (cell : CellView) → cell_at (cells ++ cell ∷ []) (length cells) ≡ cell
new-cell cells cell = get_or-append_seam cells cell [] no_cell

pub one-longer : (cells : List CellView) (cell : CellView) → length (cells ++ cell ∷ []) ≡ length cells + 1
one-longer cells cell = length-append cells (cell ∷ [])

-- a cell that may stand after others
pub record IsNext (cells : List CellView) (cell : CellView) : Type 0 where
  pub earlier : All (λ i. i < length cells) cell.ins
  pub enough : takes cell.op ≤ length cell.ins
  pub inputs : AreInputs cell.op cell.ins
  pub alone : IsAlone cell.op cell.ins
  pub in_range : IsInRange cell.op
  pub width : cell.width ≤ 64
  pub from : cell.from ≤ 63
  pub divisor : AreFormed cells → divides cell.op ≡ true → (slice_index cell.ins 1 < length cells) × IsSome cells (slice_index cell.ins 1)
  pub later : divides cell.op ≡ true → Contains (cell_at cells (slice_index cell.ins 1)).ins (slice_index cell.ins 0)

some-stays : (cells : List CellView) (cell : CellView) (d : ℕ) → AreFormed cells → d < length cells → IsSome cells d → IsSome (cells ++ cell ∷ []) d
some-stays cells cell d formed h some = let e = old-cell cells cell d h in record {
  op = ap (λ (c : CellView). c.op) e ∙ some.op;
  from = ap (λ (c : CellView). c.from) e ∙ some.from;
  wide = subst (λ (c : CellView). 1 ≤ c.width) (sym e) some.wide;
  fits = let i : ℕ = slice_index (cell_at cells d).ins 0 in
      let same : slice_index (cell_at (cells ++ cell ∷ []) d).ins 0 ≡ i = ap (λ (c : CellView). slice_index c.ins 0) e in
      let enough : 1 ≤ length (cell_at cells d).ins = subst (λ (op : Operator). takes op ≤ length (cell_at cells d).ins) some.op (formed.each d h).enough in
      let inside : i < length cells = omega (arith, h, (formed.each d h).earlier 0 0 (omega (arith, enough))) in
      let f = old-cell cells cell i inside in
      subst (λ (j : ℕ). (cell_at (cells ++ cell ∷ []) j).width ≤ (cell_at (cells ++ cell ∷ []) d).width) (sym same)
      (subst (λ (c : CellView). c.width ≤ (cell_at (cells ++ cell ∷ []) d).width) (sym f)
      (subst (λ (c : CellView). (cell_at cells i).width ≤ c.width) (sym e) some.fits));
}

formed-old : (cells : List CellView) (cell : CellView) (k : ℕ) → AreFormed cells → k < length cells → IsFormed (cells ++ cell ∷ []) k
formed-old cells cell k formed h = let e = old-cell cells cell k h in let f = formed.each k h in record {
  earlier = subst (λ (c : CellView). All (λ i. i < k) c.ins) (sym e) f.earlier;
  enough = subst (λ (c : CellView). takes c.op ≤ length c.ins) (sym e) f.enough;
  inputs = subst (λ (c : CellView). AreInputs c.op c.ins) (sym e) f.inputs;
  in_range = subst (λ (c : CellView). IsInRange c.op) (sym e) f.in_range;
  width = subst (λ (c : CellView). c.width ≤ 64) (sym e) f.width;
  from = subst (λ (c : CellView). c.from ≤ 63) (sym e) f.from;
  divisor = subst (λ (c : CellView). divides c.op ≡ true → IsSome (cells ++ cell ∷ []) (slice_index c.ins 1)) (sym e)
      (λ t. some-stays cells cell (slice_index (cell_at cells k).ins 1) formed (below t) (f.divisor t));
  later = subst (λ (c : CellView). divides c.op ≡ true → Contains (cell_at (cells ++ cell ∷ []) (slice_index c.ins 1)).ins (slice_index c.ins 0)) (sym e)
      (λ t. subst (λ (d : CellView). Contains d.ins (slice_index (cell_at cells k).ins 0)) (sym (old-cell cells cell (slice_index (cell_at cells k).ins 1) (below t))) (f.later t));
}
  where
    two : (op : Operator) → divides op ≡ true → 2 ≤ takes op
    two Operator.Quotient t = omega arith
    two Operator.Remainder t = omega arith
    two op t = absurd (cc)

    below : divides (cell_at cells k).op ≡ true → slice_index (cell_at cells k).ins 1 < length cells
    below t = omega (arith, h, (formed.each k h).earlier 1 0 (omega (arith, two (cell_at cells k).op t, (formed.each k h).enough)))

formed-new : (cells : List CellView) (cell : CellView) → AreFormed cells → IsNext cells cell → IsFormed (cells ++ cell ∷ []) (length cells)
formed-new cells cell formed n = let e = new-cell cells cell in record {
  earlier = subst (λ (c : CellView). All (λ i. i < length cells) c.ins) (sym e) n.earlier;
  enough = subst (λ (c : CellView). takes c.op ≤ length c.ins) (sym e) n.enough;
  inputs = subst (λ (c : CellView). AreInputs c.op c.ins) (sym e) n.inputs;
  in_range = subst (λ (c : CellView). IsInRange c.op) (sym e) n.in_range;
  width = subst (λ (c : CellView). c.width ≤ 64) (sym e) n.width;
  from = subst (λ (c : CellView). c.from ≤ 63) (sym e) n.from;
  divisor = subst (λ (c : CellView). divides c.op ≡ true → IsSome (cells ++ cell ∷ []) (slice_index c.ins 1)) (sym e)
      (λ t. let d = n.divisor formed t in some-stays cells cell (slice_index cell.ins 1) formed d.0 d.1);
  later = subst (λ (c : CellView). divides c.op ≡ true → Contains (cell_at (cells ++ cell ∷ []) (slice_index c.ins 1)).ins (slice_index c.ins 0)) (sym e)
      (λ t. subst (λ (d : CellView). Contains d.ins (slice_index cell.ins 0)) (sym (old-cell cells cell (slice_index cell.ins 1) (n.divisor formed t).0)) (n.later t));
}

pub grows_one : (R : ℕ → ℕ → Type 0) (cells : List CellView) (cell : CellView) → IsNext cells cell → ((j : ℕ) → site_in cell.op ≡ Some j → R (length cells) j)
    → GrowsWith R cells (cells ++ cell ∷ [])
grows_one R cells cell n reads = record {
  longer = omega (arith, one-longer cells cell);
  kept = old-cell cells cell;
  formed = λ formed. record { each = λ k h. by formed k (cases_lt k (length cells)) h };
  alone = λ alone k h. still alone k (cases_lt k (length cells)) h;
  run = λ packet v r. record { each = λ k h. subst (λ (c : CellView). Solves_as (is_read c.op) packet v c (v k)) (old-cell cells cell k h) (r.each k (omega (arith, one-longer cells cell, h))) };
  reads = λ k j low high is. let at : length cells ≡ k = omega (arith, low, high, one-longer cells cell) in
      subst (λ (i : ℕ). R i j) at (reads j (sym (ap (λ (c : CellView). site_in c.op) (new-cell cells cell)) ∙ ap (λ (i : ℕ). site_in (cell_at (cells ++ cell ∷ []) i).op) at ∙ is));
}
  where
    by : AreFormed cells → (k : ℕ) → (k < length cells) ⊎ (length cells ≤ k) → k < length (cells ++ cell ∷ []) → IsFormed (cells ++ cell ∷ []) k
    by formed k (inl l) h = formed-old cells cell k formed l
    by formed k (inr l) h =
        let is : length cells ≡ k = omega (arith, l, h, one-longer cells cell) in
        subst (λ (j : ℕ). IsFormed (cells ++ cell ∷ []) j) is (formed-new cells cell formed n)

    still : NumbersAreAlone cells → (k : ℕ) → (k < length cells) ⊎ (length cells ≤ k) → k < length (cells ++ cell ∷ [])
        → IsAlone (cell_at (cells ++ cell ∷ []) k).op (cell_at (cells ++ cell ∷ []) k).ins
    still alone k (inl l) h = subst (λ (c : CellView). IsAlone c.op c.ins) (sym (old-cell cells cell k l)) (alone k l)
    still alone k (inr l) h =
        let is : length cells ≡ k = omega (arith, l, h, one-longer cells cell) in
        subst (λ (j : ℕ). IsAlone (cell_at (cells ++ cell ∷ []) j).op (cell_at (cells ++ cell ∷ []) j).ins) is
        (subst (λ (c : CellView). IsAlone c.op c.ins) (sym (new-cell cells cell)) n.alone)

-- a cell that reads no map has the value of its operator
pub value_at : (packet : PacketIn) (v : ℕ → ℕ) (cells : List CellView) (cell : CellView) (k : ℕ) → k < length cells → cell_at cells k ≡ cell → is_read cell.op ≡ false → IsRun packet cells v
    → v k ≡ value packet v cell
value_at packet v cells cell k there is plain r = solved (subst (λ (c : CellView). Solves_as (is_read c.op) packet v c (v k)) is (r.each k there))
  where
    solved : Solves_as (is_read cell.op) packet v cell (v k) → v k ≡ value packet v cell
    solved h = rw plain at h

pub makes_one : (cells : List CellView) (cell : CellView) → IsNext cells cell → is_read cell.op ≡ false
    → Makes cells (cells ++ cell ∷ []) (length cells) (operated cell.op cell.ins cell.from cell.width)
makes_one cells cell n plain = record {
  grows = grows_one (λ k j. ⊥) cells cell n (unread cell.op plain);
  there = omega (arith, one-longer cells cell);
  value = λ packet v r. value_at packet v (cells ++ cell ∷ []) cell (length cells) (omega (arith, one-longer cells cell)) (new-cell cells cell) plain r;
}
  where
    unread : (op : Operator) → is_read op ≡ false → (j : ℕ) → site_in op ≡ Some j → ⊥
    unread (Operator.Found s) p j e = absurd (cc)
    unread (Operator.Answer s) p j e = absurd (cc)
    unread op p j e = absurd (cc)

-- one more cell that reads at most this site
pub added_grows : (old new : List CellView) (c : ℕ) (cell : CellView) (site : ℕ) → Adds old new c cell → IsNext old cell → site_in cell.op ≡ Some site → GrowsWith (λ k j. j ≡ site) old new
added_grows old new c cell site adds n is = subst (λ (cells : List CellView). GrowsWith (λ k j. j ≡ site) old cells) (sym adds.is)
    (grows_one (λ k j. j ≡ site) old cell n (λ j e. cc))

-- a cell that was added
pub added_makes : (old new : List CellView) (c : ℕ) (cell : CellView) → Adds old new c cell → IsNext old cell → is_read cell.op ≡ false
    → Makes old new c (operated cell.op cell.ins cell.from cell.width)
added_makes old new c cell adds n plain = subst (λ (j : ℕ). Makes old new j (operated cell.op cell.ins cell.from cell.width)) (sym adds.at)
    (subst (λ (cells : List CellView). Makes old cells (length old) (operated cell.op cell.ins cell.from cell.width)) (sym adds.is) (makes_one old cell n plain))

pub grown : (a b c : List CellView) → Grows a b → Grows b c → Grows a c
grown a b c g h = law.grown g h

pub grown_none : (a : List CellView) → Grows a a
grown_none a = law.grown_none

pub seen_more : (cells : List Cell) (x : Cell) → seen (cells ++ x ∷ []) ≡ seen cells ++ cell_of x ∷ []
unfolding seen
seen_more [] x = refl
seen_more (y ∷ cells) x = ap (λ (cs : List CellView). cell_of y ∷ cs) (seen_more cells x)

pub pushed_adds : (cells more : List Cell) (x : Cell) (cell : CellView) (at : ℕ) → more ≡ cells ++ x ∷ [] → cell_of x ≡ cell → at ≡ length cells → Adds (seen cells) (seen more) at cell
pushed_adds cells more x cell at e is n = record {
  is = ap seen e ∙ seen_more cells x ∙ ap (λ (c : CellView). seen cells ++ c ∷ []) is;
  at = n ∙ sym (seen_length cells);
}

-- cells after others that were added before
pub makes_after : (a b d : List CellView) (c : ℕ) (f g : PacketIn → (ℕ → ℕ) → ℕ) → Grows a b → Makes b d c f
    → ((packet : PacketIn) (v : ℕ → ℕ) → IsRun packet b v → f packet v ≡ g packet v) → Makes a d c g
makes_after a b d c f g before made same = record {
  grows = grown a b d before made.grows;
  there = made.there;
  value = λ packet v r. made.value packet v r ∙ same packet v (made.grows.run packet v r);
}
