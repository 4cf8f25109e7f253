-- The cells of a row, one after another.
use Rattle.std.proofs.Common.{◌≡◌, ◌≢◌, ℕ, zero, suc, ◌+◌, ◌<◌, ◌≤◌, ◌⊎◌, inl, inr, Bool, true, false, List, [], ◌∷◌, Some, length, get_or, drop, refl, sym, ap, ◌∙◌, subst, arith, not, length-set, get_or-set_other, get_or-set_same}
use Rattle.std.specs.Prelude.{if◌then◌else◌, ◌==◌, All}
use Rattle.std.proofs.lemmas.Bool.Decides.{Decides-eqb}
use Rattle.std.proofs.lemmas.Bool.{cases_lt}
use Rattle.list_laws.proofs.ListLaws.{map_alike}
use Rattle.cell_core.specs.xdp_machine.State.{PacketIn}
use Rattle.cell_core.specs.declared.operator.Operator.{Operator}
use Rattle.cell_core.specs.declared.operator.Operator.TheVariants.{Found, Answer, Wire, Phi}
use Rattle.cell_core.specs.Cells.{CellView, cell_at, site_in, number, bits_from, bit}
use Rattle.cell_core.specs.Formed.{takes}
use Rattle.cell_core.specs.Sites.{ProgramView, site_at}
use Rattle.hazard_core.specs.Tables.{TableState}
use Rattle.hazard_core.specs.declared.pointer.Pointer.{Pointer}
use Rattle.hazard_core.specs.declared.pointer.Pointer.TheVariants.{Null}
use Rattle.hazard_core.specs.StageValues.{StageValues, is_null, stage_value, pointer_in, with_cell}
use Rattle.hazard_core.specs.Rows.{cell_number, cell_pointer, with_made, made_from, with_row}
use Rattle.hazard_core.specs.Keeping.{SameCell, AreAlike, LooksBelow, ReadsKeep}
use Rattle.hazard_core.specs.HeldRows.Made.{AreLaid, IsCellMade, RowIsMade, RowKeeps}
use Rattle.hazard_core.proofs.HeldLaws.{phi_same, same_trans}

-- the next of the cells that are left
next_cell : (k : ℕ) (xs : List CellView) (c : CellView) (cs : List CellView) → drop k xs ≡ c ∷ cs → (cell_at xs k ≡ c) × (drop (suc k) xs ≡ cs)
next_cell zero [] c cs e = cc
next_cell zero (x ∷ xs) c cs e = (cc, cc)
next_cell (suc k) [] c cs e = cc
next_cell (suc k) (x ∷ xs) c cs e = next_cell k xs c cs e

module _ (p : ProgramView) (row : ℕ → ℕ) (r : ℕ) (t : TableState) (packet : PacketIn) where
  record MadeSame (h g : StageValues) (c : CellView) (op : Operator) : Type 0 where
    number : cell_number p row r t packet h c op ≡ cell_number p row r t packet g c op
    pointer : cell_pointer p row r t h c op ≡ cell_pointer p row r t g c op

  -- a cell is made the same from the same inputs
  made_same : (keep : ReadsKeep) (h g : StageValues) (c : CellView) (op : Operator) → AreAlike p row r h g → All (λ i. SameCell h g i) c.ins → takes op ≤ length c.ins
      → ((j : ℕ) → site_in op ≡ Some j → LooksBelow row r (site_at p.sites j)) → MadeSame h g c op
  made_same keep h g c (Found j) alike ins enough below =
      let k = keep p row r j t h g alike (below j refl) in
      record { number = ap (λ (q : Pointer). bit (not (is_null q))) k.0; pointer = k.0 }
  made_same keep h g c (Answer j) alike ins enough below = record { number = (keep p row r j t h g alike (below j refl)).1; pointer = refl }
  made_same keep h g c Wire alike ins enough below = record {
    number = ap (λ (xs : List ℕ). number packet Wire xs) (map_alike (stage_value h) (stage_value g) c.ins (λ i d l. (ins i d l).value));
    pointer = (ins 0 0 (omega (arith, enough))).pointer;
  }
  made_same keep h g c Phi alike ins enough below = record {
    number = ap (λ (xs : List ℕ). number packet Phi xs) (map_alike (stage_value h) (stage_value g) c.ins (λ i d l. (ins i d l).value));
    pointer = phi_same h g c.ins ins;
  }
  made_same keep h g c op alike ins enough below = record {
    number = ap (λ (xs : List ℕ). number packet op xs) (map_alike (stage_value h) (stage_value g) c.ins (λ i d l. (ins i d l).value));
    pointer = refl;
  }

  -- a cell that is none of the row from number k on
  abbrev Apart : ℕ → ℕ → Type 0
  Apart k c = (i : ℕ) → k ≤ i → i < length p.cells → row i ≡ r → c ≢ i

  one_keeps : (h : StageValues) (k : ℕ) (d : CellView) (c : ℕ) → (row k ≡ r → c ≢ k) → SameCell h (with_made p row r t packet h k d) c
  one_keeps h k d c apart = by (row k == r) refl
    where
      x : ℕ
      x = bits_from (cell_number p row r t packet h d d.op) d.from d.width

      q : Pointer
      q = cell_pointer p row r t h d d.op

      by : (here : Bool) → (row k == r) ≡ here → SameCell h (if here then with_cell h k x q else h) c
      by true here =
          let other = apart ((Decides-eqb (row k) r).0 here) in
          record { value = sym (get_or-set_other h.values k c x 0 other); pointer = sym (get_or-set_other h.pointers k c q Null other) }
      by false here = record { value = refl; pointer = refl }

  rest_keeps : (k : ℕ) (cs : List CellView) (h : StageValues) → k + length cs ≡ length p.cells → (c : ℕ) → Apart k c → SameCell h (made_from p row r t packet k cs h) c
  rest_keeps k [] h n c apart = record { value = refl; pointer = refl }
  rest_keeps k (d ∷ cs) h n c apart =
      let g = with_made p row r t packet h k d in
      same_trans h g (made_from p row r t packet (suc k) cs g) c (one_keeps h k d c (apart k (omega arith) (omega (arith, n)))) (rest_keeps (suc k) cs g (omega (arith, n)) c (λ i l. apart i (omega arith)))

  record Counts (h : StageValues) : Type 0 where
    values : length h.values ≡ length p.cells
    pointers : length h.pointers ≡ length p.cells

  one_counts : (h : StageValues) (k : ℕ) (d : CellView) → Counts h → Counts (with_made p row r t packet h k d)
  one_counts h k d n = by (row k == r)
    where
      x : ℕ
      x = bits_from (cell_number p row r t packet h d d.op) d.from d.width

      q : Pointer
      q = cell_pointer p row r t h d d.op

      by : (here : Bool) → Counts (if here then with_cell h k x q else h)
      by true = record { values = length-set h.values k x ∙ n.values; pointers = length-set h.pointers k q ∙ n.pointers }
      by false = n

  -- the next cell, made in the row: what is made after it leaves it and all that it takes
  next_made : (keep : ReadsKeep) → AreLaid p row → (k : ℕ) (d : CellView) (cs : List CellView) (h : StageValues) → cell_at p.cells k ≡ d → k + length (d ∷ cs) ≡ length p.cells → Counts h → row k ≡ r
      → IsCellMade p row r t packet (made_from p row r t packet k (d ∷ cs) h) k
  next_made keep laid k d cs h e n counts here = record {
    value =
        sym after.value ∙ set.0 ∙ ap (λ (v : CellView). bits_from (cell_number p row r t packet h v v.op) v.from v.width) (sym e)
        ∙ ap (λ m. bits_from m c.from c.width) same.number;
    pointer = sym after.pointer ∙ set.1 ∙ ap (λ (v : CellView). cell_pointer p row r t h v v.op) (sym e) ∙ same.pointer;
  }
    where
      c : CellView
      c = cell_at p.cells k

      in_range : k < length p.cells
      in_range = omega (arith, n)

      x : ℕ
      x = bits_from (cell_number p row r t packet h d d.op) d.from d.width

      q : Pointer
      q = cell_pointer p row r t h d d.op

      f : StageValues
      f = with_made p row r t packet h k d

      g : StageValues
      g = made_from p row r t packet k (d ∷ cs) h

      set : (stage_value f k ≡ x) × (pointer_in f k ≡ q)
      set = subst (λ (b : Bool). (stage_value (if b then with_cell h k x q else h) k ≡ x) × (pointer_in (if b then with_cell h k x q else h) k ≡ q)) (sym ((Decides-eqb (row k) r).1 here))
          (get_or-set_same h.values k x 0 (omega (arith, in_range, counts.values)), get_or-set_same h.pointers k q Null (omega (arith, in_range, counts.pointers)))

      after : SameCell f g k
      after = rest_keeps (suc k) cs f (omega (arith, n)) k (λ i l m s. omega arith)

      alike : AreAlike p row r h g
      alike i (inl lower) = rest_keeps k (d ∷ cs) h n i (λ j l m here o. let at : row i ≡ row j = ap row o in omega (arith, at, here, lower))
      alike i (inr past) = rest_keeps k (d ∷ cs) h n i (λ j l m s o. omega (arith, past, m, o))

      formed : All (λ i. i < k) c.ins
      formed = (laid.formed.each k in_range).earlier

      same : MadeSame h g c c.op
      same = made_same keep h g c c.op alike (λ i y l. rest_keeps k (d ∷ cs) h n (get_or c.ins i y) (λ j m s w o. let before = formed i y l in omega (arith, before, m, o)))
          (laid.formed.each k in_range).enough (λ j s. subst (λ m. LooksBelow row m (site_at p.sites j)) here (laid.below k j in_range s))

  all_made : (keep : ReadsKeep) → AreLaid p row → (k : ℕ) (cs : List CellView) (h : StageValues) → drop k p.cells ≡ cs → k + length cs ≡ length p.cells → Counts h
      → (c : ℕ) → k ≤ c → c < length p.cells → row c ≡ r → IsCellMade p row r t packet (made_from p row r t packet k cs h) c
  all_made keep laid k [] h e n counts c from l here = absurd (omega (arith, n))
  all_made keep laid k (d ∷ cs) h e n counts c from l here =
      let s = next_cell k p.cells d cs e in
      elim (cases_lt k c) [
        | inl past ↦ all_made keep laid (suc k) cs (with_made p row r t packet h k d) s.1 (omega (arith, n)) (one_counts h k d counts) c past l here
        | inr now ↦
            let k_is : k ≡ c = omega (arith, from, now) in
            subst (IsCellMade p row r t packet (made_from p row r t packet k (d ∷ cs) h)) k_is (next_made keep laid k d cs h s.0 n counts (ap row k_is ∙ here))
      ]

pub row_is_made : (keep : ReadsKeep) → RowIsMade
unfolding with_row
row_is_made keep p row r t packet h laid values pointers = record {
  each = λ c l here. all_made p row r t packet keep laid 0 p.cells h refl (omega arith) (record { values = values; pointers = pointers }) c (omega arith) l here;
}

pub row_keeps : RowKeeps
unfolding with_row
row_keeps p row r t packet h c why = rest_keeps p row r t packet 0 p.cells h (omega arith) c (λ i l m here e. by why i m here e)
  where
    by : (row c ≢ r) ⊎ (length p.cells ≤ c) → (i : ℕ) → i < length p.cells → row i ≡ r → c ≡ i → ⊥
    by (inl other) i m here e = other (ap row e ∙ here)
    by (inr past) i m here e = omega arith
