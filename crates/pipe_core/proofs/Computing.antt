-- Cells that are no reads.
use Rattle.std.proofs.Common.{◌≡◌, ◌≢◌, ℕ, zero, suc, ◌+◌, ◌<◌, ◌⊎◌, inl, inr, Bool, true, false, List, [], ◌∷◌, length, get_or, drop, refl, sym, ap, ◌∙◌, subst, arith, length-set, get_or-set_other, get_or-set_same}
use Rattle.std.specs.Prelude.{if◌then◌else◌, ◌==◌, All}
use Rattle.std.proofs.lemmas.Bool.Decides.{Decides-eqb}
use Rattle.std.proofs.lemmas.Bool.{cases_lt}
use Rattle.std.proofs.lemmas.List.{length-replicate}
use Rattle.realization.proofs.list_laws_laws.ListLaws.{map_alike}
use Rattle.hazard_core.specs.xdp_machine.State.{PacketIn}
use Rattle.hazard_core.specs.cell_core.Cells.{CellView, cell_at, no_cell, is_read, number, bits_from, value}
use Rattle.hazard_core.specs.cell_core.Rows.{RowsRise}
use Rattle.hazard_core.specs.Tables.{TableState}
use Rattle.hazard_core.specs.declared.pointer.Pointer.{Pointer}
use Rattle.hazard_core.specs.StageValues.{StageValues, stage_value, with_cell}
use Rattle.hazard_core.specs.Rows.{cell_number, cell_pointer, with_made, made_from, with_row, nothing_held}
use Rattle.hazard_core.proofs.HeldLaws.{plain_number}
use Rattle.pipe_core.specs.Machine.{Build}
use Rattle.pipe_core.specs.Computed.{Computes, IsPlanned}

pub drop_next : {X : Type 0} (k : ℕ) (xs : List X) (c : X) (cs : List X) (d : X) → drop k xs ≡ c ∷ cs → (get_or xs k d ≡ c) × (k < length xs) × (drop (suc k) xs ≡ cs)
drop_next zero [] c cs d e = cc
drop_next zero (x ∷ xs) c cs d e = (cc, omega arith, cc)
drop_next (suc k) [] c cs d e = cc
drop_next (suc k) (x ∷ xs) c cs d e = let h = drop_next k xs c cs d e in (h.0, omega (arith, h.1), h.2)

-- cell c is there when the cells before k are made in row r
abbrev pub There : (ℕ → ℕ) → ℕ → ℕ → ℕ → Type 0
There row r k c = (row c < r) ⊎ ((row c ≡ r) × (c < k))

record Made (b : Build) (packet : PacketIn) (r k : ℕ) (h : StageValues) : Type 0 where
  count : length h.values ≡ length b.program.cells
  each : (c : ℕ) → c < length b.program.cells → There b.plan.row r k c → is_read (cell_at b.program.cells c).op ≡ false
      → stage_value h c ≡ value packet (stage_value h) (cell_at b.program.cells c)

-- a cell that does not take cell k has the same value when that is set
unmoved : (packet : PacketIn) (h : StageValues) (k x : ℕ) (p : Pointer) (c : CellView) → All (λ i. i ≢ k) c.ins → value packet (stage_value h) c ≡ value packet (stage_value (with_cell h k x p)) c
unmoved packet h k x p c other =
    ap (λ (xs : List ℕ). bits_from (number packet c.op xs) c.from c.width)
    (map_alike (stage_value h) (stage_value (with_cell h k x p)) c.ins (λ i d l. sym (get_or-set_other h.values k (get_or c.ins i d) x 0 (other i d l))))

-- the inputs of a cell that is there
pub others : (b : Build) → RowsRise → IsPlanned b → (r k c : ℕ) → b.plan.row k ≡ r → c < length b.program.cells → There b.plan.row r k c → All (λ i. i ≢ k) (cell_at b.program.cells c).ins
others b rise plan r k c here l (inl lower) i d m e =
    let up = rise b.program.cells b.plan.row plan.rows c l i d m in
    let same : b.plan.row (get_or (cell_at b.program.cells c).ins i d) ≡ b.plan.row k = ap b.plan.row e in
    omega (arith, up, same, here, lower)
others b rise plan r k c here l (inr now) i d m e = let up = (plan.formed.each c l).earlier i d m in omega (arith, up, e, now.1)

pub not_here : (b : Build) (r k c : ℕ) → b.plan.row k ≡ r → There b.plan.row r k c → c ≢ k
not_here b r k c here (inl lower) e = let same : b.plan.row c ≡ b.plan.row k = ap b.plan.row e in omega (arith, same, here, lower)
not_here b r k c here (inr now) e = omega (arith, now.1, e)

pub next_there : (row : ℕ → ℕ) (r k c : ℕ) → There row r (suc k) c → There row r k c ⊎ (c ≡ k)
next_there row r k c (inl lower) = inl (inl lower)
next_there row r k c (inr now) = elim (cases_lt c k) [
  | inl l ↦ inl (inr (now.0, l))
  | inr l ↦ inr (omega (arith, now.1, l))
]

made_one : (b : Build) → RowsRise → IsPlanned b → (packet : PacketIn) (r k x : ℕ) (p : Pointer) (h : StageValues) → k < length b.program.cells → b.plan.row k ≡ r →
    (is_read (cell_at b.program.cells k).op ≡ false → x ≡ value packet (stage_value h) (cell_at b.program.cells k)) → Made b packet r k h → Made b packet r (suc k) (with_cell h k x p)
made_one b rise plan packet r k x p h in_range here is m = record {
  count = length-set h.values k x ∙ m.count;
  each = λ c l there read. elim (next_there b.plan.row r k c there) [
    | inl before ↦
        get_or-set_other h.values k c x 0 (not_here b r k c here before) ∙ m.each c l before read
        ∙ unmoved packet h k x p (cell_at b.program.cells c) (others b rise plan r k c here l before)
    | inr e ↦ own c e read
  ];
}
  where
    own : (c : ℕ) → c ≡ k → is_read (cell_at b.program.cells c).op ≡ false → stage_value (with_cell h k x p) c ≡ value packet (stage_value (with_cell h k x p)) (cell_at b.program.cells c)
    own c e read = subst (λ c. is_read (cell_at b.program.cells c).op ≡ false → stage_value (with_cell h k x p) c ≡ value packet (stage_value (with_cell h k x p)) (cell_at b.program.cells c)) (sym e) (λ read.
        get_or-set_same h.values k x 0 (omega (arith, in_range, m.count)) ∙ is read
        ∙ unmoved packet h k x p (cell_at b.program.cells k) (λ i d l e. let up = (plan.formed.each k in_range).earlier i d l in omega (arith, up, e))) read

later : (b : Build) (packet : PacketIn) (r k : ℕ) (h : StageValues) → (b.plan.row k ≡ r → ⊥) → Made b packet r k h → Made b packet r (suc k) h
later b packet r k h apart m = record {
  count = m.count;
  each = λ c l there read. elim (next_there b.plan.row r k c there) [
    | inl before ↦ m.each c l before read
    | inr e ↦ m.each c l (lower c there e) read
  ];
}
  where
    lower : (c : ℕ) → There b.plan.row r (suc k) c → c ≡ k → There b.plan.row r k c
    lower c (inl l) e = inl l
    lower c (inr now) e = absurd (apart (sym (ap b.plan.row e) ∙ now.0))

made_all : (b : Build) → RowsRise → IsPlanned b → (packet : PacketIn) (r : ℕ) (t : TableState) (k : ℕ) (cs : List CellView) (h : StageValues) → drop k b.program.cells ≡ cs → k + length cs ≡ length b.program.cells →
    Made b packet r k h → Made b packet r (length b.program.cells) (made_from b.program b.plan.row r t packet k cs h)
made_all b rise plan packet r t k [] h e n m = subst (λ j. Made b packet r j h) (omega (arith, n)) m
made_all b rise plan packet r t k (c ∷ cs) h e n m =
    let q = drop_next k b.program.cells c cs no_cell e in
    made_all b rise plan packet r t (suc k) cs (with_made b.program b.plan.row r t packet h k c) q.2 (omega (arith, n)) (one (b.plan.row k == r) refl q.0 q.1)
  where
    x : ℕ
    x = bits_from (cell_number b.program b.plan.row r t packet h c c.op) c.from c.width

    p : Pointer
    p = cell_pointer b.program b.plan.row r t h c c.op

    one : (here : Bool) → (b.plan.row k == r) ≡ here → cell_at b.program.cells k ≡ c → k < length b.program.cells → Made b packet r (suc k) (if here then with_cell h k x p else h)
    one true here same l = made_one b rise plan packet r k x p h l ((Decides-eqb (b.plan.row k) r).0 here) (λ read.
        subst (λ d. is_read d.op ≡ false → x ≡ value packet (stage_value h) d) (sym same) (λ read. ap (λ n. bits_from n c.from c.width) (plain_number b.program b.plan.row r t packet h c c.op read)) read) m
    one false here same l = later b packet r k h (λ e. no (sym here ∙ (Decides-eqb (b.plan.row k) r).1 e)) m
      where
        no : false ≡ true → ⊥
        no e = cc

-- a packet that holds the rows below r takes in row r
pub takes_row : (b : Build) → RowsRise → IsPlanned b → (packet : PacketIn) (r : ℕ) (t : TableState) (h : StageValues) → Computes b packet r h → Computes b packet (suc r) (with_row b.program b.plan.row r t packet h)
unfolding with_row
takes_row b rise plan packet r t h k =
    let m = made_all b rise plan packet r t 0 b.program.cells h refl (omega arith) (record { count = k.count; each = λ c l there read. k.each c l (below c there) read }) in
    record { count = m.count; each = λ c l lower read. m.each c l (there c l lower) read }
  where
    below : (c : ℕ) → There b.plan.row r 0 c → b.plan.row c < r
    below c (inl lower) = lower
    below c (inr now) = absurd (omega (arith, now.1))

    there : (c : ℕ) → c < length b.program.cells → b.plan.row c < suc r → There b.plan.row r (length b.program.cells) c
    there c l lower = elim (cases_lt (b.plan.row c) r) [
      | inl m ↦ inl m
      | inr m ↦ inr (omega arith, l)
    ]

pub nothing_computes : (b : Build) (packet : PacketIn) → Computes b packet 0 (nothing_held b.program)
nothing_computes b packet = record { count = length-replicate (length b.program.cells) 0; each = λ c l lower read. absurd (omega arith) }
