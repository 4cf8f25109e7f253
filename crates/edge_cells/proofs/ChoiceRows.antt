-- The rows of what is chosen among edges.
use Rattle.std.proofs.Common.{◌≡◌, ℕ, zero, suc, ◌+◌, ◌<◌, ◌≤◌, ◌⊎◌, inl, inr, List, [], ◌∷◌, ◌++◌, length, get_or, map as map_list, max, All, refl, sym, ◌∙◌, ap, subst, arith}
use Rattle.std.proofs.Math.ListN.{get_or-append}
use Rattle.std.proofs.Math.Seq.{get_or-append_seam}
use Rattle.std.proofs.lemmas.Bool.{cases_lt}
use Rattle.std.proofs.lemmas.List.{get_or_default}
use Rattle.cell_core.specs.Cells.{CellView}
use Rattle.cell_core.specs.Rows.{AreRows, greatest}
use Rattle.operator_cells.specs.declared.joining.Arm.{Arm}
use Rattle.operator_cells.specs.Joining.{flat}
use Rattle.operator_cells.specs.Rising.{GrowsTo, Rises, RiseAll}
use Rattle.operator_cells.proofs.RisingLaws.{Stand, stand_none, stand_more, stand_all, rises_then, grown_to}
use Rattle.kind_core.specs.declared.number.Number.{Number}
use Rattle.kind_core.specs.declared.kind.Kinds.{Kinds}
use Rattle.operator_cells.specs.declared.held_cells.machine_cells.RegisterCells.{RegisterCells}
use Rattle.operator_cells.specs.declared.held_cells.way.Way.{Way}
use Rattle.operator_cells.specs.HeldCells.RegisterCells.{PointerView}
use Rattle.operator_cells.specs.HeldCells.Rows.{cells_of_pointer, number_row, held_row, bits_row, brought_row, chosen_row}
use Rattle.edge_cells.specs.declared.part.Part.{Part}
use Rattle.edge_cells.specs.Meeting.{held_at, kind_at, number_in, cell_in}
use Rattle.edge_cells.specs.Rows.{choice_row}
use Rattle.edge_cells.proofs.Choices.{AreArms}

-- ---- new cells

pub so_far : {a b : List CellView} {last : (ℕ → ℕ) → ℕ} → GrowsTo a b last → Stand a b (λ row. Unit {0}) last
so_far g = record { grows = g; known = λ row rows. tt }

pub rise_cons : {a b d : List CellView} {c : ℕ} {cs : List ℕ} {f : (ℕ → ℕ) → ℕ} → Rises a b c f → RiseAll b d cs f → RiseAll a d (c ∷ cs) f
rise_cons {a} {b} {d} {c} {cs} {f} r all =
    let s : Stand a d (λ row. (Unit {0} × (row c ≤ f row)) × (greatest row cs ≤ f row)) f = stand_all (stand_more stand_none r (λ row p. omega arith)) all (λ row p. omega arith) in
    record { grows = s.grows; results = λ row rows. omega (arith, (s.known row rows).0.1, (s.known row rows).1) }

-- ---- bits and what edges bring

pub bits_above : (row : ℕ → ℕ) (here : List Way) (i : ℕ) (d : Way) → i < length here → row (get_or here i d).bit ≤ bits_row row here
bits_above row [] i d l = absurd (omega arith)
bits_above row (e ∷ here) zero d l = omega arith
bits_above row (e ∷ here) (suc i) d l = omega (arith, bits_above row here i d (omega (arith, l)))

pub bits_greatest : (row : ℕ → ℕ) (here : List Way) → greatest row (map_list (λ (e : Way). e.bit) here) ≡ bits_row row here
bits_greatest row [] = refl
bits_greatest row (e ∷ here) = ap (max (row e.bit)) (bits_greatest row here)

pub brought_above : (row : ℕ → ℕ) (ps : List PointerView) (here : List Way) (place i : ℕ) (d : Way) → i < length here
    → held_row row ps (get_or here i d).held (get_or here i d).kinds place ≤ brought_row row ps here place
brought_above row ps [] place i d l = absurd (omega arith)
brought_above row ps (e ∷ here) place zero d l = left _ _
  where
    left : (a b : ℕ) → a ≤ max a b
    left a b = omega arith
brought_above row ps (e ∷ here) place (suc i) d l = right _ _ _ (brought_above row ps here place i d (omega (arith, l)))
  where
    right : (a b c : ℕ) → c ≤ b → c ≤ max a b
    right a b c h = omega (arith, h)

-- ---- a choice

pub choice_above : (row : ℕ → ℕ) (brings : (ℕ → ℕ) → Way → ℕ) (here : List Way) (i : ℕ) (d : Way) → i < length here → brings row (get_or here i d) ≤ choice_row row brings here
choice_above row brings [] i d l = absurd (omega arith)
choice_above row brings (e ∷ here) zero d l = omega arith
choice_above row brings (e ∷ here) (suc i) d l = omega (arith, choice_above row brings here i d (omega (arith, l)))

choice_within : (row : ℕ → ℕ) (brings : (ℕ → ℕ) → Way → ℕ) (here : List Way) (most : ℕ) → All (λ e. max (row e.bit) (brings row e) ≤ most) here → choice_row row brings here ≤ most
choice_within row brings [] most h = omega arith
choice_within row brings (e ∷ here) most h = omega (arith, h 0 e (omega arith), choice_within row brings here most (λ i d l. h (suc i) d (omega (arith, l))))

pub choice_chosen : (row : ℕ → ℕ) (ps : List PointerView) (brings : (ℕ → ℕ) → Way → ℕ) (here : List Way) (place : ℕ) → All (λ e. brings row e ≤ held_row row ps e.held e.kinds place) here
    → choice_row row brings here ≤ chosen_row row ps here place
choice_chosen row ps brings here place h =
    choice_within row brings here (chosen_row row ps here place) (λ i d l. all _ _ _ _ _ (bits_above row here i d l) (h i d l) (brought_above row ps here place i d l))
  where
    all : (a b x y z : ℕ) → a ≤ x → b ≤ z → z ≤ y → max a b ≤ max x y
    all a b x y z p q r = omega (arith, p, q, r)

-- a cell of a pointer
pub cell_row : (row : ℕ → ℕ) (p : PointerView) (j : ℕ) → j ≤ length p.key → row (cell_in p j) ≤ greatest row (cells_of_pointer p)
cell_row row p zero l = omega arith
cell_row row p (suc j) l = omega (arith, word p.key j (omega (arith, l)))
  where
    word : (key : List ℕ) (i : ℕ) → i < length key → row (get_or key i 0) ≤ greatest row key
    word [] i l = absurd (omega arith)
    word (x ∷ key) zero l = omega arith
    word (x ∷ key) (suc i) l = omega (arith, word key i (omega (arith, l)))

-- ---- arms

-- of the first n edges, cells that stand in no later row than what these bring
pub record ArmsTo (old new : List CellView) (arms : List Arm) (here : List Way) (brings : (ℕ → ℕ) → Way → ℕ) (n : ℕ) : Type 0 where
  pub grows : GrowsTo old new (λ row. choice_row row brings here)
  pub each : (row : ℕ → ℕ) → AreRows new row → (i : ℕ) (a : Arm) (e : Way) → i < n → row (get_or arms i a).cell ≤ brings row (get_or here i e)

pub no_arms_to : (old : List CellView) (arms : List Arm) (here : List Way) (brings : (ℕ → ℕ) → Way → ℕ) → ArmsTo old old arms here brings 0
no_arms_to old arms here brings = record { grows = stand_none.grows; each = λ row rows i a e h. absurd (omega arith) }

-- one edge more
pub arms_to_more : {old mid new : List CellView} {arms more : List Arm} {here : List Way} {brings : (ℕ → ℕ) → Way → ℕ} {n : ℕ} {f : (ℕ → ℕ) → ℕ} (a : Arm) (e : Way)
    → ArmsTo old mid arms here brings n → Rises mid new a.cell f → ((row : ℕ → ℕ) → f row ≤ brings row (get_or here n e)) → more ≡ arms ++ a ∷ [] → length arms ≡ n → n < length here
    → ArmsTo old new more here brings (n + 1)
arms_to_more {old} {mid} {new} {arms} {more} {here} {brings} {n} {f} a e sofar r low is count range = record {
  grows = grown_to (so_far sofar.grows) r.grows (λ row p. omega (arith, low row, choice_above row brings here n e range));
  each = λ row rows i b d l. subst (λ (xs : List Arm). row (get_or xs i b).cell ≤ brings row (get_or here i d)) (sym is) (by row rows i b d (cases_lt i n) l);
}
  where
    by : (row : ℕ → ℕ) → AreRows new row → (i : ℕ) (b : Arm) (d : Way) → (i < n) ⊎ (n ≤ i) → i < n + 1 → row (get_or (arms ++ a ∷ []) i b).cell ≤ brings row (get_or here i d)
    by row rows i b d (inl l) h = subst (λ (x : Arm). row x.cell ≤ brings row (get_or here i d)) (sym (get_or-append arms (a ∷ []) b i (omega (arith, count, l)))) (sofar.each row (r.grows.rows row rows) i b d l)
    by row rows i b d (inr l) h =
        let same : n ≡ i = omega (arith, l, h) in
        let long : length arms ≡ i = omega (arith, count, l, h) in
        subst (λ (x : Arm). row x.cell ≤ brings row (get_or here i d)) (sym (ap (λ (j : ℕ). get_or (arms ++ a ∷ []) j b) (sym long) ∙ get_or-append_seam arms a [] b))
        (subst (λ (x : Way). row a.cell ≤ brings row x) (get_or_default here n e d range ∙ ap (λ (j : ℕ). get_or here j d) same) (omega (arith, r.result row rows, low row)))

flat_within : (row : ℕ → ℕ) (brings : (ℕ → ℕ) → Way → ℕ) (arms : List Arm) (here : List Way) → length arms ≡ length here
    → ((i : ℕ) (a : Arm) (e : Way) → i < length here → ((get_or arms i a).bit ≡ (get_or here i e).bit) × (row (get_or arms i a).cell ≤ brings row (get_or here i e))) → greatest row (flat arms) ≤ choice_row row brings here
flat_within row brings [] here n h = omega arith
flat_within row brings (a ∷ arms) [] n h = absurd (omega (arith, n))
flat_within row brings (a ∷ arms) (e ∷ here) n h =
    let own = h 0 a e (omega arith) in
    omega (arith, ap row own.0, own.1, flat_within row brings arms here (omega (arith, n)) (λ i b f l. h (suc i) b f (omega (arith, l))))

-- what is chosen among all
pub choice_rises : {old mid new : List CellView} {arms : List Arm} {here : List Way} {value brings : (ℕ → ℕ) → Way → ℕ} {n c : ℕ} → n ≤ length here → length here ≤ n
    → AreArms old mid arms here value n → ArmsTo old mid arms here brings n → Rises mid new c (λ row. greatest row (flat arms)) → Rises old new c (λ row. choice_row row brings here)
choice_rises {old} {mid} {new} {arms} {here} {value} {brings} {n} l m are to r =
    let known : Stand old mid (λ row. (i : ℕ) (a : Arm) (e : Way) → i < n → row (get_or arms i a).cell ≤ brings row (get_or here i e)) (λ row. choice_row row brings here) = record { grows = to.grows; known = to.each } in
    rises_then known r (λ row p. flat_within row brings arms here (omega (arith, are.count, l, m)) (λ i a e h. ((are.each i a e (omega (arith, h, m))).bit, p i a e (omega (arith, h, m)))))

-- ---- what one edge brings

pub number_low : (row : ℕ → ℕ) (part : Part) (k : Kinds) (h : RegisterCells) (a : Number) (c : ℕ) → a ≡ number_in (kind_at part k) → c ≡ held_at part h → number_row row a c ≤ number_row row (number_in (kind_at part k)) (held_at part h)
number_low row part k h a c f g = same_le (ap (λ (n : Number). number_row row n c) f ∙ ap (number_row row (number_in (kind_at part k))) g)
  where
    same_le : {x y : ℕ} → x ≡ y → x ≤ y
    same_le h = omega (arith, h)
