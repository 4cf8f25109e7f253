-- The cells of the pointers that edges bring, after their bits.
use Rattle.std.proofs.Common.{◌≡◌, ℕ, suc, ◌+◌, ◌<◌, ◌≤◌, Bool, true, false, if◌then◌else◌, List, [], ◌∷◌, ◌++◌, length, get_or, take, map as map_list, All, refl, sym, ◌∙◌, ap, arith}
use Rattle.std.proofs.lemmas.List.{take_more, map-append}
use Rattle.std.proofs.lemmas.List.Elements.{All-map}
use Rattle.cell_core.specs.Cells.{on}
use Rattle.cell_core.specs.Rows.{greatest}
use Rattle.operator_cells.specs.declared.joining.Arm.{Arm}
use Rattle.operator_cells.specs.Joining.{followed, flat}
use Rattle.operator_cells.specs.declared.held_cells.way.Way.{Way}
use Rattle.operator_cells.specs.HeldCells.RegisterCells.{PointerView, pointer_at}
use Rattle.edge_cells.specs.declared.part.Part.{Part}
use Rattle.edge_cells.specs.Meeting.{held_at, first_on, cell_in, BringCells}
use Rattle.edge_cells.specs.Rows.{choice_row, pointer_row_brought}
use Rattle.edge_cells.proofs.ChoiceRows.{cell_row}

abbrev pub arm_of : List PointerView → Part → ℕ → Way → Arm
arm_of ps part j e = record { bit = e.bit; cell = cell_in (pointer_at ps (held_at part e.held)) j }

-- one edge more
pub arms_more : (ps : List PointerView) (part : Part) (j n cell : ℕ) (arms more : List Arm) (here : List Way) (e : Way) → arms ≡ map_list (arm_of ps part j) (take n here) → n < length here
    → cell ≡ cell_in (pointer_at ps (held_at part (get_or here n e).held)) j → more ≡ arms ++ (record { bit = (get_or here n e).bit; cell = cell }) ∷ [] → more ≡ map_list (arm_of ps part j) (take (n + 1) here)
arms_more ps part j n cell arms more here e so_far range same is =
    is ∙ ap (λ (xs : List Arm). xs ++ (record { bit = (get_or here n e).bit; cell = cell }) ∷ []) so_far
    ∙ ap (λ (c : ℕ). map_list (arm_of ps part j) (take n here) ++ (record { bit = (get_or here n e).bit; cell = c }) ∷ []) same
    ∙ sym (map-append (arm_of ps part j) (take n here) (get_or here n e ∷ [])) ∙ ap (map_list (arm_of ps part j)) (sym (take_more here n e range))

pub arms_there : (n : ℕ) (ps : List PointerView) (here : List Way) (part : Part) (j : ℕ) → BringCells n ps here part j → All (λ a. (a.bit < n) × (a.cell < n)) (map_list (arm_of ps part j) here)
arms_there n ps here part j there = All-map (λ (a : Arm). (a.bit < n) × (a.cell < n)) (arm_of ps part j) here (λ i e l. let t = there i e l in (t.0, t.3))

-- what goes with the first edge that is on
pub arms_followed : (v u : ℕ → ℕ) (ps : List PointerView) (part : Part) (j : ℕ) (here : List Way) (d : Way) → 1 ≤ length here
    → followed v u (map_list (arm_of ps part j) here) ≡ u (cell_in (pointer_at ps (held_at part (get_or here (first_on v here) d).held)) j)
arms_followed v u ps part j [] d some = absurd (omega arith)
arms_followed v u ps part j (e ∷ []) d some = refl
arms_followed v u ps part j (e ∷ f ∷ here) d some = by (on (v e.bit)) (arms_followed v u ps part j (f ∷ here) d (omega arith))
  where
    brought : Way → ℕ
    brought g = u (cell_in (pointer_at ps (held_at part g.held)) j)

    by : (t : Bool) → followed v u (map_list (arm_of ps part j) (f ∷ here)) ≡ brought (get_or (f ∷ here) (first_on v (f ∷ here)) d)
        → (if t then brought e else followed v u (map_list (arm_of ps part j) (f ∷ here))) ≡ brought (get_or (e ∷ f ∷ here) (if t then 0 else suc (first_on v (f ∷ here))) d)
    by true rest = refl
    by false rest = rest

-- their rows
pub arms_low : (row : ℕ → ℕ) (n : ℕ) (ps : List PointerView) (here : List Way) (part : Part) (j : ℕ) → BringCells n ps here part j
    → greatest row (flat (map_list (arm_of ps part j) here)) ≤ choice_row row (pointer_row_brought ps part) here
arms_low row n ps [] part j there = omega arith
arms_low row n ps (e ∷ here) part j there =
    omega (arith, cell_row row (pointer_at ps (held_at part e.held)) j (there 0 e (omega arith)).2, arms_low row n ps here part j (λ i d l. there (suc i) d (omega (arith, l))))
