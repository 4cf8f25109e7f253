-- What a place makes and holds can be made from what is at hand in its row.
use Rattle.std.specs.Prelude.{Contains}
use Rattle.std.proofs.Common.{◌≡◌, ◌⊎◌, inl, inr, ℕ, ◌<◌, Bool, true, false, All, List, length, take, get_or, arith, slice_index}
use Rattle.std.proofs.lemmas.List.Elements.{All-contains}
use Rattle.hazard_core.specs.cell_core.declared.operator.Operator.{Operator}
use Rattle.hazard_core.specs.cell_core.declared.operator.Operator.TheVariants.{Wire, Phi}
use Rattle.hazard_core.specs.cell_core.Cells.{cell_at}
use Rattle.hazard_core.specs.cell_core.Sites.{ProgramView}
use Rattle.row_plan.specs.Plan.{Plan}
use Rattle.row_net.specs.Lists.{made_cells}
use Rattle.row_net.specs.Needed.{AreNeeded, flag}
use Rattle.row_net.specs.SitePlace.Pointing.{Takes, HoldsOf, is_edge}
use Rattle.row_net.proofs.FlagLaws.{marked_inside}
use Rattle.stage_net.specs.SiteTable.Lists.{held_cells, held_pointers, made_pointers}
use Rattle.stage_net.specs.SiteTable.Staged.{IsStaged, Same, Outside, Before, IsPointed, AreStaged, AreAtHand}
use Rattle.stage_net.specs.SiteTable.Staged as staged

module _ (E F Q R : ℕ → Type 0) (cells : (i : ℕ) → E i → F i) (pointers : (i : ℕ) → Q i → R i) where
  holds_weaker : (b : Bool) (i : ℕ) → HoldsOf E Q b i → HoldsOf F R b i
  holds_weaker true i h = cells i h
  holds_weaker false i h = pointers i h

  takes_weaker : (o : Operator) (ins : List ℕ) → Takes E Q o ins → Takes F R o ins
  takes_weaker Wire ins h = pointers (slice_index ins 0) h
  takes_weaker Phi ins h = λ n l. holds_weaker (is_edge n) (slice_index ins n) (h n l)
  takes_weaker o ins h = tt

module _ (p : ProgramView) (plan : Plan) (needed parts points : List Bool) (at : ℕ) (Has HasPointer : ℕ → Type 0) (are : AreNeeded p needed) (hand : AreAtHand p plan needed parts points at Has HasPointer) where
  inside : (k : ℕ) → flag needed k ≡ true → k < length p.cells
  inside k h = omega (arith, are.count, marked_inside needed k h)

  staged_has : (k : ℕ) → IsStaged p plan needed parts at k → Has k
  staged_has k (Same marked e) = hand.same k (inside k marked) e
  staged_has k (Outside marked o e) = hand.outside k marked o e
  staged_has k (Before b e c) = All-contains Has (held_cells p plan needed parts b) k (hand.before b e) c

  pointed_has : (k : ℕ) → IsPointed p plan needed parts points at k → HasPointer k
  pointed_has k (staged.Plain marked f) = hand.plain k (inside k marked) f
  pointed_has k (staged.Found j marked e r) = hand.found k j marked e r
  pointed_has k (staged.Kept b e c) = All-contains HasPointer (held_pointers p plan needed parts points b) k (hand.pointers_before b e) c

  cell_or : {Here : Type 0} (k : ℕ) → IsStaged p plan needed parts at k ⊎ Here → Has k ⊎ Here
  cell_or k (inl s) = inl (staged_has k s)
  cell_or k (inr h) = inr h

  pointer_or : {Here : Type 0} (k : ℕ) → IsPointed p plan needed parts points at k ⊎ Here → HasPointer k ⊎ Here
  pointer_or k (inl s) = inl (pointed_has k s)
  pointer_or k (inr h) = inr h

  abbrev made : List ℕ
  made = made_cells p plan needed at

  abbrev those : List ℕ
  those = made_pointers p plan needed points at

  module _ (stages : AreStaged p plan needed parts points) where
    pub inputs_had : (n : ℕ) → n < length made → All (λ i. Has i ⊎ Contains (take n made) i) (cell_at p.cells (slice_index made n)).ins
    inputs_had n lt = λ i d l. cell_or (get_or (cell_at p.cells (slice_index made n)).ins i d) (stages.inputs at n lt i d l)

    pub held_had : All (λ k. Has k ⊎ Contains made k) (held_cells p plan needed parts at)
    held_had = λ i d l. cell_or (get_or (held_cells p plan needed parts at) i d) (stages.held at i d l)

    pub pointers_had : (n : ℕ) → n < length those → Takes (λ i. Has i ⊎ Contains made i) (λ i. HasPointer i ⊎ Contains (take n those) i) (cell_at p.cells (slice_index those n)).op (cell_at p.cells (slice_index those n)).ins
    pointers_had n lt =
        takes_weaker (λ i. IsStaged p plan needed parts at i ⊎ Contains made i) (λ i. Has i ⊎ Contains made i) (λ i. IsPointed p plan needed parts points at i ⊎ Contains (take n those) i) (λ i. HasPointer i ⊎ Contains (take n those) i) (λ i h. cell_or i h)
        (λ i h. pointer_or i h) (cell_at p.cells (slice_index those n)).op (cell_at p.cells (slice_index those n)).ins (stages.pointers at n lt)

    pub held_pointers_had : All (λ k. HasPointer k ⊎ Contains those k) (held_pointers p plan needed parts points at)
    held_pointers_had = λ i d l. pointer_or (get_or (held_pointers p plan needed parts points at) i d) (stages.kept_pointers at i d l)
