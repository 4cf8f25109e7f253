-- Pointers in memory, and the cells that edges bring by them.
use Rattle.std.proofs.Common.{◌≡◌, ℕ, suc, ◌+◌, ◌<◌, ◌≤◌, ◌⊎◌, inl, inr, List, [], ◌∷◌, ◌++◌, length, length-append, get_or, refl, sym, ◌∙◌, ap, subst, arith}
use Rattle.std.specs.Prelude.{Some, slice_index}
use Rattle.std.proofs.Math.ListN.{get_or-append}
use Rattle.std.proofs.Math.Seq.{get_or-append_seam}
use Rattle.std.proofs.lemmas.Bool.{cases_lt}
use Rattle.std.proofs.lemmas.List.{length-map, get_or-map}
use Rattle.cell_core.specs.Cells.{CellView}
use Rattle.operator_cells.specs.Making.{Grows}
use Rattle.operator_cells.specs.declared.held_cells.machine_cells.Pointer.{Pointer}
use Rattle.operator_cells.specs.declared.held_cells.way.Way.{Way}
use Rattle.operator_cells.specs.HeldCells.RegisterCells.{PointerView, pointer_of, pointed, pointer_at, no_pointer}
use Rattle.edge_cells.specs.declared.part.Part.{Part}
use Rattle.edge_cells.specs.Meeting.{held_at, cell_in, cell_brought, BringCells, Picks, PickWords}
use Rattle.kind_core.specs.declared.kind.Kind.{Kind}
use Rattle.kind_core.specs.declared.kind.Kind.TheVariants.{Maybe}
use Rattle.edge_cells.specs.Testing.{HasPointer, found_of}
use Rattle.edge_cells.proofs.GrowthLaws.{picks_after, picks_before}
use Rattle.operator_cells.proofs.MakingLaws.{grown}

pub pointed_length : (ps : List Pointer) → length (pointed ps) ≡ length ps
unfolding pointed
pointed_length ps = length-map ps pointer_of

pub pointed_at : (ps : List Pointer) (c : ℕ) (d : Pointer) → c < length ps → pointer_at (pointed ps) c ≡ pointer_of (get_or ps c d)
unfolding pointed
pointed_at ps c d h = get_or-map pointer_of ps c d no_pointer h

pub pointed_more : (ps : List Pointer) (x : Pointer) → pointed (ps ++ x ∷ []) ≡ pointed ps ++ pointer_of x ∷ []
unfolding pointed
pointed_more [] x = refl
pointed_more (p ∷ ps) x = ap (λ (xs : List PointerView). pointer_of p ∷ xs) (pointed_more ps x)

pub cell_index : (n : ℕ) (ps : List Pointer) (here : List Way) (part : Part) (j i h : ℕ) (d : Way) → BringCells n (pointed ps) here part j → i < length here → h ≡ held_at part (get_or here i d).held → h < length ps
cell_index n ps here part j i h d there range is = omega (arith, (there i d range).1, pointed_length ps, is)

pub cell_long : (n : ℕ) (ps : List Pointer) (here : List Way) (part : Part) (j i h : ℕ) (d : Way) (p : Pointer) → BringCells n (pointed ps) here part j → i < length here
    → h ≡ held_at part (get_or here i d).held → p ≡ get_or ps h p → j ≤ length p.key.items
cell_long n ps here part j i h d p there range is at =
    subst (λ (x : PointerView). j ≤ length x.key) (ap (pointer_at (pointed ps)) (sym is) ∙ pointed_at ps h p (cell_index n ps here part j i h d there range is) ∙ ap pointer_of (sym at)) (there i d range).2

pub cell_same : (n : ℕ) (ps : List Pointer) (here : List Way) (part : Part) (j i h x : ℕ) (d : Way) (p : Pointer) → BringCells n (pointed ps) here part j → i < length here
    → h ≡ held_at part (get_or here i d).held → p ≡ get_or ps h p → x ≡ cell_in (pointer_of p) j → x ≡ cell_in (pointer_at (pointed ps) (held_at part (get_or here i d).held)) j
cell_same n ps here part j i h x d p there range is at e =
    e ∙ ap (λ (y : PointerView). cell_in y j) (sym (ap (pointer_at (pointed ps)) (sym is) ∙ pointed_at ps h p (cell_index n ps here part j i h d there range is) ∙ ap pointer_of (sym at)))

pub bring_later : (n m : ℕ) (ps : List PointerView) (here : List Way) (part : Part) (j : ℕ) → n ≤ m → BringCells n ps here part j → BringCells m ps here part j
bring_later n m ps here part j h there i d l = let t = there i d l in (omega (arith, t.0, h), t.1, t.2, omega (arith, t.3, h))

-- one word more
pub words_more : (old mid new : List CellView) (ps : List PointerView) (here : List Way) (part : Part) (n c : ℕ) (key more : List ℕ) → PickWords old mid ps here part n key
    → Picks mid new here (cell_brought ps part (n + 1)) c → more ≡ key ++ c ∷ [] → PickWords old new ps here part (n + 1) more
words_more old mid new ps here part n c key more words one is = record {
  grows = grown words.grows one.grows;
  count = omega (arith, ap length is, length-append key (c ∷ []), words.count);
  words = λ j l. subst (λ (xs : List ℕ). Picks old new here (cell_brought ps part (suc j)) (slice_index xs j)) (sym is) (by j (cases_lt j n) l);
}
  where
    by : (j : ℕ) → (j < n) ⊎ (n ≤ j) → j < n + 1 → Picks old new here (cell_brought ps part (suc j)) (slice_index (key ++ c ∷ []) j)
    by j (inl l) h = subst (λ (x : ℕ). Picks old new here (cell_brought ps part (suc j)) x) (sym (get_or-append key (c ∷ []) 0 j (omega (arith, words.count, l)))) (picks_before (words.words j l) one.grows)
    by j (inr l) h =
        let long : length key ≡ j = omega (arith, l, h, words.count) in
        let same : n + 1 ≡ suc j = omega (arith, l, h) in
        subst (λ (x : ℕ). Picks old new here (cell_brought ps part (suc j)) x) (sym (ap (λ (i : ℕ). slice_index (key ++ c ∷ []) i) (sym long) ∙ get_or-append_seam key c [] 0))
        (picks_after words.grows (subst (λ (i : ℕ). Picks mid new here (cell_brought ps part i) c) same one))

pub words_after : {old mid new : List CellView} {ps : List PointerView} {here : List Way} {part : Part} {n : ℕ} {key : List ℕ} → Grows old mid → PickWords mid new ps here part n key → PickWords old new ps here part n key
words_after g w = record { grows = grown g w.grows; count = w.count; words = λ j l. picks_after g (w.words j l) }

-- the found bit of what a lookup answered
pub pointer_inside : (n : ℕ) (kind : Kind) (p q j : ℕ) → kind ≡ Maybe q j → HasPointer n kind p → p < n
pointer_inside n kind p q j e h = subst (λ (k : Kind). HasPointer n k p) e h

pub found_is : (ps : List Pointer) (kind : Kind) (p q j : ℕ) (x : Pointer) → kind ≡ Maybe q j → p < length ps → Some (get_or ps p x).found ≡ found_of (pointed ps) kind p
found_is ps kind p q j x e h = ap (λ (y : PointerView). Some y.found) (sym (pointed_at ps p x h)) ∙ ap (λ (k : Kind). found_of (pointed ps) k p) (sym e)
