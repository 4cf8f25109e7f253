-- A program none of whose nodes is done.
use Rattle.std.proofs.Common.{◌≡◌, ℕ, ◌+◌, ◌<◌, ◌≤◌, ◌⊎◌, inl, inr, List, [], ◌∷◌, ◌++◌, length, length-append, get_or, map, sym, ◌∙◌, ap, subst, arith, refl}
use Rattle.std.specs.Prelude.{slice_index, All}
use Rattle.std.proofs.Math.ListN.{get_or-append}
use Rattle.std.proofs.Math.Seq.{get_or-append_seam}
use Rattle.std.proofs.lemmas.Bool.{cases_lt}
use Rattle.std.proofs.lemmas.List.{map-append}
use Rattle.std.proofs.lemmas.List.Elements.{All-cons, All-nil}
use Rattle.cell_core.specs.declared.program.Node.{Node}
use Rattle.cell_core.specs.Cells.{CellView}
use Rattle.cell_core.specs.Sites.{SiteView}
use Rattle.operator_cells.specs.Making.{seen, Grows}
use Rattle.operator_cells.proofs.MakingLaws.{grown}
use Rattle.operator_cells.specs.declared.held_cells.way.Way.{Way}
use Rattle.operator_cells.specs.declared.held_cells.way.Exit.{Exit}
use Rattle.operator_cells.specs.HeldCells.Paths.{GraphView}
use Rattle.operator_cells.specs.HeldCells.RegisterCells.{PointerView, pointed}
use Rattle.site_cells.specs.Sited.{sited}
use Rattle.predicate_core.specs.ProgramGraph.Sound.{IsSoundGraph}
use Rattle.predicate_core.specs.declared.making.Progress.{Progress}
use Rattle.predicate_core.specs.Buildable.{AddsNoRow}
use Rattle.predicate_core.specs.Making.{IsSoFar}
use Rattle.predicate_core.specs.Opening.{HaveBytes, Opens, OpensFollow}
use Rattle.predicate_core.specs.Feeding.{AreFed, FeedsNodes}
use Rattle.predicate_core.specs.Progress.{entries_of, pending_of, targets, AreNumbers, AreFirst, AreWaiting, AreKept, IsReady}
use Rattle.predicate_core.proofs.LastRow.{no_row_then}
use Rattle.predicate_core.proofs.Progressing.{bytes_behind}

pub opens_later : (a b c : List CellView) (e : Way) → Opens a b e → Grows b c → AddsNoRow b c → Opens a c e
opens_later a b c e opens g no_row = record {
  grows = grown opens.grows g;
  no_row = no_row_then a b c g opens.no_row no_row;
  to_first = opens.to_first;
  kinds_are = opens.kinds_are;
  bit_there = omega (arith, opens.bit_there, g.longer);
  bit = λ packet v run. opens.bit packet v (g.run packet v run);
  bytes = bytes_behind (λ k j. ⊥) b c 256 e.held.window g opens.bytes;
  target_there = omega (arith, opens.target_there, g.longer);
  target = λ packet v run. opens.target packet v (g.run packet v run);
}

first_own : AreNumbers 0 (0 ∷ []) (0 ∷ [])
first_own = record {
  each = All-cons (λ i. (i < 1) × (slice_index (0 ∷ []) i ≡ 0)) 0 [] (omega arith, refl) (All-nil (λ i. (i < 1) × (slice_index (0 ∷ []) i ≡ 0)));
  all = λ i l is. (0, omega arith, omega (arith, l));
}

first_other : (k : ℕ) → 0 < k → AreNumbers k (0 ∷ []) []
first_other k h = record {
  each = All-nil (λ i. (i < 1) × (slice_index (0 ∷ []) i ≡ k));
  all = λ i l is. let e : i ≡ 0 = omega (arith, l) in let f : 0 ≡ k = sym (ap (slice_index (0 ∷ [])) e) ∙ is in absurd (omega (arith, f, h));
}

pub first_more : {X : Type 0} (f : X → List ℕ) (es qs : List X) (b : X) (n : ℕ) → AreFirst n (map f es) → qs ≡ es ++ b ∷ [] → (n ≡ 0 → f b ≡ 0 ∷ []) → (0 < n → f b ≡ []) → AreFirst (n + 1) (map f qs)
first_more f es qs b n was more own other = subst (AreFirst (n + 1)) (sym (ap (map f) more ∙ map-append f es (b ∷ []))) (record {
  size = omega (arith, was.size, length-append (map f es) (f b ∷ []));
  each = λ k l. by k l (cases_lt k n);
})
  where
    row : (k : ℕ) → (0 < k) ⊎ (k ≤ 0) → k ≡ n → AreNumbers k (0 ∷ []) (f b)
    row k (inl h) e = subst (AreNumbers k (0 ∷ [])) (sym (other (omega (arith, h, e)))) (first_other k h)
    row k (inr h) e = let z : 0 ≡ k = omega (arith, h) in subst (λ (j : ℕ). AreNumbers j (0 ∷ []) (f b)) z (subst (AreNumbers 0 (0 ∷ [])) (sym (own (omega (arith, h, e)))) first_own)

    by : (k : ℕ) → k < n + 1 → (k < n) ⊎ (n ≤ k) → AreNumbers k (0 ∷ []) (get_or (map f es ++ f b ∷ []) k [])
    by k l (inl h) = subst (AreNumbers k (0 ∷ [])) (sym (get_or-append (map f es) (f b ∷ []) [] k (omega (arith, h, was.size)))) (was.each k h)
    by k l (inr h) =
        let e : k ≡ n = omega (arith, l, h) in
        let at : length (map f es) ≡ k = was.size ∙ sym e in
        subst (AreNumbers k (0 ∷ [])) (sym (ap (λ (j : ℕ). get_or (map f es ++ f b ∷ []) j []) (sym at) ∙ get_or-append_seam (map f es) (f b) [] [])) (row k (cases_lt 0 k) e)

pub seen_none : seen [] ≡ []
unfolding seen
seen_none = refl

pub pointed_none : pointed [] ≡ []
unfolding pointed
pointed_none = refl

pub sited_none : sited [] ≡ []
unfolding sited
sited_none = refl

pub ready_first : OpensFollow → (g : GraphView) (e : Way) (q : Progress) (row : List ℕ) → IsSoundGraph g → FeedsNodes g → Opens [] (seen q.made.cells.items) e → pointed q.made.pointers.items ≡ [] → sited q.made.sites.items ≡ []
    → q.made.ways.items ≡ e ∷ [] → q.made.exits.items ≡ [] → q.nodes.items ≡ [] → q.window ≡ e.held.window → AreFirst (length g.nodes) (entries_of q) → pending_of q ≡ row ∷ []
    → AreWaiting (length g.decls) (length (seen q.made.cells.items)) row → IsReady g 0 q
ready_first follow g e q row sound feeds opens pointers sites ways exits nodes window first pending waits = record {
  held = [];
  so_far =
      subst (λ (x : List PointerView). IsSoFar g 0 [] (record { cells = seen q.made.cells.items; pointers = x; sites = sited q.made.sites.items; ways = q.made.ways.items; exits = q.made.exits.items; nodes = q.nodes.items })) (sym pointers)
      (subst (λ (x : List SiteView). IsSoFar g 0 [] (record { cells = seen q.made.cells.items; pointers = []; sites = x; ways = q.made.ways.items; exits = q.made.exits.items; nodes = q.nodes.items })) (sym sites)
      (subst (λ (x : List Way). IsSoFar g 0 [] (record { cells = seen q.made.cells.items; pointers = []; sites = []; ways = x; exits = q.made.exits.items; nodes = q.nodes.items })) (sym ways)
      (subst (λ (x : List Exit). IsSoFar g 0 [] (record { cells = seen q.made.cells.items; pointers = []; sites = []; ways = e ∷ []; exits = x; nodes = q.nodes.items })) (sym exits)
      (subst (λ (x : List Node). IsSoFar g 0 [] (record { cells = seen q.made.cells.items; pointers = []; sites = []; ways = e ∷ []; exits = []; nodes = x })) (sym nodes)
      (follow g (seen q.made.cells.items) e opens sound.some sound.first sound.values)))));
  fed = subst (AreFed g 0) (sym ways) (feeds.start e opens.to_first opens.kinds_are);
  bytes = subst (λ (w : List ℕ). HaveBytes (seen q.made.cells.items) 256 w) (sym window) opens.bytes;
  kept = subst (λ (tos : List ℕ). AreKept (length g.nodes) (length g.decls) (length (seen q.made.cells.items)) tos (entries_of q) (pending_of q)) (sym (ap targets ways ∙ ap (λ (n : ℕ). n ∷ []) opens.to_first)) (record {
    size = first.size;
    inside = All-cons (λ t. t < length g.nodes) 0 [] sound.some (All-nil (λ t. t < length g.nodes));
    entered = first.each;
    beside = ap length pending;
    waiting = subst (All (AreWaiting (length g.decls) (length (seen q.made.cells.items)))) (sym pending)
        (All-cons (AreWaiting (length g.decls) (length (seen q.made.cells.items))) row [] waits (All-nil (AreWaiting (length g.decls) (length (seen q.made.cells.items)))));
  });
}
