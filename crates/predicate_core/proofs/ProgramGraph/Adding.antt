-- One edge more among the ends.
use Rattle.std.proofs.Common.{◌≡◌, ℕ, ◌+◌, ◌<◌, ◌⊎◌, inl, inr, Bool, true, false, List, [], ◌∷◌, ◌++◌, length, get_or, set, take, Option, Some, None, refl, sym, ◌∙◌, ap, subst, arith}
use Rattle.std.specs.Prelude.{◌≢◌, is_some, All, Contains}
use Rattle.std.proofs.lemmas.Bool.{cases_order}
use Rattle.std.proofs.lemmas.List.{get_or-set_same, get_or-set_other, length-set, get_or_default, take_more}
use Rattle.std.proofs.lemmas.List.Elements.{All-nil, All-cons, All-append, Contains-append_left, Contains-push}
use Rattle.unfold_core.specs.declared.links.Edge.{Edge}
use Rattle.unfold_core.specs.RunLaws.{edge}
use Rattle.predicate_core.specs.declared.program_graph.edge_ends.NodeEnds.{NodeEnds}
use Rattle.edge_cells.specs.NodeCells.Ends.{end_along}
use Rattle.predicate_core.specs.ProgramGraph.Ends.{added}

-- the end on one side
abbrev pub along : NodeEnds → Bool → Option ℕ
along e taken = end_along e.next e.jump taken

abbrev pub no_ends : NodeEnds
no_ends = record { next = None; jump = None }

-- Each end is that of one of these edges, and there is one for each of them.
pub record AreEndsOf (edges : List Edge) (ends : List NodeEnds) : Type 0 where
  pub each : (k : ℕ) (taken : Bool) (to : ℕ) → k < length ends → along (get_or ends k no_ends) taken ≡ Some to → Contains edges (edge k taken to)
  pub some : All (λ x. is_some (along (get_or ends x.from no_ends) x.taken) ≡ true) edges

-- the side that is added, or another one
added_each : (e : NodeEnds) (side taken : Bool) (to at : ℕ) → along (added e side to) taken ≡ Some at → ((side ≡ taken) × (to ≡ at)) ⊎ (along e taken ≡ Some at)
added_each e true true to at h = inl (refl, cc h)
added_each e true false to at h = inr h
added_each e false true to at h = inr h
added_each e false false to at h = inl (refl, cc h)

added_here : (e : NodeEnds) (side : Bool) (to : ℕ) → is_some (along (added e side to) side) ≡ true
added_here e true to = refl
added_here e false to = refl

added_still : (e : NodeEnds) (side taken : Bool) (to : ℕ) → is_some (along e taken) ≡ true → is_some (along (added e side to) taken) ≡ true
added_still e true true to h = refl
added_still e true false to h = h
added_still e false true to h = h
added_still e false false to h = refl

same_or : (i j : ℕ) → (i ≡ j) ⊎ (i ≢ j)
same_or i j = elim (cases_order i j) [
  | inl e ↦ inl e
  | inr (inl l) ↦ inr (λ e. absurd (omega arith))
  | inr (inr l) ↦ inr (λ e. absurd (omega arith))
]

module _ (edges : List Edge) (ends : List NodeEnds) (x : Edge) (h : AreEndsOf edges ends) (below : x.from < length ends) where
  abbrev more : NodeEnds
  more = added (get_or ends x.from no_ends) x.taken x.to

  abbrev new : List NodeEnds
  new = set ends x.from more

  here : get_or new x.from no_ends ≡ more
  here = get_or-set_same ends x.from more no_ends below

  own : (taken : Bool) (to : ℕ) → ((x.taken ≡ taken) × (x.to ≡ to)) ⊎ (along (get_or ends x.from no_ends) taken ≡ Some to) → Contains (edges ++ x ∷ []) (edge x.from taken to)
  own taken to (inl (side, at)) =
      let one : edge x.from taken to ≡ x = ap (λ b. edge x.from b to) (sym side) ∙ ap (λ n. edge x.from x.taken n) (sym at) in
      subst (Contains (edges ++ x ∷ [])) (sym one) (Contains-push edges x)
  own taken to (inr was) = Contains-append_left edges (x ∷ []) (edge x.from taken to) (h.each x.from taken to below was)

  each : (k : ℕ) (taken : Bool) (to : ℕ) → k < length ends → (k ≡ x.from) ⊎ (k ≢ x.from) → along (get_or new k no_ends) taken ≡ Some to → Contains (edges ++ x ∷ []) (edge k taken to)
  each k taken to lt (inl e) is =
      let at : along more taken ≡ Some to = ap (λ z. along z taken) (sym here) ∙ ap (λ n. along (get_or new n no_ends) taken) (sym e) ∙ is in
      subst (λ n. Contains (edges ++ x ∷ []) (edge n taken to)) (sym e) (own taken to (added_each (get_or ends x.from no_ends) x.taken taken x.to to at))
  each k taken to lt (inr n) is =
      Contains-append_left edges (x ∷ []) (edge k taken to) (h.each k taken to lt (ap (λ z. along z taken) (sym (get_or-set_other ends x.from k more no_ends n)) ∙ is))

  still : (k : ℕ) (taken : Bool) → is_some (along (get_or ends k no_ends) taken) ≡ true → (k ≡ x.from) ⊎ (k ≢ x.from) → is_some (along (get_or new k no_ends) taken) ≡ true
  still k taken s (inl e) =
      ap (λ n. is_some (along (get_or new n no_ends) taken)) e ∙ ap (λ z. is_some (along z taken)) here
      ∙ added_still (get_or ends x.from no_ends) x.taken taken x.to (ap (λ n. is_some (along (get_or ends n no_ends) taken)) (sym e) ∙ s)
  still k taken s (inr n) = ap (λ z. is_some (along z taken)) (get_or-set_other ends x.from k more no_ends n) ∙ s

  abbrev Has : Edge → Type 0
  Has y = is_some (along (get_or new y.from no_ends) y.taken) ≡ true

  with_one : AreEndsOf (edges ++ x ∷ []) new
  with_one = record {
    each = λ k taken to lt is. each k taken to (subst (λ n. k < n) (length-set ends x.from more) lt) (same_or k x.from) is;
    some = All-append Has edges (x ∷ []) (λ i d lt. still (get_or edges i d).from (get_or edges i d).taken (h.some i d lt) (same_or (get_or edges i d).from x.from))
        (All-cons Has x [] (ap (λ e. is_some (along e x.taken)) here ∙ added_here (get_or ends x.from no_ends) x.taken x.to) (All-nil Has));
  }

pub one_more : (edges : List Edge) (ends : List NodeEnds) (x : Edge) → AreEndsOf edges ends → x.from < length ends → AreEndsOf (edges ++ x ∷ []) (set ends x.from (added (get_or ends x.from no_ends) x.taken x.to))
one_more edges ends x h below = with_one edges ends x h below

-- a step of the loop over the edges
pub next_edge : (edges : List Edge) (ends : List NodeEnds) (at n : ℕ) (x d : Edge) (old more : NodeEnds) → AreEndsOf (take at edges) ends → length ends ≡ n → at < length edges → x ≡ get_or edges at d → x.from < n → old ≡ get_or ends x.from old
    → more ≡ added old x.taken x.to → (length (set ends x.from more) ≡ n) × AreEndsOf (take (at + 1) edges) (set ends x.from more)
next_edge edges ends at n x d old more are size below is inside was made =
    let lt : x.from < length ends = omega (arith, size, inside) in
    let here : old ≡ get_or ends x.from no_ends = was ∙ get_or_default ends x.from old no_ends lt in
    let whole : take (at + 1) edges ≡ take at edges ++ x ∷ [] = take_more edges at d below ∙ ap (λ y. take at edges ++ y ∷ []) (sym is) in
    let own : more ≡ added (get_or ends x.from no_ends) x.taken x.to = made ∙ ap (λ e. added e x.taken x.to) here in (
      length-set ends x.from more ∙ size,
      subst (λ e. AreEndsOf (take (at + 1) edges) (set ends x.from e)) (sym own) (subst (λ es. AreEndsOf es (set ends x.from (added (get_or ends x.from no_ends) x.taken x.to))) (sym whole) (one_more (take at edges) ends x are lt)),
    )
