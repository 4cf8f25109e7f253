-- Edges lead to every node that is to come.
use Rattle.std.proofs.Common.{◌≡◌, ℕ, ◌+◌, ◌<◌, ◌≤◌, ◌⊎◌, inl, inr, List, [], ◌∷◌, ◌++◌, length, get_or, refl, sym, ◌∙◌, subst, arith}
use Rattle.std.specs.Prelude.{All, Contains}
use Rattle.std.proofs.lemmas.Bool.{cases_lt}
use Rattle.std.proofs.lemmas.List.Elements.{All-nil, All-cons, All-append, All-contains, Contains-append_left, Contains-append_right}
use Rattle.kind_core.specs.declared.kind.Offsets.TheVariants.{Fixed}
use Rattle.kind_core.specs.Kinds as kinds
use Rattle.operator_cells.specs.declared.held_cells.way.Way.{Way}
use Rattle.operator_cells.specs.HeldCells.Paths.{EdgeView, GraphView, node_at}
use Rattle.edge_cells.specs.Widening.{AreWider}
use Rattle.edge_cells.specs.NodeCells.Feeding.{known_on, Leave}
use Rattle.predicate_core.specs.ProgramGraph.Sound.{IsSoundGraph}
use Rattle.predicate_core.specs.Feeding.{AreFed, FeedsNodes, SoundGraphsFeed}

module _ (g : GraphView) (sound : IsSoundGraph g) where
  leads_on : (x : EdgeView) → Contains g.edges x → (x.from < x.to) × (x.to < length g.nodes) × AreWider (node_at g.nodes x.to).kinds (known_on g x)
  leads_on x c = All-contains (λ y. (y.from < y.to) × (y.to < length g.nodes) × AreWider (node_at g.nodes y.to).kinds (known_on g y)) g.edges x sound.edges c

  start : (e : Way) → e.to ≡ 0 → e.kinds ≡ kinds.start Fixed → AreFed g 0 (e ∷ [])
  start e first is = record {
    wider = All-cons (λ x. 0 ≤ x.to → AreWider (node_at g.nodes x.to).kinds x.kinds) e []
        (λ l. subst (λ (n : ℕ). AreWider (node_at g.nodes n).kinds e.kinds) (sym first) (subst (AreWider (node_at g.nodes 0).kinds) (sym is) sound.begins)) (All-nil (λ x. 0 ≤ x.to → AreWider (node_at g.nodes x.to).kinds x.kinds));
    some = λ n l h. by n h (cases_lt 0 n);
  }
    where
      by : (n : ℕ) → n < length g.nodes → (0 < n) ⊎ (n ≤ 0) → ((x : Way) × Contains (e ∷ []) x × (x.to ≡ n)) ⊎ ((x : EdgeView) × Contains g.edges x × (x.to ≡ n) × (0 ≤ x.from))
      by n h (inl l) = let x = sound.reached n l h in inr (x.0, x.1, x.2, omega arith)
      by n h (inr l) = inl (e, (0, omega arith, refl), first ∙ (let f : 0 ≡ n = omega (arith, l) in f))

  wider_more : (k : ℕ) (more : List Way) → Leave g k more → All (λ e. AreWider (node_at g.nodes e.to).kinds e.kinds) more
  wider_more k more leave i d l =
      let x = leave.each i d l in
      let p = leads_on x.0 x.1 in
      subst (λ (n : ℕ). AreWider (node_at g.nodes n).kinds (get_or more i d).kinds) x.3 (subst (AreWider (node_at g.nodes x.0.to).kinds) (sym x.4) p.2)

  follow : (k : ℕ) (ways more : List Way) → AreFed g k ways → Leave g k more → AreFed g (k + 1) (ways ++ more)
  follow k ways more fed leave = record {
    wider = All-append (λ e. k + 1 ≤ e.to → AreWider (node_at g.nodes e.to).kinds e.kinds) ways more
        (λ i d l b. fed.wider i d l (omega (arith, b)))
        (λ i d l b. wider_more k more leave i d l);
    some = λ n l h. by n (fed.some n (omega (arith, l)) h);
  }
    where
      made : (n : ℕ) → (x : EdgeView) → Contains g.edges x → x.to ≡ n → (k < x.from) ⊎ (x.from ≤ k) → k ≤ x.from
          → ((e : Way) × Contains (ways ++ more) e × (e.to ≡ n)) ⊎ ((y : EdgeView) × Contains g.edges y × (y.to ≡ n) × (k + 1 ≤ y.from))
      made n x c is (inl b) low = inr (x, c, is, omega (arith, b))
      made n x c is (inr b) low =
          let e = leave.all x c (omega (arith, b, low)) in
          inl (e.0, Contains-append_right ways more e.0 e.1, e.2 ∙ is)

      by : (n : ℕ) → ((e : Way) × Contains ways e × (e.to ≡ n)) ⊎ ((x : EdgeView) × Contains g.edges x × (x.to ≡ n) × (k ≤ x.from))
          → ((e : Way) × Contains (ways ++ more) e × (e.to ≡ n)) ⊎ ((y : EdgeView) × Contains g.edges y × (y.to ≡ n) × (k + 1 ≤ y.from))
      by n (inl e) = inl (e.0, Contains-append_left ways more e.0 e.1, e.2)
      by n (inr x) = made n x.0 x.1 x.2 (cases_lt k x.0.from) x.3

  here : (k : ℕ) (ways : List Way) → k < length g.nodes → AreFed g k ways → ((e : Way) × Contains ways e × (e.to ≡ k)) × All (λ e. e.to ≡ k → AreWider (node_at g.nodes k).kinds e.kinds) ways
  here k ways h fed = (by (fed.some k (omega arith) h), λ i d l is. subst (λ (n : ℕ). AreWider (node_at g.nodes n).kinds (get_or ways i d).kinds) is (fed.wider i d l (omega (arith, is))))
    where
      by : ((e : Way) × Contains ways e × (e.to ≡ k)) ⊎ ((x : EdgeView) × Contains g.edges x × (x.to ≡ k) × (k ≤ x.from)) → (e : Way) × Contains ways e × (e.to ≡ k)
      by (inl e) = e
      by (inr x) = let p = leads_on x.0 x.1 in absurd (omega (arith, p.0, x.2, x.3))

  pub feeds : FeedsNodes g
  feeds = record { start = start; follow = follow; here = here }

pub sound_graphs_feed : SoundGraphsFeed
sound_graphs_feed g sound = feeds g sound
