-- Sections of designs, one item longer.
use Rattle.std.specs.Prelude.{◌≡◌, ℕ, zero, suc, ◌+◌, ◌<◌, Option, None, List, [], ◌∷◌, ◌++◌, length, map as map_list, take}
use Rattle.std.proofs.Common.{get_or, refl, ap, ◌∙◌, arith, subst}
use Rattle.net_core.specs.declared.tree.Net.{Net}
use Rattle.net_core.specs.declared.tree.Net.TheVariants.{Wire}
use Rattle.net_core.specs.declared.tree.Expr.{Expr}
use Rattle.net_core.specs.Nets.{StatementTree, WireTree, AssignTree}
use Rattle.net_core.specs.Value.{Env, value, right_value}
use Rattle.net_core.specs.Clock.{Stored, done, edge, assigned, rights, stopped_at}
use Rattle.design_rules.specs.SolvedWires.Solving.{Solves}
use Rattle.design_rules.proofs.SolvedWires.SolvingLaws.{solves_take, solved_at}
use Rattle.net_optimize.specs.Folding.{IsValued, AreKnown, IsSameRight, AreSameWires, AreSameAssigns}

pub edge_append : {N : Type 0} (v : Env N) (xs ys : List (StatementTree N)) (s : Stored) → edge v (xs ++ ys) s ≡ edge v ys (edge v xs s)
edge_append v [] ys s = refl
edge_append v (x ∷ xs) ys s = edge_append v xs ys (done v x s)

pub map_append : {A B : Type 0} (f : A → B) (xs ys : List A) → map_list f (xs ++ ys) ≡ map_list f xs ++ map_list f ys
map_append f [] ys = refl
map_append f (x ∷ xs) ys = ap (λ l. f x ∷ l) (map_append f xs ys)

module _ (v : Env Net) where
  -- ---- outputs
  pub assigns_append : (a b : List AssignTree) (x y : AssignTree) → AreSameAssigns v a b → y.port ≡ x.port → value v y.value ≡ value v x.value → AreSameAssigns v (a ++ x ∷ []) (b ++ y ∷ [])
  assigns_append [] [] x y h p e = (p, e, tt)
  assigns_append [] (b ∷ bs) x y h p e = absurd h
  assigns_append (a ∷ rest) [] x y h p e = absurd h
  assigns_append (a ∷ rest) (b ∷ bs) x y h p e = (h.0, h.1, assigns_append rest bs x y h.2 p e)

  pub assigned_same : (a b : List AssignTree) → AreSameAssigns v a b → (port : ℕ) → assigned v b port ≡ assigned v a port
  assigned_same [] [] h port = refl
  assigned_same [] (b ∷ bs) h port = absurd h
  assigned_same (a ∷ rest) [] h port = absurd h
  assigned_same (a ∷ rest) (b ∷ bs) h port = rw (h.0, h.1, assigned_same rest bs h.2 port) refl

  -- ---- wires
  pub wires_append : (a b : List WireTree) (x y : WireTree) → AreSameWires v a b → IsSameRight v x.right y.right → AreSameWires v (a ++ x ∷ []) (b ++ y ∷ [])
  wires_append [] [] x y h e = (e, tt)
  wires_append [] (b ∷ bs) x y h e = absurd h
  wires_append (a ∷ rest) [] x y h e = absurd h
  wires_append (a ∷ rest) (b ∷ bs) x y h e = (h.0, wires_append rest bs x y h.1 e)

  pub solves_same : (at : ℕ) (a b : List WireTree) → Solves v at a → AreSameWires v a b → Solves v at b
  solves_same at [] [] s h = tt
  solves_same at [] (b ∷ bs) s h = absurd h
  solves_same at (a ∷ rest) [] s h = absurd h
  solves_same at (a ∷ rest) (b ∷ bs) s h = (h.0.value ∙ s.0, solves_same (suc at) rest bs s.1 h.1)

  pub stops_same : (at : ℕ) (a b : List WireTree) → AreSameWires v a b → stopped_at v at (rights b) ≡ stopped_at v at (rights a)
  stops_same at [] [] h = refl
  stops_same at [] (b ∷ bs) h = absurd h
  stops_same at (a ∷ rest) [] h = absurd h
  stops_same at (a ∷ rest) (b ∷ bs) h = rw (h.0.stops, stops_same (suc at) rest bs h.1) refl

  -- ---- what is known
  known_from : (known : List (Option (Expr Net))) (x : Option (Expr Net)) (at : ℕ) → ((i : ℕ) → IsValued v (get_or known i None) (v.net (Wire (at + i))))
      → IsValued v x (v.net (Wire (at + length known))) → (i : ℕ) → IsValued v (get_or (known ++ x ∷ []) i None) (v.net (Wire (at + i)))
  known_from [] x at h e zero = e
  known_from [] x at h e (suc i) = tt
  known_from (k ∷ known) x at h e zero = h 0
  known_from (k ∷ known) x at h e (suc i) =
      subst (λ n. IsValued v (get_or (known ++ x ∷ []) i None) (v.net (Wire n))) (omega arith)
      (known_from known x (suc at) (λ j. subst (λ n. IsValued v (get_or known j None) (v.net (Wire n))) (omega arith) (h (suc j)))
      (subst (λ n. IsValued v x (v.net (Wire n))) (omega arith) e) i)

  pub known_append : (known : List (Option (Expr Net))) (x : Option (Expr Net)) → AreKnown v known → IsValued v x (v.net (Wire (length known))) → AreKnown v (known ++ x ∷ [])
  known_append known x h e i =
      subst (λ n. IsValued v (get_or (known ++ x ∷ []) i None) (v.net (Wire n))) (omega arith)
      (known_from known x 0 (λ j. subst (λ n. IsValued v (get_or known j None) (v.net (Wire n))) (omega arith) (h j))
      (subst (λ n. IsValued v x (v.net (Wire n))) (omega arith) e) i)

  -- ---- one wire more, and what is known of it
  pub wire_step : (all new : List WireTree) (known : List (Option (Expr Net))) (i : ℕ) (w x : WireTree) (fact : Option (Expr Net))
      → Solves v 0 all → AreSameWires v (take i all) new → AreKnown v known → length known ≡ i → i < length all → w ≡ get_or all i w
      → (AreKnown v known → IsSameRight v w.right x.right) → (Solves v 0 new → IsValued v fact (right_value v x.right))
      → AreSameWires v (take i all ++ w ∷ []) (new ++ x ∷ []) × AreKnown v (known ++ fact ∷ [])
  wire_step all new known i w x fact s same known_ n l e right valued =
      let r = right known_ in
      let is : right_value v x.right ≡ v.net (Wire (length known)) =
      r.value ∙ ap (λ (z : WireTree). right_value v z.right) e ∙ solved_at v 0 i all w s l ∙ ap (λ k. v.net (Wire k)) (omega (arith, n)) in (
        wires_append (take i all) new w x same r,
        known_append known fact known_ (subst (λ z. IsValued v fact z) is (valued (solves_same 0 (take i all) new (solves_take v 0 i all s) same))),
      )
