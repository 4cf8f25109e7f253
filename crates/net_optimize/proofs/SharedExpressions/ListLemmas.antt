-- Sections of designs, one item longer.
use Rattle.std.specs.Prelude.{◌≡◌, ℕ, zero, suc, ◌+◌, ◌<◌, if◌then◌else◌, Bool, true, false, Option, Some, None, List, [], ◌∷◌, ◌++◌, length, map as map_list, take}
use Rattle.std.proofs.Common.{get_or, refl, sym, ap, ◌∙◌, arith}
use Rattle.std.proofs.Math.ListN.{get_or-map}
use Rattle.std.proofs.lemmas.List.{length-map, take_more}
use Rattle.net_core.specs.declared.tree.Net.{Net}
use Rattle.net_core.specs.declared.tree.Net.TheVariants as net
use Rattle.net_core.specs.declared.tree.Stmt.{Stmt}
use Rattle.net_core.specs.declared.design.Wire.{Wire}
use Rattle.net_core.specs.Nets.{WireTree, AssignTree, StatementTree, SEnd}
use Rattle.net_core.specs.View.{right_of, wire_of, statement_of}
use Rattle.net_core.specs.Value.{Env, value, right_value, stops}
use Rattle.net_core.specs.Clock.{Stored, done, all_done, edge, assigned, rights, stopped_at}
use Rattle.net_core.specs.Chains.{statements_before}
use Rattle.design_rules.specs.SolvedWires.Solving.{Solves}
use Rattle.design_rules.proofs.SolvedWires.SolvingLaws.{solved_at}
use Rattle.net_optimize.specs.SharedExpressions.Standing.{ArePlaced, NoneStops, AreShown}

-- ---- statements
pub edge_push : (v : Env Net) (xs : List (Stmt Net)) (x : Stmt Net) (s : Stored) → edge v (map_list statement_of (xs ++ x ∷ [])) s ≡ done v (statement_of x) (edge v (map_list statement_of xs) s)
edge_push v [] x s = refl
edge_push v (y ∷ xs) x s = edge_push v xs x (done v (statement_of y) s)

pub block_done : (v : Env Net) (xs : List (StatementTree Net)) (s : Stored) → all_done v (statements_before xs SEnd) s ≡ edge v xs s
block_done v [] s = refl
block_done v (x ∷ xs) s = block_done v xs (done v x s)

pub edge_append : (v : Env Net) (xs : List (StatementTree Net)) (x : StatementTree Net) (s : Stored) → edge v (xs ++ x ∷ []) s ≡ done v x (edge v xs s)
edge_append v [] x s = refl
edge_append v (y ∷ xs) x s = edge_append v xs x (done v y s)

module _ (v u : Env Net) where
  -- ---- outputs
  pub shown_append : (a b : List AssignTree) (x y : AssignTree) → AreShown v u a b → y.port ≡ x.port → value v y.value ≡ value u x.value → AreShown v u (a ++ x ∷ []) (b ++ y ∷ [])
  shown_append [] [] x y h p e = (p, e, tt)
  shown_append [] (b ∷ bs) x y h p e = absurd h
  shown_append (a ∷ rest) [] x y h p e = absurd h
  shown_append (a ∷ rest) (b ∷ bs) x y h p e = (h.0, h.1, shown_append rest bs x y h.2 p e)

  pub assigned_shown : (a b : List AssignTree) → AreShown v u a b → (port : ℕ) → assigned v b port ≡ assigned u a port
  assigned_shown [] [] h port = refl
  assigned_shown [] (b ∷ bs) h port = absurd h
  assigned_shown (a ∷ rest) [] h port = absurd h
  assigned_shown (a ∷ rest) (b ∷ bs) h port = rw (h.0, h.1, assigned_shown rest bs h.2 port) refl

  -- ---- wires at their numbers
  pub placed_append : (ns : List ℕ) (ws : List WireTree) (n : ℕ) (w : WireTree) → ArePlaced v u ns ws → right_value u w.right ≡ v.net (net.Wire n) → ArePlaced v u (ns ++ n ∷ []) (ws ++ w ∷ [])
  placed_append [] [] n w h e = (e, tt)
  placed_append [] (x ∷ ws) n w h e = absurd h
  placed_append (m ∷ ns) [] n w h e = absurd h
  placed_append (m ∷ ns) (x ∷ ws) n w h e = (h.0, placed_append ns ws n w h.1 e)

  pub placed_counted : (ns : List ℕ) (ws : List WireTree) → ArePlaced v u ns ws → length ns ≡ length ws
  placed_counted [] [] h = refl
  placed_counted [] (x ∷ ws) h = absurd h
  placed_counted (m ∷ ns) [] h = absurd h
  placed_counted (m ∷ ns) (x ∷ ws) h = ap suc (placed_counted ns ws h.1)

  pub solves_placed : (at : ℕ) (ns : List ℕ) (ws : List WireTree) → ((i : ℕ) → i < length ns → v.net (net.Wire (get_or ns i 0)) ≡ u.net (net.Wire (at + i))) → ArePlaced v u ns ws → Solves u at ws
  solves_placed at [] [] h p = tt
  solves_placed at [] (x ∷ ws) h p = absurd p
  solves_placed at (n ∷ ns) [] h p = absurd p
  solves_placed at (n ∷ ns) (x ∷ ws) h p = (
    p.0 ∙ h 0 (omega arith) ∙ ap (λ k. u.net (net.Wire k)) (omega arith),
    solves_placed (suc at) ns ws (λ i l. h (suc i) (omega (arith, l)) ∙ ap (λ k. u.net (net.Wire k)) (omega arith)) p.1,
  )

module _ (v : Env Net) where
  -- ---- divisors
  pub none_append : (ws : List WireTree) (w : WireTree) → NoneStops v ws → stops v w.right ≡ false → NoneStops v (ws ++ w ∷ [])
  none_append [] w h e = (e, tt)
  none_append (x ∷ ws) w h e = (h.0, none_append ws w h.1 e)

  pub none_parts : (ws : List WireTree) (w : WireTree) → NoneStops v (ws ++ w ∷ []) → NoneStops v ws × (stops v w.right ≡ false)
  none_parts [] w h = (tt, h.0)
  none_parts (x ∷ ws) w h = let t = none_parts ws w h.1 in ((h.0, t.0), t.1)

  not_stopped : (stop : Bool) (at : ℕ) (later : Option ℕ) → (if stop then Some at else later) ≡ None → (stop ≡ false) × (later ≡ None)
  not_stopped true at later h = cc
  not_stopped false at later h = (refl, h)

  pub none_stops : (at : ℕ) (ws : List WireTree) → stopped_at v at (rights ws) ≡ None → NoneStops v ws
  none_stops at [] h = tt
  none_stops at (w ∷ ws) h = let g = not_stopped (stops v w.right) at (stopped_at v (suc at) (rights ws)) h in (g.0, none_stops (suc at) ws g.1)

  pub none_stopped : (at : ℕ) (ws : List WireTree) → NoneStops v ws → stopped_at v at (rights ws) ≡ None
  none_stopped at [] h = refl
  none_stopped at (w ∷ ws) h = rw h.0 (none_stopped (suc at) ws h.1)

  -- the value of a wire's right side
  pub wire_at : (xs : List Wire) (i : ℕ) (w : Wire) → w ≡ get_or xs i w → i < length xs → Solves v 0 (map_list wire_of xs) → right_value v (right_of w.right) ≡ v.net (net.Wire i)
  wire_at xs i w is l s =
      ap (λ (x : WireTree). right_value v x.right) (ap wire_of is ∙ sym (get_or-map wire_of xs i w))
      ∙ solved_at v 0 i (map_list wire_of xs) (wire_of w) s (omega (arith, l, length-map xs wire_of)) ∙ ap (λ k. v.net (net.Wire k)) (omega arith)

-- ---- lists
pub take_next : (xs : List Wire) (i : ℕ) (w : Wire) → i < length xs → w ≡ get_or xs i w → take (i + 1) (map_list wire_of xs) ≡ take i (map_list wire_of xs) ++ wire_of w ∷ []
take_next xs i w l is =
    take_more (map_list wire_of xs) i (wire_of w) (omega (arith, l, length-map xs wire_of)) ∙ ap (λ x. take i (map_list wire_of xs) ++ x ∷ []) (get_or-map wire_of xs i w ∙ sym (ap wire_of is))

pub same_default : (xs : List Wire) (i : ℕ) (w : Wire) → i < length xs → get_or xs i w ≡ get_or xs i (get_or xs i w)
same_default [] i w l = absurd (omega arith)
same_default (x ∷ xs) zero w l = refl
same_default (x ∷ xs) (suc i) w l = same_default xs i w (omega (arith, l))
