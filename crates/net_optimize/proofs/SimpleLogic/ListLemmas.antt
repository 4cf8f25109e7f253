-- Sections of designs, one item longer, and what is known of one wire more.
use Rattle.std.specs.Prelude.{◌≡◌, ℕ, suc, ◌<◌, Option, None, List, [], ◌∷◌, ◌++◌, length, map as map_list}
use Rattle.std.proofs.Common.{get_or, refl, sym, ap, ◌∙◌, arith, subst, inl, inr, length-append}
use Rattle.std.proofs.lemmas.Bool.{cases_lt, cases_eq}
use Rattle.std.proofs.Math.ListN.{get_or-map}
use Rattle.std.proofs.lemmas.List.{length-map, map-append, get_or_past, get_or_append_left, get_or_push}
use Rattle.net_core.specs.declared.tree.Net.{Net}
use Rattle.net_core.specs.declared.tree.Net.TheVariants as net
use Rattle.net_core.specs.declared.tree.Expr.{Expr}
use Rattle.net_core.specs.declared.tree.Stmt.{Stmt}
use Rattle.net_core.specs.declared.design.Wire.{Wire}
use Rattle.net_core.specs.Nets.{StatementTree, WireTree, AssignTree}
use Rattle.net_core.specs.View.{right_of, wire_of, statement_of}
use Rattle.net_core.specs.Value.{Env, right_value}
use Rattle.net_core.specs.Clock.{Stored, done, edge, assigned, rights, stopped_at}
use Rattle.net_rules.specs.NetSizes.Fitting.{Fits, AreFitting}
use Rattle.net_rules.specs.LogicRules.Known.{IsValued, AreKnown}
use Rattle.design_rules.specs.SolvedWires.Solving.{Solves}
use Rattle.design_rules.proofs.SolvedWires.SolvingLaws.{solved_at}
use Rattle.register_rules.specs.NarrowRegisters.Narrow.{Each}
use Rattle.register_rules.proofs.NarrowRegisters.EachLaws.{each_append}
use Rattle.net_optimize.specs.SimpleLogic.Simple.{IsSameWire, IsSameAssign}

-- ---- two lists, one longer
-- what is pushed stands for the next one
pub each_pushed : {A B : Type 0} (R : B → B → Type 0) (f : A → B) (before : List B) (old new : List A) (x : B) (y : A) (whole : List B) → whole ≡ before ++ x ∷ [] → new ≡ old ++ y ∷ [] → Each R before (map_list f old) → R x (f y)
    → Each R whole (map_list f new)
each_pushed R f before old new x y whole p q h e =
    subst (λ l. Each R l (map_list f new)) (sym p)
    (subst (λ l. Each R (before ++ x ∷ []) l) (sym (ap (map_list f) q ∙ map-append f old (y ∷ [])))
    (each_append R before (map_list f old) x (f y) h e))

pub each_counted : {A : Type 0} (R : A → A → Type 0) (xs ys : List A) → Each R xs ys → length xs ≡ length ys
each_counted R [] [] h = refl
each_counted R [] (b ∷ bs) h = absurd h
each_counted R (a ∷ rest) [] h = absurd h
each_counted R (a ∷ rest) (b ∷ bs) h = ap suc (each_counted R rest bs h.1)

-- ---- statements
pub edge_push : (v : Env Net) (xs : List (Stmt Net)) (x : Stmt Net) (s : Stored) → edge v (map_list statement_of (xs ++ x ∷ [])) s ≡ done v (statement_of x) (edge v (map_list statement_of xs) s)
edge_push v [] x s = refl
edge_push v (y ∷ xs) x s = edge_push v xs x (done v (statement_of y) s)

pub edge_append : (v : Env Net) (xs : List (StatementTree Net)) (x : StatementTree Net) (s : Stored) → edge v (xs ++ x ∷ []) s ≡ done v x (edge v xs s)
edge_append v [] x s = refl
edge_append v (y ∷ xs) x s = edge_append v xs x (done v y s)

module _ (v : Env Net) where
  -- ---- sections of the same values
  pub assigned_same : (a b : List AssignTree) → Each (IsSameAssign v) a b → (port : ℕ) → assigned v b port ≡ assigned v a port
  assigned_same [] [] h port = refl
  assigned_same [] (b ∷ bs) h port = absurd h
  assigned_same (a ∷ rest) [] h port = absurd h
  assigned_same (a ∷ rest) (b ∷ bs) h port = rw (h.0.0, h.0.1, assigned_same rest bs h.1 port) refl

  pub solves_same : (at : ℕ) (a b : List WireTree) → Solves v at a → Each (IsSameWire v) a b → Solves v at b
  solves_same at [] [] s h = tt
  solves_same at [] (b ∷ bs) s h = absurd h
  solves_same at (a ∷ rest) [] s h = absurd h
  solves_same at (a ∷ rest) (b ∷ bs) s h = (h.0.value ∙ s.0, solves_same (suc at) rest bs s.1 h.1)

  pub stops_same : (at : ℕ) (a b : List WireTree) → Each (IsSameWire v) a b → stopped_at v at (rights b) ≡ stopped_at v at (rights a)
  stops_same at [] [] h = refl
  stops_same at [] (b ∷ bs) h = absurd h
  stops_same at (a ∷ rest) [] h = absurd h
  stops_same at (a ∷ rest) (b ∷ bs) h = rw (h.0.stops, stops_same (suc at) rest bs h.1) refl

-- ---- one wire more
pub wire_at : (v : Env Net) (xs : List Wire) (i : ℕ) (w : Wire) → w ≡ get_or xs i w → i < length xs → Solves v 0 (map_list wire_of xs) → right_value v (right_of w.right) ≡ v.net (net.Wire i)
wire_at v xs i w is l s =
    ap (λ (x : WireTree). right_value v x.right) (ap wire_of is ∙ sym (get_or-map wire_of xs i w))
    ∙ solved_at v 0 i (map_list wire_of xs) (wire_of w) s (omega (arith, l, length-map xs wire_of)) ∙ ap (λ k. v.net (net.Wire k)) (omega arith)

pushed : {A : Type 0} (P : A → ℕ → Type 0) (xs : List A) (x d : A) → ((i : ℕ) → P (get_or xs i d) i) → P x (length xs) → ((i : ℕ) → P d i) → (i : ℕ) → P (get_or (xs ++ x ∷ []) i d) i
pushed P xs x d h e none i = elim (cases_lt i (length xs)) [
  | inl lt ↦ subst (λ y. P y i) (sym (get_or_append_left xs (x ∷ []) d i lt)) (h i)
  | inr past ↦ elim (cases_eq i (length xs)) [
    | inl here ↦ subst (λ y. P y i) (sym (get_or_push xs x d i (sym here))) (subst (P x) (sym here) e)
    | inr other ↦ subst (λ y. P y i) (sym (get_or_past (xs ++ x ∷ []) i d (omega (arith, length-append xs (x ∷ []))))) (none i)
  ]
]

pub fit_append : (v : Env Net) (registers wires : List ℕ) (size : ℕ) → AreFitting (record { registers = registers; wires = wires }) v → Fits size (v.net (net.Wire (length wires)))
    → AreFitting (record { registers = registers; wires = wires ++ size ∷ [] }) v
fit_append v registers wires size h e (net.Port i) = h (net.Port i)
fit_append v registers wires size h e (net.Register i) = h (net.Register i)
fit_append v registers wires size h e (net.Memory i) = h (net.Memory i)
fit_append v registers wires size h e (net.Wire i) = pushed (λ n k. Fits n (v.net (net.Wire k))) wires size 0 (λ k. h (net.Wire k)) e (λ k z. absurd (omega arith)) i

pub known_append : (v : Env Net) (known : List (Option (Expr Net))) (x : Option (Expr Net)) → AreKnown v known → IsValued v x (v.net (net.Wire (length known))) → AreKnown v (known ++ x ∷ [])
known_append v known x h e = pushed (λ fact k. IsValued v fact (v.net (net.Wire k))) known x None h e (λ k. tt)
