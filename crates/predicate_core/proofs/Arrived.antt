-- Where edges lead to a node.
use Rattle.std.proofs.Common.{◌≡◌, ℕ, ◌<◌, ◌≤◌, Bool, true, false, List, ◌++◌, length, get_or, sym, ◌∙◌, ap, subst, arith}
use Rattle.std.specs.Prelude.{All, Contains}
use Rattle.std.proofs.lemmas.List.Elements.{All-contains, Contains-get_or}
use Rattle.xdp_machine.specs.xdp_maps.declared.decl.MapDecl.{MapDecl}
use Rattle.xdp_machine.specs.State.{PacketIn}
use Rattle.kind_core.specs.declared.kind.Kinds.{Kinds}
use Rattle.cell_core.specs.Cells.{CellView, IsRun, bit}
use Rattle.operator_cells.specs.Making.{Grows}
use Rattle.operator_cells.proofs.MakingLaws.{grown}
use Rattle.operator_cells.specs.declared.held_cells.machine_cells.RegisterCells.{RegisterCells}
use Rattle.operator_cells.specs.declared.held_cells.way.Way.{Way}
use Rattle.operator_cells.specs.HeldCells.Paths.{Stage, node_at, stands_at}
use Rattle.operator_cells.specs.HeldCells.RegisterCells.{PointerView, AreInside}
use Rattle.operator_cells.specs.HeldCells.Steps.{IsGood, IsHere}
use Rattle.edge_cells.specs.Widening.{AreWider}
use Rattle.edge_cells.specs.Joining.{Joins, LeadTo, HereIsRight}
use Rattle.edge_cells.proofs.ExtendingLaws.{inside_later, extends_none}
use Rattle.predicate_core.specs.Arriving.{IsOwn, ArrivesAt}

pub lead_each : (P : Way → Type 0) (k : ℕ) (ways here : List Way) → LeadTo k ways here → All P ways → All P here
lead_each P k ways here lead all i d l = All-contains P ways (get_or here i d) all (lead.among (get_or here i d) (Contains-get_or here i d l))

pub lead_wider : (kinds : Kinds) (k : ℕ) (ways here : List Way) → LeadTo k ways here → All (λ e. e.to ≡ k → AreWider kinds e.kinds) ways → All (λ e. AreWider kinds e.kinds) here
lead_wider kinds k ways here lead all i d l = lead_each (λ e. e.to ≡ k → AreWider kinds e.kinds) k ways here lead all i d l (lead.to i d l)

pub lead_some : (k : ℕ) (ways here : List Way) → LeadTo k ways here → (e : Way) × Contains ways e × (e.to ≡ k) → 1 ≤ length here
lead_some k ways here lead e = let c = lead.all e.0 e.1 e.2 in omega (arith, c.1)

-- ---- all of them

pub bit_small : (b : Bool) → bit b < 2
bit_small true = omega arith
bit_small false = omega arith

pub arrived : HereIsRight → (decls : List MapDecl) (k : ℕ) (kinds : Kinds) (a b c : List CellView) (ps qs : List PointerView) (ways here : List Way) (guard own : ℕ) (h : RegisterCells) (first : ℕ)
    → LeadTo k ways here → Joins decls a b ps qs here kinds guard h → first ≡ length a → IsOwn b c first guard own → ArrivesAt decls k kinds a ps ways c qs own h
arrived right decls k kinds a b c ps qs ways here guard own h first lead joins from is g t decls_are kinds_are cells_are pointers_are ways_are =
    record {
      grows = subst (λ (xs : List CellView). Grows xs c) (sym cells_are) (grown joins.guards.grows is.grows);
      extends = record { more = joins.extends.more; is = joins.extends.is ∙ ap (λ (xs : List PointerView). xs ++ joins.extends.more) (sym pointers_are) };
      own = (omega (arith, ap length cells_are, from, is.own), is.there);
      inside = subst (λ (ds : List MapDecl). AreInside ds (length c) qs h (node_at g.nodes k).kinds) (sym decls_are)
          (subst (AreInside decls (length c) qs h) (sym kinds_are) (inside_later decls (length b) (length c) qs qs h kinds is.grows.longer (extends_none qs) joins.inside));
      here = at;
    }
  where
    joined : Joins g.decls a b ps qs here (node_at g.nodes k).kinds guard h
    joined = subst (λ (ds : List MapDecl). Joins ds a b ps qs here (node_at g.nodes k).kinds guard h) (sym decls_are) (subst (λ (j : Kinds). Joins decls a b ps qs here j guard h) (sym kinds_are) joins)

    at : (packet : PacketIn) (v : ℕ → ℕ) (s : Stage) → IsRun packet c v → IsGood g packet v t.pointers k t.ways t.exits s → IsHere g packet v qs k own h s
    at packet v s run good =
        let x = right g packet v ps qs k a b ways here t.exits guard h s joined lead (is.grows.run packet v run)
        (subst (λ (ws : List Way). IsGood g packet v ps k ws t.exits s) ways_are (subst (λ (xs : List PointerView). IsGood g packet v xs k t.ways t.exits s) pointers_are good)) in
        record {
          guard_is = is.value packet v run (omega (arith, x.guard_is, bit_small (stands_at k s))) ∙ x.guard_is;
          placed = x.placed;
          known = x.known;
        }
