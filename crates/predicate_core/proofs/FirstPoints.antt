-- With the edge to the first node alone no pointer is held.
use Rattle.std.proofs.Common.{◌≡◌, ℕ, ◌<◌, ◌≤◌, true, false, Some, [], length, refl, sym, ◌∙◌, ap, subst, arith}
use Rattle.std.specs.Prelude.{All}
use Rattle.std.proofs.lemmas.List.Elements.{All-nil, All-cons, All-contains}
use Rattle.kind_core.specs.declared.kind.Kind.{Kind}
use Rattle.kind_core.specs.declared.kind.Kind.TheVariants.{Maybe, Entry}
use Rattle.kind_core.specs.declared.kind.Kinds.{Kinds}
use Rattle.kind_core.specs.declared.kind.Offsets.TheVariants.{Fixed}
use Rattle.kind_core.specs.Kinds as kinds
use Rattle.cell_core.specs.Cells.{on}
use Rattle.operator_cells.specs.row_rules.PlaceRows.Origins.{is_open}
use Rattle.operator_cells.specs.declared.held_cells.machine_cells.RegisterCells.{RegisterCells}
use Rattle.operator_cells.specs.declared.held_cells.way.Way.{Way}
use Rattle.operator_cells.specs.HeldCells.Rows.{kind_at, number_at}
use Rattle.operator_cells.specs.HeldCells.Pointing.{Pointing, pointing_as, HoldsPointer, AreLookedUp, RegisterCellsAre}
use Rattle.predicate_core.specs.Laws.{OpensPoint}
use Rattle.predicate_core.proofs.FirstFits.{start_closed}
use Rattle.predicate_core.proofs.Pointers.{low_place}

pointer_open : (a : Kind) (c : ℕ) (x : Pointing) → pointing_as a c ≡ Some x → is_open a ≡ true
pointer_open (Maybe q n) c x e = refl
pointer_open (Entry q o) c x e = refl
pointer_open a c x e = cc

holds_none : (k : Kinds) (h : RegisterCells) (x : Pointing) → k ≡ kinds.start Fixed → HoldsPointer k h x → ⊥
holds_none k h x is (place, e) =
    let closed : is_open (kind_at k place) ≡ false = ap (λ (j : Kinds). is_open (kind_at j place)) is ∙ start_closed place (low_place k h place x e) in
    let open_there = pointer_open (kind_at k place) (number_at h place) x e in
    cc

pub opens_point : OpensPoint
opens_point decls t e ways_are none opens = record {
  ascending = λ i j d l h. absurd (let n = ap length none in omega (arith, h, n));
  each = λ packet v u run follows. record {
    bits = all (λ w. v w.bit < 2) (omega (arith, opens.bit packet v run));
    one = λ x y a b l m o p. All-contains to_one t.ways x (all to_one refl) a ∙ sym (All-contains to_one t.ways y (all to_one refl) b);
    held = all (λ w. 0 ≤ w.to → on (v w.bit) ≡ true → AreLookedUp decls t.cells t.sites v u t.pointers w.kinds w.held) (λ l o x holds. absurd (holds_none e.kinds e.held x opens.kinds_are holds));
    accesses = λ j l. absurd (let n = ap length none in omega (arith, l, n));
    into = λ m n founds. record {
      held = all (λ w. RegisterCellsAre u m n t.pointers w.kinds w.held) (λ x holds. absurd (holds_none e.kinds e.held x opens.kinds_are holds));
      accesses = λ j l. absurd (let n = ap length none in omega (arith, l, n));
    };
  };
}
  where
    to_one : Way → Type 0
    to_one w = w.to ≡ e.to

    all : (P : Way → Type 0) → P e → All P t.ways
    all P p = subst (All P) (sym ways_are) (All-cons P e [] p (All-nil P))
