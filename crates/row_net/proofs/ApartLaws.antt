-- Products among the wires of cells, and of the block that has them.
use Rattle.std.specs.Prelude.{Option, if◌then◌else◌}
use Rattle.std.specs.List.{list_all}
use Rattle.std.proofs.Common.{◌≡◌, ◌⊎◌, inl, inr, ℕ, suc, ◌<◌, Bool, true, false, ◌||◌, All, List, [], ◌∷◌, ◌++◌, append_assoc, length, length-append, take, get_or, map, refl, sym, ◌∙◌, ap, subst, arith, slice_index}
use Rattle.std.proofs.lemmas.List.{get_or-take, get_or_at, length-take, length-map}
use Rattle.std.proofs.lemmas.List.Elements.{All-take}
use Rattle.net_core.specs.ProductRules.Products.{statement_flat}
use Rattle.block_core.specs.declared.name.Name.{Name}
use Rattle.block_core.specs.Blocks.{BlockTree, BlockWireTree}
use Rattle.block_core.specs.ProductBlocks.Apart.{is_marked, AreMarked}
use Rattle.block_core.specs.ProductBlocks.Alone.{wire_flat, IsApartAlone}
use Rattle.block_core.proofs.ProductBlocks.FreeLaws.{all_marked}
use Rattle.block_core.proofs.ProductBlocks.CleanLaws.{marked_behind}
use Rattle.overlay_net.specs.cell_core.declared.operator.Operator.{Operator}
use Rattle.overlay_net.specs.cell_core.declared.operator.Operator.TheVariants.{Quotient, Remainder}
use Rattle.overlay_net.specs.cell_core.Cells.{CellView, cell_at}
use Rattle.overlay_net.specs.cell_core.Formed.{divides, takes}
use Rattle.cell_nets.specs.declared.operand.Operand.{Operand}
use Rattle.cell_nets.specs.Apart.{IsClean, Agrees, StayApart}
use Rattle.cell_nets.specs.Computing.{makes_product, taken}
use Rattle.cell_nets.proofs.ApartLaws.{agrees_split, free_marked}
use Rattle.row_net.specs.Table.{Stands, AreOperands}
use Rattle.row_net.specs.Apart.{TakeClean, KeepApart}

-- ---- what an operator takes
pub divides_two : (op : Operator) → divides op ≡ true → takes op ≡ 2
divides_two Quotient h = refl
divides_two Remainder h = refl
divides_two op h = cc

pub taken_all : {X : Type 0} (Q : X → Type 0) (op : Operator) (xs : List X) → All Q xs → All Q (taken op xs)
taken_all Q op xs h = by_test (divides op)
  where
    by_test : (b : Bool) → All Q (if b then take 2 xs else xs)
    by_test true = All-take Q 2 xs h
    by_test false = h

taken_operands : {N : Type 0} (table : List (Option (Operand N))) (op : Operator) (ins : List ℕ) (args : List (Operand N)) → AreOperands table ins args → AreOperands table (taken op ins) (taken op args)
taken_operands table op ins args o = by_test (divides op)
  where
    by_test : (b : Bool) → AreOperands table (if b then take 2 ins else ins) (if b then take 2 args else args)
    by_test true = record {
      count = omega (arith, length-take 2 ins, length-take 2 args, o.count);
      each = λ n d lt.
          let near : n < 2 = omega (arith, length-take 2 ins, lt) in
          let here = o.each n d (omega (arith, length-take 2 ins, lt)) in
          subst (Stands table (slice_index (take 2 ins) n)) (sym (get_or-take 2 args n d near)) (subst (λ k. Stands table k (get_or args n d)) (sym (get_or-take 2 ins n 0 near)) here);
    }
    by_test false = o

either_false : (a b : Bool) → (a || b) ≡ false → (a ≡ false) × (b ≡ false)
either_false false b e = (refl, e)
either_false true b e = cc

-- ---- one cell
module _ {P : Type 0} (p : P) (cells : List CellView) (k : ℕ) (old new : List (BlockWireTree (Name P))) (table after : List (Option (Operand (Name P)))) (args : List (Operand (Name P))) (out : Operand (Name P)) (clean : ℕ → Bool) (marks : List Bool)
    (o : AreOperands table (cell_at cells k).ins args) (stay : StayApart (makes_product (cell_at cells k).op) p old new (taken (cell_at cells k).op args) (out ∷ []))
    (split : (j : ℕ) (b : Operand (Name P)) → Stands after j b → ((j ≡ k) × (b ≡ out)) ⊎ Stands table j b) (t : TakeClean clean cells (k ∷ [])) (keep : KeepApart p clean marks old table) where
  abbrev op : Operator
  op = (cell_at cells k).op

  -- where the cell is clean or a product, so is what it takes
  module _ (all : P → List Bool) (g : Agrees p 0 marks (is_marked all)) (is : (clean k || makes_product op) ≡ true) where
    args_clean : All (IsClean (is_marked all)) (taken op args)
    args_clean n d lt =
        let u = taken_operands table op (cell_at cells k).ins args o in
        let inside : n < length (taken op (cell_at cells k).ins) = omega (arith, u.count, lt) in
        keep.stands all g (slice_index (taken op (cell_at cells k).ins) n) (get_or (taken op args) n d) (t.inputs 0 0 (omega arith) is n 0 inside) (u.each n d inside)

  wires_marked : (own : List Bool) → ((all : P → List Bool) → Agrees p 0 marks (is_marked all) → Agrees p (length old) own (is_marked all) → AreMarked (is_marked all) own stay.more) → (all : P → List Bool) → Agrees p 0 (marks ++ own) (is_marked all) → AreMarked (is_marked all) (marks ++ own) new
  wires_marked own h all g =
      let s = agrees_split p 0 (length old) marks own (is_marked all) (omega (arith, keep.count)) g in
      subst (AreMarked (is_marked all) (marks ++ own)) (sym stay.added) (marked_behind (is_marked all) marks own old stay.more (keep.wires all s.0) (h all s.0 s.1))

  long : (own : List Bool) → length own ≡ length stay.more → length (marks ++ own) ≡ length new
  long own e = omega (arith, length-append marks own, keep.count, e, ap (λ (l : List (BlockWireTree (Name P))). length l) stay.added, length-append old stay.more)

  others_clean : (own : List Bool) → ((all : P → List Bool) → Agrees p 0 marks (is_marked all) → Agrees p (length old) own (is_marked all) → clean k ≡ true → IsClean (is_marked all) out)
      → (all : P → List Bool) → Agrees p 0 (marks ++ own) (is_marked all) → (j : ℕ) (b : Operand (Name P)) → clean j ≡ true → Stands after j b → IsClean (is_marked all) b
  others_clean own h all g j b is s = by_cases (split j b s)
    where
      parts : Agrees p 0 marks (is_marked all) × Agrees p (length old) own (is_marked all)
      parts = agrees_split p 0 (length old) marks own (is_marked all) (omega (arith, keep.count)) g

      by_cases : ((j ≡ k) × (b ≡ out)) ⊎ Stands table j b → IsClean (is_marked all) b
      by_cases (inl e) = subst (IsClean (is_marked all)) (sym e.1) (h all parts.0 parts.1 (sym (ap clean e.0) ∙ is))
      by_cases (inr r) = keep.stands all parts.0 j b is r

  pub cell_apart : (next : List Bool) × KeepApart p clean next new after
  cell_apart = by_kind (clean k || makes_product op) refl
    where
      differ : (b : Bool) → b ≡ true → b ≡ false → ⊥
      differ b e f = cc

      by_kind : (b : Bool) → (clean k || makes_product op) ≡ b → (next : List Bool) × KeepApart p clean next new after
      by_kind true e = (
        marks ++ stay.marks,
        record {
          count = long stay.marks stay.count;
          wires = wires_marked stay.marks (λ all g h. stay.apart (is_marked all) (args_clean all g e) h);
          stands = others_clean stay.marks (λ all g h is. stay.clean (t.others 0 0 (omega arith) is) (is_marked all) (args_clean all g e) h 0 out (omega arith));
        },
      )
      by_kind false e =
          let neither = either_false (clean k) (makes_product op) e in (
            marks ++ all_marked stay.more,
            record {
              count = long (all_marked stay.more) (length-map stay.more (λ (w : BlockWireTree (Name P)). true));
              wires = wires_marked (all_marked stay.more) (λ all g h. free_marked stay.more (stay.free neither.1) (is_marked all));
              stands = others_clean (all_marked stay.more) (λ all g h is. absurd (differ (clean k) is neither.0));
            },
          )

-- ---- a block
agrees_all : {P : Type 0} (p : P) (all : P → List Bool) (at : ℕ) (front ms : List Bool) → all p ≡ front ++ ms → length front ≡ at → Agrees p at ms (is_marked all)
agrees_all p all at front [] e l = tt
agrees_all p all at front (m ∷ ms) e l =
    (ap (λ xs. get_or xs at true) e ∙ get_or_at front m ms true at l, agrees_all p all (suc at) (front ++ m ∷ []) ms (e ∙ sym (append_assoc front (m ∷ []) ms)) (omega (arith, length-append front (m ∷ []), l)))

-- it keeps its products apart by itself
pub alone :
    {P : Type 0} (p : P) (clean : ℕ → Bool) (marks : List Bool) (table : List (Option (Operand (Name P)))) (b : BlockTree (Name P)) → KeepApart p clean marks b.wires table → ((made : Name P → Bool) → statement_flat made b.statement ≡ true)
    → IsApartAlone p b
alone p clean marks table b keep flat = record { marks = marks; apart = λ all e. record { wires = keep.wires all (agrees_all p all 0 [] marks e refl); statement = flat (is_marked all) } }

-- wires without products, under any marks
pub free_keep : {P : Type 0} (p : P) (ws : List (BlockWireTree (Name P))) (table : List (Option (Operand (Name P)))) → ((made : Name P → Bool) → list_all (wire_flat made) ws ≡ true) → KeepApart p (λ k. false) (map (λ w. true) ws) ws table
free_keep {P} p ws table h = record {
  count = length-map ws (λ (w : BlockWireTree (Name P)). true);
  wires = λ all g. free_marked ws h (is_marked all);
  stands = λ all g k a is s. cc;
}
