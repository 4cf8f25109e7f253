use Rattle.std.proofs.Common.{◌≡◌, ℕ, ◌<◌, List, arith, sym, ◌∙◌, ap, subst, All, length, map as map_list, refl, true}
use Rattle.std.proofs.lemmas.List.Elements.{All-from_recursion}
use Rattle.cell_core.specs.declared.operator.Operator.TheVariants.{Phi}
use Rattle.cell_core.specs.Cells.{CellView, cell_at, phi, bits_from}
use Rattle.operator_cells.specs.declared.joining.Arm.{Arm}
use Rattle.operator_cells.specs.Making.{seen}
use Rattle.operator_cells.specs.Joining.{flat}
use Rattle.operator_cells.specs.Following.{picked, Goes}
use Rattle.operator_cells.proofs.Growing.{grown_none, makes_after, new-cell, one-longer}
use Rattle.operator_cells.proofs.Arms.{followed_same, picked_flat, chosen_fits, flat_there, flat_long}
use Rattle.cell_core.specs.Rows.{greatest}
use Rattle.operator_cells.proofs.RisingLaws.{rises_none, rises_by}
use Rattle.operator_cells.proofs.joining.choose.Goals as goal
use Rattle.operator_cells.proofs.ArmLaws.{flat_first}

abbrev no_arm : Arm
no_arm = record { bit = 0; cell = 0 }

pub returns-then-are_one-clause-makes : goal.returns-then-are_one-clause-makes
returns-then-are_one-clause-makes c = record {
  grows = grown_none _;
  there = (c.requires.there 0 no_arm (omega (arith, c.requires.some))).1;
  value = λ packet v r. followed_same v v c.args.arms.now _ c.requires.some (c.are_one.ensures.all c.if-are_one.true);
}

pub operate-requires-clause-earlier : goal.operate-requires-clause-earlier
operate-requires-clause-earlier c = subst (λ (ins : List ℕ). All (λ i. i < length (seen c.args.cells.now.items)) ins) (sym (c.deref-2.ensures ∙ c.in_ok-ins.ensures))
    (All-from_recursion (λ i. i < length (seen c.args.cells.now.items)) _ (flat_there (length (seen c.args.cells.now.items)) c.args.arms.now c.requires.there))

pub operate-requires-clause-enough : goal.operate-requires-clause-enough
operate-requires-clause-enough c = let e : c.deref-2.result.now ≡ flat c.args.arms.now = c.deref-2.ensures ∙ c.in_ok-ins.ensures in omega (arith, ap length e, flat_long c.args.arms.now c.requires.some)

pub returns-clause-makes : goal.returns-clause-makes
returns-clause-makes c = makes_after _ _ _ _ _ _ (grown_none _) c.in_ok-c.ensures.makes
    (λ packet v r.
    ap (λ (ins : List ℕ). bits_from (phi (map_list v ins)) 0 c.widest-width.result) (c.deref-2.ensures ∙ c.in_ok-ins.ensures)
    ∙ chosen_fits packet (seen c.args.cells.now.items) v c.args.arms.now c.widest-width.result c.values_fit.ensures r c.requires.some c.requires.there
    (rw c.deref.ensures.value at c.widest-width.ensures.wide))

pub returns-then-are_one-clause-rises : goal.returns-then-are_one-clause-rises
returns-then-are_one-clause-rises c = rises_none _ _ (λ row. flat_first row c.args.arms.now no_arm c.requires.some)

pub returns-clause-rises : goal.returns-clause-rises
returns-clause-rises c = rises_by c.in_ok-c.ensures.rises (λ row. omega (arith, ap (greatest row) (c.deref-2.ensures ∙ c.in_ok-ins.ensures)))

pub returns-then-are_one-clause-same : goal.returns-then-are_one-clause-same
returns-then-are_one-clause-same c = λ cell all. (all 0 no_arm (omega (arith, c.requires.some)), refl)

pub returns-clause-same : goal.returns-clause-same
returns-clause-same c = λ cell all. let e : c.are_one.result ≡ true = c.are_one.ensures.only (λ i d l. all i d l ∙ sym (all 0 no_arm (omega (arith, c.requires.some)))) in absurd (cc)

pub returns-then-are_one-clause-follows : goal.returns-then-are_one-clause-follows
returns-then-are_one-clause-follows c = λ v u f. followed_same v u c.args.arms.now _ c.requires.some (c.are_one.ensures.all c.if-are_one.true)

pub returns-clause-follows : goal.returns-clause-follows
returns-clause-follows c = λ v u f.
    let a = c.in_ok-c.ensures.adds in
    let old = seen c.args.cells.now.items in
    let cell : CellView = record { op = Phi; ins = c.deref-2.result.now; width = c.widest-width.result; from = 0 } in
    let is = ap (λ (cells : List CellView). cell_at cells (length old)) a.is ∙ new-cell old cell in
    ap u a.at
    ∙ subst (λ (d : CellView). Goes v u d.ins d.op (u (length old))) is (f.each (length old) (omega (arith, ap length a.is, one-longer old cell)))
    ∙ ap (picked v u) (c.deref-2.ensures ∙ c.in_ok-ins.ensures) ∙ picked_flat v u c.args.arms.now
