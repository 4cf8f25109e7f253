use Rattle.std.proofs.Common.{ℕ, ◌<◌, List, length, All, sym, ◌∙◌, ap, subst, arith}
use Rattle.std.proofs.lemmas.List.{get_or_default}
use Rattle.std.proofs.lemmas.List.Elements.{All-map}
use Rattle.operator_cells.specs.Making.{seen}
use Rattle.operator_cells.specs.declared.held_cells.way.Way.{Way}
use Rattle.edge_cells.proofs.Arriving.{one_guards, made_guards}
use Rattle.cell_core.specs.Rows.{greatest}
use Rattle.operator_cells.proofs.RisingLaws.{rises_none, rises_by}
use Rattle.edge_cells.proofs.ChoiceRows.{bits_above, bits_greatest}
use Rattle.edge_cells.proofs.joining.meet_bits.Goals as goal

pub returns-then-ways-eq1-clause-guards : goal.returns-then-ways-eq1-clause-guards
returns-then-ways-eq1-clause-guards c = one_guards _ _ _ c.if-ways-eq1.true c.requires.there (λ d. ap (λ (e : Way). e.bit) (get_or_default c.args.ways.now 0 _ d (omega (arith, c.requires.some))))

pub guard-requires : goal.guard-requires
guard-requires c = record {
  there = subst (λ (xs : List ℕ). All (λ i. i < length (seen c.args.cells.now.items)) xs) (sym (c.deref.ensures.value ∙ c.in_ok-bits.ensures))
      (All-map (λ (i : ℕ). i < length (seen c.args.cells.now.items)) (λ (e : Way). e.bit) c.args.ways.now c.requires.there);
}

pub returns-clause-guards : goal.returns-clause-guards
returns-clause-guards c = made_guards _ _ _ _ _ (c.deref.ensures.value ∙ c.in_ok-bits.ensures) c.in_ok-c.ensures.makes

pub returns-then-ways-eq1-clause-rises : goal.returns-then-ways-eq1-clause-rises
returns-then-ways-eq1-clause-rises c = rises_none _ _ (λ row. bits_above row c.args.ways.now 0 _ (omega (arith, c.requires.some)))

pub returns-clause-rises : goal.returns-clause-rises
returns-clause-rises c = rises_by c.in_ok-c.ensures.rises (λ row. omega (arith, ap (greatest row) (c.deref.ensures.value ∙ c.in_ok-bits.ensures), bits_greatest row c.args.ways.now))
