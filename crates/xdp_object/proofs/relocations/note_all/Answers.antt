use Rattle.std.proofs.Common.{rules, ◌∙◌, get_or, sym, ap, arith}
use Rattle.elf_view.specs.File.{e_shnum}
use Rattle.xdp_object.specs.declared.relocated.Relocated.TheVariants.{Untouched}
use Rattle.xdp_object.specs.Relocations.{both, relocated_at, said_by_section, together}
use Rattle.xdp_object.proofs.Places.{together-end, together-step}
use Rattle.xdp_object.proofs.relocations.note_all.Goals as goal

pub loop-i-init : goal.loop-i-init
loop-i-init c = record {
  len = search rules;
  said = λ p below. ap (λ o. both o (together (said_by_section c.args.view.now c.args.function.now p) 0 (e_shnum c.args.view.now))) (sym (c.requires.untouched p))
      ∙ ap (λ n. both (get_or c.args.places.now p Untouched) (together (said_by_section c.args.view.now c.args.function.now p) 0 n)) (omega arith);
}

pub loop-i-preserved : goal.loop-i-preserved
loop-i-preserved c = record {
  len = c.note_section.ensures.length ∙ c.loop-i.invariant.len;
  said = λ p below.
      c.loop-i.invariant.said p below
      ∙ together-step (said_by_section c.args.view.now c.args.function.now p) (get_or c.loop-i.places p Untouched)
      (said_by_section c.args.view.now c.args.function.now p c.loop-i.i) _ c.loop-i.i (e_shnum c.args.view.now) (omega arith)
      (search rules) (c.note_section.ensures.said p (omega (arith, below, c.loop-i.invariant.len)));
}

pub returns-clause-said : goal.returns-clause-said
unfolding relocated_at
returns-clause-said c = λ p below.
    sym (c.loop-i.invariant.said p below
    ∙ together-end (said_by_section c.args.view.now c.args.function.now p) (get_or c.loop-i.places p Untouched) c.loop-i.i (e_shnum c.args.view.now) (omega arith))
