-- None has the name: there is a declaration to say so of.
use Rattle.std.proofs.Common.{◌∙◌, ap, arith, sym}
use Rattle.std.proofs.lemmas.Grind.{common_steps}
use Rattle.std.specs.Str.{bytes_eq}
use Rattle.xdp_maps.specs.declared.decl.MapDecl.{MapDecl}
use Rattle.xdp_maps.specs.State.{no_decl}
use Rattle.xdp_object.proofs.PartLemmas.{other_more}
use Rattle.xdp_object.proofs.parts.is_taken.Goals as goal

pub returns-clause-taken : goal.returns-clause-taken
returns-clause-taken c = (
  λ yes. absurd (cc),
  λ found. absurd (c.loop-decl.invariant.other found.0 no_decl (omega (arith, found.1, c.loop-decl-test.false)) (found.2 no_decl)),
)

pub loop-decl-preserved : goal.loop-decl-preserved
loop-decl-preserved c = record {
  other = other_more c.args.decls.now c.loop-decl.decl-index c.decl-item.result c.args.name.now c.loop-decl-test.true c.loop-decl.invariant.other
      (ap (λ n. bytes_eq n c.args.name.now) (sym (c.as_slice.ensures.bytes ∙ ap (λ (d : MapDecl). d.name) c.decl-item.is)) ∙ sym c.eq.ensures ∙ c.if-eq.false);
  value = grind (arith, common_steps);
}
