use Rattle.std.proofs.Common.{◌≡◌, sym, subst}
use Rattle.std.proofs.lemmas.Bool.{eqb-true}
use Rattle.net_core.specs.declared.tree.UnaryOp.TheVariants.{Not}
use Rattle.net_core.specs.Value.{apply, apply_unary}
use Rattle.net_rules.proofs.LogicRules.FlagLemmas.{equal_zero, differs_one}
use Rattle.net_rules.proofs.logic_rules.comparing.gives_negation.Goals as goal

pub returns-in-Equal : goal.returns-in-Equal
returns-in-Equal c h a f = subst (λ o. apply_unary Not a ≡ apply o a c.args.word) (sym c.in-Equal.is) (equal_zero a c.args.word f (eqb-true _ _ h))

pub returns-in-NotEqual : goal.returns-in-NotEqual
returns-in-NotEqual c h a f = subst (λ o. apply_unary Not a ≡ apply o a c.args.word) (sym c.in-NotEqual.is) (differs_one a c.args.word f (eqb-true _ _ h))
