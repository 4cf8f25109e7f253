-- The values of what rules choose.
use Rattle.net_core.specs.declared.tree.Word.{Word}
use Rattle.net_core.specs.declared.tree.Net.{Net}
use Rattle.net_core.specs.declared.tree.UnaryOp.TheVariants.{Not}
use Rattle.net_core.specs.View.{tree_of}
use Rattle.net_core.specs.Value.{Env, value, apply, apply_unary, conditional}
use Rattle.net_rules.specs.declared.logic_rules.made.Leaf.{Leaf}
use Rattle.net_rules.specs.declared.logic_rules.made.Leaf.TheVariants.{Part, Constant}
use Rattle.net_rules.specs.declared.logic_rules.made.Made.{Made}
use Rattle.net_rules.specs.declared.logic_rules.choosing.Choice.{Choice}
use Rattle.net_rules.specs.declared.logic_rules.choosing.Choice.TheVariants.{Whole, Under}
use Rattle.net_rules.specs.declared.logic_rules.made.Made.TheVariants.{Same, Prefixed, Infixed, NotInfixed, Chosen}

abbrev pub leaf_value : Env Net → Leaf → Word
leaf_value v (Part e) = value v (tree_of e.now)
leaf_value v (Constant w) = w

abbrev pub made_value : Env Net → Made → Word
made_value v (Same a) = leaf_value v a
made_value v (Prefixed op a) = apply_unary op (leaf_value v a)
made_value v (Infixed op a b) = apply op (leaf_value v a) (leaf_value v b)
made_value v (NotInfixed op a b) = apply_unary Not (apply op (leaf_value v a) (leaf_value v b))
made_value v (Chosen c a b) = conditional (leaf_value v c) (leaf_value v a) (leaf_value v b)

abbrev pub choice_value : Env Net → Choice → Word
choice_value v (Whole m) = made_value v m
choice_value v (Under c a b) = conditional (made_value v c) (value v (tree_of a.now)) (value v (tree_of b.now))
