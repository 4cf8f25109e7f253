use Rattle.std.proofs.Common.{◌∙◌, sym, ap}
use Rattle.net_core.specs.View.{tree_of}
use Rattle.net_core.specs.Value.{word, value, conditional}
use Rattle.net_optimize.proofs.FlagLemmas.{flag_chosen}
use Rattle.net_optimize.proofs.simple.taken.Goals as goal

pub returns-then-is_flag : goal.returns-then-is_flag
returns-then-is_flag c v =
    let x = value v (tree_of c.args.c.now) in
    flag_chosen x (c.is_flag.ensures c.if-is_flag.true v) ∙ ap (λ w. conditional x w (word 1 0)) (sym (ap (value v) (c.is_bit.ensures c.if-is_bit.true)))
    ∙ ap (conditional x (value v (tree_of c.args.a.now))) (sym (ap (value v) (c.is_bit-then-is_bit.ensures c.if-is_bit-2.true)))
