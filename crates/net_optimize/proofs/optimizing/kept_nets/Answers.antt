use Rattle.std.proofs.Common.{ap, length, arith}
use Rattle.net_core.specs.Clock.{first_words}
use Rattle.net_optimize.proofs.KeptLists.{words_counted}
use Rattle.net_optimize.proofs.optimizing.kept_nets.Goals as goal

pub numbers-requires-2 : goal.numbers-requires-2
numbers-requires-2 c =
    omega (arith, ap length c.deref-5.ensures.value, c.in_ok-registers.ensures, ap (λ ds. length (first_words ds)) c.deref-3.ensures.value, words_counted c.args.design.now.declared.items, c.requires.declared)
