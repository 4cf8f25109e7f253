use Rattle.hash_net.proofs.SlotNet.TestLemmas.{equal_test}
use Rattle.hash_net.proofs.slot_net.testing.word_test.Goals as goal

pub returns : goal.returns
returns g c = λ ins a b. equal_test ins c.args.width _ _ _ _ _ c.requires.width.some c.in_ok-e.ensures (c.in_ok-left.ensures ins a) (c.in_ok-right.ensures ins b)
