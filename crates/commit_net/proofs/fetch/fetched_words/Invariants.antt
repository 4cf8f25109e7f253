use Rattle.std.proofs.Common.{◌≡◌}
use Rattle.commit_net.specs.Fetching.{fetched_words}
use Rattle.commit_net.proofs.fetch.fetched_words.Given as goal

abbrev pub invariant-loop-i : goal.invariant-loop-i
invariant-loop-i g l = l.words.items ≡ fetched_words l.part l.i
