use Rattle.std.proofs.Common.{◌≡◌, take}
use Rattle.commit_net.specs.ChangeNet.Changes.{key_pairs}
use Rattle.commit_net.proofs.change_net.keys.key_pairs.Given as goal

abbrev pub invariant-loop-site : goal.invariant-loop-site
invariant-loop-site g l = l.all.items ≡ key_pairs l.w l.there (take l.site-index l.sites)
