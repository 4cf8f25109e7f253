use Rattle.std.proofs.Common.{◌≡◌, take, map}
use Rattle.commit_net.specs.Choosing.{asked_of}
use Rattle.commit_net.proofs.choosing.all_asked.Given as goal

abbrev pub invariant-loop-site : goal.invariant-loop-site
invariant-loop-site g l = l.all.items ≡ map (asked_of l.what) (take l.site-index l.sites)
