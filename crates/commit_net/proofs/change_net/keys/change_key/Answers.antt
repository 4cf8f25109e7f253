use Rattle.overlay_net.specs.cell_nets.Wires.{wires_of}
use Rattle.commit_net.proofs.ChangeNet.PairLemmas.{hash_stands, array_stands, push_first}
use Rattle.commit_net.proofs.change_net.keys.change_key.Goals as goal

pub returns-in_ok-words-in-Hash-clause-stands : goal.returns-in_ok-words-in-Hash-clause-stands
returns-in_ok-words-in-Hash-clause-stands g c =
    hash_stands c.args.part c.args.sites.now c.args.commits c.args.keys.now c.args.decl.now c.args.slot c.in_ok-words-in-Hash.words.items c.in-Hash.is c.in_ok-words-in-Hash.ensures

pub returns-in_ok-push-in-Array-clause-stands : goal.returns-in_ok-push-in-Array-clause-stands
returns-in_ok-push-in-Array-clause-stands g c =
    array_stands c.args.part c.args.sites.now c.args.commits c.args.keys.now c.args.decl.now c.args.slot (wires_of c.args.wires.now.items) c.push.new.self.items c.in-Array.is (push_first c.in_ok-push-in-Array.ensures.items c.new-one.ensures.items)
