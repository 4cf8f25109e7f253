use Rattle.std.proofs.Common.{◌≡◌, [], ◌++◌, ap, sym, ◌∙◌, map, drop}
use Rattle.std.proofs.lemmas.List.{append-nil, drop_all}
use Rattle.net_core.specs.View.{wire_of}
use Rattle.net_optimize.specs.Renumber.{numbers_of, renumber_wire, kept_wires}
use Rattle.net_optimize.proofs.KeptLists.{kept_none}
use Rattle.net_optimize.proofs.kept.kept_wires.Goals as goal

pub returns : goal.returns
returns c =
    let all = map wire_of c.loop-wire.all.items in
    let i = c.loop-wire.wire-index in
    let ns = numbers_of c.args.numbers.now in
    let ks = drop i c.args.keep.now in
    let none : kept_wires ns ks (map wire_of (drop i c.args.wires.now)) ≡ [] =
    ap (λ l. kept_wires ns ks (map wire_of l)) (drop_all i c.args.wires.now c.loop-wire-test.false) ∙ ap (map (renumber_wire ns)) (kept_none ks) in
    sym (ap (λ l. all ++ l) none ∙ append-nil all) ∙ c.loop-wire.invariant.done
