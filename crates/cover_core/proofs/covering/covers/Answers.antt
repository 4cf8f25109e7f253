use Rattle.std.proofs.Common.{◌<◌, length, All, List, sym, subst}
use Rattle.unfold_core.specs.declared.links.Edge.{Edge}
use Rattle.cover_core.specs.Cover.{no_point}
use Rattle.cover_core.proofs.covering.covers.Goals as goal

pub starts-requires-clause-some : goal.starts-requires-clause-some
starts-requires-clause-some c =
    (c.start_is_first.ensures c.args.unfolded.now.offsets c.args.b.now c.args.unfolded.now.loops.items c.args.unfolded.now.nodes.items no_point c.requires.loops.loops c.requires.graph).0

pub are_covered-requires-clause-edges : goal.are_covered-requires-clause-edges
are_covered-requires-clause-edges c =
    let u = c.args.unfolded.now in
    subst (λ (xs : List Edge). All (λ x. (x.from < x.to) × (x.to < length u.nodes.items)) xs) (sym c.requires.edges)
    (c.edges_lead_on.ensures u.offsets c.args.b.now u.loops.items u.nodes.items c.requires.loops.loops c.requires.graph)
