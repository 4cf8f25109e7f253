-- What the tests have told.
use Rattle.std.proofs.Common.{◌≡◌, ◌∙◌, sym, ap}
use Rattle.std.proofs.lemmas.List.{get_or_default}
use Rattle.unfold_core.specs.declared.edges.Point.{Point}
use Rattle.unfold_core.specs.Edges.{is_reference}
use Rattle.cover_core.specs.Cover.{no_point, place_of}
use Rattle.cover_core.proofs.covering.steps.Goals as goal

pub returns : goal.returns
returns c =
    let u = c.args.unfolded.now in
    let n = c.args.node in
    let at = c.index.result.now in
    let place : c.place-place.result ≡ place_of u n = c.place-place.ensures ∙ ap (λ (x : Point). x.node.place) (c.index.ensures ∙ get_or_default u.nodes.items n at no_point c.requires.node) in (
      λ yes. record {
        same = c.is_same_insn.ensures.0 c.if-not-is_same_insn.false;
        refers = ap (is_reference c.args.a.now) (sym c.origin_of-at.ensures) ∙ c.refer_alike.ensures.0 c.if-not-refer_alike.false ∙ ap (is_reference c.args.b.now) place;
        settles = c.all_settle.ensures.0 yes;
      },
      λ st. c.all_settle.ensures.1 st.settles,
    )
