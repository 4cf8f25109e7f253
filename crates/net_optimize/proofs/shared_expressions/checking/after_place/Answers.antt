use Rattle.std.proofs.Common.{◌∙◌, sym, ap, subst, map, take, get_or, arith, ◌+◌, ◌++◌, [], ◌∷◌}
use Rattle.std.proofs.lemmas.List.{length-map, take_more}
use Rattle.net_core.specs.declared.tree.Net.TheVariants as net
use Rattle.net_core.specs.View.{wire_of}
use Rattle.net_optimize.specs.SharedExpressions.Standing.{ArePlaced, NoneStops}
use Rattle.net_optimize.proofs.SharedExpressions.ListLemmas.{placed_append, none_append, none_parts, take_next, same_default}
use Rattle.net_optimize.proofs.shared_expressions.checking.after_place.Goals as goal

pub returns-then-index-place : goal.returns-then-index-place
returns-then-index-place c =
    let numbers = c.args.table.now.numbers.items in
    let table = c.args.table.now.wires.items in
    let wires = c.args.wires.now in
    let next = c.args.next in
    let place = c.args.place in
    let n = c.index.result.now in
    let w = c.index-wires-next.result in
    let t = get_or table place w in
    let is = c.if-not-branch.false in
    let numbered = take_more numbers next n (omega arith) ∙ ap (λ x. take next numbers ++ x ∷ []) (sym c.index.ensures) in
    let wired = take_next wires next w (omega arith) c.index-wires-next.is in
    let placed = take_next table place t (omega (arith, c.requires.inside)) (same_default table place w (omega (arith, c.requires.inside))) in
    record {
      few = omega (arith, length-map wires wire_of);
      few_numbers = omega arith;
      placed = λ v u st.
          subst (λ xs. ArePlaced v u xs (take (next + 1) (map wire_of wires))) (sym numbered)
          (subst (ArePlaced v u (take next numbers ++ n ∷ [])) (sym wired)
          (placed_append v u (take next numbers) (take next (map wire_of wires)) n (wire_of w) (c.requires.before.placed v u st)
          (c.in_ok-is_at.ensures.value is v u st ∙ ap (λ k. v.net (net.Wire k)) (omega arith))));
      goes = λ v u st none.
          let parts = none_parts u (take next (map wire_of wires)) (wire_of w) (subst (NoneStops u) wired none) in
          subst (NoneStops v) (sym placed) (none_append v (take place (map wire_of table)) (wire_of t) (c.requires.before.goes v u st parts.0)
          (c.in_ok-is_at.ensures.stops is t (same_default table place w (omega (arith, c.requires.inside))) v u st ∙ parts.1));
    }

pub returns-then-is_plain : goal.returns-then-is_plain
returns-then-is_plain c =
    let table = c.args.table.now.wires.items in
    let place = c.args.place in
    let t = c.index-2.result.now in
    record {
      few = c.requires.before.few;
      few_numbers = c.requires.before.few_numbers;
      placed = c.requires.before.placed;
      goes = λ v u st none.
          subst (NoneStops v) (sym (take_next table place t (omega (arith, c.requires.inside)) c.index-2.ensures))
          (none_append v (take place (map wire_of table)) (wire_of t) (c.requires.before.goes v u st none) (c.is_plain.ensures c.if-is_plain.true v));
    }
