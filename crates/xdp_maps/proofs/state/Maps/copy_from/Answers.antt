use Rattle.std.proofs.Common.{◌≡◌, ◌<◌, ap, sym, ◌∙◌, length, get_or, arith, List}
use Rattle.xdp_maps.specs.declared.decl.MapDecl.{MapDecl}
use Rattle.xdp_maps.specs.State.{MapState}
use Rattle.xdp_maps.proofs.StateLemmas.{table_at, tables_set, copied_more}
use Rattle.xdp_maps.proofs.state.Maps.copy_from.Goals as goal

pub copy_from-requires-clause-kept : goal.copy_from-requires-clause-kept
copy_from-requires-clause-kept c =
    let now = c.loop-i.self-inside in
    let lt : c.loop-i.i < length now.decls.items = omega (arith, c.loop-i-test.true, c.len-i-end.ensures, c.self.invariant.beside, c.self.inside.tables.ok.0, ap (λ (v : _). length v.items) c.loop-i.invariant.decls) in
    table_at now.decls.items now.tables.items c.loop-i.i c.index.result.now c.index_mut.result.now c.loop-i.invariant.kept lt c.index.ensures c.index_mut.ensures.value

-- both have the same declarations
pub copy_from-requires-clause-from : goal.copy_from-requires-clause-from
copy_from-requires-clause-from c =
    let now = c.loop-i.self-inside in
    let from = c.from.inside in
    let same : now.decls.items ≡ from.decls.items = ap (λ (v : _). v.items) c.loop-i.invariant.decls ∙ ap (λ (s : MapState). s.decls) c.self.view_is ∙ c.requires ∙ sym (ap (λ (s : MapState). s.decls) c.from.view_is) in
    let d_is : c.index.result.now ≡ get_or from.decls.items c.loop-i.i c.index.result.now = c.index.ensures ∙ ap (λ (ds : List MapDecl). get_or ds c.loop-i.i c.index.result.now) same in
    let lt : c.loop-i.i < length from.decls.items = omega (arith, c.loop-i-test.true, c.len-i-end.ensures, c.self.invariant.beside, c.self.inside.tables.ok.0, ap (λ (v : _). length v.items) c.loop-i.invariant.decls, ap (λ (ds : List MapDecl). length ds) same) in
    table_at from.decls.items from.tables.items c.loop-i.i c.index.result.now c.index-in-loop-i.result.now c.from.invariant lt d_is c.index-in-loop-i.ensures

pub loop-i-preserved : goal.loop-i-preserved
loop-i-preserved c =
    let now = c.loop-i.self-inside in
    let from = c.from.inside in
    let same : now.decls.items ≡ from.decls.items = ap (λ (v : _). v.items) c.loop-i.invariant.decls ∙ ap (λ (s : MapState). s.decls) c.self.view_is ∙ c.requires ∙ sym (ap (λ (s : MapState). s.decls) c.from.view_is) in
    let lt : c.loop-i.i < length now.decls.items = omega (arith, c.loop-i-test.true, c.len-i-end.ensures, c.self.invariant.beside, c.self.inside.tables.ok.0, ap (λ (v : _). length v.items) c.loop-i.invariant.decls) in
    let lt_from : c.loop-i.i < length from.tables.items = omega (arith, lt, c.from.invariant.beside, ap (λ (ds : List MapDecl). length ds) same) in
    let lt_now : c.loop-i.i < length now.tables.items = omega (arith, lt, c.loop-i.invariant.kept.beside) in
    record {
      decls = c.loop-i.invariant.decls;
      kept = tables_set now.decls.items now.tables.items c.loop-i.i c.index.result.now c.copy_from.new.self c.loop-i.invariant.kept lt c.index.ensures c.copy_from.ensures.kept;
      done = copied_more now.tables.items from.tables.items c.loop-i.i c.copy_from.new.self c.index-in-loop-i.result.now lt_now lt_from c.loop-i.invariant.done c.index-in-loop-i.ensures c.copy_from.ensures.contents;
    }
