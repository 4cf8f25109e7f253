use Rattle.std.proofs.Common.{◌≡◌, ◌+◌, ◌∷◌, [], ◌++◌, sym, ap, subst, ◌∙◌, map, take, arith, List}
use Rattle.std.proofs.lemmas.List.{take_more, map-append}
use Rattle.xdp_maps.specs.declared.decl.MapDecl.{MapDecl}
use Rattle.xdp_maps.specs.Contents.{opened, Contents}
use Rattle.xdp_maps.specs.Tables.{AreTables, contents_of}
use Rattle.xdp_maps.proofs.StateLemmas.{tables_push}
use Rattle.xdp_maps.proofs.state.Maps.new.Goals as goal

pub loop-decl-preserved : goal.loop-decl-preserved
loop-decl-preserved c =
    let i = c.loop-decl.decl-index in
    let d = c.decl-item.result in
    let t = c.in_ok-new.field-0 in
    let front = take i c.args.decls.now in
    let more : take (i + 1) c.args.decls.now ≡ front ++ d ∷ [] = take_more c.args.decls.now i d c.loop-decl-test.true ∙ ap (λ (x : MapDecl). front ++ x ∷ []) (sym c.decl-item.is) in
    let tables = c.push_reserved.ensures.items in
    let inv = c.loop-decl.invariant in
    record {
      own = c.push_reserved-in-loop-decl.ensures.items ∙ ap (λ (x : MapDecl). c.loop-decl.own.items ++ x ∷ []) c.copied.ensures ∙ ap (λ (xs : List MapDecl). xs ++ d ∷ []) inv.own ∙ sym more;
      tables = ap (map contents_of) tables ∙ map-append contents_of c.loop-decl.tables.items (t ∷ []) ∙ ap (λ (x : Contents). map contents_of c.loop-decl.tables.items ++ x ∷ []) c.in_ok-new.ensures.contents ∙ ap (λ (xs : List Contents). xs ++ opened d ∷ []) inv.tables ∙ sym (map-append opened front (d ∷ [])) ∙ sym (ap (map opened) more);
      kept = subst (λ ds. AreTables ds c.push_reserved.new.self.items) (sym more) (subst (AreTables (front ++ d ∷ [])) (sym tables) (tables_push front c.loop-decl.tables.items d t inv.kept c.in_ok-new.ensures.kept));
      count = omega (arith, c.push_reserved.ensures.len);
      own_count = omega (arith, c.push_reserved-in-loop-decl.ensures.len);
      room = omega (arith, c.push_reserved.ensures.capacity);
      own_room = omega (arith, c.push_reserved-in-loop-decl.ensures.capacity);
    }
