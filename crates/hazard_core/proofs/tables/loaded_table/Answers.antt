use Rattle.std.proofs.Common.{◌≡◌, ◌∙◌, ◌<◌, List, [], ◌∷◌, ◌++◌, length, take, get_or, sym, ap, arith}
use Rattle.std.proofs.lemmas.List.{get_or_read, take_all, take_more}
use Rattle.xdp_maps.specs.declared.decl.MapDecl.{MapDecl}
use Rattle.xdp_maps.specs.State.{no_decl, decl_at, contents_at}
use Rattle.hazard_core.specs.Tables.{Slot, no_slot, loaded_as}
use Rattle.hazard_core.proofs.Filling.{loaded_count}
use Rattle.hazard_core.proofs.tables.loaded_table.Goals as goal

pub returns : goal.returns
returns c =
    let m = c.args.map in
    let d = decl_at c.args.maps.now m in
    let x = contents_at c.args.maps.now m in
    let l : m < length c.decls.result.now = omega (arith, c.requires, ap length c.decls.ensures.decls) in
    let same : c.index-decls-map.result ≡ d = get_or_read _ _ _ l c.index-decls-map.is no_decl ∙ ap (λ (ds : List MapDecl). get_or ds m no_decl) c.decls.ensures.decls in
    let cap = ap (λ (d : MapDecl). d.cap) same in
    let n = loaded_count d x (c.decls.ensures.sound.over m c.requires) in
    c.loop-i.invariant ∙ take_all c.loop-i.i (loaded_as d.kind d x) (omega (arith, n, cap, ap (λ (d : MapDecl). d.cap) c.index-decls-map.is, c.loop-i-test.false))

pub loop-i-preserved : goal.loop-i-preserved
loop-i-preserved c =
    let m = c.args.map in
    let i = c.loop-i.i in
    let d = decl_at c.args.maps.now m in
    let x = contents_at c.args.maps.now m in
    let all = loaded_as d.kind d x in
    let l : m < length c.decls.result.now = omega (arith, c.requires, ap length c.decls.ensures.decls) in
    let same : c.index-decls-map.result ≡ d = get_or_read _ _ _ l c.index-decls-map.is no_decl ∙ ap (λ (ds : List MapDecl). get_or ds m no_decl) c.decls.ensures.decls in
    let n : i < length all =
    omega (arith, loaded_count d x (c.decls.ensures.sound.over m c.requires), ap (λ (d : MapDecl). d.cap) same, ap (λ (d : MapDecl). d.cap) c.index-decls-map.is, c.loop-i-test.true) in
    c.in_ok-push.ensures.items
    ∙ ap (λ (ss : List Slot). ss ++ c.loaded_slot.result ∷ []) c.loop-i.invariant
    ∙ ap (λ (s : Slot). take i all ++ s ∷ []) c.loaded_slot.ensures
    ∙ sym (take_more all i no_slot n)
