use Rattle.std.proofs.Common.{◌≡◌, ◌∙◌, ◌<◌, true, false, List, length, replicate, get_or, refl, sym, ap, arith}
use Rattle.std.proofs.lemmas.List.{get_or_read}
use Rattle.xdp_maps.specs.declared.decl.MapDecl.{MapDecl}
use Rattle.xdp_maps.specs.State.{no_decl, decl_at, contents_at}
use Rattle.hazard_core.specs.Tables.{Slot, slot_at, loaded_as, empty_slot}
use Rattle.hazard_core.proofs.Filling.{loaded_at, slot_some, slot_none, value_bytes}
use Rattle.hazard_core.proofs.tables.loaded_slot.Goals as goal

pub of-requires-in-Some : goal.of-requires-in-Some
of-requires-in-Some c =
    let m = c.args.map in
    let d = decl_at c.args.maps.now m in
    let x = contents_at c.args.maps.now m in
    let sound = c.decls.ensures.sound in
    let n = value_bytes d x (c.pair_laws.ensures d x) (sound.over m c.requires.map) c.args.i _ _ c.in-Some.ensures.pair in
    omega (arith, n, (sound.limits m c.requires.map).value_short)

pub returns-in-Some : goal.returns-in-Some
returns-in-Some c =
    let m = c.args.map in
    let d = decl_at c.args.maps.now m in
    let x = contents_at c.args.maps.now m in
    let sound = c.decls.ensures.sound in
    let at = loaded_at c.index_laws.ensures d x (sound.limits m c.requires.map) (sound.over m c.requires.map) c.args.i c.requires.within in
    rw (c.of.ensures, c.of-in-Some.ensures) (sym (slot_some d _ _ _ _ c.in-Some.ensures.pair at))

pub returns-in-None : goal.returns-in-None
returns-in-None c =
    let m = c.args.map in
    let d = decl_at c.args.maps.now m in
    let x = contents_at c.args.maps.now m in
    let sound = c.decls.ensures.sound in
    let at = loaded_at c.index_laws.ensures d x (sound.limits m c.requires.map) (sound.over m c.requires.map) c.args.i c.requires.within in
    let l : m < length c.decls.result.now = omega (arith, c.requires.map, ap length c.decls.ensures.decls) in
    let same : c.index-decls-map.result ≡ d = get_or_read _ _ _ l c.index-decls-map.is no_decl ∙ ap (λ (ds : List MapDecl). get_or ds m no_decl) c.decls.ensures.decls in
    rw (c.zeros.ensures, c.zeros-in-None.ensures) (ap empty_slot same ∙ sym (slot_none d _ _ c.in-None.ensures.pair at))
