use Rattle.std.proofs.Common.{◌≡◌, ◌∙◌, ℕ, ◌+◌, ◌<◌, List, [], ◌∷◌, ◌++◌, length, take, get_or, sym, ap, subst, arith}
use Rattle.std.proofs.lemmas.List.{take_more, take_all}
use Rattle.xdp_maps.specs.State.{decl_at, contents_at}
use Rattle.hazard_core.specs.Shaped.{IsShaped}
use Rattle.hazard_core.specs.Tables.{Slot, slot_at, loaded_tables}
use Rattle.hazard_core.proofs.Filling.{tables_count, tables_at, loaded_count, slot_shape}
use Rattle.hazard_core.proofs.tables.loaded_all.Goals as goal

pub loop-map-preserved : goal.loop-map-preserved
loop-map-preserved c =
    let s = c.args.maps.now in
    let m = c.loop-map.map in
    let all = loaded_tables s.decls s.contents in
    let b = c.decls.ensures.sound.beside in
    let l : m < length s.decls = omega (arith, ap length c.decls.ensures.decls) in
    let n : m < length all = omega (arith, l, tables_count s.decls s.contents b) in
    c.in_ok-push.ensures.items
    ∙ ap (λ (ts : List (List Slot)). ts ++ c.in_ok-loaded_table.field-0 ∷ []) c.loop-map.invariant
    ∙ ap (λ (t : List Slot). take m all ++ t ∷ []) (c.in_ok-loaded_table.ensures ∙ sym (tables_at s.decls s.contents b m l))
    ∙ sym (take_more all m [] n)

pub returns-clause-tables : goal.returns-clause-tables
returns-clause-tables c =
    let s = c.args.maps.now in
    let n = tables_count s.decls s.contents c.decls.ensures.sound.beside in
    c.loop-map.invariant ∙ take_all c.loop-map.map (loaded_tables s.decls s.contents) (omega (arith, n, ap length c.decls.ensures.decls, c.loop-map-test.false))

pub returns-clause-shape : goal.returns-clause-shape
returns-clause-shape c =
    let s = c.args.maps.now in
    let all = loaded_tables s.decls s.contents in
    let sound = c.decls.ensures.sound in
    let n = tables_count s.decls s.contents sound.beside in
    let same : c.loop-map.tables.items ≡ all =
    c.loop-map.invariant ∙ take_all c.loop-map.map all (omega (arith, n, ap length c.decls.ensures.decls, c.loop-map-test.false)) in
    let at = λ (m : ℕ) (l : m < length s.decls). ap (λ (ts : List (List Slot)). get_or ts m []) same ∙ tables_at s.decls s.contents sound.beside m l in
    let count = λ (m : ℕ) (l : m < length s.decls). ap length (at m l) ∙ loaded_count (decl_at s m) (contents_at s m) (sound.over m l) in
    record {
      beside = ap length same ∙ n;
      limits = sound.limits;
      counts = count;
      each = λ m i l k.
          let P : List Slot → Type 0 = λ t. IsShaped (decl_at s m) (slot_at t i) in
          subst P (sym (at m l)) (slot_shape c.index_laws.ensures (decl_at s m) (contents_at s m) (c.pair_laws.ensures (decl_at s m) (contents_at s m)) (sound.limits m l) (sound.over m l) i (omega (arith, k, count m l)));
    }
