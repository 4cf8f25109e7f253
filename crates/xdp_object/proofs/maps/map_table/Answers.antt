use Rattle.std.proofs.Common.{◌≡◌, ◌≢◌, ◌∙◌, ◌+◌, Err, rules, sym, ap, subst}
use Rattle.xdp_object.specs.declared.error.ObjectError.TheVariants.{NoMemory}
use Rattle.xdp_object.specs.Maps.{AreMaps, MapTable, all_in_places, no_maps}
use Rattle.xdp_object.proofs.MapLemmas.{in_places-fault, in_places-more, in_places-same}
use Rattle.xdp_object.proofs.FaultLaws.{passed_on}
use Rattle.xdp_object.proofs.TableLaws.{no_maps_are}
use Rattle.xdp_object.proofs.maps.map_table.Goals as goal
use Rattle.xdp_object.proofs.maps.map_table.Goals.{in-Refers+in_ok-refer, in_default}

pub returns-in_err-refer-clause-error : goal.returns-in_err-refer-clause-error
returns-in_err-refer-clause-error c =
    let e = c.in_err-refer.field-0.0 in
    passed_on c.from_residual.result e (λ e. e ≢ NoMemory → all_in_places c.args.hash_cap c.args.view.now no_maps c.args.places.now 0 ≡ Err e) c.from_residual.ensures.1
    (λ other. c.loop-said.invariant.so_far
    ∙ in_places-fault c.args.hash_cap c.args.view.now c.loop-said.table c.args.places.now c.loop-said.said-index c.in-Refers.symbol e c.loop-said-test.true
    c.in-Refers.is (c.in_err-refer.ensures.error other))

pub loop-said-init : goal.loop-said-init
loop-said-init c = record { so_far = search rules; maps = no_maps_are c.new.result.items c.new-2.result.items c.new.ensures.items c.new-2.ensures.items }

pub loop-said-preserved : goal.loop-said-preserved
loop-said-preserved c = elim c.match-said.branch [
  | in-Refers+in_ok-refer w ↦ record {
    so_far = c.loop-said.invariant.so_far
        ∙ in_places-more c.args.hash_cap c.args.view.now c.loop-said.table w.refer.new.self c.args.places.now c.loop-said.said-index w.in-Refers.symbol
        c.loop-said-test.true w.in-Refers.is w.in_ok-refer.ensures.ok
        ∙ ap (λ (t : MapTable). all_in_places c.args.hash_cap c.args.view.now t c.args.places.now (c.loop-said.said-index + 1)) (sym w.table-is);
    maps = subst (λ (t : MapTable). AreMaps t) (sym w.table-is) w.in_ok-refer.ensures.maps;
  }
  | in_default w ↦ record {
    so_far = c.loop-said.invariant.so_far
        ∙ in_places-same c.args.hash_cap c.args.view.now c.loop-said.table c.args.places.now c.loop-said.said-index c.loop-said-test.true w.in_default.not-Refers
        ∙ ap (λ (t : MapTable). all_in_places c.args.hash_cap c.args.view.now t c.args.places.now (c.loop-said.said-index + 1)) (sym w.table-is);
    maps = subst (λ (t : MapTable). AreMaps t) (sym w.table-is) c.loop-said.invariant.maps;
  }
]
