use Rattle.std.proofs.Common.{◌≡◌, ◌∙◌, ℕ, ◌<◌, All, List, [], ◌∷◌, ◌++◌, length, get_or, take, sym, ap, subst, arith}
use Rattle.std.proofs.lemmas.List.{take_more, map-append, get_or_default}
use Rattle.std.proofs.lemmas.List.Elements.{All-push}
use Rattle.block_core.specs.declared.name.Name.{Name}
use Rattle.turn_net.specs.declared.nets.RecordNets.{RecordNets}
use Rattle.turn_net.specs.Nets.{number_of, sites_of}
use Rattle.pipe_net.specs.declared.parts.Part.{Part}
use Rattle.pipe_parts.specs.TurnParts.Sites.{list_at}
use Rattle.pipe_parts.specs.TurnParts.Records.{targets_at, IsRecordAt}
use Rattle.pipe_parts.proofs.TurnParts.Siting.{read_there, read_in}
use Rattle.pipe_parts.proofs.turn_parts.records.records_at.Goals as goal

pub record_at-record-requires-clause-site : goal.record_at-record-requires-clause-site
record_at-record-requires-clause-site c = read_in c.args.pipeline_plan.now c.requires.pipeline_plan c.loop-i.i c.index.result.now (omega (arith, c.loop-i-test.true, c.len-i-end.ensures)) c.index.ensures

pub record_at-record-requires-clause-known : goal.record_at-record-requires-clause-known
record_at-record-requires-clause-known c = read_there c.args.pipeline_plan.now c.requires.pipeline_plan c.loop-i.i c.index.result.now (omega (arith, c.loop-i-test.true, c.len-i-end.ensures)) c.index.ensures

pub loop-i-preserved : goal.loop-i-preserved
loop-i-preserved c =
    let d = c.args.pipeline_plan.now in
    let js = d.records.items in
    let i : ℕ = c.loop-i.i in
    let lt : i < length js = omega (arith, c.loop-i-test.true, c.len-i-end.ensures) in
    let rs = c.loop-i.records.items in
    let x = c.record_at-record.result in
    let P : RecordNets (Name Part) → Type 0 = IsRecordAt d c.args.at.now (list_at c.args.owns.now) (targets_at c.args.targets.now) in
    let e = c.in_ok-push.ensures.items in
    let number : x.number ≡ get_or js i 0 = c.record_at-record.ensures.number ∙ c.index.ensures ∙ get_or_default js i c.index.result.now 0 lt in
    record {
      sites =
          ap sites_of e ∙ map-append number_of rs (x ∷ []) ∙ ap (λ ks. ks ++ x.number ∷ []) c.loop-i.invariant.sites ∙ ap (λ n. take i js ++ n ∷ []) number ∙ sym (take_more js i 0 lt);
      each = subst (All P) (sym {A = List (RecordNets (Name Part))} e) (All-push P rs x c.loop-i.invariant.each c.record_at-record.ensures.record);
    }
