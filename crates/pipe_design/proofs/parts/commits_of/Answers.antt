use Rattle.std.proofs.Common.{◌≡◌, ◌∙◌, ℕ, ◌+◌, ◌<◌, List, length, get_or, sym, ap, subst, arith}
use Rattle.std.proofs.lemmas.List.{get_or_default}
use Rattle.block_core.proofs.list_laws_laws.PlaceLaws.{each_more, one_more}
use Rattle.turn_net.specs.declared.target_net.targets.TargetPart.{TargetPart}
use Rattle.pipe_net.specs.declared.parts.Part.{Part}
use Rattle.pipe_design.specs.declared.map_parts.committing.MapCommits.{MapCommits}
use Rattle.pipe_design.specs.Parts.{IsMapCommits}
use Rattle.pipe_design.proofs.parts.commits_of.Goals as goal

pub loop-m-preserved : goal.loop-m-preserved
loop-m-preserved c =
    let inv = c.loop-m.invariant in
    let m = c.loop-m.m in
    let action = c.args.action.now in
    let x : MapCommits = record { commits = c.index.result.now; targets = c.deref.result } in
    let there : m < length action.targets.items = omega (arith, c.requires.targets, c.loop-m-test.true, c.len-m-end.ensures) in
    let known : m < length action.commits.commits.items = omega (arith, c.requires.commits, c.loop-m-test.true, c.len-m-end.ensures) in
    let here : IsMapCommits action m x = record {
      commits = λ n. c.index.ensures ∙ get_or_default action.commits.commits.items m _ n known;
      targets = λ t. c.deref.ensures.value ∙ ap (λ (y : TargetPart Part). y.targets.items) (c.index-in-loop-m.ensures ∙ get_or_default action.targets.items m _ t there);
    } in
    subst (λ xs. record { count : length xs ≡ c.loop-m.m + 1; each : (m : ℕ) (on : MapCommits) → m < c.loop-m.m + 1 → IsMapCommits action m (get_or xs m on) }) (sym {A = List MapCommits} c.in_ok-push.ensures.items)
    (record {
      count = one_more c.loop-m.all.items m x inv.count;
      each = each_more (IsMapCommits action) c.loop-m.all.items m x inv.count inv.each here;
    })
