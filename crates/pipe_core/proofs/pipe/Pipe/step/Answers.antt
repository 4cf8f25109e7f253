use Rattle.std.proofs.Common.{◌≡◌, ◌<◌, ℕ, Option, Some, None, length, sym, ap, ◌∙◌, subst}
use Rattle.std.specs.Option.{option_and_then}
use Rattle.pipe_core.specs.Machine.{Action, chosen, place_at, worked}
use Rattle.pipe_core.specs.BuildView.{build_in}
use Rattle.pipe_core.specs.PipeView.{PipeView}
use Rattle.pipe_core.proofs.Clocking.{commits_at, moves_at}
use Rattle.pipe_core.proofs.pipe.Pipe.step.Goals as goal

abbrev next : PipeView → Option ℕ
next T = option_and_then (chosen (build_in T.build) T.state.tables T.state.done) (place_at T.state.places T.build.commit)

pub commit-requires : goal.commit-requires
commit-requires c = subst (λ (T : PipeView). c.in-Some.j < length T.build.program.sites) c.self.view_is c.in-Some.ensures.site

pub returns-in-Some : goal.returns-in-Some
returns-in-Some c =
    let S = c.args.self.now in
    let is : next S ≡ Some c.in-Some.j = ap next (sym c.self.view_is) ∙ sym c.next_commit.ensures.chosen ∙ c.in-Some.is in
    let k = commits_at (build_in S.build) S.state (place_at S.state.places S.build.commit) c.in-Some.j is in
    c.commit.ensures c.args.back k.0 k.1 ∙ ap (λ (u : Action). record S { state = worked (build_in S.build) S.state c.args.back S.state.places u }) (sym k.2)

pub returns-in-None : goal.returns-in-None
returns-in-None c =
    let S = c.args.self.now in
    let is : next S ≡ None = ap next (sym c.self.view_is) ∙ sym c.next_commit.ensures.chosen ∙ c.in-None.is in
    c.advance.ensures ∙ ap (λ (u : Action). record S { state = worked (build_in S.build) S.state c.args.back S.state.places u }) (sym (moves_at (build_in S.build) S.state (place_at S.state.places S.build.commit) is))
