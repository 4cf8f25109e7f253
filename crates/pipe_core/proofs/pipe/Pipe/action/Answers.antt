use Rattle.std.proofs.Common.{◌<◌, ℕ, Option, length, sym, ap, ◌∙◌, subst}
use Rattle.std.specs.Prelude.{IfSome}
use Rattle.hazard_core.specs.declared.access.Access.{Access}
use Rattle.pipe_core.specs.Machine.{action_as, worked}
use Rattle.pipe_core.specs.BuildView.{build_in}
use Rattle.pipe_core.proofs.pipe.Pipe.action.Goals as goal

pub write-requires : goal.write-requires
write-requires c = subst (λ (o : Option (Access × ℕ)). IfSome o (λ w. w.0.map < length c.args.self.now.state.tables.decls)) c.in-Some.is c.requires

pub returns-in-Some : goal.returns-in-Some
returns-in-Some c =
    let S = c.args.self.now in
    c.write.ensures c.args.back ∙ ap (λ (o : Option (Access × ℕ)). record S { state = worked (build_in S.build) S.state c.args.back S.state.places (action_as (build_in S.build) S.state S.state.places o) }) (sym c.in-Some.is)

pub returns-in-None : goal.returns-in-None
returns-in-None c =
    let S = c.args.self.now in
    c.step.ensures ∙ ap (λ (o : Option (Access × ℕ)). record S { state = worked (build_in S.build) S.state c.args.back S.state.places (action_as (build_in S.build) S.state S.state.places o) }) (sym c.in-None.is)
