use Rattle.std.proofs.Common.{◌≡◌, ◌∙◌, ℕ, ◌<◌, true, false, List, length, refl, sym, subst}
use Rattle.std.specs.Prelude.{All}
use Rattle.operator_cells.specs.Making.{seen}
use Rattle.predicate_core.proofs.StepCells.Waiting.{flat_there, gathers_one, gathers_all}
use Rattle.predicate_core.proofs.step_cells.pending.pending_at.Goals as goal

pub pending-requires : goal.pending-requires
pending-requires c = subst (λ (xs : List ℕ). All (λ i. i < length (seen c.args.cells.now.items)) xs) (sym (c.deref.ensures ∙ c.in_ok-ins.ensures)) (flat_there (length (seen c.args.cells.now.items)) c.args.arms.now c.requires.there)

pub returns-then-bring_one : goal.returns-then-bring_one
returns-then-bring_one c = gathers_one (seen c.args.cells.now.items) c.args.arms.now _ _ c.requires.some refl c.requires.there (c.bring_one.ensures.one c.if-bring_one.true)

pub returns : goal.returns
returns c =
    let other : true ≡ false → ⊥ = λ bad. absurd (cc bad) in
    gathers_all (seen c.args.cells.now.items) (seen c.pending.new.cells.items) c.args.arms.now _ _ c.in_ok-c.c c.deref.result.now c.requires.some refl (λ all. other (sym (c.bring_one.ensures.only all) ∙ c.if-bring_one.false)) (c.deref.ensures ∙ c.in_ok-ins.ensures)
    c.in_ok-c.ensures.adds c.in_ok-c.ensures.grows c.in_ok-c.ensures.rises
