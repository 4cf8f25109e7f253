use Rattle.std.proofs.Common.{◌∷◌, [], List, ℕ, map}
use Rattle.row_plan.proofs.KeepingLemmas.{of_one, of_more, of_same}
use Rattle.row_plan.proofs.keeping.keep_answer.Goals as goal
use Rattle.std.proofs.Common.{ap}

pub returns : goal.returns
returns c =
    let p = c.args.program.now in
    let bytes : List ℕ = map (λ b. b.cell) p.frame.items in
    of_more (p.verdict ∷ []) (p.target ∷ bytes) c.args.last c.args.kept.now c.keep.new.kept c.keep_bytes.new.kept
    (of_one p.verdict c.args.last c.args.kept.now c.keep.new.kept c.keep.ensures)
    (of_more (p.target ∷ []) bytes c.args.last c.keep.new.kept c.keep-2.new.kept c.keep_bytes.new.kept
    (of_one p.target c.args.last c.keep.new.kept c.keep-2.new.kept c.keep-2.ensures)
    (of_same (map (λ b. b.cell) c.deref.result.now) bytes c.args.last c.keep-2.new.kept c.keep_bytes.new.kept (ap (map (λ b. b.cell)) c.deref.ensures.value) c.keep_bytes.ensures))
