use Rattle.std.proofs.Common.{◌∷◌, [], List, ℕ, map, ap}
use Rattle.row_net.proofs.MarkLemmas.{marks_one, marks_append, marks_of}
use Rattle.row_net.proofs.needed.mark_answer.Goals as goal

pub returns : goal.returns
returns c =
    let p = c.args.program.now in
    let bytes : List ℕ = map (λ b. b.cell) p.frame.items in
    marks_append (p.verdict ∷ []) (p.target ∷ bytes) c.args.flags.now c.mark.new.flags c.mark_bytes.new.flags (marks_one p.verdict c.args.flags.now c.mark.new.flags c.mark.ensures)
    (marks_append (p.target ∷ []) bytes c.mark.new.flags c.mark-2.new.flags c.mark_bytes.new.flags (marks_one p.target c.mark.new.flags c.mark-2.new.flags c.mark-2.ensures)
    (marks_of (map (λ b. b.cell) c.deref.result.now) bytes c.mark-2.new.flags c.mark_bytes.new.flags (ap (map (λ b. b.cell)) c.deref.ensures.value) c.mark_bytes.ensures))
