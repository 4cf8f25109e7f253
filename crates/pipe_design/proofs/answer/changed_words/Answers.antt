use Rattle.std.proofs.Common.{rules, ◌∙◌, ℕ, Bool, sym, arith}
use Rattle.pipe_design.specs.Answer.{has_byte}
use Rattle.pipe_design.proofs.Listing.{kept_more, kept_same, kept_few}
use Rattle.pipe_design.proofs.answer.changed_words.Goals as goal
use Rattle.pipe_design.proofs.answer.changed_words.Goals.{then-has_byte+in_ok-push, else-has_byte}

pub loop-word-preserved : goal.loop-word-preserved
loop-word-preserved c =
    let q : ℕ → Bool = has_byte c.args.frame.now in
    let n : ℕ = c.loop-word.word in
    elim c.if-has_byte.branch [
      | then-has_byte+in_ok-push w ↦ search (rules, kept_more q n c.loop-word.words.items (sym c.has_byte.ensures ∙ w.if-has_byte.true) c.loop-word.invariant)
      | else-has_byte w ↦ search (rules, kept_same q n c.loop-word.words.items (sym c.has_byte.ensures ∙ w.if-has_byte.false) c.loop-word.invariant)
    ]

pub returns-clause-few : goal.returns-clause-few
returns-clause-few c = omega (arith, kept_few (has_byte c.args.frame.now) c.loop-word.word c.loop-word.words.items c.loop-word.invariant)
