use Rattle.std.specs.Prelude.{replicate}
use Rattle.std.proofs.Common.{◌≡◌, [], ◌∷◌, ◌∙◌, ap, sym, subst, All, length, map, arith}
use Rattle.std.proofs.lemmas.List.Elements.{All-cons, All-tail}
use Rattle.hazard_core.specs.cell_core.Formed.{HasWords}
use Rattle.hazard_core.specs.cell_core.Sites.{site_at}
use Rattle.cell_nets.specs.Operands.{number_in, IsOperand, IsAvailable}
use Rattle.hazard_core.specs.Commits.{word_at}
use Rattle.hazard_core.specs.StageValues.{stage_value}
use Rattle.overlay_net.specs.SiteOperands.Sites.{operands_of, ShowsAsked}
use Rattle.overlay_net.specs.ValueNet.Lists.{numbers_in}
use Rattle.overlay_net.proofs.ValueNet.Holding.{step_gives}
use Rattle.overlay_net.proofs.ValueNet.ByteLaws.{bytes_zero}
use Rattle.overlay_net.proofs.ValueNet.EntryLaws.{asked_word}
use Rattle.overlay_net.proofs.value_net.following.word_after.Goals as goal

pub word_as-requires-clause-operands : goal.word_as-requires-clause-operands
word_as-requires-clause-operands g c = subst (All IsOperand) (sym c.deref.ensures.value) c.requires.operands

pub word_as-requires-clause-words : goal.word_as-requires-clause-words
word_as-requires-clause-words g c = subst (λ l. HasWords c.args.decl.now.value c.args.act (length l)) (sym c.deref.ensures.value) c.requires.words

pub returns-clause-operand : goal.returns-clause-operand
returns-clause-operand g c = let n = c.args.decl.now.value in (c.in_ok-out.ensures [] (replicate n 0) (bytes_zero n)).operand

pub returns-clause-bits : goal.returns-clause-bits
returns-clause-bits g c = let n = c.args.decl.now.value in (c.in_ok-out.ensures [] (replicate n 0) (bytes_zero n)).bits

pub returns-clause-gives : goal.returns-clause-gives
returns-clause-gives g c = λ p decls h j value doing declared b.
    let old = c.args.old in
    let nets = c.args.nets.now in
    let operands = c.deref.result.now in
    let w = c.args.w in
    step_gives c.args.part _ _ (old ∷ nets.operands.items) (old ∷ operands) (λ v. (number_in v old ≡ word_at value w) × ShowsAsked v p h j (operands_of nets)) (λ v. number_in v old ≡ word_at value w) _ _ 64 c.in_ok-out.out
    (c.in_ok-out.ensures (map (stage_value h) (site_at p.sites j).key) value b)
    (λ ins a. All-cons (IsAvailable ins) old operands (a 0 old (omega arith)) (subst (All (IsAvailable ins)) (sym c.deref.ensures.value) (All-tail (IsAvailable ins) old nets.operands.items a)))
    (λ v f k. (k.0, asked_word p decls h j c.args.decl.now c.args.act (numbers_in v operands) value w (sym doing) declared (ap (numbers_in v) c.deref.ensures.value ∙ k.1.operands)))
