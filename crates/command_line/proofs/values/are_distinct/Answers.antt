use Rattle.std.proofs.Common.{rules, ◌≢◌, ◌∙◌, sym, ℕ, map, get_or, below_more}
use Rattle.command_line.proofs.Apart.{equal_names, other_names}
use Rattle.command_line.proofs.values.are_distinct.Goals as goal

pub returns-then-eq : goal.returns-then-eq
returns-then-eq c =
    (λ h. absurd (search (rules, h)), λ apart. absurd (equal_names c.args.names.now c.loop-earlier.earlier c.loop-later.later _ c.loop-earlier-test.true c.loop-later-test.true (sym c.eq.ensures ∙ c.if-eq.true) apart))

pub loop-earlier-preserved : goal.loop-earlier-preserved
loop-earlier-preserved c = λ i d below.
    let P : ℕ → Type 0 = λ k. get_or (map (λ n. n.now) c.args.names.now) k d ≢ get_or (map (λ n. n.now) c.args.names.now) c.loop-later.later d in
    below_more P c.loop-earlier.earlier (λ k h. c.loop-earlier.invariant k d h)
    (other_names c.args.names.now c.loop-earlier.earlier c.loop-later.later _ d c.loop-earlier-test.true c.loop-later-test.true (sym c.eq.ensures ∙ c.if-eq.false)) i below
