use Rattle.std.proofs.Common.{◌≡◌, ◌∙◌, sym, ℕ, suc, ◌+◌, ◌-◌, ◌^◌, ◌<◌, refl, arith, eq-eqb, Some}
use Rattle.std.proofs.lemmas.Bool.{ne_eqb}
use Rattle.verilog_read.specs.Declarations as items
use Rattle.verilog_read.proofs.memory.index_of.Goals as goal

-- this width
here : (more width last : ℕ) → last ≡ 2 ^ width - 1 → items.index_from (suc more) width last ≡ Some width
here more width last h = rw (eq-eqb last (2 ^ width - 1) h) refl

this_width : (width last : ℕ) → width < 17 → last ≡ 2 ^ width - 1 → items.index_from (17 - width) width last ≡ Some width
this_width width last h k =
    let p : 17 - width ≡ suc (16 - width) = omega arith in
    rw p (here (16 - width) width last k)

-- not this width
other_width : (more width last : ℕ) → (last ≡ 2 ^ width - 1 → ⊥) → items.index_from (suc more) width last ≡ items.index_from more (suc width) last
other_width more width last h = rw (ne_eqb last (2 ^ width - 1) h) refl

next_width : (width last : ℕ) → width < 17 → (last ≡ 2 ^ width - 1 → ⊥) → items.index_from (17 - width) width last ≡ items.index_from (17 - (width + 1)) (width + 1) last
next_width width last h k =
    let p : 17 - width ≡ suc (16 - width) = omega arith in
    let q : 17 - (width + 1) ≡ 16 - width = omega arith in
    let r : width + 1 ≡ suc width = omega arith in
    rw (p, q, r) (other_width (16 - width) width last k)

pub returns-then-last-words_of-clause-width : goal.returns-then-last-words_of-clause-width
returns-then-last-words_of-clause-width c = sym (c.loop-width.invariant ∙ this_width c.loop-width.width c.args.last (omega arith) (omega arith))

pub loop-width-preserved : goal.loop-width-preserved
loop-width-preserved c = c.loop-width.invariant ∙ next_width c.loop-width.width c.args.last (omega arith) (λ e. c.if-last-words_of.false (omega arith))
