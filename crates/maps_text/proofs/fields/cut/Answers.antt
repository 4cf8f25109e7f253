use Rattle.std.proofs.Common.{ℕ, ◌+◌, List, Option, Some, drop, sym, ap, ◌∙◌, arith, add-one}
use Rattle.std.proofs.lemmas.List.{take_rest}
use Rattle.maps_text.proofs.Cuts.{cut_found, cut_none}
use Rattle.maps_text.proofs.fields.cut.Goals as goal

pub returns-then-byte-separator-clause-part : goal.returns-then-byte-separator-clause-part
returns-then-byte-separator-clause-part c =
    sym (ap (λ (r : List ℕ × Option (List ℕ)). r.0) (cut_found c.args.separator c.args.text.now c.loop-i.i c.loop-i-test.true c.if-byte-separator.true c.loop-i.invariant))

pub returns-then-byte-separator-clause-rest : goal.returns-then-byte-separator-clause-rest
returns-then-byte-separator-clause-rest c =
    ap Some (take_rest c.args.text.now (c.loop-i.i + 1) ∙ ap (λ n. drop n c.args.text.now) (add-one c.loop-i.i))
    ∙ sym (ap (λ (r : List ℕ × Option (List ℕ)). r.1) (cut_found c.args.separator c.args.text.now c.loop-i.i c.loop-i-test.true c.if-byte-separator.true c.loop-i.invariant))

pub returns-clause-part : goal.returns-clause-part
returns-clause-part c =
    sym (ap (λ (r : List ℕ × Option (List ℕ)). r.0) (cut_none c.args.separator c.args.text.now (λ k below. c.loop-i.invariant k (omega (arith, below, c.loop-i-test.false)))))

pub returns-clause-rest : goal.returns-clause-rest
returns-clause-rest c =
    sym (ap (λ (r : List ℕ × Option (List ℕ)). r.1) (cut_none c.args.separator c.args.text.now (λ k below. c.loop-i.invariant k (omega (arith, below, c.loop-i-test.false)))))
