use Rattle.std.proofs.Common.{rules, ◌≡◌, sym, subst, ℕ, List, Ok, arith}
use Rattle.std.proofs.lemmas.Fmt.{parse-decimal}
use Rattle.command_line.proofs.Numbers.{IsPlain, parsed_plain, decimal_plain}
use Rattle.command_line.proofs.number.any_number.Goals as goal

pub returns-then-not-is_plain-clause-none : goal.returns-then-not-is_plain-clause-none
returns-then-not-is_plain-clause-none c = λ n e low.
    let plain : IsPlain c.args.text.now = let P : List ℕ → Type 0 = IsPlain in subst P (sym e) (decimal_plain n (omega arith)) in
    absurd (search (rules, c.is_plain.ensures.1 (plain.unsigned, plain.lone)))

pub returns-in-Ok-clause-some : goal.returns-in-Ok-clause-some
returns-in-Ok-clause-some c =
    let plain = c.is_plain.ensures.0 (search rules) in
    parsed_plain c.args.text.now c.in-Ok.n c.parse.result (record { unsigned = plain.0; lone = plain.1 }) c.parse.ensures.value.0 c.in-Ok.is

pub returns-in-Err-clause-none : goal.returns-in-Err-clause-none
returns-in-Err-clause-none c = λ n e low.
    let is : c.parse.result ≡ Ok n = parse-decimal 32 n c.args.text.now c.parse.result low (omega arith) e c.parse.ensures.value.0 in
    cc (is, c.in-Err.is)
