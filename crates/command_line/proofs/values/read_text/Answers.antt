use Rattle.std.proofs.Common.{rules, ◌∷◌, List, ℕ, subst}
use Rattle.command_line.specs.Request.{names_of, files_of}
use Rattle.command_line.specs.Means.{AreDistinct}
use Rattle.command_line.proofs.Once.{same_value}
use Rattle.command_line.proofs.values.read_text.Goals as goal

pub returns-then-not-is_text_apart-clause-none : goal.returns-then-not-is_text_apart-clause-none
returns-then-not-is_text_apart-clause-none c = λ verilog gives.
    let P : List ℕ → Type 0 = λ v. AreDistinct (v ∷ files_of (names_of c.args.files.now)) in
    absurd (search (rules, c.is_text_apart.ensures.1 (subst P (same_value _ verilog c.in_ok-verilog.verilog.now gives.given c.in_ok-verilog.ensures.some) gives.apart)))

pub returns-clause-some : goal.returns-clause-some
returns-clause-some c = record { given = c.in_ok-verilog.ensures.some; apart = c.is_text_apart.ensures.0 c.if-not-is_text_apart.false }
