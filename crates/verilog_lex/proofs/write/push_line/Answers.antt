use Rattle.std.proofs.Common.{rules, refl, [], ◌∷◌}
use Rattle.verilog_lex.proofs.SpellingLaws.{IsClosed-line, separates}
use Rattle.verilog_lex.proofs.write.push_line.Goals as goal

pub returns-clause-read : goal.returns-clause-read
returns-clause-read c =
    separates c.extend_from_slice.result c.args.text.now.items c.extend_from_slice.new.self.items (10 ∷ []) IsClosed-line (λ rest. refl)
    (search rules)
