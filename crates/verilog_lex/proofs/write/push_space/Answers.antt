use Rattle.std.proofs.Common.{rules, refl, [], ◌∷◌}
use Rattle.verilog_lex.proofs.SpellingLaws.{IsClosed-space, separates}
use Rattle.verilog_lex.proofs.write.push_space.Goals as goal

pub returns-clause-read : goal.returns-clause-read
returns-clause-read c =
    separates c.extend_from_slice.result c.args.text.now.items c.extend_from_slice.new.self.items (32 ∷ []) IsClosed-space (λ rest. refl)
    (search rules)
