use Rattle.verilog_expression.specs.View.{lexemes_left}
use Rattle.verilog_read.proofs.Texts.{read_name}
use Rattle.verilog_read.proofs.parts.fresh.Goals as goal

pub as_text-requires : goal.as_text-requires
as_text-requires c = read_name (lexemes_left c.args.rest) _ _ c.in_ok-name.ensures
