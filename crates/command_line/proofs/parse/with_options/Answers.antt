use Rattle.std.proofs.Common.{rules, ◌≡◌, ◌∙◌, sym, ap₂, ℕ, List, get_or, Bor}
use Rattle.clap.specs.Walk.{rule_of}
use Rattle.clap.specs.Simple.{app_of, with_rule}
use Rattle.command_line.specs.Commands.{option_rule}
use Rattle.command_line.proofs.BuilderLemmas.{local_more, options_next}
use Rattle.command_line.proofs.parse.with_options.Goals as goal

pub loop-name-preserved : goal.loop-name-preserved
loop-name-preserved c =
    let name : Bor (List ℕ) = c.new.result.id in
    let at : name ≡ get_or c.args.names.now c.loop-name.name-index name = search rules in
    let rule_is : rule_of c.required-option.result ≡ option_rule c.args.required name.now = search rules in
    record {
      app =
          c.in_ok-command.ensures.shape (search rules) ∙ (ap₂ with_rule c.loop-name.invariant.app rule_is
          ∙ sym (options_next (app_of c.args.command) c.args.required c.args.names.now c.loop-name.name-index name c.loop-name-test.true at));
      local = local_more _ _ _ _ c.in_ok-command.ensures.globals (search rules) c.loop-name.invariant.local;
    }
