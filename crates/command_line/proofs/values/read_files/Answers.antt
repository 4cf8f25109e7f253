use Rattle.std.proofs.Common.{rules}
use Rattle.std.specs.Option.{option_copied}
use Rattle.command_line.specs.Rows.{values_from}
use Rattle.command_line.specs.Request.{Names}
use Rattle.command_line.specs.Means.{GivesNames}
use Rattle.command_line.proofs.Once.{apart_of}
use Rattle.command_line.proofs.values.read_files.Goals as goal

pub returns-then-not-are_files_apart-clause-none : goal.returns-then-not-are_files_apart-clause-none
returns-then-not-are_files_apart-clause-none c = λ names gives.
    let given : Names = record {
      object = c.in_ok-object.object.now;
      capture = c.in_ok-capture.capture.now;
      answer = c.in_ok-answer.answer.now;
      verdicts = c.in_ok-verdicts.verdicts.now;
      final_maps = c.in_ok-final_maps.final_maps.now;
      maps = option_copied c.optional.result;
    } in
    let there : GivesNames (values_from c.args.matches.now) given = search rules in
    absurd (search (rules, c.are_files_apart.ensures.1 (apart_of (values_from c.args.matches.now) given names there gives)))

pub returns-clause-some : goal.returns-clause-some
returns-clause-some c = record { gives_names = search rules; apart = c.are_files_apart.ensures.0 c.if-not-are_files_apart.false }
