use Rattle.std.proofs.Common.{◌≡◌, ◌<◌, length, arith}
use Rattle.capture_run.proofs.DrivenLaws.{gives_some, ends_some}
use Rattle.capture_run.proofs.ToldLaws.{gives_next, gives_end, not_given, read_failed}
use Rattle.capture_run.proofs.driven.give_next.Goals as goal

pub returns-then-given-from-clause-some : goal.returns-then-given-from-clause-some
returns-then-given-from-clause-some g c = λ packets legal count.
    let all : c.args.driver.now.given ≡ length packets = omega (arith, c.if-given-from.true, c.given.ensures, c.from.ensures, count) in
    ends_some packets c.args.driver.now c.end.new.self c.end.ensures.view all c.requires.needs.1 c.end.ensures.fits legal

pub returns-then-given-from-clause-told : goal.returns-then-given-from-clause-told
returns-then-given-from-clause-told g c = λ told packets count stands.
    let all : c.args.driver.now.given ≡ length packets = omega (arith, c.if-given-from.true, c.given.ensures, c.from.ensures, count) in
    gives_end c.args.survey.now.stream (g.S.Shelf.held c.args.shelf.now c.args.files.now.capture.now) packets c.args.driver.now c.end.new.self c.args.ahead.now tt c.end.ensures.view all c.requires.needs.1 c.end.ensures.fits stands

pub returns-clause-some : goal.returns-clause-some
returns-clause-some g c = λ packets legal count.
    let less : c.args.driver.now.given < length packets = omega (arith, c.if-given-from.false, c.given.ensures, c.from.ensures, c.requires.given, count) in
    gives_some packets c.args.driver.now c.give_packet.new.driver _ c.give_packet.ensures.view c.give_packet.ensures.legal less c.requires.needs.1 c.give_packet.ensures.fits legal

pub returns-clause-told : goal.returns-clause-told
returns-clause-told g c = λ told packets count stands.
    let less : c.args.driver.now.given < length packets = omega (arith, c.if-given-from.false, c.given.ensures, c.from.ensures, c.requires.given, count) in
    gives_next c.args.survey.now.stream (g.S.Shelf.held c.args.shelf.now c.args.files.now.capture.now) packets c.args.driver.now c.give_packet.new.driver c.in_ok-stamp.stamp c.bytes.result.now c.next.new.self tt c.bytes.ensures less c.requires.needs.1
    (c.in_ok-stamp.ensures.gives told _ stands) c.give_packet.ensures.view c.give_packet.ensures.fits

pub returns-in_err-stamp-clause-told : goal.returns-in_err-stamp-clause-told
returns-in_err-stamp-clause-told g c = λ told packets count stands.
    let less : c.args.driver.now.given < length packets = omega (arith, c.if-given-from.false, c.given.ensures, c.from.ensures, c.requires.given, count) in
    let held = g.S.Shelf.held c.args.shelf.now c.args.files.now.capture.now in
    not_given c.from_residual.result c.in_err-stamp.field-0.0 c.args.survey.now.stream held packets c.next.new.self c.args.driver.now c.args.driver.now c.from_residual.ensures.1
    (read_failed c.args.survey.now.stream held packets c.args.driver.now.given c.in_err-stamp.field-0.0 c.next.new.self less (c.in_err-stamp.ensures.gives told _ stands))
