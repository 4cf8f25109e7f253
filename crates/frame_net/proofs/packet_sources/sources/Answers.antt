use Rattle.std.proofs.Common.{sym, subst}
use Rattle.frame_net.specs.Sources.{IsSources}
use Rattle.frame_net.specs.SourcesNets.{sources_block}
use Rattle.frame_net.proofs.FormLaws.{same_block}
use Rattle.frame_net.proofs.SourcesLemmas.{gives_sources}
use Rattle.frame_net.proofs.packet_sources.sources.Goals as goal

pub returns : goal.returns
returns g c =
    let a = c.args in
    subst (IsSources a.part a.gather a.bits a.kept.now a.slot) (sym (same_block (sources_block a.part a.gather a.kept.now a.slot) _ _ _ _ c.new.ensures.items c.new-2.ensures.items c.in_ok-wires.ensures c.in_ok-statement.ensures)) (gives_sources a.part a.gather a.bits a.kept.now a.slot c.requires.some c.requires.words)
