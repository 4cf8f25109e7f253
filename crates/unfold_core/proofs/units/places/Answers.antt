use Rattle.std.proofs.lemmas.Result.{IfOk-weaker}
use Rattle.unfold_core.specs.Units.{AreUnits, ArePlaces}
use Rattle.unfold_core.proofs.Laid.{are_places}
use Rattle.unfold_core.proofs.units.places.Goals as goal

pub returns : goal.returns
returns c =
    IfOk-weaker c.units_of.result (λ units. AreUnits c.insns.result.now units.items) (λ units. ArePlaces c.args.program.now.insns units.items)
    (λ units h. are_places c.args.program.now.insns c.insns.result.now units.items c.insns.ensures.insns c.insns.ensures.program.legal c.insns.ensures.program.few h)
    c.units_of.ensures
