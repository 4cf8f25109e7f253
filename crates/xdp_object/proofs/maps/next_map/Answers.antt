use Rattle.std.proofs.Common.{◌∙◌, ℕ, List, rules, subst, sym}
use Rattle.xdp_machine.specs.Program.{IsMapName}
use Rattle.xdp_object.proofs.MapLemmas.{map_symbol_entry}
use Rattle.xdp_object.proofs.maps.next_map.Goals as goal

pub symbol_name-requires-clause-entry : goal.symbol_name-requires-clause-entry
symbol_name-requires-clause-entry c = map_symbol_entry c.args.view.now c.args.n c.requires.map

pub returns-in-Ok-declare-clause-declaration : goal.returns-in-Ok-declare-clause-declaration
returns-in-Ok-declare-clause-declaration c = record {
  limits = c.in-Ok-declare.ensures.limits;
  name = subst (λ (name : List ℕ). IsMapName name) (sym (c.in-Ok-declare.ensures.name ∙ c.of.ensures)) (c.is_map_name.ensures.name.0 (search rules));
}
