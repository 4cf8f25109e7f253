use Rattle.maps_text.proofs.Written.{value_short}
use Rattle.maps_text.proofs.write.push_pair.Goals as goal

pub push_line-requires-clause-value : goal.push_line-requires-clause-value
push_line-requires-clause-value c =
    value_short c.args.maps.now c.args.map c.args.i _ c.in-Some.value.now c.decl_of-decl.ensures.sound c.requires (c.pair_laws.ensures _ _) c.in-Some.ensures.pair
