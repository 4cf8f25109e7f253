use Rattle.std.proofs.Common.{ap, arith, map as map_list}
use Rattle.std.proofs.lemmas.List.{length-map}
use Rattle.net_core.specs.View.{tree_of}
use Rattle.block_core.specs.View.{block_wire_of}
use Rattle.row_net.proofs.PlaceNet.ExitLemmas.{values_count, is_exit}
use Rattle.frame_net.proofs.FormLaws.{same_block}
use Rattle.row_net.proofs.place_net.leaving.exit.Goals as goal

pub statement-requires : goal.statement-requires
statement-requires g c =
    omega (arith, values_count c.args.outputs.now c.args.words.now (map_list tree_of c.in_ok-values.values.items) c.in_ok-values.ensures, length-map c.in_ok-values.values.items tree_of, c.requires.few)

pub returns : goal.returns
returns g c =
    is_exit c.args.bits c.args.words.now c.args.exits c.args.slot c.args.outputs.now (map_list tree_of c.in_ok-values.values.items) _ c.requires.some c.requires.most c.in_ok-values.ensures
    (same_block _ _ _ _ _ c.new.ensures.items c.in_ok-memories.ensures (ap (map_list block_wire_of) c.new-2.ensures.items) c.in_ok-statement.ensures)
