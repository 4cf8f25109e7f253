-- The tables before the first clock.
use Rattle.std.proofs.Common.{sym, subst}
use Rattle.block_core.specs.declared.name.Name.{Name}
use Rattle.block_core.specs.Blocks.{BlockTree, first_of}
use Rattle.hazard_core.specs.Tables.{table_at, tables_of}
use Rattle.commit_net.specs.MapBlock.Stored.{StoresMap}
use Rattle.pipe_net.specs.declared.parts.Part.{Part}
use Rattle.pipe_net.specs.PipeTurns.Maps.{decl_at}
use Rattle.pipe_net.specs.PipeMaps.Tables.{TablesBegin}

pub tables_begin : TablesBegin
tables_begin l d action maps parts same first = record {
  decls = same;
  tables = λ m there.
      let here = parts.maps m there in
      let slots = table_at (tables_of maps) m in
      subst (λ (b : BlockTree (Name Part)). StoresMap (decl_at l m) (l.slot_bits m) slots (first_of b)) (sym here.blocks.3) (here.map.does.first slots (first m there));
}
