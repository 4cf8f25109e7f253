use Rattle.std.proofs.Common.{◌≡◌, ◌+◌, ◌++◌, map, drop}
use Rattle.net_core.specs.View.{statement_of}
use Rattle.frame_net.specs.Stores.{store_statements}
use Rattle.array_net.specs.WordTrees.{word_stores}
use Rattle.array_net.proofs.words.add_stores.Given as goal

abbrev pub invariant-loop-nets : goal.invariant-loop-nets
invariant-loop-nets g l = record {
  number : l.j ≡ l.nets-index;
  statements : map statement_of l.all.items ++ store_statements (l.first + l.j) (word_stores l.commits l.gate l.index l.first l.bytes l.j (drop l.nets-index l.words))
      ≡ map statement_of l.initial.all.items ++ store_statements l.first (word_stores l.commits l.gate l.index l.first l.bytes 0 l.words);
}
