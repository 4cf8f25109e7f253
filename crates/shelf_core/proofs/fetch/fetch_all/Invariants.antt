use Rattle.std.proofs.Common.{◌≡◌, ◌≤◌, ◌+◌, ◌-◌, ◌<◌, length, IsTrue}
use Rattle.shelf_core.specs.Shelf.{NoneFell, SameHeld}
use Rattle.shelf_core.proofs.Reading.{HasRead}
use Rattle.shelf_core.proofs.fetch.fetch_all.Given as goal

abbrev pub invariant-loop-block : goal.invariant-loop-block
invariant-loop-block g l = record {
  tells : g.S.Shelf.tells l.shelf ≡ g.S.Shelf.tells l.fn.shelf;
  held : SameHeld (g.S.Shelf.held l.fn.shelf) (g.S.Shelf.held l.shelf);
  reads : NoneFell (g.S.Shelf.read_faults l.fn.shelf) (g.S.Shelf.read_faults l.shelf);
  writes : NoneFell (g.S.Shelf.write_faults l.fn.shelf) (g.S.Shelf.write_faults l.shelf);
  made : g.S.Shelf.made l.shelf ≤ g.S.Shelf.made l.fn.shelf + length l.all.items;
  room : 0 < length l.block.items;
  within : length l.all.items ≤ l.limit;
  front : IsTrue (g.S.Shelf.tells l.fn.shelf) → HasRead (g.S.Shelf.held l.fn.shelf l.name) l.all.items;
}

abbrev pub decreases-loop-block : goal.decreases-loop-block
decreases-loop-block g l = l.limit + 1 - length l.all.items
