use Rattle.std.proofs.Common.{◌≡◌, ◌-◌, ◌≤◌, ◌+◌, ◌<◌, length, take, min, IsTrue}
use Rattle.std.specs.Prelude.{IsSome}
use Rattle.shelf_core.specs.Shelf.{NoneFell, SameHeld}
use Rattle.shelf_core.specs.Feeding.{StandsAt}
use Rattle.shelf_core.proofs.feed.read_on.Given as goal

abbrev pub invariant-loop-end : goal.invariant-loop-end
invariant-loop-end g l = record {
  tells : g.S.Shelf.tells l.shelf ≡ g.S.Shelf.tells l.fn.shelf;
  held : SameHeld (g.S.Shelf.held l.fn.shelf) (g.S.Shelf.held l.shelf);
  reads : NoneFell (g.S.Shelf.read_faults l.fn.shelf) (g.S.Shelf.read_faults l.shelf);
  writes : NoneFell (g.S.Shelf.write_faults l.fn.shelf) (g.S.Shelf.write_faults l.shelf);
  made : g.S.Shelf.made l.shelf + l.kept ≤ g.S.Shelf.made l.fn.shelf + min l.end l.need;
  from : l.kept ≤ l.end;
  len : length l.buffer ≡ length l.fn.buffer;
  room : l.end ≤ length l.buffer;
  within : l.at + l.end ≤ l.limit;
  same : take l.kept l.buffer ≡ take l.kept l.fn.buffer;
  there : IsTrue (g.S.Shelf.tells l.fn.shelf) → l.kept < l.end → IsSome (g.S.Shelf.held l.fn.shelf l.name);
  stand : IsTrue (g.S.Shelf.tells l.fn.shelf) → StandsAt (g.S.Shelf.held l.fn.shelf l.name) l.at (take l.kept l.fn.buffer) → StandsAt (g.S.Shelf.held l.fn.shelf l.name) l.at (take l.end l.buffer);
}

abbrev pub decreases-loop-end : goal.decreases-loop-end
decreases-loop-end g l = l.need - l.end
