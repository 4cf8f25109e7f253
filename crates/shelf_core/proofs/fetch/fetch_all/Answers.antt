use Rattle.std.proofs.Common.{◌≡◌, ◌≤◌, ◌++◌, length, take, arith, rules}
use Rattle.std.proofs.lemmas.Grind.{common_steps}
use Rattle.shelf_core.specs.Shelf.{Reads}
use Rattle.shelf_core.proofs.Reading.{read_more}
use Rattle.shelf_core.proofs.fetch.fetch_all.Goals as goal

pub loop-block-preserved : goal.loop-block-preserved
loop-block-preserved g c = record {
  tells = search rules;
  held = search rules;
  reads = search rules;
  writes = search rules;
  made = search rules;
  room = search rules;
  within = search rules;
  front = λ t.
      let old = c.loop-block.invariant.front t in
      let room : c.in_ok-n.n ≤ length c.read_at.new.into = search rules in
      let reads : Reads (g.S.Shelf.held c.args.shelf.now c.args.name.now) (length c.loop-block.all.items) c.in_ok-n.n c.read_at.new.into = search rules in
      let items : c.extend_from_slice.new.self.items ≡ c.loop-block.all.items ++ take c.in_ok-n.n c.read_at.new.into = grind (arith, common_steps) in
      rw items (read_more _ _ c.read_at.new.into c.in_ok-n.n old room (omega arith) reads);
}
