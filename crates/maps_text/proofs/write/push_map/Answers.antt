use Rattle.std.proofs.Common.{◌<◌, ◌≤◌, arith}
use Rattle.xdp_maps.specs.State.{decl_at, contents_at}
use Rattle.maps_text.proofs.Written.{pairs_on, pairs_all}
use Rattle.maps_text.proofs.write.push_map.Goals as goal

pub loop-i-preserved : goal.loop-i-preserved
loop-i-preserved c =
    let d = decl_at c.args.maps.now c.args.map in
    let within : c.loop-i.i < d.cap = omega (arith, c.loop-i-test.true, c.loop-i.invariant.whole) in
    record {
      whole = c.loop-i.invariant.whole;
      written = pairs_on d (contents_at c.args.maps.now c.args.map) c.loop-i.i d.cap c.loop-i.text.items c.push_pair.new.text.items _ within c.loop-i.invariant.written c.in_ok-push_pair.ensures;
    }

pub returns : goal.returns
returns c =
    let d = decl_at c.args.maps.now c.args.map in
    let past : d.cap ≤ c.loop-i.i = omega (arith, c.loop-i-test.false, c.loop-i.invariant.whole) in
    pairs_all d (contents_at c.args.maps.now c.args.map) c.loop-i.i d.cap c.loop-i.text.items _ past c.loop-i.invariant.written
