use Rattle.std.proofs.Common.{ap}
use Rattle.std.specs.Option.{is_some}
use Rattle.xdp_maps.proofs.Pairs.{entry_found, found_entry}
use Rattle.xdp_maps.proofs.laws.pair_laws.Goals as goal

pub returns : goal.returns
returns c d m = record {
  found = λ i key value h. entry_found d.kind m i key value h;
  all = λ limits over key value h. found_entry d.kind d m key value limits.by_kind (over.keys key (ap is_some h)).0 h;
}
