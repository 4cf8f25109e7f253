use Rattle.xdp_maps.proofs.Arrays.{index_key-index_of}
use Rattle.xdp_maps.proofs.IndexLaws.{index_of-index_key}
use Rattle.xdp_maps.proofs.Opened.{IsBytes-index_key, bytes_below}
use Rattle.xdp_maps.proofs.laws.index_laws.Goals as goal

pub returns : goal.returns
returns c = record {
  index_back = index_of-index_key;
  key_back = λ key fits. index_key-index_of key fits.len (bytes_below key fits.bytes_fit);
  key_bytes = IsBytes-index_key;
}
