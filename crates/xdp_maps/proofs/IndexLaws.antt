-- Indexes as keys.
use Rattle.std.proofs.Common.{◌≡◌, ℕ, ◌<◌, ◌^◌, []}
use Rattle.byteorder.specs.Numbers.{little_number-reads_back}
use Rattle.xdp_maps.specs.Contents.{index_key, index_of}

pub index_of-index_key : (i : ℕ) → i < 2 ^ 32 → index_of (index_key i) ≡ i
unfolding index_of index_key
index_of-index_key i h = little_number-reads_back 4 i [] h
