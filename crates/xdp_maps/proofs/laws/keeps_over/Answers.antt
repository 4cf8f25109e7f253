use Rattle.xdp_maps.proofs.Opened.{opened_over}
use Rattle.xdp_maps.proofs.Over.{updated_over, deleted_over, stored_over, changed_over}
use Rattle.xdp_maps.proofs.laws.keeps_over.Goals as goal

pub returns : goal.returns
returns c d m = record {
  opens = opened_over d;
  updates = λ over key value flags key_fits value_fits. updated_over d m key value flags over key_fits value_fits;
  deletes = λ over key. deleted_over d m key over;
  stores = λ over key at bytes inside fit. stored_over d m key at bytes over inside fit;
  changes = λ over key at x inside. changed_over d m key at x over inside;
}
