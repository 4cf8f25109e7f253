use Rattle.ehdl_top.proofs.PreparedLemmas.{prepared_objects_compile}
use Rattle.ehdl_top.proofs.laws.prepared_objects_compile.Goals as goal

pub returns : goal.returns
returns c = prepared_objects_compile
