-- What an answer says of sizes.
use Rattle.std.proofs.Common.{◌≡◌, ℕ, List, Ok, Err, sym, ◌∙◌, ap}
use Rattle.std.specs.Prelude.{Result}
use Rattle.xdp_state.specs.xdp_maps.State.{MapState}
use Rattle.xdp_state.specs.xdp_machine.Runs.{Progress}
use Rattle.xdp_state.specs.xdp_machine.MachineLaws.{frame_so_far, maps_so_far}
use Rattle.xdp_seq.specs.declared.run.Ended.{Ended}
use Rattle.xdp_seq.specs.declared.run.SeqError.{SeqError}
use Rattle.xdp_seq.specs.declared.run.SeqError.TheVariants.{Stuck, Spent}
use Rattle.xdp_seq.specs.Answers.{Answers}

pub frame_answered : (r : Result Ended SeqError) (p : Progress) (frame : List ℕ) (maps : MapState) → Answers r p frame maps → frame ≡ frame_so_far p
frame_answered (Ok e) p frame maps h = sym (ap frame_so_far h)
frame_answered (Err (Stuck at)) p frame maps (m, is, stands) = sym (ap frame_so_far is ∙ stands.frame_is)
frame_answered (Err (Spent at)) p frame maps (m, is, stands) = sym (ap frame_so_far is ∙ stands.frame_is)

pub maps_answered : (r : Result Ended SeqError) (p : Progress) (frame : List ℕ) (maps : MapState) → Answers r p frame maps → maps ≡ maps_so_far p
maps_answered (Ok e) p frame maps h = sym (ap maps_so_far h)
maps_answered (Err (Stuck at)) p frame maps (m, is, stands) = sym (ap maps_so_far is ∙ stands.maps_are)
maps_answered (Err (Spent at)) p frame maps (m, is, stands) = sym (ap maps_so_far is ∙ stands.maps_are)
