use Rattle.std.proofs.Common.{◌≡◌, ℕ, ◌<◌, length, get_or}
use Rattle.hazard_core.specs.xdp_maps.declared.decl.MapDecl.{MapDecl}
use Rattle.commit_net.specs.declared.map_block.form.MapForm.{MapForm}
use Rattle.pipe_parts.proofs.PipeDraft.Forming.{IsFormOf}
use Rattle.pipe_parts.proofs.pipe_draft.forms.forms_of.Given as goal

abbrev pub invariant-loop-number : goal.invariant-loop-number
invariant-loop-number l = record {
  count : length l.forms.items ≡ l.number;
  each : (m : ℕ) (f : MapForm) (d : MapDecl) → m < l.number → IsFormOf m (get_or l.decls m d) (get_or l.forms.items m f);
}
