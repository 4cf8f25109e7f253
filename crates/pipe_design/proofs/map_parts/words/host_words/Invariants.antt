use Rattle.std.proofs.Common.{◌≡◌, ℕ, ◌<◌, length, get_or}
use Rattle.block_core.specs.declared.name.Name.{Name}
use Rattle.commit_net.specs.declared.map_block.form.MapForm.{MapForm}
use Rattle.commit_net.specs.MapBlock.Stored.{host_word}
use Rattle.pipe_net.specs.declared.parts.Part.{Part}
use Rattle.pipe_net.specs.Parts as part
use Rattle.pipe_design.proofs.map_parts.words.host_words.Given as goal

abbrev pub invariant-loop-m : goal.invariant-loop-m
invariant-loop-m l = record {
  count : length l.words.items ≡ l.m;
  each : (m : ℕ) (n : Name Part) → m < l.m → (f : MapForm) → get_or l.words.items m n ≡ host_word (get_or l.pipeline_plan.forms.items m f) (part.own l.pipeline_plan.sizes m);
}
