use Rattle.std.proofs.Common.{◌≡◌, ℕ, ◌<◌, length, get_or}
use Rattle.block_core.specs.declared.name.Name.{Name}
use Rattle.commit_net.specs.declared.change_net.pointed.PointedWords.{PointedWords}
use Rattle.pipe_net.specs.declared.parts.Part.{Part}
use Rattle.place_parts.specs.Words.{IsWordPart}
use Rattle.place_parts.proofs.words.word_parts.Given as goal

abbrev pub invariant-loop-i : goal.invariant-loop-i
invariant-loop-i l = record {
  count : length l.words.items ≡ l.i;
  each : (i : ℕ) (x : PointedWords (Name Part)) → i < l.i → IsWordPart l.pipeline_plan l.places i (get_or l.words.items i x);
}
