use Rattle.beat_core.proofs.BeatLaws.{frame_of-beats_of, beats_of-frame_of, IsWhole-beats_of, IsFilledUp-beats_of, length-beats_of}
use Rattle.beat_core.proofs.laws.beats_and_frames.Goals as goal

pub returns : goal.returns
returns c = record {
  frame = frame_of-beats_of;
  beats = beats_of-frame_of;
  whole = IsWhole-beats_of;
  filled = IsFilledUp-beats_of;
  count = length-beats_of;
}
