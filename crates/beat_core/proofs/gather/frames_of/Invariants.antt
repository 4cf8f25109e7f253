use Rattle.std.proofs.Common.{[], drop}
use Rattle.beat_core.specs.Clocks.{went_over, frames_among}
use Rattle.beat_core.proofs.OrderLaws.{OffersLeft, Told}
use Rattle.beat_core.proofs.gather.frames_of.Given as goal

-- the frames so far and those of the clocks to come are all, and what is to come are well-formed offers
abbrev pub invariant-loop-beat : goal.invariant-loop-beat
invariant-loop-beat l =
    let clocks = drop l.beat-index l.clocks in
    Told l.frames.items l.gather clocks (frames_among [] (went_over l.clocks)) × OffersLeft l.gather (went_over clocks)
