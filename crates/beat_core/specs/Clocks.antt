-- What goes over in a list of clocks, and the frames that it makes.
use Rattle.std.specs.Prelude.{ℕ, zero, suc, ◌<◌, List, [], ◌∷◌, ◌++◌, Bool, false, if◌then◌else◌, Option, Some, None, option_to_list}
use Rattle.std.specs.List.{flat_map}
use Rattle.beat_core.specs.declared.beat.Beat.{Beat}
use Rattle.beat_core.specs.declared.frame.TheConstants.{BEAT_LIMIT}
use Rattle.beat_core.specs.Beats.{bytes_of_beat, IsOffer}

-- what a gatherer holds: the bytes of the frame so far, and whether its last beat has come
pub record Gathered : Type 0 where
  pub bytes : List ℕ
  pub whole : Bool

-- before the first beat
abbrev pub nothing_gathered : Gathered
nothing_gathered = record { bytes = []; whole = false }

-- the bytes so far of the frame that the next beat belongs to: none after a last beat
abbrev pub begun : Gathered → List ℕ
begun g = if g.whole then [] else g.bytes

-- after one more beat
abbrev pub gathered : Gathered → Beat → Gathered
gathered g b = record { bytes = begun g ++ bytes_of_beat b; whole = b.last }

-- after a clock, in which a beat came or none
abbrev pub after_clock : Gathered → Option Beat → Gathered
after_clock g None = g
after_clock g (Some b) = gathered g b

-- the beats that came in a list of clocks
abbrev pub went_over : List (Option Beat) → List Beat
went_over clocks = flat_map option_to_list clocks

-- The whole frames among beats: each ends with a last beat. The first has begun with some bytes before.
abbrev pub frames_among : List ℕ → List Beat → List (List ℕ)
frames_among so_far [] = []
frames_among so_far (b ∷ bs) =
    if b.last then (so_far ++ bytes_of_beat b) ∷ frames_among [] bs else frames_among (so_far ++ bytes_of_beat b) bs

-- Offers are well formed: each beat may be offered, and a frame has no more of them than the bound. Of the first
-- frame n beats have come before.
abbrev pub AreOffers : ℕ → List Beat → Type 0
AreOffers n [] = Unit {0}
AreOffers n (b ∷ bs) = IsOffer b × (n < BEAT_LIMIT) × AreOffers (if b.last then zero else suc n) bs
