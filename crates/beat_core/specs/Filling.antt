-- The bytes of a beat's word that do not count.
use Rattle.beat_core.specs.declared.beat.Beat.{Beat}
use Rattle.beat_core.specs.Words.{word_of}
use Rattle.beat_core.specs.Beats.{bytes_of_beat}

-- the same beat with zeros in their place
abbrev pub filled_up : Beat → Beat
filled_up b = record b { word = word_of (bytes_of_beat b) }
