-- The parts of a pipeline by their numbers: those whose wires others read stand before these.
use Rattle.std.specs.Prelude.{ℕ, ◌+◌, ◌*◌, ◌^◌, ◌<◌, ◌≤◌, List, map}
use Rattle.hazard_core.specs.cell_core.Rows.{numbers}
use Rattle.pipe_net.specs.declared.parts.Part.{Part}
use Rattle.pipe_net.specs.declared.parts.Sizes.{Sizes}

abbrev pub part_place : Part → ℕ
part_place p = p.number

abbrev pub part : ℕ → Part
part n = record { number = n }

-- places up to the last, where packets commit at one of them, at most sixteen maps
pub record IsSmall (z : Sizes) : Type 0 where
  pub commit : z.commit ≤ z.last
  pub last : z.last < 512
  pub maps : z.maps ≤ 16
  pub loads : z.loads < 2 ^ 20

-- ---- what is read of frames, of packets that must reload, of slots and of words under pointers
abbrev pub scatter : Part
scatter = part 0

abbrev pub reload : ℕ → Part
reload k = part (1 + k)

abbrev pub returns : Sizes → Part
returns z = part (2 + z.commit)

abbrev pub sources : Sizes → Part
sources z = part (3 + z.commit)

abbrev pub slots : Sizes → ℕ → Part
slots z m = part (4 + z.commit + m)

abbrev pub word : Sizes → ℕ → Part
word z i = part (4 + z.commit + z.maps + i)

abbrev pub behind_words : Sizes → ℕ
behind_words z = 4 + z.commit + z.maps + z.loads

-- ---- what commits
abbrev pub targets : Sizes → ℕ → Part
targets z m = part (behind_words z + m)

abbrev pub host : Sizes → Part
host z = part (behind_words z + z.maps)

abbrev pub action : Sizes → Part
action z = part (behind_words z + z.maps + 1)

abbrev pub commits : Sizes → Part
commits z = part (behind_words z + z.maps + 2)

-- ---- the maps, six parts each
abbrev pub of_map : Sizes → ℕ → ℕ → Part
of_map z m at = part (behind_words z + z.maps + 3 + 6 * m + at)

abbrev pub finder : Sizes → ℕ → Part
finder z m = of_map z m 0

abbrev pub fetcher : Sizes → ℕ → Part
fetcher z m = of_map z m 1

abbrev pub asker : Sizes → ℕ → Part
asker z m = of_map z m 2

abbrev pub own : Sizes → ℕ → Part
own z m = of_map z m 3

abbrev pub written : Sizes → ℕ → Part
written z m = of_map z m 4

abbrev pub change : Sizes → ℕ → Part
change z m = of_map z m 5

abbrev pub behind_maps : Sizes → ℕ
behind_maps z = behind_words z + 3 + 7 * z.maps

-- ---- after them
abbrev pub control : Sizes → Part
control z = part (behind_maps z)

abbrev pub marks : Sizes → ℕ → Part
marks z k = part (behind_maps z + 1 + k)

abbrev pub value : Sizes → Part
value z = part (behind_maps z + z.commit + 2)

abbrev pub gather : Sizes → Part
gather z = part (behind_maps z + z.commit + 3)

abbrev pub exit : Sizes → Part
exit z = part (behind_maps z + z.commit + 4)

-- ---- the places: what they read of wires stands before them, and whether packets move on is a wire of control
abbrev pub place : Sizes → ℕ → Part
place z k = part (behind_maps z + z.commit + 5 + k)

abbrev pub part_count : Sizes → ℕ
part_count z = behind_maps z + z.commit + 6 + z.last

-- all of them, in this order
abbrev pub parts_of : Sizes → List Part
parts_of z = map part (numbers 0 (part_count z))
