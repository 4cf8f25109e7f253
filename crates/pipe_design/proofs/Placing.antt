-- Where the blocks of all parts stand.
use Rattle.std.proofs.Common.{◌≡◌, ◌∙◌, ℕ, suc, ◌+◌, ◌*◌, ◌<◌, ◌≤◌, List, [], ◌∷◌, length, map as map_list, get_or, refl, ap, arith}
use Rattle.std.proofs.lemmas.List.{length-map, get_or-map}
use Rattle.block_core.specs.declared.name.Name.{Name}
use Rattle.block_core.specs.declared.block.Block.{Block}
use Rattle.block_core.specs.Blocks.{BlockTree, Whole}
use Rattle.block_core.specs.View.{block_of}
use Rattle.commit_net.specs.declared.change_net.change.ChangePart.{ChangePart}
use Rattle.commit_net.specs.declared.change_net.pointed.PointedWords.{PointedWords}
use Rattle.turn_net.specs.declared.target_net.targets.TargetPart.{TargetPart}
use Rattle.pipe_net.specs.declared.parts.Part.{Part}
use Rattle.pipe_net.specs.declared.parts.Sizes.{Sizes}
use Rattle.pipe_net.specs.Parts as part
use Rattle.pipe_net.specs.Parts.{behind_words, behind_maps, part_count}
use Rattle.place_parts.specs.FrameParts.Blocks as frames
use Rattle.pipe_parts.specs.declared.slot_parts.slots.SlotsPart.{SlotsPart}
use Rattle.pipe_design.specs.declared.map_parts.parts.PartsOfMap.{PartsOfMap}
use Rattle.pipe_design.specs.MapParts.Whole as maps
use Rattle.pipe_design.specs.declared.parts.Others.{Others}
use Rattle.pipe_design.specs.Order.{Lists, all_of, pairwise, no_block, whole_of}
use Rattle.pipe_design.specs.Parts.{blocks_of_map, lists_of}
use Rattle.pipe_design.proofs.Joining.{before, in_list, all_long, six_long, six_at}

-- there are as many of each sort as there are parts
pub record AreCounted (z : Sizes) (slots : List SlotsPart) (o : Others) : Type 0 where
  pub reloads : length o.reloads.items ≡ suc z.commit
  pub shown : length slots ≡ z.maps
  pub words : length o.places.words.items ≡ z.loads
  pub targets : length o.targets.items ≡ z.maps
  pub maps : length o.maps.maps.items ≡ z.maps
  pub changes : length o.maps.changes.items ≡ length o.maps.maps.items
  pub marks : length o.marks.items ≡ suc z.commit
  pub places : length o.places.places.items ≡ suc z.last

six_blocks : (x : PartsOfMap) (y : ChangePart (Name Part)) → length (blocks_of_map x y) ≡ 6
six_blocks x y = refl

module _ (z : Sizes) (slots : List SlotsPart) (o : Others) (counts : AreCounted z slots o) where
  abbrev lists : Lists
  lists = lists_of slots o

  abbrev whole : Whole Part
  whole = whole_of z lists

  -- ---- how many there are in each list
  many_reloads : length (map_list block_of o.reloads.items) ≡ suc z.commit
  many_reloads = length-map o.reloads.items block_of ∙ counts.reloads

  many_slots : length (map_list (λ (x : SlotsPart). block_of x.block) slots) ≡ z.maps
  many_slots = length-map slots (λ (x : SlotsPart). block_of x.block) ∙ counts.shown

  many_words : length (map_list (λ (x : PointedWords (Name Part)). block_of x.block) o.places.words.items) ≡ z.loads
  many_words = length-map o.places.words.items (λ (x : PointedWords (Name Part)). block_of x.block) ∙ counts.words

  many_targets : length (map_list (λ (x : TargetPart Part). block_of x.block) o.targets.items) ≡ z.maps
  many_targets = length-map o.targets.items (λ (x : TargetPart Part). block_of x.block) ∙ counts.targets

  many_maps : length (pairwise blocks_of_map o.maps.maps.items o.maps.changes.items) ≡ 6 * z.maps
  many_maps = six_long blocks_of_map six_blocks o.maps.maps.items o.maps.changes.items counts.changes ∙ ap (λ n. 6 * n) counts.maps

  many_marks : length (map_list block_of o.marks.items) ≡ suc z.commit
  many_marks = length-map o.marks.items block_of ∙ counts.marks

  many_places : length (map_list block_of o.places.places.items) ≡ suc z.last
  many_places = length-map o.places.places.items block_of ∙ counts.places

  -- ---- where each list begins
  from_slots : before lists 3 ≡ 4 + z.commit
  from_slots = omega (arith, many_reloads)

  from_words : before lists 4 ≡ 4 + z.commit + z.maps
  from_words = omega (arith, from_slots, many_reloads, many_slots)

  from_targets : before lists 5 ≡ behind_words z
  from_targets = omega (arith, many_reloads, many_slots, many_words)

  from_actions : before lists 6 ≡ behind_words z + z.maps
  from_actions = omega (arith, many_reloads, many_slots, many_words, many_targets)

  from_maps : before lists 7 ≡ behind_words z + z.maps + 3
  from_maps = omega (arith, many_reloads, many_slots, many_words, many_targets)

  from_control : before lists 8 ≡ behind_maps z
  from_control = omega (arith, many_reloads, many_slots, many_words, many_targets, many_maps)

  from_marks : before lists 9 ≡ behind_maps z + 1
  from_marks = omega (arith, many_reloads, many_slots, many_words, many_targets, many_maps)

  from_answers : before lists 10 ≡ behind_maps z + z.commit + 2
  from_answers = omega (arith, many_reloads, many_slots, many_words, many_targets, many_maps, many_marks)

  from_places : before lists 11 ≡ behind_maps z + z.commit + 5
  from_places = omega (arith, many_reloads, many_slots, many_words, many_targets, many_maps, many_marks)

  pub all_counted : length (all_of lists) ≡ part_count z
  all_counted = all_long lists ∙ omega (arith, many_reloads, many_slots, many_words, many_targets, many_maps, many_marks, many_places)

  -- ---- the blocks of parts by their numbers
  at : (i j n : ℕ) → j < length (get_or lists i []) → n ≡ before lists i + j → whole.block (part.part n) ≡ get_or (get_or lists i []) j no_block
  at i j n lt e = ap (λ k. get_or (all_of lists) k no_block) e ∙ in_list lists i j no_block lt

  pub reload_at : (k : ℕ) (x : Block (Name Part)) → k ≤ z.commit → whole.block (part.reload k) ≡ block_of (get_or o.reloads.items k x)
  reload_at k x le = at 1 k (1 + k) (omega (arith, many_reloads, le)) (omega arith) ∙ get_or-map block_of o.reloads.items k x no_block (omega (arith, counts.reloads, le))

  pub slots_at : (m : ℕ) (x : SlotsPart) → m < z.maps → whole.block (part.slots z m) ≡ block_of (get_or slots m x).block
  slots_at m x lt =
      at 3 m (4 + z.commit + m) (omega (arith, many_slots, lt)) (omega (arith, from_slots)) ∙ get_or-map (λ (y : SlotsPart). block_of y.block) slots m x no_block (omega (arith, counts.shown, lt))

  pub word_at : (i : ℕ) (x : PointedWords (Name Part)) → i < z.loads → whole.block (part.word z i) ≡ block_of (get_or o.places.words.items i x).block
  word_at i x lt =
      at 4 i (4 + z.commit + z.maps + i) (omega (arith, many_words, lt)) (omega (arith, from_words))
      ∙ get_or-map (λ (y : PointedWords (Name Part)). block_of y.block) o.places.words.items i x no_block (omega (arith, counts.words, lt))

  pub target_at : (m : ℕ) (x : TargetPart Part) → m < z.maps → whole.block (part.targets z m) ≡ block_of (get_or o.targets.items m x).block
  target_at m x lt =
      at 5 m (behind_words z + m) (omega (arith, many_targets, lt)) (omega (arith, from_targets))
      ∙ get_or-map (λ (y : TargetPart Part). block_of y.block) o.targets.items m x no_block (omega (arith, counts.targets, lt))

  pub host_at : whole.block (part.host z) ≡ block_of o.host
  host_at = at 6 0 (behind_words z + z.maps) (omega arith) (omega (arith, from_actions))

  pub action_at : whole.block (part.action z) ≡ block_of o.action
  action_at = at 6 1 (behind_words z + z.maps + 1) (omega arith) (omega (arith, from_actions))

  pub commits_at : whole.block (part.commits z) ≡ block_of o.commits
  commits_at = at 6 2 (behind_words z + z.maps + 2) (omega arith) (omega (arith, from_actions))

  map_at : (m j : ℕ) (x : PartsOfMap) (y : ChangePart (Name Part)) → m < z.maps → j < 6 → whole.block (part.of_map z m j) ≡ get_or (blocks_of_map (get_or o.maps.maps.items m x) (get_or o.maps.changes.items m y)) j no_block
  map_at m j x y lt few =
      at 7 (6 * m + j) (behind_words z + z.maps + 3 + 6 * m + j) (omega (arith, many_maps, lt, few)) (omega (arith, from_maps))
      ∙ six_at blocks_of_map six_blocks o.maps.maps.items o.maps.changes.items m j x y no_block counts.changes (omega (arith, counts.maps, lt)) few

  pub mark_at : (k : ℕ) (x : Block (Name Part)) → k ≤ z.commit → whole.block (part.marks z k) ≡ block_of (get_or o.marks.items k x)
  mark_at k x le =
      at 9 k (behind_maps z + 1 + k) (omega (arith, many_marks, le)) (omega (arith, from_marks)) ∙ get_or-map block_of o.marks.items k x no_block (omega (arith, counts.marks, le))

  pub place_at : (k : ℕ) (x : Block (Name Part)) → k ≤ z.last → whole.block (part.place z k) ≡ block_of (get_or o.places.places.items k x)
  place_at k x le =
      at 11 k (behind_maps z + z.commit + 5 + k) (omega (arith, many_places, le)) (omega (arith, from_places))
      ∙ get_or-map block_of o.places.places.items k x no_block (omega (arith, counts.places, le))

  -- ---- those of frames, and those of maps
  pub frames_at : frames.HasBlocks whole z o.frames
  frames_at = record {
    scatter = at 0 0 0 (omega arith) (omega arith);
    returns = at 2 0 (2 + z.commit) (omega arith) (omega (arith, many_reloads));
    sources = at 2 1 (3 + z.commit) (omega arith) (omega (arith, many_reloads));
    control = at 8 0 (behind_maps z) (omega arith) (omega (arith, from_control));
    gather = at 10 1 (behind_maps z + z.commit + 3) (omega arith) (omega (arith, from_answers));
    exit = at 10 2 (behind_maps z + z.commit + 4) (omega arith) (omega (arith, from_answers));
  }

  map_blocks_at : (m : ℕ) (x : PartsOfMap) (y : ChangePart (Name Part)) → m < z.maps → maps.HasBlocksOf whole z m (get_or o.maps.maps.items m x) (get_or o.maps.changes.items m y)
  map_blocks_at m x y lt = record {
    finder = map_at m 0 x y lt (omega arith);
    fetcher = map_at m 1 x y lt (omega arith);
    asker = map_at m 2 x y lt (omega arith);
    own = map_at m 3 x y lt (omega arith);
    written = map_at m 4 x y lt (omega arith);
    change = map_at m 5 x y lt (omega arith);
  }

  pub maps_at : maps.HasBlocks whole z o.maps
  maps_at = record { maps = map_blocks_at; value = at 10 0 (behind_maps z + z.commit + 2) (omega arith) (omega (arith, from_answers)) }
