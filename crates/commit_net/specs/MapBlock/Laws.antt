-- A clock of a design that has the parts of a map.
use Rattle.std.specs.Prelude.{◌≡◌, List}
use Rattle.net_core.specs.declared.tree.Word.{Word}
use Rattle.net_core.specs.Value.{Env}
use Rattle.net_core.specs.Clock.{Stored}
use Rattle.block_core.specs.declared.name.Name.{Name}
use Rattle.block_core.specs.Blocks.{Whole}
use Rattle.block_core.specs.Parts.{Sees}
use Rattle.overlay_net.specs.xdp_maps.declared.decl.MapKind.TheVariants.{Hash, Array}
use Rattle.overlay_net.specs.hazard_core.Commits.{word_count}
use Rattle.hash_net.specs.array_net.declared.words.WordNets.{WordNets}
use Rattle.hash_net.specs.array_net.Array.{IsArray}
use Rattle.hash_net.specs.HashNets.{value_first}
use Rattle.hash_net.specs.Hash.{IsHash}
use Rattle.commit_net.specs.declared.choosing.CommitNets.{CommitNets}
use Rattle.commit_net.specs.Fetching.{IsFetch, fetched_words}
use Rattle.commit_net.specs.Wholes.{IsSlotPart, IsHashCommit, IsArrayCommit}
use Rattle.commit_net.specs.declared.map_block.form.MapForm.{MapForm}
use Rattle.commit_net.specs.declared.map_block.parts.MapParts.{MapParts}
use Rattle.commit_net.specs.declared.map_block.parts.ControlNets.{ControlNets}
use Rattle.commit_net.specs.MapBlock.Forms.{FormFits}
use Rattle.commit_net.specs.MapBlock.Parts.{MapTrees, AreParts, SolveAll, with_slot_net}
use Rattle.commit_net.specs.MapBlock.Stored.{SeesStored}
use Rattle.commit_net.specs.MapBlock.Block.{IsMapBlock}

-- Their wires have the values of their right sides, and the last one sees what it stores: so much `DoesMap` asks of a clock.
abbrev pub SeesParts : (P : Type 0) → Type 0
SeesParts P = (w : Whole P) (ins : List Word) (ss : P → Stored) (v : Env (Name P)) (ps : MapParts P) (bs : MapTrees (Name P)) → Sees w ins ss v → AreParts w ps bs → SolveAll v ps bs × SeesStored ps.own v (ss ps.own)

-- Blocks of an array, or of a hash, that keep their contracts, each by the nets of the others, are those of a map.
abbrev pub ArraysAreMaps : (P : Type 0) → Type 0
ArraysAreMaps P =
    (f : MapForm) (ps : MapParts P) (c : ControlNets (Name P)) (ns : List (CommitNets (Name P))) (bs : MapTrees (Name P)) (values : List (WordNets (Name P))) → f.decl.kind ≡ Array → FormFits f → IsSlotPart ps.finder f.bits ns bs.slot bs.finds
    → IsFetch ps.fetcher ps.own f.bits 0 f.decl.value 0 (word_count f.decl.value) bs.slot bs.fetches → IsArrayCommit ps.asker f.decl ns (fetched_words ps.fetcher (word_count f.decl.value)) values bs.asks
    → IsArray ps.own f.number f.decl f.bits (with_slot_net c bs.slot) values bs.stores → IsMapBlock f ps c ns bs

abbrev pub HashesAreMaps : (P : Type 0) → Type 0
HashesAreMaps P =
    (f : MapForm) (ps : MapParts P) (c : ControlNets (Name P)) (ns : List (CommitNets (Name P))) (bs : MapTrees (Name P)) (inserts deletes : Name P) (keys : List (Name P)) (values : List (WordNets (Name P))) → f.decl.kind ≡ Hash → FormFits f → IsSlotPart ps.finder f.bits ns bs.slot bs.finds
    → IsFetch ps.fetcher ps.own f.bits (value_first f.decl) f.decl.value 0 (word_count f.decl.value) bs.slot bs.fetches
    → IsHashCommit ps.asker f.decl f.bits ns (fetched_words ps.fetcher (word_count f.decl.value)) (record { map = with_slot_net c bs.slot; idle = c.idle; inserts = inserts; deletes = deletes }) keys values bs.asks
    → IsHash ps.own f.number f.decl f.bits (record { map = with_slot_net c bs.slot; idle = c.idle; inserts = inserts; deletes = deletes }) keys values bs.stores → IsMapBlock f ps c ns bs
