-- What a clock changes in a map, in nets: the slot, the key there, and whether this comes or goes.
use Rattle.std.specs.Prelude.{◌≡◌, ℕ, ◌<◌, ◌==◌, Bool, true, false, ◌&&◌, ◌||◌, if◌then◌else◌, All, List, [], ◌∷◌, ◌++◌, length, map as map_list}
use Rattle.std.proofs.Common.{get_or}
use Rattle.net_core.specs.declared.ports.TheConstants.{HOST_MAP}
use Rattle.net_core.specs.Value.{word, bit as net_bit, Env}
use Rattle.block_core.specs.declared.name.Name.{Name}
use Rattle.block_core.specs.declared.name.Name.TheVariants as name
use Rattle.block_core.specs.Blocks.{BlockTree, BlockWireTree}
use Rattle.block_core.specs.Parts.{Solve}
use Rattle.overlay_net.specs.xdp_maps.declared.decl.MapDecl.{MapDecl}
use Rattle.overlay_net.specs.xdp_maps.declared.decl.MapKind.{MapKind}
use Rattle.overlay_net.specs.xdp_maps.declared.decl.MapKind.TheVariants.{Hash, Array}
use Rattle.overlay_net.specs.xdp_maps.Contents.{IsBytes, index_key}
use Rattle.overlay_net.specs.cell_core.declared.site.Act.{Act}
use Rattle.overlay_net.specs.cell_core.declared.site.Act.TheVariants as act
use Rattle.overlay_net.specs.cell_core.Cells.{bit, on, bits_from, phi}
use Rattle.overlay_net.specs.cell_core.Sites.{ProgramView, site_at}
use Rattle.overlay_net.specs.cell_core.Formed.{FitsMap}
use Rattle.overlay_net.specs.hazard_core.declared.slot.Slot.{Slot}
use Rattle.overlay_net.specs.hazard_core.declared.access.Access.{Access}
use Rattle.overlay_net.specs.hazard_core.Tables.{TableState, decl_of, table_at, slot_at, has_key}
use Rattle.overlay_net.specs.hazard_core.StageValues.{StageValues, is_delete}
use Rattle.overlay_net.specs.hazard_core.Commits.{word_count, word_at as byte_word, makes_entry, written_slot, change_by, host_change}
use Rattle.overlay_net.specs.hazard_core.Changes.{IsRightCommit}
use Rattle.hash_net.specs.array_net.Hosts.{SeesHost}
use Rattle.overlay_net.specs.cell_nets.declared.operand.Operand.{Operand}
use Rattle.overlay_net.specs.cell_nets.declared.operand.Operand.TheVariants.{Known, Net}
use Rattle.overlay_net.specs.cell_nets.Operands.{number_in, IsOperand, AreFit}
use Rattle.overlay_net.specs.cell_nets.Wires.{always}
use Rattle.overlay_net.specs.cell_nets.StepNets.Standing.{Stands}
use Rattle.commit_net.specs.declared.choosing.CommitNets.{CommitNets}
use Rattle.commit_net.specs.Choosing.{all_read, Commits}
use Rattle.commit_net.specs.Wholes.{slot_before}
use Rattle.overlay_net.specs.cell_nets.OperandBlocks.Wiring.{IsWiring, Offers}
use Rattle.read_net.specs.declared.touch_net.change.ChangeNets.{ChangeNets}
use Rattle.read_net.specs.TouchNet.Touching.{IsChangeNets, ShowsChange}
use Rattle.commit_net.specs.ChangeNet.Pointed.{word_operands}

-- ---- the key
-- whether the key of a change is that of the operation, and not the one that stands in the slot
abbrev pub owns_key : Act → Bool
owns_key act.Update = true
owns_key act.Delete = true
owns_key a = false

-- what stands for a word of it where an operation commits
abbrev pub key_by : {N : Type 0} → ℕ → Operand N → CommitNets N → Operand N
key_by w there n = if owns_key n.act then get_or n.nets.now.key.items w (Known 0) else there

-- whether each of several commits, and that
abbrev pub key_pairs : {N : Type 0} → ℕ → Operand N → List (CommitNets N) → List (Operand N)
key_pairs w there [] = []
key_pairs w there (n ∷ ns) = n.chosen ∷ key_by w there n ∷ key_pairs w there ns

abbrev pub key_value : {N : Type 0} → Env N → List (CommitNets N) → Operand N → ℕ → Operand N → ℕ
key_value v ns commits w there = bits_from (if on (number_in v commits) then phi (map_list (number_in v) (key_pairs w there ns)) else number_in v there) 0 64

-- operands have these numbers, by nets that show the words of the key in the slot
abbrev pub ShowWords : {N : Type 0} → Env N → List (CommitNets N) → Operand N → List N → List (Operand N) → Type 0
ShowWords {N} v ns commits keys outs = (length outs ≡ length keys) × ((w : ℕ) (d : Operand N) (n : N) → w < length keys → number_in v (get_or outs w d) ≡ key_value v ns commits w (Net (get_or keys w n) 64))

abbrev pub ShowKeys_as : {N : Type 0} → MapKind → Env N → List (CommitNets N) → Operand N → Operand N → List N → List (Operand N) → Type 0
ShowKeys_as Hash v ns commits slot keys outs = ShowWords v ns commits keys outs
ShowKeys_as Array v ns commits slot keys outs = outs ≡ slot ∷ []

abbrev pub ShowKeys : {N : Type 0} → Env N → MapDecl → List (CommitNets N) → Operand N → Operand N → List N → List (Operand N) → Type 0
ShowKeys v d ns commits slot keys outs = ShowKeys_as d.kind v ns commits slot keys outs

-- after more wires stand such operands
pub record AreKeys {P : Type 0} (part : P) (old new : List (BlockWireTree (Name P))) (ns : List (CommitNets (Name P))) (commits : Operand (Name P)) (keys : List (Name P)) (outs : List (Operand (Name P))) : Type 0 where
  pub count : length outs ≡ length keys
  pub operands : All IsOperand outs
  pub stands : Stands part old new (commits ∷ word_operands keys ++ all_read ns) always outs (λ v. ShowWords v ns commits keys outs)

-- ---- whether the key comes or goes
abbrev pub ShowsPresence : {N : Type 0} → Env N → List (CommitNets N) → Operand N → Operand N → Type 0
ShowsPresence v ns commits o =
    (on (number_in v commits) ≡ false → number_in v o ≡ 0)
    × ((p : ProgramView) (t : TableState) (taken : List ℕ) (h : StageValues) (j : ℕ) → Commits v p t taken h j ns → on (number_in v commits) ≡ true → number_in v o ≡ bit (is_delete (site_at p.sites j).act || makes_entry p t h j))

-- ---- a clock
-- nets show the words of the key in a slot; of an array this is the slot's number
abbrev pub ShowsKey_as : {N : Type 0} → MapKind → Env N → MapDecl → List N → ℕ → Slot → Type 0
ShowsKey_as {N} Hash v d keys n s = (w : ℕ) (e : N) → w < word_count d.key → (v.net (get_or keys w e)).value ≡ byte_word s.key w
ShowsKey_as Array v d keys n s = has_key (index_key n) s ≡ true

abbrev pub ShowsKey : {N : Type 0} → Env N → MapDecl → List N → ℕ → Slot → Type 0
ShowsKey v d keys n s = ShowsKey_as d.kind v d keys n s

-- The operation of a packet at site j commits, on a map of this declaration, and nets show the slot that it writes and the key there.
pub record IsCommitting {P : Type 0} (v : Env (Name P)) (p : ProgramView) (t : TableState) (taken : List ℕ) (h : StageValues) (j : ℕ) (d : MapDecl) (bits : ℕ) (ns : List (CommitNets (Name P))) (commits slot : Name P) (keys : List (Name P)) : Type 0 where
  pub operation : Commits v p t taken h j ns
  pub acts : v.net commits ≡ net_bit true
  pub in_slot : v.net slot ≡ word bits (written_slot p t taken h j)
  pub declared : decl_of t.decls (site_at p.sites j).map ≡ d
  pub fits : FitsMap t.decls (site_at p.sites j)
  pub right : IsRightCommit p t taken h j
  pub key : ShowsKey v d keys (written_slot p t taken h j) (slot_before p t taken h j)
  pub bytes : owns_key (site_at p.sites j).act ≡ false → IsBytes d.key (slot_before p t taken h j).key

-- The host names a slot of a map of this declaration while none commits, and nets show this slot and the key there.
pub record IsNaming {P : Type 0} (v : Env (Name P)) (t : TableState) (a : Access) (d : MapDecl) (bits : ℕ) (commits slot : Name P) (keys : List (Name P)) : Type 0 where
  pub idle : v.net commits ≡ net_bit false
  pub in_slot : v.net slot ≡ word bits a.index
  pub key : ShowsKey v d keys a.index (slot_at (table_at t a.map) a.index)
  pub bytes : IsBytes d.key (slot_at (table_at t a.map) a.index).key

-- ---- the part
abbrev pub host_map : {P : Type 0} → Operand (Name P)
host_map = Net (name.Port HOST_MAP) 4

-- what comes from outside: whether an operation commits, whether the host writes, the slot, the map that the host names, the words of the key in the slot, and
-- what stands for the operations
abbrev pub change_outside : {P : Type 0} → ℕ → Name P → Name P → Name P → List (Name P) → List (CommitNets (Name P)) → List (Operand (Name P))
change_outside bits commits host slot keys ns = Net commits 1 ∷ Net host 1 ∷ Net slot bits ∷ host_map ∷ word_operands keys ++ all_read ns

abbrev pub change_given : {P : Type 0} → Operand (Name P) → List (Operand (Name P)) → Operand (Name P) → Name P → Name P → List (Operand (Name P))
change_given slot key presence any by_host = slot ∷ presence ∷ Net any 1 ∷ Net by_host 1 ∷ key

-- the operands of a change are these
pub record StandsFor {N : Type 0} (slot : Operand N) (key : List (Operand N)) (presence : Operand N) (c : ChangeNets N) : Type 0 where
  pub slot_is : c.slot ≡ slot
  pub key_is : c.key.now ≡ key
  pub presence_is : c.presence ≡ presence

-- The block: wires alone, and operands that stand for the change of a clock, of a commit or of what the host writes; with nets that say whether the map changes, and
-- whether it does so by the host.
pub record IsChange {P : Type 0} (part : P) (number : ℕ) (d : MapDecl) (bits : ℕ) (ns : List (CommitNets (Name P))) (commits host slot : Name P) (keys : List (Name P)) (at : Operand (Name P)) (key : List (Operand (Name P))) (presence : Operand (Name P)) (any by_host : Name P)
    (b : BlockTree (Name P)) : Type 0 where
  pub wiring : IsWiring part (change_outside bits commits host slot keys ns) b
  pub offers : Offers part (change_outside bits commits host slot keys ns) b (change_given at key presence any by_host)
  pub nets : (c : ChangeNets (Name P)) → StandsFor at key presence c → IsChangeNets d.key c
  pub committed : (v : Env (Name P)) (p : ProgramView) (t : TableState) (taken : List ℕ) (h : StageValues) (j : ℕ) (c : ChangeNets (Name P)) → AreFit v (change_outside bits commits host slot keys ns) → Solve v part 0 b.wires → IsCommitting v p t taken h j d bits ns commits slot keys
      → StandsFor at key presence c → ShowsChange v d.key (change_by p t taken h j) c
  pub written : (v : Env (Name P)) (t : TableState) (a : Access) (c : ChangeNets (Name P)) → AreFit v (change_outside bits commits host slot keys ns) → Solve v part 0 b.wires → IsNaming v t a d bits commits slot keys → StandsFor at key presence c → ShowsChange v d.key (host_change t a) c
  pub says_any : (v : Env (Name P)) (a : Access) (n : ℕ) (c h : Bool) → AreFit v (change_outside bits commits host slot keys ns) → Solve v part 0 b.wires → SeesHost v a n → v.net commits ≡ net_bit c → v.net host ≡ net_bit h → v.net any ≡ net_bit (c || (h && (a.map == number)))
  pub says_host : (v : Env (Name P)) (a : Access) (n : ℕ) (h : Bool) → AreFit v (change_outside bits commits host slot keys ns) → Solve v part 0 b.wires → SeesHost v a n → v.net host ≡ net_bit h → v.net by_host ≡ net_bit (h && (a.map == number))
