-- The part that gives the slot that a clock writes in a map, and the words of the key there.
use Rattle.std.specs.Prelude.{◌≡◌, ℕ, ◌^◌, ◌<◌, true, false, List, [], ◌∷◌}
use Rattle.std.proofs.Common.{get_or}
use Rattle.net_core.specs.declared.ports.TheConstants.{HOST_INDEX}
use Rattle.net_core.specs.Ports.{port_list}
use Rattle.net_core.specs.Value.{word, bit, Env}
use Rattle.net_core.specs.Clock.{Stored}
use Rattle.block_core.specs.declared.name.Name.{Name}
use Rattle.block_core.specs.declared.name.Name.TheVariants as name
use Rattle.block_core.specs.Blocks.{BlockTree, BlockWireTree, Whole}
use Rattle.block_core.specs.Parts.{Solve}
use Rattle.block_core.specs.Formed.{names_scope, block_memories, IsTypedBlock}
use Rattle.overlay_net.specs.xdp_maps.declared.decl.MapDecl.{MapDecl}
use Rattle.overlay_net.specs.xdp_maps.declared.decl.MapKind.{MapKind}
use Rattle.overlay_net.specs.xdp_maps.declared.decl.MapKind.TheVariants.{Hash, Array}
use Rattle.overlay_net.specs.hazard_core.declared.slot.Slot.{Slot}
use Rattle.overlay_net.specs.hazard_core.declared.access.Access.{Access}
use Rattle.overlay_net.specs.hazard_core.Tables.{slot_at}
use Rattle.overlay_net.specs.hazard_core.Commits.{word_count, word_at as byte_word}
use Rattle.hash_net.specs.array_net.Hosts.{SeesHost, SeesMemories}
use Rattle.hash_net.specs.HashNets.{hash_memories}
use Rattle.hash_net.specs.Hash.{StoresHash}
use Rattle.overlay_net.specs.cell_nets.declared.operand.Operand.{Operand}
use Rattle.overlay_net.specs.cell_nets.declared.operand.Operand.TheVariants.{Net}
use Rattle.overlay_net.specs.cell_nets.Operands.{AreFit, AreDeclared}
use Rattle.commit_net.specs.ChangeNet.Pointed.{IsPointedWords}

-- how many words of keys the table of a map has
abbrev pub key_count_as : MapKind → MapDecl → ℕ
key_count_as Hash d = word_count d.key
key_count_as Array d = 0

abbrev pub key_count : MapDecl → ℕ
key_count d = key_count_as d.kind d

-- what comes from outside: whether an operation commits, the slot that it writes, and the host's index
abbrev pub written_outside : {P : Type 0} → ℕ → Name P → Name P → List (Operand (Name P))
written_outside bits commits slot = Net commits 1 ∷ Net slot bits ∷ Net (name.Port HOST_INDEX) 16 ∷ []

-- The block: after a choice between the slot of a commit and the host's index the net of the slot that is written, and of a hash nets that show the words
-- of the key in that slot of the table that the other part stores, from its second memory on.
pub record IsWritten {P : Type 0} (part of : P) (d : MapDecl) (bits : ℕ) (commits slot out : Name P) (words : List (Name P)) (b : BlockTree (Name P)) : Type 0 where
  pub over : List (BlockWireTree (Name P))
  pub chosen : Operand (Name P)
  pub words_of : IsPointedWords part of (written_outside bits commits slot) over chosen 0 bits 1 d.key 0 (key_count d) out words b
  pub typed : (w : Whole P) → w.block part ≡ b → (d.kind ≡ Hash → block_memories (w.block of) ≡ hash_memories bits d) → AreDeclared (names_scope w port_list) (written_outside bits commits slot) → IsTypedBlock w port_list b
  pub committed : (v : Env (Name P)) (n : ℕ) → AreFit v (written_outside bits commits slot) → Solve v part 0 b.wires → v.net commits ≡ bit true → v.net slot ≡ word bits n → v.net out ≡ word bits n
  pub addressed : (v : Env (Name P)) (a : Access) (number : ℕ) → AreFit v (written_outside bits commits slot) → Solve v part 0 b.wires → v.net commits ≡ bit false → SeesHost v a number → a.index < 2 ^ bits → v.net out ≡ word bits a.index
  pub keys : (v : Env (Name P)) (s : Stored) (slots : List Slot) (n i : ℕ) (e : Name P) → d.kind ≡ Hash → Solve v part 0 b.wires → SeesMemories of v s → StoresHash d bits slots s → (v.net out).value ≡ n → n < d.cap → i < word_count d.key
      → v.net (get_or words i e) ≡ word 64 (byte_word (slot_at slots n).key i)
