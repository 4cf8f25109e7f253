-- The part of the slot that a clock writes is what it is to be.
use Rattle.std.specs.Prelude.{if◌then◌else◌}
use Rattle.std.proofs.Common.{refl, ◌≡◌, ◌∙◌, ℕ, suc, ◌+◌, ◌^◌, ◌<◌, List, [], length, get_or, sym, ap, arith}
use Rattle.std.proofs.lemmas.List.{length-map, length-replicate, get_or_append_left}
use Rattle.net_core.specs.declared.tree.Word.{Word}
use Rattle.net_core.specs.declared.ports.TheConstants.{HOST_INDEX}
use Rattle.net_core.specs.Value.{word, Env}
use Rattle.block_core.specs.declared.name.Name.{Name}
use Rattle.block_core.specs.declared.name.Name.TheVariants as name
use Rattle.block_core.specs.Blocks.{BlockTree, BlockWireTree, Whole}
use Rattle.block_core.specs.Formed.{block_memories}
use Rattle.block_core.specs.Parts.{Solve}
use Rattle.overlay_net.specs.xdp_maps.declared.decl.MapDecl.{MapDecl}
use Rattle.overlay_net.specs.xdp_maps.declared.decl.MapKind.{MapKind}
use Rattle.overlay_net.specs.xdp_maps.declared.decl.MapKind.TheVariants.{Hash, Array}
use Rattle.overlay_net.specs.cell_core.Cells.{on, bits_from}
use Rattle.overlay_net.specs.hazard_core.Tables.{slot_at}
use Rattle.overlay_net.specs.hazard_core.Commits.{word_count, word_at as byte_word}
use Rattle.hash_net.specs.array_net.Words.{word_width}
use Rattle.hash_net.specs.array_net.WordTrees.{word_memories}
use Rattle.hash_net.proofs.array_net_laws.WordMemoryLaws.{memory_at, count_memories}
use Rattle.hash_net.specs.HashNets.{value_first, hash_memories}
use Rattle.overlay_net.specs.cell_nets.declared.operand.Operand.{Operand}
use Rattle.overlay_net.specs.cell_nets.declared.operand.Operand.TheVariants.{Net}
use Rattle.overlay_net.specs.cell_nets.Operands.{HasWidth, AreFit}
use Rattle.overlay_net.specs.cell_nets.Wires.{always, Gives}
use Rattle.overlay_net.proofs.cell_nets_laws.OperandBlocks.WiringLaws.{no_wires, all_outside}
use Rattle.overlay_net.proofs.cell_core_laws.BitLaws.{small_bits}
use Rattle.commit_net.specs.ChangeNet.Pointed.{IsPointedWords}
use Rattle.commit_net.specs.ChangeNet.Written.{key_count_as, key_count, written_outside, IsWritten}

module _ {P : Type 0} (part of : P) (d : MapDecl) (bits : ℕ) (commits slot out : Name P) (words : List (Name P)) (ws : List (BlockWireTree (Name P))) (a : Operand (Name P)) (b : BlockTree (Name P)) where
  abbrev outside : List (Operand (Name P))
  outside = written_outside bits commits slot

  abbrev pub chosen_number : Env (Name P) → ℕ
  chosen_number v = bits_from (if on (v.net commits).value then (v.net slot).value else (v.net (name.Port HOST_INDEX)).value) 0 bits

  module _ (g : Gives part [] ws outside always chosen_number bits a) (x : IsPointedWords part of outside ws a 0 bits 1 d.key 0 (key_count d) out words b) where
    -- the net shows the choice
    shown : (v : Env (Name P)) (n : ℕ) → AreFit v outside → Solve v part 0 b.wires → chosen_number v ≡ n → n < 2 ^ bits → v.net out ≡ word bits n
    shown v n fit solved e small =
        x.number v fit solved
        ∙ ap (λ k. word bits (bits_from k 0 bits)) ((g.given outside (no_wires part outside) (all_outside part outside)).value v fit (x.over v solved) tt ∙ e)
        ∙ ap (word bits) (small_bits n bits small)

    -- the memories of a hash
    at_memory : (w : Whole P) → (d.kind ≡ Hash → block_memories (w.block of) ≡ hash_memories bits d) → (i : ℕ) → i < key_count d → (k : MapKind) → d.kind ≡ k → get_or (block_memories (w.block of)) (1 + (0 + i)) (0, 0) ≡ (bits, word_width d.key (0 + i))
    at_memory w has i l Array kind = absurd (omega (arith, l, ap (λ k. key_count_as k d) kind))
    at_memory w has i l Hash kind =
        let z : 1 + (0 + i) ≡ suc i = omega arith in
        let keys = word_memories bits d.key in
        let less : i < word_count d.key = omega (arith, l, ap (λ k. key_count_as k d) kind) in
        ap (λ k. get_or (block_memories (w.block of)) k (0, 0)) z
        ∙ ap (λ ms. get_or ms (suc i) (0, 0)) (has kind)
        ∙ get_or_append_left keys (word_memories bits d.value) (0, 0) i (omega (arith, less, count_memories bits d.key 0 (word_count d.key)))
        ∙ memory_at bits d.key 0 (word_count d.key) i less

    pub is_written : IsWritten part of d bits commits slot out words b
    is_written = record {
      over = ws;
      chosen = a;
      words_of = x;
      typed = λ w here has declared. x.typed w here (λ i l. at_memory w has i l d.kind refl) declared;
      committed = λ v n fit solved c s.
          let has : HasWidth v slot bits = fit (Net slot bits) (1, omega arith, refl) in
          let is : (v.net slot).value ≡ n = ap (λ (w : Word). w.value) s in
          let small : n < 2 ^ bits = omega (arith, has.small, is) in
          shown v n fit solved (ap (λ (w : Word). bits_from (if on w.value then (v.net slot).value else (v.net (name.Port HOST_INDEX)).value) 0 bits) c ∙ ap (λ k. bits_from k 0 bits) is ∙ small_bits n bits small) small;
      addressed = λ v a number fit solved c host small.
          shown v a.index fit solved
          (ap (λ (w : Word). bits_from (if on w.value then (v.net slot).value else (v.net (name.Port HOST_INDEX)).value) 0 bits) c ∙ ap (λ (w : Word). bits_from w.value 0 bits) host.index ∙ small_bits a.index bits small) small;
      keys = λ v s slots n i e kind solved sees stores at less there.
          let count : key_count d ≡ word_count d.key = ap (λ k. key_count_as k d) kind in
          let many : length s.memories ≡ value_first d + word_count d.value = sym (length-map s.memories length) ∙ ap length stores.memories ∙ length-replicate (value_first d + word_count d.value) (2 ^ bits) in
          let z : 0 + i ≡ i = omega arith in
          x.shows v s d.cap (λ k. (slot_at slots k).key) n i e solved sees stores.keys (omega (arith, many)) at less (omega (arith, there, count)) ∙ ap (λ k. word 64 (byte_word (slot_at slots n).key k)) z;
    }
