-- Widths and order of the nets of blocks.
use Rattle.std.specs.Prelude.{◌≡◌, ℕ, ◌<◌, ◌≤◌, ◌==◌, nat_le, if◌then◌else◌, ◌&&◌, true, List}
use Rattle.std.proofs.Common.{get_or, refl, ap, ◌∙◌, arith}
use Rattle.std.proofs.lemmas.Bool.{le-leb, lt-ltb}
use Rattle.std.proofs.lemmas.Bool.Decides.{nat_tests}
use Rattle.net_core.specs.declared.tree.Word.{Word}
use Rattle.net_core.specs.Nets.{Tree, StatementTree}
use Rattle.net_core.specs.Ports.{port_list}
use Rattle.net_core.specs.Width.{width_of, same, memory_word_width}
use Rattle.block_core.specs.declared.block.BlockMemory.{BlockMemory}
use Rattle.block_core.specs.declared.name.Name.{Name}
use Rattle.block_core.specs.declared.name.Name.TheVariants as name
use Rattle.block_core.specs.Blocks.{BlockTree, BlockWireTree, Whole}
use Rattle.block_core.specs.Formed.{names_scope, block_memories}
use Rattle.frame_net.specs.SourcesNets.{held}

pub one_is : (n : ℕ) → n ≡ 1 → (n == 1) ≡ true
one_is n e = rw e refl

pub same_is : (a b : ℕ) → 0 < a → b ≡ a → same a b ≡ true
same_is a b some e = rw (e, lt-ltb 0 a some) (grind (arith, nat_tests))

-- a wire of a width
pub wire_is : (a b : ℕ) → 0 < a → a ≤ 64 → b ≡ a → (same a b && nat_le a 64) ≡ true
wire_is a b some most e = rw (same_is a b some e) (le-leb a 64 most)

-- a word of a memory of another part
pub held_width : {P : Type 0} (d : Whole P) (m : P) (index : Tree (Name P)) (ws : List (ℕ × ℕ)) (k bits w : ℕ) → block_memories (d.block m) ≡ ws → get_or ws k (0, 0) ≡ (bits, w) → width_of (names_scope d port_list) index ≡ bits → 0 < bits
    → width_of (names_scope d port_list) (held m k index) ≡ w
held_width d m index ws k bits w h at numbered some =
    ap (λ (x : ℕ × ℕ). memory_word_width (width_of (names_scope d port_list) index) x.0 x.1) (ap (λ l. get_or l k (0, 0)) h ∙ at)
    ∙ ap (λ n. memory_word_width n bits w) numbered
    ∙ ap (λ t. if t then w else 0) (same_is bits bits some refl)

-- a block from its parts
pub same_block : {N : Type 0} (b : BlockTree N) (registers : List Word) (memories : List BlockMemory) (wires : List (BlockWireTree N)) (statement : StatementTree N) → registers ≡ b.registers → memories ≡ b.memories → wires ≡ b.wires → statement ≡ b.statement
    → record { registers = registers; memories = memories; wires = wires; statement = statement } ≡ b
same_block b registers memories wires statement r m w s = λ i. record { registers = r i; memories = m i; wires = w i; statement = s i }
