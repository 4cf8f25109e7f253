-- A well typed design in order can be linked: what its statements set is there.
use Rattle.std.specs.Prelude.{◌≡◌, ℕ, ◌<◌, ◌==◌, ◌&&◌, nat_lt, true, List}
use Rattle.std.proofs.Common.{get_or, refl, arith}
use Rattle.std.proofs.lemmas.Bool.{ltb-true, and_parts}
use Rattle.std.proofs.lemmas.List.{length-map}
use Rattle.block_core.proofs.list_laws_laws.PlaceLaws.{some_below}
use Rattle.block_core.specs.net_core.declared.design.Port.{Port}
use Rattle.block_core.specs.net_core.Nets.{StatementTree, SBlock, SIf, SIfElse, SSet, SStore, StatementTrees, SEnd, SThen}
use Rattle.block_core.specs.net_core.Width.{Scope, width_of, same, statement_typed, statements_typed}
use Rattle.block_core.specs.declared.name.Name.{Name}
use Rattle.block_core.specs.Blocks.{BlockTree, OutputTree, registers_of, memories_of, Whole}
use Rattle.block_core.specs.Parts.{Within, AllWithin}
use Rattle.block_core.specs.Formed.{word_width, block_memory_width, block_registers, block_memories, IsFormed}
use Rattle.block_core.specs.Law.{IsLinkable}

module _ {N : Type 0} (s : Scope N) (b : BlockTree N) where
  register_there : (k w : ℕ) → same (get_or (block_registers b) k 0) w ≡ true → k < registers_of b
  register_there k w h =
      let p = and_parts (nat_lt 0 (get_or (block_registers b) k 0)) (get_or (block_registers b) k 0 == w) h in
      let lt = some_below (λ (n : ℕ). n) 0 (block_registers b) k refl (ltb-true 0 (get_or (block_registers b) k 0) p.0) in
      let n = length-map b.registers word_width in
      omega (arith, lt, n)

  memory_there : (k w : ℕ) → same (get_or (block_memories b) k (0, 0)).1 w ≡ true → k < memories_of b
  memory_there k w h =
      let p = and_parts (nat_lt 0 (get_or (block_memories b) k (0, 0)).1) ((get_or (block_memories b) k (0, 0)).1 == w) h in
      let lt = some_below (λ (x : ℕ × ℕ). x.1) (0, 0) (block_memories b) k refl (ltb-true 0 (get_or (block_memories b) k (0, 0)).1 p.0) in
      let n = length-map b.memories block_memory_width in
      omega (arith, lt, n)

  mutual
    pub sets_within : (a : StatementTree N) → statement_typed s (block_registers b) (block_memories b) a ≡ true → Within (registers_of b) (memories_of b) a
    sets_within (SBlock more) h = all_within more h
    sets_within (SIf c a) h = sets_within a (and_parts (width_of s c == 1) (statement_typed s (block_registers b) (block_memories b) a) h).1
    sets_within (SIfElse c x y) h =
        let p = and_parts (width_of s c == 1) (statement_typed s (block_registers b) (block_memories b) x && statement_typed s (block_registers b) (block_memories b) y) h in
        let o = and_parts (statement_typed s (block_registers b) (block_memories b) x) (statement_typed s (block_registers b) (block_memories b) y) p.1 in
        (sets_within x o.0, sets_within y o.1)
    sets_within (SSet k e) h = register_there k (width_of s e) h
    sets_within (SStore k i e) h = memory_there k (width_of s e) (and_parts (same (get_or (block_memories b) k (0, 0)).0 (width_of s i)) (same (get_or (block_memories b) k (0, 0)).1 (width_of s e)) h).1

    all_within : (more : StatementTrees N) → statements_typed s (block_registers b) (block_memories b) more ≡ true → AllWithin (registers_of b) (memories_of b) more
    all_within SEnd h = tt
    all_within (SThen a more) h =
        let p = and_parts (statement_typed s (block_registers b) (block_memories b) a) (statements_typed s (block_registers b) (block_memories b) more) h in
        (sets_within a p.0, all_within more p.1)

pub linkable : {P : Type 0} (d : Whole P) (ports : List Port) (outputs : List (OutputTree (Name P))) → IsFormed d ports outputs → IsLinkable d
linkable d ports outputs h = record { placed = h.placed; ordered = h.ordered; within = λ p a. sets_within _ (d.block p) (d.block p).statement (h.blocks p a).statement }
