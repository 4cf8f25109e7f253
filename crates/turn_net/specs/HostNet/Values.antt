-- What is said of the part with the word that the host reads.
use Rattle.std.specs.Prelude.{◌≡◌, ℕ, ◌<◌, ◌==◌, nat_lt, if◌then◌else◌, Bool, ◌&&◌, List, [], ◌∷◌, length, IsTrue}
use Rattle.std.specs.List.{list_all}
use Rattle.std.proofs.Common.{get_or}
use Rattle.net_core.specs.Ports.{port_list}
use Rattle.net_core.specs.Value.{word, bit, Env}
use Rattle.net_core.specs.Clock.{Stored, done}
use Rattle.block_core.specs.design_rules.FormedSyntax.{statement_spelled}
use Rattle.block_core.specs.ProductBlocks.Alone.{IsFree}
use Rattle.block_core.specs.declared.name.Name.{Name}
use Rattle.block_core.specs.declared.name.Name.TheVariants as name
use Rattle.block_core.specs.Blocks.{BlockTree, Whole}
use Rattle.block_core.specs.Parts.{Solve, Goes, Within}
use Rattle.block_core.specs.Order.{IsBefore, InOrder}
use Rattle.block_core.specs.Formed.{block_wires, name_width, IsTypedBlock, StatementReads, IsThere}
use Rattle.block_core.specs.BlockForms.WellFormed.{wire_spelled}
use Rattle.turn_net.specs.HostNet.Names.{value_name}

-- the net of the word of a map
abbrev pub word_name : {P : Type 0} → List (Name P) → ℕ → Name P
word_name words k = get_or words k (name.Port 0)

-- one of these words is a number, the others are 0
abbrev pub one_word : ℕ → ℕ → ℕ → ℕ
one_word named number k = if named == k then number else 0

-- what the host reads of so many maps: the word of the one that it names, where it is heard
abbrev pub read : Bool → ℕ → ℕ → ℕ → ℕ
read ready named number maps = if ready && nat_lt named maps then number else 0

-- The block: one wire, with the word that the host reads.
pub record IsValue {P : Type 0} (part : P) (ready : Name P) (words : List (Name P)) (b : BlockTree (Name P)) : Type 0 where
  pub registers : b.registers ≡ []
  pub memories : b.memories ≡ []
  pub wires : block_wires b ≡ 64 ∷ []
  pub typed : (d : Whole P) → name_width d port_list ready ≡ 1 → ((k : ℕ) → k < length words → name_width d port_list (word_name words k) ≡ 64) → IsTypedBlock d port_list b
  pub ordered : (d : Whole P) (before : List P) → IsBefore d before part 0 ready → ((k : ℕ) → k < length words → IsBefore d before part 0 (word_name words k)) → InOrder d before part 0 b.wires
  pub reads : (d : Whole P) → StatementReads (IsThere d) b.statement
  pub within : Within 0 0 b.statement
  pub wires_spelled : IsTrue (list_all wire_spelled b.wires)
  pub statement_spelled : IsTrue (statement_spelled b.statement)
  pub free : IsFree b
  pub goes : (v : Env (Name P)) → Goes v b.wires
  pub stays : (v : Env (Name P)) (s : Stored) → done v b.statement s ≡ s
  pub shows : (v : Env (Name P)) (r : Bool) (named number : ℕ) → Solve v part 0 b.wires → v.net ready ≡ bit r → ((k : ℕ) → k < length words → v.net (word_name words k) ≡ word 64 (one_word named number k)) → v.net (value_name part) ≡ word 64 (read r named number (length words))
