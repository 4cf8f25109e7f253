-- The part of a pipeline that says which operation of the packet at the commit place commits.
use Rattle.std.specs.Prelude.{◌≡◌, ℕ, ◌<◌, ◌^◌, true, ◌||◌, Option, is_some, All, List, [], ◌∷◌, ◌++◌, length, slice_index, map as map_list, IsTrue}
use Rattle.std.specs.List.{list_all}
use Rattle.std.proofs.Common.{get_or}
use Rattle.net_core.specs.declared.tree.Word.{Word}
use Rattle.net_core.specs.Ports.{port_list}
use Rattle.net_core.specs.Value.{word, nothing, bit as bit_word, Env}
use Rattle.net_core.specs.Clock.{Stored, done as stored_after}
use Rattle.block_core.specs.design_rules.FormedSyntax.{statement_spelled}
use Rattle.block_core.specs.ProductBlocks.Alone.{IsFree}
use Rattle.block_core.specs.declared.name.Name.{Name}
use Rattle.block_core.specs.declared.name.Name.TheVariants as name
use Rattle.block_core.specs.Blocks.{BlockTree, registers_of, memories_of, first_of, Whole, Among}
use Rattle.block_core.specs.Parts.{Solve, Goes, Within}
use Rattle.block_core.specs.Order.{IsBefore, InOrder}
use Rattle.block_core.specs.Formed.{names_scope, block_registers, IsTypedBlock, StatementReads, IsThere}
use Rattle.hazard_core.specs.xdp_maps.declared.decl.MapDecl.{MapDecl}
use Rattle.hazard_core.specs.cell_core.Sites.{ProgramView}
use Rattle.hazard_core.specs.Tables.{TableState}
use Rattle.hazard_core.specs.StageValues.{StageValues, writes}
use Rattle.hazard_core.specs.Commits.{written_slot}
use Rattle.cell_nets.specs.declared.operand.Operand.{Operand}
use Rattle.cell_nets.specs.declared.operand.Operand.TheVariants.{Net}
use Rattle.cell_nets.specs.Operands.{number_in, IsOperand, AreFit, AreDeclared, IsAvailable, IsNetOf}
use Rattle.cell_nets.specs.Wires.{behind, is_spelled, HasBits}
use Rattle.turn_net.specs.declared.nets.RecordNets.{RecordNets}
use Rattle.turn_net.specs.declared.nets.ActionNets.{ActionNets}
use Rattle.turn_net.specs.declared.nets.ActionShape.{ActionShape}
use Rattle.turn_net.specs.Actions.{Signals, first_open, committing, is_at, done_after, taken_by}
use Rattle.turn_net.specs.Nets.{sites_of, kept, all_read, outside, own_operands, ShowsRecords}
use Rattle.turn_net.specs.Steps.{ShowsChosen}

-- the slot that an update took, as a word
abbrev pub slot_word : {N : Type 0} → ℕ → List ℕ → RecordNets N → Word
slot_word bits taken r = word bits (slice_index taken r.number)

abbrev pub IsSmall : {N : Type 0} → ℕ → List ℕ → RecordNets N → Type 0
IsSmall bits taken r = slice_index taken r.number < 2 ^ bits

-- The registers hold how far the packet is, and of each update that keeps its slot the one that it took.
pub record StoresAction {N : Type 0} (shape : ActionShape) (rs : List (RecordNets N)) (done : ℕ) (taken : List ℕ) (s : Stored) : Type 0 where
  pub registers : s.registers ≡ word shape.bits done ∷ map_list (slot_word shape.slot_bits taken) (kept rs)
  pub memories : s.memories ≡ []
  pub done_small : done < 2 ^ shape.bits
  pub slots_small : All (IsSmall shape.slot_bits taken) (kept rs)

-- what the part sees in a clock: other parts, and what it stores
pub record SeesAction {P : Type 0} (part : P) (nets : ActionNets P) (rs : List (RecordNets (Name P))) (b : BlockTree (Name P)) (i : Signals) (s : Stored) (v : Env (Name P)) : Type 0 where
  pub present : v.net nets.present ≡ bit_word i.present
  pub back : v.net nets.back ≡ bit_word i.back
  pub host : v.net nets.host ≡ bit_word i.host
  pub fit : AreFit v (all_read rs)
  pub registers : (k : ℕ) → k < length s.registers → v.net (name.Register part k) ≡ get_or s.registers k nothing
  pub wires : Solve v part 0 b.wires

-- the site that commits
abbrev pub site_in : {N : Type 0} → ProgramView → List MapDecl → Signals → ℕ → StageValues → List (RecordNets N) → Option ℕ
site_in p decls i done h rs = committing i (first_open done (writes p decls h) (sites_of rs))

-- Of each record it is shown whether it commits, and of all whether one does, and whether the packets stay: then, or where the host writes.
pub record ShowsAction {P : Type 0} (i : Signals) (site : Option ℕ) (rs : List (RecordNets (Name P))) (chosen : List (Operand (Name P))) (one stay : Name P) (v : Env (Name P)) : Type 0 where
  pub each : ShowsChosen v site rs chosen
  pub commits : v.net one ≡ bit_word (is_some site)
  pub stays : v.net stay ≡ bit_word (is_some site || i.host)

-- where an update commits that keeps its slot, its operand stands for this
abbrev pub ShowsTarget : {N : Type 0} → Env N → ProgramView → TableState → List ℕ → StageValues → Option ℕ → RecordNets N → Type 0
ShowsTarget v p t taken h site r = is_at site r.number ≡ true → number_in v r.target ≡ written_slot p t taken h r.number

-- The block: what it has and shows, that it is well typed, in order and spelled where the nets from outside are, and what a clock does. The operands and
-- the names that it shows are nets of the block, or of those from outside.
pub record IsAction {P : Type 0} (p : ProgramView) (decls : List MapDecl) (part : P) (shape : ActionShape) (nets : ActionNets P) (rs : List (RecordNets (Name P))) (b : BlockTree (Name P)) (chosen : List (Operand (Name P))) (commits stays : Name P) : Type 0 where
  pub registers : block_registers b ≡ shape.bits ∷ map_list (λ r. shape.slot_bits) (kept rs)
  pub memories : b.memories ≡ []
  pub count : length chosen ≡ length rs
  pub operands : All IsOperand chosen
  pub bits : All (HasBits 1) chosen
  pub there : All (IsAvailable (behind part (own_operands part shape rs ++ outside nets rs) b.wires)) (Net commits 1 ∷ Net stays 1 ∷ chosen)
  pub typed : (d : Whole P) → d.block part ≡ b → AreDeclared (names_scope d port_list) (outside nets rs) → IsTypedBlock d port_list b
  pub ordered : (d : Whole P) (before : List P) → Among part d.parts → ((n : Name P) → IsNetOf (outside nets rs) n → IsBefore d before part 0 n) → InOrder d before part 0 b.wires
  pub reads : (d : Whole P) → Among part d.parts → ((n : Name P) → IsNetOf (outside nets rs) n → IsThere d n) → StatementReads (IsThere d) b.statement
  pub within : Within (registers_of b) (memories_of b) b.statement
  pub wires_spelled : IsTrue (list_all is_spelled b.wires)
  pub spelled : IsTrue (statement_spelled b.statement)
  pub free : IsFree b
  pub first : (taken : List ℕ) → All (λ r. slice_index taken r.number ≡ 0) (kept rs) → StoresAction shape rs 0 taken (first_of b)
  pub goes : (i : Signals) (done : ℕ) (taken : List ℕ) (s : Stored) (v : Env (Name P)) → StoresAction shape rs done taken s → SeesAction part nets rs b i s v → Goes v b.wires
  pub shows :
      (i : Signals) (done : ℕ) (taken : List ℕ) (h : StageValues) (s : Stored) (v : Env (Name P)) → StoresAction shape rs done taken s → SeesAction part nets rs b i s v → (i.present ≡ true → ShowsRecords v p h rs)
      → ShowsAction i (site_in p decls i done h rs) rs chosen commits stays v
  pub clock :
      (t : TableState) (i : Signals) (done : ℕ) (taken : List ℕ) (h : StageValues) (s : Stored) (v : Env (Name P)) → StoresAction shape rs done taken s → SeesAction part nets rs b i s v → (i.present ≡ true → ShowsRecords v p h rs)
      → t.decls ≡ decls → All (λ r. r.number < length taken) rs → All (ShowsTarget v p t taken h (site_in p decls i done h rs)) (kept rs)
      → StoresAction shape rs (done_after i done (site_in p decls i done h rs)) (taken_by p t taken h (site_in p decls i done h rs)) (stored_after v b.statement s)
