-- What is said of the block of control, for any part that it may be.
use Rattle.std.specs.Prelude.{◌≡◌, ℕ, suc, false, ◌<◌, ◌≤◌, List, [], ◌∷◌, ◌++◌, map, replicate, IsTrue}
use Rattle.std.specs.List.{list_all}
use Rattle.std.proofs.Common.{get_or}
use Rattle.net_core.specs.declared.tree.Word.{Word}
use Rattle.net_core.specs.declared.ports.TheConstants.{IN_VALID, IN_LAST, OUT_READY}
use Rattle.net_core.specs.Ports.{port_list}
use Rattle.net_core.specs.Value.{word, bit, nothing, Env}
use Rattle.net_core.specs.Clock.{Stored, done}
use Rattle.block_core.specs.design_rules.FormedSyntax.{statement_spelled}
use Rattle.block_core.specs.declared.name.Name.{Name}
use Rattle.block_core.specs.declared.name.Name.TheVariants as name
use Rattle.block_core.specs.Blocks.{BlockTree, registers_of, memories_of, first_of, Whole, Among}
use Rattle.block_core.specs.Parts.{Solve, Goes, Within}
use Rattle.block_core.specs.Order.{IsBefore, InOrder}
use Rattle.block_core.specs.Formed.{block_registers, block_wires, name_width, IsTypedBlock, StatementReads, IsThere}
use Rattle.block_core.specs.BlockForms.WellFormed.{wire_spelled}
use Rattle.block_core.specs.ProductBlocks.Alone.{IsFree}
use Rattle.control_net.specs.declared.ring_net.shape.ControlShape.{ControlShape}
use Rattle.control_net.specs.declared.ring_net.names.Counter.{Counter}
use Rattle.control_net.specs.declared.ring_net.names.Register.TheVariants.{Slot, Passed, Holds}
use Rattle.control_net.specs.RingNet.Names.{register_name}
use Rattle.control_net.specs.RingNet.Ring.{slot, lap}
use Rattle.control_net.specs.declared.names.Wire.{Wire}
use Rattle.control_net.specs.declared.names.ControlNets.{ControlNets}
use Rattle.control_net.specs.Names.{slot_name, wire_name, back_name}
use Rattle.control_net.specs.Control.{State, Signals, count, first_state, back, told, step, IsSound}

-- ---- what is stored for a state

abbrev pub lap_word : ControlShape → ℕ → Word
lap_word c n = bit (lap c.slots n)

abbrev pub slot_word : ControlShape → ℕ → Word
slot_word c n = word c.slot_bits (slot c.slots n)

abbrev pub stored_words : ControlShape → State → List Word
stored_words c s =
    lap_word c s.given ∷ slot_word c s.given ∷ lap_word c s.answered ∷ slot_word c s.answered
    ∷ lap_word c s.injected ∷ slot_word c s.injected ∷ lap_word c s.gathered ∷ slot_word c s.gathered
    ∷ word 32 s.passed
    ∷ (map bit s.holds ++ (map (lap_word c) s.numbers ++ map (slot_word c) s.numbers))

abbrev pub code : ControlShape → State → Stored
code c s = record { registers = stored_words c s; memories = [] }

abbrev pub register_widths : ControlShape → List ℕ
register_widths c =
    1 ∷ c.slot_bits ∷ 1 ∷ c.slot_bits ∷ 1 ∷ c.slot_bits ∷ 1 ∷ c.slot_bits ∷ 32
    ∷ (replicate (suc c.stages) 1 ++ (replicate (suc c.commit) 1 ++ replicate (suc c.commit) c.slot_bits))

-- ---- a clock

-- the nets of a clock: what is stored for the state, the signals, which places send back as another part says it, and the wires
pub record Sees {P : Type 0} (c : ControlShape) (part of : P) (nets : ControlNets P) (b : BlockTree (Name P)) (i : Signals) (s : State) (v : Env (Name P)) : Type 0 where
  pub register : (k : ℕ) → k < registers_of b → v.net (name.Register part k) ≡ get_or (stored_words c s) k nothing
  pub partial : v.net nets.partial ≡ bit i.partial
  pub in_valid : v.net (name.Port IN_VALID) ≡ bit i.in_valid
  pub in_last : v.net (name.Port IN_LAST) ≡ bit i.in_last
  pub out_ready : v.net (name.Port OUT_READY) ≡ bit i.out_ready
  pub last : v.net nets.last ≡ bit i.last
  pub stalls : v.net nets.stalls ≡ bit i.stalls
  pub back : (k : ℕ) → k ≤ c.commit → v.net (back_name c of k) ≡ bit (back c i s k)
  pub wires : Solve v part 0 b.wires

-- what the other parts see of control: the slots of the counted frames and of the packets, which places hold one, how many have passed, and the wires
pub record Shows {P : Type 0} (c : ControlShape) (part : P) (i : Signals) (s : State) (v : Env (Name P)) : Type 0 where
  pub slot : (k : Counter) → v.net (register_name part (Slot k)) ≡ slot_word c (count k s)
  pub number : (k : ℕ) → k ≤ c.commit → v.net (slot_name c part k) ≡ slot_word c (get_or s.numbers k 0)
  pub holds : (k : ℕ) → k ≤ c.stages → v.net (register_name part (Holds k)) ≡ bit (get_or s.holds k false)
  pub passed : v.net (register_name part Passed) ≡ word 32 s.passed
  pub wire : (w : Wire) → v.net (wire_name part w) ≡ bit (told c i s w)

-- ---- the block

-- each net of another part is such a one
pub record AreNets {P : Type 0} (q : Name P → Type 0) (c : ControlShape) (of : P) (nets : ControlNets P) : Type 0 where
  pub partial : q nets.partial
  pub last : q nets.last
  pub stalls : q nets.stalls
  pub back : (k : ℕ) → k ≤ c.commit → q (back_name c of k)

pub record IsControl {P : Type 0} (c : ControlShape) (part of : P) (nets : ControlNets P) (b : BlockTree (Name P)) : Type 0 where
  pub registers : block_registers b ≡ register_widths c
  pub memories : b.memories ≡ []
  pub wires : block_wires b ≡ replicate 10 1
  pub first : first_of b ≡ code c (first_state c)
  pub shows : (i : Signals) (s : State) (v : Env (Name P)) → IsSound c i.partial s → Sees c part of nets b i s v → Shows c part i s v
  pub clock : (i : Signals) (s : State) (v : Env (Name P)) → IsSound c i.partial s → Sees c part of nets b i s v → done v b.statement (code c s) ≡ code c (step c i s)
  pub goes : (v : Env (Name P)) → Goes v b.wires
  pub within : Within (registers_of b) (memories_of b) b.statement
  pub typed : (d : Whole P) → d.block part ≡ b → AreNets (λ n. name_width d port_list n ≡ 1) c of nets → IsTypedBlock d port_list b
  pub ordered : (d : Whole P) (before : List P) → Among part d.parts → AreNets (IsBefore d before part 0) c of nets → InOrder d before part 0 b.wires
  pub reads : (d : Whole P) → Among part d.parts → AreNets (IsThere d) c of nets → StatementReads (IsThere d) b.statement
  pub wires_spelled : IsTrue (list_all wire_spelled b.wires)
  pub statement_spelled : IsTrue (statement_spelled b.statement)
  pub free : IsFree b
