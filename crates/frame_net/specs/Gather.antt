-- The block that gathers frames from the beats that come.
use Rattle.std.specs.Prelude.{◌≡◌, ◌≢◌, ℕ, ◌+◌, ◌^◌, ◌<◌, Bool, true, false, if◌then◌else◌, Option, Some, None, List, [], ◌∷◌, map, IsTrue}
use Rattle.std.specs.List.{list_all}
use Rattle.std.proofs.Common.{get_or}
use Rattle.beat_core.specs.declared.frame.TheConstants.{BEAT_LIMIT}
use Rattle.beat_core.specs.Beats.{IsOffer}
use Rattle.beat_core.specs.Ports.{Arrival, Offered, arrived}
use Rattle.net_core.specs.Ports.{port_list}
use Rattle.net_core.specs.declared.ports.TheConstants.{IN_DATA, IN_BYTES, IN_LAST, IN_IFINDEX, IN_TIME}
use Rattle.net_core.specs.Value.{word, bit, nothing, Env}
use Rattle.net_core.specs.Clock.{Stored, done}
use Rattle.block_core.specs.design_rules.FormedSyntax.{right_spelled, statement_spelled}
use Rattle.block_core.specs.ProductBlocks.Alone.{IsFree}
use Rattle.block_core.specs.declared.name.Name.{Name}
use Rattle.block_core.specs.declared.name.Name.TheVariants as name
use Rattle.block_core.specs.Blocks.{BlockTree, first_of, registers_of, memories_of, Whole, Among}
use Rattle.block_core.specs.Parts.{Solve, Goes, Within}
use Rattle.block_core.specs.Order.{IsBefore, InOrder}
use Rattle.block_core.specs.Formed.{name_width, block_registers, block_memories, block_wires, IsTypedBlock, StatementReads, IsThere}
use Rattle.frame_net.specs.declared.held.Kept.{Kept}
use Rattle.frame_net.specs.declared.held.Kept.TheVariants.{Ifindex, Time, Word as FrameWord}
use Rattle.frame_net.specs.declared.held.Further.{Further}
use Rattle.frame_net.specs.declared.held.Further.TheVariants.{Kept as Keep, Bank}
use Rattle.frame_net.specs.Frames.{bank_bits, further, HoldsFrame, Gathers, position_of}

-- how many bits a word has of what is kept
abbrev pub kept_width : Kept → ℕ
kept_width Ifindex = 32
kept_width Time = 64
kept_width (FrameWord j) = 64

-- the widths of its index and of its words, for what is kept
abbrev pub kept_widths : ℕ → Kept → ℕ × ℕ
kept_widths bits x = (bits, kept_width x)

-- a word whose beat's number has 11 bits
abbrev pub IsKept : Kept → Type 0
IsKept Ifindex = Unit {0}
IsKept Time = Unit {0}
IsKept (FrameWord j) = j < 2 ^ 11

abbrev pub further_widths : ℕ → Further → ℕ × ℕ
further_widths bits (Keep x) = kept_widths bits x
further_widths bits (Bank b) = (bank_bits bits + 11, 64)

abbrev pub IsFurther : ℕ → Further → Type 0
IsFurther bits (Keep x) = IsKept x
IsFurther bits (Bank b) = b < 2 ^ bits

-- of each memory the widths of its index and of its words
abbrev pub memory_widths : ℕ → List Further → List (ℕ × ℕ)
memory_widths bits fs = (bank_bits bits + 11, 64) ∷ (bits, 11) ∷ (bits, 4) ∷ map (further_widths bits) fs

abbrev pub held_widths : ℕ → List Kept → List (ℕ × ℕ)
held_widths bits kept = memory_widths bits (further bits kept)

-- what the block sees in a clock: its registers, whether a beat goes over, the slot of the frame that comes, and this beat
pub record SeesBeat {P : Type 0} (part : P) (bits : ℕ) (over slot : Name P) (v : Env (Name P)) (s : Stored) (goes : Bool) (at : ℕ) (o : Offered) : Type 0 where
  pub register : (i : ℕ) → i < 2 → v.net (name.Register part i) ≡ get_or s.registers i nothing
  pub goes_over : v.net over ≡ bit goes
  pub in_slot : v.net slot ≡ word bits at
  pub within : at < 2 ^ bits
  pub content : v.net (name.Port IN_DATA) ≡ word 64 o.beat.word
  pub bytes : v.net (name.Port IN_BYTES) ≡ word 4 o.beat.bytes
  pub last : v.net (name.Port IN_LAST) ≡ bit o.beat.last
  pub ifindex : v.net (name.Port IN_IFINDEX) ≡ word 32 o.ifindex
  pub time : v.net (name.Port IN_TIME) ≡ word 64 o.time

-- A beat came: it is added to what has come of the frame, which is whole with a last beat. Frames in other slots stay.
pub record HasTaken (bits : ℕ) (kept : List Kept) (part : Option Arrival) (at : ℕ) (o : Offered) (s t : Stored) : Type 0 where
  pub gathers : Gathers bits kept (if o.beat.last then None else Some (arrived part o)) at t
  pub frame : o.beat.last ≡ true → HoldsFrame kept t.memories at (arrived part o)
  pub others : (slot : ℕ) (a : Arrival) → slot ≢ at → HoldsFrame kept s.memories slot a → HoldsFrame kept t.memories slot a

-- The block: what it has, that it is well typed, in order and spelled where the nets that it reads of other parts are, and what a clock does.
pub record IsGather {P : Type 0} (part : P) (bits : ℕ) (kept : List Kept) (over slot : Name P) (b : BlockTree (Name P)) : Type 0 where
  pub registers : block_registers b ≡ 1 ∷ 11 ∷ []
  pub memories : block_memories b ≡ held_widths bits kept
  pub wires : block_wires b ≡ 4 ∷ 7 ∷ 64 ∷ 1 ∷ 1 ∷ (bits + 5) ∷ (bank_bits bits + 11) ∷ []
  pub typed : (d : Whole P) → d.block part ≡ b → name_width d port_list over ≡ 1 → name_width d port_list slot ≡ bits → IsTypedBlock d port_list b
  pub ordered : (d : Whole P) (before : List P) → Among part d.parts → IsBefore d before part 0 over → IsBefore d before part 0 slot → InOrder d before part 0 b.wires
  pub reads : (d : Whole P) → Among part d.parts → IsThere d over → IsThere d slot → StatementReads (IsThere d) b.statement
  pub within : Within (registers_of b) (memories_of b) b.statement
  pub wires_spelled : IsTrue (list_all (λ w. right_spelled w.right) b.wires)
  pub spelled : IsTrue (statement_spelled b.statement)
  pub goes : (v : Env (Name P)) → Goes v b.wires
  pub first : (at : ℕ) → Gathers bits kept None at (first_of b)
  pub stays : (v : Env (Name P)) (s : Stored) (at : ℕ) (o : Offered) → Solve v part 0 b.wires → SeesBeat part bits over slot v s false at o → done v b.statement s ≡ s
  pub takes : (v : Env (Name P)) (s : Stored) (at : ℕ) (o : Offered) (so_far : Option Arrival) → Solve v part 0 b.wires → SeesBeat part bits over slot v s true at o
      → IsOffer o.beat → position_of so_far < BEAT_LIMIT → Gathers bits kept so_far at s → HasTaken bits kept so_far at o s (done v b.statement s)
  pub free : IsFree b
