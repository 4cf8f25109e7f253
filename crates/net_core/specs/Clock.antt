-- One rising edge of a design (IEEE 1364-2005, 9.2.2 and 11.4, for one clock).
use Rattle.std.specs.Prelude.{ℕ, suc, ◌^◌, ◌==◌, if◌then◌else◌, Option, Some, None, Result, Ok, Err, List, [], ◌∷◌, ◌++◌, replicate, slice_set}
use Rattle.std.proofs.Common.{get_or}
use Rattle.net_core.specs.declared.tree.Word.{Word}
use Rattle.net_core.specs.declared.tree.Net.{Net}
use Rattle.net_core.specs.declared.tree.Net.TheVariants.{Port, Register, Memory, Wire}
use Rattle.net_core.specs.declared.design.Declared.{Declared}
use Rattle.net_core.specs.declared.design.Declared.TheVariants as declared
use Rattle.net_core.specs.Nets.{RightTree, StatementTree, SBlock, SIf, SIfElse, SSet, SStore, StatementTrees, SEnd, SThen, WireTree, AssignTree, Netlist}
use Rattle.net_core.specs.Value.{nothing, Env, value, right_value, stops}

-- what is stored between two edges
pub record Stored : Type 0 where
  pub registers : List Word
  pub memories : List (List Word)

abbrev pub first_words : List Declared → List Word
first_words [] = []
first_words (declared.Integer ∷ ds) = first_words ds
first_words (declared.Register w ∷ ds) = w ∷ first_words ds
first_words (declared.Memory i w n ∷ ds) = first_words ds

abbrev pub first_memories : List Declared → List (List Word)
first_memories [] = []
first_memories (declared.Integer ∷ ds) = first_memories ds
first_memories (declared.Register w ∷ ds) = first_memories ds
first_memories (declared.Memory i w n ∷ ds) = replicate (2 ^ i) w ∷ first_memories ds

-- the declared values
abbrev pub first_stored : Netlist → Stored
first_stored d = record { registers = first_words d.declared; memories = first_memories d.declared }

-- The assignments of a statement whose conditions hold, all from the values before the edge. A later one wins.
abbrev mutual
  pub done : {N : Type 0} → Env N → StatementTree N → Stored → Stored
  done v (SBlock more) s = all_done v more s
  done v (SIf c a) s = if (value v c).value == 0 then s else done v a s
  done v (SIfElse c a b) s = if (value v c).value == 0 then done v b s else done v a s
  done v (SSet r e) s = record s { registers = slice_set s.registers r (value v e) }
  done v (SStore m i e) s = record s { memories = slice_set s.memories m (slice_set (get_or s.memories m []) (value v i).value (value v e)) }

  pub all_done : {N : Type 0} → Env N → StatementTrees N → Stored → Stored
  all_done v SEnd s = s
  all_done v (SThen a more) s = all_done v more (done v a s)

abbrev pub edge : {N : Type 0} → Env N → List (StatementTree N) → Stored → Stored
edge v [] s = s
edge v (a ∷ rest) s = edge v rest (done v a s)

-- the values of nets, from those of ports, registers and wires
abbrev pub net_value : List Word → Stored → List Word → Net → Word
net_value ins s ws (Port i) = get_or ins i nothing
net_value ins s ws (Register i) = get_or s.registers i nothing
net_value ins s ws (Memory i) = nothing
net_value ins s ws (Wire i) = get_or ws i nothing

abbrev pub memory_word_value : Stored → Net → ℕ → Word
memory_word_value s (Port i) a = nothing
memory_word_value s (Register i) a = nothing
memory_word_value s (Memory i) a = get_or (get_or s.memories i []) a nothing
memory_word_value s (Wire i) a = nothing

abbrev pub env : List Word → Stored → List Word → Env Net
env ins s ws = record { net = net_value ins s ws; memory_word = memory_word_value s }

-- wires are valued in text order
abbrev pub with_wires : List Word → Stored → List Word → List WireTree → List Word
with_wires ins s ws [] = ws
with_wires ins s ws (w ∷ rest) = with_wires ins s (ws ++ right_value (env ins s ws) w.right ∷ []) rest

abbrev pub env_of : Netlist → List Word → Stored → Env Net
env_of d ins s = env ins s (with_wires ins s [] d.wires)

-- the first wire, from a number on, whose divisor is zero
abbrev pub stopped_at : {N : Type 0} → Env N → ℕ → List (RightTree N) → Option ℕ
stopped_at v at [] = None
stopped_at v at (r ∷ rs) = if stops v r then Some at else stopped_at v (suc at) rs

abbrev pub rights : List WireTree → List (RightTree Net)
rights [] = []
rights (w ∷ ws) = w.right ∷ rights ws

-- the wire whose divisor is zero in this clock, if there is one
abbrev pub stopping : Netlist → List Word → Stored → Option ℕ
stopping d ins s = stopped_at (env_of d ins s) 0 (rights d.wires)

-- what is stored after the edge, where no divisor is zero
abbrev pub after : Netlist → List Word → Stored → Stored
after d ins s = edge (env_of d ins s) d.always s

-- A zero divisor stops the clock, which then changes nothing.
abbrev pub clock : Netlist → List Word → Stored → Result Stored ℕ
clock d ins s = by_stop (stopping d ins s)
  where
    by_stop : Option ℕ → Result Stored ℕ
    by_stop None = Ok (after d ins s)
    by_stop (Some w) = Err w

-- what an output port shows
abbrev pub assigned : Env Net → List AssignTree → ℕ → Word
assigned v [] port = nothing
assigned v (a ∷ rest) port = if a.port == port then value v a.value else assigned v rest port

abbrev pub shown : Netlist → List Word → Stored → ℕ → Word
shown d ins s port = assigned (env_of d ins s) d.assigns port
