-- Events: nets of a design that take the values of their right sides, one at a time (IEEE 1364-2005, 11.3 and 11.4).
use Rattle.std.specs.Prelude.{◌≡◌, ℕ, zero, suc, ◌+◌, ◌-◌, ◌<◌, ◌==◌, nat_lt, ◌&&◌, not, if◌then◌else◌, Bool, true, false, List, [], ◌∷◌, ◌++◌, length, map, slice_set, refl}
use Rattle.std.specs.Coded.{Coded, code_by, coded×, coded_list}
use Rattle.std.proofs.Common.{get_or}
use Rattle.net_core.specs.declared.tree.Word.{Word}
use Rattle.net_core.specs.declared.tree.Net.{Net}
use Rattle.net_core.specs.declared.tree.Net.TheVariants.{Port, Wire}
use Rattle.net_core.specs.contracts.tree.Word as word_type
use Rattle.net_core.specs.Nets.{TConst, RightTree, RPlain, Netlist, AssignTree}
use Rattle.net_core.specs.Value.{word, nothing, number_of, Env, right_value, stops}
use Rattle.net_core.specs.Clock.{Stored, env, rights}
use Rattle.net_core.specs.Codes.{coded_netlist, coded_stored}

-- What stands at the inputs of a design, what its registers and memories store, and what each net stores. Nets are the wires,
-- and then the assigns of outputs, in text order.
pub record State : Type 0 where
  pub netlist : Netlist
  pub ins : List Word
  pub stored : Stored
  pub nets : List Word

abbrev pub coded_words : Coded (List Word)
coded_words = coded_list word_type.the_row.coded

abbrev pub coded_state : Coded State
coded_state =
    code_by (Netlist × (List Word × (Stored × List Word))) (coded× coded_netlist (coded× coded_words (coded× coded_stored coded_words)))
    (λ s. (s.netlist, (s.ins, (s.stored, s.nets)))) (λ p. record { netlist = p.0; ins = p.1.0; stored = p.1.1.0; nets = p.1.1.1 }) (λ s. refl)

-- ---- nets
abbrev pub assigned_rights : List AssignTree → List (RightTree Net)
assigned_rights assigns = map (λ a. RPlain a.value) assigns

-- the right side of each net
abbrev pub right_sides : Netlist → List (RightTree Net)
right_sides d = rights d.wires ++ assigned_rights d.assigns

abbrev pub net_count : Netlist → ℕ
net_count d = length d.wires + length d.assigns

abbrev pub block_count : Netlist → ℕ
block_count d = length d.always

-- where there is no net
abbrev pub no_right : RightTree Net
no_right = RPlain (TConst nothing)

-- the value of a right side, which is 0 where a divisor is zero
abbrev pub event_value : {N : Type 0} → Env N → RightTree N → Word
event_value v r = if stops v r then word (right_value v r).width 0 else right_value v r

-- the value that the right side of a net has where nets store these words
unfoldable pub value_at : Netlist → List Word → Stored → ℕ → List Word → Word
value_at d ins s n nets = event_value (env ins s nets) (get_or (right_sides d) n no_right)

abbrev pub right_side : State → ℕ → Word
right_side s n = value_at s.netlist s.ins s.stored n s.nets

abbrev pub same_word : Word → Word → Bool
same_word a b = (a.width == b.width) && (a.value == b.value)

-- its stored value differs from that of its right side
abbrev pub is_active : State → ℕ → Bool
is_active s n = not (same_word (get_or s.nets n nothing) (right_side s n))

abbrev pub IsQuiet : State → Type 0
IsQuiet s = (n : ℕ) → n < net_count s.netlist → is_active s n ≡ false

abbrev pub no_assign : AssignTree
no_assign = record { port = 0; value = TConst nothing }

-- what has the name of a net: a wire, or the output of an assign
abbrev pub net_named : Netlist → ℕ → Net
net_named d n = if nat_lt n (length d.wires) then Wire n else Port (get_or d.assigns (n - length d.wires) no_assign).port

-- ---- events
-- the net takes the value of its right side, and nothing else changes
abbrev pub fired : State → ℕ → State
fired s n = record s { nets = slice_set s.nets n (right_side s n) }

-- Events of these nets, one after another, lead from one state to another: each is active when its turn comes.
abbrev pub Happen : State → List ℕ → State → Type 0
Happen s [] t = s ≡ t
Happen s (n ∷ ns) t = (n < net_count s.netlist) × (is_active s n ≡ true) × Happen (fired s n) ns t

-- the net fires where it is active
abbrev pub passed : State → ℕ → State
passed s n = if is_active s n then fired s n else s

-- these nets in turn
abbrev pub ran : State → List ℕ → State
ran s [] = s
ran s (n ∷ ns) = ran (passed s n) ns

-- how many of them fire
abbrev pub events_in : State → List ℕ → ℕ
events_in s [] = 0
events_in s (n ∷ ns) = number_of (is_active s n) + events_in (passed s n) ns

-- so many sweeps in this order
abbrev pub swept : State → List ℕ → ℕ → State
swept s order zero = s
swept s order (suc k) = ran (swept s order k) order
