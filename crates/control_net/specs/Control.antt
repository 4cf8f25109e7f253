-- What control knows, and what a clock makes of it: packets move on or stay where they are, and some are sent back.
use Rattle.std.specs.Prelude.{◌≡◌, ℕ, suc, ◌+◌, ◌%◌, ◌^◌, ◌<◌, ◌≤◌, nat_lt, nat_le, Bool, true, false, ◌&&◌, ◌||◌, if◌then◌else◌, List, [], ◌∷◌, length, replicate, drop}
use Rattle.std.proofs.Common.{get_or, not}
use Rattle.net_core.specs.Value.{number_of}
use Rattle.control_net.specs.declared.ring_net.shape.ControlShape.{ControlShape}
use Rattle.control_net.specs.declared.ring_net.names.Counter.{Counter}
use Rattle.control_net.specs.declared.ring_net.names.Counter.TheVariants as counter
use Rattle.control_net.specs.RingNet.Control.{packets, counted}
use Rattle.control_net.specs.declared.names.Wire.{Wire}
use Rattle.control_net.specs.declared.names.Wire.TheVariants as wire

-- how many frames have come wholly, are in the pipeline or have been, have left it, and how many answers are given wholly; which places hold a packet,
-- from place 0 on; of each place up to the commit place the number of the packet that it holds, and any number where it holds none; how many packets have
-- passed the commit place, modulo 2 ^ 32
pub record State : Type 0 where
  pub given : ℕ
  pub answered : ℕ
  pub injected : ℕ
  pub gathered : ℕ
  pub holds : List Bool
  pub numbers : List ℕ
  pub passed : ℕ

abbrev pub count : Counter → State → ℕ
count counter.Given s = s.given
count counter.Answered s = s.answered
count counter.Injected s = s.injected
count counter.Gathered s = s.gathered

-- before the first clock
abbrev pub first_state : ControlShape → State
first_state c = record { given = 0; answered = 0; injected = 0; gathered = 0; holds = replicate (suc c.stages) false; numbers = replicate (suc c.commit) 0; passed = 0 }

-- what control sees of the other parts and of the ports in a clock: a frame has begun to come and has not ended; a beat is offered, and it is the last of its
-- frame; a beat that is shown would be taken, and it is the last of its answer; packets stay where they are, since an operation commits or the host writes; by
-- place, whether a packet there is to be sent back
pub record Signals : Type 0 where
  pub partial : Bool
  pub in_valid : Bool
  pub in_last : Bool
  pub out_ready : Bool
  pub last : Bool
  pub stalls : Bool
  pub reload : ℕ → Bool

-- ---- sending back

-- place k, which holds a packet or not, sends one back: no place past the commit place does
abbrev pub returns : ControlShape → (ℕ → Bool) → ℕ → Bool → Bool
returns c reload k h = nat_le k c.commit && (h && reload k)

-- one of these places, from place k on, sends back
abbrev pub some_returns : ControlShape → (ℕ → Bool) → ℕ → List Bool → Bool
some_returns c reload k [] = false
some_returns c reload k (h ∷ hs) = returns c reload k h || some_returns c reload (suc k) hs

-- Where a place sends back, it and all younger ones are emptied.
abbrev pub flushed : ControlShape → (ℕ → Bool) → ℕ → List Bool → List Bool
flushed c reload k [] = []
flushed c reload k (h ∷ hs) = (h && not (some_returns c reload k (h ∷ hs))) ∷ flushed c reload (suc k) hs

-- the number of the oldest packet that is sent back, where one is
abbrev pub oldest : ControlShape → (ℕ → Bool) → ℕ → List Bool → List ℕ → ℕ
oldest c reload k [] ns = 0
oldest c reload k (h ∷ hs) [] = 0
oldest c reload k (h ∷ hs) (n ∷ ns) = if some_returns c reload (suc k) hs then oldest c reload (suc k) hs ns else n

-- place k or an older one sends back
abbrev pub back : ControlShape → Signals → State → ℕ → Bool
back c i s k = some_returns c i.reload k (drop k s.holds)

-- which places hold a packet that is not sent back
abbrev pub rest : ControlShape → Signals → State → List Bool
rest c i s = flushed c i.reload 0 s.holds

-- ---- what happens in a clock

-- A frame that has begun may go on. Another one may begin where there is room for it.
abbrev pub ready : ControlShape → Signals → State → Bool
ready c i s = i.partial || nat_lt s.gathered (s.given + c.slots)

abbrev pub over : ControlShape → Signals → State → Bool
over c i s = i.in_valid && ready c i s

abbrev pub ends : ControlShape → Signals → State → Bool
ends c i s = over c i s && i.in_last

abbrev pub advances : Signals → Bool
advances i = not i.stalls

-- the next frame enters, where packets move on and none is sent back
abbrev pub injects : ControlShape → Signals → State → Bool
injects c i s = (advances i && not (back c i s 0)) && nat_lt s.injected s.gathered

abbrev pub exits : ControlShape → Signals → State → Bool
exits c i s = advances i && get_or (rest c i s) c.stages false

abbrev pub passes : ControlShape → Signals → State → Bool
passes c i s = advances i && get_or (rest c i s) c.commit false

abbrev pub shown : State → Bool
shown s = nat_lt s.given s.answered

abbrev pub taken : Signals → State → Bool
taken i s = shown s && i.out_ready

abbrev pub gone : Signals → State → Bool
gone i s = taken i s && i.last

-- what each wire tells
abbrev pub told : ControlShape → Signals → State → Wire → Bool
told c i s wire.Ready = ready c i s
told c i s wire.Over = over c i s
told c i s wire.Ends = ends c i s
told c i s wire.Advances = advances i
told c i s wire.Injects = injects c i s
told c i s wire.Exits = exits c i s
told c i s wire.Passes = passes c i s
told c i s wire.Shown = shown s
told c i s wire.Taken = taken i s
told c i s wire.Gone = gone i s

-- ---- what a clock changes

-- Each place takes what the one before had, and place 0 what is given.
abbrev pub shifted : {X : Type 0} → X → List X → List X
shifted x [] = []
shifted x (n ∷ ns) = x ∷ shifted n ns

-- Frames are injected again from the oldest one that is sent back on.
abbrev pub injected_after : ControlShape → Signals → State → ℕ
injected_after c i s = if back c i s 0 then oldest c i.reload 0 s.holds s.numbers else counted (injects c i s) s.injected

abbrev pub step : ControlShape → Signals → State → State
step c i s = record {
  given = counted (gone i s) s.given;
  answered = counted (exits c i s) s.answered;
  injected = injected_after c i s;
  gathered = counted (ends c i s) s.gathered;
  holds = if i.stalls then rest c i s else shifted (injects c i s) (rest c i s);
  numbers = if i.stalls then s.numbers else shifted s.injected s.numbers;
  passed = (s.passed + number_of (passes c i s)) % 2 ^ 32;
}

-- whether a frame has begun and has not ended, after the clock
abbrev pub partial_after : ControlShape → Signals → State → Bool
partial_after c i s = if over c i s then not i.in_last else i.partial

-- Frames are given, answered, injected and gathered in this order, and no more are inside than there are slots. A frame that has begun has a slot. Those that
-- are injected and not answered are in the places, one after another: the number of a packet is that of the oldest one and how many are before it.
pub record IsSound (c : ControlShape) (partial : Bool) (s : State) : Type 0 where
  pub given : s.given ≤ s.answered
  pub answered : s.answered ≤ s.injected
  pub injected : s.injected ≤ s.gathered
  pub gathered : s.gathered ≤ s.given + c.slots
  pub room : partial ≡ true → s.gathered < s.given + c.slots
  pub places : length s.holds ≡ suc c.stages
  pub numbered : length s.numbers ≡ suc c.commit
  pub inside : s.answered + packets s.holds ≡ s.injected
  pub numbers : (k : ℕ) → k ≤ c.commit → get_or s.holds k false ≡ true → get_or s.numbers k 0 ≡ s.answered + packets (drop (suc k) s.holds)
  pub passed : s.passed < 2 ^ 32

abbrev pub StartsSound : Type 0
StartsSound = (c : ControlShape) → IsSound c false (first_state c)

abbrev pub StaysSound : Type 0
StaysSound = (c : ControlShape) (i : Signals) (s : State) → IsSound c i.partial s → IsSound c (partial_after c i s) (step c i s)
