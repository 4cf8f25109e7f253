-- The full drive of frames, and how a call reports it.
use Rattle.std.specs.Prelude.{◌≡◌, ℕ, ◌+◌, ◌++◌, List, [], ◌∷◌, length, map, if◌then◌else◌, Result, Ok, Err, ⊤}
use Rattle.std.specs.List.{flat_map}
use Rattle.beat_core.specs.declared.frame.Timed.{Timed}
use Rattle.beat_core.specs.Ports.{offers_of}
use Rattle.net_core.specs.declared.tree.Net.TheVariants.{Wire}
use Rattle.net_core.specs.declared.ports.Inputs.{Inputs}
use Rattle.net_core.specs.Nets.{Netlist}
use Rattle.net_core.specs.Clock.{Stored}
use Rattle.net_core.specs.Trace.{Cycle, stored_after}
use Rattle.realization.specs.History.{answers_given, drive, Ended, Answered, Stopped, OutOfClocks}
use Rattle.beat_core.specs.declared.answer.Answer.{Answer}
use Rattle.realization.specs.History as history
use Rattle.port_drive.specs.declared.report.Drive.{Drive}
use Rattle.port_drive.specs.declared.report.DriveError.{DriveError}
use Rattle.port_drive.specs.declared.report.DriveError.TheVariants.{X, Late, NoMemory}

-- the full drive of these packets, each beat beside its time, under one interface number, in at most so many clocks
abbrev pub full_drive : Netlist → ℕ → Stored → List Timed → ℕ → history.Drive
full_drive d ifindex s packets limit = drive d s (flat_map (offers_of ifindex) packets) (length packets) limit

-- the clocks in which a packet is sent back
abbrev pub reloads_in : List Cycle → ℕ
reloads_in [] = 0
reloads_in (m ∷ ms) = if m.shown.out_reload then 1 + reloads_in ms else reloads_in ms

abbrev pub given_in : List Cycle → List Inputs
given_in ms = map (λ m. m.given) ms

-- what a call reports of a drive that owes so many answers
abbrev pub Reports : history.Drive → ℕ → Result Drive DriveError → Type 0
Reports d owed (Ok r) = (d.ended ≡ Answered) × (r.clocks ≡ length d.trace) × (r.reloads ≡ reloads_in d.trace)
Reports d owed (Err (X x)) = (w : ℕ) × (d.ended ≡ Stopped w) × (x.net ≡ Wire w)
Reports d owed (Err (Late answers frames clocks)) = (d.ended ≡ OutOfClocks) × (answers ≡ length (answers_given [] d.trace)) × (frames ≡ owed) × (clocks ≡ length d.trace)
Reports d owed (Err NoMemory) = ⊤

-- all these answers were given after those before, or out of memory the first of them
pub record GivesFirst (before after all : List Answer) : Type 0 where
  pub some : List Answer
  pub rest : List Answer
  pub given : after ≡ before ++ some
  pub first : some ++ rest ≡ all

abbrev pub Gives : Result Drive DriveError → List Answer → List Answer → List Answer → Type 0
Gives (Err NoMemory) before after all = GivesFirst before after all
Gives (Err (X x)) before after all = after ≡ before ++ all
Gives (Err (Late answers frames clocks)) before after all = after ≡ before ++ all
Gives (Ok r) before after all = after ≡ before ++ all

-- what is stored is what the drive's clocks leave; out of memory nothing is said
abbrev pub Leaves : Result Drive DriveError → Netlist → Stored → List Cycle → Stored → Type 0
Leaves (Err NoMemory) d before ms after = ⊤
Leaves (Err (X x)) d before ms after = after ≡ stored_after d before (given_in ms)
Leaves (Err (Late answers frames clocks)) d before ms after = after ≡ stored_after d before (given_in ms)
Leaves (Ok r) d before ms after = after ≡ stored_after d before (given_in ms)
