-- A drive stops at a wire of the design.
use Rattle.std.specs.Prelude.{if◌then◌else◌}
use Rattle.std.proofs.Common.{◌≡◌, ℕ, zero, suc, ◌+◌, ◌<◌, Bool, true, false, Option, Some, None, List, [], ◌∷◌, length, refl, sym, ap, ◌∙◌, subst, arith}
use Rattle.beat_core.specs.Ports.{Offered}
use Rattle.net_core.specs.declared.tree.Net.{Net}
use Rattle.net_core.specs.declared.tree.Net.TheVariants.{Wire}
use Rattle.net_core.specs.Nets.{Netlist, RightTree, WireTree}
use Rattle.net_core.specs.Names.{name_place}
use Rattle.net_core.specs.Value.{Env, stops}
use Rattle.net_core.specs.Clock.{Stored, after, stopping, stopped_at, rights, env_of}
use Rattle.net_core.specs.Ports.{words_of}
use Rattle.net_core.proofs.WireLaws.{length_rights}
use Rattle.realization.proofs.DriveLaws.{stopped_drive}
use Rattle.net_core.specs.Trace.{cycle_of}
use Rattle.port_drive.specs.realization.History.{drive_inputs, left_after, owed_after, Drive, drive, and_then, Ended, Answered, Stopped, OutOfClocks}
use Rattle.port_drive.proofs.DriveLaws.{done_drive, late_drive, next_drive}
use Rattle.verilog_read.specs.design_rules.Formed.{IsWellFormed}
use Rattle.verilog_read.proofs.design_rules_laws.FormedItemLaws.{last_kept}

-- ---- the wire that stops a clock
first_or_later : (b : Bool) (at most w : ℕ) (later : Option ℕ) → (if b then Some at else later) ≡ Some w → at < most → (later ≡ Some w → w < most) → w < most
first_or_later true at most w later e here after = let same : at ≡ w = cc in omega (arith, same, here)
first_or_later false at most w later e here after = after e

pub stopped_within : (v : Env Net) (at w : ℕ) (rs : List (RightTree Net)) → stopped_at v at rs ≡ Some w → w < at + length rs
stopped_within v at w [] e = absurd cc
stopped_within v at w (r ∷ rs) e =
    first_or_later (stops v r) at (at + length (r ∷ rs)) w (stopped_at v (suc at) rs) e (omega arith)
    (λ f. let h : w < suc at + length rs = stopped_within v (suc at) w rs f in omega (arith, h))

-- a drive, by whether its first clock stops
by_stop : (P : Drive → Type 0) (d : Netlist) (s : Stored) (left : List Offered) (owed limit : ℕ) (o : Option ℕ) → stopping d (words_of (drive_inputs left)) s ≡ o
    → ((w : ℕ) → stopping d (words_of (drive_inputs left)) s ≡ Some w → P (record { trace = []; ended = Stopped w }))
    → P (and_then (cycle_of d s (drive_inputs left)) (drive d (after d (words_of (drive_inputs left)) s) (left_after (cycle_of d s (drive_inputs left)) left) (owed_after (cycle_of d s (drive_inputs left)) (suc owed)) limit))
    → P (drive d s left (suc owed) (suc limit))
by_stop P d s left owed limit None e stop go = subst P (sym (next_drive d s left owed limit e)) go
by_stop P d s left owed limit (Some w) e stop go = subst P (sym (stopped_drive d s left owed limit w e)) (stop w e)

abbrev StopsWithin : Netlist → Drive → Type 0
StopsWithin d r = (w : ℕ) → r.ended ≡ Stopped w → w < length d.wires

never_stopped : (d : Netlist) (r : Drive) (e : Ended) → r ≡ record { trace = []; ended = e } → ((w : ℕ) → ¬ (e ≡ Stopped w)) → StopsWithin d r
never_stopped d r e is other = λ w f. absurd (other w (sym (ap (λ (q : Drive). q.ended) is) ∙ f))

same_stop : (v w : ℕ) → Stopped v ≡ Stopped w → v ≡ w
same_stop v w e = cc

pub drive_stopped : (d : Netlist) (s : Stored) (left : List Offered) (owed limit : ℕ) → StopsWithin d (drive d s left owed limit)
drive_stopped d s left zero limit = never_stopped d (drive d s left zero limit) Answered (done_drive d s left limit) (λ w e. cc)
drive_stopped d s left (suc owed) zero = never_stopped d (drive d s left (suc owed) zero) OutOfClocks (late_drive d s left owed) (λ w e. cc)
drive_stopped d s left (suc owed) (suc limit) =
    by_stop (StopsWithin d) d s left owed limit (stopping d (words_of (drive_inputs left)) s) refl
    (λ w e v f.
    let here : w < 0 + length (rights d.wires) = stopped_within (env_of d (words_of (drive_inputs left)) s) 0 w (rights d.wires) e in
    let same : w ≡ v = same_stop w v f in
    omega (arith, here, same, length_rights d.wires))
    (drive_stopped d (after d (words_of (drive_inputs left)) s) (left_after (cycle_of d s (drive_inputs left)) left) (owed_after (cycle_of d s (drive_inputs left)) (suc owed)) limit)

-- a wire has a name
pub wire_named : (d : Netlist) → IsWellFormed d → (w : ℕ) → w < length d.wires → name_place d (Wire w) < length d.names
wire_named d formed w within = let e : length d.names ≡ length d.ports + length d.declared + length d.wires = (last_kept d formed).names in omega (arith, e, within)
