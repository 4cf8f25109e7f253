-- What a simulation gives, by what the calls of the host answer.
use Rattle.std.proofs.Common.{◌≡◌, ℕ, ◌+◌, ◌<◌, Option, Some, None, List, [], ◌∷◌, ◌++◌, length, refl, sym, ap, ◌∙◌, subst, arith, Result, Ok, Err}
use Rattle.beat_core.specs.declared.frame.Timed.{Timed}
use Rattle.net_core.specs.declared.tree.Net.{Net}
use Rattle.net_core.specs.declared.tree.Net.TheVariants.{Wire}
use Rattle.net_core.specs.declared.ports.Inputs.{Inputs}
use Rattle.net_core.specs.Nets.{Netlist}
use Rattle.net_core.specs.Names.{name_of}
use Rattle.net_core.specs.Clock.{Stored, first_stored, after, stopping, rights, env_of}
use Rattle.net_core.specs.Ports.{words_of}
use Rattle.net_core.specs.Trace.{trace, stored_after, NeverStops}
use Rattle.net_core.proofs.WireLaws.{length_rights}
use Rattle.clock_sim.specs.declared.sim.XValue.{XValue}
use Rattle.clock_sim.specs.Running.{IsNamed}
use Rattle.xdp_maps.specs.declared.decl.MapDecl.{MapDecl}
use Rattle.xdp_maps.specs.State.{MapState}
use Rattle.port_drive.specs.realization.History.{Drive}
use Rattle.port_drive.specs.realization.HostHistory.Host.{load, dump}
use Rattle.port_drive.specs.Hosting.{StopsAt, ClocksOrNone, shown_maps}
use Rattle.port_drive.specs.Reports.{given_in}
use Rattle.port_drive.specs.declared.report.Drive as report
use Rattle.port_drive.specs.declared.report.DriveError.{DriveError}
use Rattle.port_drive.specs.declared.report.DriveError.TheVariants.{X, Late, NoMemory}
use Rattle.verilog_read.specs.design_rules.Formed.{IsWellFormed}
use Rattle.ehdl_top.specs.declared.error.CommandError.{CommandError}
use Rattle.ehdl_top.specs.declared.error.CommandError.TheVariants as fault
use Rattle.ehdl_top.specs.Simulation.{first_stop, x_value, Simulation, dumped, driven, simulation}
use Rattle.ehdl_top.specs.Steps.{StopsInside, error_of}
use Rattle.ehdl_top.proofs.DriveLemmas.{stopped_within, wire_named}

-- ---- clocks of the host
-- none of which stops
pub goes_first : (d : Netlist) (s : Stored) (clocks : List Inputs) → NeverStops d s clocks → first_stop d s clocks ≡ None
goes_first d s [] never = refl
goes_first d s (i ∷ is) never =
    ap (λ (o : Option ℕ). elim o as (λ _. Option ℕ) [ None ↦ first_stop d (after d (words_of i) s) is | Some w ↦ Some w ]) never.0
    ∙ goes_first d (after d (words_of i) s) is never.1

stops_behind : (d : Netlist) (s : Stored) (before : List Inputs) (i : Inputs) (behind : List Inputs) (w : ℕ) → NeverStops d s before → stopping d (words_of i) (stored_after d s before) ≡ Some w → first_stop d s (before ++ i ∷ behind) ≡ Some w
stops_behind d s [] i behind w never stop =
    ap (λ (o : Option ℕ). elim o as (λ _. Option ℕ) [ None ↦ first_stop d (after d (words_of i) s) behind | Some v ↦ Some v ]) stop
stops_behind d s (j ∷ before) i behind w never stop =
    ap (λ (o : Option ℕ). elim o as (λ _. Option ℕ) [ None ↦ first_stop d (after d (words_of j) s) (before ++ i ∷ behind) | Some v ↦ Some v ]) never.0
    ∙ stops_behind d (after d (words_of j) s) before i behind w never.1 stop

-- one of which does
stops_first : (d : Netlist) (s t : Stored) (clocks : List Inputs) (w : ℕ) → StopsAt d s clocks w t → first_stop d s clocks ≡ Some w
stops_first d s t clocks w p =
    ap (first_stop d s) p.all ∙ stops_behind d s p.before p.at p.behind w p.goes (ap (stopping d (words_of p.at)) (sym p.left) ∙ p.stops)

stops_within : (d : Netlist) (s t : Stored) (clocks : List Inputs) (w : ℕ) → StopsAt d s clocks w t → w < length d.wires
stops_within d s t clocks w p =
    let here : w < 0 + length (rights d.wires) = stopped_within (env_of d (words_of p.at) t) 0 w (rights d.wires) p.stops in
    omega (arith, here, length_rights d.wires)

-- ---- what a call of the host answers
pub host_goes : {A : Type 0} (d : Netlist) (s t : Stored) (clocks : List Inputs) (r : Result A DriveError) (a : A) → r ≡ Ok a → ClocksOrNone d s clocks r t → NeverStops d s clocks × (t ≡ stored_after d s clocks)
host_goes {A} d s t clocks r a is went = let P : Result A DriveError → Type 0 = λ q. ClocksOrNone d s clocks q t in subst P is went

same_net : (d : Netlist) (x : XValue) (w : ℕ) (e : CommandError) → x.net ≡ Wire w → error_of d (X x) ≡ Some e → x_value d w ≡ e
same_net d x w e is given = let P : Net → Type 0 = λ n. fault.XValue (name_of d n) ≡ e in subst P is cc

one_error : {A : Type 0} (r : Result A DriveError) (y x : DriveError) → r ≡ Err y → r ≡ Err x → y ≡ x
one_error {A} r y x e f = cc

pub record StopsFor (d : Netlist) (s : Stored) (clocks : List Inputs) (e : CommandError) : Type 0 where
  pub wire : ℕ
  pub first : first_stop d s clocks ≡ Some wire
  pub for : x_value d wire ≡ e

pub host_stops : {A : Type 0} (d p : Netlist) (s t : Stored) (clocks : List Inputs) (r : Result A DriveError) (x : DriveError) (e : CommandError) → r ≡ Err x → ClocksOrNone d s clocks r t → p ≡ d → error_of p x ≡ Some e → StopsFor d s clocks e
host_stops d p s t clocks (Ok a) x e is went same given = absurd cc
host_stops d p s t clocks (Err (X y)) x e is went same given =
    let here : error_of d (X y) ≡ Some e = ap (λ f. error_of d f) (one_error (Err (X y)) (X y) x refl is) ∙ sym (ap (λ (q : Netlist). error_of q x) same) ∙ given in
    record { wire = went.0; first = stops_first d s t clocks went.0 went.1; for = same_net d y went.0 e went.2 here }
host_stops d p s t clocks (Err (Late answers frames limit)) x e is went same given = absurd went
host_stops d p s t clocks (Err NoMemory) x e is went same given =
    let here : error_of d NoMemory ≡ Some e = ap (λ f. error_of d f) (one_error (Err NoMemory) NoMemory x refl is) ∙ sym (ap (λ (q : Netlist). error_of q x) same) ∙ given in
    absurd cc

-- the net at which clocks stopped is one of the design, which the call has left
inside_as : (d p : Netlist) (y : DriveError) → p ≡ d → StopsInside d y → StopsInside p y
inside_as d p y same inside = let P : Netlist → Type 0 = λ z. StopsInside z y in subst P (sym same) inside

wire_inside : (d : Netlist) (x : XValue) (w : ℕ) → IsWellFormed d → w < length d.wires → x.net ≡ Wire w → StopsInside d (X x)
wire_inside d x w formed within is = let P : Net → Type 0 = IsNamed d in subst P (sym is) (wire_named d formed w within)

pub host_inside : {A : Type 0} (d p : Netlist) (s t : Stored) (clocks : List Inputs) (r : Result A DriveError) (x : DriveError) → IsWellFormed d → r ≡ Err x → ClocksOrNone d s clocks r t → p ≡ d → StopsInside p x
host_inside d p s t clocks (Ok a) x formed is went same = absurd cc
host_inside d p s t clocks (Err (X y)) x formed is went same =
    let P : DriveError → Type 0 = StopsInside p in
    subst P (one_error (Err (X y)) (X y) x refl is) (inside_as d p (X y) same (wire_inside d y went.0 formed (stops_within d s t clocks went.0 went.1) went.2))
host_inside d p s t clocks (Err (Late answers frames limit)) x formed is went same = absurd went
host_inside d p s t clocks (Err NoMemory) x formed is went same = let P : DriveError → Type 0 = StopsInside p in subst P (one_error (Err NoMemory) NoMemory x refl is) tt

-- ---- the dump
abbrev dump_by : Netlist → Stored → List MapDecl → Option ℕ → Result MapState CommandError
dump_by d s decls o = elim o [ None ↦ Ok (shown_maps decls (trace d s (dump decls))) | Some w ↦ Err (x_value d w) ]

pub dump_whole : (d : Netlist) (s : Stored) (decls : List MapDecl) (maps : MapState) → NeverStops d s (dump decls) → maps ≡ shown_maps decls (trace d s (dump decls)) → Ok maps ≡ dumped d s decls
dump_whole d s decls maps never shown = ap Ok shown ∙ sym (ap (dump_by d s decls) (goes_first d s (dump decls) never))

pub dump_stops : (d : Netlist) (s : Stored) (decls : List MapDecl) (e : CommandError) → StopsFor d s (dump decls) e → Err e ≡ dumped d s decls
dump_stops d s decls e p = ap Err (sym p.for) ∙ sym (ap (dump_by d s decls) p.first)

-- why there are no maps
pub record StopsDump (d : Netlist) (e : CommandError) : Type 0 where
  pub wire : ℕ
  pub for : x_value d wire ≡ e

dump_error_by : (d : Netlist) (s : Stored) (decls : List MapDecl) (e : CommandError) (o : Option ℕ) → dump_by d s decls o ≡ Err e → StopsDump d e
dump_error_by d s decls e None is = absurd cc
dump_error_by d s decls e (Some w) is = record { wire = w; for = cc }

pub dump_error : (d : Netlist) (s : Stored) (decls : List MapDecl) (e : CommandError) → dumped d s decls ≡ Err e → StopsDump d e
dump_error d s decls e is = dump_error_by d s decls e (first_stop d s (dump decls)) is

-- the maps have these declarations
dump_over_by : (d : Netlist) (s : Stored) (decls : List MapDecl) (maps : MapState) (o : Option ℕ) → dump_by d s decls o ≡ Ok maps → maps.decls ≡ decls
dump_over_by d s decls maps None is = let same : shown_maps decls (trace d s (dump decls)) ≡ maps = cc in ap (λ (m : MapState). m.decls) (sym same)
dump_over_by d s decls maps (Some w) is = absurd cc

pub dump_over : (d : Netlist) (s : Stored) (decls : List MapDecl) (maps : MapState) → dumped d s decls ≡ Ok maps → maps.decls ≡ decls
dump_over d s decls maps is = dump_over_by d s decls maps (first_stop d s (dump decls)) is

-- ---- the drive
-- what a drive that ended so gives in the end
abbrev pub end_by : Netlist → Stored → List MapDecl → Drive → Option CommandError → Result MapState CommandError
end_by d s decls drive o = elim o [ None ↦ dumped d (stored_after d s (given_in drive.trace)) decls | Some e ↦ Err e ]

-- ---- the load
module _ (d : Netlist) (maps : MapState) where
  -- (a design that was opened has the first values)
  from_first : {A : Type 0} (s t : Stored) (r : Result A DriveError) → s ≡ first_stored d → ClocksOrNone d s (load maps) r t → ClocksOrNone d (first_stored d) (load maps) r t
  from_first {A} s t r first went = subst (λ (u : Stored). ClocksOrNone d u (load maps) r t) first went

  pub load_stops : {A : Type 0} (p : Netlist) (s t : Stored) (r : Result A DriveError) (x : DriveError) (e : CommandError) → r ≡ Err x → ClocksOrNone d s (load maps) r t → s ≡ first_stored d → p ≡ d → error_of p x ≡ Some e → StopsFor d (first_stored d) (load maps) e
  load_stops {A} p s t r x e is went first kept given = host_stops d p (first_stored d) t (load maps) r x e is (from_first s t r first went) kept given

  pub load_inside : {A : Type 0} (p : Netlist) (s t : Stored) (r : Result A DriveError) (x : DriveError) → IsWellFormed d → r ≡ Err x → ClocksOrNone d s (load maps) r t → s ≡ first_stored d → p ≡ d → StopsInside p x
  load_inside {A} p s t r x formed is went first kept = host_inside d p (first_stored d) t (load maps) r x formed is (from_first s t r first went) kept

  module _ (ifindex : ℕ) (packets : List Timed) (clocks : ℕ) where
    abbrev load_by : Option ℕ → Simulation
    load_by o = elim o [ None ↦ driven d (stored_after d (first_stored d) (load maps)) maps.decls ifindex packets clocks | Some w ↦ record { answers = []; end = Err (x_value d w) } ]

    pub load_goes : {A : Type 0} (p : Netlist) (s t : Stored) (decls : List MapDecl) (r : Result A DriveError) (a : A) → r ≡ Ok a → ClocksOrNone d s (load maps) r t → s ≡ first_stored d → p ≡ d → decls ≡ maps.decls
        → driven p t decls ifindex packets clocks ≡ simulation d maps ifindex packets clocks
    load_goes {A} p s t decls r a is went first kept over =
        let goes = host_goes d (first_stored d) t (load maps) r a is (from_first s t r first went) in
        ap (λ (q : Netlist). driven q t decls ifindex packets clocks) kept
        ∙ ap (λ (u : Stored). driven d u decls ifindex packets clocks) goes.1
        ∙ ap (λ (ds : List MapDecl). driven d (stored_after d (first_stored d) (load maps)) ds ifindex packets clocks) over
        ∙ sym (ap load_by (goes_first d (first_stored d) (load maps) goes.0))

    pub load_given_up : (e : CommandError) (stops : StopsFor d (first_stored d) (load maps) e) → record { answers = []; end = Err (x_value d stops.wire) } ≡ simulation d maps ifindex packets clocks
    load_given_up e stops = sym (ap load_by stops.first)
