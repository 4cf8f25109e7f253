-- The part that says which operation commits stores what the machine's next state says.
use Rattle.std.specs.Prelude.{◌≡◌, ℕ, zero, suc, ◌+◌, ◌<◌, if◌then◌else◌, Bool, true, false, Option, None, Some, All, List, length, replicate, slice_set}
use Rattle.std.proofs.Common.{get_or, refl, sym, ap, ◌∙◌, subst, arith}
use Rattle.std.proofs.lemmas.Bool.{eqb-true}
use Rattle.std.proofs.lemmas.List.{length-map, length-set, length-replicate, get_or-map}
use Rattle.std.proofs.lemmas.List.Elements.{All-nil, All-cons, All-weaker, All-filter}
use Rattle.beat_core.specs.declared.beat.Beat.{Beat}
use Rattle.block_core.specs.net_core.declared.ports.Inputs.{Inputs}
use Rattle.block_core.specs.net_core.Ports.{words_of}
use Rattle.block_core.specs.net_core.Value.{Env}
use Rattle.block_core.specs.net_core.Clock.{Stored, done}
use Rattle.block_core.specs.declared.name.Name.{Name}
use Rattle.block_core.specs.Blocks.{Whole}
use Rattle.block_core.specs.Parts.{Sees}
use Rattle.block_core.proofs.list_laws_laws.PositionLaws.{zeros}
use Rattle.hazard_core.specs.cell_core.Rows.{numbers}
use Rattle.hazard_core.specs.cell_core.Sites.{ProgramView, site_at, records}
use Rattle.hazard_core.specs.Tables.{TableState}
use Rattle.hazard_core.specs.StageValues.{StageValues, is_update}
use Rattle.hazard_core.specs.Commits.{written_slot, taken_after}
use Rattle.turn_net.specs.cell_nets.Operands.{number_in}
use Rattle.read_net.specs.declared.sites.OwnSite.{OwnSite}
use Rattle.turn_net.specs.declared.nets.RecordNets.{RecordNets}
use Rattle.turn_net.specs.Actions.{Signals, record_sites, is_at, done_after, taken_by, RecordsAlone}
use Rattle.turn_net.specs.Nets.{sites_of, keeps, kept}
use Rattle.turn_net.specs.Action.{StoresAction, ShowsTarget}
use Rattle.turn_net.specs.declared.target_net.targets.Target.{Target}
use Rattle.pipe_core.specs.Machine.{Packet, State, Input, Build, Action, Commits, Writes, Moves, place_at, some_send, flushed, worked, work, clock}
use Rattle.pipe_core.proofs.ClockLaws.{clock_aside}
use Rattle.pipe_net.specs.declared.parts.Part.{Part}
use Rattle.pipe_net.specs.Parts as part
use Rattle.pipe_net.specs.Parts.{parts_of}
use Rattle.pipe_net.specs.Machine.{input_of}
use Rattle.pipe_net.specs.Layout.{Layout, IsSized, program_of, commit_of}
use Rattle.pipe_net.specs.Relation.{HoldMaps}
use Rattle.pipe_net.specs.Saying.{ShowReturns, action_in, is_host}
use Rattle.pipe_net.specs.Standing.{ShowPackets}
use Rattle.pipe_net.specs.PipeTurns.Parts.{IsTargetOf, AreActionParts}
use Rattle.pipe_net.specs.PipeTurns.Hosting.{ShowsHost}
use Rattle.pipe_net.specs.PipeTurns.Acting.{site_of, site_in, ActionsAreFit, IsRightAction}
use Rattle.pipe_net.specs.PipeTurns.Following.{HoldsAction, ActionFollows, ActionBegins}
use Rattle.pipe_net.proofs.PipeTurns.Machine.{held_in}
use Rattle.pipe_net.proofs.PipeTurns.ActionShown.{signals, sees_action, shown, site, site_here}
use Rattle.pipe_net.proofs.PipeTurns.TargetShown.{packet_there, written_shown}

-- ---- what an action makes of both
record Acted (b : Build) (s : State) (h : StageValues) (action : Action) (i : Signals) (w : State) : Type 0 where
  done : done_after i s.done (site_of action) ≡ w.done
  taken : taken_by b.program s.tables s.taken h (site_of action) ≡ w.taken

acted : (b : Build) (s : State) (back : Bool) (rest : List (Option Packet)) (h : StageValues) (action : Action) (i : Signals) → i.host ≡ is_host action → ((j : ℕ) (x : Packet) → action ≡ Commits j x → h ≡ x.held)
    → Acted b s h action i (worked b s back rest action)
acted b s back rest h (Commits j x) i host same = record { done = refl; taken = ap (λ k. taken_after b.program s.tables s.taken k j) (same j x refl) }
acted b s back rest h (Writes a n) i host same = record { done = ap (λ t. if t then s.done else 0) host; taken = refl }
acted b s back rest h Moves i host same = record { done = ap (λ t. if t then s.done else 0) host; taken = refl }

clock_acted : (b : Build) (i : Input) (s : State) (h : StageValues) (g : Signals) → g.host ≡ is_host (action_in b i s) → ((j : ℕ) (x : Packet) → action_in b i s ≡ Commits j x → h ≡ x.held) → Acted b s h (action_in b i s) g (clock b i s)
unfolding work
clock_acted b i s h g host same =
    let a = clock_aside b i s in
    let t = acted b s (some_send b 0 s.places) (flushed b 0 s.places) h (action_in b i s) g host same in
    record { done = t.done ∙ sym a.done; taken = t.taken ∙ sym a.taken }

taken_long : (p : ProgramView) (t : TableState) (taken : List ℕ) (h : StageValues) (site : Option ℕ) → length (taken_by p t taken h site) ≡ length taken
taken_long p t taken h None = refl
taken_long p t taken h (Some j) = by (is_update (site_at p.sites j).act)
  where
    by : (b : Bool) → length (if b then slice_set taken j (written_slot p t taken h j) else taken) ≡ length taken
    by true = length-set taken j (written_slot p t taken h j)
    by false = refl

-- ---- record sites are sites of the program
below_from : (from n : ℕ) → All (λ j. j < from + n) (numbers from n)
below_from from zero = All-nil (λ j. j < from + 0)
below_from from (suc n) =
    All-cons (λ j. j < from + suc n) from (numbers (suc from) n) (omega arith) (All-weaker (λ j. j < suc from + n) (λ j. j < from + suc n) (λ j lt. omega (arith, lt)) (numbers (suc from) n) (below_from (suc from) n))

below : (p : ProgramView) (rs : List (RecordNets (Name Part))) (n : ℕ) → sites_of rs ≡ record_sites p → n ≡ length p.sites → All (λ r. r.number < n) rs
below p rs n sites e k r lt =
    let many = length-map rs (λ (x : RecordNets (Name Part)). x.number) in
    let inside : k < length (sites_of rs) = omega (arith, many, lt) in
    let all : All (λ j. j < 0 + length p.sites) (sites_of rs) = subst (All (λ j. j < 0 + length p.sites)) (sym sites) (All-filter (λ j. records (site_at p.sites j).act) (λ j. j < 0 + length p.sites) (numbers 0 (length p.sites)) (below_from 0 (length p.sites))) in
    let less = all k 0 inside in
    let same : get_or (sites_of rs) k 0 ≡ (get_or rs k r).number = get_or-map (λ (x : RecordNets (Name Part)). x.number) rs k r 0 lt in
    omega (arith, less, same, e)

-- ---- the action with a site that commits commits there
record CommitsAt (action : Action) (j : ℕ) : Type 0 where
  packet : Packet
  is : action ≡ Commits j packet

commits_at : (action : Action) (j : ℕ) → is_at (site_of action) j ≡ true → CommitsAt action j
commits_at (Commits i x) j e = let n : i ≡ j = eqb-true i j e in record { packet = x; is = ap (λ k. Commits k x) n }
commits_at (Writes a n) j e = absurd (no e)
  where
    no : false ≡ true → ⊥
    no z = cc
commits_at Moves j e = absurd (no e)
  where
    no : false ≡ true → ⊥
    no z = cc

module _ (l : Layout) (d : Whole Part) (sized : IsSized l) (parts : AreActionParts l d) (listed : d.parts ≡ parts_of l.sizes)
    (i : Inputs) (s : State) (ss : Part → Stored) (v : Env (Name Part)) (maps : HoldMaps l s ss) (sees : Sees d (words_of i) ss v) (fit : ActionsAreFit l d parts v) (returns : ShowReturns l s v) (host : ShowsHost l i s v) (packets : ShowPackets l s v)
    (right : IsRightAction l i s) (law : RecordsAlone) where
  abbrev action : Action
  action = action_in l.build (input_of i) s

  abbrev h : StageValues
  h = held_in (place_at s.places (commit_of l))

  same_held : (j : ℕ) (x : Packet) → action ≡ Commits j x → h ≡ x.held
  same_held j x e = ap held_in (packet_there l d sized parts listed i s ss v maps sees fit packets right j x e)

  -- what a record's operand stands for is the slot that its operation writes, where this commits
  target_shown : (r : RecordNets (Name Part)) → IsTargetOf l parts.own parts.targets r → ShowsTarget v (program_of l) s.tables s.taken h (site_in l i s) r
  target_shown r of e =
      let c = commits_at action r.number e in
      let m = (site_at (program_of l).sites r.number).map in
      let there = (right.commits r.number c.packet c.is).map in
      let beside = (right.tables r.number c.packet c.is).beside in
      let few : m < length l.decls = subst (λ ds. m < length ds) maps.decls (omega (arith, there, beside)) in
      let own : OwnSite (Name Part) = record { site = r.number; act = r.act; nets = r.nets } in
      let target : Target (Name Part) = record { slot = r.target; makes = r.target } in
      let written = written_shown l d sized parts listed i s ss v maps sees fit packets right r.number c.packet c.is m few of.at own target of.there (of.site own) in
      ap (number_in v) (sym (of.target target)) ∙ written.slot ∙ ap (λ k. written_slot (program_of l) s.tables s.taken k r.number) (sym (same_held r.number c.packet c.is))

  abbrev seen : Signals
  seen = signals l d sized parts listed i s ss v maps sees fit returns host packets law

  abbrev here : Option ℕ
  here = site l d sized parts listed i s ss v maps sees fit returns host packets law

  is_here : here ≡ site_in l i s
  is_here = site_here l d sized parts listed i s ss v maps sees fit returns host packets law

  targets_shown : All (ShowsTarget v (program_of l) s.tables s.taken h here) (kept l.records)
  targets_shown =
      subst (λ o. All (ShowsTarget v (program_of l) s.tables s.taken h o) (kept l.records)) (sym is_here)
      (All-filter keeps (ShowsTarget v (program_of l) s.tables s.taken h (site_in l i s)) l.records (All-weaker (IsTargetOf l parts.own parts.targets) (ShowsTarget v (program_of l) s.tables s.taken h (site_in l i s)) target_shown l.records parts.written))

  abbrev after : State
  after = clock l.build (input_of i) s

  -- how far the packet is and the slots that its updates took, after the clock
  actions : Acted l.build s h action seen after
  actions = clock_acted l.build (input_of i) s h seen refl same_held

  done_is : done_after seen s.done here ≡ after.done
  done_is = ap (done_after seen s.done) is_here ∙ actions.done

  taken_is : taken_by (program_of l) s.tables s.taken h here ≡ after.taken
  taken_is = ap (taken_by (program_of l) s.tables s.taken h) is_here ∙ actions.taken

  abbrev new : Stored
  new = done v (d.block (part.action l.sizes)).statement (ss (part.action l.sizes))

  stores : StoresAction l.action_shape l.records (done_after seen s.done here) (taken_by (program_of l) s.tables s.taken h here) new
  stores =
      parts.action.clock s.tables seen s.done s.taken h (ss (part.action l.sizes)) v maps.action (sees_action l d sized parts listed i s ss v maps sees fit returns host packets law) (shown l d sized parts listed i s ss v maps sees fit returns host packets law) maps.decls
      (below (program_of l) l.records (length s.taken) parts.sites maps.long) targets_shown

  pub holds_action : HoldsAction l after (λ p. done v (d.block p).statement (ss p))
  holds_action = record {
    long = ap (λ (ns : List ℕ). length ns) (sym taken_is) ∙ taken_long (program_of l) s.tables s.taken h here ∙ maps.long;
    action = subst (λ n. StoresAction l.action_shape l.records n after.taken new) done_is (subst (λ ns. StoresAction l.action_shape l.records (done_after seen s.done here) ns new) taken_is stores);
  }

pub action_follows : RecordsAlone → ActionFollows
action_follows law = λ l d sized parts listed i s ss v maps sees fit returns host packets right. holds_action l d sized parts listed i s ss v maps sees fit returns host packets right law

-- ---- before the first clock
pub action_begins : ActionBegins
action_begins = λ l d maps parts.
    let n = length (program_of l).sites in
    record {
      long = length-replicate n 0;
      action = parts.action.first (replicate n 0) (λ k r lt. zeros n (get_or (kept l.records) k r).number);
    }
