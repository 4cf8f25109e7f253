-- The part that says which operation commits says what the machine does.
use Rattle.std.specs.Prelude.{◌≡◌, ℕ, ◌<◌, if◌then◌else◌, Bool, true, false, ◌||◌, Option, None, Some, is_some, List, length}
use Rattle.std.specs.List.{find}
use Rattle.std.proofs.Common.{get_or, refl, ap, ◌∙◌, subst, arith}
use Rattle.std.proofs.lemmas.List.Elements.{All-weaker}
use Rattle.block_core.specs.net_core.declared.ports.Inputs.{Inputs}
use Rattle.block_core.specs.net_core.Ports.{words_of}
use Rattle.block_core.specs.net_core.Value.{bit as bit_word, Env}
use Rattle.block_core.specs.net_core.Clock.{Stored}
use Rattle.block_core.specs.declared.name.Name.{Name}
use Rattle.block_core.specs.Blocks.{Whole}
use Rattle.block_core.specs.Parts.{Sees}
use Rattle.hazard_core.specs.StageValues.{StageValues, writes}
use Rattle.read_net.specs.overlay_net.SiteOperands.Sites.{operands_of, ShowsSite}
use Rattle.turn_net.specs.declared.nets.RecordNets.{RecordNets}
use Rattle.turn_net.specs.Actions.{Signals, first_open, may_commit, committing, RecordsAlone}
use Rattle.turn_net.specs.Nets.{sites_of, ShowsRecords}
use Rattle.turn_net.specs.Steps.{ShowsChosen}
use Rattle.turn_net.specs.Action.{SeesAction, ShowsAction as ShowsSite_in}
use Rattle.turn_net.specs.TargetNet.Commits.{IsRecord, commits_on}
use Rattle.pipe_core.specs.Machine.{Packet, State, Action, place_at, is_idle, host_ready, host_writes}
use Rattle.turn_net.proofs.TargetNet.CommitLaws.{first_record}
use Rattle.pipe_net.specs.declared.parts.Part.{Part}
use Rattle.pipe_net.specs.Parts as part
use Rattle.pipe_net.specs.Parts.{parts_of}
use Rattle.pipe_net.specs.Machine.{access_in, input_of}
use Rattle.pipe_net.specs.Layout.{Layout, IsSized, program_of, commit_of}
use Rattle.pipe_net.specs.Relation.{HoldMaps}
use Rattle.pipe_net.specs.Saying.{ShowReturns, action_in, is_host}
use Rattle.pipe_net.specs.Standing.{IsAtPlace, ShowPackets}
use Rattle.pipe_net.specs.PipeTurns.Parts.{action_nets, AreActionParts}
use Rattle.pipe_net.specs.PipeTurns.Hosting.{ShowsHost}
use Rattle.pipe_net.specs.PipeTurns.Acting.{site_in, ShowsAction, ActionsAreFit, ActionIsShown}
use Rattle.pipe_net.proofs.PipeTurns.Places.{commits_within, has_action, has_commits}
use Rattle.pipe_net.proofs.PipeTurns.Machine.{stays_is, held_in, seen, site_is}

-- ---- the site that commits is that of a record

committing_record : {N : Type 0} (may : Bool) (q : ℕ → Bool) (rs : List (RecordNets N)) → IsRecord rs (if may then find q (sites_of rs) else None)
committing_record true q rs = first_record q rs
committing_record false q rs = tt

module _ (l : Layout) (d : Whole Part) (sized : IsSized l) (parts : AreActionParts l d) (listed : d.parts ≡ parts_of l.sizes)
    (i : Inputs) (s : State) (ss : Part → Stored) (v : Env (Name Part)) (maps : HoldMaps l s ss) (sees : Sees d (words_of i) ss v) (fit : ActionsAreFit l d parts v) (returns : ShowReturns l s v) (host : ShowsHost l i s v) (packets : ShowPackets l s v) (law : RecordsAlone) where
  abbrev action : Action
  action = action_in l.build (input_of i) s

  abbrev pub held : StageValues
  held = held_in (place_at s.places (commit_of l))

  -- what the part sees of others
  abbrev pub signals : Signals
  signals = seen l.build s l.decls (sites_of l.records) maps.decls parts.sites law action

  pub sees_action : SeesAction (part.action l.sizes) (action_nets l) l.records (d.block (part.action l.sizes)) signals (ss (part.action l.sizes)) v
  sees_action = record {
    present = returns.holds (commit_of l) (commits_within l sized);
    back = returns.back (commit_of l) (omega arith);
    host = host.writes;
    fit = fit.records;
    registers = λ k lt. sees.register (part.action l.sizes) k (has_action l d sized listed) lt;
    wires = sees.wires (part.action l.sizes) (has_action l d sized listed);
  }

  cells_shown : (o : Option Packet) → place_at s.places (commit_of l) ≡ o → is_some o ≡ true → ShowsRecords v (program_of l) (held_in o) l.records
  cells_shown None e some = absurd (apart some)
    where
      apart : false ≡ true → ⊥
      apart z = cc
  cells_shown (Some x) e some =
      All-weaker (λ (r : RecordNets (Name Part)). IsAtPlace l (commit_of l) r.number (operands_of r.nets.now)) (λ r. ShowsSite v (program_of l) x.held r.number (operands_of r.nets.now))
      (λ r at. at.shown v x.held (packets (commit_of l) x (commits_within l sized) e)) l.records parts.cells

  pub shown : signals.present ≡ true → ShowsRecords v (program_of l) held l.records
  shown = cells_shown (place_at s.places (commit_of l)) refl

  -- the site that commits, as the part says it
  abbrev pub site : Option ℕ
  site = committing signals (first_open s.done (writes (program_of l) l.decls held) (sites_of l.records))

  pub site_here : site ≡ site_in l i s
  site_here = site_is l.build s l.decls (sites_of l.records) maps.decls parts.sites law (host_writes (host_ready l.build s) (is_idle s) s.tables (Some (access_in i)))

  shows : ShowsSite_in signals site l.records parts.chosen parts.one l.stays v
  shows = parts.action.shows signals s.done s.taken held (ss (part.action l.sizes)) v maps.action sees_action shown

  chosen_here : ShowsChosen v (site_in l i s) l.records parts.chosen
  chosen_here = subst (λ o. ShowsChosen v o l.records parts.chosen) site_here shows.each

  record_here : IsRecord l.records (site_in l i s)
  record_here = subst (IsRecord l.records) site_here (committing_record (may_commit signals) _ l.records)

  on_maps : (m : ℕ) (n : Name Part) → m < length l.decls → v.net (get_or parts.commits m n) ≡ bit_word (commits_on (program_of l) (site_in l i s) m)
  on_maps m n lt =
      let many = parts.says.many in
      parts.says.shows v (program_of l) (site_in l i s) l.records fit.chosen (sees.wires (part.commits l.sizes) (has_commits l d sized listed)) parts.are_maps record_here chosen_here m n (omega (arith, lt, many))

  pub action_shown : ShowsAction l d parts i s v
  action_shown = record {
    stays = shows.stays ∙ ap (λ o. bit_word (is_some o || is_host action)) site_here ∙ ap bit_word (stays_is action);
    one = shows.commits ∙ ap (λ (o : Option ℕ). bit_word (is_some o)) site_here;
    chosen = chosen_here;
    commits = on_maps;
  }

pub action_is_shown : RecordsAlone → ActionIsShown
action_is_shown law = λ l d sized parts listed i s ss v maps sees fit returns host packets. action_shown l d sized parts listed i s ss v maps sees fit returns host packets law
