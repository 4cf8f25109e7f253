-- The operation that commits, among those of its map.
use Rattle.std.specs.Prelude.{slice_index, nat_le}
use Rattle.std.proofs.Common.{◌≡◌, ℕ, ◌==◌, ◌<◌, Bool, true, ◌&&◌, List, length, get_or, sym, ◌∙◌, ap, subst, arith}
use Rattle.std.proofs.lemmas.Bool.{and_parts, eq-eqb}
use Rattle.std.proofs.lemmas.List.{get_or-map, length-map}
use Rattle.block_core.specs.net_core.declared.ports.Inputs.{Inputs}
use Rattle.block_core.specs.net_core.Value.{Env}
use Rattle.block_core.specs.net_core.Clock.{Stored}
use Rattle.block_core.specs.declared.name.Name.{Name}
use Rattle.block_core.specs.Blocks.{Whole}
use Rattle.hazard_core.specs.cell_core.Cells.{bit}
use Rattle.hazard_core.specs.cell_core.Rows.{numbers}
use Rattle.hazard_core.specs.cell_core.Sites.{ProgramView, site_at}
use Rattle.turn_net.specs.cell_nets.declared.operand.Operand.TheVariants.{Known}
use Rattle.turn_net.specs.cell_nets.Operands.{number_in}
use Rattle.hazard_core.specs.StageValues.{writes}
use Rattle.read_net.specs.overlay_net.SiteOperands.Sites.{operands_of, ShowsSite}
use Rattle.commit_net.specs.declared.choosing.CommitNets.{CommitNets}
use Rattle.commit_net.specs.Choosing.{IsOnly, ShowsCommit, Commits}
use Rattle.read_net.specs.declared.sites.OwnSite.{OwnSite}
use Rattle.turn_net.specs.Actions.{record_sites, is_at, RecordsAlone}
use Rattle.turn_net.specs.declared.target_net.targets.Target.{Target}
use Rattle.pipe_core.specs.Machine as machine
use Rattle.pipe_core.specs.Machine.{Packet, State, site_numbers}
use Rattle.pipe_net.specs.declared.parts.Part.{Part}
use Rattle.pipe_net.specs.Machine.{input_of}
use Rattle.pipe_net.specs.Layout.{Layout, program_of, commit_of}
use Rattle.pipe_net.specs.Saying.{action_in}
use Rattle.pipe_net.specs.Standing.{ShowsHeld}
use Rattle.pipe_net.specs.PipeTurns.Maps.{records_on}
use Rattle.pipe_net.specs.PipeTurns.Parts.{AreActionParts}
use Rattle.pipe_net.specs.PipeTurns.Acting.{site_of, ShowsWritten}
use Rattle.pipe_net.specs.PipeMaps.Parts.{IsOperation, ArePartsOfMap}
use Rattle.pipe_net.specs.PipeMaps.Premises.{HasMaps, IsMapClock}
use Rattle.pipe_net.proofs.PipeMaps.ListLemmas.{element, element_is, StandsAt, found_at, kept_at, RiseFrom, numbers_rise, filter_rises, same_place, at_number}
use Rattle.pipe_net.proofs.PipeMaps.ActionLemmas.{IsCommitted, committed_action}

-- record sites on a map rise
records_rise : (p : ProgramView) (m : ℕ) → RiseFrom 0 (records_on p m)
records_rise p m = filter_rises _ 0 (record_sites p) (filter_rises _ 0 (numbers 0 (length p.sites)) (numbers_rise 0 (length p.sites)))

module _ (alone : RecordsAlone) (l : Layout) (d : Whole Part) (action : AreActionParts l d) (is : HasMaps l d action) (i : Inputs) (s : State) (ss : Part → Stored) (v : Env (Name Part)) (k : IsMapClock l d action is.parts i s ss v) (j : ℕ) (x : Packet)
    (e : action_in l.build (input_of i) s ≡ machine.Commits j x) where
  abbrev p : ProgramView
  p = program_of l

  abbrev test : ℕ → Bool
  test n = nat_le s.done n && writes p s.tables.decls x.held n

  committing : IsCommitted l.build s j x
  committing = committed_action l.build (input_of i) s j x e

  chosen : (test j ≡ true) × StandsAt (site_numbers p) j
  chosen = found_at test (site_numbers p) j committing.chosen_is

  pub is_site : j < length p.sites
  is_site = at_number (length p.sites) j chosen.1

  pub is_writing : writes p s.tables.decls x.held j ≡ true
  is_writing = (and_parts (nat_le s.done j) (writes p s.tables.decls x.held j) chosen.0).1

  a_record : (test j ≡ true) × StandsAt (record_sites p) j
  a_record = found_at test (record_sites p) j (sym (alone l.build s.tables s.done x) ∙ committing.chosen_is)

  held : ShowsHeld l v (commit_of l) x.held
  held = k.packets (commit_of l) x is.within committing.here

  -- ---- on a map
  module _ (m : ℕ) (there : m < length l.decls) (on : (site_at p.sites j).map ≡ m) where
    abbrev parts : ArePartsOfMap l d action m
    parts = is.parts.maps m there

    abbrev sites : List ℕ
    sites = records_on p m

    at : StandsAt sites j
    at = kept_at (λ n. (site_at p.sites n).map == m) (record_sites p) j a_record.1.place a_record.1.within a_record.1.is (eq-eqb (site_at p.sites j).map m on)

    within : at.place < length parts.operations
    within = let count = parts.count in omega (arith, at.within, count)

    abbrev operation : CommitNets (Name Part)
    operation = element parts.operations at.place within

    is_operation : IsOperation l d action m at.place operation
    is_operation = subst (IsOperation l d action m at.place) (element_is parts.operations at.place within operation) (parts.each at.place operation within)

    only : IsOnly v parts.operations at.place
    only n c lt =
        let o = parts.each n c lt in
        let r = element l.records o.place o.there in
        let count = parts.count in
        let shown = k.actions.chosen o.place (Known 0) r o.there in
        ap (number_in v) (o.chosen (Known 0)) ∙ shown ∙ ap (λ t. bit (is_at (site_of t) (get_or l.records o.place r).number)) e ∙ ap (λ a. bit (j == a)) (o.site r) ∙ ap (λ a. bit (a == slice_index sites n)) (sym at.is)
        ∙ ap bit (same_place 0 sites (records_rise p m) n at.place (omega (arith, lt, count)) at.within)

    own_count : length (action.own m) ≡ length sites
    own_count = sym (length-map (action.own m) (λ (o : OwnSite (Name Part)). o.site)) ∙ ap length (action.writes m there).sites

    in_own : at.place < length (action.own m)
    in_own = let c = own_count in let w = at.within in omega (arith, c, w)

    abbrev own_site : OwnSite (Name Part)
    own_site = element (action.own m) at.place in_own

    own_is : (get_or (action.own m) at.place own_site).site ≡ j
    own_is = sym (get_or-map (λ (o : OwnSite (Name Part)). o.site) (action.own m) at.place own_site 0 in_own) ∙ ap (λ ns. slice_index ns at.place) (action.writes m there).sites ∙ at.is

    abbrev target : Target (Name Part)
    target = record { slot = Known 0; makes = Known 0 }

    written : ShowsWritten l s v j x (get_or (action.targets m) at.place target)
    written = k.targets j x m at.place own_site target e there in_own own_is

    site : ShowsSite v p x.held j (operands_of operation.nets.now)
    site = subst (λ n. ShowsSite v p x.held n (operands_of operation.nets.now)) at.is (is_operation.nets.shown v x.held held)

    shows : ShowsCommit v p s.tables s.taken x.held j operation
    shows = record { asked = site.asked; target = ap (number_in v) (is_operation.target target) ∙ written.slot; makes = ap (number_in v) (is_operation.makes target) ∙ written.makes }

    pub commits : Commits v p s.tables s.taken x.held j parts.operations
    commits = record {
      chosen = record { place = at.place; nets = operation; within = within; is = element_is parts.operations at.place within operation; only = only; act = sym (is_operation.act ∙ ap (λ n. (site_at p.sites n).act) at.is) };
      shows = shows;
    }
