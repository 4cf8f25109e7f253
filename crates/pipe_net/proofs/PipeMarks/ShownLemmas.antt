-- What the parts of marks show of the packets in their places.
use Rattle.std.specs.Prelude.{◌==◌, Option, Some, None, map as map_list}
use Rattle.std.specs.List.{list_any}
use Rattle.std.proofs.Common.{◌≡◌, ◌≢◌, inl, inr, ◌∙◌, ℕ, zero, suc, ◌+◌, ◌<◌, ◌≤◌, Bool, true, false, ◌∷◌, length, get_or, refl, sym, ap, subst, arith}
use Rattle.std.proofs.lemmas.Bool.{eqb-true, eqb-false}
use Rattle.std.proofs.lemmas.List.{length-map}
use Rattle.block_core.specs.net_core.declared.tree.Word.{Word}
use Rattle.block_core.specs.net_core.declared.ports.Inputs.{Inputs}
use Rattle.block_core.specs.net_core.Ports.{words_of}
use Rattle.block_core.specs.net_core.Value.{bit as bit_word, nothing, Env}
use Rattle.block_core.specs.net_core.Clock.{Stored}
use Rattle.block_core.specs.declared.name.Name.{Name}
use Rattle.block_core.specs.Blocks.{Whole, Among}
use Rattle.block_core.specs.Parts.{Sees}
use Rattle.hazard_core.specs.cell_core.Cells.{bit}
use Rattle.hazard_core.specs.cell_core.Rows.{numbers}
use Rattle.turn_net.specs.cell_nets.declared.operand.Operand.{Operand}
use Rattle.turn_net.specs.cell_nets.Operands.{number_in}
use Rattle.read_net.specs.overlay_net.SiteOperands.Sites.{SiteOperands}
use Rattle.hazard_core.specs.StageValues.{StageValues}
use Rattle.pipe_core.specs.Machine.{Packet, State, place_at, marked_at}
use Rattle.read_net.specs.TouchNet.Marking.{shown_reload, ShowsGuard, ShowMarks}
use Rattle.read_net.specs.MarkNet.Standing.{ReloadOfReads}
use Rattle.read_net.specs.MarkNet.Reload.{some_reload}
use Rattle.pipe_net.specs.declared.parts.Part.{Part}
use Rattle.pipe_net.specs.Parts as part
use Rattle.pipe_net.specs.Layout.{Layout, IsSized, program_of, last_of, commit_of}
use Rattle.pipe_net.specs.Relation.{IsStored, read_sites, HoldMarks}
use Rattle.pipe_net.specs.Saying.{ShowReloads}
use Rattle.pipe_net.specs.Standing.{IsAtPlace, ShowsHeld, ShowPackets}
use Rattle.pipe_net.specs.PipeMarks.Parts.{mark_register, AreMarkParts}
use Rattle.pipe_net.specs.PipeMarks.Following.{MarksAreFit, ReloadsAreShown}
use Rattle.pipe_net.proofs.PipeMarks.ReadLemmas.{bit_value, same_bit}

-- ---- which parts there are
among_numbers : (from n m : ℕ) → from ≤ m → m < from + n → Among (part.part m) (map_list part.part (numbers from n))
among_numbers from zero m low high = absurd (omega (arith, low, high))
among_numbers from (suc n) m low high = by (m == from) refl (λ ne. among_numbers (suc from) n m (omega (arith, low, ne)) (omega (arith, high)))
  where
    by : (c : Bool) → (m == from) ≡ c → (m ≢ from → Among (part.part m) (map_list part.part (numbers (suc from) n))) → Among (part.part m) (part.part from ∷ map_list part.part (numbers (suc from) n))
    by true e rest = inl (ap part.part (eqb-true m from e))
    by false e rest = inr (rest (eqb-false m from e))

module _ (l : Layout) (d : Whole Part) (sized : IsSized l) (are : d.parts ≡ part.parts_of l.sizes) where
  among : (m : ℕ) → m < part.part_count l.sizes → Among (part.part m) d.parts
  among m lt = subst (λ ps. Among (part.part m) ps) (sym are) (among_numbers 0 (part.part_count l.sizes) m (omega arith) (omega (arith, lt)))

  pub marks_among : (k : ℕ) → k ≤ commit_of l → Among (part.marks l.sizes k) d.parts
  marks_among k w = among (part.marks l.sizes k).number (omega (arith, w, sized.commit))

  pub reload_among : (k : ℕ) → k ≤ commit_of l → Among (part.reload k) d.parts
  reload_among k w = among (part.reload k).number (omega (arith, w, sized.commit))

  pub by_last : (k : ℕ) → k ≤ commit_of l → k ≤ last_of l
  by_last k w = omega (arith, w, sized.commit, sized.last, sized.small.commit)

  module _ (parts : AreMarkParts l d) (ss : Part → Stored) (stored : (p : Part) → Among p d.parts → IsStored (d.block p) (ss p)) where
    -- a register for each site, and no memory
    pub register_count : (k : ℕ) (w : k ≤ commit_of l) → length (ss (part.marks l.sizes k)).registers ≡ length (parts k w).sites
    register_count k w =
        let b = d.block (part.marks l.sizes k) in
        let a = parts k w in
        (stored (part.marks l.sizes k) (marks_among k w)).registers ∙ sym (length-map b.registers _) ∙ ap length a.block.registers ∙ length-map a.sites _

    pub memory_count : (k : ℕ) (w : k ≤ commit_of l) → length (ss (part.marks l.sizes k)).memories ≡ 0
    memory_count k w = (stored (part.marks l.sizes k) (marks_among k w)).memories ∙ ap length (parts k w).block.memories

    module _ (i : Inputs) (v : Env (Name Part)) (sees : Sees d (words_of i) ss v) where
      -- the register of a mark
      pub mark_value : (k : ℕ) (w : k ≤ commit_of l) (n : ℕ) → n < length (read_sites l k) → (c : Bool) → get_or (ss (part.marks l.sizes k)).registers n nothing ≡ bit_word c → number_in v (mark_register l k n) ≡ bit c
      mark_value k w n lt c e =
          ap (λ (x : Word). x.value) (sees.register (part.marks l.sizes k) n (marks_among k w) (omega (arith, lt, register_count k w, (parts k w).count)) ∙ e) ∙ bit_value c

      -- ---- which packets must reload
      module _ (s : State) (hold : HoldMarks l s ss) (fit : MarksAreFit l d parts v) (shown : ShowPackets l s v) (reload_of_reads : ReloadOfReads) where
        guard_shown : (k j : ℕ) (h : StageValues) → ShowsHeld l v k h → (g : Option (Operand (Name Part))) → ((o : Operand (Name Part)) → g ≡ Some o → (nets : SiteOperands (Name Part)) × IsAtPlace l k j nets × (o ≡ nets.guard)) → ShowsGuard v (program_of l) h j g
        guard_shown k j h held None at = tt
        guard_shown k j h held (Some o) at = let a = at o refl in ap (number_in v) a.2 ∙ (a.1.shown v h held).guard

        marks_shown : (k : ℕ) (w : k ≤ commit_of l) (x : Packet) → place_at s.places k ≡ Some x → ShowMarks v (program_of l) l.build.plan.row k x.held (marked_at x) (read_sites l k) (parts k w).reloads
        marks_shown k w x at = record {
          each = λ n d lt.
              let a = parts k w in
              let j = get_or (read_sites l k) n 0 in
              let nets = a.nets n d (omega (arith, lt, a.known.count)) in
              record {
                mark = λ off. ap (number_in v) nets.marked ∙ mark_value k w n lt (marked_at x j) ((hold k x w at).each n lt off);
                guard = guard_shown k j x.held (shown k x (by_last k w) at) (get_or a.reloads n d).guard nets.guard;
              };
        }

        pub reloads_shown : ShowReloads l s v
        reloads_shown k w =
            let a = parts k w in
            let solved = sees.wires (part.reload k) (reload_among k w) in
            let says = a.reload.says v (fit k w).1 solved in
            record {
              says = list_any (shown_reload v) a.reloads;
              net = says;
              is = λ x at.
                  let is = a.reload.shows v (program_of l) l.build.plan.row k x.held (read_sites l k) (marked_at x) (fit k w).1 solved a.known (marks_shown k w x at) in
                  same_bit (list_any (shown_reload v) a.reloads) (some_reload (program_of l) l.build.plan.row k x.held (marked_at x) (read_sites l k)) (sym says ∙ is)
                  ∙ sym (reload_of_reads l.build k x (hold k x w at).others);
            }

pub reloads_are_shown : ReloadOfReads → ReloadsAreShown
reloads_are_shown reload_of_reads l d sized parts are i s ss v hold sees stored fit shown = reloads_shown l d sized are parts ss stored i v sees s hold fit shown reload_of_reads
