-- A shorter design shows what the design shows that it is made of.
use Rattle.std.specs.Prelude.{◌≡◌, ℕ, None, List, [], length}
use Rattle.std.proofs.Common.{refl, sym, ap, ◌∙◌, ◌∷◌}
use Rattle.net_core.specs.declared.tree.Word.{Word}
use Rattle.net_core.specs.declared.tree.Net.{Net}
use Rattle.net_core.specs.Nets.{WireTree, AssignTree, Netlist}
use Rattle.net_core.specs.Value.{Env}
use Rattle.net_core.specs.Clock.{Stored, env, with_wires, edge, assigned, rights, stopped_at, stopping, shown, after}
use Rattle.net_core.specs.SameClocks.Same.{ShowTheSame, Follows}
use Rattle.net_core.proofs.SameClocks.SameLaws.{followers_show_the_same}
use Rattle.register_rules.specs.EqualRegisters.Equal.{AreEqual, StayEqual}
use Rattle.design_rules.specs.SolvedWires.Solving.{Solves}
use Rattle.net_optimize.specs.Folding.{AreSameWires, AreSameAssigns, SectionTrees, AreSameSections, netlist_sections}
use Rattle.net_optimize.specs.Renumber.{kept, kept_stored}
use Rattle.net_optimize.specs.Short.{IsShort}
use Rattle.net_optimize.specs.Reading.{ReadsWhatIsThere}
use Rattle.net_optimize.proofs.ReadingLemmas.{known_rights}
use Rattle.net_optimize.proofs.ListLemmas.{assigned_same, solves_same, stops_same}
use Rattle.design_rules.proofs.SolvedWires.SolvingLaws.{solved, unique, wires_counted}
use Rattle.net_optimize.proofs.KeptLaws.{length-kept, solves-kept, stopped_at-kept, assigned-kept, edge-kept}

module _ (a b : Netlist) (short : SectionTrees) (firsts : List ℕ) (formed : ReadsWhatIsThere a) (formed_too : ReadsWhatIsThere b) (k : IsShort a short firsts b) (count : length short.wires ≡ length a.wires)
    (same : (v : Env Net) → Solves v 0 a.wires → AreSameSections v (netlist_sections a) short) where
  abbrev shorter : Stored → Stored
  shorter s = kept_stored k.registers_kept s

  module _ (ins : List Word) (s : Stored) (equal : AreEqual a firsts s) where
    abbrev ws : List Word
    ws = with_wires ins s [] a.wires

    len : length ws ≡ length short.wires
    len = wires_counted a ins s a.wires ∙ sym count

    old : Solves (env ins s ws) 0 a.wires
    old = solved a ins s 0 [] a.wires refl (known_rights a formed)

    sections : AreSameSections (env ins s ws) (netlist_sections a) short
    sections = same (env ins s ws) old

    -- the values of the wires that are kept
    are_kept : with_wires ins (shorter s) [] b.wires ≡ kept k.wires_kept ws
    are_kept = unique b ins (shorter s) 0 [] (kept k.wires_kept ws) b.wires refl (known_rights b formed_too)
        (solves-kept a b short firsts k formed_too ins s equal ws len (solves_same (env ins s ws) 0 a.wires short.wires old sections.wires))
        (sym (length-kept a b short firsts k formed_too ins s equal ws len))

    pub shows : (port : ℕ) → shown b ins (kept_stored k.registers_kept s) port ≡ shown a ins s port
    shows port =
        ap (λ xs. assigned (env ins (shorter s) xs) b.assigns port) are_kept ∙ assigned-kept a b short firsts k formed_too ins s equal ws len port
        ∙ assigned_same (env ins s ws) a.assigns short.assigns sections.assigns port

    pub stores : after b ins (kept_stored k.registers_kept s) ≡ kept_stored k.registers_kept (after a ins s)
    stores = ap (λ xs. edge (env ins (shorter s) xs) b.always (shorter s)) are_kept ∙ edge-kept a b short firsts k formed_too ins s equal ws len ∙ ap shorter (sections.always s)

    pub goes : stopping a ins s ≡ None → stopping b ins (kept_stored k.registers_kept s) ≡ None
    goes h = ap (λ xs. stopped_at (env ins (shorter s) xs) 0 (rights b.wires)) are_kept
        ∙ stopped_at-kept a b short firsts k formed_too ins s equal ws len (stops_same (env ins s ws) 0 a.wires short.wires sections.wires ∙ h)

  -- the second design stores what is kept
  record IsStored (s t : Stored) : Type 0 where
    is : t ≡ shorter s
    equal : AreEqual a firsts s

  follows : StayEqual a firsts → Follows a b IsStored
  follows stay = record {
    begins = record { is = rw (k.words, k.memories) refl; equal = stay.begins };
    shows = λ ins s t r port. ap (λ x. shown b ins x port) r.is ∙ shows ins s r.equal port;
    stores = λ ins s t r. record { is = ap (after b ins) r.is ∙ stores ins s r.equal; equal = stay.stays ins s r.equal };
    goes = λ ins s t r h. ap (stopping b ins) r.is ∙ goes ins s r.equal h;
  }

  pub show_the_same : StayEqual a firsts → ShowTheSame a b
  show_the_same stay = followers_show_the_same a b IsStored (follows stay)

-- ---- sections that do the same, twice
module _ (v : Env Net) where
  wires_twice : (a b c : List WireTree) → AreSameWires v a b → AreSameWires v b c → AreSameWires v a c
  wires_twice [] [] [] x y = tt
  wires_twice [] [] (w ∷ c) x y = absurd y
  wires_twice [] (w ∷ b) c x y = absurd x
  wires_twice (u ∷ a) [] c x y = absurd x
  wires_twice (u ∷ a) (w ∷ b) [] x y = absurd y
  wires_twice (u ∷ a) (w ∷ b) (z ∷ c) x y = (record { value = y.0.value ∙ x.0.value; stops = y.0.stops ∙ x.0.stops }, wires_twice a b c x.1 y.1)

  assigns_twice : (a b c : List AssignTree) → AreSameAssigns v a b → AreSameAssigns v b c → AreSameAssigns v a c
  assigns_twice [] [] [] x y = tt
  assigns_twice [] [] (w ∷ c) x y = absurd y
  assigns_twice [] (w ∷ b) c x y = absurd x
  assigns_twice (u ∷ a) [] c x y = absurd x
  assigns_twice (u ∷ a) (w ∷ b) [] x y = absurd y
  assigns_twice (u ∷ a) (w ∷ b) (z ∷ c) x y = (y.0 ∙ x.0, y.1 ∙ x.1, assigns_twice a b c x.2 y.2)

  pub sections_twice : (a b c : SectionTrees) → AreSameSections v a b → AreSameSections v b c → AreSameSections v a c
  sections_twice a b c x y = record {
    wires = wires_twice a.wires b.wires c.wires x.wires y.wires;
    assigns = assigns_twice a.assigns b.assigns c.assigns x.assigns y.assigns;
    always = λ s. y.always s ∙ x.always s;
  }
