-- What the register of a site takes.
use Rattle.std.specs.Prelude.{◌==◌, if◌then◌else◌, Option, Some, None}
use Rattle.std.proofs.Common.{◌≡◌, ◌∙◌, ℕ, suc, Bool, true, false, ◌&&◌, ◌||◌, List, [], ◌∷◌, refl, sym, ap, arith}
use Rattle.std.proofs.lemmas.Bool.{eqb-true}
use Rattle.block_core.specs.net_core.Value.{Env}
use Rattle.block_core.specs.declared.name.Name.{Name}
use Rattle.block_core.specs.Blocks.{BlockWireTree}
use Rattle.block_core.proofs.list_laws_laws.AllLaws.{all_one}
use Rattle.overlay_net.specs.xdp_maps.declared.decl.MapDecl.{MapDecl}
use Rattle.overlay_net.specs.cell_core.Cells.{bit, on, bits_from}
use Rattle.overlay_net.specs.cell_core.Sites.{ProgramView, SiteView, site_at}
use Rattle.overlay_net.specs.hazard_core.StageValues.{StageValues, access_pointer}
use Rattle.overlay_net.specs.hazard_core.declared.change.Change.{Change}
use Rattle.overlay_net.specs.hazard_core.Marks.{touches, touched_as}
use Rattle.overlay_net.specs.cell_nets.declared.operand.Operand.{Operand}
use Rattle.overlay_net.specs.cell_nets.declared.operand.Operand.TheVariants.{Net}
use Rattle.overlay_net.specs.cell_nets.Operands.{number_in, IsAvailable}
use Rattle.overlay_net.specs.cell_nets.Wires.{behind, always, Gives}
use Rattle.overlay_net.specs.SiteOperands.Sites.{operands_of, ShowsSite}
use Rattle.overlay_net.specs.cell_nets.StepNets.Standing.{Stands}
use Rattle.overlay_net.proofs.cell_nets_laws.StepNets.ChainLaws.{starts, next, last}
use Rattle.overlay_net.proofs.cell_nets_laws.StepNets.StepLaws.{all_each, on_bit}
use Rattle.overlay_net.proofs.cell_core_laws.BitLaws.{bit_bits}
use Rattle.read_net.specs.TouchNet.Touching.{reads_entry, ShowsChange, ShowsOwn, IsMade}
use Rattle.read_net.specs.declared.mark_net.nets.MarkSite.{MarkSite}
use Rattle.read_net.specs.MarkNet.Sites.{read_operands, site_operands, is_touched, ShowsMarkSite}
use Rattle.read_net.specs.MarkNet.Marks.{TakesMark}
use Rattle.read_net.proofs.MarkNet.StandLemmas.{unknown}

chosen_bit : (c x y : Bool) (n m : ℕ) → n ≡ bit x → m ≡ bit y → bits_from (if c then n else m) 0 1 ≡ bit (if c then x else y)
chosen_bit true x y n m e f = ap (λ k. bits_from k 0 1) e ∙ bit_bits x
chosen_bit false x y n m e f = ap (λ k. bits_from k 0 1) f ∙ bit_bits y

module _
    {P : Type 0} (part : P) (advance : Name P) (p : ProgramView) (decls : List MapDecl) (m : MarkSite (Name P)) (old w1 w2 w3 w4 new : List (BlockWireTree (Name P))) (touched hit stays before out : Operand (Name P))
    (hits : Gives part w1 w2 (m.comes ∷ touched ∷ []) always (λ v. bit (on (number_in v m.comes) && on (number_in v touched))) 1 hit) (stand : Gives part w2 w3 (m.was ∷ hit ∷ []) always (λ v. bit (on (number_in v m.was) || on (number_in v hit))) 1 stays)
    (come : Gives part w3 w4 (m.before ∷ []) always (λ v. bit (on (number_in v m.before))) 1 before)
    (choice : Gives part w4 new (Net advance 1 ∷ before ∷ stays ∷ []) always (λ v. bits_from (if on (v.net advance).value then number_in v before else number_in v stays) 0 1) 1 out) where
  abbrev args : List (Operand (Name P))
  args = Net advance 1 ∷ site_operands m

  abbrev s : SiteView
  s = site_at p.sites m.site

  -- the mark that comes, or that stands, by a number for whether the read is touched
  abbrev taken : Env (Name P) → ℕ → ℕ
  taken v n = bit (if on (v.net advance).value then on (number_in v m.before) else (on (number_in v m.was) || (on (number_in v m.comes) && on n)))

  module _ (needs : Env (Name P) → Type 0) (t : Env (Name P) → ℕ) (x : Gives part old w1 (read_operands m) needs t 1 touched) where
    first : Stands part old w1 args needs (touched ∷ args) (λ v. needs v × (number_in v touched ≡ t v))
    first = next (starts part old args needs) x (λ ins h k d lt. h (suc (suc (suc (suc k)))) d (omega (arith, lt))) (λ v f k. k)

    second : Stands part old w2 args needs (hit ∷ touched ∷ args) (λ v. (needs v × (number_in v touched ≡ t v)) × (number_in v hit ≡ bit (on (number_in v m.comes) && on (number_in v touched))))
    second = next first hits (λ ins h. all_each (IsAvailable ins) (m.comes ∷ touched ∷ []) (h 4 m.comes (omega arith), (h 0 touched (omega arith), tt))) (λ v f k. tt)

    third : Stands part old w3 args needs (stays ∷ hit ∷ touched ∷ args) (λ v. ((needs v × (number_in v touched ≡ t v)) × (number_in v hit ≡ bit (on (number_in v m.comes) && on (number_in v touched)))) × (number_in v stays ≡ bit (on (number_in v m.was) || on (number_in v hit))))
    third = next second stand (λ ins h. all_each (IsAvailable ins) (m.was ∷ hit ∷ []) (h 3 m.was (omega arith), (h 0 hit (omega arith), tt))) (λ v f k. tt)

    chain : Gives part old new args needs (λ v. taken v (t v)) 1 out
    chain =
        last (next third come (λ ins h. all_each (IsAvailable ins) (m.before ∷ []) (h 5 m.before (omega arith), tt)) (λ v f k. tt)) choice
        (λ ins h. all_each (IsAvailable ins) (Net advance 1 ∷ before ∷ stays ∷ []) (h 4 (Net advance 1) (omega arith), (h 0 before (omega arith), (h 1 stays (omega arith), tt)))) (λ v f k. tt) (λ v. taken v (t v))
        (λ v f k.
        chosen_bit (on (v.net advance).value) (on (number_in v m.before)) (on (number_in v m.was) || (on (number_in v m.comes) && on (t v))) (number_in v before) (number_in v stays) k.1
        (k.0.1 ∙ ap (λ b. bit (on (number_in v m.was) || b)) (ap on k.0.0.1 ∙ on_bit (on (number_in v m.comes) && on (number_in v touched)) ∙ ap (λ n. on (number_in v m.comes) && on n) k.0.0.0.1)))

  abbrev Touching : StageValues → Change → Env (Name P) → Type 0
  Touching h e v = ShowsSite v p h m.site (operands_of m.nets.now) × ShowsChange v m.decl.now.key e m.change × ShowsOwn v p h m.owns.now × (reads_entry m.act ≡ true → IsMade p decls m.decl.now.key (access_pointer h s) m.owns.now)

  module _ (x : (h : StageValues) (e : Change) → s.map ≡ e.map → Gives part old w1 (read_operands m) (Touching h e) (λ v. bit (touches p decls h m.site e)) 1 touched) where
    -- any packet, and any change of the map
    abbrev no_held : StageValues
    no_held = record { values = []; pointers = [] }

    abbrev no_change : Change
    no_change = record { map = s.map; slot = 0; key = []; presence = false }

    base : Gives part old new args always (λ v. taken v (number_in v touched)) 1 out
    base = chain always (λ v. number_in v touched) (unknown (x no_held no_change refl))

    -- what stands where packets stay
    abbrev stays_as : Env (Name P) → Bool → ℕ
    stays_as v hit = bit (on (number_in v m.was) || hit)

    module _ (v : Env (Name P)) (off : (v.net advance).value ≡ 0) where
      left : (n : ℕ) (c t : Bool) → number_in v m.comes ≡ bit c → on n ≡ t → taken v n ≡ stays_as v (c && t)
      left n c t e f =
          ap (λ k. bit (if on k then on (number_in v m.before) else (on (number_in v m.was) || (on (number_in v m.comes) && on n)))) off
          ∙ ap (λ k. stays_as v (on k && on n)) e
          ∙ ap (λ b. stays_as v (b && on n)) (on_bit c)
          ∙ ap (λ b. stays_as v (c && b)) f

    module _ (v : Env (Name P)) (h : StageValues) (off : (v.net advance).value ≡ 0) (any : number_in v out ≡ taken v (number_in v touched)) (real : (c : Change) → s.map ≡ c.map → Touching h c v → number_in v out ≡ taken v (bit (touches p decls h m.site c))) where
      standing : (e : Option Change) → ShowsMarkSite v p decls h e m → number_in v out ≡ stays_as v (is_touched p decls h m.site e)
      standing None shows = any ∙ left v off (number_in v touched) false (on (number_in v touched)) shows.comes refl
      standing (Some c) shows = by (s.map == c.map) refl
        where
          by : (q : Bool) → (s.map == c.map) ≡ q → number_in v out ≡ stays_as v (touches p decls h m.site c)
          by true e =
              let same : s.map ≡ c.map = eqb-true s.map c.map e in
              let t = touches p decls h m.site c in
              real c same (shows.cells, shows.change c refl same, shows.owns, shows.made) ∙ left v off (bit t) true t (shows.comes ∙ ap bit e) (on_bit t)
          by false e =
              any ∙ left v off (number_in v touched) false (on (number_in v touched)) (shows.comes ∙ ap bit e) refl
              ∙ ap (λ (b : Bool). stays_as v (b && touched_as s.act p decls h m.site c)) (sym e)

    pub next_stands : Stands part old new args always (out ∷ []) (λ v. TakesMark v p decls advance m out)
    next_stands = record {
      before = base.before;
      stays = base.stays;
      wires = λ outside a h. (base.given outside a h).wires;
      there = λ outside a h. all_one (IsAvailable (behind part outside new)) out (base.given outside a h).there;
      known = λ outside v a h f solved none.
          let any = (base.given outside a h).value v f solved tt in
          record {
            moves = λ e. any ∙ ap (λ k. bit (if on k then on (number_in v m.before) else (on (number_in v m.was) || (on (number_in v m.comes) && on (number_in v touched))))) e;
            stays = λ held e off shows.
                standing v held off any (λ c same needs. ((chain (Touching held c) (λ u. bit (touches p decls held m.site c)) (x held c same)).given outside a h).value v f solved needs) e shows;
          };
      apart = base.apart;
    }
