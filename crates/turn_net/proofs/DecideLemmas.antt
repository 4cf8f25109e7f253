-- All that is decided in a clock, from its steps.
use Rattle.std.specs.Prelude.{not, if◌then◌else◌}
use Rattle.std.proofs.Common.{◌≡◌, ℕ, zero, suc, ◌<◌, Bool, true, false, ◌&&◌, ◌||◌, Option, Some, None, is_some, All, List, [], ◌∷◌, ◌++◌, length, refl, sym, ◌∙◌, ap, arith}
use Rattle.std.proofs.lemmas.Bool.{true≢false}
use Rattle.std.proofs.lemmas.List.Elements.{All-append, All-cons}
use Rattle.net_core.specs.Value.{Env}
use Rattle.block_core.specs.declared.name.Name.{Name}
use Rattle.block_core.specs.declared.name.Name.TheVariants as name
use Rattle.block_core.specs.Blocks.{BlockWireTree}
use Rattle.hazard_core.specs.xdp_maps.declared.decl.MapDecl.{MapDecl}
use Rattle.hazard_core.specs.cell_core.Cells.{bit, on, bits_from}
use Rattle.hazard_core.specs.cell_core.Sites.{ProgramView}
use Rattle.hazard_core.specs.StageValues.{writes}
use Rattle.cell_nets.specs.declared.operand.Operand.{Operand}
use Rattle.cell_nets.specs.declared.operand.Operand.TheVariants.{Net}
use Rattle.cell_nets.specs.Operands.{number_in, IsAvailable}
use Rattle.cell_nets.specs.Wires.{always}
use Rattle.cell_nets.proofs.StepNets.ChainLaws.{starts}
use Rattle.cell_nets.proofs.StepNets.StepLaws.{on_bit, one_bit}
use Rattle.turn_net.specs.declared.nets.RecordNets.{RecordNets}
use Rattle.turn_net.specs.declared.nets.ActionNets.{ActionNets}
use Rattle.turn_net.specs.declared.nets.ActionShape.{ActionShape}
use Rattle.turn_net.specs.declared.choosing.Step.{Step}
use Rattle.turn_net.specs.Actions.{first_open, may_commit, behind_site}
use Rattle.turn_net.specs.Nets.{sites_of, kept, all_read, signals, outside, signals_in, done_operand, slot_operands, own_operands}
use Rattle.turn_net.specs.Steps.{Leads, AreChosen, AreSlots, IsDecided}
use Rattle.turn_net.proofs.StandLemmas.{left_of, right_of, leads_as, then_leads}
use Rattle.turn_net.proofs.ChooseLemmas.{no_held}

-- one commits: one might, and after the last none may
tells : (may : Bool) (s : Option ℕ) → (may ≡ false → s ≡ None) → (may && not (may && not (is_some s))) ≡ is_some s
tells true None none = refl
tells true (Some j) none = refl
tells false s none = sym (ap is_some (none refl))

-- the packets stay where one commits or the host writes
pub either_bit : (b : Bool) (x : ℕ) → x < 2 → bits_from (if b then 1 else x) 0 1 ≡ bit (b || on x)
either_bit true x l = refl
either_bit false x l = one_bit x l

module _
    {P : Type 0} (p : ProgramView) (decls : List MapDecl) (part : P) (shape : ActionShape) (nets : ActionNets P) (rs : List (RecordNets (Name P))) (first last : Step (Name P)) (chosen : List (Operand (Name P))) (commits stays : Name P) (slots : List (Operand (Name P))) where
  abbrev now : Operand (Name P)
  now = done_operand part shape.bits

  abbrev registers : List (Operand (Name P))
  registers = slot_operands part shape.slot_bits 1 (length (kept rs))

  abbrev inputs : List (Operand (Name P))
  inputs = own_operands part shape rs ++ outside nets rs

  abbrev Begun : Env (Name P) → Type 0
  Begun v = (number_in v first.free ≡ bit (may_commit (signals_in nets v))) × (number_in v first.done ≡ (if on (v.net nets.host).value then (v.net (name.Register part 0)).value else 0))

  abbrev Chosen : Env (Name P) → Type 0
  Chosen v = AreChosen p decls v (on (number_in v first.free)) (number_in v now) (number_in v first.done) rs chosen last

  abbrev one : Env (Name P) → Bool
  one v = on (number_in v first.free) && not (on (number_in v last.free))

  abbrev Told : Env (Name P) → Type 0
  Told v = ((v.net commits).value ≡ bit (one v)) × ((v.net stays).value ≡ bit (one v || on (v.net nets.host).value))

  is_decided : (v : Env (Name P)) → Begun v → Chosen v → Told v → AreSlots v part rs chosen slots → IsDecided p decls part nets rs chosen commits stays last.done slots v
  is_decided v b c t s = record {
    site = c.site;
    shown = λ h all. c.shown h (λ e. all (sym may ∙ e)) ∙ ap (λ x. if x then first_open (v.net (name.Register part 0)).value (writes p decls h) (sites_of rs) else None) may;
    each = c.each;
    commits = t.0 ∙ ap bit some;
    stays = t.1 ∙ ap (λ x. bit (x || on (v.net nets.host).value)) some;
    done = c.done ∙ ap (λ n. behind_site n c.site) b.1;
    slots = s c.site c.each;
  }
    where
      may : on (number_in v first.free) ≡ may_commit (signals_in nets v)
      may = ap on b.0 ∙ on_bit (may_commit (signals_in nets v))

      none : on (number_in v first.free) ≡ false → c.site ≡ None
      none e = c.shown no_held (λ f. absurd (true≢false (sym f ∙ e))) ∙ ap (λ x. if x then first_open (number_in v now) (writes p decls no_held) (sites_of rs) else None) e

      some : one v ≡ is_some c.site
      some = ap (λ x. on (number_in v first.free) && not x) (ap on c.free ∙ on_bit (on (number_in v first.free) && not (is_some c.site))) ∙ tells (on (number_in v first.free)) c.site none

  module _ (Q : Operand (Name P) → Type 0) where
    reads_in : All Q inputs → All Q (all_read rs)
    reads_in h k d l = right_of Q (own_operands part shape rs) (outside nets rs) h (suc (suc (suc k))) d (omega arith)

    registers_in : All Q inputs → All Q registers
    registers_in h k d l = left_of Q (own_operands part shape rs) (outside nets rs) h (suc k) d (omega arith)

    starts_in : All Q inputs → All Q (now ∷ signals nets)
    starts_in h zero d l = h 0 d (omega arith)
    starts_in h (suc k) d l = left_of Q (signals nets) (all_read rs) (right_of Q (own_operands part shape rs) (outside nets rs) h) k d (omega arith)

    host_in : All Q inputs → Q (Net nets.host 1)
    host_in h = right_of Q (own_operands part shape rs) (outside nets rs) h 2 (Net nets.host 1) (omega arith)

  abbrev begun : List (Operand (Name P))
  begun = first.free ∷ first.done ∷ inputs

  abbrev args : List (Operand (Name P))
  args = now ∷ first.free ∷ first.done ∷ all_read rs

  abbrev chose : List (Operand (Name P))
  chose = last.free ∷ last.done ∷ chosen ++ args

  args_in : (Q : Operand (Name P) → Type 0) → All Q begun → All Q args
  args_in Q h zero d l = h 2 d (omega arith)
  args_in Q h (suc zero) d l = h 0 d (omega arith)
  args_in Q h (suc (suc zero)) d l = h 1 d (omega arith)
  args_in Q h (suc (suc (suc k))) d l = reads_in Q (λ i e m. h (suc (suc i)) e (omega arith)) k d (omega arith)

  module _ (Q : Operand (Name P) → Type 0) (h : All Q (chose ++ begun)) where
    begun_in : All Q begun
    begun_in = right_of Q chose begun h

    inputs_in : All Q inputs
    inputs_in k d l = begun_in (suc (suc k)) d (omega arith)

    chosen_in : All Q chosen
    chosen_in = left_of Q chosen args (λ k d l. left_of Q chose begun h (suc (suc k)) d (omega arith))

    told_in : All Q (Net nets.host 1 ∷ first.free ∷ last.free ∷ [])
    told_in zero d l = host_in Q inputs_in
    told_in (suc zero) d l = begun_in 0 d (omega arith)
    told_in (suc (suc zero)) d l = h 0 d (omega arith)
    told_in (suc (suc (suc k))) d l = absurd (omega arith)

    slots_in : All Q (chosen ++ (all_read rs ++ registers))
    slots_in = All-append Q chosen (all_read rs ++ registers) chosen_in (All-append Q (all_read rs) registers (reads_in Q inputs_in) (registers_in Q inputs_in))

  pub decides :
      (old begins chooses ends new : List (BlockWireTree (Name P))) → Leads part old begins (now ∷ signals nets) (first.free ∷ first.done ∷ []) Begun → Leads part begins chooses args chose Chosen
      → Leads part chooses ends (Net nets.host 1 ∷ first.free ∷ last.free ∷ []) (Net commits 1 ∷ Net stays 1 ∷ []) Told → Leads part ends new (chosen ++ (all_read rs ++ registers)) slots (λ v. AreSlots v part rs chosen slots)
      → Leads part old new inputs ((Net commits 1 ∷ Net stays 1 ∷ chosen) ++ last.done ∷ slots) (IsDecided p decls part nets rs chosen commits stays last.done slots)
  decides old begins chooses ends new b c t s =
      leads_as
      (then_leads (then_leads (then_leads (then_leads (starts part old inputs always) b (λ ins h. starts_in (IsAvailable ins) h)) c (λ ins h. args_in (IsAvailable ins) h)) t (λ ins h. told_in (IsAvailable ins) h)) s
      (λ ins h. slots_in (IsAvailable ins) (λ k d l. h (suc (suc k)) d (omega arith))))
      ((Net commits 1 ∷ Net stays 1 ∷ chosen) ++ last.done ∷ slots) (IsDecided p decls part nets rs chosen commits stays last.done slots) out (λ v f k. is_decided v k.0.0.0.1 k.0.0.1 k.0.1 k.1)
    where
      out : (ins : List (Operand (Name P))) → All (IsAvailable ins) (slots ++ (Net commits 1 ∷ Net stays 1 ∷ (chose ++ begun))) → All (IsAvailable ins) ((Net commits 1 ∷ Net stays 1 ∷ chosen) ++ last.done ∷ slots)
      out ins h =
          let Q = IsAvailable ins in
          let rest = right_of Q slots (Net commits 1 ∷ Net stays 1 ∷ (chose ++ begun)) h in
          let front : All Q (chose ++ begun) = λ k d l. rest (suc (suc k)) d (omega arith) in
          All-append Q (Net commits 1 ∷ Net stays 1 ∷ chosen) (last.done ∷ slots)
          (All-cons Q (Net commits 1) (Net stays 1 ∷ chosen) (rest 0 (Net commits 1) (omega arith)) (All-cons Q (Net stays 1) chosen (rest 1 (Net stays 1) (omega arith)) (chosen_in Q front)))
          (All-cons Q last.done slots (front 1 last.done (omega arith)) (left_of Q slots (Net commits 1 ∷ Net stays 1 ∷ (chose ++ begun)) h))
