-- The site that commits, one operation after another.
use Rattle.std.specs.Prelude.{nat_le, not, if◌then◌else◌, cond}
use Rattle.std.specs.List.{find}
use Rattle.std.specs.Option.{option_or}
use Rattle.std.proofs.Common.{◌≡◌, ◌⊎◌, inl, inr, ℕ, zero, suc, ◌+◌, ◌<◌, ◌≤◌, Bool, true, false, ◌&&◌, Option, Some, None, is_some, All, List, [], ◌∷◌, ◌++◌, length, length-append, take, get_or, refl, sym, ◌∙◌, ap, subst, arith}
use Rattle.std.proofs.lemmas.Bool.{cases_lt, ne_eqb, eq-eqb}
use Rattle.std.proofs.lemmas.List.{get_or_append_left, get_or_push, map_push, take_more, length-take-le, get_or-take, get_or_default}
use Rattle.std.proofs.lemmas.List.Folds.{find-append}
use Rattle.std.proofs.lemmas.List.Elements.{All-append, All-push}
use Rattle.net_core.specs.Value.{Env}
use Rattle.block_core.specs.declared.name.Name.{Name}
use Rattle.block_core.specs.Blocks.{BlockWireTree}
use Rattle.hazard_core.specs.xdp_maps.declared.decl.MapDecl.{MapDecl}
use Rattle.hazard_core.specs.cell_core.Cells.{bit, on}
use Rattle.hazard_core.specs.cell_core.Sites.{ProgramView}
use Rattle.hazard_core.specs.StageValues.{StageValues, writes}
use Rattle.cell_nets.specs.declared.operand.Operand.{Operand}
use Rattle.cell_nets.specs.Operands.{number_in, IsAvailable}
use Rattle.cell_nets.specs.Wires.{HasBits, always, Gives}
use Rattle.cell_nets.proofs.ChoiceLaws.{one_bit}
use Rattle.overlay_net.specs.SiteOperands.Sites.{operands_of, ShowsSite}
use Rattle.cell_nets.proofs.StepNets.ChainLaws.{starts}
use Rattle.cell_nets.proofs.StepNets.StepLaws.{on_bit, narrow_small, narrow_bits}
use Rattle.turn_net.specs.declared.nets.RecordNets.{RecordNets}
use Rattle.turn_net.specs.declared.choosing.Step.{Step}
use Rattle.turn_net.specs.Actions.{first_open, is_at, behind_site}
use Rattle.turn_net.specs.Nets.{number_of, sites_of, site_read, read_of, all_read, AreRecords}
use Rattle.turn_net.specs.Steps.{Leads, IsStep, IsBelow, AreChosen}
use Rattle.turn_net.proofs.StandLemmas.{left_of, right_of, given_leads, leads_as, then_leads}

-- ---- one site more: it commits where one may, none of the earlier ones does, and it is opened
abbrev more_site : Bool → Option ℕ → Bool → ℕ → Option ℕ
more_site may s o j = if (may && not (is_some s)) && o then Some j else s

first_more : (may : Bool) (s : Option ℕ) (o : Bool) (q : ℕ → Bool) (js : List ℕ) (j : ℕ) → s ≡ (if may then find q js else None) → (may ≡ true → o ≡ q j) → more_site may s o j ≡ (if may then find q (js ++ j ∷ []) else None)
first_more false s o q js j e t = e
first_more true s o q js j e t = ap (λ x. more_site true s x j) (t refl) ∙ ap (λ x. more_site true x (q j) j) e ∙ found (find q js) (q j) ∙ sym (find-append q js (j ∷ []))
  where
    found : (x : Option ℕ) (b : Bool) → more_site true x b j ≡ option_or x (cond b (Some j) None)
    found None true = refl
    found None false = refl
    found (Some i) b = refl

below_more : (b : Bool) (s : Option ℕ) (j n : ℕ) → IsBelow n s → j < n → IsBelow n (if b then Some j else s)
below_more true s j n h l = l
below_more false s j n h l = h

at_same : (may : Bool) (s : Option ℕ) (o : Bool) (j i : ℕ) → i < j → is_at (more_site may s o j) i ≡ is_at s i
at_same true None true j i l = ne_eqb j i (λ (e : j ≡ i). omega arith)
at_same true None false j i l = refl
at_same true (Some z) o j i l = refl
at_same false s o j i l = refl

at_new : (may : Bool) (s : Option ℕ) (o : Bool) (j : ℕ) → IsBelow j s → is_at (more_site may s o j) j ≡ ((may && not (is_some s)) && o)
at_new true None true j h = eq-eqb j j refl
at_new true None false j h = refl
at_new true (Some z) o j h = ne_eqb z j (λ (e : z ≡ j). omega (arith, h))
at_new false None o j h = refl
at_new false (Some z) o j h = ne_eqb z j (λ (e : z ≡ j). omega (arith, h))

free_more : (may : Bool) (s : Option ℕ) (o : Bool) (j : ℕ) → ((may && not (is_some s)) && not o) ≡ (may && not (is_some (more_site may s o j)))
free_more true None true j = refl
free_more true None false j = refl
free_more true (Some z) o j = refl
free_more false s o j = refl

done_more : (b : Bool) (s : Option ℕ) (j rest : ℕ) → (if b then suc j else behind_site rest s) ≡ behind_site rest (if b then Some j else s)
done_more true s j rest = refl
done_more false s j rest = refl

may_first : (may : Bool) → may ≡ (may && not false)
may_first true = refl
may_first false = refl

none_yet : (q : ℕ → Bool) (may : Bool) → None ≡ (if may then find q [] else None)
none_yet q true = refl
none_yet q false = refl

module _ {N : Type 0} (p : ProgramView) (decls : List MapDecl) (v : Env N) (may : Bool) (done rest : ℕ) where
  pub none_chosen : (start : Step N) → number_in v start.free ≡ bit may → number_in v start.done ≡ rest → AreChosen p decls v may done rest [] [] start
  none_chosen start f d = record {
    site = None;
    shown = λ h s. none_yet (λ j. nat_le done j && writes p decls h j) may;
    within = λ n a. tt;
    each = λ k e r l. absurd (omega arith);
    free = f ∙ ap bit (may_first may);
    done = d;
  }

  pub one_chosen :
      (rs : List (RecordNets N)) (r : RecordNets N) (chosen : List (Operand N)) (last next : Step N) (opened : Operand N) → length chosen ≡ length rs → All (λ x. x.number < r.number) rs
      → ((h : StageValues) → ShowsSite v p h r.number (operands_of r.nets.now) → number_in v opened ≡ bit (nat_le done r.number && writes p decls h r.number)) → IsStep v r.number opened last next → AreChosen p decls v may done rest rs chosen last
      → AreChosen p decls v may done rest (rs ++ r ∷ []) (chosen ++ next.chosen ∷ []) next
  one_chosen rs r chosen last next opened count before opens step a = record {
    site = more_site may s o j;
    shown = λ h all.
        first_more may s o (λ i. nat_le done i && writes p decls h i) (sites_of rs) j (a.shown h (λ m. left_of (Shows h) rs (r ∷ []) (all m))) (λ m. ap on (opens h (right_of (Shows h) rs (r ∷ []) (all m) 0 r (omega arith))) ∙ on_bit _)
        ∙ ap (λ js. if may then first_open done (writes p decls h) js else None) (sym (map_push number_of rs r));
    within = λ n all. below_more ((may && not (is_some s)) && o) s j n (a.within n (left_of (λ x. x.number < n) rs (r ∷ []) all)) (right_of (λ x. x.number < n) rs (r ∷ []) all 0 r (omega arith));
    each = λ k d x l. by_order k d x l (cases_lt k (length rs));
    free = step.free ∙ ap (λ b. bit (b && not o)) free ∙ ap bit (free_more may s o j);
    done = step.done ∙ ap (λ b. if b && o then suc j else number_in v last.done) free ∙ ap (λ n. if (may && not (is_some s)) && o then suc j else n) a.done ∙ done_more ((may && not (is_some s)) && o) s j rest;
  }
    where
      s : Option ℕ
      s = a.site

      j : ℕ
      j = r.number

      o : Bool
      o = on (number_in v opened)

      Shows : StageValues → RecordNets N → Type 0
      Shows h x = ShowsSite v p h x.number (operands_of x.nets.now)

      free : on (number_in v last.free) ≡ (may && not (is_some s))
      free = ap on a.free ∙ on_bit _

      by_order : (k : ℕ) (d : Operand N) (x : RecordNets N) → k < length (rs ++ r ∷ []) → (k < length rs) ⊎ (length rs ≤ k) → number_in v (get_or (chosen ++ next.chosen ∷ []) k d) ≡ bit (is_at (more_site may s o j) (get_or (rs ++ r ∷ []) k x).number)
      by_order k d x l (inl less) =
          ap (number_in v) (get_or_append_left chosen (next.chosen ∷ []) d k (omega arith))
          ∙ a.each k d x less
          ∙ ap bit (sym (at_same may s o j (get_or rs k x).number (before k x less)))
          ∙ ap (λ (y : RecordNets N). bit (is_at (more_site may s o j) y.number)) (sym (get_or_append_left rs (r ∷ []) x k less))
      by_order k d x l (inr over) =
          let e : length rs ≡ k = omega (arith, length-append rs (r ∷ [])) in
          ap (number_in v) (get_or_push chosen next.chosen d k (count ∙ e))
          ∙ step.chosen
          ∙ ap (λ b. bit (b && o)) free
          ∙ ap bit (sym (at_new may s o j (a.within j before)))
          ∙ ap (λ (y : RecordNets N). bit (is_at (more_site may s o j) y.number)) (sym (get_or_push rs r x k e))

-- ---- among the nets of all records those of one
pub read_at : {N : Type 0} (Q : Operand N → Type 0) (rs : List (RecordNets N)) (k : ℕ) (r : RecordNets N) → k < length rs → r ≡ get_or rs k r → All Q (all_read rs) → All Q (read_of r)
read_at Q [] k r l is h = absurd (omega arith)
read_at Q (x ∷ rs) zero r l is h = subst (λ y. All Q (read_of y)) (sym is) (left_of Q (read_of x) (all_read rs) h)
read_at Q (x ∷ rs) (suc k) r l is h = read_at Q rs k r (omega arith) is (right_of Q (read_of x) (all_read rs) h)

pub tail_read : {N : Type 0} (Q : Operand N → Type 0) (r : RecordNets N) → All Q (read_of r) → All Q (site_read r)
tail_read Q r h k d l = h (suc k) d (omega arith)

-- the sites before one have lower numbers
pub lower : {N : Type 0} (p : ProgramView) (decls : List MapDecl) (rs : List (RecordNets N)) (n : ℕ) (r : RecordNets N) → n < length rs → r ≡ get_or rs n r → AreRecords p decls rs → All (λ x. x.number < r.number) (take n rs)
lower p decls rs n r l is are k d m =
    let t = length-take-le n rs (omega arith) in
    let here : (get_or rs n d).number ≡ r.number = ap (λ (x : RecordNets _). x.number) (get_or_default rs n d r l ∙ sym is) in
    let there : (get_or (take n rs) k d).number ≡ (get_or rs k d).number = ap (λ (x : RecordNets _). x.number) (get_or-take n rs k d (omega arith)) in
    omega (arith, are.rising k n d (omega arith) l, here, there)

pub no_held : StageValues
no_held = record { values = []; pointers = [] }

module _
    {P : Type 0} (part : P) (p : ProgramView) (decls : List MapDecl) (rs : List (RecordNets (Name P))) (done : Operand (Name P)) (start : Step (Name P)) where
  abbrev args : List (Operand (Name P))
  args = done ∷ start.free ∷ start.done ∷ all_read rs

  abbrev Known : ℕ → List (Operand (Name P)) → Step (Name P) → Env (Name P) → Type 0
  Known n chosen last v = AreChosen p decls v (on (number_in v start.free)) (number_in v done) (number_in v start.done) (take n rs) chosen last

  abbrev outs : List (Operand (Name P)) → Step (Name P) → List (Operand (Name P))
  outs chosen last = last.free ∷ last.done ∷ chosen ++ args

  -- before the first
  pub no_choice : (ws : List (BlockWireTree (Name P))) (chosen : List (Operand (Name P))) → chosen ≡ [] → HasBits 1 start.free → Leads part ws ws args (outs chosen start) (Known 0 chosen start)
  no_choice ws chosen none bits =
      subst (λ l. Leads part ws ws args (outs l start) (Known 0 l start)) (sym none)
      (leads_as (starts part ws args always) (outs [] start) (Known 0 [] start) there
      (λ v f k. none_chosen p decls v (on (number_in v start.free)) (number_in v done) (number_in v start.done) start (one_bit (number_in v start.free) (narrow_small v 1 start.free (narrow_bits 1 start.free bits) (f 1 start.free (omega arith)))) refl))
    where
      there : (ins : List (Operand (Name P))) → All (IsAvailable ins) args → All (IsAvailable ins) (outs [] start)
      there ins h zero d l = h 1 d (omega arith)
      there ins h (suc zero) d l = h 2 d (omega arith)
      there ins h (suc (suc k)) d l = h k d (omega arith)

  -- one more
  pub more_choice :
      (old mid next new : List (BlockWireTree (Name P))) (n m : ℕ) (r : RecordNets (Name P)) (opened : Operand (Name P)) (last step : Step (Name P)) (chosen all : List (Operand (Name P))) → n < length rs → m ≡ n + 1 → r ≡ get_or rs n r → length chosen ≡ n
      → all ≡ chosen ++ step.chosen ∷ [] → AreRecords p decls rs → Leads part old mid args (outs chosen last) (Known n chosen last)
      → ((h : StageValues) → Gives part mid next (done ∷ site_read r) (λ v. ShowsSite v p h r.number (operands_of r.nets.now)) (λ v. bit (nat_le (number_in v done) r.number && writes p decls h r.number)) 1 opened)
      → Leads part next new (last.free ∷ last.done ∷ opened ∷ []) (step.chosen ∷ step.free ∷ step.done ∷ []) (λ v. IsStep v r.number opened last step)
      → Leads part old new args (outs all step) (Known m all step)
  more_choice old mid next new n m r opened last step chosen all l m_is is count pushed are x y z =
      leads_as (then_leads (then_leads x (given_leads no_held _ _ y) site_there) z step_there) (outs all step) (Known m all step) after
      (λ v f k. subst (λ i. Known i all step v) (sym m_is) (subst (λ c. Known (n + 1) c step v) (sym pushed) (subst (λ t. AreChosen p decls v (on (number_in v start.free)) (number_in v done) (number_in v start.done) t (chosen ++ step.chosen ∷ []) step) (sym one)
      (one_chosen p decls v (on (number_in v start.free)) (number_in v done) (number_in v start.done) (take n rs) r chosen last step opened (count ∙ sym (length-take-le n rs (omega arith))) (lower p decls rs n r l is are) k.0.1 k.1 k.0.0))))
    where
      one : take (n + 1) rs ≡ take n rs ++ r ∷ []
      one = take_more rs n r l ∙ ap (λ y. take n rs ++ y ∷ []) (sym is)

      args_of : (Q : Operand (Name P) → Type 0) → All Q (outs chosen last) → All Q args
      args_of Q h = right_of Q chosen args (λ k d lt. h (suc (suc k)) d (omega arith))

      site_there : (ins : List (Operand (Name P))) → All (IsAvailable ins) (outs chosen last) → All (IsAvailable ins) (done ∷ site_read r)
      site_there ins h zero d lt = args_of (IsAvailable ins) h 0 d (omega arith)
      site_there ins h (suc k) d lt = tail_read (IsAvailable ins) r (read_at (IsAvailable ins) rs n r l is (λ i e a. args_of (IsAvailable ins) h (suc (suc (suc i))) e (omega arith))) k d (omega arith)

      step_there : (ins : List (Operand (Name P))) → All (IsAvailable ins) (opened ∷ outs chosen last) → All (IsAvailable ins) (last.free ∷ last.done ∷ opened ∷ [])
      step_there ins h zero d lt = h 1 d (omega arith)
      step_there ins h (suc zero) d lt = h 2 d (omega arith)
      step_there ins h (suc (suc zero)) d lt = h 0 d (omega arith)
      step_there ins h (suc (suc (suc k))) d lt = absurd (omega arith)

      after : (ins : List (Operand (Name P))) → All (IsAvailable ins) (step.chosen ∷ step.free ∷ step.done ∷ opened ∷ outs chosen last) → All (IsAvailable ins) (outs all step)
      after ins h zero d lt = h 1 d (omega arith)
      after ins h (suc zero) d lt = h 2 d (omega arith)
      after ins h (suc (suc k)) d lt =
          let Q = IsAvailable ins in
          let rest : All Q (chosen ++ args) = λ i e a. h (suc (suc (suc (suc (suc (suc i)))))) e (omega arith) in
          All-append Q all args (subst (All Q) (sym pushed) (All-push Q chosen step.chosen (left_of Q chosen args rest) (h 0 step.chosen (omega arith)))) (right_of Q chosen args rest) k d (omega arith)
