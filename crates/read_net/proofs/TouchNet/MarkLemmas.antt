-- Marks and guards, as bits.
use Rattle.std.specs.Prelude.{not, Option, Some, None}
use Rattle.std.specs.List.{list_any}
use Rattle.std.proofs.Common.{◌≡◌, ◌∙◌, ℕ, zero, suc, ◌+◌, ◌<◌, Bool, true, false, ◌&&◌, ◌||◌, All, List, [], ◌∷◌, length, take, get_or, refl, sym, ap, ap₂, subst, arith}
use Rattle.std.proofs.lemmas.List.Folds.{list_any_more}
use Rattle.block_core.specs.net_core.Value.{Env}
use Rattle.block_core.specs.Blocks.{BlockWireTree}
use Rattle.block_core.specs.declared.name.Name.{Name}
use Rattle.overlay_net.specs.cell_core.Cells.{bit, on}
use Rattle.overlay_net.specs.cell_core.Sites.{SiteView, ProgramView, site_at}
use Rattle.pipe_core.specs.hazard_core.StageValues.{StageValues, guard_on}
use Rattle.pipe_core.specs.hazard_core.Marks.{is_known, known_on}
use Rattle.overlay_net.specs.cell_nets.declared.operand.Operand.{Operand}
use Rattle.overlay_net.specs.cell_nets.Operands.{number_in, IsAvailable}
use Rattle.overlay_net.specs.cell_nets.Wires.{always, Gives}
use Rattle.overlay_net.proofs.cell_nets_laws.StepNets.ChainLaws.{starts, next, last}
use Rattle.overlay_net.proofs.cell_nets_laws.StepNets.StepLaws.{all_each, on_bit}
use Rattle.read_net.specs.declared.touch_net.marks.MarkNets.{MarkNets}
use Rattle.read_net.specs.TouchNet.Marking.{guard_operands, mark_operands, reload_by, shown_reload, IsKnownGuard, ShowsGuard, AreKnown, ShowsMark, ShowMarks}
use Rattle.read_net.proofs.TouchNet.ListLemmas.{left_of, right_of, first_of, behind}

and_false : (b : Bool) → false ≡ (b && false)
and_false true = refl
and_false false = refl

or_false : (b : Bool) → b ≡ (b || false)
or_false true = refl
or_false false = refl

-- ---- a mark that calls for a reload
module _ {P : Type 0} (q : P) (old new : List (BlockWireTree (Name P))) (reload marked out : Operand (Name P)) where
  abbrev pub Sends : Option (Operand (Name P)) → Type 0
  Sends guard = Gives q old new (reload ∷ marked ∷ guard_operands guard) always (λ v. bit (on (number_in v reload) || reload_by v marked guard)) 1 out

  pub sends_some : (guard : Option (Operand (Name P))) (g sent : Operand (Name P)) (mid : List (BlockWireTree (Name P))) → guard ≡ Some g → Gives q old mid (marked ∷ g ∷ []) always (λ v. bit (on (number_in v marked) && on (number_in v g))) 1 sent
      → Gives q mid new (reload ∷ sent ∷ []) always (λ v. bit (on (number_in v reload) || on (number_in v sent))) 1 out → Sends guard
  sends_some guard g sent mid is x y = subst Sends (sym is)
      (last (next (starts q old (reload ∷ marked ∷ g ∷ []) always) x (λ ins a. all_each (IsAvailable ins) (marked ∷ g ∷ []) (a 1 marked (omega arith), (a 2 g (omega arith), tt))) (λ v f k. tt)) y
      (λ ins a. all_each (IsAvailable ins) (reload ∷ sent ∷ []) (a 1 reload (omega arith), (a 0 sent (omega arith), tt))) (λ v f k. tt) (λ v. bit (on (number_in v reload) || (on (number_in v marked) && on (number_in v g))))
      (λ v f k. ap (λ b. bit (on (number_in v reload) || b)) (ap on k.1 ∙ on_bit (on (number_in v marked) && on (number_in v g)))))

  pub sends_none : (guard : Option (Operand (Name P))) → guard ≡ None → Gives q old new (reload ∷ []) always (λ v. bit (on (number_in v reload))) 1 out → Sends guard
  sends_none guard is x = subst Sends (sym is)
      (last (starts q old (reload ∷ marked ∷ []) always) x (λ ins a. all_each (IsAvailable ins) (reload ∷ []) (a 0 reload (omega arith), tt)) (λ v f k. tt) (λ v. bit (on (number_in v reload) || false)) (λ v f k. ap bit (or_false (on (number_in v reload)))))

pub mark_at : {N : Type 0} (Q : Operand N → Type 0) (ms : List (MarkNets N)) (k : ℕ) (m : MarkNets N) → k < length ms → m ≡ get_or ms k m → All Q (mark_operands ms) → All Q (m.marked ∷ guard_operands m.guard)
mark_at Q [] k m lt is h = absurd (omega arith)
mark_at Q (x ∷ ms) zero m lt is h = subst (λ (y : MarkNets _). All Q (y.marked ∷ guard_operands y.guard)) (sym is) (left_of Q (x.marked ∷ guard_operands x.guard) (mark_operands ms) h)
mark_at Q (x ∷ ms) (suc k) m lt is h = mark_at Q ms k m (omega arith) is (right_of Q (x.marked ∷ guard_operands x.guard) (mark_operands ms) h)

-- one mark more
pub mark_more :
    {P : Type 0} (q : P) (old mid new : List (BlockWireTree (Name P))) (ms : List (MarkNets (Name P))) (i : ℕ) (m : MarkNets (Name P)) (reload out : Operand (Name P)) → i < length ms → m ≡ get_or ms i m
    → Gives q old mid (mark_operands ms) always (λ v. bit (list_any (shown_reload v) (take i ms))) 1 reload → Gives q mid new (reload ∷ m.marked ∷ guard_operands m.guard) always (λ v. bit (on (number_in v reload) || shown_reload v m)) 1 out
    → Gives q old new (mark_operands ms) always (λ v. bit (list_any (shown_reload v) (take (i + 1) ms))) 1 out
mark_more q old mid new ms i m reload out lt is x y =
    last (next (starts q old (mark_operands ms) always) x (λ ins h. h) (λ v f k. tt)) y
    (λ ins h. first_of (IsAvailable ins) reload (m.marked ∷ guard_operands m.guard) (h 0 reload (omega arith)) (mark_at (IsAvailable ins) ms i m lt is (behind (IsAvailable ins) reload (mark_operands ms) h))) (λ v f k. tt)
    (λ v. bit (list_any (shown_reload v) (take (i + 1) ms)))
    (λ v f k.
    let before = list_any (shown_reload v) (take i ms) in
    ap (λ b. bit (b || shown_reload v m)) (ap on k.1 ∙ on_bit before) ∙ ap (λ x. bit (before || shown_reload v x)) is ∙ ap bit (sym (list_any_more (shown_reload v) ms i m lt)))

module _ {N : Type 0} (v : Env N) (p : ProgramView) (row : ℕ → ℕ) (r : ℕ) (h : StageValues) (marked : ℕ → Bool) where
  -- where the guard is known as 0 no mark calls for a reload
  guarded : (known on_path was now : Bool) → ((known && not on_path) ≡ false → now ≡ was) → true ≡ known → (now && on_path) ≡ (was && (known && on_path))
  guarded true true was now same k = ap (λ b. b && true) (same refl)
  guarded true false was now same k = sym (and_false now) ∙ and_false was
  guarded false on_path was now same k = cc

  one : (j : ℕ) (m : MarkNets N) → IsKnownGuard p row r j m.guard → ShowsMark v p row r h marked j m → shown_reload v m ≡ (marked j && known_on row r h (site_at p.sites j))
  one j m known shows = by m.guard known shows.guard
    where
      s : SiteView
      s = site_at p.sites j

      by : (guard : Option (Operand N)) → IsKnownGuard p row r j guard → ShowsGuard v p h j guard → reload_by v m.marked guard ≡ (marked j && known_on row r h s)
      by None known k = and_false (marked j) ∙ ap (λ b. marked j && (b && guard_on h s)) (sym known)
      by (Some g) known k =
          ap (λ n. on (number_in v m.marked) && on n) k
          ∙ guarded (is_known row r s) (guard_on h s) (marked j) (on (number_in v m.marked)) (λ off. ap on (shows.mark off) ∙ on_bit (marked j)) (sym known)

  pub reload_is : (js : List ℕ) (ms : List (MarkNets N)) → AreKnown p row r js ms → ShowMarks v p row r h marked js ms → list_any (shown_reload v) ms ≡ list_any (λ j. marked j && known_on row r h (site_at p.sites j)) js
  reload_is [] [] known k = refl
  reload_is [] (m ∷ ms) known k = absurd (omega (arith, known.count))
  reload_is (j ∷ js) [] known k = absurd (omega (arith, known.count))
  reload_is (j ∷ js) (m ∷ ms) known k =
      ap₂ ◌||◌ (one j m (known.each 0 m (omega arith)) (k.each 0 m (omega arith)))
      (reload_is js ms (record { count = omega (arith, known.count); each = λ n d lt. known.each (suc n) d (omega (arith, lt)) }) (record { each = λ n d lt. k.each (suc n) d (omega (arith, lt)) }))
