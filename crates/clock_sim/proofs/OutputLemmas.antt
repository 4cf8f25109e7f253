-- What a port shows, as a walk finds it.
use Rattle.std.specs.Prelude.{◌==◌}
use Rattle.std.proofs.Common.{◌≡◌, ℕ, ◌<◌, List, [], ◌∷◌, ◌++◌, length, get_or, sym, ap, ◌∙◌, subst, arith, ⊎_elim}
use Rattle.std.proofs.lemmas.Bool.{cases_lt, cond-true, cond-false, eq-eqb, ne_eqb}
use Rattle.std.proofs.lemmas.List.{get_or_append_left, get_or_at, length_push}
use Rattle.net_core.specs.declared.tree.Net.{Net}
use Rattle.net_core.specs.Nets.{AssignTree}
use Rattle.net_core.specs.Value.{Env, nothing, value}
use Rattle.net_core.specs.Width.{width_of}
use Rattle.net_core.specs.Clock.{assigned}
use Rattle.clock_sim.specs.declared.builder.Operand.{Operand}
use Rattle.clock_sim.specs.declared.operands.Operands.{Operands}
use Rattle.clock_sim.specs.Flat.{Flat, Holds, Extends, Values, scope_of, env_at}
use Rattle.clock_sim.specs.Edges.{AreShown, AreSlots, Shows, ShowsAll}
use Rattle.clock_sim.proofs.BuilderLemmas.{extends_none, numbers_later, knows_later}
use Rattle.clock_sim.proofs.StatementLemmas.{numbers_fine}

module _ (n : Operands) (port : ℕ) (a : AssignTree) (left rest : List AssignTree) (e : left ≡ a ∷ rest) where
  pub shown_first : AreShown n left → 0 < width_of (scope_of n) a.value
  shown_first h = (subst (λ l. AreShown n l) e h).0

  pub shown_rest : AreShown n left → AreShown n rest
  shown_rest h = (subst (λ l. AreShown n l) e h).1

  pub assigned_here : (all : List AssignTree) → a.port ≡ port → ((v : Env Net) → assigned v left port ≡ assigned v all port) → (v : Env Net) → value v a.value ≡ assigned v all port
  assigned_here all p h v = sym (ap (λ l. assigned v l port) e ∙ cond-true (a.port == port) (value v a.value) (assigned v rest port) (eq-eqb a.port port p)) ∙ h v

  pub assigned_later : (all : List AssignTree) → (a.port ≡ port → ⊥) → ((v : Env Net) → assigned v left port ≡ assigned v all port) → (v : Env Net) → assigned v rest port ≡ assigned v all port
  assigned_later all p h v = sym (ap (λ l. assigned v l port) e ∙ cond-false (a.port == port) (value v a.value) (assigned v rest port) (ne_eqb a.port port p)) ∙ h v

pub assigned_none : (port : ℕ) (left all : List AssignTree) → left ≡ [] → ((v : Env Net) → assigned v left port ≡ assigned v all port) → (v : Env Net) → nothing ≡ assigned v all port
assigned_none port left all e h v = sym (ap (λ l. assigned v l port) e) ∙ h v

pub shows_value : (old new : Flat) (n : Operands) (all : List AssignTree) (port : ℕ) (a : AssignTree) (p : Operand) → ((v : Env Net) → value v a.value ≡ assigned v all port) → Values old new n a.value p → Shows old new n all port p.slot
shows_value old new n all port a p is h = record {
  shows = λ ds wires k. numbers_fine ds new p.slot (λ x. (value (env_at wires x) a.value).value) (λ x. (assigned (env_at wires x) all port).value) (λ x fine. ap (λ w. w.value) (is (env_at wires x))) (h.gives ds wires k).number;
}

pub shows_nothing : (old new : Flat) (n : Operands) (all : List AssignTree) (port slot : ℕ) → ((v : Env Net) → nothing ≡ assigned v all port) → Holds new slot 0 → Shows old new n all port slot
shows_nothing old new n all port slot is h = record {
  shows = λ ds wires k. numbers_fine ds new slot (λ x. 0) (λ x. (assigned (env_at wires x) all port).value) (λ x fine. ap (λ w. w.value) (is (env_at wires x))) (h.gives ds);
}

pub shows_later : (old mid new last : Flat) (n : Operands) (all : List AssignTree) (port slot : ℕ) → Extends old mid → Extends new last → Shows mid new n all port slot → Shows old last n all port slot
shows_later old mid new last n all port slot e f h = record {
  shows = λ ds wires k. numbers_later ds new last slot (λ x. (assigned (env_at wires x) all port).value) f (h.shows ds wires (knows_later ds old mid n wires e k));
}

-- ---- the slots of several ports
pub slots_push : (n : ℕ) (ks : List ℕ) (k : ℕ) → k < n → AreSlots ks n → AreSlots (ks ++ k ∷ []) n
slots_push n [] k lt h = (lt, tt)
slots_push n (j ∷ ks) k lt h = (h.0, slots_push n ks k lt h.1)

pub shows_none : (old new : Flat) (n : Operands) (all : List AssignTree) → ShowsAll old new n all []
shows_none old new n all port lt = absurd (omega (arith, lt))

pub shows_push : (old new last : Flat) (n : Operands) (all : List AssignTree) (ks : List ℕ) (k port : ℕ) → Extends old new → Extends new last → port ≡ length ks
    → ShowsAll old new n all ks → Shows new last n all port k → ShowsAll old last n all (ks ++ k ∷ [])
shows_push old new last n all ks k port e f at h one q lt =
    ⊎_elim (λ before. let P : ℕ → Type 0 = Shows old last n all q in subst P (sym (get_or_append_left ks (k ∷ []) 0 q before)) (shows_later old old new last n all q (get_or ks q 0) (extends_none old) f (h q before)))
    (λ from.
    let last_one : length ks ≡ q = omega (arith, lt, length_push ks k) in
    let P : ℕ → Type 0 = Shows old last n all q in
    let Q : ℕ → Type 0 = λ p. Shows old last n all p k in
    subst P (sym (get_or_at ks k [] 0 q last_one)) (subst Q (at ∙ last_one) (shows_later old new last last n all port k e (extends_none last) one)))
    (cases_lt q (length ks))
