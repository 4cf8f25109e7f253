use Rattle.std.proofs.Common.{◌≡◌, ◌-◌, ◌≤◌, ◌≢◌, ℕ, List, [], Bool, true, false, Some, drop, take, slice_get, length, if◌then◌else◌, refl, sym, ap, ◌∙◌, arith}
use Rattle.beat_core.specs.declared.beat.Beat.{Beat}
use Rattle.beat_core.specs.Beats.{beats_of, first_beat}
use Rattle.beat_core.proofs.LeftLaws.{left_none, left_some, left_after}
use Rattle.beat_core.proofs.scatter.Scatter.clock.Goals as goal

-- what is shown is the first beat left
shown : (at len : ℕ) (buffer : List ℕ) (b : Beat) (left : List Beat) → at ≤ len → at ≢ len → len ≤ length buffer → b ≡ first_beat (take (len - at) (drop at buffer)) → beats_of (drop at (take len buffer)) ≡ left → Some b ≡ slice_get left 0
shown at len buffer b left le ne room first view =
    ap (λ (r : Beat). Some r) first ∙ ap (λ (bs : List Beat). slice_get bs 0) (sym (left_some at len buffer le ne room) ∙ view)

-- none are left, whether one is taken or not
none_left : (left : List Beat) (b : Bool) → left ≡ [] → left ≡ (if b then drop 1 left else left)
none_left left true e = e ∙ sym (ap (λ (bs : List Beat). drop 1 bs) e)
none_left left false e = refl

taken : (b : Bool) (before after : List Beat) → b ≡ true → after ≡ drop 1 before → after ≡ (if b then drop 1 before else before)
taken true before after e h = h
taken false before after e h = absurd cc

pub returns-then-self-clause-shown : goal.returns-then-self-clause-shown
returns-then-self-clause-shown c =
    let s = c.self.inside in
    ap (λ (bs : List Beat). slice_get bs 0) (sym (left_none s.at s.len s.buffer c.if-self.true) ∙ c.self.view_is)

pub returns-then-self-clause-left : goal.returns-then-self-clause-left
returns-then-self-clause-left c =
    let s = c.self.inside in
    none_left c.args.self.now c.args.take (sym c.self.view_is ∙ left_none s.at s.len s.buffer c.if-self.true)

pub returns-then-take-clause-shown : goal.returns-then-take-clause-shown
returns-then-take-clause-shown c =
    let s = c.self.inside in
    shown s.at s.len s.buffer _ _ c.self.invariant.0 c.if-self.false (omega arith) c.first_beat-beat.ensures c.self.view_is

pub returns-then-take-clause-left : goal.returns-then-take-clause-left
returns-then-take-clause-left c =
    let s = c.self.inside in
    taken c.args.take c.args.self.now _ c.if-take.true (left_after s.at s.len c.min.result s.buffer c.self.invariant.0 c.if-self.false (omega arith) c.min.ensures ∙ ap (λ (bs : List Beat). drop 1 bs) c.self.view_is)

pub returns-else-take-clause-shown : goal.returns-else-take-clause-shown
returns-else-take-clause-shown c =
    let s = c.self.inside in
    shown s.at s.len s.buffer _ _ c.self.invariant.0 c.if-self.false (omega arith) c.first_beat-beat.ensures c.self.view_is
