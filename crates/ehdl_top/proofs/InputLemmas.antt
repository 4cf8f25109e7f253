-- The first input that is not in its form is one, and there is none where all are.
use Rattle.std.proofs.Common.{◌≡◌, ℕ, ◌<◌, ◌≤◌, IsTrue, List, [], ◌∷◌, ◌++◌, length, Option, Some, None, sym, ◌∙◌, ap, subst, inl, inr, arith}
use Rattle.shelf_core.specs.Shelf.{Holding, IsLonger, Rose}
use Rattle.capture_run.specs.States.{ShelfState, OneRose}
use Rattle.ehdl_top.specs.Forms.{InputForm, Holds, IsReady, IsFaulty}
use Rattle.ehdl_top.specs.Inputs.{Input, may_input, names_in, AreReady, FirstStop, OneUnread, EndsAtInput}
use Rattle.ehdl_top.specs.Status.{status_of}
use Rattle.ehdl_top.specs.declared.status.Status.{Status}
use Rattle.ehdl_top.specs.declared.status.Status.TheVariants as status
use Rattle.ehdl_top.specs.declared.error.CommandError.{CommandError}

-- how a command ends whose input is not in its form
abbrev pub IsInputStatus : Status → Type 0
IsInputStatus status.Object = Unit {0}
IsInputStatus status.Refused = Unit {0}
IsInputStatus status.Input = Unit {0}
IsInputStatus s = ⊥

-- Bytes are in a form or have a fault, and not both, and all that is said of their faults ends a command in one way.
pub record IsSound (form : InputForm) : Type 0 where
  pub apart : (bytes : List ℕ) (e : CommandError) → form.Fits bytes → ¬ form.Faults bytes e
  pub one : (bytes : List ℕ) (e f : CommandError) → form.Faults bytes e → form.Faults bytes f → status_of e ≡ status_of f
  pub ends : (s : Status) → form.Ends s → IsInputStatus s

abbrev pub AreSound : List Input → Type 0
AreSound [] = Unit {0}
AreSound (i ∷ rest) = IsSound i.form × AreSound rest

-- ---- one input
one_content : (held : Option (List ℕ)) (a b : List ℕ) → held ≡ Some a → held ≡ Some b → a ≡ b
one_content held a b there here = cc

not_longer : (limit : ℕ) (held : Option (List ℕ)) (bytes : List ℕ) → held ≡ Some bytes → length bytes ≤ limit → ¬ IsLonger limit held
not_longer limit held bytes there within long = let P : Option (List ℕ) → Type 0 = IsLonger limit in let over : limit < length bytes = subst P there long in omega (arith, over, within)

-- what a name holds is one thing
pub holds_both : (limit : ℕ) (held : Option (List ℕ)) (A B C : List ℕ → Type 0) → ((bytes : List ℕ) → A bytes → B bytes → C bytes) → (a : Holds limit held A) → Holds limit held B → C a.bytes
holds_both limit held A B C both a b = both a.bytes a.is (subst B (one_content held b.bytes a.bytes b.there a.there) b.is)

ready_faulty : (form : InputForm) (held : Option (List ℕ)) (e : CommandError) → IsSound form → IsReady form held → ¬ IsFaulty form held e
ready_faulty form held e sound ready (inl long) = not_longer form.limit held ready.bytes ready.there ready.within long.0
ready_faulty form held e sound ready (inr fault) = holds_both form.limit held form.Fits (λ bytes. form.Faults bytes e) (λ bytes. ⊥) (λ bytes. sound.apart bytes e) ready fault

faulty_one : (form : InputForm) (held : Option (List ℕ)) (e f : CommandError) → IsSound form → IsFaulty form held e → IsFaulty form held f → status_of e ≡ status_of f
faulty_one form held e f sound (inl a) (inl b) = ap status_of (a.1 ∙ sym b.1)
faulty_one form held e f sound (inl a) (inr b) = absurd (not_longer form.limit held b.bytes b.there b.within a.0)
faulty_one form held e f sound (inr a) (inl b) = absurd (not_longer form.limit held a.bytes a.there a.within b.0)
faulty_one form held e f sound (inr a) (inr b) =
    holds_both form.limit held (λ bytes. form.Faults bytes e) (λ bytes. form.Faults bytes f) (λ bytes. status_of e ≡ status_of f) (λ bytes. sound.one bytes e f) a b

-- ---- all of them
pub ready_stops : (inputs : List Input) (held : Holding) (e : CommandError) → AreSound inputs → AreReady inputs held → ¬ FirstStop inputs held e
ready_stops [] held e sound ready stop = stop
ready_stops (i ∷ rest) held e sound ready (inl fault) = ready_faulty i.form (held i.name) e sound.0 ready.0 fault
ready_stops (i ∷ rest) held e sound ready (inr stop) = ready_stops rest held e sound.1 ready.1 stop.1

pub one_stop : (inputs : List Input) (held : Holding) (e f : CommandError) → AreSound inputs → FirstStop inputs held e → FirstStop inputs held f → status_of e ≡ status_of f
one_stop [] held e f sound a b = absurd a
one_stop (i ∷ rest) held e f sound (inl a) (inl b) = faulty_one i.form (held i.name) e f sound.0 a b
one_stop (i ∷ rest) held e f sound (inl a) (inr b) = absurd (ready_faulty i.form (held i.name) e sound.0 b.0 a)
one_stop (i ∷ rest) held e f sound (inr a) (inl b) = absurd (ready_faulty i.form (held i.name) f sound.0 a.0 b)
one_stop (i ∷ rest) held e f sound (inr a) (inr b) = one_stop rest held e f sound.1 a.1 b.1

pub ends_input : (inputs : List Input) (s : Status) → AreSound inputs → EndsAtInput inputs s → IsInputStatus s
ends_input [] s sound ends = absurd ends
ends_input (i ∷ rest) s sound (inl ends) = sound.0.ends s ends
ends_input (i ∷ rest) s sound (inr ends) = ends_input rest s sound.1 ends

pub unread_rose : (inputs : List Input) (old new : ShelfState) → OneUnread inputs old new → OneRose (names_in inputs) old.read_faults new.read_faults
unread_rose [] old new u = u
unread_rose (i ∷ rest) old new (inl rose) = inl rose
unread_rose (i ∷ rest) old new (inr u) = inr (unread_rose rest old new u.1)

-- ---- inputs that are read one after the other
pub ready_both : (before after : List Input) (held : Holding) → AreReady before held → AreReady after held → AreReady (before ++ after) held
ready_both [] after held ready more = more
ready_both (i ∷ before) after held ready more = (ready.0, ready_both before after held ready.1 more)

pub may_sound : (name : Option (List ℕ)) (form : InputForm) (after : List Input) → IsSound form → AreSound after → AreSound (may_input name form ++ after)
may_sound (Some name) form after sound more = (sound, more)
may_sound None form after sound more = more

-- one that was not read, after some that were
pub unread_behind : (before : List Input) (i : Input) (after : List Input) (old new : ShelfState) → (IsTrue old.tells → AreReady before old.held) → Rose (old.read_faults i.name) (new.read_faults i.name) → OneUnread (before ++ i ∷ after) old new
unread_behind [] i after old new ready rose = inl rose
unread_behind (j ∷ before) i after old new ready rose = inr (λ told. (ready told).0, unread_behind before i after old new (λ told. (ready told).1) rose)

pub stop_behind : (before : List Input) (i : Input) (after : List Input) (held : Holding) (e : CommandError) → AreReady before held → IsFaulty i.form (held i.name) e → FirstStop (before ++ i ∷ after) held e
stop_behind [] i after held e ready fault = inl fault
stop_behind (j ∷ before) i after held e ready fault = inr (ready.0, stop_behind before i after held e ready.1 fault)

pub ends_behind : (before : List Input) (i : Input) (after : List Input) (s : Status) → i.form.Ends s → EndsAtInput (before ++ i ∷ after) s
ends_behind [] i after s ends = inl ends
ends_behind (j ∷ before) i after s ends = inr (ends_behind before i after s ends)
