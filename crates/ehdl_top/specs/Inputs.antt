-- The inputs of a command, in the order in which they are looked at, and the first at which it stops.
use Rattle.std.specs.Prelude.{◌⊎◌, ℕ, IsTrue, List, [], ◌∷◌, Option, Some, None}
use Rattle.shelf_core.specs.Shelf.{Holding, Rose}
use Rattle.capture_run.specs.States.{ShelfState}
use Rattle.ehdl_top.specs.Forms.{InputForm, IsReady, IsFaulty}
use Rattle.ehdl_top.specs.declared.status.Status.{Status}
use Rattle.ehdl_top.specs.declared.error.CommandError.{CommandError}

-- a name, and the form that the bytes are to have which it holds
pub record Input : Type 1 where
  pub name : List ℕ
  pub form : InputForm

abbrev pub input : List ℕ → InputForm → Input
input name form = record { name = name; form = form }

-- an input that is named or not
abbrev pub may_input : Option (List ℕ) → InputForm → List Input
may_input (Some name) form = input name form ∷ []
may_input None form = []

abbrev pub names_in : List Input → List (List ℕ)
names_in [] = []
names_in (i ∷ rest) = i.name ∷ names_in rest

-- each is in its form
abbrev pub AreReady : List Input → Holding → Type 0
AreReady [] held = Unit {0}
AreReady (i ∷ rest) held = IsReady i.form (held i.name) × AreReady rest held

-- The first that is not in its form is why a command stops: those before it are in theirs.
abbrev pub FirstStop : List Input → Holding → CommandError → Type 0
FirstStop [] held e = ⊥
FirstStop (i ∷ rest) held e = IsFaulty i.form (held i.name) e ⊎ (IsReady i.form (held i.name) × FirstStop rest held e)

-- A read of one of them failed: its count has risen. Those before it are in their forms, where the shelf tells.
abbrev pub OneUnread : List Input → ShelfState → ShelfState → Type 0
OneUnread [] old new = ⊥
OneUnread (i ∷ rest) old new =
    Rose (old.read_faults i.name) (new.read_faults i.name) ⊎ ((IsTrue old.tells → IsReady i.form (old.held i.name)) × OneUnread rest old new)

-- how a command may end that stops at one of them
abbrev pub EndsAtInput : List Input → Status → Type 0
EndsAtInput [] s = ⊥
EndsAtInput (i ∷ rest) s = i.form.Ends s ⊎ EndsAtInput rest s
