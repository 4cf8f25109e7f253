-- What is written is read back, and a text is one of no more than one maps.
use Rattle.std.specs.Prelude.{◌≡◌, ◌≢◌, List, [], ℕ, All, Ok}
use Rattle.std.specs.List.{AllPairs}
use Rattle.xdp_maps.specs.declared.decl.MapDecl.{MapDecl}
use Rattle.xdp_maps.specs.State.{MapState, IsSound}
use Rattle.maps_text.specs.Lines.{space, line_feed}
use Rattle.maps_text.specs.Reading.{outcome}
use Rattle.maps_text.specs.Text.{IsMapsText}
use Rattle.maps_text.specs.Writing.{text_of}

-- a name that can be a field
pub record IsField (name : List ℕ) : Type 0 where
  pub some : name ≢ []
  pub plain : All (λ b. (b ≢ space) × (b ≢ line_feed)) name

-- each declaration has a name of its own, which can be a field
pub record AreNamed (decls : List MapDecl) : Type 0 where
  pub fields : All (λ d. IsField d.name) decls
  pub own : AllPairs (λ d e. d.name ≢ e.name) decls

-- The text of maps lists just what they hold. So each text of maps has a normal form, which is the text of what it lists.
abbrev pub WrittenIsRead : Type 0
WrittenIsRead = (s : MapState) → IsSound s → AreNamed s.decls → outcome s.decls (text_of s) ≡ Ok s

-- A text is one of no more than one maps.
abbrev pub HasOneMeaning : Type 0
HasOneMeaning = (decls : List MapDecl) (text : List ℕ) (s t : MapState) → IsMapsText decls text s → IsMapsText decls text t → s ≡ t
