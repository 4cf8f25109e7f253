-- Bytes are a text of maps or have a first bad line, and not both.
use Rattle.std.proofs.Common.{◌≡◌, ℕ, List, Result, Ok, Err}
use Rattle.xdp_maps.specs.declared.decl.MapDecl.{MapDecl}
use Rattle.xdp_maps.specs.State.{MapState}
use Rattle.maps_text.specs.declared.error.MapsError.{MapsError}
use Rattle.maps_text.specs.Reading.{outcome}
use Rattle.maps_text.specs.Text.{IsMapsText, IsFirstBad}
use Rattle.maps_text.proofs.Texts.{text-made}
use Rattle.maps_text.proofs.Faults.{bad-outcome}

never_ok : (r : Result MapState MapsError) (s : MapState) (e : MapsError) → r ≡ Ok s → r ≡ Err e → ⊥
never_ok r s e is fails = cc

pub never_both : (decls : List MapDecl) (text : List ℕ) (s : MapState) (e : MapsError) → IsMapsText decls text s → ¬ IsFirstBad decls text e
never_both decls text s e is bad = never_ok (outcome decls text) _ e (text-made decls text s is) (bad-outcome decls text e bad)
