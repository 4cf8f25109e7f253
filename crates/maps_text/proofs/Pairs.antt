-- The key and the value of a line are those that its map can have.
use Rattle.std.proofs.Common.{◌≡◌, ℕ, Bool, true, false, List, length, Option, Some, None, Result, Ok, Err, refl, sym, ap, ◌∙◌, arith}
use Rattle.std.specs.Prelude.{◌==◌, MatchResult}
use Rattle.std.specs.Result.{result_unwrap_or}
use Rattle.std.proofs.lemmas.Bool.{eq-eqb, ne_eqb}
use Rattle.hex.specs.declared.error.FromHexError.{FromHexError}
use Rattle.hex.specs.Hex.{decode_of, decode_sized}
use Rattle.hex.proofs.HexLemmas.{decode_of-ok, decode_sized-ok, decode_sized-twice}
use Rattle.xdp_maps.specs.declared.decl.MapDecl.{MapDecl}
use Rattle.maps_text.specs.Lines.{Entry}
use Rattle.maps_text.specs.Reading.{fits, has_key_as}

-- what decoding into room answers, as an option
abbrev pub Sized : List ℕ → ℕ → Option (List ℕ) → Type 0
Sized text n o = MatchResult (decode_sized text n) (λ bytes. o ≡ Some bytes) (λ _. o ≡ None)

some_by : (r : Result (List ℕ) FromHexError) (key : List ℕ) → MatchResult r (λ bytes. Some key ≡ Some bytes) (λ _. ◌≡◌ {A = Option (List ℕ)} (Some key) None) → r ≡ Ok key
some_by (Ok bytes) key h = cc
some_by (Err e) key h = cc

none_by : (r : Result (List ℕ) FromHexError) (key : List ℕ) → MatchResult r (λ bytes. ◌≡◌ {A = Option (List ℕ)} None (Some bytes)) (λ _. ◌≡◌ {A = Option (List ℕ)} None None) → r ≡ Ok key → ⊥
none_by (Ok bytes) key h is = cc
none_by (Err e) key h is = cc

value_of : (key bytes : List ℕ) → ◌≡◌ {A = Result (List ℕ) FromHexError} (Ok key) (Ok bytes) → key ≡ bytes
value_of key bytes is = ap (λ (r : Result (List ℕ) FromHexError). result_unwrap_or r key) is

-- so many bytes were decoded, which are those of the digits
pub sized_is : (text : List ℕ) (n : ℕ) (key bytes : List ℕ) → Sized text n (Some key) → decode_of text ≡ Ok bytes → (key ≡ bytes) × (length bytes ≡ n)
sized_is text n key bytes h is =
    let ok = some_by (decode_sized text n) key h in
    let len = decode_sized-ok text n key ok in
    let two = (decode_of-ok text bytes is).2 in
    (value_of key bytes (sym ok ∙ decode_sized-twice text n len ∙ is), omega (arith, len, two))

pub sized_len : (text : List ℕ) (n : ℕ) (key : List ℕ) → Sized text n (Some key) → length key ≡ n
sized_len text n key h =
    let ok = some_by (decode_sized text n) key h in
    let len = decode_sized-ok text n key ok in
    let two = (decode_of-ok text key (sym (decode_sized-twice text n len) ∙ ok)).2 in
    omega (arith, len, two)

-- there are not so many
pub sized_other : (text : List ℕ) (n : ℕ) (bytes : List ℕ) → Sized text n None → decode_of text ≡ Ok bytes → (length bytes == n) ≡ false
sized_other text n bytes h is = ne_eqb (length bytes) n (λ e.
    let two = (decode_of-ok text bytes is).2 in
    none_by (decode_sized text n) bytes h (decode_sized-twice text n (omega (arith, two, e)) ∙ is))

pub fits_not_key : (d : MapDecl) (e : Entry) → (length e.key == d.key) ≡ false → fits d e ≡ false
fits_not_key d e k = rw k refl

pub fits_not_value : (d : MapDecl) (e : Entry) → length e.key ≡ d.key → (length e.value == d.value) ≡ false → fits d e ≡ false
fits_not_value d e k v = let yes : (length e.key == d.key) ≡ true = eq-eqb _ _ k in rw (yes, v) refl

pub fits_is : (d : MapDecl) (e : Entry) (b : Bool) → length e.key ≡ d.key → length e.value ≡ d.value → has_key_as d.kind d.cap e.key ≡ b → fits d e ≡ b
fits_is d e b k v can =
    let yes : (length e.key == d.key) ≡ true = eq-eqb _ _ k in
    let same : (length e.value == d.value) ≡ true = eq-eqb _ _ v in
    rw (yes, same) can
