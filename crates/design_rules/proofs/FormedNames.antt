-- Names, read from their first letter.
use Rattle.std.specs.Prelude.{◌≡◌, ℕ, ◌+◌, ◌<◌, ◌≤◌, ◌⊎◌, Bool, true, false, if◌then◌else◌, ◌&&◌, ◌||◌, List, [], ◌∷◌, ◌++◌, length, map, take, drop, String, string_bytes}
use Rattle.std.specs.Str.{bytes_eq}
use Rattle.std.specs.List.{list_any, list_all}
use Rattle.std.specs.Borrow.{Bor}
use Rattle.std.proofs.Common.{get_or, inl, inr, not, refl, ap, sym, ◌∙◌, arith, length-append, Global}
use Rattle.std.proofs.lemmas.Bool.{cases_lt}
use Rattle.std.proofs.lemmas.List.{length-map, get_or-map, take-map, get_or_past, get_or_push, get_or_append_left}
use Rattle.std.proofs.lemmas.List.Folds.{list_any_more}
use Rattle.list_laws.proofs.ByteLaws.{bytes_turn}
use Rattle.design_rules.specs.Formed.{is_new_in, TellNew}
use Rattle.design_rules.specs.FormedSyntax.{begins_name, continues_name, is_identifier, is_name}

pub identifier_at : (cs : List ℕ) → 0 < length cs → is_identifier cs ≡ (begins_name (get_or cs 0 0) && list_all continues_name (drop 1 cs))
identifier_at [] h = absurd (omega arith)
identifier_at (c ∷ cs) h = refl

pub list_any_map : {A B : Type 0} (p : B → Bool) (f : A → B) (xs : List A) → list_any p (map f xs) ≡ list_any (λ x. p (f x)) xs
list_any_map p f [] = refl
list_any_map p f (x ∷ xs) = ap (λ b. p (f x) || b) (list_any_map p f xs)

pub is_new_at : (names : List (String Global)) (place : ℕ) (s : String Global) → place < length names → s ≡ get_or names place s
    → list_any (bytes_eq (get_or (map string_bytes names) place [])) (take place (map string_bytes names))
    ≡ list_any (λ other. bytes_eq (string_bytes s) (string_bytes other)) (take place names)
is_new_at names place s h e =
    ap (λ n. list_any (bytes_eq n) (take place (map string_bytes names))) (get_or-map string_bytes names place s [] h ∙ ap string_bytes (sym e))
    ∙ ap (list_any (bytes_eq (string_bytes s))) (take-map string_bytes place names)
    ∙ list_any_map (bytes_eq (string_bytes s)) string_bytes (take place names)

-- where no name stands, the list gives none
pub name_past : (names : List (List ℕ)) (place : ℕ) → length names ≤ place → is_name (get_or names place []) ≡ false
name_past names place h = ap is_name (get_or_past names place [] h)

-- ---- names and flags, one after another

-- after the first names: a flag of each that tells whether it is a new one, and which names are among the keys
pub record Noted (names : List (List ℕ)) (i : ℕ) (keys : List (Bor (List ℕ))) (flags : List Bool) : Type 0 where
  pub count : length flags ≡ i
  pub each : (place : ℕ) → place < i → get_or flags place false ≡ is_new_in names place
  pub seen : (q : Bor (List ℕ)) → list_any (λ k. bytes_eq q.now k.now) keys ≡ list_any (bytes_eq q.now) (take i names)

pub none_noted : (names : List (List ℕ)) (keys : List (Bor (List ℕ))) → keys ≡ [] → Noted names 0 keys []
none_noted names keys e = record { count = refl; each = λ place l. absurd (omega (arith, l)); seen = λ q. ap (list_any (λ k. bytes_eq q.now k.now)) e }

or_cond : (t a : Bool) → (if t then true else a) ≡ (a || t)
or_cond true true = refl
or_cond true false = refl
or_cond false true = refl
or_cond false false = refl

pub noted_more : (names : List (List ℕ)) (i : ℕ) (keys more : List (Bor (List ℕ))) (flags : List Bool) (key : Bor (List ℕ)) (added : Bool) → i < length names → key.now ≡ get_or names i []
    → added ≡ not (list_any (λ k. bytes_eq key.now k.now) keys)
    → ((q : Bor (List ℕ)) → list_any (λ k. bytes_eq q.now k.now) more ≡ (if bytes_eq key.now q.now then true else list_any (λ k. bytes_eq q.now k.now) keys))
    → Noted names i keys flags → Noted names (i + 1) more (flags ++ added ∷ [])
noted_more names i keys more flags key added below name is_added grows n = record {
  count = length-append flags (added ∷ []) ∙ omega (arith, n.count);
  each = λ place l. by place (cases_lt place i) l;
  seen = λ q.
      grows q
      ∙ ap (λ (a : Bool). if bytes_eq key.now q.now then true else a) (n.seen q)
      ∙ ap (λ (t : Bool). if t then true else list_any (bytes_eq q.now) (take i names)) (bytes_turn key.now q.now ∙ ap (bytes_eq q.now) name)
      ∙ or_cond (bytes_eq q.now (get_or names i [])) (list_any (bytes_eq q.now) (take i names))
      ∙ sym (list_any_more (bytes_eq q.now) names i [] below);
}
  where
    here : added ≡ is_new_in names i
    here = is_added ∙ ap not (n.seen key ∙ ap (λ (s : List ℕ). list_any (bytes_eq s) (take i names)) name)

    by : (place : ℕ) → (place < i) ⊎ (i ≤ place) → place < i + 1 → get_or (flags ++ added ∷ []) place false ≡ is_new_in names place
    by place (inl lt) l = get_or_append_left flags (added ∷ []) false place (omega (arith, lt, n.count)) ∙ n.each place lt
    by place (inr le) l =
        let same : i ≡ place = omega (arith, le, l) in
        get_or_push flags added false place (n.count ∙ same) ∙ here ∙ ap (is_new_in names) same

-- after all of them
pub all_noted : (names : List (String Global)) (i : ℕ) (keys : List (Bor (List ℕ))) (flags : List Bool) → i ≡ length names → Noted (map string_bytes names) i keys flags → TellNew (map string_bytes names) flags
all_noted names i keys flags e n = record {
  count = n.count ∙ e ∙ sym (length-map names string_bytes);
  each = λ place l. n.each place (omega (arith, l, e, length-map names string_bytes));
}

-- the bytes of a name are those at its place
pub name_at : (names : List (String Global)) (i : ℕ) (s : String Global) → i < length names → s ≡ get_or names i s → string_bytes s ≡ get_or (map string_bytes names) i []
name_at names i s below e = sym (get_or-map string_bytes names i s [] below ∙ ap string_bytes (sym e))
