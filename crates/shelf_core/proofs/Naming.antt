-- What the names hold after a change of one file.
use Rattle.std.proofs.Common.{◌≡◌, ◌≢◌, ◌⊎◌, ℕ, List, [], ◌∷◌, ◌++◌, length, get_or, set, Option, Some, None, Bool, true, false, refl, sym, ap, ◌∙◌, arith, inl, inr}
use Rattle.std.specs.Prelude.{position, IsSome, Result, Ok, Err, OnOk}
use Rattle.std.specs.List.{position_or_len}
use Rattle.std.specs.Option.{option_or}
use Rattle.std.specs.Str.{bytes_eq}
use Rattle.std.proofs.lemmas.Bool.{false_from_ne_true, cases_lt, lt-ltb}
use Rattle.std.proofs.lemmas.Slice.Eq.{bytes_eq-Decides}
use Rattle.std.proofs.lemmas.List.Quantifiers.{position-Some}
use Rattle.std.proofs.lemmas.List.Folds.{find-set, find_past, find-append, find_at}
use Rattle.std.proofs.lemmas.List.Sums.{position_or_len_is}
use Rattle.std.proofs.lemmas.Option.{slice_get-get_or, slice_get_past}
use Rattle.shelf_core.specs.declared.faults.Faults.{Faults}
use Rattle.shelf_core.specs.File.{File, Contents, is_named, file_of, bytes_of, faults_or, held_of, SetsFaults, Stores}
use Rattle.shelf_core.specs.Shelf.{SameHeld, appended}

same_or_other : (a b : List ℕ) → (a ≡ b) ⊎ (a ≢ b)
same_or_other a b = by (bytes_eq a b) refl
  where
    by : (t : Bool) → bytes_eq a b ≡ t → (a ≡ b) ⊎ (a ≢ b)
    by true h = inl ((bytes_eq-Decides a b).0 h)
    by false h = inr (λ e. let t = (bytes_eq-Decides a b).1 e in cc)

some_is_none : {n : ℕ} → (let o : Option ℕ = Some n in o) ≡ None → ⊥
some_is_none h = cc

named : (name : List ℕ) (file : File) → file.name ≡ name → is_named name file ≡ true
named name file h = (bytes_eq-Decides file.name name).1 h

not_named : (name other : List ℕ) (file : File) → file.name ≡ name → other ≢ name → is_named other file ≡ false
not_named name other file h ne = false_from_ne_true _ (λ t. ne (sym ((bytes_eq-Decides file.name other).0 t) ∙ h))

or_none : {X : Type 0} (o : Option X) → option_or o None ≡ o
or_none None = refl
or_none (Some x) = refl

-- one name's file changes
pub record Changes (name : List ℕ) (old new : List File) (was now : Option File) : Type 0 where
  pub before : file_of old name ≡ was
  pub after : file_of new name ≡ now
  pub others : (other : List ℕ) → other ≢ name → file_of new other ≡ file_of old other

-- a file that is there is written over
changed : (name : List ℕ) (files : List File) (i : ℕ) (d new : File) → position (is_named name) files ≡ Some i → new.name ≡ (get_or files i d).name →
    Changes name files (set files i new) (Some (get_or files i d)) (Some new)
changed name files i d new at same =
    let p = position-Some (is_named name) files i d at in
    let here : position_or_len (is_named name) files ≡ i = position_or_len_is (is_named name) files i d (omega (arith, p.0)) p.2 (λ _. p.1) in
    let is : (get_or files i d).name ≡ name = (bytes_eq-Decides (get_or files i d).name name).0 p.1 in
    record {
      before = find_at (is_named name) files ∙ rw here (slice_get-get_or files i d p.0);
      after = find-set (is_named name) files i new (sym here) p.0 (named name new (same ∙ is));
      others = λ other ne. find_past (is_named other) files i new d (not_named name other (get_or files i d) is ne) (not_named name other new (same ∙ is) ne);
    }

missing : (name : List ℕ) (files : List File) → position (is_named name) files ≡ None → file_of files name ≡ None
missing name files at =
    elim (cases_lt (position_or_len (is_named name) files) (length files)) [
      | inl lt ↦ absurd (some_is_none (rw (lt-ltb (position_or_len (is_named name) files) (length files) lt) at at))
      | inr le ↦ find_at (is_named name) files ∙ slice_get_past files _ le
    ]

-- a file is made
added : (name : List ℕ) (files : List File) (new : File) → position (is_named name) files ≡ None → new.name ≡ name →
    Changes name files (files ++ new ∷ []) None (Some new)
added name files new at is =
    let none = missing name files at in
    record {
      before = none;
      after = find-append (is_named name) files (new ∷ []) ∙ rw (none, named name new is);
      others = λ other ne. find-append (is_named other) files (new ∷ []) ∙ rw (not_named name other new is ne) (or_none _);
    }

-- the bytes of one name change, and no count
stores : (name bytes : List ℕ) (old new : Contents) (was : Option File) (file : File) → Changes name old.files new.files was (Some file) →
    file.bytes ≡ bytes → file.faults ≡ faults_or old.absent was → new.absent ≡ old.absent → Stores name bytes old new
stores name bytes old new was file c b f a = record {
  held = ap bytes_of c.after ∙ ap Some b;
  others = λ other ne. ap bytes_of (c.others other ne);
  faults = record {
    each = λ other. elim (same_or_other other name) [
      | inl is ↦ rw (is, a, c.after, c.before) f
      | inr ne ↦ rw (a, c.others other ne)
    ];
  };
}

-- a file that is there gets other bytes
pub stored_over : (name bytes : List ℕ) (files : List File) (absent : Faults) (old : Contents) (i : ℕ) (was file : File) →
    position (is_named name) files ≡ Some i → was ≡ get_or files i was → file ≡ record was { bytes = bytes } → record { files = files; absent = absent } ≡ old →
    Stores name bytes old (record { files = set files i file; absent = absent })
stored_over name bytes files absent old i was file at at_i is old_is =
    let is' : file ≡ record (get_or files i was) { bytes = bytes } = rw (← at_i) is in
    let c = changed name files i was file at (ap (λ (f : File). f.name) is') in
    rw (← old_is) (stores name bytes _ _ (Some (get_or files i was)) file c (ap (λ (f : File). f.bytes) is') (ap (λ (f : File). f.faults) is') refl)

-- a file that is there gets more bytes, where there is memory
pub added_over : {E : Type 0} (r : Result (Unit {0}) E) (name bytes : List ℕ) (files : List File) (absent : Faults) (old : Contents) (i : ℕ) (was file : File) →
    position (is_named name) files ≡ Some i → was ≡ get_or files i was → OnOk r (file ≡ record was { bytes = was.bytes ++ bytes }) → record { files = files; absent = absent } ≡ old →
    OnOk r (Stores name (appended (held_of old name) bytes) old (record { files = set files i file; absent = absent }))
added_over (Ok u) name bytes files absent old i was file at at_i is old_is =
    let before : file_of files name ≡ Some was = (changed name files i was was at (ap (λ (f : File). f.name) at_i)).before ∙ ap Some (sym at_i) in
    let held : held_of old name ≡ Some was.bytes = rw (← old_is) (ap bytes_of before) in
    rw held (stored_over name (was.bytes ++ bytes) files absent old i was file at at_i is old_is)
added_over (Err e) name bytes files absent old i was file at at_i is old_is = tt

pub held_missing : (name : List ℕ) (files : List File) (absent : Faults) (old : Contents) → position (is_named name) files ≡ None → record { files = files; absent = absent } ≡ old → held_of old name ≡ None
held_missing name files absent old at old_is = rw (← old_is) (ap bytes_of (missing name files at))

-- a new file begins with the counts of the names that are not there
pub stored_new : (name bytes : List ℕ) (files : List File) (absent : Faults) (old : Contents) (file : File) →
    position (is_named name) files ≡ None → file ≡ record { name = name; bytes = bytes; faults = absent } → record { files = files; absent = absent } ≡ old →
    Stores name bytes old (record { files = files ++ file ∷ []; absent = absent })
stored_new name bytes files absent old file at is old_is =
    let c = added name files file at (ap (λ (f : File). f.name) is) in
    rw (← old_is) (stores name bytes _ _ None file c (ap (λ (f : File). f.bytes) is) (ap (λ (f : File). f.faults) is) refl)

unaffected : (held : Option File) (a b : Faults) → IsSome (bytes_of held) → faults_or a held ≡ faults_or b held
unaffected None a b there = absurd cc
unaffected (Some file) a b there = refl

-- the counts of a file that is there change
pub faults_over : (name : List ℕ) (faults : Faults) (files : List File) (absent : Faults) (old : Contents) (i : ℕ) (was file : File) →
    position (is_named name) files ≡ Some i → was ≡ get_or files i was → file ≡ record was { faults = faults } → record { files = files; absent = absent } ≡ old →
    SetsFaults name faults old (record { files = set files i file; absent = absent }) × SameHeld (held_of old) (held_of (record { files = set files i file; absent = absent }))
faults_over name faults files absent old i was file at at_i is old_is =
    let is' : file ≡ record (get_or files i was) { faults = faults } = rw (← at_i) is in
    let c = changed name files i was file at (ap (λ (f : File). f.name) is') in
    rw (← old_is) (
      record {
        changed = rw c.after (ap (λ (f : File). f.faults) is');
        others = λ other ne there. rw (c.others other ne);
      },
      record {
        each = λ other. elim (same_or_other other name) [
          | inl same ↦ rw (same, c.after, c.before) (ap Some (ap (λ (f : File). f.bytes) is'))
          | inr ne ↦ ap bytes_of (c.others other ne)
        ];
      },
    )

-- the counts of the names that are not there change
pub faults_absent : (name : List ℕ) (faults : Faults) (files : List File) (absent : Faults) (old : Contents) →
    position (is_named name) files ≡ None → record { files = files; absent = absent } ≡ old →
    SetsFaults name faults old (record { files = files; absent = faults })
faults_absent name faults files absent old at old_is =
    let none = missing name files at in
    rw (← old_is) (record {
      changed = rw none;
      others = λ other ne there. elim there [
        | inl here ↦ absurd (let h : IsSome (bytes_of None) = rw none at here in cc)
        | inr here ↦ unaffected (file_of files other) faults absent here
      ];
    })
