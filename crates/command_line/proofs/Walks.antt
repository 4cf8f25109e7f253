-- The walk of `clap` over plain options with their values: it finds no fault, and gives each option its value.
use Rattle.std.proofs.Common.{◌≡◌, ◌≢◌, ◌∙◌, sym, ap, refl, ℕ, suc, Bool, cond, true, false, ◌&&◌, ◌||◌, ◌==◌, true≢false, List, [], ◌∷◌, ◌++◌, map, fold, find, All, AllPairs, arith, Some, None, is_some, option_map, slice_get, IsTrue}
use Rattle.std.specs.Str.{bytes_eq}
use Rattle.std.specs.Option.{option_and_then}
use Rattle.std.proofs.lemmas.Bool.{not-true, or_from}
use Rattle.std.proofs.lemmas.List.{append-nil, append_assoc}
use Rattle.std.proofs.lemmas.List.Folds.{list_any-append}
use Rattle.clap.specs.Lexer.{long_of, long_of_rest, short_of, short_of_rest, strip_byte}
use Rattle.clap.specs.Walk.{Held, Row, Walk, arg_by_id, first_of, has_row, at_row, more_values, option, settled, used_by_id, walk_from, walked, with_values, without}
use Rattle.clap.specs.Simple.{Shape}
use Rattle.clap.specs.Takes.{is_given}
use Rattle.clap.specs.Faults.{settle_fault, turn_fault, walk_fault}
use Rattle.clap.specs.declared.parser.matches.ValueSource.TheVariants.{CommandLine}
use Rattle.clap.specs.declared.builder.value_parser.Reading.TheVariants.{AsWritten}
use Rattle.clap.proofs.FaultLemmas.{past}
use Rattle.command_line.specs.AsksFor.{Given, is_value, values_of, words_of}
use Rattle.command_line.proofs.Lists.{other_text, same_text}
use Rattle.command_line.proofs.Options.{Fits}

-- ---- a value

-- it is no word with dashes
record IsPlainWord (value : List ℕ) : Type 0 where
  no_end : bytes_eq value (45 ∷ 45 ∷ []) ≡ false
  no_long : long_of value ≡ None
  no_short : short_of value ≡ None

plain_word : (value : List ℕ) → IsTrue (is_value value) → IsPlainWord value
plain_word [] proper = absurd (true≢false (sym proper))
plain_word (x ∷ xs) proper =
    let e : (x == 45) ≡ false = not-true (x == 45) proper in
    let strip : strip_byte 45 (x ∷ xs) ≡ None = ap (λ b. cond b (Some xs) None) e in
    record {
      no_end = ap (λ b. b && bytes_eq xs (45 ∷ [])) e;
      no_long = ap (λ o. option_and_then long_of_rest (option_and_then (strip_byte 45) o)) strip;
      no_short = ap (option_and_then short_of_rest) strip;
    }

-- ---- rows

-- what the matches have of an option with its value
abbrev pub row_of : List ℕ → List ℕ → Row
row_of name value = record {
  id = name;
  values = value ∷ [];
  count = None;
  source = Some CommandLine;
  reading = AsWritten;
}

abbrev pub rows_of : List Given → List Row
rows_of = map (λ g. row_of g.option g.value)

absent_row : (name : List ℕ) (change : Row → List Row) (missing rows : List Row) → has_row name rows ≡ false → at_row name change missing rows ≡ rows ++ missing
absent_row name change missing [] none = refl
absent_row name change missing (r ∷ rows) none = go (bytes_eq r.id name) none (absent_row name change missing rows)
  where
    go : (v : Bool) → (v || has_row name rows) ≡ false → (has_row name rows ≡ false → at_row name change missing rows ≡ rows ++ missing)
        → cond v (change r ++ rows) (r ∷ at_row name change missing rows) ≡ r ∷ (rows ++ missing)
    go true e next = absurd (true≢false e)
    go false e next = ap (λ rs. r ∷ rs) (next e)

used_first : (name value : List ℕ) (rows : List Row) → has_row name rows ≡ false
    → with_values name AsWritten CommandLine (value ∷ []) (without name rows) ≡ rows ++ row_of name value ∷ []
used_first name value rows none =
    let same : without name rows ≡ rows = absent_row name (λ _. []) [] rows none ∙ append-nil rows in
    ap (with_values name AsWritten CommandLine (value ∷ [])) same ∙ absent_row name (more_values CommandLine (value ∷ [])) (row_of name value ∷ []) rows none

fresh_more : (name : List ℕ) (rows : List Row) (r : Row) → has_row name rows ≡ false → bytes_eq r.id name ≡ false → has_row name (rows ++ r ∷ []) ≡ false
fresh_more name rows r none other = list_any-append (λ x. bytes_eq x.id name) rows (r ∷ []) ∙ or_from _ _ none (or_from _ _ other refl)

pub first_given : (given : List Given) (name : List ℕ) → first_of name (rows_of given) ≡ values_of given name
first_given [] name = refl
first_given (g ∷ given) name = go (bytes_eq g.option name) (first_given given name)
  where
    go : (v : Bool) → first_of name (rows_of given) ≡ values_of given name → option_and_then (λ (r : Row). slice_get r.values 0) (cond v (Some (row_of g.option g.value)) (find (λ r. bytes_eq r.id name) (rows_of given)))
        ≡ option_map (λ (k : Given). k.value) (cond v (Some g) (find (λ k. bytes_eq k.option name) given))
    go true next = refl
    go false next = next

pub given_given : (given : List Given) (name : List ℕ) → is_given name (rows_of given) ≡ is_some (values_of given name)
given_given [] name = refl
given_given (g ∷ given) name = go (bytes_eq g.option name) refl (given_given given name)
  where
    go : (v : Bool) → bytes_eq g.option name ≡ v → is_given name (rows_of given) ≡ is_some (values_of given name) → is_given name (rows_of (g ∷ given)) ≡ is_some (values_of (g ∷ given) name)
    go true e next = rw e refl
    go false e next = rw e next

-- ---- one option with its value

-- the walk after `--NAME`, with these rows
abbrev opening : Held → List ℕ → Walk
opening h name = record {
  held = record h { pending = Some (name, []) };
  waiting = option name;
  position = 1;
  is_trailing = false;
  stopped = None;
}

-- nothing waits to be used
abbrev pub rest : List Row → Held
rest rows = record { rows = rows; pending = None; skip = 0 }

-- an option waits with its value
abbrev waiting_with : List Row → List ℕ → List ℕ → Held
waiting_with rows name value = record { rows = rows; pending = Some (name, value ∷ []); skip = 0 }

module _ (s : Shape) (name : List ℕ) (f : Fits s.rules name) where
  option_step : (h : Held) → walked s.rules [] (walk_from h) (45 ∷ 45 ∷ name) ≡ opening (settled s.rules h) name
  unfolding walked
  option_step h = rw (f.no_end, f.as_long, f.by_long) refl

  option_faultless : (h : Held) → settle_fault s.rules s.args_override_self h ≡ [] → turn_fault s [] (walk_from h) (45 ∷ 45 ∷ name) ≡ []
  option_faultless h settles = rw (f.no_end, f.as_long, f.by_long, settles) refl

  value_step : (rows : List Row) (value : List ℕ) → IsTrue (is_value value) → walked s.rules [] (opening (rest rows) name) value ≡ walk_from (waiting_with rows name value)
  unfolding walked
  value_step rows value proper =
      let plain = plain_word value proper in
      rw (plain.no_end, plain.no_long, plain.no_short, f.by_id, same_text name) refl

  value_faultless : (rows : List Row) (value : List ℕ) → IsTrue (is_value value) → turn_fault s [] (opening (rest rows) name) value ≡ []
  value_faultless rows value proper =
      let plain = plain_word value proper in
      rw (plain.no_end, plain.no_long, plain.no_short) refl

  settles_to : (rows : List Row) (value : List ℕ) → has_row name rows ≡ false → settled s.rules (waiting_with rows name value) ≡ rest (rows ++ row_of name value ∷ [])
  settles_to rows value none =
      let used_is : used_by_id (arg_by_id s.rules name) (value ∷ []) rows ≡ rows ++ row_of name value ∷ [] =
      ap (λ o. used_by_id o (value ∷ []) rows) f.by_id ∙ used_first name value rows none in
      ap rest used_is

  settle_faultless : (rows : List Row) (value : List ℕ) → has_row name rows ≡ false → settle_fault s.rules s.args_override_self (waiting_with rows name value) ≡ []
  settle_faultless rows value none = rw (f.by_id, none) refl

-- ---- all of them

pub record Walks (s : Shape) (h : Held) (given : List Given) (rows : List Row) : Type 0 where
  pub end : Held
  pub reached : fold (walked s.rules []) (walk_from h) (words_of given) ≡ walk_from end
  pub settles : settled s.rules end ≡ rest rows
  pub settle_faultless : settle_fault s.rules s.args_override_self end ≡ []
  pub faultless : walk_fault s [] (walk_from h) (words_of given) ≡ []

pub walks : (s : Shape) (h : Held) (done : List Row) (given : List Given) → settled s.rules h ≡ rest done → settle_fault s.rules s.args_override_self h ≡ []
    → All (λ g. Fits s.rules g.option) given → All (λ g. IsTrue (is_value g.value)) given → AllPairs (λ g k. g.option ≢ k.option) given
    → All (λ g. has_row g.option done ≡ false) given → Walks s h given (done ++ rows_of given)
unfolding walk_fault
walks s h done [] settles passes fit proper once fresh = record {
  end = h;
  reached = refl;
  settles = settles ∙ ap rest (sym (append-nil done));
  settle_faultless = passes;
  faultless = refl;
}
walks s h done (g ∷ given) settles passes fit proper once fresh =
    let f : Fits s.rules g.option = fit 0 g (omega arith) in
    let good : IsTrue (is_value g.value) = proper 0 g (omega arith) in
    let new : has_row g.option done ≡ false = fresh 0 g (omega arith) in
    let opened : walked s.rules [] (walk_from h) (45 ∷ 45 ∷ g.option) ≡ opening (rest done) g.option =
    option_step s g.option f h ∙ ap (λ k. opening k g.option) settles in
    let closed : walked s.rules [] (walked s.rules [] (walk_from h) (45 ∷ 45 ∷ g.option)) g.value ≡ walk_from (waiting_with done g.option g.value) =
    ap (λ w. walked s.rules [] w g.value) opened ∙ value_step s g.option f done g.value good in
    let more = walks s (waiting_with done g.option g.value) (done ++ row_of g.option g.value ∷ []) given
    (settles_to s g.option f done g.value new) (settle_faultless s g.option f done g.value new)
    (λ k d below. fit (suc k) d (omega (arith, below))) (λ k d below. proper (suc k) d (omega (arith, below)))
    (λ i j d before below. once (suc i) (suc j) d (omega (arith, before)) (omega (arith, below)))
    (λ k d below. fresh_more _ done (row_of g.option g.value) (fresh (suc k) d (omega (arith, below)))
    (other_text g.option _ (once 0 (suc k) d (omega arith) (omega (arith, below))))) in
    record {
      end = more.end;
      reached = ap (λ w. fold (walked s.rules []) w (words_of given)) closed ∙ more.reached;
      settles = more.settles ∙ ap rest (append_assoc done (row_of g.option g.value ∷ []) (rows_of given));
      settle_faultless = more.settle_faultless;
      faultless =
          past _ _ (option_faultless s g.option f h passes)
          ∙ (past _ _ (ap (λ w. turn_fault s [] w g.value) opened ∙ value_faultless s g.option f done g.value good)
          ∙ (ap (λ w. walk_fault s [] w (words_of given)) closed ∙ more.faultless));
    }
