-- Plain words are taken, and ask for what their values mean.
use Rattle.std.proofs.Common.{◌≡◌, ◌≢◌, ◌∙◌, sym, ap, ap₂, subst, refl, ℕ, suc, Bool, true, false, not, ◌&&◌, ◌||◌, List, [], ◌∷◌, ◌++◌, map, fold, find, codes, All, Contains, arith, Option, Some, None, is_some, option_map, unwrap_or}
use Rattle.std.specs.Str.{bytes_eq}
use Rattle.std.specs.List.{list_all, list_any}
use Rattle.std.specs.Option.{option_map_or}
use Rattle.std.proofs.lemmas.List.{append-nil, append_assoc}
use Rattle.std.proofs.lemmas.List.Elements.{All-cons, All-contains, All-nil}
use Rattle.clap.specs.Walk.{Held, Names, Row, Rule, Walk, answers_to, finished, has_row, idle, is_empty, nothing_held, rows_after, settled, subcommand_met, walk, walk_from, walked, with_default}
use Rattle.clap.specs.Simple.{built, entered, filled, help_rule, label_of, names_of, rows_at, subcommand_of, with_index}
use Rattle.clap.specs.Kinds.{or_else, check_kinds}
use Rattle.clap.specs.Takes.{is_given}
use Rattle.clap.specs.Faults.{built_fault, check_fault, default_fault, defaults_fault, entered_fault, fault_of, level_fault, settle_fault, turn_fault, walk_fault}
use Rattle.clap.proofs.FaultLemmas.{past, stopped_fault}
use Rattle.clap.proofs.SimpleLemmas.{is_nil}
use Rattle.clap.proofs.WalkLemmas.{both}
use Rattle.command_line.specs.Request.{Request}
use Rattle.command_line.specs.Commands.{CommandForm, app, commands, compile_form, run_form, sim_form, ref_form, report_form, prepare_form, demo_form}
use Rattle.command_line.specs.Means.{Means, Values}
use Rattle.command_line.specs.AsksFor.{AsksFor, Given, IsPlain, TakesPlain, values_in, values_of, words_of}
use Rattle.command_line.proofs.Lists.{is_long}
use Rattle.command_line.proofs.Options.{built_command, built_option, built_options, fits}
use Rattle.command_line.proofs.Walks.{Walks, first_given, given_given, rows_of, walks}

-- ---- after the walk of a command

-- no option has a default
abbrev has_no_defaults : List Rule → Bool
has_no_defaults = list_all (λ a. is_empty a.defaults)

default_none : (rows : List Row) (a : Rule) → a.defaults ≡ [] → (default_fault rows a ≡ []) × (with_default rows a ≡ rows)
default_none rows a none = go (has_row a.id rows) refl
  where
    go : (v : Bool) → has_row a.id rows ≡ v → (default_fault rows a ≡ []) × (with_default rows a ≡ rows)
    go true e = (rw e refl, rw e refl)
    go false e = (rw (e, none) refl, rw (e, none) refl)

no_defaults : (rows : List Row) (rules : List Rule) → has_no_defaults rules ≡ true → (defaults_fault rows rules ≡ []) × (fold with_default rows rules ≡ rows)
unfolding defaults_fault
no_defaults rows [] none = (refl, refl)
no_defaults rows (a ∷ rules) none =
    let parts = both (is_empty a.defaults) _ none in
    let here = default_none rows a (is_nil a.defaults parts.0) in
    let more = no_defaults rows rules parts.1 in (
      past _ _ here.0 ∙ (ap (λ rs. defaults_fault rs rules) here.1 ∙ more.0),
      ap (λ rs. fold with_default rs rules) here.1 ∙ more.1,
    )

abbrev is_missing : List Row → Rule → Bool
is_missing rows a = a.required && not (is_given a.id rows)

optional_there : (rows : List Row) (names : List (List ℕ)) (more : List Rule) → list_any (is_missing rows) more ≡ false → list_any (is_missing rows) (map (built_option false) names ++ more) ≡ false
optional_there rows [] more none = none
optional_there rows (n ∷ names) more none = optional_there rows names more none

required_there : (rows : List Row) (names : List (List ℕ)) (more : List Rule) → All (λ n. is_given n rows ≡ true) names → list_any (is_missing rows) more ≡ false
    → list_any (is_missing rows) (map (built_option true) names ++ more) ≡ false
required_there rows [] more there none = none
required_there rows (n ∷ names) more there none =
    ap (λ v. not v || list_any (is_missing rows) (map (built_option true) names ++ more)) (there 0 n (omega arith))
    ∙ required_there rows names more (λ k d below. there (suc k) d (omega (arith, below))) none

module _ (form : CommandForm) (given : List Given) (none : has_no_defaults (built_options form) ≡ true) (w : Walks (built_command form) nothing_held given (rows_of given)) where
  clean : (defaults_fault (rows_of given) (built_options form) ≡ []) × (fold with_default (rows_of given) (built_options form) ≡ rows_of given)
  clean = no_defaults (rows_of given) (built_options form) none

  command_rows : rows_after (built_options form) [] (words_of given) ≡ rows_of given
  command_rows =
      ap (λ (x : Walk). finished (built_options form) x.held) w.reached
      ∙ (ap (λ (h : Held). fold with_default h.rows (built_options form)) w.settles ∙ clean.1)

  command_faultless : All (λ n. is_given n (rows_of given) ≡ true) form.required → level_fault (built_command form) [] nothing_held (words_of given) false [] ≡ []
  command_faultless there =
      let s = built_command form in
      let missing : list_any (is_missing (rows_of given)) (built_options form) ≡ false =
      required_there (rows_of given) form.required _ there (optional_there (rows_of given) form.optional (with_index 1 (filled help_rule) ∷ []) refl) in
      past _ _ w.faultless
      ∙ (ap (λ (x : Walk). or_else (settle_fault s.rules s.args_override_self x.held) (or_else (defaults_fault (settled s.rules x.held).rows s.rules) (check_fault s (finished s.rules x.held) false))) w.reached
      ∙ (past _ _ w.settle_faultless
      ∙ (ap (λ (h : Held). or_else (defaults_fault h.rows s.rules) (check_fault s (fold with_default h.rows s.rules) false)) w.settles
      ∙ (past _ _ clean.0 ∙ (ap (λ rs. check_fault s rs false) clean.1 ∙ ap (check_kinds false false) missing)))))

-- ---- the program above it

stays_stopped : (rules : List Rule) (names : Names) (w : Walk) (name : List ℕ) (ws more : List (List ℕ))
    → fold (walked rules names) (record w { stopped = Some (name, ws) }) more ≡ record w { stopped = Some (name, ws ++ more) }
unfolding walked
stays_stopped rules names w name ws [] = ap (λ xs. record w { stopped = Some (name, xs) }) (sym (append-nil ws))
stays_stopped rules names w name ws (x ∷ more) =
    stays_stopped rules names w name (ws ++ x ∷ []) more ∙ ap (λ xs. record w { stopped = Some (name, xs) }) (append_assoc ws (x ∷ []) more)

-- what the program that is built has of a command
pub record Listed (form : CommandForm) : Type 0 where
  met : subcommand_met (names_of (built app)) idle form.name ≡ Some form.name
  no_help : bytes_eq form.name (codes "help") ≡ false
  found : find (λ s. answers_to form.name (label_of s)) (built app).subs ≡ Some (built_command form)
  no_defaults : has_no_defaults (built_options form) ≡ true
  named : list_all is_long (form.required ++ form.optional) ≡ true

all_listed : All Listed commands
all_listed =
    All-cons Listed compile_form (run_form ∷ sim_form ∷ ref_form ∷ report_form ∷ prepare_form ∷ demo_form ∷ []) (record { met = refl; no_help = refl; found = refl; no_defaults = refl; named = refl })
    (All-cons Listed run_form (sim_form ∷ ref_form ∷ report_form ∷ prepare_form ∷ demo_form ∷ []) (record { met = refl; no_help = refl; found = refl; no_defaults = refl; named = refl })
    (All-cons Listed sim_form (ref_form ∷ report_form ∷ prepare_form ∷ demo_form ∷ []) (record { met = refl; no_help = refl; found = refl; no_defaults = refl; named = refl })
    (All-cons Listed ref_form (report_form ∷ prepare_form ∷ demo_form ∷ []) (record { met = refl; no_help = refl; found = refl; no_defaults = refl; named = refl })
    (All-cons Listed report_form (prepare_form ∷ demo_form ∷ []) (record { met = refl; no_help = refl; found = refl; no_defaults = refl; named = refl })
    (All-cons Listed prepare_form (demo_form ∷ []) (record { met = refl; no_help = refl; found = refl; no_defaults = refl; named = refl })
    (All-cons Listed demo_form [] (record { met = refl; no_help = refl; found = refl; no_defaults = refl; named = refl }) (All-nil Listed)))))))

pub listed : (form : CommandForm) → Contains commands form → Listed form
listed form there = All-contains Listed commands form all_listed there

top_clean : defaults_fault [] (built app).top.rules ≡ []
unfolding defaults_fault
top_clean = refl

top_checked : check_fault (built app).top (finished (built app).top.rules nothing_held) true ≡ []
top_checked = refl

module _ (form : CommandForm) (l : Listed form) (more : List (List ℕ)) where
  abbrev stopped_at : Walk
  stopped_at = record (walk_from nothing_held) { stopped = Some (form.name, more) }

  first_word : walked (built app).top.rules (names_of (built app)) (walk_from nothing_held) form.name ≡ record (walk_from nothing_held) { stopped = Some (form.name, []) }
  unfolding walked
  first_word = rw l.met refl

  program_walk : walk (built app).top.rules (names_of (built app)) nothing_held (form.name ∷ more) ≡ stopped_at
  program_walk =
      ap (λ w. fold (walked (built app).top.rules (names_of (built app))) w more) first_word
      ∙ stays_stopped (built app).top.rules (names_of (built app)) (walk_from nothing_held) form.name [] more

  program_rows : (rows : List Row) → rows_after (built_options form) [] more ≡ rows → entered (built app) (walk (built app).top.rules (names_of (built app)) nothing_held (form.name ∷ more)).stopped ≡ Some (form.name, rows)
  program_rows rows are =
      ap (λ (w : Walk). entered (built app) w.stopped) program_walk
      ∙ (ap (option_map (λ s. rows_at s more)) l.found ∙ ap (λ rs. Some (form.name, rs)) are)

  words_faultless : walk_fault (built app).top (names_of (built app)) (walk_from nothing_held) (form.name ∷ more) ≡ []
  unfolding walk_fault
  words_faultless =
      let t = (built app).top in
      let here : turn_fault t (names_of (built app)) (walk_from nothing_held) form.name ≡ [] = rw (l.met, l.no_help) refl in
      past _ _ here
      ∙ (ap (λ w. walk_fault t (names_of (built app)) w more) first_word ∙ stopped_fault t (names_of (built app)) (walk_from nothing_held) (form.name, []) more)

  -- the program finds the faults that the command finds
  pub program_fault : built_fault (built app) nothing_held (form.name ∷ more) ≡ or_else (level_fault (built_command form) [] nothing_held more false []) []
  program_fault =
      let a = built app in
      let below = level_fault (built_command form) [] nothing_held more false [] in
      let inner : entered_fault a (Some (form.name, more)) ≡ below = ap (λ o. option_map_or (λ s. level_fault s [] nothing_held more false []) o []) l.found in
      let checked : check_fault a.top (finished a.top.rules nothing_held) (is_some (entered a (Some (form.name, more)))) ≡ [] =
      ap (λ o. check_fault a.top (finished a.top.rules nothing_held) (is_some (option_map (λ s. rows_at s more) o))) l.found ∙ top_checked in
      past _ _ words_faultless
      ∙ (ap (λ (w : Walk). or_else (entered_fault a w.stopped) (or_else (settle_fault a.top.rules a.top.args_override_self w.held) (or_else (defaults_fault (settled a.top.rules w.held).rows a.top.rules) (check_fault a.top (finished a.top.rules w.held) (is_some (entered a w.stopped)))))) program_walk
      ∙ ap₂ or_else inner (past _ _ top_clean ∙ checked))

-- ---- plain words

some_given : (o : Option (List ℕ)) → o ≢ None → is_some o ≡ true
some_given None there = absurd (there refl)
some_given (Some v) there = refl

module _ (words : List (List ℕ)) (form : CommandForm) (given : List Given) (plain : IsPlain words form given) where
  l : Listed form
  l = listed form plain.listed

  walk_is : Walks (built_command form) nothing_held given (rows_of given)
  walk_is =
      walks (built_command form) nothing_held [] given refl refl
      (λ k d below. fits form _ l.named (plain.known k d below)) plain.proper plain.once (λ k d below. refl)

  taken : fault_of app words ≡ []
  taken =
      ap (fault_of app) plain.are
      ∙ (program_fault form l (words_of given)
      ∙ past _ _ (command_faultless form given l.no_defaults walk_is (λ k d below. given_given given _ ∙ some_given _ (plain.whole k d below))))

  matched : subcommand_of app words ≡ Some (form.name, rows_of given)
  matched = ap (subcommand_of app) plain.are ∙ program_rows form l (words_of given) (rows_of given) (command_rows form given l.no_defaults walk_is)

  same_values : values_in (rows_of given) ≡ values_of given
  same_values = λ i name. first_given given name i

  plain_means : (request : Request) → AsksFor words request → Means form.name (values_of given) request
  plain_means request asks =
      let both : (asks.command, asks.rows) ≡ (form.name, rows_of given) = ap (λ o. unwrap_or o (asks.command, asks.rows)) (sym asks.matched ∙ matched) in
      let P : List ℕ × List Row → Type 0 = λ p. Means p.0 (values_in p.1) request in
      let Q : Values → Type 0 = λ values. Means form.name values request in
      subst Q same_values (subst P both asks.meant)

  plain_asks : (request : Request) → Means form.name (values_of given) request → AsksFor words request
  plain_asks request means =
      let Q : Values → Type 0 = λ values. Means form.name values request in
      record { command = form.name; rows = rows_of given; taken = taken; matched = matched; meant = subst Q (sym same_values) means }

pub takes_plain : (words : List (List ℕ)) → TakesPlain words
takes_plain words form given plain request = (plain_means words form given plain request, plain_asks words form given plain request)
