-- The steps that build the program's command line.
use Rattle.std.proofs.Common.{◌≡◌, ◌∙◌, sym, ap, ℕ, ◌+◌, ◌<◌, Bool, true, false, ◌||◌, List, [], ◌∷◌, ◌++◌, map, take, length, get_or, codes, Bor}
use Rattle.std.proofs.lemmas.List.{map_more}
use Rattle.std.proofs.lemmas.List.Sums.{fold-append}
use Rattle.clap.specs.Walk.{texts}
use Rattle.clap.specs.Simple.{App, new_app, with_rule, with_subcommand}
use Rattle.command_line.specs.Commands.{app_of_forms, command_app, option_rule, with_options}
use Rattle.command_line.specs.Rows.{form_of}
use Rattle.command_line.specs.declared.parse.CommandRow.{CommandRow}

pub local_more : (new old start more : Bool) → new ≡ (old || more) → more ≡ false → old ≡ start → new ≡ start
local_more new true start more e none same = e ∙ same
local_more new false start more e none same = e ∙ (none ∙ same)

pub options_next : (a : App) (required : Bool) (names : List (Bor (List ℕ))) (i : ℕ) (n : Bor (List ℕ)) → i < length names → n ≡ get_or names i n
    → with_options a required (texts (take (i + 1) names)) ≡ with_rule (with_options a required (texts (take i names))) (option_rule required n.now)
options_next a required names i n below at =
    ap (with_options a required) (map_more (λ (s : Bor (List ℕ)). s.now) names i n below ∙ ap (λ (s : Bor (List ℕ)). texts (take i names) ++ s.now ∷ []) (sym at))
    ∙ fold-append (λ c name. with_rule c (option_rule required name)) a (texts (take i names)) (n.now ∷ [])

pub forms_next : (rows : List CommandRow) (i : ℕ) (d : CommandRow) → i < length rows
    → app_of_forms (map form_of (take (i + 1) rows)) ≡ with_subcommand (app_of_forms (map form_of (take i rows))) (command_app (form_of (get_or rows i d))).top
forms_next rows i d below =
    ap app_of_forms (map_more form_of rows i d below)
    ∙ fold-append (λ a form. with_subcommand a (command_app form).top) (new_app (codes "ehdl")) (map form_of (take i rows)) (form_of (get_or rows i d) ∷ [])
