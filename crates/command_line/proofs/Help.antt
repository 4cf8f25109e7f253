-- Requests for help ask for nothing.
use Rattle.std.proofs.Common.{inl, inr, ◌≡◌, ◌≢◌, ◌∙◌, sym, ap, refl, ℕ, false, List, [], ◌∷◌, codes, All}
use Rattle.std.proofs.lemmas.List.Elements.{All-cons, All-contains, All-nil}
use Rattle.clap.specs.Walk.{nothing_held}
use Rattle.clap.specs.Kinds.{Kinds, or_else}
use Rattle.clap.specs.Faults.{fault_of, level_fault}
use Rattle.clap.specs.declared.error.kind.ErrorKind.{ErrorKind}
use Rattle.clap.specs.declared.error.kind.ErrorKind.TheVariants.{DisplayHelp, InvalidSubcommand}
use Rattle.clap.proofs.OnLiterals.{clap_on_literals}
use Rattle.command_line.specs.Request.{Request}
use Rattle.command_line.specs.Commands.{CommandForm, app, commands, compile_form, run_form, sim_form, ref_form, report_form, prepare_form, demo_form}
use Rattle.command_line.specs.AsksFor.{AsksFor, AsksForHelp, IsCommandHelp, IsProgramHelp, help_flags}
use Rattle.command_line.proofs.Options.{built_command}
use Rattle.command_line.proofs.Taken.{listed, program_fault}

some_kind : {P : Type 0} (ks : Kinds) (k : ErrorKind) (more : Kinds) → ks ≡ k ∷ more → ks ≡ [] → P
some_kind ks k more e none = absurd cc

abbrev RefusesAbove : List ℕ → Type 0
RefusesAbove word = (program : List ℕ) (more : List (List ℕ)) → fault_of app (program ∷ word ∷ more) ≢ []

abbrev RefusesBehind : CommandForm → List ℕ → Type 0
RefusesBehind form word = (more : List (List ℕ)) → level_fault (built_command form) [] nothing_held (word ∷ more) false [] ≡ DisplayHelp ∷ []

above : All RefusesAbove (codes "help" ∷ help_flags)
unfolding clap_on_literals
above =
    All-cons RefusesAbove (codes "help") help_flags (λ program more. some_kind _ DisplayHelp (InvalidSubcommand ∷ []) refl)
    (All-cons RefusesAbove (codes "--help") (codes "-h" ∷ []) (λ program more. some_kind _ DisplayHelp [] refl)
    (All-cons RefusesAbove (codes "-h") [] (λ program more. some_kind _ DisplayHelp [] refl) (All-nil RefusesAbove)))

behind_of : (form : CommandForm) → RefusesBehind form (codes "--help") → RefusesBehind form (codes "-h") → All (RefusesBehind form) help_flags
behind_of form long short = All-cons (RefusesBehind form) (codes "--help") (codes "-h" ∷ []) long (All-cons (RefusesBehind form) (codes "-h") [] short (All-nil (RefusesBehind form)))

abbrev RefusesHelp : CommandForm → Type 0
RefusesHelp form = All (RefusesBehind form) help_flags

behind : All RefusesHelp commands
unfolding clap_on_literals
behind =
    All-cons RefusesHelp compile_form (run_form ∷ sim_form ∷ ref_form ∷ report_form ∷ prepare_form ∷ demo_form ∷ []) (behind_of compile_form (λ more. refl) (λ more. refl))
    (All-cons RefusesHelp run_form (sim_form ∷ ref_form ∷ report_form ∷ prepare_form ∷ demo_form ∷ []) (behind_of run_form (λ more. refl) (λ more. refl))
    (All-cons RefusesHelp sim_form (ref_form ∷ report_form ∷ prepare_form ∷ demo_form ∷ []) (behind_of sim_form (λ more. refl) (λ more. refl))
    (All-cons RefusesHelp ref_form (report_form ∷ prepare_form ∷ demo_form ∷ []) (behind_of ref_form (λ more. refl) (λ more. refl))
    (All-cons RefusesHelp report_form (prepare_form ∷ demo_form ∷ []) (behind_of report_form (λ more. refl) (λ more. refl))
    (All-cons RefusesHelp prepare_form (demo_form ∷ []) (behind_of prepare_form (λ more. refl) (λ more. refl))
    (All-cons RefusesHelp demo_form [] (behind_of demo_form (λ more. refl) (λ more. refl)) (All-nil RefusesHelp)))))))

program_help : (words : List (List ℕ)) → IsProgramHelp words → fault_of app words ≢ []
program_help words h none = All-contains RefusesAbove (codes "help" ∷ help_flags) h.word above h.asks h.program h.rest (ap (fault_of app) (sym h.are) ∙ none)

command_help : (words : List (List ℕ)) → IsCommandHelp words → fault_of app words ≢ []
command_help words h none =
    let below : RefusesBehind h.command h.word = All-contains (RefusesBehind h.command) help_flags h.word (All-contains RefusesHelp commands h.command behind h.listed) h.asks in
    some_kind (fault_of app words) DisplayHelp []
    (ap (fault_of app) h.are ∙ (program_fault h.command (listed h.command h.listed) (h.word ∷ h.rest) ∙ ap (λ ks. or_else ks []) (below h.rest))) none

pub help_refused : (words : List (List ℕ)) → AsksForHelp words → (request : Request) → ¬ AsksFor words request
help_refused words (inl h) request asks = program_help words h asks.taken
help_refused words (inr h) request asks = command_help words h asks.taken
