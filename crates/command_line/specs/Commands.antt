-- The commands with their options, and the command line that they make in the words of `clap`.
use Rattle.std.specs.Prelude.{ℕ, Bool, true, false, List, [], ◌∷◌, Some, fold, codes}
use Rattle.clap.specs.Walk.{Rule}
use Rattle.clap.specs.Simple.{App, new_app, new_rule, with_rule, with_subcommand}

-- a command, and the names of its options, each of which takes one value: those that it requires, and those that it may have
pub record CommandForm : Type 0 where
  pub name : List ℕ
  pub required : List (List ℕ)
  pub optional : List (List ℕ)

abbrev pub compile_form : CommandForm
compile_form = record {
  name = codes "compile";
  required = codes "object" ∷ codes "verilog" ∷ [];
  optional = codes "program" ∷ codes "hash-cap" ∷ [];
}

abbrev pub run_form : CommandForm
run_form = record {
  name = codes "run";
  required = codes "object" ∷ codes "capture" ∷ codes "verilog" ∷ codes "answer" ∷ codes "verdicts" ∷ codes "final" ∷ [];
  optional = codes "maps" ∷ codes "program" ∷ codes "hash-cap" ∷ codes "ifindex" ∷ [];
}

abbrev pub sim_form : CommandForm
sim_form = record {
  name = codes "sim";
  required = codes "clocks" ∷ run_form.required;
  optional = codes "events" ∷ run_form.optional;
}

abbrev pub ref_form : CommandForm
ref_form = record {
  name = codes "ref";
  required = codes "object" ∷ codes "capture" ∷ codes "answer" ∷ codes "verdicts" ∷ codes "final" ∷ [];
  optional = run_form.optional;
}

abbrev pub report_form : CommandForm
report_form = record {
  name = codes "report";
  required = codes "object" ∷ [];
  optional = codes "program" ∷ codes "hash-cap" ∷ [];
}

abbrev pub prepare_form : CommandForm
prepare_form = record {
  name = codes "prepare";
  required = codes "object" ∷ codes "output" ∷ [];
  optional = codes "program" ∷ codes "hash-cap" ∷ [];
}

abbrev pub demo_form : CommandForm
demo_form = record {
  name = codes "demo";
  required = codes "seed" ∷ codes "packets" ∷ [];
  optional = [];
}

abbrev pub commands : List CommandForm
commands = compile_form ∷ run_form ∷ sim_form ∷ ref_form ∷ report_form ∷ prepare_form ∷ demo_form ∷ []

-- the option `--NAME`
abbrev pub option_rule : Bool → List ℕ → Rule
option_rule required name = record (new_rule name) { long = Some name; required = required }

abbrev pub with_options : App → Bool → List (List ℕ) → App
with_options command required names = fold (λ a name. with_rule a (option_rule required name)) command names

-- the subcommand of a command
abbrev pub command_app : CommandForm → App
command_app form = with_options (with_options (new_app form.name) true form.required) false form.optional

-- the program with a subcommand for each of these commands
abbrev pub app_of_forms : List CommandForm → App
app_of_forms forms = fold (λ a form. with_subcommand a (command_app form).top) (new_app (codes "ehdl")) forms

abbrev pub app : App
app = app_of_forms commands
