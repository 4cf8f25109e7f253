-- Which words ask for what.
use Rattle.std.specs.Prelude.{◌≡◌, ◌≢◌, ◌↔◌, ◌⊎◌, ℕ, ◌==◌, Bool, false, not, List, [], ◌∷◌, ◌++◌, Some, None, option_map, find, IsTrue, All, AllPairs, Contains, codes}
use Rattle.std.specs.Str.{bytes_eq}
use Rattle.clap.specs.Walk.{Row, first_of}
use Rattle.clap.specs.Simple.{subcommand_of}
use Rattle.clap.specs.Faults.{fault_of}
use Rattle.command_line.specs.Request.{Request}
use Rattle.command_line.specs.Commands.{CommandForm, app, commands}
use Rattle.command_line.specs.Means.{Means, Values}

-- the values of the options in the matches of a command
abbrev pub values_in : List Row → Values
values_in rows = λ option. first_of option rows

-- `clap` finds no fault in the words, the first of which is the program's name, and the command and the values of its matches
-- mean this.
pub record AsksFor (words : List (List ℕ)) (request : Request) : Type 0 where
  pub command : List ℕ
  pub rows : List Row
  pub taken : fault_of app words ≡ []
  pub matched : subcommand_of app words ≡ Some (command, rows)
  pub meant : Means command (values_in rows) request

-- ---- plain words

-- an option's name, and its value
pub record Given : Type 0 where
  pub option : List ℕ
  pub value : List ℕ

-- each as two words, `--NAME VALUE`
abbrev pub words_of : List Given → List (List ℕ)
words_of [] = []
words_of (g ∷ rest) = (codes "--" ++ g.option) ∷ g.value ∷ words_of rest

abbrev pub values_of : List Given → Values
values_of given = λ option. option_map (λ g. g.value) (find (λ g. bytes_eq g.option option) given)

-- a plain value is not empty, and does not begin with `-` (45)
abbrev pub is_value : List ℕ → Bool
is_value [] = false
is_value (first ∷ rest) = not (first == 45)

-- Plain words are the program's name, a command, and in any order its options with their values: each that the command requires,
-- any others that it may have, and none twice.
pub record IsPlain (words : List (List ℕ)) (command : CommandForm) (given : List Given) : Type 0 where
  pub program : List ℕ
  pub are : words ≡ program ∷ command.name ∷ words_of given
  pub listed : Contains commands command
  pub known : All (λ g. Contains (command.required ++ command.optional) g.option) given
  pub proper : All (λ g. IsTrue (is_value g.value)) given
  pub once : AllPairs (λ g h. g.option ≢ h.option) given
  pub whole : All (λ option. values_of given option ≢ None) command.required

-- plain words are taken, and ask for what their values mean
abbrev pub TakesPlain : List (List ℕ) → Type 0
TakesPlain words = (command : CommandForm) (given : List Given) → IsPlain words command given
    → (request : Request) → AsksFor words request ↔ Means command.name (values_of given) request

-- ---- requests for help

abbrev pub help_flags : List (List ℕ)
help_flags = codes "--help" ∷ codes "-h" ∷ []

-- `help`, `--help` or `-h` after the program's name
pub record IsProgramHelp (words : List (List ℕ)) : Type 0 where
  pub program : List ℕ
  pub word : List ℕ
  pub rest : List (List ℕ)
  pub are : words ≡ program ∷ word ∷ rest
  pub asks : Contains (codes "help" ∷ help_flags) word

-- `--help` or `-h` after a command
pub record IsCommandHelp (words : List (List ℕ)) : Type 0 where
  pub program : List ℕ
  pub command : CommandForm
  pub word : List ℕ
  pub rest : List (List ℕ)
  pub are : words ≡ program ∷ command.name ∷ word ∷ rest
  pub listed : Contains commands command
  pub asks : Contains help_flags word

abbrev pub AsksForHelp : List (List ℕ) → Type 0
AsksForHelp words = IsProgramHelp words ⊎ IsCommandHelp words
