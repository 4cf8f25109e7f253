-- A command that is built finds its options by their names.
use Rattle.std.proofs.Common.{◌≡◌, ◌∙◌, sym, ap, refl, ℕ, zero, suc, Bool, true, false, true≢false, inl, inr, ◌⊎◌, List, [], ◌∷◌, ◌++◌, map, Contains, arith, Some, None}
use Rattle.std.specs.Str.{bytes_eq}
use Rattle.std.specs.List.{list_all}
use Rattle.std.proofs.lemmas.Slice.Eq.{bytes_eq-Decides}
use Rattle.std.proofs.lemmas.List.Elements.{Contains-append_cases}
use Rattle.clap.specs.Lexer.{long_of}
use Rattle.clap.specs.Walk.{Rule, arg_by_id, arg_by_long}
use Rattle.clap.specs.Simple.{Shape, filled, help_rule, new_rule, new_shape, with_index}
use Rattle.clap.specs.declared.builder.action.ArgAction.TheVariants.{Set}
use Rattle.clap.specs.declared.builder.value_parser.ValueParser.TheVariants as parser
use Rattle.command_line.specs.Commands.{CommandForm}
use Rattle.command_line.proofs.Lists.{is_long, no_end, passes_at, read_long, same_text}

-- an option that is built
abbrev pub built_option : Bool → List ℕ → Rule
built_option required name = record (new_rule name) {
  long = Some name;
  required = required;
  action = Some Set;
  range = Some (record { start_inclusive = 1; end_inclusive = 1 });
  parser = Some parser.String;
}

abbrev pub built_options : CommandForm → List Rule
built_options form = map (built_option true) form.required ++ (map (built_option false) form.optional ++ with_index 1 (filled help_rule) ∷ [])

-- the subcommand that is built
abbrev pub built_command : CommandForm → Shape
built_command form = record (new_shape form.name) { rules = built_options form; disable_help_subcommand = true; is_built = true }

-- the option that is found by its name
pub record Found (rules : List Rule) (name : List ℕ) : Type 0 where
  pub required : Bool
  pub by_long : arg_by_long rules name ≡ Some (built_option required name)
  pub by_id : arg_by_id rules name ≡ Some (built_option required name)

found_behind : (required : Bool) (names : List (List ℕ)) (more : List Rule) (name : List ℕ) → Contains names name ⊎ Found more name → Found (map (built_option required) names ++ more) name
found_behind required [] more name (inl (k, below, at)) = absurd (omega (arith, below))
found_behind required [] more name (inr found) = found
found_behind required (n ∷ names) more name there = go (bytes_eq n name) refl (λ t. found_behind required names more name t)
  where
    later : bytes_eq n name ≡ false → Contains (n ∷ names) name ⊎ Found more name → Contains names name ⊎ Found more name
    later other (inl (zero, below, at)) = absurd (true≢false (sym (same_text name) ∙ ap (λ t. bytes_eq t name) (sym at) ∙ other))
    later other (inl (suc k, below, at)) = inl (k, omega (arith, below), at)
    later other (inr found) = inr found

    go : (v : Bool) → bytes_eq n name ≡ v → (Contains names name ⊎ Found more name → Found (map (built_option required) names ++ more) name)
        → Found (map (built_option required) (n ∷ names) ++ more) name
    go true e next =
        let is : n ≡ name = (bytes_eq-Decides n name).0 e in
        record {
          required = required;
          by_long = rw e (ap (λ t. Some (built_option required t)) is);
          by_id = rw e (ap (λ t. Some (built_option required t)) is);
        }
    go false e next =
        let found = next (later e there) in
        record {
          required = found.required;
          by_long = rw e found.by_long;
          by_id = rw e found.by_id;
        }

-- an option of the command, as the walk over the words meets it
pub record Fits (rules : List Rule) (name : List ℕ) : Type 0 where
  pub required : Bool
  pub by_long : arg_by_long rules name ≡ Some (built_option required name)
  pub by_id : arg_by_id rules name ≡ Some (built_option required name)
  pub as_long : long_of (45 ∷ 45 ∷ name) ≡ Some (name, None)
  pub no_end : bytes_eq (45 ∷ 45 ∷ name) (45 ∷ 45 ∷ []) ≡ false

pub fits : (form : CommandForm) (name : List ℕ) → list_all is_long (form.required ++ form.optional) ≡ true → Contains (form.required ++ form.optional) name → Fits (built_options form) name
fits form name named there =
    let long = passes_at is_long (form.required ++ form.optional) name named there in
    let found = found_behind true form.required _ name (either (Contains-append_cases form.required form.optional name there)) in
    record {
      required = found.required;
      by_long = found.by_long;
      by_id = found.by_id;
      as_long = read_long name long;
      no_end = no_end name long;
    }
  where
    either : Contains form.required name ⊎ Contains form.optional name
        → Contains form.required name ⊎ Found (map (built_option false) form.optional ++ with_index 1 (filled help_rule) ∷ []) name
    either (inl there) = inl there
    either (inr there) = inr (found_behind false form.optional _ name (inl there))
