-- The order of the rules, and the fault of bytes that are no ELF object.
use Rattle.std.proofs.Common.{◌≡◌, ◌∙◌, ℕ, Option, Some, None, Result, Ok, Err, List, [], ◌∷◌, refl, sym, ap, subst}
use Rattle.std.specs.Option.{option_or}
use Rattle.std.specs.Result.{IfErr, IsErrAnd}
use Rattle.xdp_object.specs.declared.error.ObjectError.{ObjectError}
use Rattle.xdp_object.specs.Choice.{Chosen}
use Rattle.xdp_object.specs.Functions.{programs}
use Rattle.xdp_object.specs.Object.{FirstFault, fault_before_code, first_fault, program_symbol, too_long, wrong_count, wrong_elf, wrong_function}
use Rattle.xdp_object.specs.Object.FirstFault.{BeforeCode}

pub first_there : {X : Type 0} (a b : Option X) (x : X) → a ≡ Some x → option_or a b ≡ Some x
first_there a b x e = ap (λ o. option_or o b) e

pub next_there : {X : Type 0} (a b : Option X) (x : X) → a ≡ None → b ≡ Some x → option_or a b ≡ Some x
next_there a b x e f = ap (λ o. option_or o b) e ∙ f

pub both_none : {X : Type 0} (a b : Option X) → a ≡ None → b ≡ None → option_or a b ≡ None
both_none a b e f = ap (λ o. option_or o b) e ∙ f

pub option_or-assoc : {X : Type 0} (a b c : Option X) → option_or (option_or a b) c ≡ option_or a (option_or b c)
option_or-assoc None b c = refl
option_or-assoc (Some x) b c = refl

-- the rules after the first two
unfoldable pub rest_of : Chosen → List ℕ → Option ObjectError
rest_of choice bytes = first_fault (wrong_count (programs choice.program bytes) ∷ wrong_function bytes (program_symbol choice bytes) ∷ [])

pub opened_first : (choice : Chosen) (bytes : List ℕ)
    → fault_before_code choice bytes ≡ option_or (option_or (too_long bytes) (wrong_elf bytes)) (rest_of choice bytes)
unfolding fault_before_code rest_of
opened_first choice bytes = sym (option_or-assoc (too_long bytes) (wrong_elf bytes) (rest_of choice bytes))

-- bytes that are too many, or no ELF64 object for eBPF, have that fault
pub at_open : (choice : Chosen) (bytes : List ℕ) (e : ObjectError) → option_or (too_long bytes) (wrong_elf bytes) ≡ Some e
    → FirstFault choice bytes e
at_open choice bytes e h = BeforeCode (opened_first choice bytes ∙ first_there _ _ e h)

-- ---- an error that is passed on

pub passed_on : {T E : Type 0} (r : Result T E) (e : E) (P : E → Type 0) → IsErrAnd r (λ x. x ≡ e) → P e → IfErr r P
passed_on (Ok x) e P h p = tt
passed_on (Err x) e P h p = subst P (sym h) p
