-- An allowed instruction passes the tests of its operation.
use Rattle.std.proofs.Common.{◌≡◌, Ok, Err, List}
use Rattle.xdp_machine.specs.bpf_isa.declared.instruction.Insn.{Insn}
use Rattle.xdp_machine.specs.xdp_maps.declared.decl.MapDecl.{MapDecl}
use Rattle.kind_core.specs.declared.kind.Kinds.{Kinds}
use Rattle.xdp_state.specs.declared.refusal.Why.{Why}
use Rattle.kind_core.specs.Tests.{◌>>=◌, Test, passed}
use Rattle.kind_core.specs.Profile.{profiled}
use Rattle.kind_core.specs.Effects.{effect_of, effect_as, verdict}

-- what a test refuses is not allowed
pub not_allowed : (P : Type 0) (y : Why) → verdict (Err y) ≡ passed → P
not_allowed P y e = absurd (cc e)

behind_test : (decls : List MapDecl) (k : Kinds) (i : Insn) (t : Test) → verdict (t >>= λ _. effect_as decls k i i.op) ≡ passed → verdict (effect_as decls k i i.op) ≡ passed
behind_test decls k i (Ok u) e = e
behind_test decls k i (Err y) e = not_allowed _ y e

pub allowed_as : (decls : List MapDecl) (k : Kinds) (i : Insn) → verdict (effect_of decls k i) ≡ passed → verdict (effect_as decls k i i.op) ≡ passed
unfolding effect_of
allowed_as decls k i e = behind_test decls k i (profiled i k) e
