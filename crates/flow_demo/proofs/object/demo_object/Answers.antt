use Rattle.std.proofs.Common.{◌∙◌, refl}
use Rattle.std.proofs.lemmas.Result.{IfOk-weaker}
use Rattle.flow_demo.specs.Program.{demo_insns}
use Rattle.flow_demo.proofs.Writable.{insns_are}
use Rattle.flow_demo.proofs.Written.{object_is}
use Rattle.flow_demo.proofs.object.demo_object.Goals as goal

pub code_of-requires : goal.code_of-requires
unfolding demo_insns
code_of-requires c = insns_are

pub returns : goal.returns
unfolding demo_insns
returns c =
    IfOk-weaker c.object_of.result _ _
    (λ object bytes. object_is c.reads_program.ensures c.keeps_numbers.ensures object.items _ _ (c.deref.ensures.value ∙ c.in_ok-code.ensures) refl refl bytes)
    c.object_of.ensures.bytes
