use Rattle.std.proofs.Common.{◌≡◌, List, [], ◌∷◌, sym, ap, subst, length, length-append, arith}
use Rattle.std.specs.declared.alloc.Global.{Global}
use Rattle.std.specs.declared.vec.Vec.{Vec}
use Rattle.register_rules.specs.declared.equal_registers.settings.Setting.{Setting}
use Rattle.register_rules.specs.EqualRegisters.Settings.{list_at}
use Rattle.register_rules.proofs.EqualRegisters.ListLaws.{none_more}
use Rattle.register_rules.proofs.equal_registers.settings.no_lists.Goals as goal

pub filling-preserved : goal.filling-preserved
filling-preserved c =
    let l = c.filling in
    let is = c.in_ok-push.ensures.items in
    record {
      few = omega (arith, ap length is, length-append l.lists.items (c.new.result ∷ []));
      none = λ k. subst (λ xs. list_at xs k ≡ []) (sym {A = List (Vec Setting Global)} is) (none_more l.lists.items c.new.result k c.new.ensures.items l.invariant.none);
    }

pub returns : goal.returns
returns c = record { count_is = omega arith; each = λ k below. c.filling.invariant.none k }
