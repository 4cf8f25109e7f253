use Rattle.std.proofs.Common.{◌≡◌, ◌+◌, ◌-◌, ◌++◌, length, take}
use Rattle.std.specs.Option.{option_map}
use Rattle.xdp_machine.specs.Helpers.{stack_bytes}
use Rattle.xdp_state.proofs.stack.Stack.fill.Given as goal

abbrev pub invariant-loop-i : goal.invariant-loop-i
invariant-loop-i l =
    option_map (λ bs. take l.i l.into ++ bs) (stack_bytes l.self (l.at + l.i) (length l.fn.into - l.i))
    ≡ stack_bytes l.self l.at (length l.fn.into)
