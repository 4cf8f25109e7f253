-- One more symbol is looked at; at the end all are.
use Rattle.std.proofs.Common.{◌∙◌, ◌<◌, ℕ, ◌&&◌, Bool, sym, subst, arith}
use Rattle.std.specs.Option.{option_copied}
use Rattle.elf_view.specs.File.{e_shnum, entry_count, symbol_table}
use Rattle.xdp_object.specs.Functions.{is_asked_for, is_function, programs, symbol_of}
use Rattle.xdp_object.proofs.Searches.{found_all, found_at, found_more, found_same, many_found, none_found, one_found}
use Rattle.xdp_object.proofs.functions.find_program.Goals as goal
use Rattle.xdp_object.proofs.functions.find_program.Goals.{then-is_program, else-is_program}

pub loop-n-preserved : goal.loop-n-preserved
loop-n-preserved c =
    let view = c.args.view.now in
    let asked : ℕ → Bool = λ n. is_function view n && is_asked_for (option_copied c.args.choice) view n in
    elim c.if-is_program.branch [
      | then-is_program w ↦ (
        found_at _ _ _ _ _ _ w.count-is w.last-is
            (found_more asked c.loop-n.n c.loop-n.count c.loop-n.last c.loop-n.invariant.0 (sym c.is_program.ensures.value ∙ w.if-is_program.true)),
        λ _. subst (λ (k : ℕ). (symbol_of view k).section < e_shnum view) (sym w.last-is) (c.is_program.ensures.section w.if-is_program.true),
      )
      | else-is_program w ↦ (
        found_at _ _ _ _ _ _ w.count-is w.last-is
            (found_same asked c.loop-n.n c.loop-n.count c.loop-n.last c.loop-n.invariant.0 (sym c.is_program.ensures.value ∙ w.if-is_program.false)),
        λ some. subst (λ (k : ℕ). (symbol_of view k).section < e_shnum view) (sym w.last-is) (c.loop-n.invariant.1 (omega (arith, w.count-is, some))),
      )
    ]

pub returns-in-0-clause-fault : goal.returns-in-0-clause-fault
unfolding programs
returns-in-0-clause-fault c =
    let view = c.args.view.now in
    let asked : ℕ → Bool = λ n. is_function view n && is_asked_for (option_copied c.args.choice) view n in
    none_found _ _ _ _ (found_all asked c.loop-n.n (entry_count 24 (symbol_table view)) _ _ (omega arith) c.loop-n.invariant.0) c.in-0.is

pub returns-in-1-clause-fault : goal.returns-in-1-clause-fault
unfolding programs
returns-in-1-clause-fault c =
    let view = c.args.view.now in
    let asked : ℕ → Bool = λ n. is_function view n && is_asked_for (option_copied c.args.choice) view n in
    one_found _ _ _ _ (found_all asked c.loop-n.n (entry_count 24 (symbol_table view)) _ _ (omega arith) c.loop-n.invariant.0) c.in-1.is

pub returns-in-1-clause-found : goal.returns-in-1-clause-found
unfolding programs
returns-in-1-clause-found c =
    let view = c.args.view.now in
    let asked : ℕ → Bool = λ n. is_function view n && is_asked_for (option_copied c.args.choice) view n in
    (found_all asked c.loop-n.n (entry_count 24 (symbol_table view)) _ _ (omega arith) c.loop-n.invariant.0).sole c.in-1.is

pub returns-in_default-clause-fault : goal.returns-in_default-clause-fault
unfolding programs
returns-in_default-clause-fault c =
    let view = c.args.view.now in
    let asked : ℕ → Bool = λ n. is_function view n && is_asked_for (option_copied c.args.choice) view n in
    many_found _ _ _ _ (found_all asked c.loop-n.n (entry_count 24 (symbol_table view)) _ _ (omega arith) c.loop-n.invariant.0) (λ e. omega arith) (λ e. omega arith)
