-- Whether the key of a change comes or goes, step by step.
use Rattle.std.specs.Prelude.{if◌then◌else◌}
use Rattle.std.proofs.Common.{◌∙◌, ℕ, ◌&&◌, ◌||◌, List, [], ◌∷◌, ap, arith}
use Rattle.block_core.specs.declared.name.Name.{Name}
use Rattle.block_core.specs.Blocks.{BlockWireTree}
use Rattle.overlay_net.specs.cell_core.Cells.{bit, on, bits_from}
use Rattle.overlay_net.specs.cell_core.Sites.{ProgramView, site_at}
use Rattle.overlay_net.specs.hazard_core.Tables.{TableState}
use Rattle.overlay_net.specs.hazard_core.StageValues.{StageValues, is_delete}
use Rattle.overlay_net.specs.hazard_core.Commits.{makes_entry}
use Rattle.overlay_net.specs.cell_nets.declared.operand.Operand.{Operand}
use Rattle.overlay_net.specs.cell_nets.declared.operand.Operand.TheVariants.{Known}
use Rattle.overlay_net.specs.cell_nets.Operands.{number_in, IsAvailable}
use Rattle.overlay_net.specs.cell_nets.Wires.{always, Gives}
use Rattle.overlay_net.specs.cell_nets.StepNets.Standing.{Stands}
use Rattle.overlay_net.proofs.cell_nets_laws.StepNets.ChainLaws.{starts, next}
use Rattle.overlay_net.proofs.cell_nets_laws.StepNets.StepLaws.{all_each, on_bit}
use Rattle.overlay_net.proofs.cell_core_laws.BitLaws.{or_chosen}
use Rattle.commit_net.specs.declared.choosing.CommitNets.{CommitNets}
use Rattle.commit_net.specs.Choosing.{all_read, IsChosen, Commits}
use Rattle.commit_net.specs.ChangeNet.Changes.{ShowsPresence}
use Rattle.commit_net.proofs.ChangeNet.ChainLemmas.{first_of, tail, stands_as, next_each}

-- an operation that commits
record Operation : Type 0 where
  p : ProgramView
  t : TableState
  taken : List ℕ
  h : StageValues
  j : ℕ

no_operation : Operation
no_operation = record {
  p = record { cells = []; nodes = []; sites = []; verdict = 0; target = 0; frame = [] };
  t = record { decls = []; tables = [] };
  taken = [];
  h = record { values = []; pointers = [] };
  j = 0;
}

module _ {P : Type 0} (part : P) (ns : List (CommitNets (Name P))) (c : Operand (Name P)) where
  pub presence_stands :
      {old one two three new : List (BlockWireTree (Name P))} (i e m o : Operand (Name P)) → ((p : ProgramView) (t : TableState) (taken : List ℕ) (h : StageValues) (j : ℕ) → Gives part old one (all_read ns) (λ v. Commits v p t taken h j ns) (λ v. bit (makes_entry p t h j)) 1 i)
      → ((p : ProgramView) (j : ℕ) → Gives part one two (all_read ns) (λ v. IsChosen v p j ns) (λ v. bit (is_delete (site_at p.sites j).act)) 1 e) → Gives part two three (e ∷ Known 1 ∷ i ∷ []) always (λ v. bits_from (if on (number_in v e) then 1 else number_in v i) 0 1) 1 m
      → Gives part three new (c ∷ m ∷ []) always (λ v. bit (on (number_in v c) && on (number_in v m))) 1 o → Stands part old new (c ∷ all_read ns) always (o ∷ []) (λ v. ShowsPresence v ns c o)
  presence_stands {old = old} i e m o gi ge gm go =
      let ins = c ∷ all_read ns in
      let x = next_each (starts part old ins always) no_operation (λ q. gi q.p q.t q.taken q.h q.j) (λ all h. tail (IsAvailable all) c (all_read ns) h) in
      let y = next_each x no_operation (λ q. ge q.p q.j) (λ all h. tail (IsAvailable all) c (all_read ns) (tail (IsAvailable all) i ins h)) in
      let z = next y gm (λ all h. all_each (IsAvailable all) (e ∷ Known 1 ∷ i ∷ []) (h 0 e (omega arith), (tt, (h 1 e (omega arith), tt)))) (λ v f k. tt) in
      let w = next z go (λ all h. all_each (IsAvailable all) (c ∷ m ∷ []) (h 3 e (omega arith), (h 0 e (omega arith), tt))) (λ v f k. tt) in
      stands_as (o ∷ []) (λ v. ShowsPresence v ns c o) w (λ all h. first_of (IsAvailable all) o [] (h 0 o (omega arith)) (λ k d lt. absurd (omega (arith, lt))))
      (λ v k. (
        λ off. k.1 ∙ ap (λ b. bit (b && on (number_in v m))) off,
        λ p t taken h j commits yes.
            let q : Operation = record { p = p; t = t; taken = taken; h = h; j = j } in
            let made = k.0.0.0.1 q commits in
            let gone = k.0.0.1 q commits.chosen in
            k.1
            ∙ ap (λ b. bit (b && on (number_in v m))) yes
            ∙ ap bit (ap on (k.0.1 ∙ or_chosen (on (number_in v e)) (makes_entry p t h j) (number_in v i) made) ∙ on_bit (on (number_in v e) || makes_entry p t h j) ∙ ap (λ b. b || makes_entry p t h j) (ap on gone ∙ on_bit (is_delete (site_at p.sites j).act))),
      ))
