use Rattle.std.proofs.Common.{◌≡◌, ◌≢◌, ◌<◌, false, length, get_or, sym, ap, ◌∙◌, arith, below_more}
use Rattle.std.specs.Prelude.{slice_set}
use Rattle.std.proofs.lemmas.List.{length-set, get_or-set_same, get_or-set_other, ext_get_or}
use Rattle.net_core.specs.declared.tree.Word.{Word}
use Rattle.net_core.specs.Value.{word, nothing}
use Rattle.net_core.specs.Ports.{port_list, words_by, words_of}
use Rattle.event_sim.proofs.States.{words_counted}
use Rattle.event_sim.proofs.Walks.{word_by, numbers_counted}
use Rattle.event_sim.proofs.outputs.write_inputs.Goals as goal

pub loop-port-preserved : goal.loop-port-preserved
loop-port-preserved c =
    let ports = c.loop-port.ports in
    let port = c.loop-port.port in
    let numbers = c.numbers_at-numbers.result in
    let w : Word = word c.input_width-width.result (get_or numbers port 0) in
    let count = c.loop-port.invariant.count in
    let inside : port < length ports = omega (arith, count, c.loop-port-test.true) in
    let long = ap length c.numbers_at-numbers.ensures.numbers ∙ numbers_counted c.args.inputs in
    let is : w ≡ get_or (words_by port_list numbers) port nothing =
    ap (λ n. word n (get_or numbers port 0)) c.input_width-width.ensures ∙ sym (word_by port_list numbers port (record { output = false; width = 0 }) (omega (arith, c.loop-port-test.true)) (omega (arith, long, c.loop-port-test.true))) in
    record {
      count = length-set ports port w ∙ count;
      same = below_more (λ k. get_or (slice_set ports port w) k nothing ≡ get_or (words_by port_list numbers) k nothing) port
          (λ k l. let ne : k ≢ port = omega arith in get_or-set_other ports port k w nothing ne ∙ c.loop-port.invariant.same k l)
          (get_or-set_same ports port w nothing inside ∙ is);
    }

pub returns-clause-words : goal.returns-clause-words
returns-clause-words c =
    ext_get_or nothing c.loop-port.ports (words_of c.args.inputs) (c.loop-port.invariant.count ∙ sym (words_counted c.args.inputs))
    (λ k l. c.loop-port.invariant.same k (omega (arith, l, c.loop-port.invariant.count, c.loop-port-test.false)) ∙ ap (λ ns. get_or (words_by port_list ns) k nothing) c.numbers_at-numbers.ensures.numbers)
