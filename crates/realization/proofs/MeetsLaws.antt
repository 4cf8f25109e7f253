-- What a design meets it meets where less is wanted.
use Rattle.std.specs.Prelude.{ℕ, ◌+◌, ◌-◌, ◌≤◌, None, List, [], ◌++◌, length}
use Rattle.std.specs.List.{AllByRecursion}
use Rattle.std.proofs.Common.{arith}
use Rattle.std.proofs.Math.Nat.{mul-le-mul_left}
use Rattle.beat_core.specs.declared.answer.Answer.{Answer}
use Rattle.xdp_machine.specs.xdp_maps.State.{MapState}
use Rattle.xdp_machine.specs.Touched.{Touched}
use Rattle.net_core.specs.declared.ports.Inputs.{Inputs}
use Rattle.net_core.specs.Nets.{Netlist}
use Rattle.net_core.specs.Clock.{Stored}
use Rattle.net_core.specs.Trace.{stored_after, trace}
use Rattle.realization.specs.History.{Arrival, Drive, drive, arrivals, answers_given}
use Rattle.realization.specs.Bounds.{clock_bound, clock_bound_apart, most_beats}
use Rattle.realization.specs.Realizes.{drive_on, IsPacket, IsPattern, IsPrefix, IsWhole, frames_in, all_offers}
use Rattle.realization.specs.Laws.{MeetsMore}
use Rattle.realization.proofs.PacketLaws.{patterns_bring_packets}

bound_more : (n s more_s b q more_q : ℕ) → s ≤ more_s → q ≤ more_q → clock_bound n s b q ≤ clock_bound n more_s b more_q
bound_more n s more_s b q more_q h k = mul-le-mul_left n (omega arith)

apart_more : (s more_s : ℕ) (frames : List (List ℕ)) (ts : List Touched) → s ≤ more_s → clock_bound_apart s frames ts ≤ clock_bound_apart more_s frames ts
apart_more s more_s frames ts h = omega arith

module _ (d : Netlist) (s : Stored) (wanted wider : List Arrival → List Answer → MapState → Type 0)
    (wants : (packets : List Arrival) (answers : List Answer) (maps : MapState) → AllByRecursion IsPacket packets → wanted packets answers maps → wider packets answers maps) where
  prefix_more : (is : List Inputs) → IsPattern d s is → IsPrefix d s is wanted → IsPrefix d s is wider
  prefix_more is pattern p = record {
    never = p.never;
    later = p.later;
    maps = p.maps;
    prefix = wants (arrivals None (trace d s is)) (answers_given [] (trace d s is) ++ p.later) p.maps (patterns_bring_packets d s is pattern) p.prefix;
    next = p.next;
  }

  whole_more : (is : List Inputs) (r : Drive) (packets : List Arrival) → AllByRecursion IsPacket packets → IsWhole d s is r packets wanted → IsWhole d s is r packets wider
  whole_more is r packets are w = record { ended = w.ended; maps = w.maps; all = wants packets (answers_given [] (trace d s is ++ r.trace)) w.maps are w.all; shown = w.shown }

pub meets_more : MeetsMore
meets_more d s wanted wider touch finer apart closer stages more_stages records more_records wants touches aparts few_stages few_records m = record {
  safe = λ is pattern. prefix_more d s wanted wider wants is pattern (m.safe is pattern);
  complete = λ packets limit are enough.
      whole_more d s wanted wider wants [] (drive d s (all_offers packets) (length packets) limit) packets are
      (m.complete packets limit are (omega (arith, enough, bound_more (length packets) stages more_stages (most_beats (frames_in packets)) records more_records few_stages few_records)));
  complete_apart = λ packets limit ts are close enough.
      whole_more d s wanted wider wants [] (drive d s (all_offers packets) (length packets) limit) packets are
      (m.complete_apart packets limit ts are (aparts packets ts close) (omega (arith, enough, apart_more stages more_stages (frames_in packets) ts few_stages)));
  at_line_rate = record {
    last = m.at_line_rate.last;
    within = omega (arith, m.at_line_rate.within, few_stages);
    commit = m.at_line_rate.commit;
    before = m.at_line_rate.before;
    goes_on = m.at_line_rate.goes_on;
    drives = λ is packets left limit late ts amid touched follow enough.
        whole_more d s wanted wider wants is (drive_on d s is packets left limit) packets amid.are (m.at_line_rate.drives is packets left limit late ts amid (touches packets ts touched) follow enough);
    follow = λ packets limit late ts are close follow enough.
        whole_more d s wanted wider wants [] (drive d s (all_offers packets) (length packets) limit) packets are (m.at_line_rate.follow packets limit late ts are (aparts packets ts close) follow enough);
    equal = λ packets limit beats ts are close same enough.
        whole_more d s wanted wider wants [] (drive d s (all_offers packets) (length packets) limit) packets are (m.at_line_rate.equal packets limit beats ts are (aparts packets ts close) same (omega (arith, enough, few_stages)));
    waits = λ is packets left limit late k ts amid touched follow few enough. m.at_line_rate.waits is packets left limit late k ts amid (touches packets ts touched) follow few enough;
  };
  late = λ is packets left limit pattern are beside beats frames enough.
      whole_more d s wanted wider wants is (drive d (stored_after d s is) left (length packets - length (answers_given [] (trace d s is))) limit) packets are
      (m.late is packets left limit pattern are beside beats frames
      (omega (arith, enough, bound_more (length packets + 1) stages more_stages (most_beats (frames_in packets)) records more_records few_stages few_records)));
}
