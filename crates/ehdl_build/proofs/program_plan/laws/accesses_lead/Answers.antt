use Rattle.ehdl_build.proofs.ProgramPlan.Leading.{pointers_lead, reads_lead, sites_lead, records_lead}
use Rattle.ehdl_build.proofs.program_plan.laws.accesses_lead.Goals as goal

pub returns : goal.returns
returns c = record { pointers = pointers_lead c.have_values.ensures c.rows_rise.ensures; reads = reads_lead c.have_values.ensures c.rows_rise.ensures; sites = sites_lead c.have_values.ensures c.rows_rise.ensures; records = records_lead c.have_values.ensures c.rows_rise.ensures c.founds_lead.ensures.writes }
