use Rattle.store_laws.proofs.SoundReports.{report_anew, report_fresh, audit_true}
use Rattle.store_laws.proofs.laws.sound_tables_say_what_is_true.Goals as goal

pub returns : goal.returns
returns c = record {
  report = report_anew;
  fresh = report_fresh;
  audit = audit_true;
}
