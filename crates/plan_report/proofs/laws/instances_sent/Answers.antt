use Rattle.plan_report.proofs.Instances.{sent-once, sent-sound, sent-complete}
use Rattle.plan_report.proofs.laws.instances_sent.Goals as goal

pub returns : goal.returns
returns c = record { once = sent-once; sent = sent-sound; each = sent-complete }
