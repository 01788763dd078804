use Rattle.requirement_table.specs.Instance.{bytes_of}
use Rattle.live_steps.proofs.running.live.Given as goal

abbrev pub ghost-run_whole : goal.ghost-run_whole
ghost-run_whole g a = record { rules = a.rules; layout = a.layout; owners = a.owners.now; requests = a.requests.now; sends = bytes_of }
