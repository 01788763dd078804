use Rattle.requirement_table.proofs.SlotInstances.{one_instance, instance_in-found, instance_in-sound, released_in-sound, released_in-complete}
use Rattle.requirement_table.proofs.laws.instances_of_a_slot.Goals as goal

pub returns : goal.returns
returns c = record {
  one = λ placed i j k m cycle p q well. one_instance placed well i j k m cycle p q;
  found = λ placed i k cycle p well. instance_in-found placed well i k cycle p;
  sound = instance_in-sound;
  released = λ placed slot cycle well.
      (released_in-sound placed slot cycle, released_in-complete placed slot cycle well);
}
