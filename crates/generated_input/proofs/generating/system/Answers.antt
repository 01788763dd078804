use Rattle.planner_policies.specs.declared.Fill.TheVariants.{Prefix}
use Rattle.generated_input.specs.Generator.{generated_slots, system_made}
use Rattle.generated_input.proofs.generating.system.Goals as goal

pub returns : goal.returns
unfolding system_made
returns c =
    record {
      value = λ i. record {
        layout = c.layout.ensures.value i;
        rules = record {
          nodes = 8;
          slots = generated_slots;
          policy = c.policy.ensures.value i;
          fill = Prefix;
          window = 810;
          horizon = 10000;
        };
        owners = c.in_ok-owners.ensures.value i;
      };
    }
