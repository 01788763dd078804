use Rattle.std.proofs.Common.{sym, ap, ◌∙◌}
use Rattle.std.specs.Option.{option_map}
use Rattle.change_protocol.specs.Applied.{without_end}
use Rattle.change_protocol.proofs.NotFelt.{kept-instance, same-last, same-worst}
use Rattle.change_protocol.proofs.laws.instances_released_before_the_start.Goals as goal

pub returns-clause-instance : goal.returns-clause-instance
returns-clause-instance c start cycle slot old new i changed found before = kept-instance start slot cycle old new i changed found before

pub returns-clause-worst : goal.returns-clause-worst
returns-clause-worst c start cycle slot old new i changed found before =
    same-worst slot cycle old new (kept-instance start slot cycle old new i changed found before ∙ sym (ap (option_map without_end) found))

pub returns-clause-last : goal.returns-clause-last
returns-clause-last c start cycle slot old new i changed found before =
    same-last slot cycle old new (kept-instance start slot cycle old new i changed found before ∙ sym (ap (option_map without_end) found))
