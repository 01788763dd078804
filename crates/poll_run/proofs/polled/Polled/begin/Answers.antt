use Rattle.std.proofs.Common.{List, [], ◌<◌, true, refl, subst, arith}
use Rattle.std.proofs.lemmas.List.Elements.{All-weaker}
use Rattle.replay_run.specs.Run.{setting_of}
use Rattle.sporadic_poll.specs.declared.stream.Stream.{Stream}
use Rattle.sporadic_poll.specs.StreamRow.{IsLegalStream}
use Rattle.sporadic_poll.specs.Rides.{AreFates}
use Rattle.poll_run.specs.PolledRun.{polled_setting}
use Rattle.poll_run.proofs.Carrying.{begins-polled}
use Rattle.poll_run.proofs.polled.Polled.begin.Goals as goal

pub new-requires-clause-known : goal.new-requires-clause-known
new-requires-clause-known c =
    let slots = c.args.system.now.rules.slots in
    All-weaker (IsLegalStream slots) (λ stream. stream.slot < slots) (λ stream is. is.known) c.args.streams.items c.requires.streams.each

pub returns-clause-begun : goal.returns-clause-begun
returns-clause-begun c =
    let setting = setting_of c.args.system.now [] in
    let room = c.in_ok-with_capacity.ensures.capacity in
    begins-polled setting c.args.streams.items
    (record {
      bus = c.in_ok-begin.field-0;
      rides = c.in_ok-new.field-0;
      layout = c.args.system.now.layout;
      frames = c.in_ok-with_capacity.field-0;
      quiet = true;
    })
    c.in_ok-begin.ensures.going c.in_ok-begin.ensures.empty refl refl c.in_ok-new.ensures.streams c.in_ok-new.ensures.slots
    (λ carried. c.beginning.ensures.under_way (polled_setting setting c.args.streams.items carried)) c.in_ok-new.ensures.fresh
    (λ carried. subst (λ (streams : List Stream). AreFates streams [] carried c.in_ok-new.field-0.fates) c.in_ok-new.ensures.streams (c.in_ok-new.ensures.fates carried))
    (omega (arith, room)) refl
