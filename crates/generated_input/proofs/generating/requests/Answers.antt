use Rattle.std.proofs.Common.{◌≡◌, ◌∙◌, arith, lit≤, ap}
use Rattle.generated_input.specs.Generator.{each_below, request_made, requests_made}
use Rattle.generated_input.proofs.GeneratorRequests.{none_made, one_made}
use Rattle.generated_input.proofs.generating.requests.Goals as goal

pub loop-init : goal.loop-init
loop-init c =
    record {
      room = omega (arith, c.in_ok-requests.ensures.len, c.in_ok-requests.ensures.capacity);
      early = lit≤ tt;
      made = λ number is. none_made number _ _ is c.in_ok-requests.ensures.items;
    }

pub loop-preserved : goal.loop-preserved
loop-preserved c =
    let so_far = c.loop.invariant in
    let request = c.request-request.ensures in
    record {
      room = omega (arith, c.push_reserved.ensures.len, c.push_reserved.ensures.capacity, so_far.room);
      early = omega (arith, so_far.early, request.early);
      made = λ number is. one_made number _ _ _ _ _ _ _ (so_far.made number is) request.at request.identifier request.bytes request.state c.push_reserved.ensures.items;
    }

pub returns : goal.returns
unfolding requests_made
returns c =
    let all : c.loop.counter ≡ 20000 = omega (arith, c.loop-test.false, c.loop.auto.counter-end) in
    record { value = λ number is. c.of.ensures.list ∙ (c.loop.invariant.made number is).requests_are ∙ ap (λ count. each_below count (request_made number)) all }
