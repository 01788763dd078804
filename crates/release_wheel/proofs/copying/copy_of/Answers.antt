use Rattle.std.proofs.Common.{◌∙◌}
use Rattle.release_wheel.proofs.Copied.{kept-copied}
use Rattle.release_wheel.proofs.copying.copy_of.Goals as goal

pub returns-clause-kept : goal.returns-clause-kept
returns-clause-kept c ranking kept =
    let w = c.args.wheel.now in
    kept-copied w (record {
      entries = c.in_ok-entries.entries;
      nexts = c.in_ok-nexts.nexts;
      lasts = c.in_ok-lasts.lasts;
      places = c.in_ok-places.places;
    })
    (c.in_ok-entries.ensures.items ∙ c.as_slice.ensures.value) (c.in_ok-nexts.ensures.items ∙ c.as_slice-2.ensures.value)
    (c.in_ok-lasts.ensures.items ∙ c.as_slice-3.ensures.value) (c.in_ok-places.ensures.items ∙ c.as_slice-4.ensures.value) ranking kept
