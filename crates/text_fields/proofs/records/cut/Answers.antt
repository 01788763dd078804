use Rattle.std.proofs.Common.{◌≡◌, ◌++◌, ap, get_or, length, slice_set, sym, rules, arith, true}
use Rattle.std.proofs.lemmas.List.{nil_from_length, take-append-drop}
use Rattle.std.specs.List.{list_all}
use Rattle.text_fields.specs.PlainRows.{is_plain}
use Rattle.text_fields.proofs.PlainCuts.{cut_here, cut_on}
use Rattle.text_fields.proofs.records.cut.Goals as goal

pub returns-in-empty : goal.returns-in-empty
returns-in-empty c =
    let left = c.loop-count.left.now in
    let part = c.split_at.result.0 in
    let behind = c.split_at.result.1.now in
    let split : left ≡ part.now ++ behind = rw (c.split_at.ensures.front, c.split_at.ensures.back) (sym (take-append-drop c.field_end.result left)) in
    let plain : list_all is_plain part.now ≡ true = rw c.split_at.ensures.front c.field_end.ensures.plain in
    let none = nil_from_length behind (omega (arith, c.in-empty.len_below)) in
    record {
      cut = cut_here c.args.line.now c.loop-count.parts c.loop-count.count left c.loop-count.invariant c.loop-count-test.true part plain behind
          c.requires.begun split (ap (λ text. get_or text 0 10) none);
    }

pub returns-in-10 : goal.returns-in-10
returns-in-10 c =
    let left = c.loop-count.left.now in
    let part = c.split_at.result.0 in
    let behind = c.split_at.result.1.now in
    let split : left ≡ part.now ++ behind = rw (c.split_at.ensures.front, c.split_at.ensures.back) (sym (take-append-drop c.field_end.result left)) in
    let plain : list_all is_plain part.now ≡ true = rw c.split_at.ensures.front c.field_end.ensures.plain in
    let feed : get_or behind 0 10 ≡ 10 = search rules in
    record {
      cut = cut_here c.args.line.now c.loop-count.parts c.loop-count.count left c.loop-count.invariant c.loop-count-test.true part plain behind
          c.requires.begun split feed;
    }

pub loop-count-preserved : goal.loop-count-preserved
loop-count-preserved c =
    let left = c.loop-count.left.now in
    let part = c.split_at.result.0 in
    let behind = c.split_at.result.1.now in
    let split : left ≡ part.now ++ behind = rw (c.split_at.ensures.front, c.split_at.ensures.back) (sym (take-append-drop c.field_end.result left)) in
    let plain : list_all is_plain part.now ≡ true = rw c.split_at.ensures.front c.field_end.ensures.plain in
    let comma : get_or behind 0 0 ≡ 44 = search rules in
    let before = c.loop-count.invariant in
    let room : length (slice_set c.loop-count.parts c.loop-count.count part) ≡ 16 = search (rules, before.room) in
    cut_on c.args.line.now c.loop-count.parts c.loop-count.count left before c.loop-count-test.true part plain behind split (omega (arith, c.in-44.len_at_least)) comma room
