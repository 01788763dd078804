-- Each return is one of the cases of what a row means.
use Rattle.std.proofs.Common.{sym, map, arith}
use Rattle.text_fields.specs.RecordReading.{fields_in}
use Rattle.text_fields.specs.CsvRows.{trimmed}
use Rattle.sporadic_poll.proofs.StreamRows.{asks, falls, no_arrival, no_payload, no_slot, other_fields, other_than_three, three_fields, too_many, unknown}
use Rattle.sporadic_poll.proofs.reading.read_row.Goals as goal

pub returns-then-len-ne3-clause-value : goal.returns-then-len-ne3-clause-value
returns-then-len-ne3-clause-value c = grind (arith, other_fields, other_than_three)

pub returns-in_default-clause-value : goal.returns-in_default-clause-value
returns-in_default-clause-value c = grind (arith, three_fields, no_arrival)

pub returns-in_default-number-clause-value : goal.returns-in_default-number-clause-value
returns-in_default-number-clause-value c = grind (arith, three_fields, no_slot)

pub returns-then-slot-from-clause-value : goal.returns-then-slot-from-clause-value
returns-then-slot-from-clause-value c =
    let three = three_fields (fields_in c.args.row.now) (rw c.len.ensures.count at c.if-len-ne3.false) in
    let at = sym (rw (c.new.ensures.start, c.new.ensures.end) at c.in-Some.ensures.value) in
    let slot = sym (rw (c.new-2.ensures.start, c.new-2.ensures.end) at c.in-Some-number.ensures.value) in
    unknown c.args.slots c.args.above.now (map trimmed (fields_in c.args.row.now)) c.in-Some.at c.in-Some-number.slot three at slot (omega (arith, c.from.ensures, c.if-slot-from.true))

pub returns-in_default-read_payload-clause-value : goal.returns-in_default-read_payload-clause-value
returns-in_default-read_payload-clause-value c = grind (arith, three_fields, no_payload)

pub returns-then-at-last_arrival-clause-value : goal.returns-then-at-last_arrival-clause-value
returns-then-at-last_arrival-clause-value c = grind (arith, three_fields, falls)

pub returns-then-above-ge-MAX_STREAMS-clause-value : goal.returns-then-above-ge-MAX_STREAMS-clause-value
returns-then-above-ge-MAX_STREAMS-clause-value c =
    let three = three_fields (fields_in c.args.row.now) (rw c.len.ensures.count at c.if-len-ne3.false) in
    let at = sym (rw (c.new.ensures.start, c.new.ensures.end) at c.in-Some.ensures.value) in
    let slot = sym (rw (c.new-2.ensures.start, c.new-2.ensures.end) at c.in-Some-number.ensures.value) in
    too_many c.args.slots c.args.above.now (map trimmed (fields_in c.args.row.now)) c.in-Some.at c.in-Some-number.slot c.in-Some-read_payload.bytes three at slot (omega (arith, c.from.ensures, c.if-slot-from.false))
    (sym c.in-Some-read_payload.ensures.value) (rw c.last_arrival.ensures.value at c.if-at-last_arrival.false) c.if-above-ge-MAX_STREAMS.true

pub returns-clause-value : goal.returns-clause-value
returns-clause-value c =
    let three = three_fields (fields_in c.args.row.now) (rw c.len.ensures.count at c.if-len-ne3.false) in
    let at = sym (rw (c.new.ensures.start, c.new.ensures.end) at c.in-Some.ensures.value) in
    let slot = sym (rw (c.new-2.ensures.start, c.new-2.ensures.end) at c.in-Some-number.ensures.value) in
    asks c.args.slots c.args.above.now (map trimmed (fields_in c.args.row.now)) c.in-Some.at c.in-Some-number.slot c.in-Some-read_payload.bytes three at slot (omega (arith, c.from.ensures, c.if-slot-from.false))
    (sym c.in-Some-read_payload.ensures.value) (rw c.last_arrival.ensures.value at c.if-at-last_arrival.false) c.if-above-ge-MAX_STREAMS.false
