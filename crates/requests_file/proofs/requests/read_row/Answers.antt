-- Each return is one of the cases of what a row means.
use Rattle.std.proofs.Common.{◌^◌, ◌<◌, sym, map, arith}
use Rattle.text_fields.specs.RecordReading.{fields_in}
use Rattle.text_fields.specs.CsvRows.{trimmed}
use Rattle.requests_file.proofs.RequestRows.{asks, bytes_read, falls, is_request, no_arrival, no_bytes, no_identifier, none_read, not_owned, other_fields, other_than_three, three_fields, too_many}
use Rattle.requests_file.proofs.requests.read_row.Goals as goal

pub returns-then-len-ne3-clause-value : goal.returns-then-len-ne3-clause-value
returns-then-len-ne3-clause-value c owners table =
    other_fields owners c.args.above.now _ (other_than_three (fields_in c.args.row.now) (rw c.len.ensures.count at c.if-len-ne3.true))

pub returns-in_default-clause-value : goal.returns-in_default-clause-value
returns-in_default-clause-value c owners table =
    let row = map trimmed (fields_in c.args.row.now) in
    let three = three_fields (fields_in c.args.row.now) (rw c.len.ensures.count at c.if-len-ne3.false) in
    no_arrival owners c.args.above.now row three (sym (rw (c.new.ensures.start, c.new.ensures.end) at c.in_default.ensures.value))

pub returns-in_default-identifier-clause-value : goal.returns-in_default-identifier-clause-value
returns-in_default-identifier-clause-value c owners table =
    let row = map trimmed (fields_in c.args.row.now) in
    let three = three_fields (fields_in c.args.row.now) (rw c.len.ensures.count at c.if-len-ne3.false) in
    let at = rw (c.new.ensures.start, c.new.ensures.end) at c.in-Some.ensures.value in
    no_identifier owners c.args.above.now row c.in-Some.at three (sym at) (sym c.in_default-identifier.ensures.value)

pub returns-then-not-is_owned-clause-value : goal.returns-then-not-is_owned-clause-value
returns-then-not-is_owned-clause-value c owners table =
    let row = map trimmed (fields_in c.args.row.now) in
    let three = three_fields (fields_in c.args.row.now) (rw c.len.ensures.count at c.if-len-ne3.false) in
    let at = rw (c.new.ensures.start, c.new.ensures.end) at c.in-Some.ensures.value in
    not_owned owners c.args.above.now row c.in-Some.at c.in-Some-identifier.id three (sym at) (sym c.in-Some-identifier.ensures.value) (sym (c.if-not-is_owned.ensures.value owners table))

pub returns-in_default-read_frame-clause-value : goal.returns-in_default-read_frame-clause-value
returns-in_default-read_frame-clause-value c owners table =
    let row = map trimmed (fields_in c.args.row.now) in
    let three = three_fields (fields_in c.args.row.now) (rw c.len.ensures.count at c.if-len-ne3.false) in
    let at = rw (c.new.ensures.start, c.new.ensures.end) at c.in-Some.ensures.value in
    no_bytes owners c.args.above.now row c.in-Some.at c.in-Some-identifier.id three (sym at) (sym c.in-Some-identifier.ensures.value) (sym (c.if-not-is_owned.ensures.value owners table))
    (none_read c.in-Some-identifier.id _ c.in_default-read_frame.ensures.value)

pub returns-then-at-last_arrival-clause-value : goal.returns-then-at-last_arrival-clause-value
returns-then-at-last_arrival-clause-value c owners table =
    let row = map trimmed (fields_in c.args.row.now) in
    let three = three_fields (fields_in c.args.row.now) (rw c.len.ensures.count at c.if-len-ne3.false) in
    let at = rw (c.new.ensures.start, c.new.ensures.end) at c.in-Some.ensures.value in
    let frame = c.in-Some-read_frame.frame in
    falls owners c.args.above.now row c.in-Some.at c.in-Some-identifier.id frame.bytes three (sym at) (sym c.in-Some-identifier.ensures.value) (sym (c.if-not-is_owned.ensures.value owners table))
    (bytes_read c.in-Some-identifier.id frame _ c.in-Some-read_frame.ensures.value) (rw c.last_arrival.ensures.value at c.if-at-last_arrival.true)

pub returns-then-above-ge-MAX_REQUESTS-clause-value : goal.returns-then-above-ge-MAX_REQUESTS-clause-value
returns-then-above-ge-MAX_REQUESTS-clause-value c owners table =
    let row = map trimmed (fields_in c.args.row.now) in
    let three = three_fields (fields_in c.args.row.now) (rw c.len.ensures.count at c.if-len-ne3.false) in
    let at = rw (c.new.ensures.start, c.new.ensures.end) at c.in-Some.ensures.value in
    let frame = c.in-Some-read_frame.frame in
    too_many owners c.args.above.now row c.in-Some.at c.in-Some-identifier.id frame.bytes three (sym at) (sym c.in-Some-identifier.ensures.value) (sym (c.if-not-is_owned.ensures.value owners table))
    (bytes_read c.in-Some-identifier.id frame _ c.in-Some-read_frame.ensures.value) (rw c.last_arrival.ensures.value at c.if-at-last_arrival.false) c.if-above-ge-MAX_REQUESTS.true

pub returns-clause-value : goal.returns-clause-value
returns-clause-value c owners table =
    let row = map trimmed (fields_in c.args.row.now) in
    let three = three_fields (fields_in c.args.row.now) (rw c.len.ensures.count at c.if-len-ne3.false) in
    let at = rw (c.new.ensures.start, c.new.ensures.end) at c.in-Some.ensures.value in
    let frame = c.in-Some-read_frame.frame in
    asks owners c.args.above.now row c.in-Some.at c.in-Some-identifier.id frame three (sym at) (sym c.in-Some-identifier.ensures.value) (sym (c.if-not-is_owned.ensures.value owners table))
    c.in-Some-read_frame.ensures.value (rw c.last_arrival.ensures.value at c.if-at-last_arrival.false) c.if-above-ge-MAX_REQUESTS.false

pub returns-clause-legal : goal.returns-clause-legal
returns-clause-legal c owners table =
    let early : c.in-Some.at < 2 ^ 40 = omega (arith, c.in-Some.ensures.within.1, c.new.ensures.end) in
    is_request owners c.in-Some.at c.in-Some-identifier.id c.in-Some-read_frame.frame _ early (sym (c.if-not-is_owned.ensures.value owners table)) c.in-Some-read_frame.ensures.value c.in-Some-read_frame.ensures.legal
