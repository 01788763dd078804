-- The requests of rows, computed.
use Rattle.std.proofs.Common.{◌≡◌, ◌≢◌, ℕ, List, [], Result, Ok, Err, refl, ap}
use Rattle.sporadic_poll.specs.declared.stream.Stream.{Stream}
use Rattle.text_fields.proofs.Shared.{all_items, all_mean, fault_means, first_fault}
use Rattle.sporadic_poll.specs.StreamRow.{meaning}
use Rattle.sporadic_poll.specs.StreamsFile.{AreStreamsOfRows, streams_of_rows, streams_or_fault}
use Rattle.text_fields.specs.RowByRow.{Faulty, IsFirstFault, items_below}
use Rattle.sporadic_poll.specs.declared.stream_fault.StreamFault.TheVariants.{Row, Memory}
use Rattle.sporadic_poll.specs.declared.stream_fault.StreamWhy.{StreamWhy}

-- the requests of all rows are the computed ones
pub streams_computed : (slots : ℕ) (rows : List (List (List ℕ))) (streams : List Stream) → AreStreamsOfRows slots rows streams → streams_of_rows slots rows ≡ Ok streams
unfolding streams_of_rows
streams_computed slots rows streams are = ap streams_or_fault (all_items (meaning slots) rows streams are)

-- and so is the fault
pub fault_computed : (slots : ℕ) (rows : List (List (List ℕ))) (number : ℕ) (why : StreamWhy) → IsFirstFault (meaning slots) rows number why → streams_of_rows slots rows ≡ Err (Row number why)
unfolding streams_of_rows
fault_computed slots rows number why fault = ap streams_or_fault (first_fault (meaning slots) rows number why fault)

found_streams : (slots : ℕ) (rows : List (List (List ℕ))) (streams : List Stream) (found : Result (List Stream) (Faulty StreamWhy)) → items_below (meaning slots) [] rows ≡ found
    → streams_or_fault found ≡ Ok streams → AreStreamsOfRows slots rows streams
found_streams slots rows streams (Ok all) is h =
    let same : all ≡ streams = cc in
    rw (← same) (all_mean (meaning slots) rows all is)
found_streams slots rows streams (Err fault) is h = absurd (cc)

found_fault : (slots : ℕ) (rows : List (List (List ℕ))) (number : ℕ) (why : StreamWhy) (found : Result (List Stream) (Faulty StreamWhy)) → items_below (meaning slots) [] rows ≡ found
    → streams_or_fault found ≡ Err (Row number why) → IsFirstFault (meaning slots) rows number why
found_fault slots rows number why (Ok all) is h = absurd (cc)
found_fault slots rows number why (Err fault) is h =
    let same_number : fault.number ≡ number = cc in
    let same_why : fault.why ≡ why = cc in
    rw (← same_number, ← same_why) (fault_means (meaning slots) rows fault is)

found_no_memory : (found : Result (List Stream) (Faulty StreamWhy)) → streams_or_fault found ≢ Err Memory
found_no_memory (Ok all) h = cc
found_no_memory (Err fault) h = cc

-- computed requests are those of all rows
pub computed_streams : (slots : ℕ) (rows : List (List (List ℕ))) (streams : List Stream) → streams_of_rows slots rows ≡ Ok streams → AreStreamsOfRows slots rows streams
unfolding streams_of_rows
computed_streams slots rows streams h = found_streams slots rows streams (items_below (meaning slots) [] rows) refl h

-- and a computed fault is that of the first row that is none
pub computed_fault : (slots : ℕ) (rows : List (List (List ℕ))) (number : ℕ) (why : StreamWhy) → streams_of_rows slots rows ≡ Err (Row number why) → IsFirstFault (meaning slots) rows number why
unfolding streams_of_rows
computed_fault slots rows number why h = found_fault slots rows number why (items_below (meaning slots) [] rows) refl h

-- rows are never at fault for want of memory
pub no_memory : (slots : ℕ) (rows : List (List (List ℕ))) → streams_of_rows slots rows ≢ Err Memory
unfolding streams_of_rows
no_memory slots rows h = found_no_memory (items_below (meaning slots) [] rows) h
