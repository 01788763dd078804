-- The requests of rows, computed.
use Rattle.std.proofs.Common.{◌≡◌, ◌≢◌, ℕ, List, [], Result, Ok, Err, refl, ap}
use Rattle.async_window.specs.declared.request.Request.{Request}
use Rattle.async_window.specs.declared.request.Owner.{Owner}
use Rattle.text_fields.proofs.Shared.{all_items, all_mean, fault_means, first_fault}
use Rattle.requests_file.specs.RequestRow.{meaning}
use Rattle.requests_file.specs.RequestsFile.{AreRequests, requests_of_rows, requests_or_fault}
use Rattle.text_fields.specs.RowByRow.{Faulty, IsFirstFault, items_below}
use Rattle.requests_file.specs.declared.request_fault.RequestFault.TheVariants.{Row, Memory}
use Rattle.requests_file.specs.declared.request_fault.RequestWhy.{RequestWhy}

-- the requests of all rows are the computed ones
pub requests_computed : (owners : List Owner) (rows : List (List (List ℕ))) (requests : List Request) → AreRequests owners rows requests → requests_of_rows owners rows ≡ Ok requests
unfolding requests_of_rows
requests_computed owners rows requests are = ap requests_or_fault (all_items (meaning owners) rows requests are)

-- and so is the fault
pub fault_computed : (owners : List Owner) (rows : List (List (List ℕ))) (number : ℕ) (why : RequestWhy) → IsFirstFault (meaning owners) rows number why → requests_of_rows owners rows ≡ Err (Row number why)
unfolding requests_of_rows
fault_computed owners rows number why fault = ap requests_or_fault (first_fault (meaning owners) rows number why fault)

found_requests : (owners : List Owner) (rows : List (List (List ℕ))) (requests : List Request) (found : Result (List Request) (Faulty RequestWhy)) → items_below (meaning owners) [] rows ≡ found
    → requests_or_fault found ≡ Ok requests → AreRequests owners rows requests
found_requests owners rows requests (Ok all) is h =
    let same : all ≡ requests = cc in
    rw (← same) (all_mean (meaning owners) rows all is)
found_requests owners rows requests (Err fault) is h = absurd (cc)

found_fault : (owners : List Owner) (rows : List (List (List ℕ))) (number : ℕ) (why : RequestWhy) (found : Result (List Request) (Faulty RequestWhy)) → items_below (meaning owners) [] rows ≡ found
    → requests_or_fault found ≡ Err (Row number why) → IsFirstFault (meaning owners) rows number why
found_fault owners rows number why (Ok all) is h = absurd (cc)
found_fault owners rows number why (Err fault) is h =
    let same_number : fault.number ≡ number = cc in
    let same_why : fault.why ≡ why = cc in
    rw (← same_number, ← same_why) (fault_means (meaning owners) rows fault is)

found_no_memory : (found : Result (List Request) (Faulty RequestWhy)) → requests_or_fault found ≢ Err Memory
found_no_memory (Ok all) h = cc
found_no_memory (Err fault) h = cc

-- computed requests are those of all rows
pub computed_requests : (owners : List Owner) (rows : List (List (List ℕ))) (requests : List Request) → requests_of_rows owners rows ≡ Ok requests → AreRequests owners rows requests
unfolding requests_of_rows
computed_requests owners rows requests h = found_requests owners rows requests (items_below (meaning owners) [] rows) refl h

-- and a computed fault is that of the first row that is none
pub computed_fault : (owners : List Owner) (rows : List (List (List ℕ))) (number : ℕ) (why : RequestWhy) → requests_of_rows owners rows ≡ Err (Row number why) → IsFirstFault (meaning owners) rows number why
unfolding requests_of_rows
computed_fault owners rows number why h = found_fault owners rows number why (items_below (meaning owners) [] rows) refl h

-- rows are never at fault for want of memory
pub no_memory : (owners : List Owner) (rows : List (List (List ℕ))) → requests_of_rows owners rows ≢ Err Memory
unfolding requests_of_rows
no_memory owners rows h = found_no_memory (items_below (meaning owners) [] rows) h
