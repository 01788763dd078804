-- The bytes of instances, of which some carry requests.
use Rattle.std.proofs.Common.{◌≡◌, ℕ, zero, suc, ◌-◌, ◌<◌, Bool, true, false, cond, List, length, replicate, Option, Some, None, IfSome, refl, arith, option_and_then, nat_lt, if◌then◌else◌}
use Rattle.std.specs.List.{slice_get}
use Rattle.std.proofs.lemmas.Bool.{ltb-true}
use Rattle.std.proofs.lemmas.List.{length-append, length-replicate}
use Rattle.requirement_table.specs.Instance.{bytes_of, release_of}
use Rattle.cycle_engine.specs.Offered.{SendsWhole}
use Rattle.kept_run.specs.Served.{ForgetsEnds}
use Rattle.sporadic_poll.specs.declared.stream.Stream.{Stream}
use Rattle.sporadic_poll.specs.Polled.{is_polled, payload_at, payload_of, payload_taken, polled_bytes}
use Rattle.sporadic_poll.specs.Ride.{bytes_with}

length-with : (n : ℕ) (taken : Option (List ℕ)) → IfSome taken (λ payload. length payload < n) → length (bytes_with n taken) ≡ n
length-with n taken short = grind (arith, length-replicate, length-append, replicate)

short-if : (n : ℕ) (payload : List ℕ) (test : Bool) → nat_lt (length payload) n ≡ test → IfSome (if test then Some payload else None) (λ p. length p < n)
short-if n payload test is = grind (arith, ltb-true)

short-of : (n : ℕ) (o : Option Stream) → IfSome (option_and_then (payload_of n) o) (λ p. length p < n)
short-of n o = grind (arith, short-if, nat_lt)

short-at : (streams : List Stream) (n : ℕ) (o : Option ℕ) → IfSome (option_and_then (payload_at streams n) o) (λ p. length p < n)
short-at streams n o = grind (arith, short-of)

whole-if : (n : ℕ) (one other : List ℕ) (test : Bool) → length one ≡ n → length other ≡ n → length (cond test one other) ≡ n
whole-if n one other test first second = grind arith

-- they are as many as the entry's length
pub polled-whole : SendsWhole bytes_of → (streams : List Stream) (carried : ℕ → ℕ → Option ℕ) → SendsWhole (polled_bytes streams carried)
polled-whole numbers streams carried = grind (arith, whole-if, length-with, short-at)

-- and the same where the entry got an end
pub polled-forgets : (streams : List Stream) (carried : ℕ → ℕ → Option ℕ) → ForgetsEnds (polled_bytes streams carried)
polled-forgets streams carried = λ instance. refl
