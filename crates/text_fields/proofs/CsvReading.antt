-- The records of a text, one after the other, as a reader gives them.
use Rattle.std.proofs.Common.{Bor, ◌≡◌, ℕ, ◌+◌, ◌<◌, ◌≤◌, Bool, true, false, ◌==◌, cond, List, [], ◌∷◌, ◌++◌, length, length-append, Option, Some, None, zero, suc, refl, sym, ap, ◌∙◌, arith, append_assoc, inl, inr, ◌⊎◌, ◌-◌, lit≤, add-one}
use Rattle.std.proofs.lemmas.Bool.{cases_Bool, false≢true}
use Rattle.std.proofs.lemmas.Option.{none-some, same_Some}
use Rattle.std.proofs.lemmas.List.{append-nil}
use Rattle.csv.specs.Machine.{Read, after_end, ends_at_end, ends_with, in_field, is_end, next_record, start_field, start_record, step}
use Rattle.csv.proofs.ReadFacts.{rows-more}
use Rattle.csv.specs.Reading.{Reached, ReadRecord, default_config, is_bom, records_from, records_next, source_of, strip_bom}
use Rattle.csv.specs.declared.reader.Reader.{Reader}
use Rattle.csv.specs.declared.parser.Action.{Action}
use Rattle.csv.specs.declared.parser.State.{State}
use Rattle.csv.specs.declared.parser.State.TheVariants as st
use Rattle.text_fields.specs.CsvReading.{Between, ReadsCsv, ReadsOneCsv, records_left}
use Rattle.text_fields.specs.CsvRows.{records_of}

-- where a byte ends a record, the reader stands between two records
abbrev EndsBetween : State × Action → Type 0
EndsBetween p = is_end p.1 ≡ true → Between p.0

either : (b : Bool) (p q : State × Action) → EndsBetween p → EndsBetween q → EndsBetween (cond b p q)
either true p q h k = h
either false p q h k = k

goes_on : {P : Type 0} → false ≡ true → P
goes_on e = absurd (false≢true e)

after_end_between : (c : ℕ) → Between (after_end default_config.terminator c)
after_end_between c = elim (cases_Bool (c == 13)) [ inl e ↦ rw e | inr e ↦ rw e ]

in_field_between : (c : ℕ) → EndsBetween (in_field default_config c)
in_field_between c = either (c == 44) _ _ goes_on (either (ends_with default_config.terminator c) _ _ (λ _. after_end_between c) goes_on)

start_field_between : (c : ℕ) → EndsBetween (start_field default_config c)
start_field_between c = either (c == 34) _ _ goes_on (in_field_between c)

start_record_between : (c : ℕ) → EndsBetween (start_record default_config c)
start_record_between c = either (ends_with default_config.terminator c) _ _ goes_on (start_field_between c)

step_between : (s : State) (c : ℕ) → EndsBetween (step default_config s c)
step_between st.StartRecord c = start_record_between c
step_between st.StartField c = start_field_between c
step_between st.InField c = in_field_between c
step_between st.InQuoted c = either (c == 34) _ _ goes_on goes_on
step_between st.AfterQuote c = either (c == 34) _ _ goes_on (in_field_between c)
step_between st.InEscape c = goes_on
step_between st.InComment c = either (c == 10) _ _ goes_on goes_on
step_between st.AfterCr c = either (c == 10) _ _ goes_on (start_record_between c)

-- a record that was read leaves no more bytes than there were, and fewer where there were some, between two records
record Advances (xs : List ℕ) (r : Read) : Type 0 where
  no_more : length r.2 ≤ length xs - 1
  between : Between r.1

same_record : (cond_end : Bool) (here : Read) (more : Option Read) (r : Read) → cond cond_end (Some here) more ≡ Some r
    → (cond_end ≡ true) × (here ≡ r) ⊎ (cond_end ≡ false) × (more ≡ Some r)
same_record true here more r h = inl (refl, same_Some _ _ h)
same_record false here more r h = inr (refl, h)

advances : (xs : List ℕ) (s : State) (fields : List (List ℕ)) (field : List ℕ) (r : Read) → next_record default_config s fields field xs ≡ Some r → Advances xs r
unfolding next_record
advances [] s fields field r h =
    elim (same_record (ends_at_end s) _ None r h) [
      | inl e ↦ rw (← e.1) record { no_more = lit≤ tt; between = refl }
      | inr e ↦ cc e.1
    ]
advances (c ∷ rest) s fields field r h =
    elim (same_record (is_end (step default_config s c).1) _ _ r h) [
      | inl e ↦ rw (← e.1) record { no_more = omega arith; between = step_between s c e.0 }
      | inr e ↦
          let further = advances rest _ _ _ r e.1 in
          record { no_more = omega arith; between = further.between }
    ]

-- between two records the end of the text is no record
pub none_at_end : (s : State) → Between s → next_record default_config s [] [] [] ≡ None
unfolding next_record
none_at_end s between = rw between

same_next : (f g : State → List ℕ → List (List (List ℕ))) (o : Option Read) → ((r : Read) → o ≡ Some r → f r.1 r.2 ≡ g r.1 r.2) → records_next f o ≡ records_next g o
same_next f g None h = refl
same_next f g (Some r) h = ap (λ t. r.0 ∷ t) (h r refl)

-- more steps than bytes give all records
fuel : (n m : ℕ) (s : State) (xs : List ℕ) → Between s → length xs < n → length xs < m → records_from default_config n s xs ≡ records_from default_config m s xs
unfolding records_from
fuel zero m s xs between h k = absurd (omega arith)
fuel (suc n) zero s xs between h k = absurd (omega arith)
fuel (suc n) (suc m) s [] between h k = rw (none_at_end s between)
fuel (suc n) (suc m) s (c ∷ rest) between h k =
    same_next (records_from default_config n) (records_from default_config m) _ (λ r e.
    let later = advances (c ∷ rest) s [] [] r e in
    fuel n m r.1 r.2 later.between (omega arith) (omega arith))

-- a record that is read is the first one left, and the others are left after it
pub records_left-some : (s : State) (xs : List ℕ) (r : Read) → Between s → next_record default_config s [] [] xs ≡ Some r → records_left s xs ≡ r.0 ∷ records_left r.1 r.2
unfolding records_from
records_left-some s [] r between e = absurd (none-some r (sym (none_at_end s between) ∙ e))
records_left-some s (c ∷ rest) r between e =
    let later = advances (c ∷ rest) s [] [] r e in
    let same : records_from default_config (length (c ∷ rest)) r.1 r.2 ≡ records_left r.1 r.2 =
    fuel (length (c ∷ rest)) (length r.2 + 1) r.1 r.2 later.between (omega (arith, later.no_more)) (omega arith) in
    rw (add-one (length (c ∷ rest)), e) (ap (λ t. r.0 ∷ t) same)

-- where no record is read, none is left
pub records_left-none : (s : State) (xs : List ℕ) → next_record default_config s [] [] xs ≡ None → records_left s xs ≡ []
unfolding records_from
records_left-none s xs e = rw (add-one (length xs), e)

-- a record that was read leaves the reader between two records
pub next_between : (s : State) (xs : List ℕ) (r : Read) → next_record default_config s [] [] xs ≡ Some r → Between r.1
next_between s xs r e = (advances xs s [] [] r e).between

-- and fewer bytes
shorter : (s : State) (xs : List ℕ) (r : Read) → Between s → next_record default_config s [] [] xs ≡ Some r → length r.2 < length xs
shorter s [] r between e = absurd (none-some r (sym (none_at_end s between) ∙ e))
shorter s (c ∷ rest) r between e = omega (arith, (advances (c ∷ rest) s [] [] r e).no_more)

-- without a byte order mark a text is no longer
pub length-strip_bom-le : (bytes : List ℕ) → length (strip_bom bytes) ≤ length bytes
unfolding strip_bom
length-strip_bom-le [] = lit≤ tt
length-strip_bom-le (a ∷ []) = omega arith
length-strip_bom-le (a ∷ b ∷ []) = omega arith
length-strip_bom-le (a ∷ b ∷ c ∷ rest) =
    elim (cases_Bool (is_bom a b c)) [
      | inl e ↦ rw e (omega arith)
      | inr e ↦ rw e (omega arith)
    ]

same_read : (r : Read) (fields : List (List ℕ)) (s : State) (left : List ℕ) → fields ≡ r.0 → r.1 ≡ s → r.2 ≡ left → r ≡ (fields, s, left)
same_read r fields s left a b c = rw (a, ← b, ← c)

-- a record that a reader with the crate's defaults gave is the next one of the bytes that it had left
pub read_one : {R : Type 0} (rem : R → Option (List ℕ)) (a b : Reader R) (fields : List (List ℕ)) (left : List ℕ)
    → a.config ≡ default_config → source_of rem a ≡ Some left → ReadRecord rem a b true fields
    → (after : List ℕ) × (source_of rem b ≡ Some after) × (next_record default_config a.state [] [] left ≡ Some (fields, b.state, after))
unfolding Reached
read_one rem a b fields left config source read =
    let m = rows-more rem a b fields default_config a.state left left [] config source (refl, refl) read in
    (m.0, m.1, m.2.1 ∙ ap Some (same_read m.2.0 fields b.state m.0 m.2.2 m.2.3.0 m.2.3.1))

-- one more record read
pub reads_one : (bytes : List ℕ) (a b : Reader (Bor (List ℕ))) (read : List (List (List ℕ))) (fields : List (List ℕ)) → ReadsCsv bytes a read
    → ReadRecord (λ s. Some s.now) a b true fields → b.first ≡ true → b.config ≡ a.config → b.trim ≡ a.trim → ReadsOneCsv bytes a b read fields
reads_one bytes a b read fields so_far one first config trim =
    let next = read_one (λ (s : Bor (List ℕ)). Some s.now) a b fields so_far.left so_far.config so_far.source one in
    let r : Read = (fields, b.state, next.0) in
    let fewer = shorter a.state so_far.left r so_far.between next.2 in
    let split : records_of bytes ≡ read ++ fields ∷ records_left b.state next.0
    = so_far.rows ∙ ap (λ records. read ++ records) (records_left-some a.state so_far.left r so_far.between next.2) in
    record {
      below = records_left b.state next.0;
      split = split;
      reads = record {
        trim = trim ∙ so_far.trim;
        ready = inl first;
        config = config ∙ so_far.config;
        between = next_between a.state so_far.left r next.2;
        left = next.0;
        source = next.1;
        rows = split ∙ sym (append_assoc read (fields ∷ []) (records_left b.state next.0));
        few = omega (arith, length-append read (fields ∷ []), so_far.few);
      };
      fewer = rw (next.1, so_far.source) fewer;
    }

-- where no record is left, those that were read are all
pub reads_all : (bytes : List ℕ) (a : Reader (Bor (List ℕ))) (read : List (List (List ℕ))) (so_far : ReadsCsv bytes a read)
    → next_record default_config a.state [] [] so_far.left ≡ None → records_of bytes ≡ read
reads_all bytes a read so_far ended =
    so_far.rows ∙ ap (λ records. read ++ records) (records_left-none a.state so_far.left ended) ∙ append-nil read
