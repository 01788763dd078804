-- A line that is cut at its commas is the first record of a text that goes on with it.
use Rattle.std.proofs.Common.{Bor, ◌≡◌, ◌≢◌, ◌⊎◌, inl, inr, ℕ, ◌+◌, ◌-◌, ◌<◌, ◌≤◌, ◌==◌, true, false, cond, List, [], ◌∷◌, ◌++◌, length, length-append, drop, get_or, lit≤, slice_set, map, take, Option, Some, None, zero, suc, refl, sym, ap, ◌∙◌, arith}
use Rattle.std.proofs.lemmas.Bool.{and_parts, cases_Bool}
use Rattle.std.proofs.lemmas.Bool.Decides.{nat_tests}
use Rattle.std.proofs.lemmas.List.{map-append, take_more_set}
use Rattle.std.proofs.Math.Seq.{take-length}
use Rattle.std.specs.List.{list_all}
use Rattle.csv.specs.Machine.{Read, field_after, fields_after, is_end, next_record, step}
use Rattle.csv.specs.Reading.{default_config, strip_bom}
use Rattle.csv.specs.Records.{field_at}
use Rattle.csv.specs.declared.parser.Action.{Action}
use Rattle.csv.specs.declared.parser.Action.TheVariants as act
use Rattle.csv.specs.declared.parser.State.{State}
use Rattle.csv.specs.declared.parser.State.TheVariants as st
use Rattle.text_fields.specs.CsvReading.{Between, records_left}
use Rattle.text_fields.specs.CsvRows.{records_of}
use Rattle.text_fields.specs.PlainRows.{ends_line, is_plain, without_ends}
use Rattle.text_fields.specs.RecordReading.{IsCut, parts_in}
use Rattle.text_fields.proofs.CsvReading.{records_left-none, records_left-some}
use Rattle.text_fields.proofs.PlainRecords.{next_by, no-mark, no-mark-empty, none-next, run, start_field}

-- One field

module _ (done : List (List ℕ)) where
  -- a plain field up to a comma
  pub to_comma : (xs more : List ℕ) → list_all is_plain xs ≡ true
      → next_record default_config st.StartField done [] (xs ++ 44 ∷ more) ≡ next_record default_config st.StartField (done ++ xs ∷ []) [] more
  to_comma [] more plain = next_by st.StartField 44 done [] more st.StartField act.EndField refl
  to_comma (b ∷ bs) more plain =
      let (here, others) = and_parts (is_plain b) (list_all is_plain bs) plain in
      next_by st.StartField b done [] (bs ++ 44 ∷ more) st.InField act.Copy (start_field b here)
      ∙ run bs done (b ∷ []) (44 ∷ more) others
      ∙ next_by st.InField 44 done (b ∷ bs) more st.StartField act.EndField refl

  -- one up to a line feed
  pub to_feed : (xs more : List ℕ) → list_all is_plain xs ≡ true
      → next_record default_config st.StartField done [] (xs ++ 10 ∷ more) ≡ Some (done ++ xs ∷ [], st.StartRecord, more)
  to_feed [] more plain = next_by st.StartField 10 done [] more st.StartRecord act.EndRecord refl
  to_feed (b ∷ bs) more plain =
      let (here, others) = and_parts (is_plain b) (list_all is_plain bs) plain in
      next_by st.StartField b done [] (bs ++ 10 ∷ more) st.InField act.Copy (start_field b here)
      ∙ run bs done (b ∷ []) (10 ∷ more) others
      ∙ next_by st.InField 10 done (b ∷ bs) more st.StartRecord act.EndRecord refl

  -- one up to the end of the text
  pub to_end : (xs : List ℕ) → list_all is_plain xs ≡ true
      → next_record default_config st.StartField done [] (xs ++ []) ≡ Some (done ++ xs ∷ [], st.StartRecord, [])
  unfolding next_record
  to_end [] plain = refl
  to_end (b ∷ bs) plain =
      let (here, others) = and_parts (is_plain b) (list_all is_plain bs) plain in
      next_by st.StartField b done [] (bs ++ []) st.InField act.Copy (start_field b here)
      ∙ run bs done (b ∷ []) [] others

-- Where a row begins

same_left : (s t : State) (xs ys : List ℕ) → Between s → Between t → (o : Option Read) → next_record default_config t [] [] ys ≡ o
    → next_record default_config s [] [] xs ≡ o → records_left s xs ≡ records_left t ys
same_left s t xs ys one other None there here = records_left-none s xs here ∙ sym (records_left-none t ys there)
same_left s t xs ys one other (Some r) there here = records_left-some s xs r one here ∙ sym (records_left-some t ys r other there)

skips : (b : ℕ) (rest : List ℕ) → ends_line b ≡ true → next_record default_config st.StartRecord [] [] (b ∷ rest) ≡ next_record default_config st.StartRecord [] [] rest
skips b rest ends = next_by st.StartRecord b [] [] rest st.StartRecord act.Skip (rw ends refl)

-- line ends at the start of a text are no records
pub left-ends : (text : List ℕ) → records_left st.StartRecord text ≡ records_left st.StartRecord (without_ends text)
left-ends [] = refl
left-ends (b ∷ rest) =
    elim (cases_Bool (ends_line b)) [
      | inl e ↦
          rw e (same_left st.StartRecord st.StartRecord (b ∷ rest) rest refl refl (next_record default_config st.StartRecord [] [] rest) refl (skips b rest e) ∙ left-ends rest)
      | inr e ↦ rw e refl
    ]

-- what is left begins with no line end
pub begun : (text : List ℕ) (b : ℕ) (rest : List ℕ) → without_ends text ≡ b ∷ rest → ends_line b ≡ false
begun [] b rest is = absurd (cc)
begun (c ∷ text) b rest is =
    elim (cases_Bool (ends_line c)) [
      | inl e ↦ begun text b rest (rw e at is)
      | inr e ↦
          let whole : c ∷ text ≡ b ∷ rest = rw e at is in
          let same : c ≡ b = cc in
          rw same at e
    ]

pub begins : (text : List ℕ) → 0 < length (without_ends text) → get_or (without_ends text) 0 10 ≢ 10
begins text some = first (without_ends text) refl some
  where
    first : (line : List ℕ) → without_ends text ≡ line → 0 < length line → get_or line 0 10 ≢ 10
    first [] is some feed = absurd (omega (arith, some))
    first (b ∷ rest) is some feed =
        let none : ends_line b ≡ false = begun text b rest is in
        let both : ends_line 10 ≡ false = rw feed at none in
        absurd (cc)

same_start : (b : ℕ) → ends_line b ≡ false → step default_config st.StartRecord b ≡ step default_config st.StartField b
same_start b other = rw other refl

-- a row begins as a field does
starts : (b : ℕ) (rest : List ℕ) → ends_line b ≡ false → next_record default_config st.StartRecord [] [] (b ∷ rest) ≡ next_record default_config st.StartField [] [] (b ∷ rest)
unfolding next_record
starts b rest other =
    ap (λ (p : State × Action). cond (is_end p.1) (Some (fields_after p.1 [] [], p.0, rest))
    (next_record default_config p.0 (fields_after p.1 [] []) (field_after p.1 b []) rest)) (same_start b other)

-- Byte order marks

unmarked_at : (b : ℕ) (rest : List ℕ) → ends_line b ≡ true → strip_bom (b ∷ rest) ≡ b ∷ rest
unmarked_at b rest ends =
    let other : (b == 0xEF) ≡ false = grind (arith, nat_tests, ends) in
    no-mark b rest other

pub unmarked : (text : List ℕ) → (get_or (without_ends text) 0 0 == 0xEF) ≡ false → strip_bom text ≡ text
unmarked [] first = no-mark-empty
unmarked (b ∷ rest) first =
    elim (cases_Bool (ends_line b)) [
      | inl e ↦ unmarked_at b rest e
      | inr e ↦ no-mark b rest (rw e at first)
    ]

-- The first record

-- a line feed, and what stands behind it, have the records of the latter
behind_feed : (behind : List ℕ) → get_or behind 0 10 ≡ 10 → records_of behind ≡ records_left st.StartRecord (drop 1 behind)
behind_feed [] feed = ap (records_left st.StartRecord) no-mark-empty
behind_feed (b ∷ rest) feed =
    rw feed (ap (records_left st.StartRecord) (no-mark 10 rest refl)
    ∙ same_left st.StartRecord st.StartRecord (10 ∷ rest) rest refl refl (next_record default_config st.StartRecord [] [] rest) refl (skips 10 rest refl))

pub no-record : (text : List ℕ) → without_ends text ≡ [] → records_of text ≡ []
no-record text none =
    ap (records_left st.StartRecord) (unmarked text (rw none refl)) ∙ left-ends text ∙ ap (records_left st.StartRecord) none ∙ none-next

pub first-record : (text line : List ℕ) (fields : List (List ℕ)) (behind : List ℕ) → line ≡ without_ends text → 0 < length line
    → (get_or line 0 0 == 0xEF) ≡ false → IsCut line fields behind → records_of text ≡ fields ∷ records_of behind
first-record text [] fields behind is some first cut = absurd (omega arith)
first-record text (b ∷ rest) fields behind is some first cut =
    let other = begun text b rest (sym is) in
    let next : next_record default_config st.StartRecord [] [] (b ∷ rest) ≡ Some (fields, st.StartRecord, drop 1 behind) = starts b rest other ∙ cut.next in
    let bare : strip_bom text ≡ text = unmarked text (rw (← is) first) in
    ap (records_left st.StartRecord) bare ∙ left-ends text ∙ ap (records_left st.StartRecord) (sym is)
    ∙ records_left-some st.StartRecord (b ∷ rest) (fields, st.StartRecord, drop 1 behind) refl next
    ∙ ap (λ rows. fields ∷ rows) (sym (behind_feed behind cut.feed))

-- The parts of a line that is being cut

pub record IsCutting (line : List ℕ) (parts : List (Bor (List ℕ))) (count : ℕ) (left : List ℕ) : Type 0 where
  pub room : length parts ≡ 16
  pub next : next_record default_config st.StartField [] [] line ≡ next_record default_config st.StartField (parts_in parts count) [] left
  pub shorter : (left ≡ line) ⊎ (length left < length line)

-- a text that begins with no line feed is longer than what stands behind its first field
pub fewer_behind : (line left field behind : List ℕ) → get_or line 0 10 ≢ 10 → (left ≡ line) ⊎ (length left < length line) → left ≡ field ++ behind
    → get_or behind 0 10 ≡ 10 → length behind < length line
fewer_behind line left field behind begins (inr shorter) split feed = omega (arith, shorter, ap length split, length-append field behind)
fewer_behind line left [] behind begins (inl same) split feed =
    let whole : line ≡ behind = sym same ∙ split in
    absurd (begins (ap (λ (text : List ℕ). get_or text 0 10) whole ∙ feed))
fewer_behind line left (b ∷ field) behind begins (inl same) split feed =
    omega (arith, ap length same, ap length split, length-append (b ∷ field) behind)

pub length-ends : (text : List ℕ) → length (without_ends text) ≤ length text
length-ends [] = lit≤ tt
length-ends (b ∷ rest) =
    elim (cases_Bool (ends_line b)) [
      | inl e ↦ rw e (omega (arith, length-ends rest))
      | inr e ↦ rw e (omega arith)
    ]

parts-more : (parts : List (Bor (List ℕ))) (count : ℕ) (part : Bor (List ℕ)) → count < length parts
    → parts_in (slice_set parts count part) (count + 1) ≡ parts_in parts count ++ part.now ∷ []
parts-more parts count part inside =
    ap (map (λ (p : Bor (List ℕ)). p.now)) (take_more_set parts count part inside) ∙ map-append (λ (p : Bor (List ℕ)). p.now) (take count parts) (part ∷ [])

one_off : (b : ℕ) (rest : List ℕ) → take (length (b ∷ rest) - 1) (drop 1 (b ∷ rest)) ≡ rest
one_off b rest =
    let same : length (b ∷ rest) - 1 ≡ length rest = omega arith in
    rw same (take-length rest)

shorter_behind : (line left field rest : List ℕ) → (left ≡ line) ⊎ (length left < length line) → left ≡ field ++ 44 ∷ rest → length rest < length line
shorter_behind line left field rest (inl same) split = omega (arith, ap length same, ap length split, length-append field (44 ∷ rest))
shorter_behind line left field rest (inr shorter) split = omega (arith, shorter, ap length split, length-append field (44 ∷ rest))

-- a field more, behind which a line or the text ends
module _ (line : List ℕ) (parts : List (Bor (List ℕ))) (count : ℕ) (left : List ℕ) (so_far : IsCutting line parts count left) (more : count < 16)
    (part : Bor (List ℕ)) (plain : list_all is_plain part.now ≡ true) where
  next_at : (behind : List ℕ) → left ≡ part.now ++ behind → get_or behind 0 10 ≡ 10
      → next_record default_config st.StartField (parts_in parts count) [] left ≡ Some (parts_in parts count ++ part.now ∷ [], st.StartRecord, drop 1 behind)
  next_at [] split feed = ap (next_record default_config st.StartField (parts_in parts count) []) split ∙ to_end (parts_in parts count) part.now plain
  next_at (b ∷ rest) split feed =
      ap (next_record default_config st.StartField (parts_in parts count) []) (rw feed at split) ∙ to_feed (parts_in parts count) part.now rest plain

  pub cut_here : (behind : List ℕ) → get_or line 0 10 ≢ 10 → left ≡ part.now ++ behind → get_or behind 0 10 ≡ 10
      → IsCut line (parts_in (slice_set parts count part) (count + 1)) behind
  cut_here behind begun split feed =
      record {
        next = rw (parts-more parts count part (omega (arith, so_far.room, more))) (so_far.next ∙ next_at behind split feed);
        feed = feed;
        fewer = fewer_behind line left part.now behind begun so_far.shorter split feed;
      }

  -- and one behind which a comma stands
  pub cut_on : (behind : List ℕ) → left ≡ part.now ++ behind → 1 ≤ length behind → get_or behind 0 0 ≡ 44
      → length (slice_set parts count part) ≡ 16
      → IsCutting line (slice_set parts count part) (count + 1) (take (length behind - 1) (drop 1 behind))
  cut_on [] split some comma room = absurd (omega (arith, some))
  cut_on (b ∷ rest) split some comma room =
      let whole : take (length (b ∷ rest) - 1) (drop 1 (b ∷ rest)) ≡ rest = one_off b rest in
      let from_comma : left ≡ part.now ++ 44 ∷ rest = rw comma at split in
      rw whole record {
        room = room;
        next = rw (parts-more parts count part (omega (arith, so_far.room, more)))
            (so_far.next ∙ ap (next_record default_config st.StartField (parts_in parts count) []) from_comma ∙ to_comma (parts_in parts count) part.now rest plain);
        shorter = inr (shorter_behind line left part.now rest so_far.shorter from_comma);
      }

-- The parts by their places

-- a part at a place, and how many they are
pub part-at : (parts : List (Bor (List ℕ))) (count place : ℕ) (d : Bor (List ℕ)) → place < count → place < length parts
    → field_at (parts_in parts count) place ≡ Some (get_or parts place d).now
unfolding field_at
part-at [] count place d some inside = absurd (omega arith)
part-at (p ∷ parts) zero place d some inside = absurd (omega arith)
part-at (p ∷ parts) (suc count) zero d some inside = refl
part-at (p ∷ parts) (suc count) (suc place) d some inside = part-at parts count place d (omega (arith, some)) (omega (arith, inside))

pub no-part : (parts : List (Bor (List ℕ))) (count place : ℕ) → (count ≤ place) ⊎ (length parts ≤ place) → field_at (parts_in parts count) place ≡ None
unfolding field_at
no-part [] zero place none = refl
no-part [] (suc count) place none = refl
no-part (p ∷ parts) zero place none = refl
no-part (p ∷ parts) (suc count) zero (inl few) = absurd (omega (arith, few))
no-part (p ∷ parts) (suc count) zero (inr few) = absurd (omega (arith, few))
no-part (p ∷ parts) (suc count) (suc place) (inl few) = no-part parts count place (inl (omega (arith, few)))
no-part (p ∷ parts) (suc count) (suc place) (inr few) = no-part parts count place (inr (omega (arith, few)))

pub as-many : (parts : List (Bor (List ℕ))) (count : ℕ) → count ≤ length parts → length (parts_in parts count) ≡ count
as-many parts zero few = refl
as-many [] (suc count) few = absurd (omega (arith, few))
as-many (p ∷ parts) (suc count) few = ap suc (as-many parts count (omega (arith, few)))

pub all-parts : (parts : List (Bor (List ℕ))) (count : ℕ) → length parts ≤ count → length (parts_in parts count) ≡ length parts
all-parts [] zero many = refl
all-parts [] (suc count) many = refl
all-parts (p ∷ parts) zero many = absurd (omega (arith, many))
all-parts (p ∷ parts) (suc count) many = ap suc (all-parts parts count (omega (arith, many)))
