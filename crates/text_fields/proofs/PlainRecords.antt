-- Plain fields that are written with a comma between each two of them, and a line feed behind them, are read as one record.
use Rattle.std.proofs.Common.{◌≡◌, ℕ, ◌&&◌, not, true, false, ◌==◌, Bool, cond, List, [], ◌∷◌, ◌++◌, Some, refl, sym, ap, ◌∙◌, append_assoc}
use Rattle.std.proofs.lemmas.Bool.{and_parts}
use Rattle.std.proofs.lemmas.List.{append-nil}
use Rattle.std.specs.List.{join_with_byte, list_all}
use Rattle.csv.specs.Machine.{field_after, fields_after, is_end, next_record, step}
use Rattle.csv.specs.Reading.{default_config, strip_bom}
use Rattle.csv.specs.declared.parser.Action.{Action}
use Rattle.csv.specs.declared.parser.Action.TheVariants as act
use Rattle.csv.specs.declared.parser.State.{State}
use Rattle.csv.specs.declared.parser.State.TheVariants as st
use Rattle.text_fields.specs.CsvReading.{records_left}
use Rattle.text_fields.specs.PlainRows.{is_plain}
use Rattle.text_fields.proofs.CsvReading.{none_at_end, records_left-none, records_left-some}

-- each field is plain
abbrev pub ArePlain : List (List ℕ) → Type 0
ArePlain [] = Unit {0}
ArePlain (field ∷ fields) = (list_all is_plain field ≡ true) × ArePlain fields

-- and there is a first one, which is not empty
abbrev pub IsPlainRecord : List (List ℕ) → Type 0
IsPlainRecord [] = ⊥
IsPlainRecord ([] ∷ fields) = ⊥
IsPlainRecord ((byte ∷ rest) ∷ fields) = (list_all is_plain (byte ∷ rest) ≡ true) × ArePlain fields

record IsOther (b : ℕ) : Type 0 where
  comma : (b == 44) ≡ false
  quote : (b == 34) ≡ false
  return : (b == 13) ≡ false
  feed : (b == 10) ≡ false

negated : (t : Bool) → not t ≡ true → t ≡ false
negated true is = cc
negated false is = refl

other : (b : ℕ) → is_plain b ≡ true → IsOther b
other b plain =
    let (front, feed) = and_parts (not (b == 44) && not (b == 34) && not (b == 13)) (not (b == 10)) plain in
    let (two, return) = and_parts (not (b == 44) && not (b == 34)) (not (b == 13)) front in
    let (comma, quote) = and_parts (not (b == 44)) (not (b == 34)) two in
    record {
      comma = negated (b == 44) comma;
      quote = negated (b == 34) quote;
      return = negated (b == 13) return;
      feed = negated (b == 10) feed;
    }

-- a plain byte joins the field at hand
in_field : (b : ℕ) → is_plain b ≡ true → step default_config st.InField b ≡ (st.InField, act.Copy)
in_field b plain = let t = other b plain in rw (t.comma, t.return, t.feed) refl

pub start_field : (b : ℕ) → is_plain b ≡ true → step default_config st.StartField b ≡ (st.InField, act.Copy)
start_field b plain = let t = other b plain in rw (t.quote, t.comma, t.return, t.feed) refl

start_record : (b : ℕ) → is_plain b ≡ true → step default_config st.StartRecord b ≡ (st.InField, act.Copy)
start_record b plain = let t = other b plain in rw (t.return, t.feed, t.quote, t.comma) refl

-- one byte more
pub next_by : (s : State) (b : ℕ) (done : List (List ℕ)) (field rest : List ℕ) (after : State) (a : Action) → step default_config s b ≡ (after, a)
    → next_record default_config s done field (b ∷ rest)
    ≡ cond (is_end a) (Some (fields_after a done field, after, rest)) (next_record default_config after (fields_after a done field) (field_after a b field) rest)
unfolding next_record
next_by s b done field rest after a is =
    ap (λ (p : State × Action). cond (is_end p.1) (Some (fields_after p.1 done field, p.0, rest))
    (next_record default_config p.0 (fields_after p.1 done field) (field_after p.1 b field) rest)) is

pub run : (xs : List ℕ) (done : List (List ℕ)) (field rest : List ℕ) → list_all is_plain xs ≡ true
    → next_record default_config st.InField done field (xs ++ rest) ≡ next_record default_config st.InField done (field ++ xs) rest
run [] done field rest all = ap (λ (f : List ℕ). next_record default_config st.InField done f rest) (sym (append-nil field))
run (b ∷ xs) done field rest all =
    let (here, more) = and_parts (is_plain b) (list_all is_plain xs) all in
    next_by st.InField b done field (xs ++ rest) st.InField act.Copy (in_field b here)
    ∙ run xs done (field ++ b ∷ []) rest more
    ∙ ap (λ (f : List ℕ). next_record default_config st.InField done f rest) (append_assoc field (b ∷ []) xs)

-- what stands behind a field of a record that is written
abbrev behind : List (List ℕ) → List ℕ → List ℕ
behind [] rest = 10 ∷ rest
behind (g ∷ gs) rest = 44 ∷ (join_with_byte 44 (g ∷ gs) ++ 10 ∷ rest)

joined : (f : List ℕ) (fs : List (List ℕ)) (rest : List ℕ) → join_with_byte 44 (f ∷ fs) ++ 10 ∷ rest ≡ f ++ behind fs rest
joined f [] rest = refl
joined f (g ∷ gs) rest = append_assoc f (44 ∷ join_with_byte 44 (g ∷ gs)) (10 ∷ rest)

-- an empty field ends as one that has bytes
alike : (fs done : List (List ℕ)) (rest : List ℕ)
    → next_record default_config st.StartField done [] (behind fs rest) ≡ next_record default_config st.InField done [] (behind fs rest)
alike [] done rest =
    next_by st.StartField 10 done [] rest st.StartRecord act.EndRecord refl ∙ sym (next_by st.InField 10 done [] rest st.StartRecord act.EndRecord refl)
alike (g ∷ gs) done rest =
    let more = join_with_byte 44 (g ∷ gs) ++ 10 ∷ rest in
    next_by st.StartField 44 done [] more st.StartField act.EndField refl ∙ sym (next_by st.InField 44 done [] more st.StartField act.EndField refl)

starts : (g : List ℕ) (gs done : List (List ℕ)) (rest : List ℕ) → list_all is_plain g ≡ true
    → ((f : List ℕ) → next_record default_config st.InField done f (behind gs rest) ≡ Some (done ++ f ∷ gs, st.StartRecord, rest))
    → next_record default_config st.StartField done [] (g ++ behind gs rest) ≡ Some (done ++ g ∷ gs, st.StartRecord, rest)
starts [] gs done rest plain more = alike gs done rest ∙ more []
starts (b ∷ bs) gs done rest plain more =
    let (here, others) = and_parts (is_plain b) (list_all is_plain bs) plain in
    next_by st.StartField b done [] (bs ++ behind gs rest) st.InField act.Copy (start_field b here)
    ∙ run bs done (b ∷ []) (behind gs rest) others
    ∙ more (b ∷ bs)

ends : (fs : List (List ℕ)) (f : List ℕ) (done : List (List ℕ)) (rest : List ℕ) → ArePlain fs
    → next_record default_config st.InField done f (behind fs rest) ≡ Some (done ++ f ∷ fs, st.StartRecord, rest)
ends [] f done rest plain = next_by st.InField 10 done f rest st.StartRecord act.EndRecord refl
ends (g ∷ gs) f done rest plain =
    next_by st.InField 44 done f (join_with_byte 44 (g ∷ gs) ++ 10 ∷ rest) st.StartField act.EndField refl
    ∙ ap (next_record default_config st.StartField (done ++ f ∷ []) []) (joined g gs rest)
    ∙ starts g gs (done ++ f ∷ []) rest plain.0 (λ field. ends gs field (done ++ f ∷ []) rest plain.1)
    ∙ ap (λ (l : List (List ℕ)). Some (l, st.StartRecord, rest)) (append_assoc done (f ∷ []) (g ∷ gs))

-- the record is the next one of a text that goes on with its line
pub plain-next : (fields : List (List ℕ)) (rest : List ℕ) → IsPlainRecord fields
    → records_left st.StartRecord ((join_with_byte 44 fields ++ 10 ∷ []) ++ rest) ≡ fields ∷ records_left st.StartRecord rest
plain-next [] rest plain = absurd plain
plain-next ([] ∷ fs) rest plain = absurd plain
plain-next ((b ∷ bs) ∷ fs) rest plain =
    let (here, others) = and_parts (is_plain b) (list_all is_plain bs) plain.0 in
    let line = join_with_byte 44 ((b ∷ bs) ∷ fs) in
    let is : next_record default_config st.StartRecord [] [] ((line ++ 10 ∷ []) ++ rest) ≡ Some ((b ∷ bs) ∷ fs, st.StartRecord, rest)
    = ap (next_record default_config st.StartRecord [] []) (append_assoc line (10 ∷ []) rest ∙ joined (b ∷ bs) fs rest)
    ∙ next_by st.StartRecord b [] [] (bs ++ behind fs rest) st.InField act.Copy (start_record b here)
    ∙ run bs [] (b ∷ []) (behind fs rest) others
    ∙ ends fs (b ∷ bs) [] rest plain.1 in
    records_left-some st.StartRecord ((line ++ 10 ∷ []) ++ rest) ((b ∷ bs) ∷ fs, st.StartRecord, rest) refl is

-- where nothing is left, no record is
pub none-next : records_left st.StartRecord [] ≡ []
none-next = records_left-none st.StartRecord [] (none_at_end st.StartRecord refl)

-- a text that begins with another byte has no byte order mark
pub no-mark : (a : ℕ) (rest : List ℕ) → (a == 0xEF) ≡ false → strip_bom (a ∷ rest) ≡ a ∷ rest
unfolding strip_bom
no-mark a [] test = refl
no-mark a (b ∷ []) test = refl
no-mark a (b ∷ c ∷ rest) test = rw test refl

pub no-mark-empty : strip_bom [] ≡ []
unfolding strip_bom
no-mark-empty = refl
