-- What clap's getters read, by the rows of its matches.
use Rattle.std.proofs.Common.{◌≡◌, ◌∙◌, ◌<◌, inl, inr, ◌^◌, ℕ, Bool, true, false, refl, sym, ap, List, [], ◌∷◌, fold, length, codes, Option, Some, None, Result, Ok, Err, nat_lt, lt-ltb, ltb-true, subst, unwrap_or}
use Rattle.std.specs.Option.{option_map_or}
use Rattle.std.specs.Result.{IsErrAnd}
use Rattle.std.specs.Prelude.{◌⊎◌, if◌then◌else◌, IfErr, find, option_and_then}
use Rattle.std.specs.List.{list_all}
use Rattle.std.specs.Char.{digit_value}
use Rattle.std.specs.Str.{bytes_eq}
use Rattle.std.specs.Str.Parse.{AllDigits, IsNumeral, ParsesBool, ParsesUnsigned, digits_value, without_leading_plus}
use Rattle.std.proofs.lemmas.Option.{same_Some}
use Rattle.std.proofs.lemmas.Slice.Eq.{bytes_eq-Decides}
use Rattle.clap.specs.Matches.{ReadsOne}
use Rattle.clap.specs.ValueTests.{is_numeral}
use Rattle.clap.specs.Walk.{Text, is_empty}
use Rattle.clap.proofs.SimpleLemmas.{is_nil}
use Rattle.clap.proofs.WalkLemmas.{both}
use Rattle.clap.specs.Words.{App, Row, fault_of, is_simple_and_free, matches_of}
use Rattle.clap.proofs.OnLiterals.{clap_on_literals}
use Rattle.command_words.specs.declared.words.WordsFault.{WordsFault}
use Rattle.command_words.specs.declared.words.WordsFault.TheVariants.{Memory, NoCommand}
use Rattle.command_words.specs.WordsRead.{ExplainsWords}
use Rattle.command_words.specs.declared.table.Argument.{Argument}
use Rattle.command_words.specs.declared.table.Argument.TheVariants.{File, FileIf, Number, At, Tail, Report}
use Rattle.command_words.specs.declared.table.Verb.{Verb}
use Rattle.command_words.specs.Words.{Command, Found, arguments_of, bare_command, command_meant, is_named, number_in, taken_by, verb_app, verb_named, verbs, with_argument}

is_true : {E : Type 0} (G : Text → Result Bool E → Type 0) (text : Text) (read : Option Bool)
    → ((t : Text) (x : Result Bool E) → G t x → ParsesBool t x) → ReadsOne G text read → unwrap_or read false ≡ bytes_eq text (codes "true")
is_true G text (Some true) gives reads = let is : text ≡ codes "true" = gives text (Ok true) reads in rw is refl
is_true G text (Some false) gives reads = let is : text ≡ codes "false" = gives text (Ok false) reads in rw is refl
is_true G text None gives reads = go (bytes_eq text (codes "true")) refl
  where
    go : (b : Bool) → bytes_eq text (codes "true") ≡ b → false ≡ bytes_eq text (codes "true")
    go true is = absurd ((gives text (Err reads.0) reads.1).0 ((bytes_eq-Decides text (codes "true")).0 is))
    go false is = sym is

-- a flag is read as its text says
pub read_flag : {E : Type 0} (G : Text → Result Bool E → Type 0) (text : Option Text) (read : Option Bool)
    → ((t : Text) (x : Result Bool E) → G t x → ParsesBool t x) → (text ≡ None → read ≡ None) → ((t : Text) → text ≡ Some t → ReadsOne G t read)
    → unwrap_or read false ≡ option_map_or (λ t. bytes_eq t (codes "true")) text false
read_flag G None read gives none some = ap (λ r. unwrap_or r false) (none refl)
read_flag G (Some text) read gives none some = is_true G text read gives (some text refl)

all_digits : (digits : List ℕ) → AllDigits 10 digits → list_all (λ d. nat_lt (digit_value d) 10) digits ≡ true
all_digits [] each = refl
all_digits (digit ∷ rest) each = rw (lt-ltb (digit_value digit) 10 each.0) (all_digits rest each.1)

each_digit : (digits : List ℕ) → list_all (λ d. nat_lt (digit_value d) 10) digits ≡ true → AllDigits 10 digits
each_digit [] all = tt
each_digit (digit ∷ rest) all = let parts = both _ _ all in (ltb-true _ _ parts.0, each_digit rest parts.1)

numeral_test : (digits : List ℕ) → IsNumeral 10 digits → is_numeral digits ≡ true
numeral_test digits is = rw (lt-ltb 0 (length digits) is.0) (all_digits digits is.1)

numeral_back : (digits : List ℕ) → is_numeral digits ≡ true → IsNumeral 10 digits
numeral_back digits is = let parts = both _ _ is in (ltb-true _ _ parts.0, each_digit digits parts.1)

-- a number is read as its text says
pub read_number : {E : Type 0} (G : Text → Result ℕ E → Type 0) (bits : ℕ) (text : Text) (read : Option ℕ)
    → ((t : Text) (x : Result ℕ E) → G t x → ParsesUnsigned bits 10 t x) → ReadsOne G text read → read ≡ number_in bits text
read_number G bits text (Some n) gives reads =
    let parsed = gives text (Ok n) reads in
    let digits = without_leading_plus text in
    rw (numeral_test digits parsed.0.0, lt-ltb (digits_value 10 digits) (2 ^ bits) parsed.0.1) (ap Some parsed.1)
read_number G bits text None gives reads =
    let refused = gives text (Err reads.0) reads.1 in
    let digits = without_leading_plus text in
    go (is_numeral digits) refl (nat_lt (digits_value 10 digits) (2 ^ bits)) refl refused
  where
    go : (a : Bool) → is_numeral (without_leading_plus text) ≡ a → (b : Bool) → nat_lt (digits_value 10 (without_leading_plus text)) (2 ^ bits) ≡ b
        → ((IsNumeral 10 (without_leading_plus text) × (digits_value 10 (without_leading_plus text) < 2 ^ bits)) → ⊥)
        → None ≡ number_in bits text
    go true is true low refused = absurd (refused (numeral_back _ is, ltb-true _ _ low))
    go true is false low refused = rw (is, low) refl
    go false is b low refused = rw is refl

pub read_number_of : {E : Type 0} (G : Text → Result ℕ E → Type 0) (bits : ℕ) (text : Option Text) (read : Option ℕ)
    → ((t : Text) (x : Result ℕ E) → G t x → ParsesUnsigned bits 10 t x) → (text ≡ None → read ≡ None)
    → ((t : Text) → text ≡ Some t → ReadsOne G t read) → read ≡ option_and_then (number_in bits) text
read_number_of G bits None read gives none some = none refl
read_number_of G bits (Some text) read gives none some = read_number G bits text read gives (some text refl)

-- where clap takes the words of a command of the table, they ask for what the rows mean that it found
pub asked_for : {A : Type 0} (app : App) (meaning : List Row → A) (words : List Text) (own : App) (rows : List Row) (value : A)
    → own ≡ app → fault_of own words ≡ [] → rows ≡ matches_of own words → value ≡ meaning rows
    → Some value ≡ taken_by app meaning words
unfolding taken_by
asked_for app meaning words own rows value same none found means =
    let no_fault : fault_of app words ≡ [] = ap (λ it. fault_of it words) (sym same) ∙ none in
    let of_table : rows ≡ matches_of app words = found ∙ ap (λ it. matches_of it words) same in
    rw no_fault (ap Some (means ∙ ap meaning of_table))

none_taken : {A : Type 0} (app : App) (meaning : List Row → A) (words : List Text) (none : Bool)
    → is_empty (fault_of app words) ≡ none → (fault_of app words ≡ [] → ⊥) → taken_by app meaning words ≡ None
unfolding taken_by
none_taken app meaning words true is some = absurd (some (is_nil (fault_of app words) is))
none_taken app meaning words false is some = rw is refl

-- where clap does not take the words of a command of the table, or memory ran out, a `?` hands that on
pub refused : {A B : Type 0} (app : App) (meaning : List Row → A) (words : List Text) (own : App) (result : Result B WordsFault)
    (why : WordsFault) → own ≡ app → IsErrAnd result (λ now. now ≡ why)
    → (why ≡ Memory) ⊎ ((why ≡ NoCommand) × (fault_of own words ≡ [] → ⊥))
    → IfErr result (ExplainsWords (taken_by app meaning words))
refused app meaning words own (Ok value) why same is stop = absurd is
refused app meaning words own (Err now) why same is (inl memory) = inl (is ∙ memory)
refused app meaning words own (Err now) why same is (inr fault) =
    inr (
      is ∙ fault.0,
      none_taken app meaning words (is_empty (fault_of app words)) refl
          (λ none. fault.1 (ap (λ it. fault_of it words) same ∙ none)),
    )

-- clap's contract is exact of each row of the table
all-simple : list_all (λ verb. is_simple_and_free (verb_app verb)) verbs ≡ true
unfolding clap_on_literals verb_app
all-simple = refl

-- what holds of each command holds of the one that is found
found-has : (test has : Verb → Bool) (list : List Verb) (verb : Verb) → find test list ≡ Some verb → list_all has list ≡ true
    → has verb ≡ true
found-has test has [] verb found all = absurd (cc)
found-has test has (first ∷ rest) verb found all = go (found-has test has rest verb) (test first) refl
  where
    go : (find test rest ≡ Some verb → list_all has rest ≡ true → has verb ≡ true) → (is : Bool) → test first ≡ is → has verb ≡ true
    go later true is =
        let same = subst (λ (b : Bool). (if b then Some first else find test rest) ≡ Some verb) is found in
        subst (λ it. has it ≡ true) (same_Some first verb same) (both _ _ all).0
    go later false is =
        later (subst (λ (b : Bool). (if b then Some first else find test rest) ≡ Some verb) is found) (both _ _ all).1

-- so it is of the one that a word names
pub named_simple : (threads : Bool) (name : Text) (verb : Verb) → Some verb ≡ verb_named threads name
    → is_simple_and_free (verb_app verb) ≡ true
named_simple threads name verb named =
    found-has (is_named threads name) (λ it. is_simple_and_free (verb_app it)) verbs verb (sym named) all-simple

-- an argument leaves the command what it is
argument-verb : (rows : Found) (command : Command) (argument : Argument) → (with_argument rows command argument).verb ≡ command.verb
argument-verb rows command (File source) = refl
argument-verb rows command (FileIf source) = refl
argument-verb rows command Number = refl
argument-verb rows command At = refl
argument-verb rows command Tail = refl
argument-verb rows command Report = refl

arguments-verb : (rows : Found) (arguments : List Argument) (command : Command)
    → (fold (with_argument rows) command arguments).verb ≡ command.verb
arguments-verb rows [] command = refl
arguments-verb rows (argument ∷ rest) command =
    arguments-verb rows rest (with_argument rows command argument) ∙ argument-verb rows command argument

-- a command is that of its row
pub meant-verb : (verb : Verb) (rows : Found) → (command_meant verb rows).verb ≡ verb
unfolding command_meant
meant-verb verb rows = arguments-verb rows (arguments_of verb) (bare_command verb)
