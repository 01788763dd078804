-- The first fault of a list of faults.
use Rattle.std.proofs.Common.{◌≡◌, ℕ, List, [], ◌∷◌, ◌++◌, Some, None, Result, Ok, Err, IfOk, IfErr, OnOk, map, refl, ap, sym, ◌∙◌}
use Rattle.std.specs.Result.{IsErrAnd}
use Rattle.system_file.specs.SystemFile.{described_by, document_of, faults_of, judged, system_of}
use Rattle.toml.specs.Data.{Members}
use Rattle.system_file.specs.declared.system.System.{System}
use Rattle.system_file.specs.SystemParts.{IsFirstSystemFault, first_fault, first_key}
use Rattle.system_file.specs.declared.system_fault.SystemFault.{SystemFault}
use Rattle.system_file.specs.declared.system_fault.SystemFault.TheVariants.{Key, Memory, Toml}

still_first : (front rest : List SystemFault) (fault : SystemFault) → first_fault front ≡ Some fault → first_fault (front ++ rest) ≡ Some fault
still_first [] rest fault e = absurd (cc)
still_first (other ∷ front) rest fault e = e

-- the first of a front is the first of the whole
pub first_in_front : (front rest : List SystemFault) (fault : SystemFault) → IsFirstSystemFault front fault → IsFirstSystemFault (front ++ rest) fault
first_in_front front rest fault is = record { first = λ other. still_first front rest fault (is.first other) }

-- the first of what stands behind nothing is the first of the whole
pub first_behind : (front rest : List SystemFault) (fault : SystemFault) → front ≡ [] → IsFirstSystemFault rest fault → IsFirstSystemFault (front ++ rest) fault
first_behind [] rest fault none is = is
first_behind (other ∷ front) rest fault none is = absurd (cc)

-- a fault that is handed on is still the first one
pub handed-on : {A : Type 0} (faults : List SystemFault) (result : Result A SystemFault) (fault : SystemFault)
    → IsErrAnd result (λ now. now ≡ fault) → IsFirstSystemFault faults fault → IfErr result (IsFirstSystemFault faults)
handed-on faults (Ok value) fault same is = absurd same
handed-on faults (Err now) fault same is = rw same is

first_is_judged : (faults : List SystemFault) (system : System) (fault : SystemFault) → IsFirstSystemFault faults fault → (fault ≡ Memory → ⊥) → judged faults system ≡ Err fault
first_is_judged [] system fault is other = absurd (let none = is.first other in cc)
first_is_judged (first ∷ rest) system fault is other = let same : Some first ≡ Some fault = is.first other in cc

-- the first fault of a document is the answer
pub document_fault : (bytes : List ℕ) (document : Members) (fault : SystemFault)
    → document_of bytes ≡ Some document → IsFirstSystemFault (faults_of document) fault → (fault ≡ Memory → ⊥) → system_of bytes ≡ Err fault
unfolding system_of
document_fault bytes document fault e is other = rw e (first_is_judged (faults_of document) (described_by document) fault is other)

-- where nothing is wrong, the system is the answer
described : (bytes : List ℕ) (document : Members) (system : System)
    → document_of bytes ≡ Some document → faults_of document ≡ [] → system ≡ described_by document → system_of bytes ≡ Ok system
unfolding system_of
described bytes document system e none is = rw e (ap (λ (faults : List SystemFault). judged faults (described_by document)) none ∙ ap Ok (sym is))

pub read_described : (bytes : List ℕ) (document : Members) (read : Result System SystemFault) → document_of bytes ≡ Some document
    → OnOk read (faults_of document ≡ []) → IfOk read (λ system. system ≡ described_by document) → IfOk read (λ system. system_of bytes ≡ Ok system)
read_described bytes document (Ok system) e none is = described bytes document system e none is
read_described bytes document (Err fault) e none is = is

-- bytes that write no document
pub no_document : (bytes : List ℕ) → document_of bytes ≡ None → system_of bytes ≡ Err Toml
unfolding system_of
no_document bytes none = rw none refl

-- no key is unknown, so nothing is wrong with the keys
pub none_unknown : (before : List ℕ) (keys : List (List ℕ)) → first_key keys ≡ None → map (λ key. Key (before ++ key)) keys ≡ []
none_unknown before [] e = refl
none_unknown before (key ∷ keys) e = absurd (cc)

-- the first unknown key is the first fault
pub first_unknown : (before : List ℕ) (keys : List (List ℕ)) (key : List ℕ) (fault : SystemFault)
    → first_key keys ≡ Some key → ((rest : List SystemFault) → IsFirstSystemFault (Key (before ++ key) ∷ rest) fault) → IsFirstSystemFault (map (λ key. Key (before ++ key)) keys) fault
first_unknown before [] key fault e is = absurd (cc)
first_unknown before (other ∷ keys) key fault e is =
    let same : Key (before ++ other) ≡ Key (before ++ key) = cc in
    record { first = λ no. rw same ((is []).first no) }
