-- What a system file means. It is a TOML document; the rows below are the table of its paths, in its order. A file is
-- taken where nothing is wrong with it: `faults_of` lists all that is wrong, in the order in which it is looked for,
-- and the first of these is the answer.
use Rattle.std.specs.Prelude.{◌≡◌, ℕ, ◌+◌, ◌-◌, ◌<◌, ◌≤◌, ◌&&◌, not, pos, Bool, false}
use Rattle.std.specs.Prelude.{if◌then◌else◌, nat_eq, nat_le, List, [], ◌∷◌, ◌++◌, map, take, All}
use Rattle.std.specs.Prelude.{Option, Some, None, is_some, is_none, unwrap_or, Result, Ok, Err, codes}
use Rattle.std.specs.Cmp.Lexicographic.{slice_cmp}
use Rattle.std.specs.Fmt.{decimal}
use Rattle.std.specs.List.{filter, flat_map, list_any}
use Rattle.std.specs.Option.{option_or}
use Rattle.std.specs.Ordering.{is_lt, nat_cmp}
use Rattle.std.specs.Str.{bytes_eq, is_utf8}
use Rattle.profile.specs.Limits.{first_slots, greatest_horizon, greatest_identifier, least_asynchronous, longest_cycle}
use Rattle.profile.specs.Limits.{longest_turnaround, longest_window, most_nodes, most_slots, shortest_cycle, shortest_window}
use Rattle.toml.specs.Data.{Data, string, integer, array, table, Items, no_items, item, Members}
use Rattle.toml.specs.Data.{no_members, member, as_array, as_integer, as_str, as_table, get_member}
use Rattle.toml.specs.Parse.{parse_document}
use Rattle.cycle_layout.specs.Layout.{IsLayout, needed}
use Rattle.planner_policies.specs.declared.Fill.{Fill}
use Rattle.planner_policies.specs.declared.Fill.TheVariants.{Prefix, Skip}
use Rattle.planner_policies.specs.declared.Policy.{Policy}
use Rattle.planner_policies.specs.declared.Policy.TheVariants.{Rm, Dm, Edf}
use Rattle.async_window.specs.declared.request.Owner.{Owner}
use Rattle.async_window.specs.Owners.{AreOwners}
use Rattle.system_file.specs.declared.system.System.{System}
use Rattle.system_file.specs.declared.system_fault.SystemFault.{SystemFault}
use Rattle.system_file.specs.declared.system_fault.SystemFault.TheVariants.{Toml, Key, Range, Narrow}

-- the document that the bytes write, where they are TOML in UTF-8
abbrev pub document_of : List ℕ → Option Members
document_of bytes = if is_utf8 bytes then parse_document bytes else None

-- the least horizon, in elementary cycles
abbrev pub least_horizon : ℕ
least_horizon = 1

-- the table of paths

-- what stands at a key: an integer from a least to a greatest one, one of some integers, one of some texts, a table, or
-- an array
pub data Kind : Type 0 where
  whole : ℕ → ℕ → Kind
  either : List ℕ → Kind
  word : List (List ℕ) → Kind
  section : Kind
  series : Kind

-- a key of a table, what stands there, and what an absent key stands for; none where the key is needed
pub record Row : Type 0 where
  pub key : List ℕ
  pub kind : Kind
  pub default : Option Data

abbrev pub bus_row : Row
bus_row = record { key = codes "bus"; kind = section; default = None }

abbrev pub cycle_row : Row
cycle_row = record { key = codes "cycle"; kind = whole shortest_cycle longest_cycle; default = None }

abbrev pub turnaround_row : Row
turnaround_row = record {
  key = codes "turnaround";
  kind = whole 0 longest_turnaround;
  default = Some (integer (pos 0));
}

abbrev pub window_row : Row
window_row = record { key = codes "window"; kind = whole shortest_window longest_window; default = None }

abbrev pub nodes_row : Row
nodes_row = record { key = codes "nodes"; kind = whole 1 most_nodes; default = None }

abbrev pub slots_row : Row
slots_row = record {
  key = codes "slots";
  kind = either (first_slots ∷ most_slots ∷ []);
  default = Some (integer (pos first_slots));
}

abbrev pub bus_rows : List Row
bus_rows = cycle_row ∷ turnaround_row ∷ window_row ∷ nodes_row ∷ slots_row ∷ []

abbrev pub plan_row : Row
plan_row = record { key = codes "plan"; kind = section; default = Some (table no_members) }

abbrev pub policy_row : Row
policy_row = record {
  key = codes "policy";
  kind = word (codes "rm" ∷ codes "dm" ∷ codes "edf" ∷ []);
  default = Some (string (codes "rm"));
}

abbrev pub horizon_row : Row
horizon_row = record {
  key = codes "horizon";
  kind = whole least_horizon greatest_horizon;
  default = Some (integer (pos 10000));
}

abbrev pub fill_row : Row
fill_row = record {
  key = codes "fill";
  kind = word (codes "prefix" ∷ codes "skip" ∷ []);
  default = Some (string (codes "prefix"));
}

abbrev pub plan_rows : List Row
plan_rows = policy_row ∷ horizon_row ∷ fill_row ∷ []

abbrev pub async_row : Row
async_row = record { key = codes "async"; kind = series; default = Some (array no_items) }

-- identifiers are those of asynchronous frames, 0x200 to 0x7EF
abbrev pub id_row : Row
id_row = record { key = codes "id"; kind = whole least_asynchronous greatest_identifier; default = None }

abbrev pub node_row : ℕ → Row
node_row nodes = record { key = codes "node"; kind = whole 0 (nodes - 1); default = None }

-- the number of nodes matters for ranges alone
abbrev pub element_rows : ℕ → List Row
element_rows nodes = id_row ∷ node_row nodes ∷ []

abbrev pub top_rows : List Row
top_rows = bus_row ∷ plan_row ∷ async_row ∷ []

-- what a document holds

abbrev pub list_of : Items → List Data
list_of no_items = []
list_of (item element rest) = element ∷ list_of rest

-- the table that a value is; an empty one where it is none
abbrev pub members_in : Option Data → Members
members_in (Some (table members)) = members
members_in _ = no_members

-- the elements of the array that a value is; none where it is no array
abbrev pub elements_in : Option Data → List Data
elements_in (Some (array items)) = list_of items
elements_in _ = []

-- the number that a value is; 0 where it is none
abbrev pub number_in : Option Data → ℕ
number_in (Some (integer (pos number))) = number
number_in _ = 0

-- the text that a value is; an empty one where it is none
abbrev pub text_in : Option Data → List ℕ
text_in (Some (string text)) = text
text_in _ = []

-- what stands at the key of a row, or what its absence stands for
abbrev pub value_of : Row → Members → Option Data
value_of row members = option_or (get_member row.key members) row.default

abbrev pub bus_of : Members → Members
bus_of document = members_in (value_of bus_row document)

abbrev pub plan_of : Members → Members
plan_of document = members_in (value_of plan_row document)

abbrev pub elements_of : Members → List Data
elements_of document = elements_in (value_of async_row document)

abbrev pub number_of : Row → Members → ℕ
number_of row members = number_in (value_of row members)

-- the keys in an element of `async`
abbrev pub element_of : Data → Members
element_of element = members_in (Some element)

abbrev pub id_of : Data → ℕ
id_of element = number_of id_row (element_of element)

abbrev pub nodes_of : Members → ℕ
nodes_of document = number_of nodes_row (bus_of document)

-- what is wrong with a table; `before` is what stands in a path before its keys

abbrev pub keys_of : Members → List (List ℕ)
keys_of no_members = []
keys_of (member key value rest) = key ∷ keys_of rest

-- keys in byte order
abbrev pub insert_key : List ℕ → List (List ℕ) → List (List ℕ)
insert_key key [] = key ∷ []
insert_key key (other ∷ rest) =
    if is_lt (slice_cmp nat_cmp key other) then key ∷ other ∷ rest else other ∷ insert_key key rest

abbrev pub in_byte_order : List (List ℕ) → List (List ℕ)
in_byte_order [] = []
in_byte_order (key ∷ rest) = insert_key key (in_byte_order rest)

abbrev pub is_among : List (List ℕ) → List ℕ → Bool
is_among keys key = list_any (bytes_eq key) keys

-- the keys of a table that are none of these, in byte order
abbrev pub unknown_keys : List (List ℕ) → Members → List (List ℕ)
unknown_keys known members = filter (λ key. not (is_among known key)) (in_byte_order (keys_of members))

abbrev pub unknown_in : List ℕ → List (List ℕ) → Members → List SystemFault
unknown_in before known members = map (λ key. Key (before ++ key)) (unknown_keys known members)

abbrev pub is_integer : Data → Bool
is_integer value = is_some (as_integer value)

abbrev pub is_text : Data → Bool
is_text value = is_some (as_str value)

abbrev pub is_table : Data → Bool
is_table value = is_some (as_table value)

abbrev pub is_array : Data → Bool
is_array value = is_some (as_array value)

abbrev pub is_of : Kind → Data → Bool
is_of (whole low high) = is_integer
is_of (either numbers) = is_integer
is_of (word words) = is_text
is_of section = is_table
is_of series = is_array

-- what is wrong with what is found at the key of this path, which is to be of this kind
abbrev pub kind_fault : List ℕ → (Data → Bool) → Bool → Option Data → List SystemFault
kind_fault path is_kind is_needed None = if is_needed then Key path ∷ [] else []
kind_fault path is_kind is_needed (Some value) = if is_kind value then [] else Key path ∷ []

-- a key that is needed and missing, or at which another kind stands
abbrev pub kind_at : List ℕ → Members → Row → List SystemFault
kind_at before members row =
    kind_fault (before ++ row.key) (is_of row.kind) (is_none row.default) (get_member row.key members)

abbrev pub is_whole_from : ℕ → ℕ → Data → Bool
is_whole_from low high (integer (pos number)) = nat_le low number && nat_le number high
is_whole_from low high _ = false

abbrev pub is_one_of : List ℕ → Data → Bool
is_one_of numbers (integer (pos number)) = list_any (nat_eq number) numbers
is_one_of numbers _ = false

abbrev pub is_word_of : List (List ℕ) → Data → Bool
is_word_of words (string text) = is_among words text
is_word_of words _ = false

abbrev pub is_in_range : Kind → Data → Bool
is_in_range (whole low high) = is_whole_from low high
is_in_range (either numbers) = is_one_of numbers
is_in_range (word words) = is_word_of words
is_in_range section = is_table
is_in_range series = is_array

-- what is wrong with the value of the key of this path, which is to pass the test
abbrev pub range_fault : List ℕ → (Data → Bool) → Option Data → List SystemFault
range_fault path test None = Range path ∷ []
range_fault path test (Some value) = if test value then [] else Range path ∷ []

-- a key whose value is out of its range
abbrev pub range_at : List ℕ → Members → Row → List SystemFault
range_at before members row = range_fault (before ++ row.key) (is_in_range row.kind) (value_of row members)

-- what is wrong with each element of a list, the first of which has this place
abbrev pub from_place : (ℕ → Data → List SystemFault) → ℕ → List Data → List SystemFault
from_place faults place [] = []
from_place faults place (element ∷ rest) = faults place element ++ from_place faults (place + 1) rest

-- the path of an element of `async`, and what stands in a path before its keys
abbrev pub element_path : ℕ → List ℕ
element_path place = codes "async." ++ decimal place

abbrev pub in_element : ℕ → List ℕ
in_element place = codes "async." ++ decimal place ++ codes "."

-- what is wrong with a document

abbrev pub keys_in_rows : List Row → List (List ℕ)
keys_in_rows rows = map (λ row. row.key) rows

abbrev pub unknown_in_element : ℕ → Data → List SystemFault
unknown_in_element place element = unknown_in (in_element place) (keys_in_rows (element_rows 1)) (element_of element)

-- the keys that are not in the table of paths: at the top, in `bus`, in `plan`, and in each element of `async`
abbrev pub unknown_faults : Members → List SystemFault
unknown_faults document =
    unknown_in [] (keys_in_rows top_rows) document
    ++ unknown_in (codes "bus.") (keys_in_rows bus_rows) (bus_of document)
    ++ unknown_in (codes "plan.") (keys_in_rows plan_rows) (plan_of document)
    ++ from_place unknown_in_element 0 (elements_of document)

-- an element that is no table
abbrev pub table_fault : ℕ → Data → List SystemFault
table_fault place element = if is_table element then [] else Key (element_path place) ∷ []

abbrev pub kinds_in_element : ℕ → Data → List SystemFault
kinds_in_element place element =
    table_fault place element
    ++ flat_map (kind_at (in_element place) (element_of element)) (element_rows 1)

-- the keys that are missing, or at which another kind stands, in the order of the table of paths
abbrev pub kind_faults : Members → List SystemFault
kind_faults document =
    kind_at [] document bus_row ++ flat_map (kind_at (codes "bus.") (bus_of document)) bus_rows
    ++ kind_at [] document plan_row ++ flat_map (kind_at (codes "plan.") (plan_of document)) plan_rows
    ++ kind_at [] document async_row ++ from_place kinds_in_element 0 (elements_of document)

-- an identifier that stands among the earlier ones
abbrev pub repeated_fault : List ℕ → List ℕ → ℕ → List SystemFault
repeated_fault before earlier id = if list_any (nat_eq id) earlier then Range (before ++ id_row.key) ∷ [] else []

-- the values of an element that are out of range; `earlier` are the identifiers of the elements before it
abbrev pub ranges_in_element : ℕ → List ℕ → ℕ → Data → List SystemFault
ranges_in_element nodes earlier place element =
    range_at (in_element place) (element_of element) id_row
    ++ repeated_fault (in_element place) earlier (id_of element)
    ++ range_at (in_element place) (element_of element) (node_row nodes)

-- the same of an element among others with these identifiers
abbrev pub ranges_among : ℕ → List ℕ → ℕ → Data → List SystemFault
ranges_among nodes ids place element = ranges_in_element nodes (take place ids) place element

-- the values that are out of range, in the same order
abbrev pub range_faults : Members → List SystemFault
range_faults document =
    flat_map (range_at (codes "bus.") (bus_of document)) bus_rows
    ++ flat_map (range_at (codes "plan.") (plan_of document)) plan_rows
    ++ from_place (ranges_among (nodes_of document) (map id_of (elements_of document))) 0 (elements_of document)

-- a cycle without room for the trigger part, the turnaround and the largest synchronous window
abbrev pub narrow_at : ℕ → ℕ → List SystemFault
narrow_at need have = if nat_le need have then [] else Narrow need have ∷ []

abbrev pub narrow_faults : Members → List SystemFault
narrow_faults document =
    narrow_at (needed (number_of turnaround_row (bus_of document)) (number_of window_row (bus_of document))
    (number_of slots_row (bus_of document)))
    (number_of cycle_row (bus_of document))

-- all that is wrong, in the order in which it is looked for
abbrev pub faults_of : Members → List SystemFault
faults_of document = unknown_faults document ++ kind_faults document ++ range_faults document ++ narrow_faults document

-- the system that a document describes, where nothing is wrong with it

-- the policy of this name
abbrev pub policy_named : List ℕ → Option Policy
policy_named text =
    if bytes_eq text (codes "rm") then Some Rm
    else if bytes_eq text (codes "dm") then Some Dm
    else if bytes_eq text (codes "edf") then Some Edf
    else None

-- the policy of this name; rate monotonic where it is none
abbrev pub policy_of : List ℕ → Policy
policy_of text = unwrap_or (policy_named text) Rm

-- the filling of this name
abbrev pub fill_named : List ℕ → Option Fill
fill_named text =
    if bytes_eq text (codes "prefix") then Some Prefix
    else if bytes_eq text (codes "skip") then Some Skip
    else None

-- the filling of this name; `Prefix` where it is none
abbrev pub fill_of : List ℕ → Fill
fill_of text = unwrap_or (fill_named text) Prefix

abbrev pub owner_of : Data → Owner
owner_of element = record { id = id_of element; node = number_of (node_row 1) (element_of element) }

abbrev pub described_by : Members → System
described_by document = record {
  layout = record {
    cycle = number_of cycle_row (bus_of document);
    turnaround = number_of turnaround_row (bus_of document);
    window = number_of window_row (bus_of document);
    slots = number_of slots_row (bus_of document);
  };
  rules = record {
    nodes = nodes_of document;
    slots = number_of slots_row (bus_of document);
    policy = policy_of (text_in (value_of policy_row (plan_of document)));
    fill = fill_of (text_in (value_of fill_row (plan_of document)));
    window = number_of window_row (bus_of document);
    horizon = number_of horizon_row (plan_of document);
  };
  owners = map owner_of (elements_of document);
}

-- the system, where nothing is wrong, and else the first fault
abbrev pub judged : List SystemFault → System → Result System SystemFault
judged [] system = Ok system
judged (fault ∷ rest) system = Err fault

abbrev pub system_of_document : Members → Result System SystemFault
system_of_document document = judged (faults_of document) (described_by document)

-- what a reading of bytes means: bytes that write no document are a fault of their own
abbrev pub system_of_reading : Option Members → Result System SystemFault
system_of_reading None = Err Toml
system_of_reading (Some document) = system_of_document document

-- what the bytes of a system file mean
unfoldable pub system_of : List ℕ → Result System SystemFault
system_of bytes = system_of_reading (document_of bytes)

-- what holds of a system: changes are judged for the window and the slots of its layout, and its owners are nodes of the
-- bus, each of an asynchronous identifier of its own
pub record IsSystem (system : System) : Type 0 where
  pub layout : IsLayout system.layout
  pub same_window : system.rules.window ≡ system.layout.window
  pub same_slots : system.rules.slots ≡ system.layout.slots
  pub some_nodes : 1 ≤ system.rules.nodes
  pub few_nodes : system.rules.nodes ≤ most_nodes
  pub some_horizon : least_horizon ≤ system.rules.horizon
  pub near_horizon : system.rules.horizon ≤ greatest_horizon
  pub are_owners : AreOwners system.owners
  pub known_nodes : All (λ owner. owner.node < system.rules.nodes) system.owners
