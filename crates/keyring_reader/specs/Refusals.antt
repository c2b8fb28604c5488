-- Why an element of a keyring is refused, and which refusal is told. This is statement.
use Rattle.std.specs.Prelude.{◌≡◌, ℕ, if◌then◌else◌, Bool, List, [], ◌∷◌, ◌++◌, codes, Option, Some, None}
use Rattle.std.specs.Option.{is_some}
use Rattle.std.specs.List.{All, list_all}
use Rattle.key_tables.specs.First.{first_of}
use Rattle.key_tables.specs.Rows.{has_key}
use Rattle.key_tables.specs.declared.types.Channel.{Channel}
use Rattle.key_tables.specs.declared.types.Row.{Row}
use Rattle.keyring_reader.specs.declared.attribute.Attribute.{Attribute}
use Rattle.keyring_reader.specs.declared.attribute.Attribute.TheVariants.{Address, Key, IndividualAddress}
use Rattle.keyring_reader.specs.declared.fault.KeyringFault.{KeyringFault}
use Rattle.keyring_reader.specs.declared.fault.KeyringFault.TheVariants as fault
use Rattle.keyring_reader.specs.declared.keys.Wrapping.{Wrapping}
use Rattle.keyring_reader.specs.declared.kind.Kind.{Kind}
use Rattle.keyring_reader.specs.declared.kind.Kind.TheVariants as kind
use Rattle.keyring_reader.specs.Attributes.{name_of}
use Rattle.keyring_reader.specs.Kinds.{device_named}
use Rattle.keyring_reader.specs.Elements.{Element, text_of, group_in, device_in, key_in, sender_words, channel_of, key_rows}

-- ---- each cause by itself: the fault where it holds, and else none

-- the fault, where there is none of these
abbrev pub if_none : {A : Type 0} → Option A → KeyringFault → Option KeyringFault
if_none None why = Some why
if_none (Some x) why = None

abbrev pub lacks : Attribute → Element → Option KeyringFault
lacks attribute element = if_none (text_of (name_of attribute) element) (fault.Missing attribute element.place)

abbrev pub no_group : Element → Option KeyringFault
no_group element = if_none (group_in element) (fault.Address element.place)

abbrev pub no_device : Element → Option KeyringFault
no_device element = if_none (device_in element) (fault.Address element.place)

abbrev pub is_device : List ℕ → Bool
is_device word = is_some (device_named word)

-- a word of its senders is no address
abbrev pub no_senders : Element → Option KeyringFault
no_senders element = if list_all is_device (sender_words element) then None else Some (fault.Address element.place)

abbrev pub no_key : Wrapping → List ℕ → Element → Option KeyringFault
no_key under name element = if_none (key_in under name element) (fault.Key element.place)

-- one of the key rows is of the channel
abbrev pub if_keyed : List Row → Option Channel → KeyringFault → Option KeyringFault
if_keyed rows None why = None
if_keyed rows (Some channel) why = if has_key rows channel then Some why else None

-- an element before it has a key of its channel
abbrev pub repeats : Wrapping → List Element → Kind → Element → Option KeyringFault
repeats under before kind element =
    if_keyed (key_rows under before) (channel_of kind element) (fault.Twice element.place)

-- ---- the causes of an element, in their order

-- these, where there is one of those
abbrev pub where_there : {A B : Type 0} → Option A → List B → List B
where_there None causes = []
where_there (Some x) causes = causes

-- the causes for which an element of each kind may be refused, right after these. An interface is asked for nothing but
-- the address that it has, and a device for nothing where it has no tool key
abbrev pub causes_of : Kind → Wrapping → List Element → Element → List (Option KeyringFault)
causes_of (kind.Interface own) under before element =
    where_there (text_of (codes "IndividualAddress") element) (no_device element ∷ [])
causes_of (kind.Listing own) under before element =
    lacks Address element ∷ no_group element ∷ no_senders element ∷ []
causes_of kind.GroupKey under before element =
    lacks Address element ∷ lacks Key element ∷ no_group element ∷ no_key under (codes "Key") element
    ∷ repeats under before kind.GroupKey element ∷ []
causes_of kind.Device under before element =
    where_there (text_of (codes "ToolKey") element)
    (lacks IndividualAddress element ∷ no_device element ∷ no_key under (codes "ToolKey") element
    ∷ repeats under before kind.Device element ∷ [])
causes_of _ under before element = []

-- the first that holds
abbrev pub first_cause : List (Option KeyringFault) → Option KeyringFault
first_cause [] = None
first_cause (None ∷ causes) = first_cause causes
first_cause (Some why ∷ causes) = Some why

abbrev pub causes : Wrapping → List Element → Element → List (Option KeyringFault)
causes under before element = causes_of element.kind under before element

-- why an element is refused right after these, if it is
abbrev pub element_fault : Wrapping → List Element → Element → Option KeyringFault
element_fault under before element = first_cause (causes under before element)

-- ---- the refusal of a whole document

-- the fault of the first element that is refused, right after those before it
unfoldable pub first_refusal : Wrapping → List Element → Option KeyringFault
first_refusal under elements = first_of (element_fault under) [] elements

-- none of the elements is refused, right after those before it
abbrev pub NoneRefused : Wrapping → List Element → Type 0
NoneRefused under elements = (before after : List Element) (element : Element) → elements ≡ before ++ element ∷ after
    → All (λ cause. cause ≡ None) (causes under before element)

-- the fault is the first of these causes that holds
pub record IsFirstCause (found : List (Option KeyringFault)) (why : KeyringFault) : Type 0 where
  pub passed : List (Option KeyringFault)
  pub later : List (Option KeyringFault)
  pub in_order : found ≡ passed ++ Some why ∷ later
  pub none_before : All (λ cause. cause ≡ None) passed

-- The first element that is refused: none before it is, and the fault is the first of its causes that holds.
pub record IsFirstRefusal (under : Wrapping) (elements : List Element) (why : KeyringFault) : Type 0 where
  pub before : List Element
  pub element : Element
  pub after : List Element
  pub in_order : elements ≡ before ++ element ∷ after
  pub none_before : NoneRefused under before
  pub refused : IsFirstCause (causes under before element) why
