-- The steps of reading a keyring, in their order.
use Rattle.std.proofs.Common.{◌≡◌, ℕ, List, Result, Ok, Err, sym, ap, subst, ◌∙◌}
use Rattle.tag_text.specs.declared.tag.Tag.{Tag}
use Rattle.key_tables.specs.declared.types.Row.{Row}
use Rattle.keyring_reader.specs.declared.fault.KeyringFault.{KeyringFault}
use Rattle.keyring_reader.specs.declared.keys.Wrapping.{Wrapping}
use Rattle.keyring_reader.specs.Chain.{◌>>=◌}
use Rattle.keyring_reader.specs.Contents.{Contents, contents_of}
use Rattle.keyring_reader.specs.Keys.{password_key}
use Rattle.keyring_reader.specs.Roles.{rows_of}
use Rattle.keyring_reader.specs.Keyring.{Stamps, stamps_of, wrapping_of, tags_of, keyring_under, keyring_of, IsFault}
use Rattle.keyring_reader.proofs.FaultLemmas.{is_fault}
use Rattle.keyring_reader.proofs.ContentsLemmas.{first_fault}

-- the steps after the stamps, and those after the wrapping
abbrev rows_in : Wrapping → List Tag → Result (List Row) KeyringFault
rows_in under tags = contents_of under tags >>= (λ contents. Ok (rows_of contents))

abbrev rows_for : List ℕ → List Tag → Stamps → Result (List Row) KeyringFault
rows_for key tags stamps = wrapping_of key tags stamps >>= (λ under. rows_in under tags)

with_stamps : (key : List ℕ) (tags : List Tag) (stamps : Stamps) → stamps_of tags ≡ Ok stamps
    → keyring_under key tags ≡ rows_for key tags stamps
unfolding keyring_under
with_stamps key tags stamps is = ap (λ (r : Result Stamps KeyringFault). r >>= rows_for key tags) is

with_wrapping : (key : List ℕ) (tags : List Tag) (stamps : Stamps) (under : Wrapping) → stamps_of tags ≡ Ok stamps
    → wrapping_of key tags stamps ≡ Ok under
    → keyring_under key tags ≡ rows_in under tags
with_wrapping key tags stamps under stamps_are is =
    with_stamps key tags stamps stamps_are ∙ ap (λ (r : Result Wrapping KeyringFault). r >>= (λ u. rows_in u tags)) is

pub no_stamps : (key : List ℕ) (tags : List Tag) (why : KeyringFault) → stamps_of tags ≡ Err why
    → IsFault why (keyring_under key tags)
unfolding keyring_under
no_stamps key tags why is = is_fault why _ (ap (λ (r : Result Stamps KeyringFault). r >>= rows_for key tags) is)

pub no_wrapping : (key : List ℕ) (tags : List Tag) (stamps : Stamps) (why : KeyringFault) → stamps_of tags ≡ Ok stamps
    → IsFault why (wrapping_of key tags stamps)
    → IsFault why (keyring_under key tags)
no_wrapping key tags stamps why is refused =
    subst (λ (found : Result (List Row) KeyringFault). IsFault why found) (sym (with_stamps key tags stamps is))
    (first_fault why (wrapping_of key tags stamps) (λ under. rows_in under tags) refused)

pub no_contents : (key : List ℕ) (tags : List Tag) (stamps : Stamps) (under : Wrapping) (why : KeyringFault)
    → stamps_of tags ≡ Ok stamps
    → wrapping_of key tags stamps ≡ Ok under → IsFault why (contents_of under tags)
    → IsFault why (keyring_under key tags)
no_contents key tags stamps under why stamps_are is refused =
    subst (λ (found : Result (List Row) KeyringFault). IsFault why found)
    (sym (with_wrapping key tags stamps under stamps_are is))
    (first_fault why (contents_of under tags) (λ contents. Ok (rows_of contents)) refused)

pub all_rows : (key : List ℕ) (tags : List Tag) (stamps : Stamps) (under : Wrapping) (contents : Contents)
    (rows : List Row) → stamps_of tags ≡ Ok stamps
    → wrapping_of key tags stamps ≡ Ok under → contents_of under tags ≡ Ok contents → rows ≡ rows_of contents
    → keyring_under key tags ≡ Ok rows
all_rows key tags stamps under contents rows stamps_are under_is contents_are is =
    with_wrapping key tags stamps under stamps_are under_is
    ∙ ap (λ (r : Result Contents KeyringFault). r >>= (λ c. Ok (rows_of c))) contents_are
    ∙ ap (λ (all : List Row). Ok all) (sym is)

pub no_tags : (octets password : List ℕ) (why : KeyringFault) → IsFault why (tags_of octets)
    → IsFault why (keyring_of octets password)
unfolding keyring_of
no_tags octets password why refused =
    first_fault why (tags_of octets) (λ tags. keyring_under (password_key password) tags) refused

pub of_tags : (octets password : List ℕ) (tags : List Tag) → tags_of octets ≡ Ok tags
    → keyring_of octets password ≡ keyring_under (password_key password) tags
unfolding keyring_of
of_tags octets password tags is =
    ap (λ (r : Result (List Tag) KeyringFault). r >>= (λ t. keyring_under (password_key password) t)) is
