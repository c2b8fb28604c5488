-- No two rows of a keyring say the same.
use Rattle.std.proofs.Common.{◌≡◌, ℕ, List, Result, Ok, Err, refl}
use Rattle.tag_text.specs.declared.tag.Tag.{Tag}
use Rattle.key_tables.specs.declared.types.Row.{Row}
use Rattle.key_tables.specs.Build.{NoneTwice}
use Rattle.keyring_reader.specs.declared.fault.KeyringFault.{KeyringFault}
use Rattle.keyring_reader.specs.Chain.{◌>>=◌}
use Rattle.keyring_reader.specs.Contents.{contents_of}
use Rattle.keyring_reader.specs.Keys.{password_key}
use Rattle.keyring_reader.specs.Keyring.{stamps_of, wrapping_of, tags_of, keyring_under, keyring_of}
use Rattle.keyring_reader.specs.Roles.{rows_of}
use Rattle.keyring_reader.proofs.OnceLemmas.{rows_once}

both_right : {A B : Type 0} (found : Result A KeyringFault) (next : A → Result B KeyringFault) (y : B)
    → (found >>= next) ≡ Ok y → (x : A) × (found ≡ Ok x) × (next x ≡ Ok y)
both_right (Ok x) next y is = (x, refl, is)
both_right (Err why) next y is = absurd cc

ok_is : {A : Type 0} (x y : A) (found : Result A KeyringFault) → found ≡ Ok x → found ≡ Ok y → y ≡ x
ok_is x y found is also = cc

under_once : (key : List ℕ) (tags : List Tag) (rows : List Row) → keyring_under key tags ≡ Ok rows → NoneTwice rows
unfolding keyring_under
under_once key tags rows is =
    let stamps = both_right (stamps_of tags) _ rows is in
    let under = both_right (wrapping_of key tags stamps.0) _ rows stamps.2 in
    let contents = both_right (contents_of under.0 tags) _ rows under.2 in
    rows_once under.0 tags contents.0 rows contents.1
    (ok_is (rows_of contents.0) rows (Ok (rows_of contents.0)) refl contents.2)

pub keyring_once : (octets password : List ℕ) (rows : List Row) → keyring_of octets password ≡ Ok rows
    → NoneTwice rows
unfolding keyring_of
keyring_once octets password rows is =
    let tags = both_right (tags_of octets) (keyring_under (password_key password)) rows is in
    under_once (password_key password) tags.0 rows tags.2
