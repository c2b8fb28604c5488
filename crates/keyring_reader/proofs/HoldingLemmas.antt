-- One more key.
use Rattle.std.proofs.Common.{◌≡◌, ◌==◌, ℕ, Bool, true, false, cond, not, ◌||◌, List, [], ◌∷◌, ◌++◌, Ok, Err, refl, sym, ap, ◌∙◌, append-nil, filter_map, fold, Vec}
use Rattle.std.specs.declared.alloc.Global.{Global}
use Rattle.std.specs.Ordering.{is_eq}
use Rattle.std.specs.BTreeSet.{BTreeSet, insert_key, contains}
use Rattle.std.proofs.lemmas.Bool.{eqb-true, eq-eqb}
use Rattle.std.proofs.lemmas.Grind.{fold-append}
use Rattle.std.proofs.lemmas.List.Elements.{filter_map-append}
use Rattle.std.proofs.lemmas.List.Folds.{list_any-append}
use Rattle.knx_base.specs.declared.address.GroupAddr.{GroupAddr}
use Rattle.knx_base.specs.declared.address.IndAddr.{IndAddr}
use Rattle.key_tables.specs.declared.types.Channel.{Channel}
use Rattle.key_tables.specs.declared.types.Channel.TheVariants as channel
use Rattle.key_tables.specs.declared.types.Level.TheVariants.{Auth}
use Rattle.key_tables.specs.declared.types.Row.{Row}
use Rattle.key_tables.specs.declared.types.Row.TheVariants as row
use Rattle.key_tables.specs.Rows.{is_key_row, has_key}
use Rattle.keyring_reader.specs.declared.gathered.Gathered.{Gathered}
use Rattle.keyring_reader.specs.declared.fault.KeyringFault.TheVariants as fault
use Rattle.keyring_reader.specs.Contents.{Contents}
use Rattle.keyring_reader.specs.Saying.{with_key}
use Rattle.keyring_reader.specs.Roles.{ascending, keyed_group, keyed_device, by_group, by_device}
use Rattle.keyring_reader.specs.Holding.{Holds}
use Rattle.keyring_reader.proofs.ListedLemmas.{or_false, is_eq-nat_cmp}

either_or : (here known : Bool) → cond here true known ≡ (known || (here || false))
either_or true true = refl
either_or true false = refl
either_or false true = refl
either_or false false = refl

both_ways : (left right : Bool) (a b : ℕ) → (a == b) ≡ left → (b == a) ≡ right → left ≡ right
both_ways true true a b l r = refl
both_ways false false a b l r = refl
both_ways true false a b l r = sym (eq-eqb b a (sym (eqb-true a b l))) ∙ r
both_ways false true a b l r = sym (sym (eq-eqb a b (sym (eqb-true b a r))) ∙ l)

pub eqb-comm : (a b : ℕ) → (a == b) ≡ (b == a)
eqb-comm a b = both_ways (a == b) (b == a) a b refl refl

known_more : (rows : List Row) (row : Row) (channel : Channel)
    → has_key (rows ++ row ∷ []) channel ≡ (has_key rows channel || (is_key_row channel row || false))
known_more rows row channel = list_any-append (is_key_row channel) rows (row ∷ [])

pub not_known : (known added : Bool) → added ≡ not known → added ≡ true → known ≡ false
not_known true added is new = cc
not_known false added is new = refl

pub taken_once : (c : Contents) (place : ℕ) (channel : Channel) (row : Row) → has_key c.rows channel ≡ false
    → with_key c place channel row ≡ Ok (record { rows = c.rows ++ row ∷ []; listings = c.listings })
taken_once c place channel row none =
    ap (λ (b : Bool). cond b (Err (fault.Twice place)) (Ok (record {
      rows = c.rows ++ row ∷ [];
      listings = c.listings;
    }))) none

pub taken_twice : (c : Contents) (place : ℕ) (channel : Channel) (row : Row) → has_key c.rows channel ≡ true
    → with_key c place channel row ≡ Err (fault.Twice place)
taken_twice c place channel row some =
    ap (λ (b : Bool). cond b (Err (fault.Twice place)) (Ok (record {
      rows = c.rows ++ row ∷ [];
      listings = c.listings;
    }))) some

pub one_group : (g : Gathered) (rows : Vec Row Global) (groups : BTreeSet GroupAddr) (c : Contents) (group : GroupAddr)
    (key : List ℕ) → Holds g c
    → rows.items ≡ g.rows.items ++ row.Group group key Auth ∷ [] → groups.keys ≡ insert_key by_group g.groups.keys group
    → ((q : GroupAddr) → contains by_group groups q ≡ cond (is_eq (by_group group q)) true
    (contains by_group g.groups q))
    → Holds (record g { rows = rows; groups = groups }) (record {
      rows = c.rows ++ row.Group group key Auth ∷ [];
      listings = c.listings;
    })
unfolding ascending
one_group g rows groups c group key holds rows_are keys_are known = record {
  rows = rows_are ∙ ap (λ (front : List Row). front ++ row.Group group key Auth ∷ []) holds.rows;
  groups =
      keys_are ∙ ap (λ (keys : List GroupAddr). insert_key by_group keys group) holds.groups
      ∙ sym (ap (λ (all : List GroupAddr). fold (insert_key by_group) [] all)
      (filter_map-append keyed_group c.rows (row.Group group key Auth ∷ []))
      ∙ fold-append (insert_key by_group) [] (filter_map keyed_group c.rows) (group ∷ []));
  devices =
      holds.devices
      ∙ sym (ap (λ (all : List IndAddr). fold (insert_key by_device) [] all)
      (filter_map-append keyed_device c.rows (row.Group group key Auth ∷ [])
      ∙ append-nil (filter_map keyed_device c.rows)));
  group_known = λ q.
      known q
      ∙ ap (λ (here : Bool). cond here true (contains by_group g.groups q))
      (is_eq-nat_cmp group.0 q.0 ∙ eqb-comm group.0 q.0)
      ∙ ap (λ (before : Bool). cond (q.0 == group.0) true before) (holds.group_known q)
      ∙ either_or (q.0 == group.0) (has_key c.rows (channel.Group q))
      ∙ sym (known_more c.rows (row.Group group key Auth) (channel.Group q));
  device_known = λ q.
      holds.device_known q ∙ sym (known_more c.rows (row.Group group key Auth) (channel.Tool q)
      ∙ or_false (has_key c.rows (channel.Tool q)));
  listed = holds.listed;
}

pub one_device : (g : Gathered) (rows : Vec Row Global) (devices : BTreeSet IndAddr) (c : Contents) (device : IndAddr)
    (key : List ℕ) → Holds g c
    → rows.items ≡ g.rows.items ++ row.Tool device key ∷ [] → devices.keys ≡ insert_key by_device g.devices.keys device
    → ((q : IndAddr) → contains by_device devices q ≡ cond (is_eq (by_device device q)) true
    (contains by_device g.devices q))
    → Holds (record g { rows = rows; devices = devices }) (record {
      rows = c.rows ++ row.Tool device key ∷ [];
      listings = c.listings;
    })
unfolding ascending
one_device g rows devices c device key holds rows_are keys_are known = record {
  rows = rows_are ∙ ap (λ (front : List Row). front ++ row.Tool device key ∷ []) holds.rows;
  groups =
      holds.groups
      ∙ sym (ap (λ (all : List GroupAddr). fold (insert_key by_group) [] all)
      (filter_map-append keyed_group c.rows (row.Tool device key ∷ []) ∙ append-nil (filter_map keyed_group c.rows)));
  devices =
      keys_are ∙ ap (λ (keys : List IndAddr). insert_key by_device keys device) holds.devices
      ∙ sym (ap (λ (all : List IndAddr). fold (insert_key by_device) [] all)
      (filter_map-append keyed_device c.rows (row.Tool device key ∷ []))
      ∙ fold-append (insert_key by_device) [] (filter_map keyed_device c.rows) (device ∷ []));
  group_known = λ q.
      holds.group_known q ∙ sym (known_more c.rows (row.Tool device key) (channel.Group q)
      ∙ or_false (has_key c.rows (channel.Group q)));
  device_known = λ q.
      known q
      ∙ ap (λ (here : Bool). cond here true (contains by_device g.devices q))
      (is_eq-nat_cmp device.0 q.0 ∙ eqb-comm device.0 q.0)
      ∙ ap (λ (before : Bool). cond (q.0 == device.0) true before) (holds.device_known q)
      ∙ either_or (q.0 == device.0) (has_key c.rows (channel.Tool q))
      ∙ sym (known_more c.rows (row.Tool device key) (channel.Tool q));
  listed = holds.listed;
}
