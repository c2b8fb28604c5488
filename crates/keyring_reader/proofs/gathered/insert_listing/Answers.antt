use Rattle.std.proofs.Common.{◌≡◌, fold, [], ap, sym, ◌∙◌}
use Rattle.std.specs.Option.{option_map, unwrap_or}
use Rattle.std.specs.BTreeMap as tree
use Rattle.std.specs.BTreeSet.{keys, insert_key}
use Rattle.keyring_reader.specs.Roles.{by_group, by_device}
use Rattle.keyring_reader.proofs.ListedLemmas.{more_listed}
use Rattle.keyring_reader.proofs.gathered.insert_listing.Goals.{in-Some, in-None}
use Rattle.keyring_reader.proofs.gathered.insert_listing.Goals as goal

pub returns : goal.returns
returns c = λ listings are.
    let found : c.match-remove.set.keys ≡ unwrap_or (option_map keys
    (tree.get by_group c.args.senders.now c.args.listing.now.group)) [] =
    elim c.match-remove.branch [
      | in-Some w ↦ ap keys w.set-is ∙ ap (λ o. unwrap_or (option_map keys o) [])
          (sym w.in-Some.is ∙ c.remove.ensures.value)
      | in-None w ↦ ap keys w.set-is ∙ w.new-set.ensures.empty
          ∙ ap (λ o. unwrap_or (option_map keys o) []) (sym w.in-None.is ∙ c.remove.ensures.value)
    ] in
    more_listed c.args.senders.now c.remove.new.self c.insert.new.self listings c.args.listing.now c.match-remove.set
    c.insert_all.new.set are
    found (c.in_ok-insert_all.ensures ∙ ap (fold (insert_key by_device) c.match-remove.set.keys) c.as_slice.ensures)
    c.remove.ensures.updates.0
    c.in_ok-insert.ensures.updates.0
