use Rattle.std.proofs.Common.{get_or, ap, ◌∙◌, sym, List}
use Rattle.std.specs.BTreeSet.{insert_key}
use Rattle.std.proofs.lemmas.List.Sums.{fold_more}
use Rattle.knx_base.specs.declared.address.IndAddr.{IndAddr}
use Rattle.keyring_reader.specs.Roles.{by_device}
use Rattle.keyring_reader.proofs.gathered.insert_all.Goals as goal

pub devices-preserved : goal.devices-preserved
devices-preserved c =
    let first : IndAddr = record { 0 = 0 } in
    let devices : List IndAddr = c.args.devices.now in
    c.in_ok-insert.ensures.keys
    ∙ ap (λ (keys : List IndAddr). insert_key by_device keys (get_or devices c.devices.device-index first))
    c.devices.invariant
    ∙ sym (fold_more (insert_key by_device) c.args.set.now.keys devices c.devices.device-index first
    c.devices-test.true)
